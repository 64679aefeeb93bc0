use Rattle.ooo_parser.proofs.Beginnings.{beginnings_stay}
use Rattle.ooo_parser.proofs.law.beginnings_stay.Goals as goal

pub returns : goal.returns
returns c = beginnings_stay
