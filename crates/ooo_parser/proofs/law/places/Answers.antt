use Rattle.ooo_parser.proofs.Places.{symbols_stand}
use Rattle.ooo_parser.proofs.law.places.Goals as goal

pub returns : goal.returns
returns c = symbols_stand
