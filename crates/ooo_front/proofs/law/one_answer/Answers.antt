use Rattle.ooo_front.proofs.Readings.{one_answer as one, some_answer}
use Rattle.ooo_front.proofs.law.one_answer.Goals as goal

pub returns-clause-one : goal.returns-clause-one
returns-clause-one c =
    one c.one_cutting.ensures.pieces c.one_breach.ensures.uncut c.one_answer.ensures c.one_breach-2.ensures.not_both
    c.one_breach.ensures.breach c.one_breach-2.ensures.breach

pub returns-clause-some : goal.returns-clause-some
returns-clause-some c = some_answer c.one_breach.ensures.either c.one_answer.ensures c.one_breach-2.ensures.either
