-- None before the one's stamp.
use Rattle.std.proofs.Common.{sym}
use Rattle.ooo_fronts.proofs.Timing.{none_behind}
use Rattle.ooo_fronts.proofs.holds.holds_of.Goals as goal

pub returns-then-is_before-clause-exact : goal.returns-then-is_before-clause-exact
returns-then-is_before-clause-exact c = let a = c.args in sym (none_behind a.tables.now a.g a.p a.f (c.is_before.ensures.0 c.if-is_before.true))
