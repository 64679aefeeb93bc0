-- By its process and its clash.
use Rattle.std.proofs.Common.{◌∙◌}
use Rattle.ooo_fronts.proofs.Timing.{as_it_clashes_at_once}
use Rattle.ooo_fronts.proofs.holds.holds_at_once.Goals as goal

pub returns : goal.returns
returns c = let a = c.args in c.clashes_below.ensures ∙ as_it_clashes_at_once a.tables.now a._g a.p a.f a.b c.requires.same c.requires.leads.1
