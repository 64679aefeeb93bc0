use Rattle.std.proofs.Common.{◌≡◌, ◌-◌}
use Rattle.ooo_elaborate.specs.Bindings.{channel_behind}
use Rattle.ooo_elaborate.proofs.bindings.Links.channel_behind.Given as goal

abbrev pub invariant-turns : goal.invariant-turns
invariant-turns l = channel_behind (l.left - l.turn) l.self.ends l.end ≡ channel_behind l.left l.self.ends l.fn.from
