use Rattle.std.specs.Prelude.{length}
use Rattle.std.proofs.Common.{arith, ap}
use Rattle.ooo_scopes.proofs.Bindings.{count}
use Rattle.ooo_scopes.proofs.names.Names.len.Goals as goal

pub returns : goal.returns
returns c = omega (arith, ap length c.self.view_is, count c.self.inside.text.items c.self.inside.declared.items)
