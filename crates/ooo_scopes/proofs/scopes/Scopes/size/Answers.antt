use Rattle.std.specs.Prelude.{reverse}
use Rattle.std.proofs.Common.{ap, sym, ◌∙◌}
use Rattle.ooo_checked.specs.Scopes.{size_of}
use Rattle.ooo_scopes.proofs.InBlocks.{size}
use Rattle.ooo_scopes.proofs.scopes.Scopes.size.Goals as goal

pub returns : goal.returns
returns c = c.len.ensures ∙ (sym (size (reverse c.self.inside.counts.items) c.self.inside.names c.self.invariant) ∙ ap size_of c.self.view_is)
