use Rattle.std.specs.Prelude.{reverse}
use Rattle.std.proofs.Common.{ap, sym, ◌∙◌}
use Rattle.ooo_checked.specs.Scopes.{Scope, meaning_of}
use Rattle.ooo_scopes.proofs.InBlocks.{meaning}
use Rattle.ooo_scopes.proofs.scopes.Scopes.denotes.Goals as goal

pub returns : goal.returns
returns c =
    c.denotes.ensures
    ∙ (sym (meaning (reverse c.self.inside.counts.items) c.self.inside.names c.args.name.now c.self.invariant)
    ∙ ap (λ (s : Scope). meaning_of s c.args.name.now) c.self.view_is)
