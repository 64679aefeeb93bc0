use Rattle.std.specs.Prelude.{◌≡◌, ℕ, ◌-◌, List, [], ◌∷◌, length, take, reverse}
use Rattle.std.proofs.Common.{ap, sym, ◌∙◌}
use Rattle.ooo_checked.specs.Scopes.{Scope, left, meaning_of}
use Rattle.ooo_scopes.proofs.InBlocks.{none_last, outside, outside_none, reversed}
use Rattle.ooo_scopes.proofs.scopes.Scopes.denotes_outside.Goals as goal

pub returns-in-Some : goal.returns-in-Some
returns-in-Some c =
    let xs = c.deref.result.now in
    let names = c.self.inside.names in
    let name = c.args.name.now in
    let count = c.in-Some.count.now in
    let rest : List ℕ = reverse (take (length xs - 1) xs) in
    let e : reverse c.self.inside.counts.items ≡ count ∷ rest =
    ap reverse (sym c.deref.ensures.value) ∙ reversed xs count c.in-Some.ensures.item.3.0 c.in-Some.ensures.item.1
    in
    c.denotes_before.ensures
    ∙ (sym (outside (reverse c.self.inside.counts.items) count rest names name e c.self.invariant)
    ∙ ap (λ (s : Scope). meaning_of (left s) name) c.self.view_is)

pub returns-in-None : goal.returns-in-None
returns-in-None c =
    let names = c.self.inside.names in
    let name = c.args.name.now in
    let none : c.self.inside.counts.items ≡ [] = sym c.deref.ensures.value ∙ none_last c.deref.result.now c.in-None.ensures.value in
    c.denotes_before-in-None.ensures
    ∙ (sym (outside_none (reverse c.self.inside.counts.items) names name (ap reverse none) c.self.invariant)
    ∙ ap (λ (s : Scope). meaning_of (left s) name) c.self.view_is)
