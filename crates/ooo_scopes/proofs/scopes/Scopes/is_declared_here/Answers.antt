use Rattle.std.specs.Prelude.{◌≡◌, ℕ, ◌-◌, List, ◌∷◌, length, take, reverse, is_some}
use Rattle.std.proofs.Common.{sym, ◌∙◌, ap}
use Rattle.std.proofs.Math.Dec.{leb}
use Rattle.ooo_checked.specs.Scopes.{Scope, found_in, is_declared_here}
use Rattle.ooo_checked.specs.declared.denotation.Denotation.{Denotation}
use Rattle.std.specs.Prelude.{Option}
use Rattle.ooo_scopes.specs.Blocks.{blocks}
use Rattle.ooo_scopes.proofs.InBlocks.{reversed, here, not_here, tested}
use Rattle.ooo_scopes.proofs.scopes.Scopes.is_declared_here.Goals as goal

pub returns-in-Some-place : goal.returns-in-Some-place
returns-in-Some-place c =
    let xs = c.deref.result.now in
    let names = c.self.inside.names in
    let name = c.args.name.now in
    let count = c.in-Some.count.now in
    let rest : List ℕ = reverse (take (length xs - 1) xs) in
    let e : reverse xs ≡ count ∷ rest = reversed xs count c.in-Some.ensures.item.3.0 c.in-Some.ensures.item.1 in
    let f : is_declared_here c.args.self.now name ≡ is_some (found_in (take count names) name) =
    ap (λ (s : Scope). is_declared_here s name) (sym c.self.view_is)
    ∙ ap (λ (l : List ℕ). is_declared_here (blocks l names) name) (ap reverse (sym c.deref.ensures.value) ∙ e)
    in
    ap (λ (l : ℕ). leb (l - count) c.in-Some-place.place) c.len.ensures
    ∙ (tested (length names) count c.in-Some-place.place (is_some (found_in (take count names) name)) (here names count name c.in-Some-place.place (sym c.in-Some-place.ensures)) ∙ sym f)

pub returns-in-None-place : goal.returns-in-None-place
returns-in-None-place c =
    let xs = c.deref.result.now in
    let names = c.self.inside.names in
    let name = c.args.name.now in
    let count = c.in-Some.count.now in
    let rest : List ℕ = reverse (take (length xs - 1) xs) in
    let e : reverse xs ≡ count ∷ rest = reversed xs count c.in-Some.ensures.item.3.0 c.in-Some.ensures.item.1 in
    let f : is_declared_here c.args.self.now name ≡ is_some (found_in (take count names) name) =
    ap (λ (s : Scope). is_declared_here s name) (sym c.self.view_is)
    ∙ ap (λ (l : List ℕ). is_declared_here (blocks l names) name) (ap reverse (sym c.deref.ensures.value) ∙ e)
    in
    sym (f ∙ ap (λ (o : Option Denotation). is_some o) (not_here names count name (sym c.in-None-place.ensures)))
