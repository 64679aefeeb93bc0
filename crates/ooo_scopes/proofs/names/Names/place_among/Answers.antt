use Rattle.std.specs.Prelude.{ℕ, ◌+◌, ◌≡◌, ◌<◌, ◌≤◌, ◌-◌, length, drop, List, Option, Some, None, true, false}
use Rattle.std.proofs.Common.{arith, ap, sym, ◌∙◌, get_or, subst}
use Rattle.ooo_checked.specs.Scopes.{Binding}
use Rattle.ooo_scopes.specs.Names.{bindings_of, place_in}
use Rattle.ooo_scopes.specs.declared.names.Declared.{Declared}
use Rattle.ooo_scopes.proofs.Behind.{Reached, at_kept, late_at, nearer, rank, reached_first, reached_next, reached_lt, reached_none}
use Rattle.ooo_scopes.proofs.names.Names.place_among.Goals as goal

pub hidden-init : goal.hidden-init
hidden-init c =
    let bs = bindings_of c.self.inside in
    reached_first bs (length bs - c.args.kept) c.args.name.now c.place-place.result
    (c.place-place.ensures ∙ c.self.invariant.index c.args.name.now)

pub returns-then-at-kept : goal.returns-then-at-kept
returns-then-at-kept c =
    let bs = bindings_of c.self.inside in
    let k : ℕ = length bs - c.args.kept in
    let name = c.args.name.now in
    let r : Reached bs k name (Some c.in-Some.at) = subst (λ (o : Option ℕ). Reached bs k name o) c.in-Some.is c.hidden.invariant in
    let found : place_in (drop k bs) name ≡ Some c.in-Some.at =
    at_kept bs c.args.kept name c.in-Some.at r (omega (arith, c.if-at-kept.true))
    in
    sym found ∙ ap (λ (l : List Binding). place_in (drop (length l - c.args.kept) l) name) c.self.view_is

pub hidden-smaller-in-Some-get : goal.hidden-smaller-in-Some-get
hidden-smaller-in-Some-get c =
    let bs = bindings_of c.self.inside in
    let k : ℕ = length bs - c.args.kept in
    let name = c.args.name.now in
    let xs = c.self.inside.declared.items in
    let hiding : Declared = c.in-Some-get.hiding.now in
    let is : hiding ≡ get_or xs c.in-Some.at hiding =
    c.in-Some-get.ensures.lookup.1 ∙ ap (λ (l : List Declared). get_or l c.in-Some.at hiding) c.deref.ensures.value
    in
    let r : Reached bs k name (Some c.in-Some.at) = subst (λ (o : Option ℕ). Reached bs k name o) c.in-Some.is c.hidden.invariant in
    let less : rank (get_or xs c.in-Some.at hiding).hides < rank (Some c.in-Some.at) =
    nearer c.self.inside.text.items xs k name c.in-Some.at hiding c.self.invariant.hidden r
    in
    subst (λ (o : Option ℕ). rank hiding.hides < rank o) (sym c.in-Some.is)
    (subst (λ (x : Declared). rank x.hides < rank (Some c.in-Some.at)) (sym is) less)

pub hidden-preserved-in-Some-get : goal.hidden-preserved-in-Some-get
hidden-preserved-in-Some-get c =
    let bs = bindings_of c.self.inside in
    let k : ℕ = length bs - c.args.kept in
    let name = c.args.name.now in
    let xs = c.self.inside.declared.items in
    let hiding : Declared = c.in-Some-get.hiding.now in
    let is : hiding ≡ get_or xs c.in-Some.at hiding =
    c.in-Some-get.ensures.lookup.1 ∙ ap (λ (l : List Declared). get_or l c.in-Some.at hiding) c.deref.ensures.value
    in
    let r : Reached bs k name (Some c.in-Some.at) = subst (λ (o : Option ℕ). Reached bs k name o) c.in-Some.is c.hidden.invariant in
    let late : length xs ≤ c.in-Some.at + k = late_at c.self.inside.text.items xs c.args.kept c.in-Some.at (omega (arith, c.if-at-kept.false)) in
    subst (λ (x : Declared). Reached bs k name x.hides) (sym is)
    (reached_next c.self.inside.text.items xs k name c.in-Some.at hiding c.self.invariant.hidden r late)

pub hidden-preserved : goal.hidden-preserved
hidden-preserved c =
    let bs = bindings_of c.self.inside in
    let k : ℕ = length bs - c.args.kept in
    let name = c.args.name.now in
    let r : Reached bs k name (Some c.in-Some.at) = subst (λ (o : Option ℕ). Reached bs k name o) c.in-Some.is c.hidden.invariant in
    let lt : c.in-Some.at < length c.self.inside.declared.items =
    reached_lt c.self.inside.text.items c.self.inside.declared.items k name c.in-Some.at r
    in
    let within : c.in-Some.at < length c.deref.result.now = omega (arith, lt, ap length c.deref.ensures.value) in
    let never : false ≡ true = c.in-None.ensures.lookup.2 within in
    absurd cc

pub returns : goal.returns
returns c =
    let bs = bindings_of c.self.inside in
    let k : ℕ = length bs - c.args.kept in
    let name = c.args.name.now in
    let r : Reached bs k name None = subst (λ (o : Option ℕ). Reached bs k name o) c.in_default.is c.hidden.invariant in
    sym (reached_none bs k name r) ∙ ap (λ (l : List Binding). place_in (drop (length l - c.args.kept) l) name) c.self.view_is
