use Rattle.std.specs.Prelude.{ℕ, ◌≡◌, ◌<◌, ◌-◌, length, drop, List, Option, Some, None, true, false}
use Rattle.std.specs.Option.{unwrap_or}
use Rattle.std.proofs.Common.{arith, ap, sym, ◌∙◌, get_or}
use Rattle.ooo_checked.specs.Scopes.{Binding, found_in, unknown}
use Rattle.ooo_checked.specs.declared.denotation.Denotation.{Denotation}
use Rattle.ooo_scopes.specs.Names.{bindings_of, place_in}
use Rattle.ooo_scopes.specs.declared.names.Declared.{Declared}
use Rattle.ooo_scopes.proofs.Behind.{before_at, before_none}
use Rattle.ooo_scopes.proofs.names.Names.denotes_before.Goals as goal

pub returns-in-Some-get : goal.returns-in-Some-get
returns-in-Some-get c =
    let found : Declared = c.in-Some-get.found.now in
    let name = c.args.name.now in
    let bs = bindings_of c.self.inside in
    let kept : ℕ = c.saturating_sub-kept.result in
    let many : kept ≡ length bs - c.args.latest = omega (arith, c.saturating_sub-kept.ensures, c.len.ensures, ap length c.self.view_is) in
    let place : place_in (drop (length bs - kept) bs) name ≡ Some c.in-Some.place =
    ap (λ (l : List Binding). place_in (drop (length l - kept) l) name) c.self.view_is ∙ sym c.in-Some.ensures
    in
    let at = before_at c.self.inside.text.items c.self.inside.declared.items c.args.latest kept name c.in-Some.place found c.self.invariant.hidden many place in
    let is : found ≡ get_or c.self.inside.declared.items c.in-Some.place found =
    c.in-Some-get.ensures.lookup.1 ∙ ap (λ (l : List Declared). get_or l c.in-Some.place found) c.deref.ensures.value
    in
    let it : found_in (drop c.args.latest c.args.self.now) name ≡ Some found.denotes =
    ap (λ (l : List Binding). found_in (drop c.args.latest l) name) (sym c.self.view_is) ∙ (at.1 ∙ ap (λ (x : Declared). Some x.denotes) (sym is))
    in
    sym (ap (λ (o : Option Denotation). unwrap_or o unknown) it)

pub returns-in-None-get : goal.returns-in-None-get
returns-in-None-get c =
    let name = c.args.name.now in
    let bs = bindings_of c.self.inside in
    let kept : ℕ = c.saturating_sub-kept.result in
    let many : kept ≡ length bs - c.args.latest = omega (arith, c.saturating_sub-kept.ensures, c.len.ensures, ap length c.self.view_is) in
    let place : place_in (drop (length bs - kept) bs) name ≡ Some c.in-Some.place =
    ap (λ (l : List Binding). place_in (drop (length l - kept) l) name) c.self.view_is ∙ sym c.in-Some.ensures
    in
    let at = before_at c.self.inside.text.items c.self.inside.declared.items c.args.latest kept name c.in-Some.place (record { from = 0; denotes = unknown; hides = None }) c.self.invariant.hidden many place in
    let within : c.in-Some.place < length c.deref.result.now = omega (arith, at.0, ap length c.deref.ensures.value) in
    let never : false ≡ true = c.in-None-get.ensures.lookup.2 within in
    cc

pub returns-in-None : goal.returns-in-None
returns-in-None c =
    let name = c.args.name.now in
    let bs = bindings_of c.self.inside in
    let kept : ℕ = c.saturating_sub-kept.result in
    let many : kept ≡ length bs - c.args.latest = omega (arith, c.saturating_sub-kept.ensures, c.len.ensures, ap length c.self.view_is) in
    let place : place_in (drop (length bs - kept) bs) name ≡ None =
    ap (λ (l : List Binding). place_in (drop (length l - kept) l) name) c.self.view_is ∙ sym c.in-None.ensures
    in
    let it : found_in (drop c.args.latest c.args.self.now) name ≡ None =
    ap (λ (l : List Binding). found_in (drop c.args.latest l) name) (sym c.self.view_is)
    ∙ before_none c.self.inside.text.items c.self.inside.declared.items c.args.latest kept name many place
    in
    sym (ap (λ (o : Option Denotation). unwrap_or o unknown) it)
