use Rattle.std.specs.Prelude.{◌≡◌, ◌<◌, length, List, Option, Some, None, true, false}
use Rattle.std.specs.Option.{unwrap_or}
use Rattle.std.proofs.Common.{arith, ap, sym, ◌∙◌, get_or}
use Rattle.ooo_checked.specs.Scopes.{Binding, found_in, unknown}
use Rattle.ooo_checked.specs.declared.denotation.Denotation.{Denotation}
use Rattle.ooo_scopes.specs.Names.{bindings_of}
use Rattle.ooo_scopes.specs.declared.names.Declared.{Declared}
use Rattle.ooo_scopes.proofs.Bindings.{denotes_at, found_none}
use Rattle.ooo_scopes.proofs.names.Names.denotes.Goals as goal

pub returns-in-Some-get : goal.returns-in-Some-get
returns-in-Some-get c =
    let latest : Declared = c.in-Some-get.latest.now in
    let name = c.args.name.now in
    let at = denotes_at c.self.inside.text.items c.self.inside.declared.items name c.in-Some.place latest (sym (c.self.invariant.index name) ∙ sym c.in-Some.ensures) in
    let is : latest ≡ get_or c.self.inside.declared.items c.in-Some.place latest =
    c.in-Some-get.ensures.lookup.1 ∙ ap (λ (l : List Declared). get_or l c.in-Some.place latest) c.deref.ensures.value
    in
    let found : found_in c.args.self.now name ≡ Some latest.denotes =
    ap (λ (l : List Binding). found_in l name) (sym c.self.view_is) ∙ (at.1 ∙ ap (λ (x : Declared). Some x.denotes) (sym is))
    in
    sym (ap (λ (o : Option Denotation). unwrap_or o unknown) found)

pub returns-in-None-get : goal.returns-in-None-get
returns-in-None-get c =
    let name = c.args.name.now in
    let at = denotes_at c.self.inside.text.items c.self.inside.declared.items name c.in-Some.place (record { from = 0; denotes = unknown; hides = None }) (sym (c.self.invariant.index name) ∙ sym c.in-Some.ensures) in
    let within : c.in-Some.place < length c.deref.result.now = omega (arith, at.0, ap length c.deref.ensures.value) in
    let never : false ≡ true = c.in-None-get.ensures.lookup.2 within in
    cc

pub returns-in-None : goal.returns-in-None
returns-in-None c =
    let name = c.args.name.now in
    let found : found_in c.args.self.now name ≡ None =
    ap (λ (l : List Binding). found_in l name) (sym c.self.view_is) ∙ found_none (bindings_of c.self.inside) name (sym (c.self.invariant.index name) ∙ sym c.in-None.ensures)
    in
    sym (ap (λ (o : Option Denotation). unwrap_or o unknown) found)
