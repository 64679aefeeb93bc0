use Rattle.std.specs.Prelude.{ℕ, List, ◌++◌, ◌∷◌, [], length}
use Rattle.std.proofs.Common.{◌∙◌, ap, arith}
use Rattle.ooo_scopes.specs.declared.names.Declared.{Declared}
use Rattle.ooo_scopes.proofs.Bindings.{kept_pushed, count}
use Rattle.ooo_scopes.proofs.names.Names.push.Goals as goal

pub invariant_of-self-2 : goal.invariant_of-self-2
invariant_of-self-2 c =
    let a = c.self.inside in
    let name = c.args.name.now in
    let d : Declared = record { from = c.len-from.result; denotes = c.args.denotes; hides = c.in_ok-hides.hides } in
    kept_pushed a.places c.put.new.places a.text.items name c.extend_from_slice.new.self.items a.declared.items c.push.new.self.items d c.len-place.result c.self.invariant
    (omega (arith, ap length c.in_ok-reserve-2.ensures.items)) (omega (arith, ap length c.in_ok-reserve.ensures.items)) c.in_ok-hides.ensures.had c.in_ok-hides.ensures.ok
    (c.in_ok-extend_from_slice.ensures.items ∙ ap (λ (t : List ℕ). t ++ name) c.in_ok-reserve.ensures.items)
    (c.in_ok-push.ensures.items ∙ ap (λ (l : List Declared). l ++ d ∷ []) c.in_ok-reserve-2.ensures.items)

pub returns-clause-small : goal.returns-clause-small
returns-clause-small c = omega (arith, count c.extend_from_slice.new.self.items c.push.new.self.items)
