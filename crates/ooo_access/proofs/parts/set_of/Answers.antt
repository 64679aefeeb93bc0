-- Each thing by whether it is of the part.
use Rattle.std.proofs.Common.{◌≡◌, refl, sym, ap, ◌∙◌, subst, take, ◌++◌, ◌∷◌, []}
use Rattle.std.proofs.lemmas.List.{take_more}
use Rattle.ooo_access.proofs.NumberLemmas.{HasTold, told_part, told_other}
use Rattle.ooo_access.proofs.parts.set_of.Goals as goal
use Rattle.ooo_access.proofs.parts.set_of.Goals.{in-Some+in_ok-add, in_default}

pub loop-one-preserved : goal.loop-one-preserved
loop-one-preserved c =
    let more = take_more c.args.told.now c.loop-one.one-index _ c.loop-one-test.true in
    elim c.match-number.branch [
      | in-Some+in_ok-add w ↦
          rw w.numbers-is (subst (λ xs. HasTold c.args.part xs w.add.new.self) (sym more) (told_part _ _ _ _ _ _ c.loop-one.invariant (sym c.number.ensures ∙ w.in-Some.is) w.in_ok-add.ensures))
      | in_default w ↦
          rw w.numbers-is (subst (λ xs. HasTold c.args.part xs c.loop-one.numbers) (sym more) (told_other _ _ _ _ c.loop-one.invariant (sym c.number.ensures ∙ w.in_default.is)))
    ]
