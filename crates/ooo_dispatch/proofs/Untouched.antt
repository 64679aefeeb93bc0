-- Effects that touch no event of a wait leave the front by it as it was.
use Rattle.std.proofs.Common.{◌≡◌, ℕ, List, [], ◌∷◌, map, inl, inr, refl, ap, ◌∙◌}
use Rattle.std.proofs.lemmas.List.Folds.{list_any_none}
use Rattle.ooo_schedules.specs.Design.{front_by, soonest, sort}
use Rattle.ooo_schedules.specs.Model.{In}
use Rattle.ooo_schedules.specs.Program.{design}
use Rattle.ooo_schedules.specs.Tables.{program}
use Rattle.ooo_dispatch.specs.Banks.{FrontsStay, affects}
use Rattle.ooo_dispatch.specs.Least.{Advance}
use Rattle.ooo_dispatch.specs.Rules.{Rules, deed_of, origin_of, tables}
use Rattle.ooo_dispatch.specs.Steps.{Replay}
use Rattle.ooo_dispatch.proofs.Affected.{touches_any}
use Rattle.ooo_dispatch.proofs.Slotted.{inserted_idle}

each_same : {A : Type 0} (f g : ℕ → A) (es : List ℕ) → ((e : ℕ) → In e es → f e ≡ g e) → map f es ≡ map g es
each_same f g [] h = refl
each_same f g (e ∷ es) h = ap (λ x. x ∷ map f es) (h e (inl refl)) ∙ ap (λ xs. g e ∷ xs) (each_same f g es (λ d i. h d (inr i)))

pub fronts_stay : (r : Rules) (least : Advance) (s : Replay r) → FrontsStay r least s
fronts_stay r least s p j out w leaves =
    ap (λ ts. front_by w.segment (soonest (design (program (tables r))) (w.timeout ∷ ts)))
    (each_same _ _ w.events
    (λ e i. ap (λ x. (design (program (tables r))).first x w.since) (inserted_idle r e j (sort (design (program (tables r))) s.board.log) (touches_any j.stamp e (origin_of r e) (deed_of r j).effects ∙ list_any_none (affects e (origin_of r e)) (deed_of r j).effects (leaves e i)))))
