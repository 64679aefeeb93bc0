-- How a run of the scheduler ended, and what it printed, by the log of the steps.
use Rattle.std.proofs.Common.{◌≡◌, ℕ, suc, ◌+◌, ◌<◌, inl, inr, ⊎_elim, List, [], ◌∷◌, ◌++◌, length, map, true, false, if◌then◌else◌, Option, Some, None, append-nil, refl, sym, ap, ◌∙◌, subst, arith}
use Rattle.std.specs.List.{flat_map}
use Rattle.std.proofs.lemmas.Bool.{le-ltb, lt-ltb}
use Rattle.std.proofs.lemmas.Grind.{flat_map-append}
use Rattle.std.proofs.lemmas.List.{length-append}
use Rattle.std.proofs.lemmas.List.Sums.{fold-append}
use Rattle.ooo_time.specs.declared.stamp.Stamp.{Stamp}
use Rattle.ooo_time.specs.Stamps.{IsBefore}
use Rattle.ooo_history.specs.declared.run.End.{End}
use Rattle.ooo_history.specs.declared.run.End.TheVariants as history
use Rattle.ooo_history.specs.declared.run.Entry.{Entry}
use Rattle.ooo_history.specs.Reporting.{output_text}
use Rattle.ooo_channels.specs.Agreement.{history_at}
use Rattle.ooo_meaning.specs.Runs.{numbers_from}
use Rattle.ooo_meaning.specs.World as real
use Rattle.ooo_meaning.specs.World.{Made, place_of, zero_stamp}
use Rattle.ooo_schedules.specs.Delays.{NotAfter}
use Rattle.ooo_schedules.specs.Endings.{Deltas, Ending, Idle, RunEnds, Time}
use Rattle.ooo_schedules.specs.Model.{In}
use Rattle.ooo_schedules.specs.Program.{Program}
use Rattle.ooo_schedules.specs.Reports.{RunsNext}
use Rattle.ooo_schedules.specs.Tables.{program}
use Rattle.ooo_dispatch.specs.Enough.{Descend}
use Rattle.ooo_dispatch.specs.Reports.{broken_at_last, end_after, end_before, has_stopped, last_stamp, pieces_after, piece_of}
use Rattle.ooo_dispatch.specs.Rules.{Rules, outcome_of, tables}
use Rattle.ooo_dispatch.specs.Scheduler.{AreMadeAs, none_made, more_made}
use Rattle.ooo_dispatch.proofs.Histories.{AreHistories}
use Rattle.ooo_dispatch.proofs.Stamps.{irreflexive, transitive}
use Rattle.ooo_dispatch.proofs.Turning.{Activation, broken_is}

module _ (r : Rules) where
  abbrev p : Program
  p = program (tables r)

  -- ---- the last activation

  -- none broke
  pub last_whole : (xs : List Activation) → ((y : Activation) → In y xs → p.breaks y ≡ false) → broken_at_last r xs ≡ None
  last_whole [] whole = refl
  last_whole (y ∷ ys) whole = broken_is (place_of y.stamp y.process) (outcome_of r y).deed.end (whole y (inl refl))

  -- none is after a stamp, at which one of them stands
  pub last_is : (xs : List Activation) (s : Stamp) → Descend r xs → ((y : Activation) → In y xs → NotAfter y.stamp s) → (y : Activation) → In y xs → y.stamp ≡ s → s ≡ last_stamp xs
  last_is [] s d past y i e = absurd i
  last_is (z ∷ zs) s d past y i e = ⊎_elim (λ k. sym e ∙ ap (λ x. x.stamp) k) (λ j. same (d.1 y j) (past z (inl refl))) i
    where
      same : NotAfter y.stamp z.stamp → NotAfter z.stamp s → s ≡ z.stamp
      same (inr k) b = sym e ∙ k
      same (inl k) (inr m) = sym m
      same (inl k) (inl m) = absurd (irreflexive s (transitive s z.stamp s (subst (λ t. IsBefore t z.stamp) e k) m))

  pub last_made : (ms : List Made) (xs : List Activation) → AreMadeAs r ms xs → real.last_stamp ms ≡ last_stamp xs
  last_made _ _ none_made = refl
  last_made _ _ (more_made {ms} m x a is number) = fold-append (λ s n. n.place.stamp) zero_stamp ms (m ∷ []) ∙ is.stamp

  -- ---- how it ended

  -- by the steps, where none of them broke or called sc_stop
  pub data EndsAs (xs : List Activation) : End → Type 0 where
    by_break : (e : End) → broken_at_last r xs ≡ Some e → EndsAs xs e
    by_stop : (s : Stamp) → broken_at_last r xs ≡ None → has_stopped r xs ≡ true → s ≡ last_stamp xs → EndsAs xs (history.Stop s)
    at_limit : (s : Stamp) → broken_at_last r xs ≡ None → has_stopped r xs ≡ false → RunEnds p xs (Deltas s) → EndsAs xs (history.Deltas s)
    by_time : broken_at_last r xs ≡ None → has_stopped r xs ≡ false → RunEnds p xs Time → EndsAs xs (history.Time r.limits.stop)
    by_idle : (s : Stamp) → broken_at_last r xs ≡ None → has_stopped r xs ≡ false → RunEnds p xs Idle → s ≡ last_stamp xs → EndsAs xs (history.Idle s)

  pub end_whole : (xs : List Activation) (next : Option Stamp) → broken_at_last r xs ≡ None → end_after r xs next ≡ (if has_stopped r xs then history.Stop (last_stamp xs) else end_before r xs next)
  end_whole xs next whole = ap (λ o. elim o [ Some e ↦ e | None ↦ if has_stopped r xs then history.Stop (last_stamp xs) else end_before r xs next ]) whole

  end_calm : (xs : List Activation) (next : Option Stamp) → broken_at_last r xs ≡ None → has_stopped r xs ≡ false → end_after r xs next ≡ end_before r xs next
  end_calm xs next whole calm = end_whole xs next whole ∙ ap (λ b. if b then history.Stop (last_stamp xs) else end_before r xs next) calm

  -- so the ending that is read off is that of the run
  pub end_is : (xs : List Activation) (e : End) (next : Option Stamp) → EndsAs xs e → ((k : Ending p) → RunEnds p xs k → RunsNext p k next) → end_after r xs next ≡ e
  end_is xs _ next (by_break e is) goes = ap (λ o. elim o [ Some f ↦ f | None ↦ if has_stopped r xs then history.Stop (last_stamp xs) else end_before r xs next ]) is
  end_is xs _ next (by_stop s whole stopped is) goes =
      end_whole xs next whole ∙ ap (λ b. if b then history.Stop (last_stamp xs) else end_before r xs next) stopped ∙ ap (λ t. history.Stop t) (sym is)
  end_is xs _ next (at_limit s whole calm ends) goes =
      let k = goes (Deltas s) ends in
      end_calm xs next whole calm ∙ ap (end_before r xs) k.0 ∙ ap (λ b. if b then history.Time r.limits.stop else history.Deltas s) (le-ltb r.limits.stop.0 s.time.0 k.1)
  end_is xs _ next (by_time whole calm ends) goes =
      let k = goes Time ends in
      end_calm xs next whole calm ∙ ap (end_before r xs) k.1 ∙ ap (λ b. if b then history.Time r.limits.stop else history.Deltas k.0) (lt-ltb r.limits.stop.0 k.0.time.0 k.2)
  end_is xs _ next (by_idle s whole calm ends is) goes = end_calm xs next whole calm ∙ ap (end_before r xs) (goes Idle ends) ∙ ap (λ t. history.Idle t) (sym is)

  -- ---- what was printed, and how often

  pub output_is : (ms : List Made) (xs : List Activation) → AreMadeAs r ms xs → output_text (pieces_after r xs) ≡ flat_map (λ m. m.deed.output) ms
  output_is _ _ none_made = refl
  output_is _ _ (more_made {ms} {xs} m x a is number) =
      flat_map-append (λ k. k.bytes) (pieces_after r xs) (piece_of r x ∷ [])
      ∙ ap (λ bs. bs ++ flat_map (λ k. k.bytes) (piece_of r x ∷ [])) (output_is ms xs a)
      ∙ ap (λ bs. flat_map (λ n. n.deed.output) ms ++ bs) (one ∙ sym (flat_map_one))
      ∙ sym (flat_map-append (λ n. n.deed.output) ms (m ∷ []))
    where
      one : flat_map (λ k. k.bytes) (piece_of r x ∷ []) ≡ m.deed.output
      one = append-nil (outcome_of r x).deed.output ∙ sym is.output

      flat_map_one : flat_map (λ n. n.deed.output) (m ∷ []) ≡ m.deed.output
      flat_map_one = append-nil m.deed.output

  pub count_is : (ms : List Made) (xs : List Activation) → AreMadeAs r ms xs → length xs ≡ length ms
  count_is _ _ none_made = refl
  count_is _ _ (more_made {ms} {xs} m x a is number) = let c = count_is ms xs a in let l = length-append ms (m ∷ []) in omega (arith, c, l)

-- ---- the histories

mapped_are : (of : ℕ → List Entry) (n : ℕ) (hs : List (List Entry)) → ((i : ℕ) → i < length hs → history_at hs i ≡ of (n + i)) → map of (numbers_from n (length hs)) ≡ hs
mapped_are of n [] each = refl
mapped_are of n (h ∷ hs) each =
    ap (λ x. x ∷ map of (numbers_from (n + 1) (length hs))) (sym (each 0 (omega arith) ∙ ap of (let z : n + 0 ≡ n = omega arith in z)))
    ∙ ap (λ xs. h ∷ xs) (mapped_are of (n + 1) hs (λ i lt. each (suc i) (omega (arith, lt)) ∙ ap of (let z : n + suc i ≡ n + 1 + i = omega arith in z)))

pub histories_are : (r : Rules) (hs : List (List Entry)) (of : ℕ → List Entry) → AreHistories r hs of → map of (numbers_from 0 (length r.design.channels)) ≡ hs
histories_are r hs of a =
    ap (λ n. map of (numbers_from 0 n)) (sym a.count) ∙ mapped_are of 0 hs (λ i lt. a.each i (let c = a.count in omega (arith, lt, c)) ∙ ap of (let z : i ≡ 0 + i = omega arith in z))
