-- What every run keeps: the number of its histories, and that the process of an ending, if it speaks of one, has a name.
use Rattle.std.proofs.Common.{◌≡◌, ℕ, zero, suc, ◌<◌, ◌==◌, nat_lt, List, [], ◌∷◌, length, Option, Some, None, Bool, true, false, if◌then◌else◌, refl, ap, ◌∙◌, subst}
use Rattle.std.specs.Prelude.{slice_get}
use Rattle.ooo_time.specs.declared.stamp.Stamp.{Stamp}
use Rattle.ooo_time.specs.declared.stamp.Place.{Place}
use Rattle.ooo_code.specs.declared.activation.Effect.{Effect}
use Rattle.ooo_code.specs.declared.activation.Effect.TheVariants as effect
use Rattle.ooo_code.specs.declared.activation.JobEnd.{JobEnd}
use Rattle.ooo_code.specs.declared.activation.JobEnd.TheVariants as job
use Rattle.ooo_code.specs.declared.limits.Limits.{Limits}
use Rattle.ooo_code.specs.Channels.{Channel}
use Rattle.ooo_code.specs.Outcomes.{Deed, Activate}
use Rattle.ooo_history.specs.Reporting.{IsNamed}
use Rattle.ooo_history.specs.declared.run.Entry.{Entry}
use Rattle.ooo_history.specs.declared.run.End.{End}
use Rattle.ooo_history.specs.declared.run.End.TheVariants as end
use Rattle.ooo_meaning.specs.World.{World, apply, apply_all, broken_by, place_of, view_of, after_deed, runs_now, longer_histories, update, next_delta, reach, least_activity, least_pending, some_runnable, Progress, Over, Goes, advance, later, in_delta, notified, settle_at, settle}
use Rattle.ooo_meaning.specs.Sequence.{State, Result, turn_at, turn, evaluate, result_of, finish, run, run_whole}

-- ---- the histories

-- effects change no history
apply_histories : (w : World) (f : Effect) → (apply w f).histories ≡ w.histories
apply_histories w (effect.Request c v) = refl
apply_histories w (effect.Put c v) = refl
apply_histories w (effect.Take c) = refl
apply_histories w (effect.Notify e k) = refl
apply_histories w (effect.Cancel e) = refl
apply_histories w effect.Stop = refl

apply_all_histories : (w : World) (fs : List Effect) → (apply_all w fs).histories ≡ w.histories
apply_all_histories w [] = refl
apply_all_histories w (f ∷ fs) = apply_all_histories (apply w f) fs ∙ apply_histories w f

-- an update makes histories longer, and no more of them
as_many_histories : (s : Stamp) (cs : List Channel) (hs : List (List Entry)) → length (longer_histories s cs hs) ≡ length hs
as_many_histories s (c ∷ cs) (h ∷ hs) = ap suc (as_many_histories s cs hs)
as_many_histories s [] hs = refl
as_many_histories s (c ∷ cs) [] = refl

-- ---- what is kept

-- each number of a list is below n
abbrev pub AllBelow : ℕ → List ℕ → Type 0
AllBelow n [] = Unit {0}
AllBelow n (p ∷ ps) = (p < n) × AllBelow n ps

-- the process of an ending has a name, where there is an ending and it speaks of one
abbrev EndIsNamed : List (List ℕ) → Option End → Type 0
EndIsNamed names None = Unit {0}
EndIsNamed names (Some e) = IsNamed e names

-- there are n histories, and the process of the ending has a name
pub record Good (names : List (List ℕ)) (n : ℕ) (w : World) : Type 0 where
  pub histories : length w.histories ≡ n
  pub broken : EndIsNamed names w.broken

-- the same of what a run gives
pub record GoodResult (names : List (List ℕ)) (n : ℕ) (r : Result) : Type 0 where
  pub histories : length r.histories ≡ n
  pub ending : IsNamed r.end names

-- the same of how a run goes on
GoodProgress : List (List ℕ) → ℕ → Progress → Type 0
GoodProgress names n (Over w e) = (length w.histories ≡ n) × IsNamed e names
GoodProgress names n (Goes w) = Good names n w

module _ (names : List (List ℕ)) (n : ℕ) where
  -- ---- an evaluation

  broken_named : (place : Place) (e : JobEnd) → place.process < length names → EndIsNamed names (broken_by place e)
  broken_named place (job.Waits on) h = tt
  broken_named place job.Ended h = tt
  broken_named place (job.Faulted f line) h = h
  broken_named place (job.Limit line) h = h

  deed_good : (p : ℕ) (w : World) (d : Deed) → p < length names → Good names n w → Good names n (after_deed p w d)
  unfolding after_deed
  deed_good p w d below g = record {
    histories = ap length (apply_all_histories w d.effects) ∙ g.histories;
    broken = broken_named (place_of w.stamp p) d.end below;
  }

  -- ---- the rest of a cycle

  update_good : (w : World) → Good names n w → Good names n (update w)
  unfolding update
  update_good w g = record { histories = as_many_histories w.stamp w.channels w.histories ∙ g.histories; broken = g.broken }

  reach_good : (s : Stamp) (w : World) → Good names n w → Good names n (reach s w)
  unfolding reach
  reach_good s w g = record { histories = g.histories; broken = g.broken }

  if_good : (b : Bool) (x y : Progress) → GoodProgress names n x → GoodProgress names n y →
      GoodProgress names n (if b then x else y)
  if_good true x y h k = h
  if_good false x y h k = k

  advance_good : (w : World) → Good names n w → (o : Option Stamp) → GoodProgress names n (advance w o)
  unfolding GoodProgress
  advance_good w g None = (g.histories, tt)
  advance_good w g (Some t) = reach_good t w g

  later_good : (limits : Limits) (w : World) → Good names n w → (o : Option Stamp) → GoodProgress names n (later limits w o)
  unfolding GoodProgress
  later_good limits w g None = (g.histories, tt)
  later_good limits w g (Some t) =
      if_good
      (nat_lt limits.stop.0 t.time.0)
      (Over w (end.Time limits.stop))
      (advance w (least_pending w))
      (g.histories, tt)
      (advance_good w g (least_pending w))

  in_delta_good : (limits : Limits) (w : World) → Good names n w → GoodProgress names n (in_delta limits w)
  unfolding GoodProgress
  in_delta_good limits w g = if_good (w.stamp.delta == limits.deltas) (Over w (end.Deltas w.stamp)) (Goes w) (g.histories, tt) g

  notified_good : (limits : Limits) (w : World) → Good names n w → GoodProgress names n (notified limits w)
  unfolding notified
  notified_good limits w g =
      if_good
      (some_runnable w)
      (in_delta limits w)
      (later limits w (least_activity w))
      (in_delta_good limits w g)
      (later_good limits w g (least_activity w))

  settled_good : (limits : Limits) (w : World) → Good names n w → (o : Option End) → EndIsNamed names o →
      GoodProgress names n (settle_at limits w o)
  unfolding GoodProgress
  settled_good limits w g (Some e) h = (g.histories, h)
  settled_good limits w g None h =
      let u = update_good w g in
      if_good
      w.stopped
      (Over (update w) (end.Stop w.stamp))
      (notified limits (reach (next_delta w.stamp) (update w)))
      (u.histories, tt)
      (notified_good limits (reach (next_delta w.stamp) (update w)) (reach_good (next_delta w.stamp) (update w) u))

  settle_good : (limits : Limits) (w : World) → Good names n w → GoodProgress names n (settle limits w)
  unfolding settle
  settle_good limits w g = settled_good limits w g w.broken g.broken

-- ---- a run

module _ (K : Type 0) (activate : Activate K) (names : List (List ℕ)) (n : ℕ) where
  turned_good : (s : State K) (p : ℕ) (x : Option K) → p < length names → Good names n s.world →
      Good names n (turn_at activate s p x).world
  turned_good s p None below g = g
  turned_good s p (Some k) below g = deed_good names n p s.world (activate p k (view_of p s.world)).deed below g

  if_turned : (b : Bool) (s t : State K) → Good names n s.world → Good names n t.world → Good names n (if b then s else t).world
  if_turned true s t h k = h
  if_turned false s t h k = k

  turn_good : (s : State K) (p : ℕ) → p < length names → Good names n s.world → Good names n (turn activate s p).world
  unfolding turn
  turn_good s p below g =
      let x = slice_get s.places p in
      if_turned (runs_now p s.world) (turn_at activate s p x) s (turned_good s p x below g) g

  evaluate_good : (order : List ℕ) (s : State K) → AllBelow (length names) order → Good names n s.world →
      Good names n (evaluate activate order s).world
  unfolding evaluate
  evaluate_good [] s below g = g
  evaluate_good (p ∷ ps) s below g = evaluate_good ps (turn activate s p) below.1 (turn_good s p below.0 g)

  finish_good : (places : List K) (x : Progress) (go : State K → Option Result) (r : Result) → GoodProgress names n x →
      ((t : State K) → Good names n t.world → go t ≡ Some r → GoodResult names n r) → finish places x go ≡ Some r →
      GoodResult names n r
  unfolding GoodProgress
  finish_good places (Over w e) go r h k same =
      let q : result_of w e ≡ r = cc in
      subst (GoodResult names n) q (record { histories = h.0; ending = h.1 })
  finish_good places (Goes w) go r h k same = k _ h same

  run_good : (order : List ℕ) (limits : Limits) → AllBelow (length names) order → (cycles : ℕ) (s : State K) (r : Result) →
      Good names n s.world → run activate order limits cycles s ≡ Some r → GoodResult names n r
  unfolding run
  run_good order limits below zero s r g same = absurd cc
  run_good order limits below (suc cycles) s r g same =
      let t = evaluate activate order s in
      finish_good t.places (settle limits t.world) (run activate order limits cycles) r
      (settle_good names n limits t.world (evaluate_good order s below g))
      (λ t h e. run_good order limits below cycles t r h e) same

  pub whole_good : (order : List ℕ) (limits : Limits) → AllBelow (length names) order → (cycles : ℕ) (s : State K) (r : Result) →
      Good names n s.world → run_whole activate order limits cycles s ≡ Some r → GoodResult names n r
  unfolding run_whole
  whole_good order limits below cycles s r g same =
      finish_good s.places (notified limits s.world) (run activate order limits cycles) r
      (notified_good names n limits s.world g)
      (λ t h e. run_good order limits below cycles t r h e) same
