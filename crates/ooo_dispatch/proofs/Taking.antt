-- A notification that a node of a sound design is said to make takes time, and no more than the greatest time; and so does a wait.
use Rattle.std.proofs.Common.{◌≡◌, ℕ, ◌≤◌, ◌==◌, Bool, true, false, if◌then◌else◌, inl, inr, ⊎_elim, List, [], ◌∷◌, ◌++◌, Option, Some, None, refl, sym, subst, arith}
use Rattle.std.proofs.lemmas.Bool.{cases_order, eqb-false}
use Rattle.std.specs.Prelude.{⊤, IfSome}
use Rattle.std.specs.List.{AllByRecursion}
use Rattle.ooo_time.specs.declared.delay.Delay.{Delay}
use Rattle.ooo_time.specs.Scales.{greatest_time}
use Rattle.ooo_value.specs.declared.bound.BoundEvent.{BoundEvent}
use Rattle.ooo_code.specs.declared.expression.NodeExpr.{NodeExpr}
use Rattle.ooo_code.specs.declared.node.NodeKind.{NodeKind}
use Rattle.ooo_code.specs.declared.node.NodeKind.TheVariants as kind
use Rattle.ooo_code.specs.declared.node.NodeTime.{NodeTime}
use Rattle.ooo_code.specs.declared.node.NodeTime.TheVariants as time
use Rattle.ooo_code.specs.Sound.{FitsNode, FitsTime, Scope}
use Rattle.ooo_code.specs.Touches.{constant_delay, Touch, Reads, Writes, ReadsSignal, WritesSignal, HoldsReading, HoldsWriting, Notifies, Cancels, reads_of, index_reads, time_reads, wait_reads, notified_next, numbers_where, is_of_signal, is_data_read, is_data_written, touched_by}
use Rattle.ooo_segments.specs.Edges.{IsWaitBy, delay_after, delay_by, one_delta}
use Rattle.ooo_schedules.specs.Delays.{TakesTime}
use Rattle.ooo_dispatch.proofs.Readings.{IsRead, only_reads}

-- a delay that an edge may have
pub record IsStep (d : Delay) : Type 0 where
  pub takes : TakesTime d
  pub within : d.time.0 ≤ greatest_time

abbrev pub Takes : Touch → Type 0
Takes (Notifies e t) = IsStep (delay_after t)
Takes _ = ⊤

read_takes : (t : Touch) → IsRead t → Takes t
read_takes (Reads x) h = tt
read_takes (ReadsSignal c) h = tt
read_takes (HoldsReading c) h = tt
read_takes (HoldsWriting c) h = tt
read_takes (Writes x) h = absurd h
read_takes (WritesSignal c) h = absurd h
read_takes (Notifies e t) h = absurd h
read_takes (Cancels e) h = absurd h

all_take : (ts : List Touch) → AllByRecursion IsRead ts → AllByRecursion Takes ts
all_take [] h = tt
all_take (t ∷ ts) h = (read_takes t h.0, all_take ts h.1)

both : (xs ys : List Touch) → AllByRecursion Takes xs → AllByRecursion Takes ys → AllByRecursion Takes (xs ++ ys)
both [] ys h l = l
both (x ∷ xs) ys h l = (h.0, both xs ys h.1 l)

expression : (e : NodeExpr) → AllByRecursion Takes (reads_of e)
expression e = all_take (reads_of e) (only_reads e)

index : (i : Option NodeExpr) → AllByRecursion Takes (index_reads i)
index None = tt
index (Some i) = expression i

of_time : (t : NodeTime) → AllByRecursion Takes (time_reads t)
of_time (time.Fixed t) = tt
of_time (time.Amount e scale) = expression e

of_wait : (t : Option NodeTime) → AllByRecursion Takes (wait_reads t)
of_wait None = tt
of_wait (Some t) = of_time t

one : IsStep one_delta
one = record { takes = inr (omega arith); within = omega arith }

-- of a node's time
time_step : (names : Scope) (t : NodeTime) → FitsTime names t → IsStep (delay_after (constant_delay t))
time_step names (time.Fixed t) h = at (t.0 == 0) refl
  where
    at : (b : Bool) → (t.0 == 0) ≡ b → IsStep (delay_after (if b then None else Some t))
    at true e = one
    at false e = record { takes = ⊎_elim (λ z. absurd (eqb-false t.0 0 e z)) (λ z. ⊎_elim (λ u. absurd (omega (arith, u))) (λ u. inl u) z) (cases_order t.0 0); within = h }
time_step names (time.Amount x scale) h = one

wait_step : (names : Scope) (t : Option NodeTime) (es : List ℕ) → IfSome t (FitsTime names) → IsStep (delay_by t es)
wait_step names None [] h = one
wait_step names (Some t) [] h = time_step names t h
wait_step names t (e ∷ es) h = one

next : (es : List ℕ) → AllByRecursion Takes (notified_next es)
next [] = tt
next (e ∷ es) = (one, next es)

pub takes_by : (names : Scope) (events : List BoundEvent) (k : NodeKind) → FitsNode names events k → AllByRecursion Takes (touched_by events k)
takes_by names events (kind.Set n e) h = expression e
takes_by names events (kind.Store x i e) h = (tt, both (reads_of e) (index_reads i) (expression e) (index i))
takes_by names events (kind.Test e no_to) h = expression e
takes_by names events kind.Goto h = tt
takes_by names events (kind.PrintText text) h = tt
takes_by names events (kind.PrintValue e) h = expression e
takes_by names events kind.PrintTime h = tt
takes_by names events (kind.Write c e) h =
    (tt, both (reads_of e) (notified_next (numbers_where (is_of_signal c) 0 events)) (expression e) (next (numbers_where (is_of_signal c) 0 events)))
takes_by names events (kind.TestAvailable c no_to) h = (tt, tt)
takes_by names events (kind.TestFree c no_to) h = (tt, tt)
takes_by names events (kind.Take c n) h = (tt, next (numbers_where (is_data_read c) 0 events))
takes_by names events (kind.Put c e) h =
    (tt, both (reads_of e) (notified_next (numbers_where (is_data_written c) 0 events)) (expression e) (next (numbers_where (is_data_written c) 0 events)))
takes_by names events (kind.Notify e t) h = (time_step names t h.1, of_time t)
takes_by names events (kind.Cancel e) h = (tt, tt)
takes_by names events kind.Stop h = tt
takes_by names events (kind.Trigger w) h = of_wait w.time
takes_by names events (kind.Wait w) h = of_wait w.time
takes_by names events kind.End h = tt

-- a wait
pub by_wait : (names : Scope) (events : List BoundEvent) (k : NodeKind) (d : Delay) → FitsNode names events k → IsWaitBy k d → IsStep d
by_wait names events (kind.Wait w) d h e = subst IsStep (sym e) (wait_step names w.time w.events h.time)
by_wait names events (kind.Set n e) d h x_is = absurd x_is
by_wait names events (kind.Store x i e) d h x_is = absurd x_is
by_wait names events (kind.Test e n) d h x_is = absurd x_is
by_wait names events kind.Goto d h x_is = absurd x_is
by_wait names events (kind.PrintText text) d h x_is = absurd x_is
by_wait names events (kind.PrintValue e) d h x_is = absurd x_is
by_wait names events kind.PrintTime d h x_is = absurd x_is
by_wait names events (kind.Write c e) d h x_is = absurd x_is
by_wait names events (kind.TestAvailable c n) d h x_is = absurd x_is
by_wait names events (kind.TestFree c n) d h x_is = absurd x_is
by_wait names events (kind.Take c n) d h x_is = absurd x_is
by_wait names events (kind.Put c e) d h x_is = absurd x_is
by_wait names events (kind.Notify e t) d h x_is = absurd x_is
by_wait names events (kind.Cancel e) d h x_is = absurd x_is
by_wait names events kind.Stop d h x_is = absurd x_is
by_wait names events (kind.Trigger w) d h x_is = absurd x_is
by_wait names events kind.End d h x_is = absurd x_is
