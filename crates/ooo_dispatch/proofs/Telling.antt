-- What a node of a sound design calls: an event of a channel for the next delta cycle alone, and a cancel is of an event of the model's own.
use Rattle.std.proofs.Common.{◌≡◌, ◌≢◌, ℕ, ◌⊎◌, inl, inr, List, [], ◌∷◌, ◌++◌, true, Option, Some, None, refl, sym, ap}
use Rattle.std.proofs.lemmas.Bool.{eqb-true}
use Rattle.std.specs.Prelude.{slice_get, ⊤}
use Rattle.std.specs.List.{AllByRecursion}
use Rattle.ooo_value.specs.declared.bound.BoundEvent.{BoundEvent}
use Rattle.ooo_value.specs.declared.bound.BoundEvent.TheVariants as event
use Rattle.ooo_code.specs.declared.expression.NodeExpr.{NodeExpr}
use Rattle.ooo_code.specs.declared.node.NodeKind.{NodeKind}
use Rattle.ooo_code.specs.declared.node.NodeKind.TheVariants as kind
use Rattle.ooo_code.specs.declared.node.NodeTime.{NodeTime}
use Rattle.ooo_code.specs.declared.node.NodeTime.TheVariants as time
use Rattle.ooo_code.specs.Sound.{Scope, FitsNode, IsOwn}
use Rattle.ooo_code.specs.Touches.{Touch, Reads, Writes, ReadsSignal, WritesSignal, HoldsReading, HoldsWriting, Notifies, Cancels, reads_of, index_reads, time_reads, wait_reads, notified_next, numbers_where, is_of_signal, is_data_read, is_data_written, touched_by}
use Rattle.ooo_schedules.specs.Model.{In}
use Rattle.ooo_dispatch.proofs.Numbers.{IsEventOf, event_numbered}
use Rattle.ooo_dispatch.proofs.Readings.{IsRead, only_reads}

-- ---- the touch by which a node makes a channel's event: one process has it

-- of an event of the model's own there is none
abbrev pub maker : BoundEvent → Touch
maker event.Own = Reads 0
maker (event.Changed c) = WritesSignal c
maker (event.Rise c) = WritesSignal c
maker (event.Fall c) = WritesSignal c
maker (event.Written c) = HoldsWriting c
maker (event.Taken c) = HoldsReading c

module _ (events : List BoundEvent) where
  -- the event is of the channel that the node writes, takes from or puts into
  abbrev pub ByChannel : NodeKind → ℕ → Type 0
  ByChannel (kind.Write c x) e = IsEventOf events (is_of_signal c) e
  ByChannel (kind.Take c n) e = IsEventOf events (is_data_read c) e
  ByChannel (kind.Put c x) e = IsEventOf events (is_data_written c) e
  ByChannel _ e = ⊥

  -- a call of an event that isn't the model's own is a notification for the next delta cycle, by the channel that the event is of
  abbrev pub Told : NodeKind → Touch → Type 0
  Told k (Notifies e t) = ((t ≡ None) × ByChannel k e) ⊎ IsOwn (slice_get events e)
  Told k (Cancels e) = IsOwn (slice_get events e)
  Told k _ = ⊤

  module _ (k : NodeKind) where
    read_told : (t : Touch) → IsRead t → Told k t
    read_told (Reads x) h = tt
    read_told (ReadsSignal c) h = tt
    read_told (HoldsReading c) h = tt
    read_told (HoldsWriting c) h = tt
    read_told (Writes x) h = absurd h
    read_told (WritesSignal c) h = absurd h
    read_told (Notifies e t) h = absurd h
    read_told (Cancels e) h = absurd h

    all_told : (ts : List Touch) → AllByRecursion IsRead ts → AllByRecursion (Told k) ts
    all_told [] h = tt
    all_told (t ∷ ts) h = (read_told t h.0, all_told ts h.1)

    both : (xs ys : List Touch) → AllByRecursion (Told k) xs → AllByRecursion (Told k) ys → AllByRecursion (Told k) (xs ++ ys)
    both [] ys h l = l
    both (x ∷ xs) ys h l = (h.0, both xs ys h.1 l)

    expression : (e : NodeExpr) → AllByRecursion (Told k) (reads_of e)
    expression e = all_told (reads_of e) (only_reads e)

    index : (i : Option NodeExpr) → AllByRecursion (Told k) (index_reads i)
    index None = tt
    index (Some i) = expression i

    of_time : (t : NodeTime) → AllByRecursion (Told k) (time_reads t)
    of_time (time.Fixed t) = tt
    of_time (time.Amount e scale) = expression e

    of_wait : (t : Option NodeTime) → AllByRecursion (Told k) (wait_reads t)
    of_wait None = tt
    of_wait (Some t) = of_time t

    next : (es : List ℕ) → ((e : ℕ) → In e es → ByChannel k e) → AllByRecursion (Told k) (notified_next es)
    next [] h = tt
    next (e ∷ es) h = (inl (refl, h e (inl refl)), next es (λ f i. h f (inr i)))

  pub told_by : (names : Scope) (k : NodeKind) → FitsNode names events k → AllByRecursion (Told k) (touched_by events k)
  told_by names (kind.Set n e) h = expression (kind.Set n e) e
  told_by names (kind.Store x i e) h = (tt, both (kind.Store x i e) (reads_of e) (index_reads i) (expression (kind.Store x i e) e) (index (kind.Store x i e) i))
  told_by names (kind.Test e no_to) h = expression (kind.Test e no_to) e
  told_by names kind.Goto h = tt
  told_by names (kind.PrintText text) h = tt
  told_by names (kind.PrintValue e) h = expression (kind.PrintValue e) e
  told_by names kind.PrintTime h = tt
  told_by names (kind.Write c e) h = (
    tt,
    both (kind.Write c e) (reads_of e) (notified_next (numbers_where (is_of_signal c) 0 events)) (expression (kind.Write c e) e)
        (next (kind.Write c e) (numbers_where (is_of_signal c) 0 events) (λ f i. event_numbered events (is_of_signal c) f i)),
  )
  told_by names (kind.TestAvailable c no_to) h = (tt, tt)
  told_by names (kind.TestFree c no_to) h = (tt, tt)
  told_by names (kind.Take c n) h = (tt, next (kind.Take c n) (numbers_where (is_data_read c) 0 events) (λ f i. event_numbered events (is_data_read c) f i))
  told_by names (kind.Put c e) h = (
    tt,
    both (kind.Put c e) (reads_of e) (notified_next (numbers_where (is_data_written c) 0 events)) (expression (kind.Put c e) e)
        (next (kind.Put c e) (numbers_where (is_data_written c) 0 events) (λ f i. event_numbered events (is_data_written c) f i)),
  )
  told_by names (kind.Notify e t) h = (inr h.0, of_time (kind.Notify e t) t)
  told_by names (kind.Cancel e) h = (h, tt)
  told_by names kind.Stop h = tt
  told_by names (kind.Trigger w) h = of_wait (kind.Trigger w) w.time
  told_by names (kind.Wait w) h = of_wait (kind.Wait w) w.time
  told_by names kind.End h = tt

  by_signal : (c : ℕ) (b : BoundEvent) → is_of_signal c b ≡ true → maker b ≡ WritesSignal c
  by_signal c event.Own h = absurd cc
  by_signal c (event.Changed d) h = ap WritesSignal (sym (eqb-true c d h))
  by_signal c (event.Rise d) h = ap WritesSignal (sym (eqb-true c d h))
  by_signal c (event.Fall d) h = ap WritesSignal (sym (eqb-true c d h))
  by_signal c (event.Written d) h = absurd cc
  by_signal c (event.Taken d) h = absurd cc

  by_data_read : (c : ℕ) (b : BoundEvent) → is_data_read c b ≡ true → maker b ≡ HoldsReading c
  by_data_read c event.Own h = absurd cc
  by_data_read c (event.Changed d) h = absurd cc
  by_data_read c (event.Rise d) h = absurd cc
  by_data_read c (event.Fall d) h = absurd cc
  by_data_read c (event.Written d) h = absurd cc
  by_data_read c (event.Taken d) h = ap HoldsReading (sym (eqb-true c d h))

  by_data_written : (c : ℕ) (b : BoundEvent) → is_data_written c b ≡ true → maker b ≡ HoldsWriting c
  by_data_written c event.Own h = absurd cc
  by_data_written c (event.Changed d) h = absurd cc
  by_data_written c (event.Rise d) h = absurd cc
  by_data_written c (event.Fall d) h = absurd cc
  by_data_written c (event.Written d) h = ap HoldsWriting (sym (eqb-true c d h))
  by_data_written c (event.Taken d) h = absurd cc

  -- what a node makes by a channel is an event of that channel, and the node has the channel's touch
  pub record MadeBy (k : NodeKind) (e : ℕ) : Type 0 where
    pub made : BoundEvent
    pub is : slice_get events e ≡ Some made
    pub touches : In (maker made) (touched_by events k)
    pub channel : made ≢ event.Own

  not_signal : (c : ℕ) (b : BoundEvent) → is_of_signal c b ≡ true → b ≢ event.Own
  not_signal c event.Own h = absurd cc
  not_signal c (event.Changed d) h = λ e. absurd cc
  not_signal c (event.Rise d) h = λ e. absurd cc
  not_signal c (event.Fall d) h = λ e. absurd cc
  not_signal c (event.Written d) h = λ e. absurd cc
  not_signal c (event.Taken d) h = λ e. absurd cc

  not_read : (c : ℕ) (b : BoundEvent) → is_data_read c b ≡ true → b ≢ event.Own
  not_read c event.Own h = absurd cc
  not_read c (event.Changed d) h = λ e. absurd cc
  not_read c (event.Rise d) h = λ e. absurd cc
  not_read c (event.Fall d) h = λ e. absurd cc
  not_read c (event.Written d) h = λ e. absurd cc
  not_read c (event.Taken d) h = λ e. absurd cc

  not_written : (c : ℕ) (b : BoundEvent) → is_data_written c b ≡ true → b ≢ event.Own
  not_written c event.Own h = absurd cc
  not_written c (event.Changed d) h = λ e. absurd cc
  not_written c (event.Rise d) h = λ e. absurd cc
  not_written c (event.Fall d) h = λ e. absurd cc
  not_written c (event.Written d) h = λ e. absurd cc
  not_written c (event.Taken d) h = λ e. absurd cc

  pub made_by : (k : NodeKind) (e : ℕ) → ByChannel k e → MadeBy k e
  made_by (kind.Write c x) e h = record { made = h.event; is = h.is; touches = inl (by_signal c h.event h.passes); channel = not_signal c h.event h.passes }
  made_by (kind.Take c n) e h = record { made = h.event; is = h.is; touches = inl (by_data_read c h.event h.passes); channel = not_read c h.event h.passes }
  made_by (kind.Put c x) e h = record { made = h.event; is = h.is; touches = inl (by_data_written c h.event h.passes); channel = not_written c h.event h.passes }
  made_by (kind.Set n x) e h = absurd h
  made_by (kind.Store x i y) e h = absurd h
  made_by (kind.Test x no_to) e h = absurd h
  made_by kind.Goto e h = absurd h
  made_by (kind.PrintText text) e h = absurd h
  made_by (kind.PrintValue x) e h = absurd h
  made_by kind.PrintTime e h = absurd h
  made_by (kind.TestAvailable c no_to) e h = absurd h
  made_by (kind.TestFree c no_to) e h = absurd h
  made_by (kind.Notify f t) e h = absurd h
  made_by (kind.Cancel f) e h = absurd h
  made_by kind.Stop e h = absurd h
  made_by (kind.Trigger w) e h = absurd h
  made_by (kind.Wait w) e h = absurd h
  made_by kind.End e h = absurd h
