-- The events of a channel after one more operation on it.
use Rattle.std.proofs.Common.{◌≡◌, ℕ, ◌≤◌, ◌++◌, ◌==◌, Bool, true, false, arith, List, [], ◌∷◌, refl, ap, sym, subst, ◌∙◌, length, append-nil, eq-eqb, lt-ltb}
use Rattle.ooo_time.specs.declared.stamp.Stamp.{Stamp}
use Rattle.ooo_value.specs.declared.values.Value.{Value}
use Rattle.ooo_value.specs.declared.bound.BoundEvent.{BoundEvent}
use Rattle.ooo_value.specs.declared.bound.BoundEvent.TheVariants as event
use Rattle.ooo_events.specs.declared.call.Call.{Call}
use Rattle.ooo_events.specs.declared.call.Call.TheVariants as call
use Rattle.ooo_code.specs.declared.activation.Effect.TheVariants as effect
use Rattle.ooo_code.specs.Channels.{IsSignal}
use Rattle.ooo_channels.specs.declared.notices.Notice.{Notice}
use Rattle.ooo_channels.specs.declared.signal.SignalState.{SignalState}
use Rattle.ooo_channels.specs.declared.fifo.FifoState.{FifoState}
use Rattle.ooo_channels.specs.Operations.{Operation}
use Rattle.ooo_channels.specs.Cycles.{Cycle, cycle_after}
use Rattle.ooo_channels.specs.Calls.{notifies, bears_on, renewal, renewals}
use Rattle.ooo_channels.specs.Room.{HasSignalRoom, HasFifoRoom}
use Rattle.ooo_channels.specs.Kept.{IsNoticeKept, IsNoticeBy, IsNotice, IsSignalIn, IsFifoIn, IsSignalAfter, IsFifoAfter, AreSignalEventsBy, AreFifoEventsBy}
use Rattle.ooo_channels.specs.Versions.{signal_of}

-- an event on which the operation bears
notice_next :
    (k : BoundEvent) (o : Operation) (y : Cycle) (old new : Notice) (below stamp : Stamp) (calls : List Call) (notified : Bool) →
    bears_on k o.effect ≡ true → notifies k y.channel ≡ notified → stamp ≡ y.stamp → IsNoticeKept below old calls →
    ((cs : List Call) → IsNoticeKept below old cs → IsNoticeKept below new (cs ++ renewal o.at notified ∷ [])) →
    IsNoticeBy stamp new → IsNotice below y.stamp new (calls ++ renewals k y.channel o)
notice_next k o y old new below stamp calls notified bears is same kept more by = record {
  kept = rw (bears, is) (more calls kept);
  by = subst (λ a. IsNoticeBy a new) same by;
}

-- an event on which it doesn't
notice_other :
    (k : BoundEvent) (o : Operation) (y : Cycle) (old new : Notice) (below stamp : Stamp) (calls : List Call) →
    bears_on k o.effect ≡ false → stamp ≡ y.stamp → IsNoticeKept below old calls → new ≡ old →
    IsNoticeBy stamp new → IsNotice below y.stamp new (calls ++ renewals k y.channel o)
notice_other k o y old new below stamp calls bears same kept is by = record {
  kept = rw (bears, append-nil calls, is) kept;
  by = subst (λ a. IsNoticeBy a new) same by;
}

module _ (s t : SignalState) (c : ℕ) (below : Stamp) (x : Cycle) (calls : BoundEvent → List Call) (at : Stamp) (v : Value) where
  -- a signal after a request
  pub signal_next :
      IsSignalAfter c below x calls s → IsSignalIn t (cycle_after x (record { at = at; effect = effect.Request c v })) → AreSignalEventsBy t →
      ((cs : List Call) → IsNoticeKept below s.changes cs → IsNoticeKept below t.changes (cs ++ renewal at (notifies (event.Changed 0) (IsSignal (signal_of t.newest))) ∷ [])) →
      ((cs : List Call) → IsNoticeKept below s.rises cs → IsNoticeKept below t.rises (cs ++ renewal at (notifies (event.Rise 0) (IsSignal (signal_of t.newest))) ∷ [])) →
      ((cs : List Call) → IsNoticeKept below s.falls cs → IsNoticeKept below t.falls (cs ++ renewal at (notifies (event.Fall 0) (IsSignal (signal_of t.newest))) ∷ [])) →
      HasSignalRoom 0 t →
      (let o : Operation = record { at = at; effect = effect.Request c v } in
      IsSignalAfter c below (cycle_after x o) (λ k. calls k ++ renewals k (cycle_after x o).channel o) t)
  signal_next h is by changes rises falls room = record {
    room = room;
    cycle = is;
    changes = notice_next (event.Changed c) o (cycle_after x o) s.changes t.changes below t.newest.stamp (calls (event.Changed c)) _ same (ap (notifies (event.Changed c)) (sym is.channel)) is.stamp h.changes.kept changes by.changes;
    rises = notice_next (event.Rise c) o (cycle_after x o) s.rises t.rises below t.newest.stamp (calls (event.Rise c)) _ same (ap (notifies (event.Rise c)) (sym is.channel)) is.stamp h.rises.kept rises by.rises;
    falls = notice_next (event.Fall c) o (cycle_after x o) s.falls t.falls below t.newest.stamp (calls (event.Fall c)) _ same (ap (notifies (event.Fall c)) (sym is.channel)) is.stamp h.falls.kept falls by.falls;
  } where
    o : Operation
    o = record { at = at; effect = effect.Request c v }

    same : (c == c) ≡ true
    same = eq-eqb c c refl

module _ (s t : FifoState) (c : ℕ) (below : Stamp) (x : Cycle) (calls : BoundEvent → List Call) (at : Stamp) where
  -- a fifo after a put
  pub put_next :
      (v : Value) → IsFifoAfter c below x calls s → IsFifoIn t (cycle_after x (record { at = at; effect = effect.Put c v })) → AreFifoEventsBy t → 1 ≤ t.written →
      ((cs : List Call) → IsNoticeKept below s.puts cs → IsNoticeKept below t.puts (cs ++ call.Notify at (record { 0 = 0 }) ∷ [])) → t.takes ≡ s.takes → HasFifoRoom 0 t →
      (let o : Operation = record { at = at; effect = effect.Put c v } in
      IsFifoAfter c below (cycle_after x o) (λ k. calls k ++ renewals k (cycle_after x o).channel o) t)
  put_next v h is by some puts takes room = record {
    room = room;
    cycle = is;
    puts = notice_next (event.Written c) o (cycle_after x o) s.puts t.puts below t.stamp (calls (event.Written c)) true (eq-eqb c c refl) notified is.stamp h.puts.kept puts by.puts;
    takes = notice_other (event.Taken c) o (cycle_after x o) s.takes t.takes below t.stamp (calls (event.Taken c)) refl is.stamp h.takes.kept takes by.takes;
  } where
    o : Operation
    o = record { at = at; effect = effect.Put c v }

    notified : notifies (event.Written c) (cycle_after x o).channel ≡ true
    notified = ap (notifies (event.Written c)) (sym is.channel) ∙ lt-ltb 0 (length is.fifo.written) (omega (arith, is.written, some))

  -- a fifo after a take
  pub take_next :
      IsFifoAfter c below x calls s → IsFifoIn t (cycle_after x (record { at = at; effect = effect.Take c })) → AreFifoEventsBy t → 1 ≤ t.read →
      ((cs : List Call) → IsNoticeKept below s.takes cs → IsNoticeKept below t.takes (cs ++ call.Notify at (record { 0 = 0 }) ∷ [])) → t.puts ≡ s.puts → HasFifoRoom 0 t →
      (let o : Operation = record { at = at; effect = effect.Take c } in
      IsFifoAfter c below (cycle_after x o) (λ k. calls k ++ renewals k (cycle_after x o).channel o) t)
  take_next h is by some takes puts room = record {
    room = room;
    cycle = is;
    puts = notice_other (event.Written c) o (cycle_after x o) s.puts t.puts below t.stamp (calls (event.Written c)) refl is.stamp h.puts.kept puts by.puts;
    takes = notice_next (event.Taken c) o (cycle_after x o) s.takes t.takes below t.stamp (calls (event.Taken c)) true (eq-eqb c c refl) notified is.stamp h.takes.kept takes by.takes;
  } where
    o : Operation
    o = record { at = at; effect = effect.Take c }

    notified : notifies (event.Taken c) (cycle_after x o).channel ≡ true
    notified = ap (notifies (event.Taken c)) (sym is.channel) ∙ lt-ltb 0 is.fifo.read (omega (arith, is.read, some))
