-- The lists of an access, by what was told; and the definition's access, by the nodes of a segment.
use Rattle.std.proofs.Common.{◌≡◌, ℕ, List, [], ◌∷◌, refl, sym, subst, inl, inr, ◌↔◌, Option, Some, None, Bool, true, false, cond}
use Rattle.std.specs.Prelude.{Contains, slice_get, IsSomeAnd}
use Rattle.std.proofs.lemmas.List.Elements.{Contains-append_left, Contains-append_right, Contains-append_cases}
use Rattle.ooo_lemmas.proofs.Contained.{not_in_none, in_first, in_later, first_or_later}
use Rattle.ooo_time.specs.declared.time.Time.{Time}
use Rattle.ooo_value.specs.declared.bound.BoundEvent.{BoundEvent}
use Rattle.ooo_value.specs.declared.bound.ProcessKind.{ProcessKind}
use Rattle.ooo_value.specs.declared.bound.ProcessKind.TheVariants.{Thread, Method}
use Rattle.ooo_code.specs.declared.design.Design.{Design}
use Rattle.ooo_code.specs.declared.design.Proc.{Proc}
use Rattle.ooo_code.specs.declared.node.Node.{Node}
use Rattle.ooo_code.specs.declared.segment.Segment.{Segment}
use Rattle.ooo_code.specs.declared.segment.SegmentEntry.{SegmentEntry}
use Rattle.ooo_code.specs.declared.segment.SegmentEntry.TheVariants.{Start, After}
use Rattle.ooo_code.specs.Segments.{Accesses, EntryWaitsOn, StartWaitsOn, IsTriggerOf, InSegment, IsSegmentOf, trigger_events, wait_events}
use Rattle.ooo_code.specs.Touches.{Touch, Reads, Writes, ReadsSignal, WritesSignal, HoldsReading, HoldsWriting, Notifies, Cancels, touched_by}
use Rattle.ooo_access.specs.declared.access.Access.{Access}
use Rattle.ooo_access.specs.declared.told.Told.{Told}
use Rattle.ooo_access.specs.declared.told.Part.TheVariants as part
use Rattle.ooo_access.specs.Access.{AreThose, Lists, IsAccessOf}
use Rattle.ooo_access.specs.Told.{all_meant, touched_at, touched_of, triggers_at, triggers_of, waits_at, start_waits, entry_waits, IsTold}
use Rattle.ooo_access.proofs.PartLemmas.{read_part, written_part, signal_read_part, signal_written_part, taken_part, put_part, cancelled_part}

both_ways : {A B C : Type 0} → A ↔ B → B ↔ C → A ↔ C
both_ways p q = (λ a. q.0 (p.0 a), λ c. p.1 (q.1 c))

-- the lists of an access by what was told
pub gathered : (events : List BoundEvent) (told : List Told) (W : ℕ → Type 0) (a : Access) →
    AreThose (λ n. IsTold part.Read n told) a.read → AreThose (λ n. IsTold part.Written n told) a.written →
    AreThose (λ n. IsTold part.SignalsRead n told) a.signals_read → AreThose (λ n. IsTold part.SignalsWritten n told) a.signals_written →
    AreThose (λ n. IsTold part.Takes n told) a.takes → AreThose (λ n. IsTold part.Puts n told) a.puts →
    AreThose (λ n. IsTold part.Cancelled n told) a.cancelled →
    ((e : ℕ) (t : Option Time) → Contains a.notified (e, t) ↔ Contains (all_meant events told) (Notifies e t)) →
    AreThose W a.waited → Lists (Contains (all_meant events told)) W a
gathered events told W a r w sr sw ta pu ca nt wa = record {
  read = λ x. both_ways (r x) (read_part events told x);
  written = λ x. both_ways (w x) (written_part events told x);
  signals_read = λ x. both_ways (sr x) (signal_read_part events told x);
  signals_written = λ x. both_ways (sw x) (signal_written_part events told x);
  takes = λ x. both_ways (ta x) (taken_part events told x);
  puts = λ x. both_ways (pu x) (put_part events told x);
  cancelled = λ x. both_ways (ca x) (cancelled_part events told x);
  notified = nt;
  waited = wa;
}

-- the same lists, of what is touched and waited on in other words
pub same_lists : (xs ys : List Touch) (V W : ℕ → Type 0) (a : Access) → xs ≡ ys → ((e : ℕ) → V e ↔ W e) → Lists (Contains xs) V a → Lists (Contains ys) W a
same_lists xs ys V W a same waits lists =
    let h = subst (λ zs. Lists (Contains zs) V a) same lists in
    record {
      read = h.read;
      written = h.written;
      signals_read = h.signals_read;
      signals_written = h.signals_written;
      takes = h.takes;
      puts = h.puts;
      cancelled = h.cancelled;
      notified = h.notified;
      waited = λ e. both_ways (h.waited e) (waits e);
    }

-- ---- the definition's access

-- what the nodes touch, one of them touches
pub record TouchedBy (design : Design) (nodes : List ℕ) (x : Touch) : Type 0 where
  pub number : ℕ
  pub among : Contains nodes number
  pub at : Contains (touched_at design.events (slice_get design.nodes number)) x

touched_from : (design : Design) (nodes : List ℕ) (x : Touch) → Contains (touched_of design nodes) x → TouchedBy design nodes x
unfolding touched_of
touched_from design [] x h = absurd (not_in_none x h)
touched_from design (n ∷ ns) x h =
    elim (Contains-append_cases (touched_at design.events (slice_get design.nodes n)) (touched_of design ns) x h) [
      | inl a ↦ record { number = n; among = in_first n ns; at = a }
      | inr a ↦ let r = touched_from design ns x a in record { number = r.number; among = in_later n r.number ns r.among; at = r.at }
    ]

touched_in : (design : Design) (nodes : List ℕ) (n : ℕ) (x : Touch) → Contains nodes n → Contains (touched_at design.events (slice_get design.nodes n)) x → Contains (touched_of design nodes) x
unfolding touched_of
touched_in design [] n x h m = absurd (not_in_none n h)
touched_in design (k ∷ ks) n x h m =
    elim (first_or_later k n ks h) [
      | inl e ↦ Contains-append_left (touched_at design.events (slice_get design.nodes k)) (touched_of design ks) x (subst (λ w. Contains (touched_at design.events (slice_get design.nodes w)) x) (sym e) m)
      | inr a ↦ Contains-append_right (touched_at design.events (slice_get design.nodes k)) (touched_of design ks) x (touched_in design ks n x a m)
    ]

node_there : (design : Design) (o : Option Node) (x : Touch) → Contains (touched_at design.events o) x → (node : Node) × (o ≡ Some node) × Contains (touched_by design.events node.kind) x
node_there design None x h = absurd (not_in_none x h)
node_there design (Some node) x h = (node, refl, h)

-- the segment touches just what its nodes touch
accesses_are : (design : Design) (process : Proc) (s : Segment) (x : Touch) → IsSegmentOf design process s → Contains (touched_of design s.nodes) x ↔ Accesses design process s.entry x
accesses_are design process s x is = (
  λ h.
      let t = touched_from design s.nodes x h in
      let n = node_there design (slice_get design.nodes t.number) x t.at in
      record { number = t.number; node = n.0; within = (is.nodes t.number).0 t.among; is = n.1; touches = n.2 },
  λ a. touched_in design s.nodes a.number x ((is.nodes a.number).1 a.within) (rw a.is a.touches),
)

-- what the nodes' triggers name, one of them names
pub record NamedBy (design : Design) (nodes : List ℕ) (e : ℕ) : Type 0 where
  pub number : ℕ
  pub among : Contains nodes number
  pub at : Contains (triggers_at (slice_get design.nodes number)) e

named_from : (design : Design) (nodes : List ℕ) (e : ℕ) → Contains (triggers_of design nodes) e → NamedBy design nodes e
unfolding triggers_of
named_from design [] e h = absurd (not_in_none e h)
named_from design (n ∷ ns) e h =
    elim (Contains-append_cases (triggers_at (slice_get design.nodes n)) (triggers_of design ns) e h) [
      | inl a ↦ record { number = n; among = in_first n ns; at = a }
      | inr a ↦ let r = named_from design ns e a in record { number = r.number; among = in_later n r.number ns r.among; at = r.at }
    ]

named_in : (design : Design) (nodes : List ℕ) (n e : ℕ) → Contains nodes n → Contains (triggers_at (slice_get design.nodes n)) e → Contains (triggers_of design nodes) e
unfolding triggers_of
named_in design [] n e h m = absurd (not_in_none n h)
named_in design (k ∷ ks) n e h m =
    elim (first_or_later k n ks h) [
      | inl q ↦ Contains-append_left (triggers_at (slice_get design.nodes k)) (triggers_of design ks) e (subst (λ w. Contains (triggers_at (slice_get design.nodes w)) e) (sym q) m)
      | inr a ↦ Contains-append_right (triggers_at (slice_get design.nodes k)) (triggers_of design ks) e (named_in design ks n e a m)
    ]

trigger_there : (o : Option Node) (e : ℕ) → Contains (triggers_at o) e → (node : Node) × (o ≡ Some node) × Contains (trigger_events node.kind) e
trigger_there None e h = absurd (not_in_none e h)
trigger_there (Some node) e h = (node, refl, h)

-- the triggers of a method's segment are just those that its nodes name
triggers_are : (design : Design) (process : Proc) (nodes : List ℕ) (e : ℕ) → ((n : ℕ) → Contains nodes n ↔ InSegment design process Start n) → Contains (triggers_of design nodes) e ↔ IsTriggerOf design process e
triggers_are design process nodes e is = (
  λ h.
      let t = named_from design nodes e h in
      let n = trigger_there (slice_get design.nodes t.number) e t.at in
      record { number = t.number; node = n.0; within = (is t.number).0 t.among; is = n.1; names = n.2 },
  λ a. named_in design nodes a.number e ((is a.number).1 a.within) (rw a.is a.names),
)

thread_waits : (b : Bool) (xs : List ℕ) (e : ℕ) → Contains (cond b [] xs) e ↔ ((b ≡ false) × Contains xs e)
thread_waits true xs e = (λ h. absurd (not_in_none e h), λ h. absurd (let f = h.0 in cc))
thread_waits false xs e = (λ h. (refl, h), λ h. h.1)

start_waits_are : (design : Design) (process : Proc) (nodes : List ℕ) (k : ProcessKind) (e : ℕ) → ((n : ℕ) → Contains nodes n ↔ InSegment design process Start n) → Contains (start_waits design process nodes k) e ↔ StartWaitsOn design process k e
start_waits_are design process nodes Thread e is = thread_waits process.initialize process.sensitive e
start_waits_are design process nodes Method e is = (
  λ h. elim (Contains-append_cases process.sensitive (triggers_of design nodes) e h) [ inl a ↦ inl a | inr a ↦ inr ((triggers_are design process nodes e is).0 a) ],
  λ h. elim h [ inl a ↦ Contains-append_left process.sensitive (triggers_of design nodes) e a | inr a ↦ Contains-append_right process.sensitive (triggers_of design nodes) e ((triggers_are design process nodes e is).1 a) ],
)

wait_there : (o : Option Node) (e : ℕ) → Contains (waits_at o) e ↔ IsSomeAnd o (λ node. Contains (wait_events node.kind) e)
wait_there None e = (λ h. not_in_none e h, λ h. absurd h)
wait_there (Some node) e = (λ h. h, λ h. h)

-- the entry waits on just these events
waits_are : (design : Design) (process : Proc) (nodes : List ℕ) (entry : SegmentEntry) (e : ℕ) → ((n : ℕ) → Contains nodes n ↔ InSegment design process entry n) → Contains (entry_waits design process nodes entry) e ↔ EntryWaitsOn design process entry e
waits_are design process nodes Start e is = start_waits_are design process nodes process.kind e is
waits_are design process nodes (After wait) e is = wait_there (slice_get design.nodes wait) e

-- the access of a segment
pub access_is : (design : Design) (process : Proc) (s : Segment) (a : Access) → IsSegmentOf design process s → Lists (Contains (touched_of design s.nodes)) (Contains (entry_waits design process s.nodes s.entry)) a → IsAccessOf design process s.entry a
access_is design process s a is h = record {
  read = λ x. both_ways (h.read x) (accesses_are design process s (Reads x) is);
  written = λ x. both_ways (h.written x) (accesses_are design process s (Writes x) is);
  signals_read = λ x. both_ways (h.signals_read x) (accesses_are design process s (ReadsSignal x) is);
  signals_written = λ x. both_ways (h.signals_written x) (accesses_are design process s (WritesSignal x) is);
  takes = λ x. both_ways (h.takes x) (accesses_are design process s (HoldsReading x) is);
  puts = λ x. both_ways (h.puts x) (accesses_are design process s (HoldsWriting x) is);
  cancelled = λ x. both_ways (h.cancelled x) (accesses_are design process s (Cancels x) is);
  notified = λ e t. both_ways (h.notified e t) (accesses_are design process s (Notifies e t) is);
  waited = λ e. both_ways (h.waited e) (waits_are design process s.nodes s.entry e is.nodes);
}
