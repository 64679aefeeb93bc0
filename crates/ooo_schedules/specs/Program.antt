-- A design of processes, variables, events, signals and fifos, over any activation: what its access must say.
use Rattle.std.specs.Prelude.{◌≡◌, ◌≢◌, ℕ, ◌<◌, ◌≤◌, ◌⊎◌, Bool, true, false, not, ◌&&◌, ◌||◌, ◌==◌, List, [], ◌∷◌, Option, Some, None, if◌then◌else◌}
use Rattle.ooo_time.specs.declared.time.Time.{Time}
use Rattle.ooo_time.specs.declared.stamp.Stamp.{Stamp}
use Rattle.ooo_time.specs.declared.delay.Delay.{Delay}
use Rattle.ooo_time.specs.Stamps.{IsBefore, is_before, stamp_after}
use Rattle.ooo_time.specs.Delays.{advanced}
use Rattle.ooo_value.specs.declared.bound.BoundEvent.{BoundEvent}
use Rattle.ooo_value.specs.declared.bound.BoundEvent.TheVariants as event
use Rattle.ooo_value.specs.declared.values.Value.{Value}
use Rattle.ooo_value.specs.Values.{truth_of}
use Rattle.ooo_code.specs.declared.activation.Effect.{Effect}
use Rattle.ooo_code.specs.declared.activation.Effect.TheVariants as effect
use Rattle.ooo_code.specs.Channels.{same_value}
use Rattle.ooo_meaning.specs.World.{next_delta}
use Rattle.ooo_schedules.specs.Model.{Act, In}
use Rattle.ooo_schedules.specs.Delays.{NotAfter, Edges, LeadsTo, Reach, one_delta}
use Rattle.ooo_schedules.specs.Slots.{Call, Notify, Cancel, Event, calls_at, first_of}
use Rattle.ooo_schedules.specs.Design.{Wait, Design}

-- how an activation left its process: with a segment that runs next, a time-out and events, or ended
pub data Left : Type 0 where
  Waits : (next : ℕ) → (time : Option Time) → (events : List ℕ) → Left
  Ended : Left

-- what an activation did: its effects in order, and how it left its process (cells, output and frame are of no matter here)
pub record Deed : Type 0 where
  pub effects : List Effect
  pub left : Left

pub record Program : Type 1 where
  pub Reads : Type 0
  pub edges : Edges
  -- what each event is of, and the value that its signal starts with
  pub origin : ℕ → BoundEvent
  pub first_value : ℕ → Value
  pub process_of : ℕ → ℕ
  -- the clash table; and the access of a segment: the events that it notifies or cancels, and those on which its entry waits
  pub clash : ℕ → ℕ → Bool → Bool
  pub notifies : ℕ → ℕ → Type 0
  pub waits_on : ℕ → ℕ → Type 0
  -- the activation
  pub act : Act Stamp Reads → Deed
  -- how a process starts
  pub start : ℕ → Option (Wait Stamp)
  pub look : ℕ → ℕ → Stamp → Option (Act Stamp Reads) → List (Act Stamp Reads) → Reads
  pub processes : ℕ
  pub stop : Time
  pub limit : ℕ
  -- an activation that faulted or reached the statement limit; one that called sc_stop
  pub breaks : Act Stamp Reads → Bool
  pub stops : Act Stamp Reads → Bool

abbrev pub ActIn : Program → Type 0
ActIn p = Act Stamp p.Reads

-- ---- what an activation does to an event, the last first

abbrev pub own_calls : Stamp → ℕ → List (Call Stamp) → List Effect → List (Call Stamp)
own_calls s e cs [] = cs
own_calls s e cs (effect.Notify f k ∷ es) = own_calls s e (if f == e then Notify (stamp_after s k) ∷ cs else cs) es
own_calls s e cs (effect.Cancel f ∷ es) = own_calls s e (if f == e then Cancel ∷ cs else cs) es
own_calls s e cs (effect.Request c v ∷ es) = own_calls s e cs es
own_calls s e cs (effect.Put c v ∷ es) = own_calls s e cs es
own_calls s e cs (effect.Take c ∷ es) = own_calls s e cs es
own_calls s e cs (effect.Stop ∷ es) = own_calls s e cs es

-- the last value requested of a signal
abbrev pub requested : ℕ → Option Value → List Effect → Option Value
requested c v [] = v
requested c v (effect.Request f w ∷ es) = requested c (if f == c then Some w else v) es
requested c v (effect.Put f w ∷ es) = requested c v es
requested c v (effect.Take f ∷ es) = requested c v es
requested c v (effect.Notify f k ∷ es) = requested c v es
requested c v (effect.Cancel f ∷ es) = requested c v es
requested c v (effect.Stop ∷ es) = requested c v es

abbrev pub has_put : ℕ → List Effect → Bool
has_put c [] = false
has_put c (effect.Put f w ∷ es) = (f == c) || has_put c es
has_put c (effect.Request f w ∷ es) = has_put c es
has_put c (effect.Take f ∷ es) = has_put c es
has_put c (effect.Notify f k ∷ es) = has_put c es
has_put c (effect.Cancel f ∷ es) = has_put c es
has_put c (effect.Stop ∷ es) = has_put c es

abbrev pub has_taken : ℕ → List Effect → Bool
has_taken c [] = false
has_taken c (effect.Take f ∷ es) = (f == c) || has_taken c es
has_taken c (effect.Put f w ∷ es) = has_taken c es
has_taken c (effect.Request f w ∷ es) = has_taken c es
has_taken c (effect.Notify f k ∷ es) = has_taken c es
has_taken c (effect.Cancel f ∷ es) = has_taken c es
has_taken c (effect.Stop ∷ es) = has_taken c es

-- the event, and for those of a signal the signal's value after the last update
pub record Slot : Type 0 where
  pub event : Event Stamp
  pub value : Value

abbrev pub when : Bool → Stamp → List (Call Stamp)
when true s = Notify (next_delta s) ∷ []
when false s = []

-- which changed values an event of a signal tells
abbrev pub any_value : Value → Bool
any_value v = true

abbrev pub rises : Value → Bool
rises v = truth_of v

abbrev pub falls : Value → Bool
falls v = not (truth_of v)

abbrev pub changed_calls : Stamp → (Value → Bool) → Value → Option Value → List (Call Stamp)
changed_calls s test old None = []
changed_calls s test old (Some v) = when (not (same_value old v) && test v) s

abbrev pub calls_of : Stamp → ℕ → BoundEvent → Value → List Effect → List (Call Stamp)
calls_of s e event.Own old es = own_calls s e [] es
calls_of s e (event.Changed c) old es = changed_calls s any_value old (requested c None es)
calls_of s e (event.Rise c) old es = changed_calls s rises old (requested c None es)
calls_of s e (event.Fall c) old es = changed_calls s falls old (requested c None es)
calls_of s e (event.Written c) old es = when (has_put c es) s
calls_of s e (event.Taken c) old es = when (has_taken c es) s

abbrev pub value_or : Value → Option Value → Value
value_or old None = old
value_or old (Some v) = v

abbrev pub value_of : BoundEvent → Value → List Effect → Value
value_of event.Own old es = old
value_of (event.Changed c) old es = value_or old (requested c None es)
value_of (event.Rise c) old es = value_or old (requested c None es)
value_of (event.Fall c) old es = value_or old (requested c None es)
value_of (event.Written c) old es = old
value_of (event.Taken c) old es = old

abbrev pub is_some : Option Value → Bool
is_some None = false
is_some (Some v) = true

abbrev pub is_any : List (Call Stamp) → Bool
is_any [] = false
is_any (c ∷ cs) = true

abbrev pub touches_by : Stamp → ℕ → BoundEvent → List Effect → Bool
touches_by s e event.Own es = is_any (own_calls s e [] es)
touches_by s e (event.Changed c) es = is_some (requested c None es)
touches_by s e (event.Rise c) es = is_some (requested c None es)
touches_by s e (event.Fall c) es = is_some (requested c None es)
touches_by s e (event.Written c) es = has_put c es
touches_by s e (event.Taken c) es = has_taken c es

abbrev pub touches : (p : Program) → ℕ → ActIn p → Bool
touches p e x = touches_by x.stamp e (p.origin e) (p.act x).effects

abbrev pub step : (p : Program) → ℕ → ActIn p → Slot → Slot
step p e x s = record {
  event = calls_at Stamp is_before x.stamp (calls_of x.stamp e (p.origin e) s.value (p.act x).effects) s.event;
  value = value_of (p.origin e) s.value (p.act x).effects;
}

-- ---- waits

abbrev pub time_out : Stamp → Option Time → Option Stamp
time_out s None = None
time_out s (Some k) = Some (stamp_after s k)

abbrev pub wait_left : Stamp → Left → Option (Wait Stamp)
wait_left s (Waits next time events) = Some (record { segment = next; timeout = time_out s time; events = events; since = Some s })
wait_left s Ended = None

abbrev pub wait_by : (p : Program) → ℕ → Option (ActIn p) → Option (Wait Stamp)
wait_by p q None = p.start q
wait_by p q (Some z) = wait_left z.stamp (p.act z).left

-- ---- what may be seen: the process's own activations, and all that clash

abbrev pub sees : (p : Program) → ℕ → ℕ → Stamp → ActIn p → Bool
sees p q g s y = (y.process == q) || (p.clash y.segment g false || (is_before y.stamp s && p.clash y.segment g true))

-- a fault cuts off its own place and what comes after it; sc_stop what comes after its cycle
abbrev pub cuts : (p : Program) → ActIn p → Stamp → ℕ → Type 0
cuts p y s q = (p.breaks y ≡ true) × (IsBefore y.stamp s ⊎ (y.stamp ≡ s) × (y.process ≤ q)) ⊎ (p.stops y ≡ true) × IsBefore y.stamp s

abbrev pub design : Program → Design
design p = record {
  Stamp = Stamp;
  Reads = p.Reads;
  before = IsBefore;
  is_before = is_before;
  process_of = p.process_of;
  Clash = λ a b strict. p.clash a b strict ≡ true;
  Wakes = λ a b. (e : ℕ) × p.notifies a e × p.waits_on b e;
  Reaches = Reach p.edges;
  LeadsTo = LeadsTo p.edges;
  Slot = Slot;
  no_slot = λ e. record { event = record { fired = []; pending = None }; value = p.first_value e };
  touches = touches p;
  step = step p;
  first = λ s since. first_of Stamp is_before s.event since;
  wait = wait_by p;
  sees = sees p;
  look = p.look;
  processes = p.processes;
  Within = λ s. s.time.0 ≤ p.stop.0;
  AtLimit = λ s. s.delta ≡ p.limit;
  Cuts = cuts p;
}

-- ---- what the access and the edges must say of the activation

-- some edge is no longer than this notification or time-out
abbrev pub IsEdgeFor : (p : Program) → ℕ → Stamp → Time → ℕ → Type 0
IsEdgeFor p a s k b = (d : Delay) × p.edges.Edge a d b × NotAfter (advanced s d) (stamp_after s k)

pub record Sound (p : Program) : Type 0 where
  -- an activation touches only events of its segment's access, and its notifications are along edges
  pub notified : (e : ℕ) (x : ActIn p) → touches p e x ≡ true → p.notifies x.segment e
  pub own_edge : (x : ActIn p) (e : ℕ) (k : Time) (b : ℕ) → p.origin e ≡ event.Own → In (effect.Notify e k) (p.act x).effects → p.waits_on b e → IsEdgeFor p x.segment x.stamp k b
  pub channel_edge : (a e b : ℕ) → p.origin e ≢ event.Own → p.notifies a e → p.waits_on b e → p.edges.Edge a one_delta b
  -- a channel's event is made by one process; two segments that notify or cancel an own event clash
  pub one_maker : (a b e : ℕ) → p.origin e ≢ event.Own → p.notifies a e → p.notifies b e → p.process_of a ≡ p.process_of b
  pub own_clash : (a b e : ℕ) → p.origin e ≡ event.Own → p.notifies a e → p.notifies b e → p.clash a b false ≡ true
  pub wake_clash : (a b e : ℕ) → p.notifies a e → p.waits_on b e → p.clash a b true ≡ true
  pub mirrored : (a b : ℕ) → p.clash a b false ≡ true → p.clash b a false ≡ true
  -- waits: the next segment is of the process, along an edge, and its entry waits on the events
  pub next : (x : ActIn p) (n : ℕ) (t : Option Time) (es : List ℕ) → (p.act x).left ≡ Waits n t es → p.process_of n ≡ p.process_of x.segment
  pub next_time : (x : ActIn p) (n : ℕ) (k : Time) (es : List ℕ) → (p.act x).left ≡ Waits n (Some k) es → IsEdgeFor p x.segment x.stamp k n
  pub next_event : (x : ActIn p) (n : ℕ) (t : Option Time) (es : List ℕ) (e : ℕ) → (p.act x).left ≡ Waits n t es → In e es → p.edges.Edge x.segment one_delta n
  pub next_waits : (x : ActIn p) (n : ℕ) (t : Option Time) (es : List ℕ) (e : ℕ) → (p.act x).left ≡ Waits n t es → In e es → p.waits_on n e
  pub start_owner : (q : ℕ) (w : Wait Stamp) → p.start q ≡ Some w → p.process_of w.segment ≡ q
  pub start_waits : (q : ℕ) (w : Wait Stamp) (e : ℕ) → p.start q ≡ Some w → In e w.events → p.waits_on w.segment e
  pub next_process : (x : ActIn p) (n : ℕ) (t : Option Time) (es : List ℕ) → (p.act x).left ≡ Waits n t es → p.process_of n < p.processes
  pub starting : (q : ℕ) (w : Wait Stamp) → p.start q ≡ Some w → q < p.processes
