-- What an activation of a sound design does, its segment's access has: it calls events that it notifies or cancels, along edges, and leaves its process to a segment that follows.
use Rattle.std.proofs.Common.{◌≡◌, ℕ, ◌<◌, ◌⊎◌, inl, inr, ⊎_elim, List, [], true, length, Option, Some, None, refl, sym, ap, ◌∙◌, subst, arith}
use Rattle.std.specs.Prelude.{slice_get}
use Rattle.std.proofs.lemmas.Option.{slice_get_past}
use Rattle.ooo_time.specs.declared.time.Time.{Time}
use Rattle.ooo_time.specs.declared.stamp.Stamp.{Stamp}
use Rattle.ooo_time.specs.Stamps.{stamp_after}
use Rattle.ooo_time.specs.Delays.{advanced}
use Rattle.ooo_time.specs.declared.delay.Delay.{Delay}
use Rattle.ooo_value.specs.declared.bound.BoundEvent.TheVariants as event
use Rattle.ooo_code.specs.declared.activation.Effect.{Effect}
use Rattle.ooo_code.specs.declared.activation.Effect.TheVariants as effect
use Rattle.ooo_code.specs.declared.activation.Frame.{Frame}
use Rattle.ooo_code.specs.declared.activation.JobEnd.{JobEnd}
use Rattle.ooo_code.specs.declared.activation.JobEnd.TheVariants as job
use Rattle.ooo_code.specs.declared.activation.WaitOn.{WaitOn}
use Rattle.ooo_code.specs.declared.design.Design.{Design}
use Rattle.ooo_code.specs.declared.design.Proc.{Proc}
use Rattle.ooo_code.specs.declared.segment.Segment.{Segment}
use Rattle.ooo_code.specs.declared.segment.SegmentEntry.{SegmentEntry}
use Rattle.ooo_code.specs.AsSaid.{IsMade, WaitsAs, EndsAs, DoesAsSaid}
use Rattle.ooo_code.specs.Nodes.{by_nodes, run_found}
use Rattle.ooo_code.specs.Outcomes.{View}
use Rattle.ooo_code.specs.Segments.{Accesses}
use Rattle.ooo_code.specs.Sound.{IsSound}
use Rattle.ooo_code.specs.Touches.{Touch, Notifies, Cancels, touched_by}
use Rattle.ooo_conflicts.specs.Clashes.{Calls}
use Rattle.ooo_segments.specs.Edges.{one_delta, delay_after}
use Rattle.ooo_schedules.specs.Delays.{NotAfter, TakesTime}
use Rattle.ooo_schedules.specs.Model.{Act, In}
use Rattle.ooo_schedules.specs.Program.{Waits, Ended, touches_by}
use Rattle.ooo_dispatch.specs.declared.reads.Reads.{Reads}
use Rattle.ooo_dispatch.specs.Rules.{Rules, all_edges, calls, deed_of, entry_of, has, left_by, origin_of, outcome_of, process_of, segment_at, waits_on}
use Rattle.ooo_dispatch.specs.Boards.{AreRules}
use Rattle.ooo_dispatch.proofs.Accessed.{Here, contains_in, in_contained, each_in, here_at, process_at}
use Rattle.ooo_dispatch.proofs.Called.{IsCalled, NodeCalls, node_calls, notified_as, touched}
use Rattle.ooo_dispatch.proofs.Calls.{calls_of, index_cases, waits_there}
use Rattle.ooo_dispatch.proofs.Edges.{by_notice}
use Rattle.ooo_dispatch.proofs.Following.{Step, next_segment, step, waits_next}
use Rattle.ooo_dispatch.proofs.Notices.{notice_fits}
use Rattle.ooo_dispatch.proofs.Segments.{process_is}
use Rattle.ooo_dispatch.proofs.Starts.{below_length}

-- the law of lowered code: an activation does as the nodes of its segment say
abbrev pub Does : Type 0
Does =
    (design : Design) (statements p : ℕ) (process : Proc) (frame : Frame) (v : View) → slice_get design.processes p ≡ Some process →
    DoesAsSaid design process frame.entry (by_nodes design statements p frame v)

abbrev pub Activation : Type 0
Activation = Act Stamp Reads

-- an activation leaves its process waiting where it ends so
record LeftBy (r : Rules) (p : ℕ) (next : SegmentEntry) (end : JobEnd) (n : ℕ) (t : Option Time) (es : List ℕ) : Type 0 where
  on : WaitOn
  end_is : end ≡ job.Waits on
  number : segment_at r p next ≡ n
  time : on.time ≡ t
  events : on.events ≡ es

left_is : (r : Rules) (p : ℕ) (next : SegmentEntry) (end : JobEnd) (n : ℕ) (t : Option Time) (es : List ℕ) → left_by r p next end ≡ Waits n t es → LeftBy r p next end n t es
left_is r p next (job.Waits on) n t es e = parts (segment_at r p next) on.time on.events n t es e refl refl refl
  where
    parts :
        (a : ℕ) (b : Option Time) (c : List ℕ) (n : ℕ) (t : Option Time) (es : List ℕ) → Waits a b c ≡ Waits n t es → segment_at r p next ≡ a → on.time ≡ b → on.events ≡ c →
        LeftBy r p next (job.Waits on) n t es
    parts a b c n t es e x y z =
        record { on = on; end_is = refl; number = x ∙ (let s : a ≡ n = cc in s); time = y ∙ (let s : b ≡ t = cc in s); events = z ∙ (let s : c ≡ es = cc in s) }
left_is r p next job.Ended n t es e = absurd cc
left_is r p next (job.Faulted f line) n t es e = absurd cc
left_is r p next (job.Limit line) n t es e = absurd cc

module _ (r : Rules) (rules : AreRules r) (sound : IsSound r.design) (does : Does) where
  -- an activation of a segment that there is, does as its nodes say
  pub record Acts (x : Activation) : Type 0 where
    pub here : Here r rules sound x.segment
    pub said : DoesAsSaid r.design here.process here.segment.entry (outcome_of r x)

  -- one of a segment that there isn't does nothing
  pub record Rests (x : Activation) : Type 0 where
    pub effects : (deed_of r x).effects ≡ []
    pub left : (deed_of r x).left ≡ Ended

  acts : (x : Activation) → Here r rules sound x.segment → Acts x
  acts x h =
      record {
        here = h;
        said =
            subst (λ e. DoesAsSaid r.design h.process e (outcome_of r x)) entry
            (does r.design r.limits.statements (process_of r x.segment) h.process (record { entry = entry_of r x.segment; slots = x.reads.slots }) (record { stamp = x.stamp; variables = x.reads.variables; seen = x.reads.seen }) process);
      }
    where
      process : slice_get r.design.processes (process_of r x.segment) ≡ Some h.process
      process = ap (slice_get r.design.processes) (process_at r rules sound x.segment h) ∙ h.process_is

      entry : entry_of r x.segment ≡ h.segment.entry
      entry = rw (entry_of, h.segment_is) refl

  rests : (x : Activation) → slice_get r.segments x.segment ≡ None → Rests x
  rests x e = record { effects = ap (λ o. o.deed.effects) outcome; left = ap (λ o. left_by r (process_of r x.segment) o.next.entry o.deed.end) outcome }
    where
      frame : Frame
      frame = record { entry = entry_of r x.segment; slots = x.reads.slots }

      view : View
      view = record { stamp = x.stamp; variables = x.reads.variables; seen = x.reads.seen }

      number : process_of r x.segment ≡ length r.design.processes
      number = rw (process_of, e) refl

      none : slice_get r.design.processes (process_of r x.segment) ≡ None
      none = ap (slice_get r.design.processes) number ∙ slice_get_past r.design.processes (length r.design.processes) (omega arith)

      outcome : run_found r.design r.limits.statements (slice_get r.design.processes (process_of r x.segment)) frame view ≡ run_found r.design r.limits.statements None frame view
      outcome = ap (λ o. run_found r.design r.limits.statements o frame view) none

  pub acting : (x : Activation) → Acts x ⊎ Rests x
  acting x = at (slice_get r.segments x.segment) refl
    where
      at : (o : Option Segment) → slice_get r.segments x.segment ≡ o → Acts x ⊎ Rests x
      at (Some s) e = inl (acts x (here_at r rules sound x.segment s e))
      at None e = inr (rests x e)

  -- ---- what it calls

  pub made : (x : Activation) (a : Acts x) (f : Effect) → In f (deed_of r x).effects → IsMade r.design a.here.process a.here.segment.entry f
  made x a f i = each_in (IsMade r.design a.here.process a.here.segment.entry) (deed_of r x).effects f a.said.effects i

  pub accessed : (x : Activation) (a : Acts x) (f : Effect) (m : IsMade r.design a.here.process a.here.segment.entry f) (t : Touch) → In t (touched_by r.design.events m.node.kind) →
      Accesses r.design a.here.process a.here.segment.entry t
  accessed x a f m t i = record { number = m.number; node = m.node; within = m.within; is = m.is; touches = contains_in (touched_by r.design.events m.node.kind) t i }

  origin_cases : (e : ℕ) → (origin_of r e ≡ event.Own) ⊎ (slice_get r.design.events e ≡ Some (origin_of r e))
  origin_cases e = ⊎_elim (λ x. inr (x.1 ∙ ap (λ b. Some b) (sym x.2))) (λ n. inl n) (index_cases r.design.events e event.Own)

  pub calls_by : (x : Activation) (a : Acts x) (e : ℕ) → IsCalled r.design.events (deed_of r x).effects e → calls r x.segment e ≡ true
  calls_by x a e c = calls_of r x.segment e a.here.access a.here.access_is (at (node_calls r.design.events m.node.kind c.effect e m.makes c.calls))
    where
      m : IsMade r.design a.here.process a.here.segment.entry c.effect
      m = made x a c.effect c.among

      at : NodeCalls r.design.events m.node.kind e → Calls a.here.access e
      at (inl (t, i)) = inl (t, (a.here.accesses.notified e t).1 (accessed x a c.effect m (Notifies e t) i))
      at (inr i) = inr ((a.here.accesses.cancelled e).1 (accessed x a c.effect m (Cancels e) i))

  -- it touches only events that its segment calls
  pub notified : (e : ℕ) (x : Activation) → touches_by x.stamp e (origin_of r e) (deed_of r x).effects ≡ true → calls r x.segment e ≡ true
  notified e x h =
      let c = touched r.design.events x.stamp e (origin_of r e) (deed_of r x).effects (origin_cases e) h in
      ⊎_elim (λ a. calls_by x a e c) (λ n. absurd (subst (λ es. In c.effect es) n.effects c.among)) (acting x)

  -- some edge is no longer than a notification or a time-out
  abbrev pub EdgeFor : ℕ → Stamp → Time → ℕ → Type 0
  EdgeFor g s k n = (d : Delay) × (In (record { from = g; delay = d; to = n }) (all_edges r) × TakesTime d) × NotAfter (advanced s d) (stamp_after s k)

  -- its notifications are along edges
  pub own_edge : (x : Activation) (e : ℕ) (k : Time) (b : ℕ) → In (effect.Notify e k) (deed_of r x).effects → waits_on r b e ≡ true → EdgeFor x.segment x.stamp k b
  own_edge x e k b i w = ⊎_elim (λ a. by a) (λ n. absurd (subst (λ es. In (effect.Notify e k) es) n.effects i)) (acting x)
    where
      by : Acts x → EdgeFor x.segment x.stamp k b
      by a =
          let m = made x a (effect.Notify e k) i in
          let n = notified_as r.design.events m.node.kind e k m.makes in
          let c = (a.here.accesses.notified e n.time).1 (accessed x a (effect.Notify e k) m (Notifies e n.time) n.touches) in
          let j = waits_there r b e w in
          let edge =
          by_notice r x.segment b e n.time a.here.access j.access a.here.access_is j.is (in_contained a.here.access.notified (e, n.time) c)
          (subst (λ z. has z.waited e ≡ true) j.same w)
          in
          (delay_after n.time, (edge, n.takes), notice_fits x.stamp k n.time n.said)

  -- ---- where it leaves its process

  -- it waits as its segment says, and goes on at the segment of this number
  pub record Leaves (x : Activation) (n : ℕ) (t : Option Time) (es : List ℕ) : Type 0 where
    pub here : Here r rules sound x.segment
    pub on : WaitOn
    pub entry : SegmentEntry
    pub said : WaitsAs r.design here.process here.segment.entry on entry
    pub number : segment_at r here.segment.process entry ≡ n
    pub time : on.time ≡ t
    pub events : on.events ≡ es

  pub leaves : (x : Activation) (n : ℕ) (t : Option Time) (es : List ℕ) → (deed_of r x).left ≡ Waits n t es → Leaves x n t es
  leaves x n t es e = ⊎_elim (λ a. by a) (λ a. absurd (let c : Ended ≡ Waits n t es = sym a.left ∙ e in cc)) (acting x)
    where
      by : Acts x → Leaves x n t es
      by a =
          let l = left_is r (process_of r x.segment) (outcome_of r x).next.entry (outcome_of r x).deed.end n t es e in
          record {
            here = a.here;
            on = l.on;
            entry = (outcome_of r x).next.entry;
            said = subst (λ end. EndsAs r.design a.here.process a.here.segment.entry end (outcome_of r x).next.entry) l.end_is a.said.end;
            number = ap (λ p. segment_at r p (outcome_of r x).next.entry) (sym (process_at r rules sound x.segment a.here)) ∙ l.number;
            time = l.time;
            events = l.events;
          }

  module _ (x : Activation) (n : ℕ) (t : Option Time) (es : List ℕ) (l : Leaves x n t es) where
    owner : process_of r n ≡ l.here.segment.process
    owner = ap (process_of r) (sym l.number) ∙ process_is r rules l.here.segment.process l.entry (next_segment r rules sound x.segment l.here l.on l.entry l.said)

    pub next : process_of r n ≡ process_of r x.segment
    next = owner ∙ sym (process_at r rules sound x.segment l.here)

    pub next_process : process_of r n < length r.design.processes
    next_process =
        let lt = below_length r.design.processes l.here.segment.process l.here.process l.here.process_is in
        let e = owner in
        omega (arith, lt, e)

    steps : Step r rules sound x.segment n l.on
    steps = subst (λ m. Step r rules sound x.segment m l.on) l.number (step r rules sound x.segment l.here l.on l.entry l.said)

    pub next_time : (k : Time) → t ≡ Some k → EdgeFor x.segment x.stamp k n
    next_time k e = (steps.delay, (steps.edge, steps.takes), steps.timed x.stamp k (l.time ∙ e))

    pub next_event : (e : ℕ) → In e es → In (record { from = x.segment; delay = one_delta; to = n }) (all_edges r)
    next_event e i = subst (λ d. In (record { from = x.segment; delay = d; to = n }) (all_edges r)) (steps.heard e (subst (λ fs. In e fs) (sym l.events) i)) steps.edge

    pub next_waits : (e : ℕ) → In e es → waits_on r n e ≡ true
    next_waits e i = subst (λ m. waits_on r m e ≡ true) l.number (waits_next r rules sound x.segment l.here l.on l.entry l.said e (subst (λ fs. In e fs) (sym l.events) i))
