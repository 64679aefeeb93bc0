-- A design as the board's rule sees it: its segments, what they touch, which clash and which follow which; and what an activation does by what it reads.
use Rattle.std.specs.Prelude.{ℕ, suc, ◌==◌, List, [], ◌∷◌, ◌++◌, length, map, replicate, Bool, true, false, ◌&&◌, ◌||◌, if◌then◌else◌, Option, Some, None, slice_get, slice_index_or, pos}
use Rattle.std.specs.List.{list_any, position_or_len}
use Rattle.ooo_time.specs.declared.time.Time.{Time}
use Rattle.ooo_time.specs.declared.stamp.Stamp.{Stamp}
use Rattle.ooo_value.specs.declared.bound.BoundChannel.{BoundChannel}
use Rattle.ooo_value.specs.declared.bound.BoundEvent.{BoundEvent}
use Rattle.ooo_value.specs.declared.bound.BoundEvent.TheVariants as event
use Rattle.ooo_value.specs.declared.bound.BoundVariable.{BoundVariable}
use Rattle.ooo_value.specs.declared.values.Value.{Value}
use Rattle.ooo_value.specs.Values.{value_of}
use Rattle.ooo_code.specs.declared.activation.Effect.{Effect}
use Rattle.ooo_code.specs.declared.activation.Effect.TheVariants as effect
use Rattle.ooo_code.specs.declared.activation.Frame.{Frame}
use Rattle.ooo_code.specs.declared.activation.JobEnd.{JobEnd}
use Rattle.ooo_code.specs.declared.activation.JobEnd.TheVariants as job
use Rattle.ooo_code.specs.declared.activation.Seen.{Seen}
use Rattle.ooo_code.specs.declared.activation.Seen.TheVariants as seen
use Rattle.ooo_code.specs.declared.design.Design.{Design}
use Rattle.ooo_code.specs.declared.design.Proc.{Proc}
use Rattle.ooo_code.specs.declared.limits.Limits.{Limits}
use Rattle.ooo_code.specs.declared.segment.Segment.{Segment}
use Rattle.ooo_code.specs.declared.segment.SegmentEntry.{SegmentEntry}
use Rattle.ooo_code.specs.declared.segment.SegmentEntry.TheVariants.{Start, After}
use Rattle.ooo_code.specs.Channels.{Channel, IsSignal, IsFifo, available, free_slots, is_time}
use Rattle.ooo_code.specs.Expressions.{no_value}
use Rattle.ooo_code.specs.Nodes.{by_nodes, first_frame}
use Rattle.ooo_code.specs.Outcomes.{Outcome, View}
use Rattle.ooo_meaning.specs.World.{zero_stamp}
use Rattle.ooo_channels.specs.Cycles.{channel_in}
use Rattle.ooo_channels.specs.Operations.{Operations, no_operations, after_effects}
use Rattle.ooo_segments.specs.declared.graphs.Edge.{Edge}
use Rattle.ooo_segments.specs.Edges.{delay_after}
use Rattle.ooo_access.specs.declared.access.Access.{Access}
use Rattle.ooo_conflicts.specs.declared.kind.ClashKind.{ClashKind}
use Rattle.ooo_conflicts.specs.Kinds.{is_clash, kind_at}
use Rattle.ooo_dispatch.specs.declared.reads.Reads.{Reads}
use Rattle.ooo_schedules.specs.Model.{Act}
use Rattle.ooo_schedules.specs.Design.{Wait}
use Rattle.ooo_schedules.specs.Program.{Deed, Left, Waits, Ended}
use Rattle.ooo_schedules.specs.Tables.{EdgeRow, Tables}

-- a design with limits and its tables: the segments in order, the edges within processes, what each segment touches, and which clash
pub record Rules : Type 0 where
  pub design : Design
  pub limits : Limits
  pub segments : List Segment
  pub edges : List Edge
  pub access : List Access
  pub clashes : List (List ClashKind)

-- ---- segments

-- two entries are the same
abbrev pub same_entry : SegmentEntry → SegmentEntry → Bool
same_entry Start Start = true
same_entry (After m) (After n) = m == n
same_entry _ _ = false

-- the number of the segment of process p that begins at an entry
abbrev pub segment_at : Rules → (p : ℕ) → SegmentEntry → ℕ
segment_at r p entry = position_or_len (λ s. (s.process == p) && same_entry s.entry entry) r.segments

-- the process of segment g; of a segment that there isn't, none of the design's
abbrev pub process_of : Rules → (g : ℕ) → ℕ
process_of r g = elim (slice_get r.segments g) [ None ↦ length r.design.processes | Some s ↦ s.process ]

-- where segment g begins
abbrev pub entry_of : Rules → (g : ℕ) → SegmentEntry
entry_of r g = elim (slice_get r.segments g) [ None ↦ Start | Some s ↦ s.entry ]

-- nothing
abbrev pub no_access : Access
no_access = record { read = []; written = []; signals_read = []; signals_written = []; takes = []; puts = []; cancelled = []; waited = []; notified = [] }

-- what segment g touches, and the events on which its entry waits
abbrev pub access_of : Rules → (g : ℕ) → Access
access_of r g = slice_index_or r.access g no_access

-- a number is in a list
abbrev pub has : List ℕ → ℕ → Bool
has xs n = list_any (λ x. x == n) xs

-- segment g notifies or cancels event e
abbrev pub calls : Rules → (g e : ℕ) → Bool
calls r g e = list_any (λ n. n.0 == e) (access_of r g).notified || has (access_of r g).cancelled e

-- the entry of segment g waits on event e
abbrev pub waits_on : Rules → (g e : ℕ) → Bool
waits_on r g e = has (access_of r g).waited e

-- segment g reads or writes variable x
abbrev pub uses : Rules → (g x : ℕ) → Bool
uses r g x = has (access_of r g).read x || has (access_of r g).written x

-- segment b clashes with segment g, strictly or not
abbrev pub clash : Rules → (b g : ℕ) → (strict : Bool) → Bool
clash r b g strict = is_clash (kind_at r.clashes b g) strict

-- ---- edges

-- the edges from segment a to segment b, number `to`, by what a notifies: one for each notification of an event on which the entry of b waits
abbrev pub edges_to : (from to : ℕ) → Access → List (ℕ × Option Time) → List EdgeRow
edges_to from to b [] = []
edges_to from to b (n ∷ ns) =
    if has b.waited n.0 then record { from = from; delay = delay_after n.1; to = to } ∷ edges_to from to b ns else edges_to from to b ns

-- from segment a, number `from`, to each of these, the first of which has the number `to`
abbrev pub edges_from : (from to : ℕ) → Access → List Access → List EdgeRow
edges_from from to a [] = []
edges_from from to a (b ∷ bs) = edges_to from to b a.notified ++ edges_from from (suc to) a bs

-- by the notifications of all of these, the first of which has the number `from`
abbrev pub notice_edges : (access : List Access) → (from : ℕ) → List Access → List EdgeRow
notice_edges access from [] = []
notice_edges access from (a ∷ others) = edges_from from 0 a access ++ notice_edges access (suc from) others

-- an edge within a process
abbrev pub row_of : Edge → EdgeRow
row_of e = record { from = e.from; delay = e.delay; to = e.to }

-- all edges: those within processes, and those by notifications
abbrev pub all_edges : Rules → List EdgeRow
all_edges r = map row_of r.edges ++ notice_edges r.access 0 r.access

-- ---- an activation

-- what a segment sees that reads this at a stamp
abbrev pub view_at : Stamp → Reads → View
view_at s reads = record { stamp = s; variables = reads.variables; seen = reads.seen }

-- what it does, by its nodes
abbrev pub outcome_of : Rules → Act Stamp Reads → Outcome Frame
outcome_of r x =
    by_nodes r.design r.limits.statements (process_of r x.segment) (record { entry = entry_of r x.segment; slots = x.reads.slots })
    (view_at x.stamp x.reads)

-- how it leaves its process: waiting, with the segment that runs next, or not
abbrev pub left_by : Rules → (p : ℕ) → (next : SegmentEntry) → JobEnd → Left
left_by r p next (job.Waits on) = Waits (segment_at r p next) on.time on.events
left_by r p next _ = Ended

-- its effects, and how it leaves its process
abbrev pub deed_of : Rules → Act Stamp Reads → Deed
deed_of r x =
    let o = outcome_of r x in record { effects = o.deed.effects; left = left_by r (process_of r x.segment) o.next.entry o.deed.end }

-- an activation that ends so ends the run
abbrev pub breaks_by : JobEnd → Bool
breaks_by (job.Waits on) = false
breaks_by job.Ended = false
breaks_by (job.Faulted f line) = true
breaks_by (job.Limit line) = true

abbrev pub is_stop : Effect → Bool
is_stop effect.Stop = true
is_stop _ = false

-- ---- what an activation reads, from those before it: the last in order of place comes first

-- the cells of variable x: those of the last activation whose segment writes it, else those that it starts with
abbrev pub cells_after : Rules → (x : ℕ) → List (Act Stamp Reads) → List Value
cells_after r x [] = elim (slice_get r.design.variables x) [ None ↦ [] | Some v ↦ replicate v.length v.start ]
cells_after r x (y ∷ ys) =
    if has (access_of r y.segment).written x then slice_index_or (outcome_of r y).deed.variables x [] else cells_after r x ys

-- the variables of which the first has the number x, as far as segment g uses them
abbrev pub variables_for : Rules → (g x : ℕ) → List BoundVariable → List (Act Stamp Reads) → List (List Value)
variables_for r g x [] ys = []
variables_for r g x (v ∷ vs) ys = (if uses r g x then cells_after r x ys else []) ∷ variables_for r g (suc x) vs ys

-- all effects, at their stamps
abbrev pub operations_of : Rules → List (Act Stamp Reads) → Operations
operations_of r [] = no_operations r.design.channels r.design.events
operations_of r (y ∷ ys) = after_effects y.stamp (operations_of r ys) (deed_of r y).effects

-- what is seen of channel c at a time, where the access has it: a signal, or the ends of a fifo
abbrev pub sight_of : Access → Time → (c : ℕ) → Channel → List Seen
sight_of a now c (IsSignal s) = if has a.signals_read c then seen.Signal c s.current (is_time now s.changed) ∷ [] else []
sight_of a now c (IsFifo f) =
    if has a.takes c || has a.puts c
    then seen.Fifo c (if has a.takes c then available f else []) (if has a.puts c then free_slots f else 0) ∷ []
    else []

-- the same of all channels, of which the first has the number c
abbrev pub sights : Access → Stamp → Operations → (c : ℕ) → List BoundChannel → List Seen
sights a s ops c [] = []
sights a s ops c (x ∷ xs) = sight_of a s.time c (channel_in s ops c) ++ sights a s ops (suc c) xs

-- the locals: as the last activation of the process left them, else as it starts
abbrev pub slots_after : Rules → (p : ℕ) → Option (Act Stamp Reads) → List Value
slots_after r p None = elim (slice_get r.design.processes p) [ None ↦ [] | Some q ↦ (first_frame q).slots ]
slots_after r p (Some x) = (outcome_of r x).next.slots

-- what segment g of process p reads at a stamp, by the last activation of the process and the activations that it may see
abbrev pub reads_at : Rules → (p g : ℕ) → Stamp → Option (Act Stamp Reads) → List (Act Stamp Reads) → Reads
reads_at r p g s last ys = record {
  slots = slots_after r p last;
  variables = variables_for r g 0 r.design.variables ys;
  seen = sights (access_of r g) s (operations_of r ys) 0 r.design.channels;
}

-- ---- as a run starts

-- a process that is initialized is ready at time zero, another one waits on its static events
abbrev pub start_wait : (g : ℕ) → Proc → Wait Stamp
start_wait g q =
    if q.initialize then record { segment = g; timeout = Some zero_stamp; events = []; since = None }
    else record { segment = g; timeout = None; events = q.sensitive; since = None }

abbrev pub start_of : Rules → (p : ℕ) → Option (Wait Stamp)
start_of r p = elim (slice_get r.design.processes p) [ None ↦ None | Some q ↦ Some (start_wait (segment_at r p Start) q) ]

-- a signal starts at 0 of its kind
abbrev pub start_value : List BoundChannel → (c : ℕ) → Value
start_value channels c = elim (slice_get channels c) [ None ↦ no_value | Some b ↦ value_of b.value (pos 0) ]

abbrev pub first_value : List BoundChannel → BoundEvent → Value
first_value channels (event.Changed c) = start_value channels c
first_value channels (event.Rise c) = start_value channels c
first_value channels (event.Fall c) = start_value channels c
first_value channels _ = no_value

abbrev pub origin_of : Rules → (e : ℕ) → BoundEvent
origin_of r e = slice_index_or r.design.events e event.Own

-- ---- all of it

abbrev pub tables : Rules → Tables Reads
tables r = record {
  edges = all_edges r;
  origin = origin_of r;
  first_value = λ e. first_value r.design.channels (origin_of r e);
  process_of = process_of r;
  clash = clash r;
  notifies = calls r;
  waits_on = waits_on r;
  act = deed_of r;
  start = start_of r;
  look = reads_at r;
  processes = length r.design.processes;
  stop = r.limits.stop;
  limit = r.limits.deltas;
  breaks = λ x. breaks_by (outcome_of r x).deed.end;
  stops = λ x. list_any is_stop (deed_of r x).effects;
}
