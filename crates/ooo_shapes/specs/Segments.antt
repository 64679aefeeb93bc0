-- Segments by statements: what a process may come to from what remains of its body without waiting, what that touches, and
-- how it may wait then (IEEE 1666-2011, 4.2.1.2 and 5.2.17). Every test goes both ways, that of a `for` without one too.
-- Values are left out: `no_value` stands for that of a blocking write, for the result of a called function so far, and for
-- each local of its caller.
use Rattle.std.specs.Prelude.{◌≡◌, ℕ, zero, suc, ◌⊎◌, ◌↔◌, List, [], ◌∷◌, ◌++◌, true, if◌then◌else◌, Option, Some, None, slice_get, Contains}
use Rattle.ooo_time.specs.declared.time.Time.{Time}
use Rattle.ooo_value.specs.declared.bound.ProcessKind.TheVariants.{Method}
use Rattle.ooo_code.specs.declared.activation.JobEnd.{JobEnd}
use Rattle.ooo_code.specs.declared.activation.JobEnd.TheVariants as job
use Rattle.ooo_code.specs.declared.activation.WaitOn.{WaitOn}
use Rattle.ooo_code.specs.declared.design.Design.{Design}
use Rattle.ooo_code.specs.declared.design.Proc.{Proc}
use Rattle.ooo_code.specs.declared.node.Node.{Node}
use Rattle.ooo_code.specs.declared.node.NodeKind.{NodeKind}
use Rattle.ooo_code.specs.declared.node.NodeKind.TheVariants as kind
use Rattle.ooo_code.specs.declared.node.NodeTime.{NodeTime}
use Rattle.ooo_code.specs.declared.node.NodeTime.TheVariants as node_time
use Rattle.ooo_code.specs.declared.segment.SegmentEntry.{SegmentEntry}
use Rattle.ooo_code.specs.declared.segment.SegmentEntry.TheVariants.{After}
use Rattle.ooo_code.specs.Expressions.{no_value}
use Rattle.ooo_code.specs.Segments.{InSegment, Accesses, is_wait, trigger_events}
use Rattle.ooo_code.specs.Touches.{Touch}
use Rattle.ooo_bound.specs.declared.expr.BoundExpr.{BoundExpr}
use Rattle.ooo_bound.specs.declared.expr.BoundTime.{BoundTime}
use Rattle.ooo_bound.specs.declared.expr.BoundTime.TheVariants as time
use Rattle.ooo_bound.specs.declared.expr.BoundWait.{BoundWait}
use Rattle.ooo_bound.specs.declared.model.Bound.{Bound}
use Rattle.ooo_bound.specs.declared.model.BoundFunction.{BoundFunction}
use Rattle.ooo_bound.specs.declared.model.BoundProcess.{BoundProcess}
use Rattle.ooo_bound.specs.declared.stat.BoundRight.{BoundRight}
use Rattle.ooo_bound.specs.declared.stat.BoundRight.TheVariants as right
use Rattle.ooo_bound.specs.declared.stat.BoundSimple.{BoundSimple}
use Rattle.ooo_bound.specs.declared.stat.BoundSimple.TheVariants as simple
use Rattle.ooo_bound.specs.declared.stat.BoundTarget.{BoundTarget}
use Rattle.ooo_activation.specs.Activations.{data_written, data_read, returned}
use Rattle.ooo_activation.specs.Items.{Item, Do, Putting, Choose, Begin, Check, Again, Break, Continue, Return, Leave, maybe_do, entered, entered_if, entered_all, opened, after_loop, at_loop}
use Rattle.ooo_activation.specs.Locals.{Locals}
use Rattle.ooo_activation.specs.Touches.{Touched, Called, reads_of, option_reads, arguments_read, target_touches, put_touches, right_touches, simple_touches}

-- the locals of a caller, without their values
abbrev pub no_values : Locals
no_values k n = no_value

-- ---- what may remain once the first item is done, and no wait is passed

-- a called function: its body, and its end behind that
abbrev pub call_goes_to : Option BoundFunction → (line : ℕ) → BoundTarget → (rest : List Item) → List (List Item)
call_goes_to None line t rest = []
call_goes_to (Some f) line t rest = entered_all f.body (Leave line t f.result no_value no_values ∷ rest) ∷ []

abbrev pub assign_goes_to : Bound → (line : ℕ) → BoundTarget → BoundRight → (rest : List Item) → List (List Item)
assign_goes_to b line t (right.Call f args) rest = call_goes_to (slice_get b.functions f) line t rest
assign_goes_to b line t _ rest = rest ∷ []

-- a blocking write goes on to the wait for a free slot, with its value evaluated; what remains behind a `wait` is of the
-- next segment
abbrev pub simple_goes_to : Bound → (line : ℕ) → BoundSimple → (rest : List Item) → List (List Item)
simple_goes_to b line (simple.Assign t r) rest = assign_goes_to b line t r rest
simple_goes_to b line (simple.Write c e) rest = (Putting line c no_value ∷ rest) ∷ []
simple_goes_to b line (simple.Wait w) rest = []
simple_goes_to b line _ rest = rest ∷ []

-- both branches of an `if`; the body of a loop and what stands behind it
abbrev pub goes_to : Bound → List Item → List (List Item)
goes_to b [] = []
goes_to b (Do x ∷ rest) = simple_goes_to b x.line x.simple rest
goes_to b (Putting line c v ∷ rest) = rest ∷ []
goes_to b (Choose line e x y ∷ rest) = entered x rest ∷ entered_if y rest ∷ []
goes_to b (Begin l ∷ rest) = opened l.body (Check l ∷ rest) (Again l ∷ rest) ∷ []
goes_to b (Check l ∷ rest) = entered l.body (Again l ∷ rest) ∷ rest ∷ []
goes_to b (Again l ∷ rest) = maybe_do l.after (Check l ∷ rest) ∷ []
goes_to b (Break line ∷ rest) = after_loop rest ∷ []
goes_to b (Continue line ∷ rest) = at_loop rest ∷ []
goes_to b (Return line e ∷ rest) = returned None rest ∷ []
goes_to b (Leave line t k v saved ∷ rest) = rest ∷ []

-- from these items a process may come to those without waiting
pub data Comes (b : Bound) : List Item → List Item → Type 0 where
  stays : {items : List Item} → Comes b items items
  onward : {items later next : List Item} → Comes b items later → Contains (goes_to b later) next → Comes b items next

-- ---- what the first item touches

-- a call reads its arguments
abbrev pub call_reads : Option BoundFunction → List BoundExpr → Touched
call_reads None args = []
call_reads (Some f) args = arguments_read f.params args

-- no function is called
abbrev pub no_callees : ℕ → Option Called
no_callees f = None

-- what a call's result is put into is touched as the function ends
abbrev pub assign_first : Bound → BoundTarget → BoundRight → Touched
assign_first b t (right.Call f args) = call_reads (slice_get b.functions f) args
assign_first b t r = right_touches b.events no_callees r ++ target_touches b.events t

-- a blocking write evaluates its value first
abbrev pub simple_first : Bound → BoundSimple → Touched
simple_first b (simple.Assign t r) = assign_first b t r
simple_first b (simple.Write c e) = reads_of e
simple_first b x = simple_touches b.events no_callees x

-- a test reads its expression, and the end of a called function puts the result into its target
abbrev pub first_touches : Bound → List Item → Touched
first_touches b (Do x ∷ rest) = simple_first b x.simple
first_touches b (Putting line c v ∷ rest) = put_touches b.events c
first_touches b (Choose line e x y ∷ rest) = reads_of e
first_touches b (Check l ∷ rest) = option_reads l.test
first_touches b (Return line e ∷ rest) = option_reads e
first_touches b (Leave line t k v saved ∷ rest) = target_touches b.events t
first_touches b _ = []

-- ---- how the process may wait at the first item

-- a wait: the line of its statement, its time where that is constant, its events, and what remains behind it
pub record Pause : Type 0 where
  pub line : ℕ
  pub time : Option Time
  pub events : List ℕ
  pub behind : List Item

-- the events of a wait or a `next_trigger`: those that it names, or the static ones of the process
abbrev pub named_events : BoundProcess → BoundWait → List ℕ
named_events process w = if w.is_static then process.sensitive else w.events

abbrev pub constant_time : Option BoundTime → Option Time
constant_time (Some (time.Fixed t)) = Some t
constant_time _ = None

-- a blocking statement of a fifo waits for an event, and is tested again then (6.23)
abbrev pub until : (line : ℕ) → List ℕ → (again : List Item) → List Pause
until line events again = record { line = line; time = None; events = events; behind = again } ∷ []

abbrev pub simple_pauses : Bound → BoundProcess → (line : ℕ) → BoundSimple → (again rest : List Item) → List Pause
simple_pauses b process line (simple.Assign t (right.Read c)) again rest = until line (data_written b c) again
simple_pauses b process line (simple.Wait w) again rest =
    record { line = line; time = constant_time w.time; events = named_events process w; behind = rest } ∷ []
simple_pauses b process line _ again rest = []

abbrev pub first_pauses : Bound → BoundProcess → List Item → List Pause
first_pauses b process (Do x ∷ rest) = simple_pauses b process x.line x.simple (Do x ∷ rest) rest
first_pauses b process (Putting line c v ∷ rest) = until line (data_read b c) (Putting line c v ∷ rest)
first_pauses b process _ = []

-- what a method waits for as its body ends (5.2.18)
abbrev pub simple_triggers : BoundProcess → BoundSimple → List ℕ
simple_triggers process (simple.NextTrigger w) = named_events process w
simple_triggers process _ = []

-- the events that a `next_trigger` names
abbrev pub first_triggers : BoundProcess → List Item → List ℕ
first_triggers process (Do x ∷ rest) = simple_triggers process x.simple
first_triggers process _ = []

-- ---- a segment by statements

-- a statement that may be come to without waiting touches this
pub record Touches (b : Bound) (items : List Item) (touch : Touch) : Type 0 where
  pub later : List Item
  pub comes : Comes b items later
  pub touches : Contains (first_touches b later) touch

-- a statement that may be come to without waiting may wait so
pub record Pauses (b : Bound) (process : BoundProcess) (items : List Item) (pause : Pause) : Type 0 where
  pub later : List Item
  pub comes : Comes b items later
  pub pauses : Contains (first_pauses b process later) pause

-- a `next_trigger` that may be come to without waiting names this event
pub record Triggers (b : Bound) (process : BoundProcess) (items : List Item) (event : ℕ) : Type 0 where
  pub later : List Item
  pub comes : Comes b items later
  pub names : Contains (first_triggers process later) event

-- ---- activations with values

-- what remains, without its values
abbrev pub without_values : List Item → List Item
without_values [] = []
without_values (Putting line c v ∷ rest) = Putting line c no_value ∷ without_values rest
without_values (Leave line t k v saved ∷ rest) = Leave line t k no_value no_values ∷ without_values rest
without_values (i ∷ rest) = i ∷ without_values rest

-- what remains stands behind a wait that is come to without waiting, and waits for the same
pub record StandsBehind (b : Bound) (process : BoundProcess) (items : List Item) (on : WaitOn) (next : List Item) : Type 0 where
  pub pause : Pause
  pub pauses : Pauses b process items pause
  pub events : on.events ≡ pause.events
  pub time : (t : Time) → pause.time ≡ Some t → on.time ≡ Some t
  pub behind : without_values next ≡ pause.behind

-- where an activation from these items ends by a wait, it stands behind one that they come to, or is a method and stands at
-- its start
abbrev pub EndsBehind : Bound → BoundProcess → List Item → JobEnd → (next : List Item) → Type 0
EndsBehind b process items (job.Waits on) next =
    StandsBehind b process items on next ⊎ ((process.kind ≡ Method) × (next ≡ entered_all process.body []))
EndsBehind b process items _ next = Unit {0}

-- ---- the same by nodes

abbrev pub fixed_time : Option NodeTime → Option Time
fixed_time (Some (node_time.Fixed t)) = Some t
fixed_time _ = None

-- a node that waits for the same
abbrev pub WaitsFor : NodeKind → Pause → Type 0
WaitsFor (kind.Wait w) pause = (fixed_time w.time ≡ pause.time) × (w.events ≡ pause.events)
WaitsFor _ pause = ⊥

module _ (design : Design) (own : Proc) (entry : SegmentEntry) where
  -- node n of the segment is this wait
  pub record IsPause (n : ℕ) (pause : Pause) : Type 0 where
    pub node : Node
    pub within : InSegment design own entry n
    pub is : slice_get design.nodes n ≡ Some node
    pub line : node.line ≡ pause.line
    pub waits : WaitsFor node.kind pause

  -- node n of the segment is a wait
  pub record IsWaitIn (n : ℕ) : Type 0 where
    pub node : Node
    pub within : InSegment design own entry n
    pub is : slice_get design.nodes n ≡ Some node
    pub waits : is_wait node ≡ true

  -- a `next_trigger` of the segment names this event
  pub record IsTriggerIn (event : ℕ) : Type 0 where
    pub number : ℕ
    pub node : Node
    pub within : InSegment design own entry number
    pub is : slice_get design.nodes number ≡ Some node
    pub names : Contains (trigger_events node.kind) event

-- ---- segments that are the same

module _ (b : Bound) (process : BoundProcess) (design : Design) (own : Proc) where
  -- the segment touches and triggers what the statements do, and its wait nodes are the waits of the statements, behind
  -- which it goes on so
  pub record SameSegment (GoesOn : List Item → SegmentEntry → Type 0) (items : List Item) (entry : SegmentEntry) : Type 0 where
    pub touches : (touch : Touch) → Touches b items touch ↔ Accesses design own entry touch
    pub triggers : (event : ℕ) → Triggers b process items event ↔ IsTriggerIn design own entry event
    pub pauses : (pause : Pause) → Pauses b process items pause →
        (n : ℕ) × IsPause design own entry n pause × GoesOn pause.behind (After n)
    pub waits : (n : ℕ) → IsWaitIn design own entry n →
        (pause : Pause) × Pauses b process items pause × IsPause design own entry n pause × GoesOn pause.behind (After n)

  -- the same segment by segment, past so many waits
  abbrev pub SameSegments : (count : ℕ) → List Item → SegmentEntry → Type 0
  SameSegments zero items entry = Unit {0}
  SameSegments (suc n) items entry = SameSegment (SameSegments n) items entry
