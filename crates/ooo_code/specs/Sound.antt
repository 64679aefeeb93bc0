-- When a design is sound.
use Rattle.std.specs.Prelude.{◌≡◌, ℕ, ◌<◌, ◌≤◌, ◌⊎◌, List, length, Bool, true, false, if◌then◌else◌, Option, Some, None, IsSome, IfSome, IsSomeAnd, IsTrue, All, Contains, slice_get, option_map}
use Rattle.ooo_time.specs.Scales.{greatest_time}
use Rattle.ooo_value.specs.declared.bound.BoundChannel.{BoundChannel}
use Rattle.ooo_value.specs.declared.bound.BoundEvent.{BoundEvent}
use Rattle.ooo_value.specs.declared.bound.BoundEvent.TheVariants as event
use Rattle.ooo_value.specs.declared.bound.BoundVariable.{BoundVariable}
use Rattle.ooo_value.specs.declared.bound.ChannelKind.TheVariants as channel
use Rattle.ooo_value.specs.declared.bound.ProcessKind.TheVariants.{Method}
use Rattle.ooo_value.specs.declared.kinds.Kind.{Kind}
use Rattle.ooo_value.specs.declared.kinds.Kind.TheVariants as value_kind
use Rattle.ooo_value.specs.Kinds.{promoted_kind}
use Rattle.ooo_value.specs.Operators.{binary_kind}
use Rattle.ooo_value.specs.Values.{kind_of, IsOfKind}
use Rattle.ooo_code.specs.declared.design.Design.{Design}
use Rattle.ooo_code.specs.declared.design.Proc.{Proc}
use Rattle.ooo_code.specs.declared.expression.NodeExpr.{NodeExpr, NodeExpr-F, fold-NodeExpr}
use Rattle.ooo_code.specs.declared.expression.NodeExpr.TheOpen as layer
use Rattle.ooo_code.specs.declared.node.Node.{Node}
use Rattle.ooo_code.specs.declared.node.NodeKind.{NodeKind}
use Rattle.ooo_code.specs.declared.node.NodeKind.TheVariants as kind
use Rattle.ooo_code.specs.declared.node.NodeTime.{NodeTime}
use Rattle.ooo_code.specs.declared.node.NodeTime.TheVariants as time
use Rattle.ooo_code.specs.declared.node.NodeWait.{NodeWait}
use Rattle.ooo_code.specs.Touches.{Touch, WritesSignal, HoldsReading, HoldsWriting, touched_by}
use Rattle.ooo_code.specs.Segments.{is_wait, successors, followers, IsNodeOf}

-- ---- kinds

-- the kinds of what an expression may name
pub record Scope : Type 0 where
  pub slots : List Kind
  pub variables : List BoundVariable
  pub channels : List BoundChannel

-- a kind, unless a part has none
abbrev pub Typed : Type 0
Typed = Option Kind

-- the second kind, where there is a first one
abbrev pub if_typed : Typed → Typed → Typed
if_typed None k = None
if_typed (Some j) k = k

-- the kind of a variable's cells, if there is the variable
abbrev pub variable_kind : Option BoundVariable → Typed
variable_kind None = None
variable_kind (Some x) = Some x.kind

-- the kind of a signal's values
abbrev pub signal_kind : Option BoundChannel → Typed
signal_kind None = None
signal_kind (Some c) = elim c.kind [ channel.Signal ↦ Some c.value | channel.Fifo ↦ None ]

-- the kind of a fifo's values
abbrev pub fifo_kind : Option BoundChannel → Typed
fifo_kind None = None
fifo_kind (Some c) = elim c.kind [ channel.Signal ↦ None | channel.Fifo ↦ Some c.value ]

-- this kind, where it is bool
abbrev pub if_bool : Typed → Typed
if_bool (Some value_kind.Bool) = Some value_kind.Bool
if_bool _ = None

-- two kinds are the same
abbrev pub same_kind : Kind → Kind → Bool
same_kind value_kind.Bool value_kind.Bool = true
same_kind value_kind.Int value_kind.Int = true
same_kind value_kind.Uint value_kind.Uint = true
same_kind value_kind.Long value_kind.Long = true
same_kind value_kind.Ulong value_kind.Ulong = true
same_kind _ _ = false

-- the kind of both, where they have one
abbrev pub both_kind : Typed → Typed → Typed
both_kind (Some j) (Some k) = if same_kind j k then Some j else None
both_kind _ _ = None

-- the kind that an operation gives by those of both operands, where they have one
abbrev pub of_two : (Kind → Kind → Kind) → Typed → Typed → Typed
of_two f (Some j) (Some k) = Some (f j k)
of_two f _ _ = None

-- the kind of each form of expression, by those of its parts
abbrev pub kind_step : Scope → NodeExpr-F Typed → Typed
kind_step names (layer.Constant v) = Some (kind_of v)
kind_step names (layer.Slot n) = slice_get names.slots n
kind_step names (layer.Variable x) = variable_kind (slice_get names.variables x)
kind_step names (layer.Element x i) = if_typed i (variable_kind (slice_get names.variables x))
kind_step names (layer.Signal c) = signal_kind (slice_get names.channels c)
kind_step names (layer.Event c) = if_typed (signal_kind (slice_get names.channels c)) (Some value_kind.Bool)
kind_step names (layer.Edge c up) = if_bool (signal_kind (slice_get names.channels c))
kind_step names (layer.Available c) = if_typed (fifo_kind (slice_get names.channels c)) (Some value_kind.Int)
kind_step names (layer.Free c) = if_typed (fifo_kind (slice_get names.channels c)) (Some value_kind.Int)
kind_step names (layer.Convert k e) = if_typed e (Some k)
kind_step names (layer.Negate e) = option_map promoted_kind e
kind_step names (layer.Invert e) = option_map promoted_kind e
kind_step names (layer.Not e) = if_typed e (Some value_kind.Bool)
kind_step names (layer.Binary op a b) = of_two (binary_kind op) a b
kind_step names (layer.And a b) = if_typed a (if_typed b (Some value_kind.Bool))
kind_step names (layer.Or a b) = if_typed a (if_typed b (Some value_kind.Bool))
kind_step names (layer.Choose c a b) = if_typed c (both_kind a b)

-- the kind of an expression, where all that it names is there and its kinds agree
unfoldable pub expression_kind : Scope → NodeExpr → Typed
expression_kind names e = fold-NodeExpr Typed (kind_step names) e

-- ---- numbers in range

-- a constant time is at most the greatest one
abbrev pub FitsTime : Scope → NodeTime → Type 0
FitsTime names (time.Fixed t) = t.0 ≤ greatest_time
FitsTime names (time.Amount e scale) = IsSome (expression_kind names e)

-- an event of the model's own
abbrev pub IsOwn : Option BoundEvent → Type 0
IsOwn (Some event.Own) = Unit {0}
IsOwn _ = ⊥

-- what a wait names is there
pub record FitsWait (names : Scope) (events : List BoundEvent) (wait : NodeWait) : Type 0 where
  pub time : IfSome wait.time (FitsTime names)
  pub events_are : All (λ e. e < length events) wait.events

-- all that a node names is there, and its kinds agree
abbrev pub FitsNode : Scope → List BoundEvent → NodeKind → Type 0
FitsNode names events (kind.Set n e) = IsSome (slice_get names.slots n) × (expression_kind names e ≡ slice_get names.slots n)
FitsNode names events (kind.Store x None e) =
    let k = variable_kind (slice_get names.variables x) in IsSome k × (expression_kind names e ≡ k)
FitsNode names events (kind.Store x (Some i) e) =
    let k = variable_kind (slice_get names.variables x) in
    IsSome k × (expression_kind names e ≡ k) × IsSome (expression_kind names i)
FitsNode names events (kind.Test e no_to) = IsSome (expression_kind names e)
FitsNode names events (kind.PrintValue e) = IsSome (expression_kind names e)
FitsNode names events (kind.Write c e) =
    let k = signal_kind (slice_get names.channels c) in IsSome k × (expression_kind names e ≡ k)
FitsNode names events (kind.TestAvailable c no_to) = IsSome (fifo_kind (slice_get names.channels c))
FitsNode names events (kind.TestFree c no_to) = IsSome (fifo_kind (slice_get names.channels c))
FitsNode names events (kind.Take c n) =
    let k = fifo_kind (slice_get names.channels c) in IsSome k × (slice_get names.slots n ≡ k)
FitsNode names events (kind.Put c e) =
    let k = fifo_kind (slice_get names.channels c) in IsSome k × (expression_kind names e ≡ k)
FitsNode names events (kind.Notify e t) = IsOwn (slice_get events e) × FitsTime names t
FitsNode names events (kind.Cancel e) = IsOwn (slice_get events e)
FitsNode names events (kind.Trigger w) = FitsWait names events w
FitsNode names events (kind.Wait w) = FitsWait names events w
FitsNode names events _ = Unit {0}

-- an event is of a channel that is there and has such an event
abbrev pub FitsEvent : List BoundChannel → BoundEvent → Type 0
FitsEvent channels event.Own = Unit {0}
FitsEvent channels (event.Changed c) = IsSome (signal_kind (slice_get channels c))
FitsEvent channels (event.Rise c) = signal_kind (slice_get channels c) ≡ Some value_kind.Bool
FitsEvent channels (event.Fall c) = signal_kind (slice_get channels c) ≡ Some value_kind.Bool
FitsEvent channels (event.Written c) = IsSome (fifo_kind (slice_get channels c))
FitsEvent channels (event.Taken c) = IsSome (fifo_kind (slice_get channels c))

-- a variable has a cell at least, and its start value is of its kind
pub record FitsVariable (x : BoundVariable) : Type 0 where
  pub some : 1 ≤ x.length
  pub start : IsOfKind x.start x.kind

-- a fifo has room for 1 to 65,536 values
abbrev pub FitsChannel : BoundChannel → Type 0
FitsChannel c = elim c.kind [ channel.Signal ↦ Unit {0} | channel.Fifo ↦ (1 ≤ c.size) × (c.size ≤ 65536) ]

-- ---- the nodes of a process

-- where a take or a put may be entered: from no other node than one that tests for it, by its yes
abbrev pub MayLeadTo : NodeKind → (next : ℕ) → (number : ℕ) → NodeKind → Type 0
MayLeadTo (kind.TestAvailable c no_to) next number (kind.Take b n) = (b ≡ c) × (number ≡ next) × (¬ (number ≡ no_to))
MayLeadTo from next number (kind.Take b n) = ⊥
MayLeadTo (kind.TestFree c no_to) next number (kind.Put b e) = (b ≡ c) × (number ≡ next) × (¬ (number ≡ no_to))
MayLeadTo from next number (kind.Put b e) = ⊥
MayLeadTo from next number to = Unit {0}

-- a process may begin with it
abbrev pub MayBegin : NodeKind → Type 0
MayBegin (kind.Take c n) = ⊥
MayBegin (kind.Put c e) = ⊥
MayBegin _ = Unit {0}

-- the static events of a wait or a trigger are those of its process
abbrev pub HasStatic : List ℕ → NodeKind → Type 0
HasStatic sensitive (kind.Trigger w) = IsTrue w.is_static → w.events ≡ sensitive
HasStatic sensitive (kind.Wait w) = IsTrue w.is_static → w.events ≡ sensitive
HasStatic sensitive _ = Unit {0}

-- the kinds of what the expressions of a process may name
abbrev pub scope_of : Design → Proc → Scope
scope_of design process = record { slots = process.slots; variables = design.variables; channels = design.channels }

-- a node of a process
pub record FitsProcessNode (design : Design) (process : Proc) (number : ℕ) (node : Node) : Type 0 where
  pub names : FitsNode (scope_of design process) design.events node.kind
  pub own : All (IsNodeOf process) (followers node)
  pub static : HasStatic process.sensitive node.kind
  pub method : process.kind ≡ Method → is_wait node ≡ false
  pub tested : (n : ℕ) (to : Node) → Contains (followers node) n → slice_get design.nodes n ≡ Some to → MayLeadTo node.kind node.next n to.kind

-- a process
pub record FitsProcess (design : Design) (process : Proc) : Type 0 where
  pub some : process.first < process.end
  pub within : process.end ≤ length design.nodes
  pub events : All (λ e. e < length design.events) process.sensitive
  pub begins : IfSome (slice_get design.nodes process.first) (λ node. MayBegin node.kind)
  pub nodes : (n : ℕ) (node : Node) → IsNodeOf process n → slice_get design.nodes n ≡ Some node → FitsProcessNode design process n node

-- ---- that an activation ends

-- a node that counts, or one of a lower rank
abbrev pub CountsOrFalls : List Node → (rank : ℕ → ℕ) → (from to : ℕ) → Type 0
CountsOrFalls nodes rank from to = IsSomeAnd (slice_get nodes to) (λ node. IsTrue node.counts) ⊎ (rank to < rank from)

-- each node has a rank, of which there are no more than nodes: a node that doesn't count leads within its segment to
-- nodes that count or have a lower rank. So each cycle of nodes passes a node that counts, or a wait.
pub record IsRanked (nodes : List Node) : Type 0 where
  pub rank : ℕ → ℕ
  pub bounded : (n : ℕ) → rank n ≤ length nodes
  pub falls : (n m : ℕ) (node : Node) → slice_get nodes n ≡ Some node → node.counts ≡ false → Contains (successors node) m → CountsOrFalls nodes rank n m

-- ---- one writer, and one holder of each end

-- a process touches it, in a node of its own, whether reachable or not
pub record Uses (design : Design) (p : ℕ) (touch : Touch) : Type 0 where
  pub process : Proc
  pub number : ℕ
  pub node : Node
  pub is : slice_get design.processes p ≡ Some process
  pub own : IsNodeOf process number
  pub node_is : slice_get design.nodes number ≡ Some node
  pub touches : Contains (touched_by design.events node.kind) touch

-- no two processes touch it
abbrev pub IsOfOne : Design → Touch → Type 0
IsOfOne design touch = (p q : ℕ) → Uses design p touch → Uses design q touch → p ≡ q

-- ---- sound designs

-- all numbers are in range and the kinds agree; no node is of two processes; an activation ends; each signal has one
-- writer (IEEE 1666-2011, 6.4), and each end of a fifo one process that holds it
pub record IsSound (design : Design) : Type 0 where
  pub variables : All FitsVariable design.variables
  pub channels : All FitsChannel design.channels
  pub events : All (FitsEvent design.channels) design.events
  pub processes : All (FitsProcess design) design.processes
  pub apart : (p q n : ℕ) (a b : Proc) → slice_get design.processes p ≡ Some a → slice_get design.processes q ≡ Some b → IsNodeOf a n → IsNodeOf b n → p ≡ q
  pub ranked : IsRanked design.nodes
  pub writers : (c : ℕ) → IsOfOne design (WritesSignal c)
  pub reading_ends : (c : ℕ) → IsOfOne design (HoldsReading c)
  pub writing_ends : (c : ℕ) → IsOfOne design (HoldsWriting c)
