-- What a node touches.
use Rattle.std.specs.Prelude.{ℕ, ◌+◌, ◌==◌, List, [], ◌∷◌, ◌++◌, map, Bool, false, if◌then◌else◌, Option, Some, None}
use Rattle.ooo_time.specs.declared.time.Time.{Time}
use Rattle.ooo_value.specs.declared.bound.BoundEvent.{BoundEvent}
use Rattle.ooo_value.specs.declared.bound.BoundEvent.TheVariants as event
use Rattle.ooo_code.specs.declared.expression.NodeExpr.{NodeExpr, NodeExpr-F, fold-NodeExpr}
use Rattle.ooo_code.specs.declared.expression.NodeExpr.TheOpen as layer
use Rattle.ooo_code.specs.declared.node.NodeKind.{NodeKind}
use Rattle.ooo_code.specs.declared.node.NodeKind.TheVariants as kind
use Rattle.ooo_code.specs.declared.node.NodeTime.{NodeTime}
use Rattle.ooo_code.specs.declared.node.NodeTime.TheVariants as time

-- a thing that a node touches. An array is one variable. A notification has its constant time, and none where it is of
-- one delta cycle or of a time that is computed.
pub data Touch : Type 0 where
  Reads : (variable : ℕ) → Touch
  Writes : (variable : ℕ) → Touch
  ReadsSignal : (signal : ℕ) → Touch
  WritesSignal : (signal : ℕ) → Touch
  HoldsReading : (fifo : ℕ) → Touch
  HoldsWriting : (fifo : ℕ) → Touch
  Notifies : (event : ℕ) → Option Time → Touch
  Cancels : (event : ℕ) → Touch

-- ---- what is read

-- what each form of expression reads: all that its parts read, whether they are evaluated or not
abbrev pub reads_step : NodeExpr-F (List Touch) → List Touch
reads_step (layer.Constant v) = []
reads_step (layer.Slot n) = []
reads_step (layer.Variable x) = Reads x ∷ []
reads_step (layer.Element x i) = Reads x ∷ i
reads_step (layer.Signal c) = ReadsSignal c ∷ []
reads_step (layer.Event c) = ReadsSignal c ∷ []
reads_step (layer.Edge c up) = ReadsSignal c ∷ []
reads_step (layer.Available c) = HoldsReading c ∷ []
reads_step (layer.Free c) = HoldsWriting c ∷ []
reads_step (layer.Convert k e) = e
reads_step (layer.Negate e) = e
reads_step (layer.Invert e) = e
reads_step (layer.Not e) = e
reads_step (layer.Binary op a b) = a ++ b
reads_step (layer.And a b) = a ++ b
reads_step (layer.Or a b) = a ++ b
reads_step (layer.Choose c a b) = c ++ a ++ b

-- what an expression reads, whichever way its tests go
unfoldable pub reads_of : NodeExpr → List Touch
reads_of e = fold-NodeExpr (List Touch) reads_step e

-- what an index reads, if there is one
abbrev pub index_reads : Option NodeExpr → List Touch
index_reads None = []
index_reads (Some i) = reads_of i

-- what a time reads: of a time that is computed, what its amount reads
abbrev pub time_reads : NodeTime → List Touch
time_reads (time.Fixed t) = []
time_reads (time.Amount e scale) = reads_of e

-- what the time of a wait reads, if it has one
abbrev pub wait_reads : Option NodeTime → List Touch
wait_reads None = []
wait_reads (Some t) = time_reads t

-- ---- what is notified

-- the numbers of those that pass a test, the first of which has number n
abbrev pub numbers_where : {A : Type 0} → (A → Bool) → ℕ → List A → List ℕ
numbers_where test n [] = []
numbers_where test n (x ∷ xs) = if test x then n ∷ numbers_where test (n + 1) xs else numbers_where test (n + 1) xs

-- the three events of a signal
abbrev pub is_of_signal : ℕ → BoundEvent → Bool
is_of_signal c (event.Changed d) = c == d
is_of_signal c (event.Rise d) = c == d
is_of_signal c (event.Fall d) = c == d
is_of_signal c _ = false

-- the event that a fifo's written values notify (6.23)
abbrev pub is_data_written : ℕ → BoundEvent → Bool
is_data_written c (event.Written d) = c == d
is_data_written c _ = false

-- the event that a fifo's read values notify (6.23)
abbrev pub is_data_read : ℕ → BoundEvent → Bool
is_data_read c (event.Taken d) = c == d
is_data_read c _ = false

-- these events are notified for the next delta cycle
abbrev pub notified_next : List ℕ → List Touch
notified_next es = map (λ e. Notifies e None) es

-- the time of a notification that is constant and not zero
abbrev pub constant_delay : NodeTime → Option Time
constant_delay (time.Fixed t) = if t.0 == 0 then None else Some t
constant_delay (time.Amount e scale) = None

-- ---- a node

-- what a node of this kind touches, in a design with these events
abbrev pub touched_by : List BoundEvent → NodeKind → List Touch
touched_by events (kind.Set n e) = reads_of e
touched_by events (kind.Store x i e) = Writes x ∷ reads_of e ++ index_reads i
touched_by events (kind.Test e no_to) = reads_of e
touched_by events kind.Goto = []
touched_by events (kind.PrintText text) = []
touched_by events (kind.PrintValue e) = reads_of e
touched_by events kind.PrintTime = []
touched_by events (kind.Write c e) =
    WritesSignal c ∷ reads_of e ++ notified_next (numbers_where (is_of_signal c) 0 events)
touched_by events (kind.TestAvailable c no_to) = HoldsReading c ∷ []
touched_by events (kind.TestFree c no_to) = HoldsWriting c ∷ []
touched_by events (kind.Take c n) = HoldsReading c ∷ notified_next (numbers_where (is_data_read c) 0 events)
touched_by events (kind.Put c e) =
    HoldsWriting c ∷ reads_of e ++ notified_next (numbers_where (is_data_written c) 0 events)
touched_by events (kind.Notify e t) = Notifies e (constant_delay t) ∷ time_reads t
touched_by events (kind.Cancel e) = Cancels e ∷ []
touched_by events kind.Stop = []
touched_by events (kind.Trigger w) = wait_reads w.time
touched_by events (kind.Wait w) = wait_reads w.time
touched_by events kind.End = []
