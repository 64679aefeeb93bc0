-- The loop over nodes: how many may still count, how many may stand before the next that counts, and what it gives.
use Rattle.std.specs.Prelude.{◌≡◌, ℕ, zero, suc, ◌+◌, ◌*◌, ◌<◌, List, length}
use Rattle.ooo_code.specs.declared.activation.Frame.{Frame}
use Rattle.ooo_code.specs.declared.node.Node.{Node}
use Rattle.ooo_code.specs.Nodes.{Doing, Next, Running, act, at_limit, pass, steps}
use Rattle.ooo_code.specs.Outcomes.{Outcome}
use Rattle.ooo_interp.specs.declared.counting.Left.{Left}
use Rattle.ooo_interp.specs.declared.running.Turn.{Turn}
use Rattle.ooo_interp.specs.declared.running.Turn.TheVariants as turn
use Rattle.ooo_interp.specs.Acting.{ended_by}

-- what a node that counts comes to, where so many more may count
abbrev pub counted : List Node → Running → ℕ → Node → Next
counted nodes r zero = at_limit r
counted nodes r (suc n) = λ node number d. act r node.kind number node.line node.next (steps nodes r n) d

-- a turn from a node on: it goes on there, or ends so
abbrev pub Turns : Running → Turn → Next → Doing → Outcome Frame → Type 0
Turns r (turn.Goes to) next d o = o ≡ next to d
Turns r (turn.Over h) next d o = o ≡ ended_by r h d

-- how many nodes may be passed up to the next that counts
abbrev pub room_of : Left → ℕ
room_of left = left.room + left.spare

-- what an activation comes to from a node on
abbrev pub from_node : List Node → Running → Left → Next
from_node nodes r left = pass nodes r (counted nodes r left.statements) (room_of left)

-- after a turn the activation comes to the same, from the next node on or by its end
abbrev pub Comes : List Node → Running → (new : Left) → Turn → Doing → Outcome Frame → Type 0
Comes nodes r new t d o = Turns r t (from_node nodes r new) d o

-- more than the turns that may follow
abbrev pub turns_of : List Node → Left → ℕ
turns_of nodes left = left.statements * (length nodes + 3) + room_of left

-- fewer turns may follow, where one does
abbrev pub Shortens : List Node → (old new : Left) → Turn → Type 0
Shortens nodes old new (turn.Goes to) = turns_of nodes new < turns_of nodes old
Shortens nodes old new (turn.Over h) = Unit {0}
