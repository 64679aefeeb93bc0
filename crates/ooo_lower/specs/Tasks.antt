-- Parts of the code that are still to be put, one after the other.
use Rattle.std.specs.Prelude.{◌≡◌, ℕ, ◌+◌, List, [], ◌∷◌, ◌++◌, length, Bool, true, false, Option, None}
use Rattle.ooo_value.specs.declared.kinds.Kind.{Kind}
use Rattle.ooo_code.specs.declared.node.Node.{Node}
use Rattle.ooo_code.specs.declared.node.NodeKind.TheVariants as kind
use Rattle.ooo_bound.specs.declared.expr.BoundExpr.{BoundExpr}
use Rattle.ooo_bound.specs.declared.stat.BoundTarget.{BoundTarget}
use Rattle.ooo_bound.specs.declared.stat.BoundRight.{BoundRight}
use Rattle.ooo_bound.specs.declared.stat.BoundRight.TheVariants as right
use Rattle.ooo_bound.specs.declared.stat.BoundSimple.{BoundSimple}
use Rattle.ooo_bound.specs.declared.stat.BoundSimple.TheVariants as simple
use Rattle.ooo_lower.specs.declared.code.Code.{Code}
use Rattle.ooo_lower.specs.declared.simples.Site.{Site}
use Rattle.ooo_lower.specs.declared.simples.Spot.{Spot}
use Rattle.ooo_lower.specs.declared.tasks.Loop.{Loop}
use Rattle.ooo_lower.specs.declared.tasks.Part.{Part}
use Rattle.ooo_lower.specs.declared.tasks.Part.TheVariants as part
use Rattle.ooo_lower.specs.declared.tasks.Task.{Task}
use Rattle.ooo_lower.specs.declared.tasks.Test.{Test}
use Rattle.ooo_lower.specs.declared.tasks.Test.TheVariants as test
use Rattle.ooo_shapes.specs.declared.around.Around.{Around}
use Rattle.ooo_shapes.specs.Expressions.{lowered}
use Rattle.ooo_shapes.specs.Simples.{Home, counted, uncounted}
use Rattle.ooo_layout.specs.Scenes.{home_at}
use Rattle.ooo_lower.specs.Codes.{Emits}
use Rattle.ooo_shapes.specs.Shapes.{Callees, Shape, after_shape, body_shape, callees_within, entry, inside, leave_kind, lined_shape, lined_shapes, loop_shape, plain, shape_of, test_or_true}

-- ---- calls

abbrev pub gives_call : BoundRight → Bool
gives_call (right.Call f args) = true
gives_call _ = false

-- a statement is a call, or puts what one gives into a target
abbrev pub is_call : BoundSimple → Bool
is_call (simple.Assign into r) = gives_call r
is_call _ = false

-- ---- parts

-- the expression of a test
abbrev pub tested : Test → BoundExpr
tested test.Always = test_or_true None
tested (test.Of e) = e.now

-- a test that leads to one place where its value is false, and to another one where it is true
abbrev pub test_shape : (line : ℕ) → BoundExpr → (far near : ℕ) → Shape
test_shape line e far near = plain 1 (λ t at next. counted (kind.Test (lowered t e) far) line near ∷ [])

-- the way past what follows each turn of a loop
abbrev pub pass_shape : (line : ℕ) → Shape
pass_shape line = plain 1 (λ t at next. uncounted kind.Goto line next ∷ [])

-- a node
abbrev pub one_node : Node → Shape
one_node i = plain 1 (λ t at next. i ∷ [])

-- the way of what a call gives, from the slot of the function's result
abbrev pub leave_shape : Home → (line : ℕ) → BoundTarget → Option Kind → (free : ℕ) → Shape
leave_shape h line into k free = plain 1 (λ t at next. uncounted (leave_kind h t into k free next) line next ∷ [])

-- the test of a loop and its body, behind which a turn goes on at `again`
abbrev pub turn_shape : (line : ℕ) → BoundExpr → (again : ℕ) → Shape → Shape
turn_shape line e again body = record {
  size = 1 + body.size;
  slots = body.slots;
  nodes = λ t free at next.
      counted (kind.Test (lowered t e) next) line (entry body (at + 1) again)
      ∷ body.nodes (inside t next again) free (at + 1) again;
}

abbrev pub part_shape : Home → Callees → Spot → Part → Shape
part_shape h callees s (part.Body body) = body_shape h callees body.now
part_shape h callees s (part.Stat stat) = shape_of h callees stat.now
part_shape h callees s (part.Simples xs) = lined_shapes h callees xs.now
part_shape h callees s (part.Simple x) = lined_shape h callees x.now
part_shape h callees s part.Pass = pass_shape s.line
part_shape h callees s (part.Test e far near) = test_shape s.line (tested e) far near
part_shape h callees s (part.Leave into k free) = leave_shape h s.line into.now k free

-- the loop of a `for`
abbrev pub looped_shape : Home → Callees → (line : ℕ) → Loop → Shape
looped_shape h callees line l = loop_shape line (tested l.test) (after_shape h callees l.after.now) (shape_of h callees l.body.now)

-- ---- what is left

-- what is left to be put: how many nodes, the kinds of their slots, and the nodes, from the first free slot and the first place
pub record Rest : Type 0 where
  pub size : ℕ
  pub slots : List Kind
  pub nodes : (free at : ℕ) → List Node

abbrev pub nothing_left : Rest
nothing_left = record { size = 0; slots = []; nodes = λ free at. [] }

-- a shape before the rest
abbrev pub before : Shape → Around → (next : ℕ) → Rest → Rest
before x t next r = record {
  size = x.size + r.size;
  slots = x.slots ++ r.slots;
  nodes = λ free at. x.nodes t free at next ++ r.nodes (free + length x.slots) (at + x.size);
}

-- a shape at its spot before the rest
abbrev pub at_spot : Shape → Spot → Rest → Rest
at_spot x s r = before x s.around s.next r

abbrev pub task_before : Home → Task → Rest → Rest
task_before h t r = at_spot (part_shape h (callees_within t.spot.depth h) t.spot t.part) t.spot r

-- the tasks before the rest: the last one comes first
abbrev pub tasks_before : Home → List Task → Rest → Rest
tasks_before h [] r = r
tasks_before h (t ∷ ts) r = tasks_before h ts (task_before h t r)

abbrev pub left_of : Home → List Task → Rest
left_of h ts = tasks_before h ts nothing_left

-- one rest gives what another one gives, from this place on
pub record Splits (r s : Rest) (at : ℕ) : Type 0 where
  pub nodes_are : (free : ℕ) → s.nodes free at ≡ r.nodes free at
  pub slots_are : s.slots ≡ r.slots
  pub size_is : s.size ≡ r.size

-- code and what is left of it come to the same as other code and what was left then
pub record Goes (r s : Rest) (old new : Code) : Type 0 where
  pub nodes_are : new.nodes ++ s.nodes (length new.slots) (length new.nodes) ≡ old.nodes ++ r.nodes (length old.slots) (length old.nodes)
  pub slots_are : new.slots ++ s.slots ≡ old.slots ++ r.slots
  pub count_is : length new.nodes + s.size ≡ length old.nodes + r.size

-- ---- at a site

-- a shape is added at its spot
abbrev pub EmitsAt : Spot → Shape → (old new : Code) → Type 0
EmitsAt s x old new = Emits x s.around s.next old new

-- the tasks give a shape from a place on, and then what there was to be put
abbrev pub Divides : Site → (at : ℕ) → (Home → Callees → Shape) → (old new : List Task) → Type 0
Divides s at form old new =
    let h = home_at s.scene in
    Splits (at_spot (form h (callees_within s.spot.depth h)) s.spot (left_of h old)) (left_of h new) at

-- so do the code and the tasks together
abbrev pub Takes : Site → (Home → Callees → Shape) → (old new : List Task) → (code after : Code) → Type 0
Takes s form old new code after =
    let h = home_at s.scene in
    Goes (at_spot (form h (callees_within s.spot.depth h)) s.spot (left_of h old)) (left_of h new) code after
