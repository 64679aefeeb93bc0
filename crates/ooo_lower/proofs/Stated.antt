-- Statements are taken part by part.
use Rattle.std.proofs.Common.{◌≡◌, ◌∙◌, ap, sym, subst, ℕ, List, [], ◌∷◌, ◌++◌, Option, None}
use Rattle.ooo_code.specs.declared.node.NodeKind.{NodeKind}
use Rattle.ooo_bound.specs.declared.expr.BoundExpr.{BoundExpr}
use Rattle.ooo_bound.specs.declared.stat.BoundStat.{BoundStat}
use Rattle.ooo_bound.specs.declared.stat.BoundStat.TheVariants as tree
use Rattle.ooo_bound.specs.declared.stat.LinedSimple.{LinedSimple}
use Rattle.ooo_layout.specs.Extents.{else_shape}
use Rattle.ooo_lower.specs.declared.code.Code.{Code}
use Rattle.ooo_lower.specs.declared.tasks.Task.{Task}
use Rattle.ooo_lower.specs.Codes.{Emits}
use Rattle.ooo_lower.specs.Tasks.{Goes, Rest, before, left_of, nothing_left, one_node, task_before}
use Rattle.ooo_lower.proofs.Shaped.{shape_Block, shape_Do, shape_For, shape_If, shape_Simple, shape_While}
use Rattle.ooo_lower.proofs.Left.{goes_on, goes_put, goes_same, goes_to_end, last_left}
use Rattle.ooo_shapes.specs.declared.around.Around.{Around}
use Rattle.ooo_shapes.specs.Simples.{Home, counted}
use Rattle.ooo_shapes.specs.Shapes.{Callees, Shape, after_shape, body_shape, do_shape, if_shape, jump_shape, lined_shape, lined_shapes, loop_shape, shape_of, test_or_true, then}

-- ---- the shapes of statements

module _ (h : Home) (cs : Callees) where
  abbrev S : BoundStat → Shape
  S s = shape_of h cs s

  pub block_is : (stat : BoundStat) (xs ys : List BoundStat) → stat ≡ tree.Block xs → ys ≡ xs → S stat ≡ body_shape h cs ys
  block_is stat xs ys es ex = ap S es ∙ shape_Block h cs xs ∙ ap (body_shape h cs) (sym ex)

  pub simple_is : (stat : BoundStat) (x x1 : LinedSimple) → stat ≡ tree.Simple x → x1 ≡ x → S stat ≡ lined_shape h cs x1
  simple_is stat x x1 es ex = ap S es ∙ shape_Simple h cs x ∙ ap (lined_shape h cs) (sym ex)

  pub if_is : (line : ℕ) (stat a a1 : BoundStat) (o : Option BoundStat) (e e1 : BoundExpr) → stat ≡ tree.If line e a o → e1 ≡ e → a1 ≡ a → S stat ≡ if_shape line e1 (S a1) (else_shape h cs o)
  if_is line stat a a1 o e e1 es ee ea =
      ap S es ∙ shape_If h cs line e a o ∙ ap (λ e. if_shape line e (S a) (else_shape h cs o)) (sym ee) ∙ ap (λ a. if_shape line e1 (S a) (else_shape h cs o)) (sym ea)

  pub while_is : (line : ℕ) (stat a a1 : BoundStat) (e e1 : BoundExpr) → stat ≡ tree.While line e a → e1 ≡ e → a1 ≡ a → S stat ≡ loop_shape line e1 None (S a1)
  while_is line stat a a1 e e1 es ee ea =
      ap S es ∙ shape_While h cs line e a ∙ ap (λ e. loop_shape line e None (S a)) (sym ee) ∙ ap (λ a. loop_shape line e1 None (S a)) (sym ea)

  pub do_is : (line : ℕ) (stat a a1 : BoundStat) (e e1 : BoundExpr) → stat ≡ tree.Do line a e → e1 ≡ e → a1 ≡ a → S stat ≡ do_shape line e1 (S a1)
  do_is line stat a a1 e e1 es ee ea =
      ap S es ∙ shape_Do h cs line a e ∙ ap (λ e. do_shape line e (S a)) (sym ee) ∙ ap (λ a. do_shape line e1 (S a)) (sym ea)

  pub for_is : (line : ℕ) (stat a a1 : BoundStat) (begin begin1 : List LinedSimple) (e : Option BoundExpr) (e1 : BoundExpr) (after : Option LinedSimple) → stat ≡ tree.For line begin e after a → begin1 ≡ begin → e1 ≡ test_or_true e → a1 ≡ a → S stat ≡ then (lined_shapes h cs begin1) (loop_shape line e1 (after_shape h cs after) (S a1))
  for_is line stat a a1 begin begin1 e e1 after es eb ee ea =
      let whole = λ (b : List LinedSimple) (e : BoundExpr) (a : BoundStat). then (lined_shapes h cs b) (loop_shape line e (after_shape h cs after) (S a)) in
      ap S es ∙ shape_For h cs line begin e after a ∙ ap (λ b. whole b (test_or_true e) a) (sym eb) ∙ ap (λ e. whole begin1 e a) (sym ee) ∙ ap (whole begin1 e1) (sym ea)

-- a jump is put
pub jump_taken : (y : Shape) (t : Around) (line next : ℕ) (f : Around → NodeKind) (to : Around → ℕ) (r0 : Rest) (c d : Code) → y ≡ jump_shape line f to → Emits (one_node (counted (f t) line (to t))) t next c d → Goes (before y t next r0) r0 c d
jump_taken y t line next f to r0 c d e p =
    subst (λ y. Goes (before y t next r0) r0 c d) (sym e)
    (goes_put (jump_shape line f to) t next r0 c d (record { nodes_are = p.nodes_are; slots_are = p.slots_are; count_is = p.count_is }))

-- ---- tasks

-- another shape that is the same
pub goes_as : (x y : Shape) (t : Around) (next : ℕ) (r0 r1 : Rest) (c d : Code) → y ≡ x → Goes (before x t next r0) r1 c d → Goes (before y t next r0) r1 c d
goes_as x y t next r0 r1 c d e g = subst (λ y. Goes (before y t next r0) r1 c d) (sym e) g

-- the first task is all that is left at first
pub tasks_first : (h : Home) (x : Shape) (t : Around) (next : ℕ) (none ts : List Task) (c : Code) → none ≡ [] → left_of h ts ≡ before x t next (left_of h none) → Goes (before x t next nothing_left) (left_of h ts) c c
tasks_first h x t next none ts c en e =
    let same : left_of h ts ≡ before x t next nothing_left = e ∙ ap (λ ts. before x t next (left_of h ts)) en in
    subst (λ r. Goes (before x t next nothing_left) r c c) (sym same) (goes_same (before x t next nothing_left) c)

-- a task more is taken
pub tasks_more : (h : Home) (whole : Rest) (all ts new : List Task) (task : Task) (start c d : Code) → all ≡ ts ++ task ∷ [] → Goes whole (left_of h all) start c → Goes (task_before h task (left_of h ts)) (left_of h new) c d → Goes whole (left_of h new) start d
tasks_more h whole all ts new task start c d e i g =
    goes_on whole (left_of h all) (left_of h new) start c d i (subst (λ r. Goes r (left_of h new) c d) (sym (last_left h ts all task e)) g)

-- no task is left
pub tasks_done : (h : Home) (x : Shape) (t : Around) (next : ℕ) (ts : List Task) (start c : Code) → ts ≡ [] → Goes (before x t next nothing_left) (left_of h ts) start c → Emits x t next start c
tasks_done h x t next ts start c e i =
    goes_to_end x t next start c (subst (λ ts. Goes (before x t next nothing_left) (left_of h ts) start c) e i)
