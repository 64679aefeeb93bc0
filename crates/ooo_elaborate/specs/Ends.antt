-- Who holds the ends of channels behind the body of a process: which signals it writes, and which ends of fifos it holds
-- (IEEE 1666-2011, 6.4 and 6.23).
use Rattle.std.specs.Prelude.{ℕ, List, [], ◌∷◌, Option, Some, None}
use Rattle.ooo_bound.specs.declared.expr.BoundExpr.{BoundExpr, BoundExpr-F, fold-BoundExpr}
use Rattle.ooo_bound.specs.declared.expr.BoundExpr.TheOpen as layer
use Rattle.ooo_bound.specs.declared.expr.BoundTime.{BoundTime}
use Rattle.ooo_bound.specs.declared.expr.BoundTime.TheVariants as time
use Rattle.ooo_bound.specs.declared.expr.BoundWait.{BoundWait}
use Rattle.ooo_bound.specs.declared.stat.BoundItem.{BoundItem}
use Rattle.ooo_bound.specs.declared.stat.BoundItem.TheVariants as item
use Rattle.ooo_bound.specs.declared.stat.BoundRight.{BoundRight}
use Rattle.ooo_bound.specs.declared.stat.BoundRight.TheVariants as right
use Rattle.ooo_bound.specs.declared.stat.BoundSimple.{BoundSimple}
use Rattle.ooo_bound.specs.declared.stat.BoundSimple.TheVariants as simple
use Rattle.ooo_bound.specs.declared.stat.BoundStat.{BoundStat, BoundStat-F, fold-BoundStat}
use Rattle.ooo_bound.specs.declared.stat.BoundStat.TheOpen as stat
use Rattle.ooo_bound.specs.declared.stat.BoundTarget.{BoundTarget}
use Rattle.ooo_bound.specs.declared.stat.BoundTarget.TheVariants as target
use Rattle.ooo_bound.specs.declared.stat.LinedSimple.{LinedSimple}
use Rattle.ooo_elaborate.specs.declared.holders.End.TheVariants.{Reading, Writing}
use Rattle.ooo_elaborate.specs.declared.holders.Held.{Held}
use Rattle.ooo_elaborate.specs.Holding.{holds}

-- ---- expressions

-- who holds the ends of channels, behind a part of a body
abbrev pub Holding : Type 0
Holding = List Held → List Held

abbrev pub expr_step : (p : ℕ) → BoundExpr-F Holding → Holding
expr_step p (layer.Constant v) hs = hs
expr_step p (layer.Local k n) hs = hs
expr_step p (layer.Variable x) hs = hs
expr_step p (layer.Element x i) hs = i hs
expr_step p (layer.Signal c) hs = hs
expr_step p (layer.Changed c) hs = hs
expr_step p (layer.Edge c up) hs = hs
expr_step p (layer.Available c) hs = holds p (Reading c) hs
expr_step p (layer.Free c) hs = holds p (Writing c) hs
expr_step p (layer.Convert k e) hs = e hs
expr_step p (layer.Promote e) hs = e hs
expr_step p (layer.Negate e) hs = e hs
expr_step p (layer.Invert e) hs = e hs
expr_step p (layer.Not e) hs = e hs
expr_step p (layer.Binary o a b) hs = b (a hs)
expr_step p (layer.Both a b) hs = b (a hs)
expr_step p (layer.Either a b) hs = b (a hs)
expr_step p (layer.Choose k c a b) hs = b (a (c hs))

-- behind an expression of process p
unfoldable pub expr_holds : (p : ℕ) → BoundExpr → Holding
expr_holds p = fold-BoundExpr Holding (expr_step p)

-- behind expressions one after the other
abbrev pub exprs_hold : (p : ℕ) → List BoundExpr → Holding
exprs_hold p [] hs = hs
exprs_hold p (e ∷ es) hs = exprs_hold p es (expr_holds p e hs)

-- behind an expression, if there is one
abbrev pub option_holds : (p : ℕ) → Option BoundExpr → Holding
option_holds p None hs = hs
option_holds p (Some e) hs = expr_holds p e hs

-- ---- statements without statements in them

-- behind a time
abbrev pub time_holds : (p : ℕ) → BoundTime → Holding
time_holds p (time.Fixed t) hs = hs
time_holds p (time.Amount e scale) hs = expr_holds p e hs

abbrev pub some_time_holds : (p : ℕ) → Option BoundTime → Holding
some_time_holds p None hs = hs
some_time_holds p (Some t) hs = time_holds p t hs

-- behind what a value is put into
abbrev pub target_holds : (p : ℕ) → BoundTarget → Holding
target_holds p target.Nothing hs = hs
target_holds p (target.Local k n) hs = hs
target_holds p (target.Variable x) hs = hs
target_holds p (target.Element x i) hs = expr_holds p i hs
target_holds p (target.Signal c) hs = holds p (Writing c) hs

-- behind what gives a value
abbrev pub right_holds : (p : ℕ) → BoundRight → Holding
right_holds p (right.Value e) hs = expr_holds p e hs
right_holds p (right.Call f args) hs = exprs_hold p args hs
right_holds p (right.Read c) hs = holds p (Reading c) hs
right_holds p (right.NbRead c t) hs = target_holds p t (holds p (Reading c) hs)
right_holds p (right.NbWrite c e) hs = expr_holds p e (holds p (Writing c) hs)

-- behind what a print writes
abbrev pub item_holds : (p : ℕ) → BoundItem → Holding
item_holds p (item.Value e) hs = expr_holds p e hs
item_holds p (item.Text t) hs = hs
item_holds p item.Time hs = hs

abbrev pub items_hold : (p : ℕ) → List BoundItem → Holding
items_hold p [] hs = hs
items_hold p (x ∷ xs) hs = items_hold p xs (item_holds p x hs)

-- behind a simple statement
abbrev pub simple_holds : (p : ℕ) → BoundSimple → Holding
simple_holds p (simple.Assign t r) hs = right_holds p r (target_holds p t hs)
simple_holds p (simple.Update t o e) hs = expr_holds p e (target_holds p t hs)
simple_holds p (simple.Write c e) hs = expr_holds p e (holds p (Writing c) hs)
simple_holds p (simple.Notify e t) hs = time_holds p t hs
simple_holds p (simple.Cancel e) hs = hs
simple_holds p (simple.Wait w) hs = some_time_holds p w.time hs
simple_holds p (simple.NextTrigger w) hs = some_time_holds p w.time hs
simple_holds p simple.Stop hs = hs
simple_holds p (simple.Print xs) hs = items_hold p xs hs

-- behind simple statements one after the other
abbrev pub lined_hold : (p : ℕ) → List LinedSimple → Holding
lined_hold p [] hs = hs
lined_hold p (x ∷ xs) hs = lined_hold p xs (simple_holds p x.simple hs)

-- behind a simple statement, if there is one
abbrev pub after_holds : (p : ℕ) → Option LinedSimple → Holding
after_holds p None hs = hs
after_holds p (Some x) hs = simple_holds p x.simple hs

-- ---- statements

-- behind parts one after the other
abbrev pub all_hold : List Holding → Holding
all_hold [] hs = hs
all_hold (f ∷ fs) hs = all_hold fs (f hs)

-- behind a part, if there is one
abbrev pub one_holds : Option Holding → Holding
one_holds None hs = hs
one_holds (Some f) hs = f hs

abbrev pub stat_step : (p : ℕ) → BoundStat-F Holding → Holding
stat_step p (stat.Block parts) hs = all_hold parts hs
stat_step p (stat.Simple x) hs = simple_holds p x.simple hs
stat_step p (stat.If line e f g) hs = one_holds g (f (expr_holds p e hs))
stat_step p (stat.While line e body) hs = body (expr_holds p e hs)
stat_step p (stat.Do line body e) hs = expr_holds p e (body hs)
stat_step p (stat.For line begin e after body) hs = body (after_holds p after (option_holds p e (lined_hold p begin hs)))
stat_step p (stat.Break line) hs = hs
stat_step p (stat.Continue line) hs = hs
stat_step p (stat.Return line e) hs = option_holds p e hs

-- behind a statement of process p
unfoldable pub stat_holds : (p : ℕ) → BoundStat → Holding
stat_holds p = fold-BoundStat Holding (stat_step p)

-- behind the statement after `else`, if there is one
abbrev pub else_holds : (p : ℕ) → Option BoundStat → Holding
else_holds p None hs = hs
else_holds p (Some x) hs = stat_holds p x hs

-- behind the statements of a body
abbrev pub body_holds : (p : ℕ) → List BoundStat → Holding
body_holds p [] hs = hs
body_holds p (x ∷ xs) hs = body_holds p xs (stat_holds p x hs)
