-- Where the locals of a function stand: those of one kind one after the other, by their slots, and the kinds in order.
use Rattle.std.specs.Prelude.{ℕ, ◌+◌, nat_lt, max, List, [], ◌∷◌, ◌++◌, replicate, Bool, Option, Some, None}
use Rattle.ooo_value.specs.declared.kinds.Kind.{Kind}
use Rattle.ooo_value.specs.declared.kinds.Kind.TheVariants as kind
use Rattle.ooo_bound.specs.declared.expr.BoundExpr.{BoundExpr, BoundExpr-F, fold-BoundExpr}
use Rattle.ooo_bound.specs.declared.expr.BoundExpr.TheOpen as layer
use Rattle.ooo_bound.specs.declared.expr.BoundTime.{BoundTime}
use Rattle.ooo_bound.specs.declared.expr.BoundTime.TheVariants as time
use Rattle.ooo_bound.specs.declared.stat.BoundItem.{BoundItem}
use Rattle.ooo_bound.specs.declared.stat.BoundItem.TheVariants as item
use Rattle.ooo_bound.specs.declared.stat.BoundRight.{BoundRight}
use Rattle.ooo_bound.specs.declared.stat.BoundRight.TheVariants as right
use Rattle.ooo_bound.specs.declared.stat.BoundSimple.{BoundSimple}
use Rattle.ooo_bound.specs.declared.stat.BoundSimple.TheVariants as simple
use Rattle.ooo_bound.specs.declared.stat.BoundStat.{BoundStat, BoundStat-F, fold-BoundStat}
use Rattle.ooo_bound.specs.declared.stat.BoundStat.TheOpen as stat
use Rattle.ooo_bound.specs.declared.stat.BoundTarget.{BoundTarget}
use Rattle.ooo_bound.specs.declared.stat.BoundTarget.TheVariants as target
use Rattle.ooo_bound.specs.declared.stat.LinedSimple.{LinedSimple}
use Rattle.ooo_shapes.specs.declared.around.Widths.{Widths}

-- ---- slots

-- how many slots the locals of a kind have
abbrev pub width_of : Widths → Kind → ℕ
width_of w kind.Bool = w.bools
width_of w kind.Int = w.ints
width_of w kind.Uint = w.uints
width_of w kind.Long = w.longs
width_of w kind.Ulong = w.ulongs

-- where those of a kind begin
abbrev pub start_of : Widths → Kind → ℕ
start_of w kind.Bool = 0
start_of w kind.Int = w.bools
start_of w kind.Uint = w.bools + w.ints
start_of w kind.Long = w.bools + w.ints + w.uints
start_of w kind.Ulong = w.bools + w.ints + w.uints + w.longs

-- how many slots there are
abbrev pub count_of : Widths → ℕ
count_of w = w.bools + w.ints + w.uints + w.longs + w.ulongs

-- the kind of each slot
abbrev pub kinds_of : Widths → List Kind
kinds_of w =
    replicate w.bools kind.Bool ++ replicate w.ints kind.Int ++ replicate w.uints kind.Uint
    ++ replicate w.longs kind.Long ++ replicate w.ulongs kind.Ulong

-- there is the slot of a local
abbrev pub has_slot : Widths → Kind → ℕ → Bool
has_slot w k n = nat_lt n (width_of w k)

-- ---- the slots that a body needs

-- none
abbrev pub nothing : Widths
nothing = record { bools = 0; ints = 0; uints = 0; longs = 0; ulongs = 0 }

-- as many as both need
abbrev pub both : Widths → Widths → Widths
both v w = record {
  bools = max v.bools w.bools;
  ints = max v.ints w.ints;
  uints = max v.uints w.uints;
  longs = max v.longs w.longs;
  ulongs = max v.ulongs w.ulongs;
}

-- those up to the slot of a local
abbrev pub up_to : Kind → ℕ → Widths
up_to kind.Bool n = record nothing { bools = n + 1 }
up_to kind.Int n = record nothing { ints = n + 1 }
up_to kind.Uint n = record nothing { uints = n + 1 }
up_to kind.Long n = record nothing { longs = n + 1 }
up_to kind.Ulong n = record nothing { ulongs = n + 1 }

abbrev pub expr_step : BoundExpr-F Widths → Widths
expr_step (layer.Constant v) = nothing
expr_step (layer.Local k n) = up_to k n
expr_step (layer.Variable x) = nothing
expr_step (layer.Element x i) = i
expr_step (layer.Signal c) = nothing
expr_step (layer.Changed c) = nothing
expr_step (layer.Edge c up) = nothing
expr_step (layer.Available c) = nothing
expr_step (layer.Free c) = nothing
expr_step (layer.Convert k e) = e
expr_step (layer.Promote e) = e
expr_step (layer.Negate e) = e
expr_step (layer.Invert e) = e
expr_step (layer.Not e) = e
expr_step (layer.Binary op a b) = both a b
expr_step (layer.Both a b) = both a b
expr_step (layer.Either a b) = both a b
expr_step (layer.Choose k c a b) = both c (both a b)

-- of an expression
unfoldable pub expr_widths : BoundExpr → Widths
expr_widths e = fold-BoundExpr Widths expr_step e

abbrev pub option_widths : Option BoundExpr → Widths
option_widths None = nothing
option_widths (Some e) = expr_widths e

abbrev pub exprs_widths : List BoundExpr → Widths
exprs_widths [] = nothing
exprs_widths (e ∷ es) = both (expr_widths e) (exprs_widths es)

abbrev pub time_widths : BoundTime → Widths
time_widths (time.Fixed t) = nothing
time_widths (time.Amount e scale) = expr_widths e

abbrev pub wait_widths : Option BoundTime → Widths
wait_widths None = nothing
wait_widths (Some t) = time_widths t

abbrev pub target_widths : BoundTarget → Widths
target_widths target.Nothing = nothing
target_widths (target.Local k n) = up_to k n
target_widths (target.Variable x) = nothing
target_widths (target.Element x i) = expr_widths i
target_widths (target.Signal c) = nothing

abbrev pub right_widths : BoundRight → Widths
right_widths (right.Value e) = expr_widths e
right_widths (right.Call f args) = exprs_widths args
right_widths (right.Read c) = nothing
right_widths (right.NbRead c into) = target_widths into
right_widths (right.NbWrite c e) = expr_widths e

abbrev pub item_widths : BoundItem → Widths
item_widths (item.Value e) = expr_widths e
item_widths (item.Text text) = nothing
item_widths item.Time = nothing

abbrev pub items_widths : List BoundItem → Widths
items_widths [] = nothing
items_widths (x ∷ xs) = both (item_widths x) (items_widths xs)

abbrev pub simple_widths : BoundSimple → Widths
simple_widths (simple.Assign t r) = both (target_widths t) (right_widths r)
simple_widths (simple.Update t op e) = both (target_widths t) (expr_widths e)
simple_widths (simple.Write c e) = expr_widths e
simple_widths (simple.Notify e t) = time_widths t
simple_widths (simple.Cancel e) = nothing
simple_widths (simple.Wait w) = wait_widths w.time
simple_widths (simple.NextTrigger w) = wait_widths w.time
simple_widths simple.Stop = nothing
simple_widths (simple.Print items) = items_widths items

abbrev pub simples_widths : List LinedSimple → Widths
simples_widths [] = nothing
simples_widths (x ∷ xs) = both (simple_widths x.simple) (simples_widths xs)

abbrev pub after_widths : Option LinedSimple → Widths
after_widths None = nothing
after_widths (Some x) = simple_widths x.simple

abbrev pub all_widths : List Widths → Widths
all_widths [] = nothing
all_widths (w ∷ ws) = both w (all_widths ws)

abbrev pub maybe_widths : Option Widths → Widths
maybe_widths None = nothing
maybe_widths (Some w) = w

abbrev pub stat_step : BoundStat-F Widths → Widths
stat_step (stat.Block parts) = all_widths parts
stat_step (stat.Simple x) = simple_widths x.simple
stat_step (stat.If line e a b) = both (expr_widths e) (both a (maybe_widths b))
stat_step (stat.While line e a) = both (expr_widths e) a
stat_step (stat.Do line a e) = both a (expr_widths e)
stat_step (stat.For line begin e after a) =
    both (simples_widths begin) (both (option_widths e) (both (after_widths after) a))
stat_step (stat.Break line) = nothing
stat_step (stat.Continue line) = nothing
stat_step (stat.Return line e) = option_widths e

-- of a statement
unfoldable pub stat_widths : BoundStat → Widths
stat_widths s = fold-BoundStat Widths stat_step s

-- of the statements of a body
abbrev pub body_widths : List BoundStat → Widths
body_widths [] = nothing
body_widths (s ∷ ss) = both (stat_widths s) (body_widths ss)

-- of parameters, the first of which has slot n
abbrev pub params_widths : (n : ℕ) → List Kind → Widths
params_widths n [] = nothing
params_widths n (k ∷ ks) = both (up_to k n) (params_widths (n + 1) ks)
