-- What remains, without its values.
use Rattle.std.proofs.Common.{◌≡◌, ℕ, List, [], ◌∷◌, map, Option, Some, None, refl, sym, ap, ◌∙◌, subst}
use Rattle.std.specs.Prelude.{Contains}
use Rattle.ooo_value.specs.declared.values.Value.{Value}
use Rattle.ooo_code.specs.Expressions.{no_value}
use Rattle.ooo_bound.specs.declared.expr.BoundExpr.{BoundExpr}
use Rattle.ooo_bound.specs.declared.model.Bound.{Bound}
use Rattle.ooo_bound.specs.declared.stat.BoundStat.{BoundStat, BoundStat-F, ind-BoundStat, map-BoundStat, roll-BoundStat, para-BoundStat, para-roll-BoundStat}
use Rattle.ooo_bound.specs.declared.stat.BoundStat.TheOpen as layer
use Rattle.ooo_bound.specs.declared.stat.LinedSimple.{LinedSimple}
use Rattle.ooo_activation.specs.Items.{Item, Do, Again, Leave, Enter, through, first_do, maybe_do, enter_step, entered, entered_if, entered_all, Open, rest_entered, open_first, open_step, opened, after_loop, at_loop}
use Rattle.ooo_activation.specs.Activations.{returned}
use Rattle.ooo_shapes.specs.Segments.{no_values, goes_to, Comes, onward, without_values}
use Rattle.ooo_shapes.proofs.Returns.{no_result}

-- ---- a statement before what remains

-- entering leaves the values out behind it
abbrev Leaves : Enter → Type 0
Leaves enter = (rest : List Item) → without_values (enter rest) ≡ enter (without_values rest)

first_left : (xs : List LinedSimple) → Leaves (first_do xs)
first_left [] rest = refl
first_left (x ∷ xs) rest = ap (λ ys. Do x ∷ ys) (first_left xs rest)

pub maybe_left : (x : Option LinedSimple) → Leaves (maybe_do x)
maybe_left None rest = refl
maybe_left (Some x) rest = refl

abbrev each : BoundStat → BoundStat × Enter
each y = (y, para-BoundStat Enter enter_step y)

entered_at : (x : BoundStat-F BoundStat) → entered (roll-BoundStat x) ≡ enter_step (map-BoundStat BoundStat (BoundStat × Enter) each x)
unfolding entered
entered_at x = para-roll-BoundStat Enter enter_step x

abbrev Shown : Type 0
Shown = (s : BoundStat) × Leaves (entered s)

abbrev stat_in : Shown → BoundStat
stat_in p = p.0

by_layer : (x : BoundStat-F BoundStat) → Leaves (enter_step (map-BoundStat BoundStat (BoundStat × Enter) each x)) → Leaves (entered (roll-BoundStat x))
by_layer x h = subst (λ f. Leaves f) (sym (entered_at x)) h

parts_left : (ys : List Shown) → Leaves (through (map each (map stat_in ys)))
unfolding entered
parts_left [] rest = refl
parts_left (y ∷ ys) rest = y.1 (through (map each (map stat_in ys)) rest) ∙ ap (entered y.0) (parts_left ys rest)

choice_left : (line : ℕ) (e : BoundExpr) (x : Shown) (y : Option Shown) → Leaves (entered (roll-BoundStat (map-BoundStat Shown BoundStat stat_in (layer.If line e x y))))
choice_left line e x None = by_layer (layer.If line e x.0 None) (λ rest. refl)
choice_left line e x (Some y) = by_layer (layer.If line e x.0 (Some y.0)) (λ rest. refl)

layer_left : (y : BoundStat-F Shown) → Leaves (entered (roll-BoundStat (map-BoundStat Shown BoundStat stat_in y)))
layer_left (layer.Block parts) = by_layer (layer.Block (map stat_in parts)) (parts_left parts)
layer_left (layer.Simple x) = by_layer (layer.Simple x) (λ rest. refl)
layer_left (layer.If line e x y) = choice_left line e x y
layer_left (layer.While line e x) = by_layer (layer.While line e x.0) (λ rest. refl)
layer_left (layer.Do line x e) = by_layer (layer.Do line x.0 e) (λ rest. refl)
layer_left (layer.For line begin e after x) = by_layer (layer.For line begin e after x.0) (λ rest. first_left begin _)
layer_left (layer.Break line) = by_layer (layer.Break line) (λ rest. refl)
layer_left (layer.Continue line) = by_layer (layer.Continue line) (λ rest. refl)
layer_left (layer.Return line e) = by_layer (layer.Return line e) (λ rest. refl)

pub entered_left : (s : BoundStat) → Leaves (entered s)
entered_left = ind-BoundStat (λ s. Leaves (entered s)) (λ x y e. subst (λ x. Leaves (entered (roll-BoundStat x))) e (layer_left y))

pub maybe_entered_left : (s : Option BoundStat) → Leaves (entered_if s)
maybe_entered_left None rest = refl
maybe_entered_left (Some s) rest = entered_left s rest

pub body_left : (ss : List BoundStat) → Leaves (entered_all ss)
body_left [] rest = refl
body_left (s ∷ ss) rest = entered_left s (entered_all ss rest) ∙ ap (entered s) (body_left ss rest)

-- ---- the same of a statement begun

abbrev LeavesOpen : Open → Type 0
LeavesOpen begin = (none rest : List Item) → without_values (begin none rest) ≡ begin (without_values none) (without_values rest)

abbrev open_each : BoundStat → BoundStat × Open
open_each y = (y, para-BoundStat Open open_step y)

opened_at : (x : BoundStat-F BoundStat) → opened (roll-BoundStat x) ≡ open_step (map-BoundStat BoundStat (BoundStat × Open) open_each x)
unfolding opened
opened_at x = para-roll-BoundStat Open open_step x

abbrev Opening : Type 0
Opening = (s : BoundStat) × LeavesOpen (opened s)

abbrev opening_in : Opening → BoundStat
opening_in p = p.0

by_open : (x : BoundStat-F BoundStat) → LeavesOpen (open_step (map-BoundStat BoundStat (BoundStat × Open) open_each x)) → LeavesOpen (opened (roll-BoundStat x))
by_open x h = subst (λ f. LeavesOpen f) (sym (opened_at x)) h

rest_left : (ys : List Opening) → Leaves (rest_entered (map open_each (map opening_in ys)))
rest_left [] rest = refl
rest_left (y ∷ ys) rest = entered_left y.0 (rest_entered (map open_each (map opening_in ys)) rest) ∙ ap (entered y.0) (rest_left ys rest)

open_parts_left : (ys : List Opening) → LeavesOpen (open_first (map open_each (map opening_in ys)))
unfolding opened
open_parts_left [] none rest = refl
open_parts_left (y ∷ ys) none rest =
    y.1 (open_first (map open_each (map opening_in ys)) none rest) (rest_entered (map open_each (map opening_in ys)) rest)
    ∙ ap (λ n. opened y.0 n (without_values (rest_entered (map open_each (map opening_in ys)) rest))) (open_parts_left ys none rest)
    ∙ ap (λ r. opened y.0 (open_first (map open_each (map opening_in ys)) (without_values none) (without_values rest)) r) (rest_left ys rest)

open_choice_left : (line : ℕ) (e : BoundExpr) (x : Opening) (y : Option Opening) → LeavesOpen (opened (roll-BoundStat (map-BoundStat Opening BoundStat opening_in (layer.If line e x y))))
open_choice_left line e x None = by_open (layer.If line e x.0 None) (λ none rest. refl)
open_choice_left line e x (Some y) = by_open (layer.If line e x.0 (Some y.0)) (λ none rest. refl)

open_layer_left : (y : BoundStat-F Opening) → LeavesOpen (opened (roll-BoundStat (map-BoundStat Opening BoundStat opening_in y)))
unfolding opened
open_layer_left (layer.Block parts) = by_open (layer.Block (map opening_in parts)) (open_parts_left parts)
open_layer_left (layer.Simple x) = by_open (layer.Simple x) (λ none rest. refl)
open_layer_left (layer.If line e x y) = open_choice_left line e x y
open_layer_left (layer.While line e x) = by_open (layer.While line e x.0) (λ none rest. refl)
open_layer_left (layer.Do line x e) = by_open (layer.Do line x.0 e) (λ none rest. x.1 _ _)
open_layer_left (layer.For line begin e after x) = by_open (layer.For line begin e after x.0) (λ none rest. first_left begin _)
open_layer_left (layer.Break line) = by_open (layer.Break line) (λ none rest. refl)
open_layer_left (layer.Continue line) = by_open (layer.Continue line) (λ none rest. refl)
open_layer_left (layer.Return line e) = by_open (layer.Return line e) (λ none rest. refl)

pub opened_left : (s : BoundStat) → LeavesOpen (opened s)
opened_left = ind-BoundStat (λ s. LeavesOpen (opened s)) (λ x y e. subst (λ x. LeavesOpen (opened (roll-BoundStat x))) e (open_layer_left y))

-- ---- and of jumps

pub after_left : (items : List Item) → without_values (after_loop items) ≡ after_loop (without_values items)
after_left [] = refl
after_left (Again l ∷ rest) = refl
after_left (Leave line t k v saved ∷ rest) = refl
after_left (_ ∷ rest) = after_left rest

pub at_left : (items : List Item) → without_values (at_loop items) ≡ at_loop (without_values items)
at_left [] = refl
at_left (Again l ∷ rest) = refl
at_left (Leave line t k v saved ∷ rest) = refl
at_left (_ ∷ rest) = at_left rest

pub returned_left : (v : Option Value) (items : List Item) → without_values (returned v items) ≡ returned None (without_values items)
returned_left v [] = refl
returned_left v (Leave line t k so_far saved ∷ rest) = ap (λ w. Leave line t k w no_values ∷ without_values rest) (sym (no_result k no_value))
returned_left v (_ ∷ rest) = returned_left v rest

-- items that are come to lead on
pub come_on : (b : Bound) (start items next later : List Item) → Comes b start (without_values items) → without_values next ≡ later → Contains (goes_to b (without_values items)) later → Comes b start (without_values next)
come_on b start items next later c e g = subst (λ x. Comes b start x) (sym e) (onward c g)
