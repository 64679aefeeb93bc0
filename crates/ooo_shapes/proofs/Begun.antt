-- A statement that is begun: what remains is headed by an item that is done at once, which stands where its nodes begin.
use Rattle.std.proofs.Common.{◌≡◌, ℕ, ◌+◌, inl, List, [], ◌∷◌, ◌++◌, length, map, Option, Some, None, refl, sym, subst, ◌∙◌, arith}
use Rattle.ooo_value.specs.declared.values.Value.{Value}
use Rattle.ooo_code.specs.declared.node.Node.{Node}
use Rattle.ooo_bound.specs.declared.expr.BoundExpr.{BoundExpr}
use Rattle.ooo_bound.specs.declared.model.Bound.{Bound}
use Rattle.ooo_bound.specs.declared.model.BoundProcess.{BoundProcess}
use Rattle.ooo_bound.specs.declared.stat.BoundStat.{BoundStat, BoundStat-F, ind-BoundStat, map-BoundStat, roll-BoundStat, para-BoundStat, para-roll-BoundStat}
use Rattle.ooo_bound.specs.declared.stat.BoundStat.TheOpen as layer
use Rattle.ooo_bound.specs.declared.stat.LinedSimple.{LinedSimple}
use Rattle.ooo_activation.specs.Locals.{Locals}
use Rattle.ooo_activation.specs.Kinds.{joined, simples_of}
use Rattle.ooo_activation.specs.Items.{Item, Putting, Check, Begin, Again, Leave, Enter, while_loop, enter_step, entered, Open, rest_entered, open_first, open_step, opened}
use Rattle.ooo_shapes.specs.declared.around.Around.{Around}
use Rattle.ooo_shapes.specs.declared.around.Widths.{Widths}
use Rattle.ooo_shapes.specs.Widths.{both, expr_widths, all_widths, stat_widths}
use Rattle.ooo_shapes.specs.Simples.{begins}
use Rattle.ooo_shapes.specs.Shapes.{Shape, then, all_shapes, inside, do_shape, shape_of}
use Rattle.ooo_shapes.proofs.Frames.{Frame}
use Rattle.ooo_shapes.proofs.Places.{h, Place}
use Rattle.ooo_shapes.proofs.Enter.{begins_end, begins_some, begins_then, IsFull, callees, LaidAt, lay, Good, good, good_empty, good_then, do_at, each, shape_at, widths_at, simples_at, entered_at, layer_shape, layer_widths, layer_simples}

-- headed by an item that counts, or by a blocking write
abbrev pub IsReady : List Item → Type 0
IsReady [] = ⊥
IsReady (Putting line c v ∷ rest) = ⊥
IsReady (Begin l ∷ rest) = ⊥
IsReady (Again l ∷ rest) = ⊥
IsReady (Leave line into k v saved ∷ rest) = ⊥
IsReady _ = Unit {0}

module _ (b : Bound) (process : BoundProcess) (total : ℕ) (code : List Node) (slots : List Value) (locals : Locals) where
  pub record Somewhere (items : List Item) (pc : ℕ) : Type 0 where
    pub around : Around
    pub place : Place b process total code around slots items pc
    pub frame : Frame total around locals slots

  abbrev Opens : ℕ → Shape → Widths → List LinedSimple → Open → Type 0
  Opens depth x w ss begin = (t : Around) (free at next : ℕ) (none rest : List Item) → LaidAt b process total code depth x w ss t free at next → Place b process total code t slots rest next → Frame total t locals slots → Somewhere none next → Somewhere (begin none rest) (begins x.size at next)

  abbrev IsReadied : Open → Type 0
  IsReadied begin = (none rest : List Item) → IsReady none → IsReady (begin none rest)

  pub record Begun (depth : ℕ) (x : Shape) (w : Widths) (ss : List LinedSimple) (begin : Open) : Type 0 where
    pub opens : Opens depth x w ss begin
    pub ready : IsReadied begin

  abbrev GoodFor : ℕ → Shape → Widths → List LinedSimple → Enter → Type 0
  GoodFor depth x w ss enter = Good b process total code slots depth x w ss enter

  -- what is ready as it is entered
  as_entered : (depth : ℕ) (x : Shape) (w : Widths) (ss : List LinedSimple) (enter : Enter) → GoodFor depth x w ss enter → ((rest : List Item) → IsReady (enter rest)) → Begun depth x w ss (λ none rest. enter rest)
  as_entered depth x w ss enter g r = record {
    opens = λ t free at next none rest l p f n. record { around = t; place = g.enters t free at next rest l p; frame = f };
    ready = λ none rest n. r rest;
  }

  module _ (depth : ℕ) where
    abbrev shape : BoundStat → Shape
    shape s = shape_of (h b process total code) (callees b process total code depth) s

    abbrev P : BoundStat → Type 0
    P s = Begun depth (shape s) (stat_widths s) (simples_of s) (opened s)

    abbrev Shown : Type 0
    Shown = (s : BoundStat) × P s

    abbrev stat_in : Shown → BoundStat
    stat_in p = p.0

    abbrev open_each : BoundStat → BoundStat × Open
    open_each y = (y, para-BoundStat Open open_step y)

    abbrev enter_each : BoundStat → BoundStat × Enter
    enter_each = each b process total code slots

    good_at : (s : BoundStat) → GoodFor depth (shape s) (stat_widths s) (simples_of s) (entered s)
    good_at s = good b process total code slots depth s

    abbrev shape_in : BoundStat-F BoundStat → Shape
    shape_in x = layer_shape b process total code slots depth x

    abbrev widths_in : BoundStat-F BoundStat → Widths
    widths_in x = layer_widths b process total code slots x

    abbrev simples_in_layer : BoundStat-F BoundStat → List LinedSimple
    simples_in_layer x = layer_simples b process total code slots x

    opened_at : (x : BoundStat-F BoundStat) → opened (roll-BoundStat x) ≡ open_step (map-BoundStat BoundStat (BoundStat × Open) open_each x)
    unfolding opened
    opened_at x = para-roll-BoundStat Open open_step x

    -- a statement is begun as its form says
    by_layer : (x : BoundStat-F BoundStat) → Begun depth (shape_in x) (widths_in x) (simples_in_layer x) (open_step (map-BoundStat BoundStat (BoundStat × Open) open_each x)) → P (roll-BoundStat x)
    by_layer x g =
        subst (λ a. Begun depth a (stat_widths (roll-BoundStat x)) (simples_of (roll-BoundStat x)) (opened (roll-BoundStat x))) (sym (shape_at b process total code slots depth x))
        (subst (λ w. Begun depth (shape_in x) w (simples_of (roll-BoundStat x)) (opened (roll-BoundStat x))) (sym (widths_at b process total code slots x))
        (subst (λ ss. Begun depth (shape_in x) (widths_in x) ss (opened (roll-BoundStat x))) (sym (simples_at b process total code slots x))
        (subst (λ f. Begun depth (shape_in x) (widths_in x) (simples_in_layer x) f) (sym (opened_at x)) g)))

    abbrev enter_in : BoundStat-F BoundStat → Enter
    enter_in x = enter_step (map-BoundStat BoundStat (BoundStat × Enter) enter_each x)

    entered_good : (x : BoundStat-F BoundStat) → GoodFor depth (shape_in x) (widths_in x) (simples_in_layer x) (enter_in x)
    entered_good x =
        subst (λ a. GoodFor depth a (widths_in x) (simples_in_layer x) (enter_in x)) (shape_at b process total code slots depth x)
        (subst (λ w. GoodFor depth (shape (roll-BoundStat x)) w (simples_in_layer x) (enter_in x)) (widths_at b process total code slots x)
        (subst (λ ss. GoodFor depth (shape (roll-BoundStat x)) (stat_widths (roll-BoundStat x)) ss (enter_in x)) (simples_at b process total code slots x)
        (subst (λ f. GoodFor depth (shape (roll-BoundStat x)) (stat_widths (roll-BoundStat x)) (simples_of (roll-BoundStat x)) f) (entered_at b process total code slots x) (good_at (roll-BoundStat x)))))

    -- where a statement is begun as it is entered
    same_layer : (x : BoundStat-F BoundStat) → open_step (map-BoundStat BoundStat (BoundStat × Open) open_each x) ≡ (λ none rest. enter_in x rest) → ((rest : List Item) → IsReady (enter_in x rest)) → P (roll-BoundStat x)
    same_layer x e r = by_layer x (subst (λ o. Begun depth (shape_in x) (widths_in x) (simples_in_layer x) o) (sym e) (as_entered depth (shape_in x) (widths_in x) (simples_in_layer x) (enter_in x) (entered_good x) r))

    abbrev shapes_of : List Shown → Shape
    shapes_of ys = all_shapes (map shape (map stat_in ys))

    abbrev widths_of : List Shown → Widths
    widths_of ys = all_widths (map stat_widths (map stat_in ys))

    abbrev parts_of : List Shown → List LinedSimple
    parts_of ys = joined (map simples_of (map stat_in ys))

    parts_good : (ys : List Shown) → GoodFor depth (shapes_of ys) (widths_of ys) (parts_of ys) (rest_entered (map open_each (map stat_in ys)))
    parts_good [] = good_empty b process total code slots depth
    parts_good (y ∷ ys) =
        good_then b process total code slots depth (shape y.0) (shapes_of ys) (stat_widths y.0) (widths_of ys) (simples_of y.0) (parts_of ys) (entered y.0) (rest_entered (map open_each (map stat_in ys))) (good_at y.0) (parts_good ys)

    -- of two statements the first is begun that does something
    open_then : (x y : Shape) (v w : Widths) (ss rr : List LinedSimple) (f : Open) (g : Enter) (o : Open) → IsFull x → Begun depth x v ss f → GoodFor depth y w rr g → Begun depth y w rr o → Begun depth ((then) x y) (both v w) (ss ++ rr) (λ none rest. f (o none rest) (g rest))
    open_then x y v w ss rr f g o full bx gy by = record {
      opens = λ t free at next none rest l p fr n.
          let parts = lay b process total code depth x y v w ss rr t free at next full l in
          let second = gy.enters t (free + length x.slots) (at + x.size) next rest parts.1 p in
          let found = bx.opens t free at (begins y.size (at + x.size) next) (o none rest) (g rest) parts.0 second fr (by.opens t (free + length x.slots) (at + x.size) next none rest parts.1 p fr n) in
          subst (λ q. Somewhere (f (o none rest) (g rest)) q) (sym (begins_then x.size y.size at next)) found;
      ready = λ none rest n. bx.ready (o none rest) (g rest) (by.ready none rest n);
    }

    open_all : (ys : List Shown) → Begun depth (shapes_of ys) (widths_of ys) (parts_of ys) (open_first (map open_each (map stat_in ys)))
    unfolding opened
    open_all [] = record { opens = λ t free at next none rest l p f n. n; ready = λ none rest n. n }
    open_all (y ∷ ys) =
        open_then (shape y.0) (shapes_of ys) (stat_widths y.0) (widths_of ys) (simples_of y.0) (parts_of ys) (opened y.0) (rest_entered (map open_each (map stat_in ys))) (open_first (map open_each (map stat_in ys))) (good_at y.0).full y.1 (parts_good ys) (open_all ys)

    -- a loop that begins with its body is begun as the body is
    open_do : (line : ℕ) (e : BoundExpr) (body : BoundStat) → P body → Begun depth (do_shape line e (shape body)) (both (stat_widths body) (expr_widths e)) (simples_of body) (λ none rest. opened body (Check (while_loop line e body) ∷ rest) (Again (while_loop line e body) ∷ rest))
    open_do line e body s = record {
      opens = λ t free at next none rest l p f n.
          let x = shape body in
          let test = at + x.size in
          let loop = do_at b process total code slots depth line e body t free at next (good_at body).full l in
          let again : Place b process total code (inside t next test) slots (Again (while_loop line e body) ∷ rest) test = (next, test, t, loop, refl, p) in
          let check : Place b process total code t slots (Check (while_loop line e body) ∷ rest) test = (next, test, test, loop, inl refl, p) in
          let inner : Frame total (inside t next test) locals slots = record { same = f.same; within = f.within; low = f.low } in
          let found = s.opens (inside t next test) free at test (Check (while_loop line e body) ∷ rest) (Again (while_loop line e body) ∷ rest) loop.body again inner (record { around = t; place = check; frame = f }) in
          subst (λ q. Somewhere (opened body (Check (while_loop line e body) ∷ rest) (Again (while_loop line e body) ∷ rest)) q) (begins_end x.size at ∙ sym (begins_some (x.size + 1) at next (omega arith))) found;
      ready = λ none rest n. s.ready _ _ tt;
    }

    begun_choice : (line : ℕ) (e : BoundExpr) (x : Shown) (y : Option Shown) → P (roll-BoundStat (map-BoundStat Shown BoundStat stat_in (layer.If line e x y)))
    begun_choice line e x None = same_layer (layer.If line e x.0 None) refl (λ rest. tt)
    begun_choice line e x (Some y) = same_layer (layer.If line e x.0 (Some y.0)) refl (λ rest. tt)

    begun_for : (line : ℕ) (begin : List LinedSimple) (e : Option BoundExpr) (after : Option LinedSimple) (body : BoundStat) → P (roll-BoundStat (layer.For line begin e after body))
    begun_for line [] e after body = same_layer (layer.For line [] e after body) refl (λ rest. tt)
    begun_for line (x ∷ xs) e after body = same_layer (layer.For line (x ∷ xs) e after body) refl (λ rest. tt)

    begun_layer : (y : BoundStat-F Shown) → P (roll-BoundStat (map-BoundStat Shown BoundStat stat_in y))
    unfolding opened
    begun_layer (layer.Block parts) = by_layer (layer.Block (map stat_in parts)) (open_all parts)
    begun_layer (layer.Simple x) = same_layer (layer.Simple x) refl (λ rest. tt)
    begun_layer (layer.If line e x y) = begun_choice line e x y
    begun_layer (layer.While line e x) = same_layer (layer.While line e x.0) refl (λ rest. tt)
    begun_layer (layer.Do line x e) = by_layer (layer.Do line x.0 e) (open_do line e x.0 x.1)
    begun_layer (layer.For line begin e after x) = begun_for line begin e after x.0
    begun_layer (layer.Break line) = same_layer (layer.Break line) refl (λ rest. tt)
    begun_layer (layer.Continue line) = same_layer (layer.Continue line) refl (λ rest. tt)
    begun_layer (layer.Return line e) = same_layer (layer.Return line e) refl (λ rest. tt)

    pub begun : (s : BoundStat) → P s
    begun = ind-BoundStat P (λ x y e. subst (λ x. P (roll-BoundStat x)) e (begun_layer y))
