-- Where a process stands by its items and by its node.
use Rattle.std.proofs.Common.{◌≡◌, ℕ, zero, suc, ◌+◌, ◌≤◌, ◌⊎◌, inl, inr, ⊎_elim, List, [], ◌∷◌, ◌++◌, length, true, Option, Some, None, sym, ap, ◌∙◌, subst, arith, get_or}
use Rattle.std.specs.Prelude.{slice_get}
use Rattle.ooo_value.specs.declared.kinds.Kind.{Kind}
use Rattle.ooo_value.specs.declared.values.Value.{Value}
use Rattle.ooo_code.specs.declared.expression.NodeExpr.{NodeExpr}
use Rattle.ooo_code.specs.declared.expression.NodeExpr.TheVariants as node
use Rattle.ooo_code.specs.declared.node.Node.{Node}
use Rattle.ooo_code.specs.declared.node.NodeKind.TheVariants as kind
use Rattle.ooo_code.specs.Expressions.{no_value}
use Rattle.ooo_bound.specs.declared.expr.BoundExpr.{BoundExpr}
use Rattle.ooo_bound.specs.declared.model.Bound.{Bound}
use Rattle.ooo_bound.specs.declared.model.BoundFunction.{BoundFunction}
use Rattle.ooo_bound.specs.declared.model.BoundProcess.{BoundProcess}
use Rattle.ooo_bound.specs.declared.stat.BoundRight.{BoundRight}
use Rattle.ooo_bound.specs.declared.stat.BoundRight.TheVariants as right
use Rattle.ooo_bound.specs.declared.stat.BoundSimple.{BoundSimple}
use Rattle.ooo_bound.specs.declared.stat.BoundSimple.TheVariants as simple
use Rattle.ooo_bound.specs.declared.stat.BoundStat.{BoundStat}
use Rattle.ooo_bound.specs.declared.stat.BoundTarget.{BoundTarget}
use Rattle.ooo_bound.specs.declared.stat.LinedSimple.{LinedSimple}
use Rattle.ooo_activation.specs.Locals.{Locals}
use Rattle.ooo_activation.specs.Kinds.{simples_of, simples_in}
use Rattle.ooo_activation.specs.Items.{Loop, Item, Do, Putting, Choose, Begin, Check, Again, Break, Continue, Return, Leave, after_loop, at_loop}
use Rattle.ooo_activation.specs.Activations.{data_read}
use Rattle.ooo_shapes.specs.declared.around.Around.{Around}
use Rattle.ooo_shapes.specs.declared.around.Widths.{Widths}
use Rattle.ooo_shapes.specs.Widths.{nothing, count_of, expr_widths, option_widths, target_widths, simple_widths, stat_widths}
use Rattle.ooo_shapes.specs.Expressions.{first_base, lowered}
use Rattle.ooo_shapes.specs.Simples.{Home, counted, uncounted, wait_kind, channel_slot, begins}
use Rattle.ooo_shapes.specs.Shapes.{Shape, empty, result_kinds, leave_kind, lined_shape, inside, test_or_true, return_kind, shape_of, callees_within}
use Rattle.ooo_shapes.specs.Designs.{home_of, around_process, process_widths}
use Rattle.ooo_shapes.proofs.Frames.{Within, Frame, Keeps, keeps_frame}

-- ---- calls that find their functions

-- a statement's call, if it is one, finds its function
abbrev pub RightFound : (ℕ → Type 0) → BoundRight → Type 0
RightFound P (right.Call g args) = P g
RightFound P _ = Unit {0}

abbrev pub SimpleFound : (ℕ → Type 0) → BoundSimple → Type 0
SimpleFound P (simple.Assign into r) = RightFound P r
SimpleFound P _ = Unit {0}

abbrev pub SimplesFound : (ℕ → Type 0) → List LinedSimple → Type 0
SimplesFound P [] = Unit {0}
SimplesFound P (x ∷ xs) = SimpleFound P x.simple × SimplesFound P xs

abbrev pub FunctionFound : (ℕ → Type 0) → Option BoundFunction → Type 0
FunctionFound P None = ⊥
FunctionFound P (Some f) = SimplesFound P (simples_in f.body)

-- a call is nested no deeper than this, and it and those in it find their functions
abbrev pub CallFound : List BoundFunction → (depth : ℕ) → ℕ → Type 0
CallFound functions zero g = ⊥
CallFound functions (suc depth) g = FunctionFound (CallFound functions depth) (slice_get functions g)

pub found_left : (P : ℕ → Type 0) (xs ys : List LinedSimple) → SimplesFound P (xs ++ ys) → SimplesFound P xs
found_left P [] ys h = tt
found_left P (x ∷ xs) ys h = (h.0, found_left P xs ys h.1)

pub found_right : (P : ℕ → Type 0) (xs ys : List LinedSimple) → SimplesFound P (xs ++ ys) → SimplesFound P ys
found_right P [] ys h = h
found_right P (x ∷ xs) ys h = found_right P xs ys h.1

-- a statement that is begun by an uncounted item, or by one that counts
abbrev pub IsPlain : BoundSimple → Type 0
IsPlain (simple.Write c e) = ⊥
IsPlain _ = Unit {0}

-- the slot of a function's result holds it; without a result there is no value
abbrev pub Holds : Option Kind → (slot : ℕ) → List Value → Value → Type 0
Holds None slot slots v = v ≡ no_value
Holds (Some k) slot slots v = get_or slots slot no_value ≡ v

module _ (b : Bound) (process : BoundProcess) (total : ℕ) (code : List Node) where
  abbrev pub h : Home
  h = home_of b process

  -- these nodes stand from this place on
  abbrev pub HasAt : ℕ → List Node → Type 0
  HasAt at [] = Unit {0}
  HasAt at (i ∷ is) = (slice_get code at ≡ Some i) × HasAt (at + 1) is

  pub has_front : (at : ℕ) (x y : List Node) → HasAt at (x ++ y) → HasAt at x
  has_front at [] y h = tt
  has_front at (i ∷ x) y h = (h.0, has_front (at + 1) x y h.1)

  pub has_back : (at : ℕ) (x y : List Node) → HasAt at (x ++ y) → HasAt (at + length x) y
  has_back at [] y h = let e : at ≡ at + 0 = omega arith in subst (λ n. HasAt n y) e h
  has_back at (i ∷ x) y h =
      let e : at + 1 + length x ≡ at + length (i ∷ x) = omega arith in
      subst (λ n. HasAt n y) e (has_back (at + 1) x y h.1)

  -- a node that counts stands there
  abbrev pub Counts : ℕ → Type 0
  Counts pc = (i : Node) × (slice_get code pc ≡ Some i) × (i.counts ≡ true)

  -- a node that sets a slot stands there, and leads to the one behind it, which counts
  pub record LeadsOn (pc : ℕ) : Type 0 where
    pub node : Node
    pub is : slice_get code pc ≡ Some node
    pub slot : ℕ
    pub value : NodeExpr
    pub sets : node.kind ≡ kind.Set slot value
    pub next : node.next ≡ pc + 1
    pub counts : Counts (pc + 1)

  -- a way that goes on, or leads to a node that counts, or to the value of a blocking write
  abbrev pub After : ℕ → ℕ → Type 0
  After p q = (p ≤ q) ⊎ (Counts q ⊎ LeadsOn q)

  pub after_more : (p q r : ℕ) → p ≤ q → After q r → After p r
  after_more p q r le a = ⊎_elim (λ x. inl (omega arith)) (λ c. inr c) a

  -- a statement's nodes stand at a place, and `next` comes after them
  pub record Laid (depth : ℕ) (x : Shape) (w : Widths) (ss : List LinedSimple) (t : Around) (free at next : ℕ) : Type 0 where
    pub within : Within w t.widths
    pub found : SimplesFound (CallFound b.functions depth) ss
    pub has : HasAt at (x.nodes t free at next)
    pub after : After (at + x.size) next
    pub room : free + length x.slots ≤ total
    pub above : t.base + count_of t.widths ≤ free

  -- a statement without statements in it
  pub record SimpleAt (x : LinedSimple) (t : Around) (at next : ℕ) : Type 0 where
    pub depth : ℕ
    pub free : ℕ
    pub laid : Laid depth (lined_shape h (callees_within depth h) x) (simple_widths x.simple) (x ∷ []) t free at next

  -- what follows a turn, if anything does, leads to the test
  abbrev pub StepAt : Option LinedSimple → Around → (again test : ℕ) → Type 0
  StepAt None t again test = again ≡ test
  StepAt (Some x) t again test = SimpleAt x t again test

  -- a loop whose test and whose way back stand at these places
  pub record LoopAt (l : Loop) (t : Around) (next test again : ℕ) : Type 0 where
    pub depth : ℕ
    pub free : ℕ
    pub body_at : ℕ
    pub yes : ℕ
    pub within : Within (option_widths l.test) t.widths
    pub is_test : slice_get code test ≡ Some (counted (kind.Test (lowered t (test_or_true l.test)) next) l.line yes)
    pub yes_is : yes ≡ begins (shape_of h (callees_within depth h) l.body).size body_at again
    pub body : Laid depth (shape_of h (callees_within depth h) l.body) (stat_widths l.body) (simples_of l.body) (inside t next again) free body_at again
    pub step : StepAt l.after t again test

  -- the branch that may be missing
  abbrev pub branch_shape : (depth : ℕ) → Option BoundStat → Shape
  branch_shape depth None = empty
  branch_shape depth (Some s) = shape_of h (callees_within depth h) s

  abbrev pub branch_widths : Option BoundStat → Widths
  branch_widths None = nothing
  branch_widths (Some s) = stat_widths s

  abbrev pub branch_simples : Option BoundStat → List LinedSimple
  branch_simples None = []
  branch_simples (Some s) = simples_of s

  pub record ChooseAt (line : ℕ) (e : BoundExpr) (x : BoundStat) (y : Option BoundStat) (t : Around) (next pc : ℕ) : Type 0 where
    pub depth : ℕ
    pub first_free : ℕ
    pub first_at : ℕ
    pub second_free : ℕ
    pub second_at : ℕ
    pub within : Within (expr_widths e) t.widths
    pub is_test : slice_get code pc ≡ Some (counted (kind.Test (lowered t e) (begins (branch_shape depth y).size second_at next)) line (begins (shape_of h (callees_within depth h) x).size first_at next))
    pub first : Laid depth (shape_of h (callees_within depth h) x) (stat_widths x) (simples_of x) t first_free first_at next
    pub second : Laid depth (branch_shape depth y) (branch_widths y) (branch_simples y) t second_free second_at next

  -- the end of a called function; u is around its caller
  pub record LeaveAt (line : ℕ) (into : BoundTarget) (k : Option Kind) (v : Value) (saved : Locals) (t u : Around) (next pc : ℕ) (slots : List Value) : Type 0 where
    pub is_node : slice_get code pc ≡ Some (uncounted (leave_kind h u into k t.result_slot next) line next)
    pub after : After (pc + 1) next
    pub frame : Frame total u saved slots
    pub within : Within (target_widths into) u.widths
    pub below : u.base + count_of u.widths ≤ t.result_slot
    pub own : t.base ≡ t.result_slot + length (result_kinds k)
    pub result : t.result ≡ k
    pub holds : Holds k t.result_slot slots v
    pub break_to : t.break_to ≡ pc
    pub continue_to : t.continue_to ≡ pc
    pub return_to : t.return_to ≡ pc

  -- a blocking write whose value stands in its slot
  pub record PuttingAt (line c : ℕ) (v : Value) (slots : List Value) (next pc : ℕ) : Type 0 where
    pub wait_to : ℕ
    pub put_to : ℕ
    pub tests : slice_get code pc ≡ Some (counted (kind.TestFree c wait_to) line put_to)
    pub waits : slice_get code wait_to ≡ Some (uncounted (wait_kind (data_read b c)) line pc)
    pub puts : slice_get code put_to ≡ Some (uncounted (kind.Put c (node.Slot (channel_slot h c))) line next)
    pub after : After (put_to + 1) next
    pub holds : get_or slots (channel_slot h c) no_value ≡ v

  -- at a loop's test, or at the way past what follows each turn
  abbrev pub CheckAt : (pc test : ℕ) → Type 0
  CheckAt pc test = (pc ≡ test) ⊎ ((line : ℕ) × (slice_get code pc ≡ Some (uncounted kind.Goto line test)) × (pc + 1 ≤ test))

  -- the nodes from pc on do these items; t is around the first of them
  abbrev pub Place : Around → List Value → List Item → (pc : ℕ) → Type 0
  Place t slots [] pc = (slice_get code pc ≡ Some (uncounted kind.End 0 pc)) × (t ≡ around_process (process_widths process) pc)
  Place t slots (Do x ∷ rest) pc = (next : ℕ) × SimpleAt x t pc next × Place t slots rest next
  Place t slots (Putting line c v ∷ rest) pc = ⊥
  Place t slots (Choose line e x y ∷ rest) pc = (next : ℕ) × ChooseAt line e x y t next pc × Place t slots rest next
  Place t slots (Begin l ∷ rest) pc = (next : ℕ) × (again : ℕ) × (loop : LoopAt l t next again again) × (pc ≡ begins (shape_of h (callees_within loop.depth h) l.body).size loop.body_at again) × Place t slots rest next
  Place t slots (Check l ∷ rest) pc = (next : ℕ) × (again : ℕ) × (test : ℕ) × LoopAt l t next test again × CheckAt pc test × Place t slots rest next
  Place t slots (Again l ∷ rest) pc = (next : ℕ) × (test : ℕ) × (u : Around) × LoopAt l u next test pc × (t ≡ inside u next pc) × Place u slots rest next
  Place t slots (Break line ∷ rest) pc = (next : ℕ) × (slice_get code pc ≡ Some (counted kind.Goto line t.break_to)) × Place t slots rest next
  Place t slots (Continue line ∷ rest) pc = (next : ℕ) × (slice_get code pc ≡ Some (counted kind.Goto line t.continue_to)) × Place t slots rest next
  Place t slots (Return line e ∷ rest) pc = (next : ℕ) × Within (option_widths e) t.widths × (slice_get code pc ≡ Some (counted (return_kind t e) line t.return_to)) × Place t slots rest next
  Place t slots (Leave line into k v saved ∷ rest) pc = (next : ℕ) × (u : Around) × LeaveAt line into k v saved t u next pc slots × Place u slots rest next

  -- the same, where a blocking write may have its value already
  abbrev pub At : Around → List Value → List Item → (pc : ℕ) → Type 0
  At t slots (Putting line c v ∷ rest) pc = (next : ℕ) × PuttingAt line c v slots next pc × Place t slots rest next
  At t slots items pc = Place t slots items pc

  pub place_at : (t : Around) (slots : List Value) (items : List Item) (pc : ℕ) → Place t slots items pc → At t slots items pc
  place_at t slots [] pc p = p
  place_at t slots (Putting line c v ∷ rest) pc p = absurd p
  place_at t slots (_ ∷ rest) pc p = p

  -- the same place in code, and the same locals
  pub record Stands (items : List Item) (locals : Locals) (slots : List Value) (pc : ℕ) : Type 0 where
    pub around : Around
    pub place : At around slots items pc
    pub frame : Frame total around locals slots

  pub stands : (t : Around) (items : List Item) (locals : Locals) (slots : List Value) (pc : ℕ) → Place t slots items pc → Frame total t locals slots → Stands items locals slots pc
  stands t items locals slots pc p f = record { around = t; place = place_at t slots items pc p; frame = f }

  -- ---- where the jumps go

  -- a `break` leads behind the loop
  pub after_break : (t : Around) (locals : Locals) (slots : List Value) (items : List Item) (pc : ℕ) → Place t slots items pc → Frame total t locals slots → Stands (after_loop items) locals slots t.break_to
  after_break t locals slots [] pc p f = subst (λ q. Stands [] locals slots q) (sym (ap (λ (t : Around). t.break_to) p.1)) (stands t [] locals slots pc p f)
  after_break t locals slots (Do x ∷ rest) pc p f = after_break t locals slots rest p.0 p.2 f
  after_break t locals slots (Putting line c v ∷ rest) pc p f = absurd p
  after_break t locals slots (Choose line e x y ∷ rest) pc p f = after_break t locals slots rest p.0 p.2 f
  after_break t locals slots (Begin l ∷ rest) pc p f = after_break t locals slots rest p.0 p.4 f
  after_break t locals slots (Check l ∷ rest) pc p f = after_break t locals slots rest p.0 p.5 f
  after_break t locals slots (Again l ∷ rest) pc p f =
      subst (λ (t : Around). Frame total t locals slots → Stands rest locals slots t.break_to) (sym p.4)
      (λ f. stands p.2 rest locals slots p.0 p.5 (record { same = f.same; within = f.within; low = f.low })) f
  after_break t locals slots (Break line ∷ rest) pc p f = after_break t locals slots rest p.0 p.2 f
  after_break t locals slots (Continue line ∷ rest) pc p f = after_break t locals slots rest p.0 p.2 f
  after_break t locals slots (Return line e ∷ rest) pc p f = after_break t locals slots rest p.0 p.3 f
  after_break t locals slots (Leave line into k v saved ∷ rest) pc p f =
      subst (λ q. Stands (Leave line into k v saved ∷ rest) locals slots q) (sym p.2.break_to) (stands t (Leave line into k v saved ∷ rest) locals slots pc p f)

  -- a `continue` leads to the end of the body
  pub after_continue : (t : Around) (locals : Locals) (slots : List Value) (items : List Item) (pc : ℕ) → Place t slots items pc → Frame total t locals slots → Stands (at_loop items) locals slots t.continue_to
  after_continue t locals slots [] pc p f = subst (λ q. Stands [] locals slots q) (sym (ap (λ (t : Around). t.continue_to) p.1)) (stands t [] locals slots pc p f)
  after_continue t locals slots (Do x ∷ rest) pc p f = after_continue t locals slots rest p.0 p.2 f
  after_continue t locals slots (Putting line c v ∷ rest) pc p f = absurd p
  after_continue t locals slots (Choose line e x y ∷ rest) pc p f = after_continue t locals slots rest p.0 p.2 f
  after_continue t locals slots (Begin l ∷ rest) pc p f = after_continue t locals slots rest p.0 p.4 f
  after_continue t locals slots (Check l ∷ rest) pc p f = after_continue t locals slots rest p.0 p.5 f
  after_continue t locals slots (Again l ∷ rest) pc p f =
      subst (λ q. Stands (Again l ∷ rest) locals slots q) (sym (ap (λ (t : Around). t.continue_to) p.4)) (stands t (Again l ∷ rest) locals slots pc p f)
  after_continue t locals slots (Break line ∷ rest) pc p f = after_continue t locals slots rest p.0 p.2 f
  after_continue t locals slots (Continue line ∷ rest) pc p f = after_continue t locals slots rest p.0 p.2 f
  after_continue t locals slots (Return line e ∷ rest) pc p f = after_continue t locals slots rest p.0 p.3 f
  after_continue t locals slots (Leave line into k v saved ∷ rest) pc p f =
      subst (λ q. Stands (Leave line into k v saved ∷ rest) locals slots q) (sym p.2.continue_to) (stands t (Leave line into k v saved ∷ rest) locals slots pc p f)

  -- ---- slots that may change

  -- a result that stands below what changes stays there
  holds_keeps : (k : Option Kind) (slot n : ℕ) (slots slots' : List Value) (v : Value) → first_base ≤ slot → slot + length (result_kinds k) ≤ n → Keeps total n slots slots' → Holds k slot slots v → Holds k slot slots' v
  holds_keeps None slot n slots slots' v low le s e = e
  holds_keeps (Some k) slot n slots slots' v low le s e = s slot low (omega (arith, le)) ∙ e

  -- what stands below a function's own locals may not
  pub place_keeps : (t : Around) (n : ℕ) (slots slots' : List Value) (items : List Item) (pc : ℕ) → t.base ≤ n → Keeps total n slots slots' → Place t slots items pc → Place t slots' items pc
  place_keeps t n slots slots' [] pc le s p = p
  place_keeps t n slots slots' (Do x ∷ rest) pc le s p = (p.0, p.1, place_keeps t n slots slots' rest p.0 le s p.2)
  place_keeps t n slots slots' (Putting line c v ∷ rest) pc le s p = absurd p
  place_keeps t n slots slots' (Choose line e x y ∷ rest) pc le s p = (p.0, p.1, place_keeps t n slots slots' rest p.0 le s p.2)
  place_keeps t n slots slots' (Begin l ∷ rest) pc le s p = (p.0, p.1, p.2, p.3, place_keeps t n slots slots' rest p.0 le s p.4)
  place_keeps t n slots slots' (Check l ∷ rest) pc le s p = (p.0, p.1, p.2, p.3, p.4, place_keeps t n slots slots' rest p.0 le s p.5)
  place_keeps t n slots slots' (Again l ∷ rest) pc le s p = (p.0, p.1, p.2, p.3, p.4, place_keeps p.2 n slots slots' rest p.0 (subst (λ (t : Around). t.base ≤ n) p.4 le) s p.5)
  place_keeps t n slots slots' (Break line ∷ rest) pc le s p = (p.0, p.1, place_keeps t n slots slots' rest p.0 le s p.2)
  place_keeps t n slots slots' (Continue line ∷ rest) pc le s p = (p.0, p.1, place_keeps t n slots slots' rest p.0 le s p.2)
  place_keeps t n slots slots' (Return line e ∷ rest) pc le s p = (p.0, p.1, p.2, place_keeps t n slots slots' rest p.0 le s p.3)
  place_keeps t n slots slots' (Leave line into k v saved ∷ rest) pc le s p =
      let l = p.2 in let u = p.1 in (
        p.0,
        u,
        record {
          is_node = l.is_node;
          after = l.after;
          frame = keeps_frame total u n saved slots slots' (omega (arith, l.below, l.own, le)) s l.frame;
          within = l.within;
          below = l.below;
          own = l.own;
          result = l.result;
          holds = holds_keeps k t.result_slot n slots slots' v (omega (arith, l.frame.low, l.below)) (omega (arith, l.own, le)) s l.holds;
          break_to = l.break_to;
          continue_to = l.continue_to;
          return_to = l.return_to;
        },
        place_keeps u n slots slots' rest p.0 (omega (arith, l.below, l.own, le)) s p.3,
      )
