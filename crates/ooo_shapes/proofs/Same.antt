-- What is shown of an activation by statements and one by nodes, and how nodes are gone through.
use Rattle.std.proofs.Common.{◌≡◌, ℕ, zero, suc, ◌+◌, ◌<◌, ◌≤◌, ◌⊎◌, inl, inr, ⊎_elim, List, [], ◌∷◌, length, Bool, true, false, if◌then◌else◌, Option, Some, None, Result, Ok, Err, refl, sym, ap, ◌∙◌, subst, arith}
use Rattle.std.specs.Prelude.{slice_get}
use Rattle.ooo_time.specs.declared.stamp.Stamp.{Stamp}
use Rattle.ooo_value.specs.declared.kinds.Kind.{Kind}
use Rattle.ooo_value.specs.declared.operators.Fault.{Fault}
use Rattle.ooo_value.specs.declared.values.Value.{Value}
use Rattle.ooo_value.specs.Operators.{Answer}
use Rattle.ooo_value.specs.Values.{conversion_of, truth_of}
use Rattle.ooo_code.specs.declared.activation.Frame.{Frame as NodeFrame}
use Rattle.ooo_code.specs.declared.expression.NodeExpr.{NodeExpr}
use Rattle.ooo_code.specs.declared.node.Node.{Node}
use Rattle.ooo_code.specs.declared.node.NodeKind.TheVariants as kind
use Rattle.ooo_code.specs.declared.segment.SegmentEntry.{SegmentEntry}
use Rattle.ooo_code.specs.declared.segment.SegmentEntry.TheVariants as from
use Rattle.ooo_code.specs.Expressions.{on_value, by_truth}
use Rattle.ooo_code.specs.Nodes.{with_first, if_free}
use Rattle.ooo_code.specs.Nodes as by_nodes
use Rattle.ooo_code.specs.Outcomes.{Outcome}
use Rattle.ooo_bound.specs.declared.model.Bound.{Bound}
use Rattle.ooo_bound.specs.declared.model.BoundProcess.{BoundProcess}
use Rattle.ooo_activation.specs.Locals.{Locals}
use Rattle.ooo_activation.specs.Activations.{Place, Course, Setting}
use Rattle.ooo_activation.specs.Activations as by_statements
use Rattle.ooo_shapes.specs.Designs.{process_at}
use Rattle.ooo_shapes.proofs.Places.{Counts, LeadsOn, After, Stands}
use Rattle.ooo_shapes.proofs.Waking.{WhereWaits}

pub within_list : (xs : List Node) (pc : ℕ) (i : Node) → slice_get xs pc ≡ Some i → pc < length xs
within_list [] zero i h = absurd cc
within_list [] (suc pc) i h = absurd cc
within_list (x ∷ xs) zero i h = omega arith
within_list (x ∷ xs) (suc pc) i h = omega (arith, within_list xs pc i h)

pub same_node : (i j : Node) (o : Option Node) → o ≡ Some i → o ≡ Some j → i ≡ j
same_node i j None h k = absurd cc
same_node i j (Some n) h k = cc

-- the slots, and what an activation has come to
abbrev pub doing : List Value → Course → by_nodes.Doing
doing slots d = record { slots = slots; variables = d.variables; seen = d.seen; output = d.output; effects = d.effects; trigger = d.trigger }

module _ (b : Bound) (process : BoundProcess) (total : ℕ) (code : List Node) (first : ℕ) where
  -- the node to which an entry leads
  abbrev pub entry_at : SegmentEntry → ℕ
  entry_at from.Start = first
  entry_at (from.After wait) = by_nodes.next_of (slice_get code wait)

  -- a process that waits at the same place
  pub record Rests (p : Place) (f : NodeFrame) : Type 0 where
    pub stands : Stands b process total code p.items p.locals f.slots (entry_at f.entry)
    pub count : length f.slots ≡ total

  -- the same deed, and where it waits the same place
  pub record Same (x : Outcome Place) (y : Outcome NodeFrame) : Type 0 where
    pub deed : x.deed ≡ y.deed
    pub next : WhereWaits x.deed.end (Rests x.next y.next)

  pub same_by : {x : Outcome Place} {y z : Outcome NodeFrame} → y ≡ z → Same x z → Same x y
  same_by {x = x} e s = subst (λ y. Same x y) (sym e) s

  -- so many nodes are enough from pc on
  abbrev pub Fuel : ℕ → ℕ → Type 0
  Fuel m pc = (length code + 2 ≤ m + pc) ⊎ (((1 ≤ m) × Counts b process total code pc) ⊎ ((2 ≤ m) × LeadsOn b process total code pc))

  pub full : (pc : ℕ) → Fuel (by_nodes.between code) pc
  full pc = inl (omega arith)

  -- one node less is enough for most
  pub full_less : (pc : ℕ) → 1 ≤ pc → Fuel (suc (length code)) pc
  full_less pc le = inl (omega arith)

  fuel_some : (m pc : ℕ) (i : Node) → slice_get code pc ≡ Some i → Fuel m pc → (k : ℕ) × (m ≡ suc k)
  fuel_some zero pc i h f =
      ⊎_elim (λ le. absurd (omega (arith, le, within_list code pc i h))) (λ c. ⊎_elim (λ c. absurd (omega (arith, c.0))) (λ c. absurd (omega (arith, c.0))) c) f
  fuel_some (suc m) pc i h f = (m, refl)

  -- behind a node that doesn't count
  pub fuel_next : (m pc : ℕ) (i : Node) → slice_get code pc ≡ Some i → i.counts ≡ false → After b process total code (pc + 1) i.next → Fuel (suc m) pc → Fuel m i.next
  fuel_next m pc i h u a f =
      let lt = within_list code pc i h in
      ⊎_elim
      (λ le. ⊎_elim (λ further. inl (omega (arith, le, further))) (λ c. ⊎_elim (λ c. inr (inl (omega (arith, le, lt), c))) (λ c. inr (inr (omega (arith, le, lt), c))) c) a)
      (λ c.
      ⊎_elim
      (λ c. let e : true ≡ false = sym c.1.2 ∙ ap (λ (n : Node). n.counts) (same_node c.1.0 i (slice_get code pc) c.1.1 h) ∙ u in absurd cc)
      (λ c.
      let e : i.next ≡ pc + 1 = sym (ap (λ (n : Node). n.next) (same_node c.1.node i (slice_get code pc) c.1.is h)) ∙ c.1.next in
      subst (λ q. Fuel m q) (sym e) (inr (inl (omega (arith, c.0), c.1.counts))))
      c)
      f

  -- the other way of a test that doesn't count
  pub fuel_other : (m pc q : ℕ) (i : Node) → slice_get code pc ≡ Some i → i.counts ≡ false → ((n : ℕ) (e : NodeExpr) → i.kind ≡ kind.Set n e → ⊥) → pc + 1 ≤ q → Fuel (suc m) pc → Fuel m q
  fuel_other m pc q i h u other le f =
      ⊎_elim
      (λ enough. inl (omega (arith, enough, le)))
      (λ c.
      ⊎_elim
      (λ c. let e : true ≡ false = sym c.1.2 ∙ ap (λ (n : Node). n.counts) (same_node c.1.0 i (slice_get code pc) c.1.1 h) ∙ u in absurd cc)
      (λ c. absurd (other c.1.slot c.1.value (sym (ap (λ (n : Node). n.kind) (same_node c.1.node i (slice_get code pc) c.1.is h)) ∙ c.1.sets)))
      c)
      f

  -- from the value of a blocking write to its test
  pub fuel_lead : (m pc : ℕ) (i : Node) → slice_get code pc ≡ Some i → i.counts ≡ false → Counts b process total code (pc + 1) → Fuel (suc m) pc → Fuel m (pc + 1)
  fuel_lead m pc i h u c f =
      inr (inl (at_least f, c))
    where
      at_least : Fuel (suc m) pc → 1 ≤ m
      at_least f =
          let lt = within_list code pc i h in
          ⊎_elim
          (λ le. omega (arith, le, lt))
          (λ c.
          ⊎_elim
          (λ c. let e : true ≡ false = sym c.1.2 ∙ ap (λ (n : Node). n.counts) (same_node c.1.0 i (slice_get code pc) c.1.1 h) ∙ u in absurd cc)
          (λ c. omega (arith, c.0))
          c)
          f

  module _ (entry : SegmentEntry) (stamp : Stamp) where
    abbrev pub setting : Setting
    setting = record { model = b; process = process; stamp = stamp }

    abbrev pub running : by_nodes.Running
    running = record { process = process_at b process first; entry = entry; stamp = stamp }

    -- ---- passes

    abbrev pub Counted : Type 0
    Counted = Node → by_nodes.Next

    abbrev pub pass : Counted → ℕ → by_nodes.Next
    pass c m pc d = by_nodes.pass code running c m pc d

    -- what a counting node does where n more may count
    abbrev pub acts : ℕ → Counted
    acts n i number d = by_nodes.act running i.kind number i.line i.next (by_nodes.steps code running n) d

    abbrev pub stops : Counted
    stops = by_nodes.at_limit running

    abbrev pub head : ℕ → Counted
    head zero = stops
    head (suc n) = acts n

    pub run_is : (n pc : ℕ) (d : by_nodes.Doing) → by_nodes.steps code running n pc d ≡ pass (head n) (by_nodes.between code) pc d
    unfolding by_nodes.steps
    run_is zero pc d = refl
    run_is (suc n) pc d = refl

    -- one node of a pass
    pub at : (c : Counted) (m pc : ℕ) (i : Node) (d : by_nodes.Doing) → slice_get code pc ≡ Some i → pass c (suc m) pc d ≡ by_nodes.at_node running c (pass c m) (Some i) pc d
    at c m pc i d h = ap (λ o. by_nodes.at_node running c (pass c m) o pc d) h

    pub with_fuel : (a : Outcome Place) (c : Counted) (m pc : ℕ) (i : Node) (d : by_nodes.Doing) → slice_get code pc ≡ Some i → Fuel m pc → ((k : ℕ) → Fuel (suc k) pc → Same a (pass c (suc k) pc d)) → Same a (pass c m pc d)
    with_fuel a c m pc i d h f go =
        let k = fuel_some m pc i h f in
        same_by (ap (λ m. pass c m pc d) k.1) (go k.0 (subst (λ m. Fuel m pc) k.1 f))

    -- ---- both go on alike

    -- both go on with a result, or fault
    pub same_result : {A : Type 0} (o p : Result A Fault) (line : ℕ) (locals : Locals) (slots : List Value) (d : Course) (f : A → Outcome Place) (g : A → Outcome NodeFrame) → p ≡ o → ((v : A) → Same (f v) (g v)) → Same (by_statements.with_result o line locals d f) (by_nodes.with_result running line (doing slots d) p g)
    same_result {A = A} o p line locals slots d f g e s = same_by (ap (λ p. by_nodes.with_result running line (doing slots d) p g) e) (by_cases o)
      where
        by_cases : (o : Result A Fault) → Same (by_statements.with_result o line locals d f) (by_nodes.with_result running line (doing slots d) o g)
        by_cases (Err e) = record { deed = refl; next = tt }
        by_cases (Ok v) = s v

    -- where the node converts the value
    pub same_converted : (o p : Answer) (k : Kind) (line : ℕ) (locals : Locals) (slots : List Value) (d : Course) (f : Value → Outcome Place) (g : Value → Outcome NodeFrame) → p ≡ on_value o (λ v. Ok (conversion_of v k)) → ((v : Value) → Same (f v) (g (conversion_of v k))) → Same (by_statements.with_result o line locals d f) (by_nodes.with_result running line (doing slots d) p g)
    same_converted o p k line locals slots d f g e s = same_by (ap (λ p. by_nodes.with_result running line (doing slots d) p g) e) (by_cases o)
      where
        by_cases : (o : Answer) → Same (by_statements.with_result o line locals d f) (by_nodes.with_result running line (doing slots d) (on_value o (λ v. Ok (conversion_of v k))) g)
        by_cases (Err e) = record { deed = refl; next = tt }
        by_cases (Ok v) = s v

    -- both go on with an index, or fault
    pub same_index : (o : Option ℕ) (line : ℕ) (locals : Locals) (slots : List Value) (d : Course) (f : ℕ → Outcome Place) (g : ℕ → Outcome NodeFrame) → ((n : ℕ) → Same (f n) (g n)) → Same (by_statements.with_index o line locals d f) (by_nodes.with_index running line (doing slots d) o g)
    same_index None line locals slots d f g s = record { deed = refl; next = tt }
    same_index (Some n) line locals slots d f g s = s n

    pub same_truth : (v : Value) (x y : Outcome Place) (z w : Outcome NodeFrame) → Same x z → Same y w → Same (by_truth v x y) (by_truth v z w)
    same_truth v x y z w s r = by_cases (truth_of v)
      where
        by_cases : (t : Bool) → Same (if t then x else y) (if t then z else w)
        by_cases true = s
        by_cases false = r

    -- a test both ways of which lead to one place
    pub same_either : (v : Value) (x : Outcome Place) (z : Outcome NodeFrame) → Same x z → Same x (by_truth v z z)
    same_either v x z s = by_cases (truth_of v)
      where
        by_cases : (t : Bool) → Same x (if t then z else z)
        by_cases true = s
        by_cases false = s

    -- both go on with the first of some values, or without one
    pub same_first : (values : List Value) (x : Outcome Place) (y : Outcome NodeFrame) (f : Value → Outcome Place) (g : Value → Outcome NodeFrame) → Same x y → ((v : Value) (vs : List Value) → values ≡ v ∷ vs → Same (f v) (g v)) → Same (with_first values x f) (with_first values y g)
    same_first [] x y f g s k = s
    same_first (v ∷ vs) x y f g s k = k v vs refl

    pub same_free : (n : ℕ) (x y : Outcome Place) (z w : Outcome NodeFrame) → Same x z → Same y w → Same (if_free n x y) (if_free n z w)
    same_free zero x y z w s r = s
    same_free (suc n) x y z w s r = r
