-- Where an activation by statements waits, it stands behind a wait that its statements come to.
use Rattle.std.proofs.Common.{◌≡◌, ℕ, zero, suc, inl, inr, List, [], ◌∷◌, Bool, true, false, if◌then◌else◌, Option, Some, None, Result, Ok, Err, refl, sym, ap, ◌∙◌, subst}
use Rattle.std.specs.Prelude.{slice_get, Contains}
use Rattle.ooo_time.specs.declared.stamp.Stamp.{Stamp}
use Rattle.ooo_time.specs.declared.time.Time.{Time}
use Rattle.ooo_value.specs.declared.bound.ProcessKind.{ProcessKind}
use Rattle.ooo_value.specs.declared.bound.ProcessKind.TheVariants.{Thread, Method}
use Rattle.ooo_value.specs.declared.kinds.Kind.{Kind}
use Rattle.ooo_value.specs.declared.operators.Fault.{Fault}
use Rattle.ooo_value.specs.declared.values.Value.{Value}
use Rattle.ooo_value.specs.declared.values.Value.TheVariants as value
use Rattle.ooo_value.specs.Operators.{binary_of}
use Rattle.ooo_value.specs.Values.{conversion_of, truth_of}
use Rattle.ooo_code.specs.declared.activation.WaitOn.{WaitOn}
use Rattle.ooo_code.specs.declared.activation.JobEnd.TheVariants as job
use Rattle.ooo_code.specs.Expressions.{no_value, by_truth, fifo_seen}
use Rattle.ooo_code.specs.Nodes.{with_first, if_free}
use Rattle.ooo_code.specs.Outcomes.{View, Outcome}
use Rattle.ooo_bound.specs.declared.expr.BoundExpr.{BoundExpr}
use Rattle.ooo_bound.specs.declared.expr.BoundTime.{BoundTime}
use Rattle.ooo_bound.specs.declared.expr.BoundTime.TheVariants as time
use Rattle.ooo_bound.specs.declared.expr.BoundWait.{BoundWait}
use Rattle.ooo_bound.specs.declared.model.Bound.{Bound}
use Rattle.ooo_bound.specs.declared.model.BoundFunction.{BoundFunction}
use Rattle.ooo_bound.specs.declared.model.BoundProcess.{BoundProcess}
use Rattle.ooo_bound.specs.declared.stat.BoundItem.{BoundItem}
use Rattle.ooo_bound.specs.declared.stat.BoundItem.TheVariants as item
use Rattle.ooo_bound.specs.declared.stat.BoundRight.{BoundRight}
use Rattle.ooo_bound.specs.declared.stat.BoundRight.TheVariants as right
use Rattle.ooo_bound.specs.declared.stat.BoundSimple.{BoundSimple}
use Rattle.ooo_bound.specs.declared.stat.BoundSimple.TheVariants as simple
use Rattle.ooo_bound.specs.declared.stat.BoundTarget.{BoundTarget}
use Rattle.ooo_bound.specs.declared.stat.BoundTarget.TheVariants as target
use Rattle.ooo_activation.specs.Locals.{Locals}
use Rattle.ooo_activation.specs.Expressions.{time_given, wait_time}
use Rattle.ooo_activation.specs.Items.{Item, Do, Putting, Choose, Begin, Check, Again, Break, Continue, Return, Leave, maybe_do, entered, entered_if, entered_all, opened, after_loop, at_loop}
use Rattle.ooo_activation.specs.Activations.{Place, Course, Setting, Next, Onward, sight_of, with_result, with_index, with_value, with_aim, assigned, assign, with_arguments, call, returned, with_returned, prints, act_assign, act_simple, with_test, act, at_end, ready_do, ready, arrive, at_limit, act_first, steps, act_found, course_at, ends, wait_on, with_take, with_put, current, first_result, channel_kind, data_written, data_read}
use Rattle.ooo_shapes.specs.Segments.{no_values, call_goes_to, goes_to, Comes, stays, Pause, first_pauses, named_events, constant_time, without_values, StandsBehind, EndsBehind}
use Rattle.ooo_shapes.proofs.Trees.{in_one, in_two}
use Rattle.ooo_shapes.proofs.Blanks.{entered_left, maybe_entered_left, body_left, opened_left, maybe_left, after_left, at_left, returned_left, come_on}

module _ (b : Bound) (process : BoundProcess) (stamp : Stamp) (start : List Item) where
  abbrev s : Setting
  s = record { model = b; process = process; stamp = stamp }

  -- where the outcome waits, it stands behind a wait
  abbrev Fine : Outcome Place → Type 0
  Fine o = EndsBehind b process start o.deed.end o.next.items

  -- the items are come to
  abbrev Come : List Item → Type 0
  Come items = Comes b start (without_values items)

  abbrev come : (items next later : List Item) → Come items → without_values next ≡ later → Contains (goes_to b (without_values items)) later → Come next
  come items next later c e g = come_on b start items next later c e g

  -- ---- how an activation goes on

  fine_result : {A : Type 0} (r : Result A Fault) (line : ℕ) (locals : Locals) (d : Course) (go : A → Outcome Place) → ((v : A) → Fine (go v)) → Fine (with_result r line locals d go)
  fine_result (Err f) line locals d go h = tt
  fine_result (Ok v) line locals d go h = h v

  fine_index : (o : Option ℕ) (line : ℕ) (locals : Locals) (d : Course) (go : ℕ → Outcome Place) → ((n : ℕ) → Fine (go n)) → Fine (with_index o line locals d go)
  fine_index None line locals d go h = tt
  fine_index (Some n) line locals d go h = h n

  fine_value : (e : BoundExpr) (line : ℕ) (locals : Locals) (d : Course) (go : Value → Outcome Place) → ((v : Value) → Fine (go v)) → Fine (with_value e line locals d go)
  fine_value e line locals d go h = fine_result _ line locals d go h

  fine_aim : (t : BoundTarget) (line : ℕ) (locals : Locals) (d : Course) (go : Value → Outcome Place) → ((v : Value) → Fine (go v)) → Fine (with_aim t line locals d go)
  fine_aim (target.Element x i) line locals d go h = fine_value i line locals d go h
  fine_aim target.Nothing line locals d go h = h no_value
  fine_aim (target.Local k n) line locals d go h = h no_value
  fine_aim (target.Variable x) line locals d go h = h no_value
  fine_aim (target.Signal c) line locals d go h = h no_value

  abbrev FineOn : Onward → Type 0
  FineOn go = (locals : Locals) (d : Course) → Fine (go locals d)

  fine_assigned : (t : BoundTarget) (index v : Value) (line : ℕ) (locals : Locals) (d : Course) (go : Onward) → FineOn go → Fine (assigned s t index v line locals d go)
  fine_assigned target.Nothing index v line locals d go h = h _ _
  fine_assigned (target.Local k n) index v line locals d go h = h _ _
  fine_assigned (target.Variable x) index v line locals d go h = h _ _
  fine_assigned (target.Element x i) index v line locals d go h = fine_index _ line locals d _ (λ n. h _ _)
  fine_assigned (target.Signal c) index v line locals d go h = h _ _

  fine_assign : (t : BoundTarget) (v : Value) (line : ℕ) (locals : Locals) (d : Course) (go : Onward) → FineOn go → Fine (assign s t v line locals d go)
  fine_assign t v line locals d go h = fine_aim t line locals d _ (λ index. fine_assigned t index v line locals d go h)

  fine_args : (n : ℕ) (ks : List Kind) (es : List BoundExpr) (line : ℕ) (locals : Locals) (d : Course) (given : Locals) (go : Locals → Outcome Place) → ((given : Locals) → Fine (go given)) → Fine (with_arguments n ks es line locals d given go)
  fine_args n [] [] line locals d given go h = h given
  fine_args n [] (e ∷ es) line locals d given go h = h given
  fine_args n (k ∷ ks) [] line locals d given go h = h given
  fine_args n (k ∷ ks) (e ∷ es) line locals d given go h = fine_value e line locals d _ (λ v. fine_args (suc n) ks es line locals d _ go h)

  fine_prints : (xs : List BoundItem) (line : ℕ) (locals : Locals) (d : Course) (go : Course → Outcome Place) → ((d : Course) → Fine (go d)) → Fine (prints s xs line locals d go)
  fine_prints [] line locals d go h = h d
  fine_prints (item.Value e ∷ xs) line locals d go h = fine_value e line locals d _ (λ v. fine_prints xs line locals _ go h)
  fine_prints (item.Text text ∷ xs) line locals d go h = fine_prints xs line locals _ go h
  fine_prints (item.Time ∷ xs) line locals d go h = fine_prints xs line locals _ go h

  fine_either : (t : Bool) (x y : Outcome Place) → Fine x → Fine y → Fine (if t then x else y)
  fine_either true x y f g = f
  fine_either false x y f g = g

  fine_truth : (v : Value) (x y : Outcome Place) → Fine x → Fine y → Fine (by_truth v x y)
  fine_truth v x y f g = fine_either (truth_of v) x y f g

  fine_first : (vs : List Value) (x : Outcome Place) (go : Value → Outcome Place) → Fine x → ((v : Value) → Fine (go v)) → Fine (with_first vs x go)
  fine_first [] x go f g = f
  fine_first (v ∷ vs) x go f g = g v

  fine_free : (n : ℕ) (x y : Outcome Place) → Fine x → Fine y → Fine (if_free n x y)
  fine_free zero x y f g = f
  fine_free (suc n) x y f g = g

  fine_test : (e : Option BoundExpr) (line : ℕ) (locals : Locals) (d : Course) (go : Value → Outcome Place) → ((v : Value) → Fine (go v)) → Fine (with_test e line locals d go)
  fine_test None line locals d go h = h _
  fine_test (Some e) line locals d go h = fine_value e line locals d go h

  fine_returned : (e : Option BoundExpr) (line : ℕ) (locals : Locals) (d : Course) (go : Option Value → Outcome Place) → ((v : Option Value) → Fine (go v)) → Fine (with_returned e line locals d go)
  fine_returned None line locals d go h = h None
  fine_returned (Some e) line locals d go h = fine_value e line locals d _ (λ v. h (Some v))

  -- ---- an item that counts

  abbrev FineNext : Next → Type 0
  FineNext next = (items : List Item) (locals : Locals) (d : Course) → Come items → Fine (next items locals d)

  -- a wait that is come to
  behind : (items rest : List Item) (pause : Pause) (on : WaitOn) → Come items → Contains (first_pauses b process (without_values items)) pause → on.events ≡ pause.events → ((t : Time) → pause.time ≡ Some t → on.time ≡ Some t) → without_values rest ≡ pause.behind → StandsBehind b process start on rest
  behind items rest pause on c p events time e = record {
    pause = pause;
    pauses = record { later = without_values items; comes = c; pauses = p };
    events = events;
    time = time;
    behind = e;
  }

  never : (t : Time) → None ≡ Some t → None ≡ Some t
  never t e = e

  module _ (next : Next) (fine : FineNext next) where
    call_fine : (o : Option BoundFunction) (t : BoundTarget) (args : List BoundExpr) (line : ℕ) (rest : List Item) (locals : Locals) (d : Course) → ((f : BoundFunction) → o ≡ Some f → (v : Value) (saved : Locals) → Come (entered_all f.body (Leave line t f.result v saved ∷ rest))) → Fine (call o t args line next rest locals d)
    call_fine None t args line rest locals d h = tt
    call_fine (Some f) t args line rest locals d h = fine_args 0 f.params args line locals d _ _ (λ given. fine (entered_all f.body (Leave line t f.result (first_result f.result) locals ∷ rest)) given d (h f refl (first_result f.result) locals))

    called : (items rest : List Item) (line : ℕ) (t : BoundTarget) (o : Option BoundFunction) → Come items → goes_to b (without_values items) ≡ call_goes_to o line t (without_values rest) → (f : BoundFunction) → o ≡ Some f → (v : Value) (saved : Locals) → Come (entered_all f.body (Leave line t f.result v saved ∷ rest))
    called items rest line t None c e f is v saved = absurd cc
    called items rest line t (Some g) c e f is v saved =
        let same : g ≡ f = cc in
        let left = body_left f.body (Leave line t f.result v saved ∷ rest) in
        let into : BoundFunction → List Item = λ g. entered_all g.body (Leave line t g.result no_value no_values ∷ without_values rest) in
        come items (entered_all f.body (Leave line t f.result v saved ∷ rest)) (into f) c left
        (subst (λ ys. Contains ys (into f)) (sym e) (in_one (into g) (into f) (ap into same)))

    -- what remains behind an item that leads there alone
    passed : (items rest : List Item) → Come items → goes_to b (without_values items) ≡ without_values rest ∷ [] → Come rest
    passed items rest c e = come items rest (without_values rest) c refl (subst (λ ys. Contains ys (without_values rest)) (sym e) (in_one (without_values rest) (without_values rest) refl))

    assign_fine : (line : ℕ) (t : BoundTarget) (r : BoundRight) (rest : List Item) (locals : Locals) (d : Course) → Come (Do (record { line = line; simple = simple.Assign t r }) ∷ rest) → Fine (act_assign s t r line next (Do (record { line = line; simple = simple.Assign t r }) ∷ rest) rest locals d)
    assign_fine line t (right.Value e) rest locals d c =
        let items = Do (record { line = line; simple = simple.Assign t (right.Value e) }) ∷ rest in
        fine_value e line locals d _ (λ v. fine_assign t v line locals d (next rest) (λ locals d. fine rest locals d (passed items rest c refl)))
    assign_fine line t (right.Call f args) rest locals d c =
        let items = Do (record { line = line; simple = simple.Assign t (right.Call f args) }) ∷ rest in
        call_fine (slice_get b.functions f) t args line rest locals d (called items rest line t (slice_get b.functions f) c refl)
    assign_fine line t (right.Read f) rest locals d c =
        let items = Do (record { line = line; simple = simple.Assign t (right.Read f) }) ∷ rest in
        let pause : Pause = record { line = line; time = None; events = data_written b f; behind = without_values items } in
        let on : WaitOn = record { time = None; events = data_written b f } in
        fine_first (fifo_seen d.seen f).values (ends items locals (job.Waits on) d) (λ v. assign s t v line locals (with_take f d) (next rest))
        (inl (behind items items pause on c (in_one pause pause refl) refl never refl)) (λ v.
        fine_assign t v line locals (with_take f d) (next rest) (λ locals d. fine rest locals d (passed items rest c refl)))
    assign_fine line t (right.NbRead f into) rest locals d c =
        let items = Do (record { line = line; simple = simple.Assign t (right.NbRead f into) }) ∷ rest in
        let on_rest : FineOn (next rest) = λ locals d. fine rest locals d (passed items rest c refl) in
        fine_aim into line locals d _ (λ index.
        fine_first (fifo_seen d.seen f).values (assign s t (value.Bool false) line locals d (next rest))
        (λ v. assigned s into index v line locals (with_take f d) (λ locals d. assign s t (value.Bool true) line locals d (next rest)))
        (fine_assign t (value.Bool false) line locals d (next rest) on_rest) (λ v.
        fine_assigned into index v line locals (with_take f d) _ (λ locals d.
        fine_assign t (value.Bool true) line locals d (next rest) on_rest)))
    assign_fine line t (right.NbWrite f e) rest locals d c =
        let items = Do (record { line = line; simple = simple.Assign t (right.NbWrite f e) }) ∷ rest in
        let on_rest : FineOn (next rest) = λ locals d. fine rest locals d (passed items rest c refl) in
        fine_value e line locals d _ (λ v.
        let put = with_put f (conversion_of v (channel_kind b f)) d in
        fine_free (fifo_seen d.seen f).free (assign s t (value.Bool false) line locals d (next rest)) (assign s t (value.Bool true) line locals put (next rest))
        (fine_assign t (value.Bool false) line locals d (next rest) on_rest)
        (fine_assign t (value.Bool true) line locals put (next rest) on_rest))

    none_some : (o r : Option Time) (t : Time) → o ≡ None → o ≡ Some t → r ≡ Some t
    none_some o r t e f = let no : None ≡ Some t = sym e ∙ f in absurd cc

    wait_behind : (line : ℕ) (w : BoundWait) (rest : List Item) (r : Option Time) → Come (Do (record { line = line; simple = simple.Wait w }) ∷ rest) → ((t : Time) → constant_time w.time ≡ Some t → r ≡ Some t) → StandsBehind b process start (wait_on s w r) rest
    wait_behind line w rest r c time =
        let items = Do (record { line = line; simple = simple.Wait w }) ∷ rest in
        let pause : Pause = record { line = line; time = constant_time w.time; events = named_events process w; behind = without_values rest } in
        behind items rest pause (wait_on s w r) c (in_one pause pause refl) refl time refl

    wait_fine : (line : ℕ) (w : BoundWait) (o : Option BoundTime) → w.time ≡ o → (rest : List Item) (locals : Locals) (d : Course) → Come (Do (record { line = line; simple = simple.Wait w }) ∷ rest) → Fine (with_result (wait_time o (sight_of locals d)) line locals d (λ t. ends rest locals (job.Waits (wait_on s w t)) d))
    wait_fine line w None e rest locals d c =
        inl (wait_behind line w rest None c (λ t is. sym (ap constant_time e) ∙ is))
    wait_fine line w (Some (time.Fixed k)) e rest locals d c =
        inl (wait_behind line w rest (Some k) c (λ t is. sym (ap constant_time e) ∙ is))
    wait_fine line w (Some (time.Amount x scale)) e rest locals d c =
        let none : constant_time w.time ≡ None = ap constant_time e in
        fine_result (wait_time (Some (time.Amount x scale)) (sight_of locals d)) line locals d (λ r. ends rest locals (job.Waits (wait_on s w r)) d) (λ r.
        inl (wait_behind line w rest r c (λ t is. none_some (constant_time w.time) r t none is)))

    simple_fine : (line : ℕ) (x : BoundSimple) (rest : List Item) (locals : Locals) (d : Course) → Come (Do (record { line = line; simple = x }) ∷ rest) → Fine (act_simple s x line next (Do (record { line = line; simple = x }) ∷ rest) rest locals d)
    simple_fine line (simple.Assign t r) rest locals d c = assign_fine line t r rest locals d c
    simple_fine line (simple.Update t op e) rest locals d c =
        let items = Do (record { line = line; simple = simple.Update t op e }) ∷ rest in
        fine_value e line locals d _ (λ v.
        fine_aim t line locals d _ (λ index.
        fine_result (current t index locals d) line locals d _ (λ a.
        fine_result (binary_of op a v) line locals d _ (λ r.
        fine_assigned t index r line locals d (next rest) (λ locals d. fine rest locals d (passed items rest c refl))))))
    simple_fine line (simple.Write f e) rest locals d c = tt
    simple_fine line (simple.Notify e k) rest locals d c =
        fine_result (time_given k (sight_of locals d)) line locals d _ (λ delay. fine rest locals _ (passed (Do (record { line = line; simple = simple.Notify e k }) ∷ rest) rest c refl))
    simple_fine line (simple.Cancel e) rest locals d c = fine rest locals _ (passed (Do (record { line = line; simple = simple.Cancel e }) ∷ rest) rest c refl)
    simple_fine line (simple.Wait w) rest locals d c = wait_fine line w w.time refl rest locals d c
    simple_fine line (simple.NextTrigger w) rest locals d c =
        fine_result (wait_time w.time (sight_of locals d)) line locals d _ (λ k. fine rest locals _ (passed (Do (record { line = line; simple = simple.NextTrigger w }) ∷ rest) rest c refl))
    simple_fine line simple.Stop rest locals d c = fine rest locals _ (passed (Do (record { line = line; simple = simple.Stop }) ∷ rest) rest c refl)
    simple_fine line (simple.Print xs) rest locals d c = fine_prints xs line locals d _ (λ d. fine rest locals d (passed (Do (record { line = line; simple = simple.Print xs }) ∷ rest) rest c refl))

    act_fine : (i : Item) (rest : List Item) (locals : Locals) (d : Course) → Come (i ∷ rest) → Fine (act s i next rest locals d)
    act_fine (Do x) rest locals d c = simple_fine x.line x.simple rest locals d c
    act_fine (Putting line f v) rest locals d c =
        let items = Putting line f v ∷ rest in
        let pause : Pause = record { line = line; time = None; events = data_read b f; behind = without_values items } in
        let on : WaitOn = record { time = None; events = data_read b f } in
        fine_free (fifo_seen d.seen f).free (ends items locals (job.Waits on) d) (next rest locals (with_put f v d))
        (inl (behind items items pause on c (in_one pause pause refl) refl never refl)) (fine rest locals (with_put f v d) (passed items rest c refl))
    act_fine (Choose line e x y) rest locals d c =
        let items = Choose line e x y ∷ rest in
        let left = without_values rest in
        let yes = come items (entered x rest) (entered x left) c (entered_left x rest) (in_two (entered x left) (entered_if y left) (entered x left) (inl refl)) in
        let no = come items (entered_if y rest) (entered_if y left) c (maybe_entered_left y rest) (in_two (entered x left) (entered_if y left) (entered_if y left) (inr refl)) in
        fine_value e line locals d _ (λ v.
        fine_truth v (next (entered x rest) locals d) (next (entered_if y rest) locals d) (fine (entered x rest) locals d yes) (fine (entered_if y rest) locals d no))
    act_fine (Check l) rest locals d c =
        let items = Check l ∷ rest in
        let left = without_values rest in
        let into = entered l.body (Again l ∷ rest) in
        let into_left = entered l.body (Again l ∷ left) in
        let yes = come items into into_left c (entered_left l.body (Again l ∷ rest)) (in_two into_left left into_left (inl refl)) in
        let no = come items rest left c refl (in_two into_left left left (inr refl)) in
        fine_test l.test l.line locals d _ (λ v.
        fine_truth v (next into locals d) (next rest locals d) (fine into locals d yes) (fine rest locals d no))
    act_fine (Break line) rest locals d c = fine (after_loop rest) locals d (come (Break line ∷ rest) (after_loop rest) (after_loop (without_values rest)) c (after_left rest) (in_one (after_loop (without_values rest)) (after_loop (without_values rest)) refl))
    act_fine (Continue line) rest locals d c = fine (at_loop rest) locals d (come (Continue line ∷ rest) (at_loop rest) (at_loop (without_values rest)) c (at_left rest) (in_one (at_loop (without_values rest)) (at_loop (without_values rest)) refl))
    act_fine (Return line e) rest locals d c =
        fine_returned e line locals d _ (λ v. fine (returned v rest) locals d (come (Return line e ∷ rest) (returned v rest) (returned None (without_values rest)) c (returned_left v rest) (in_one (returned None (without_values rest)) (returned None (without_values rest)) refl)))
    act_fine (Begin l) rest locals d c = tt
    act_fine (Again l) rest locals d c = tt
    act_fine (Leave line t k v saved) rest locals d c = tt

    first_fine : FineNext (act_first s next)
    first_fine [] locals d c = tt
    first_fine (i ∷ rest) locals d c = act_fine i rest locals d c

  limit_fine : FineNext at_limit
  limit_fine [] locals d c = tt
  limit_fine (i ∷ rest) locals d c = tt

  -- ---- what counts nothing

  module _ (go : Next) (fine : FineNext go) where
    end_fine : (k : ProcessKind) (trigger : Option WaitOn) (locals : Locals) (d : Course) → process.kind ≡ k → Fine (at_end s k trigger locals d)
    end_fine Thread trigger locals d e = tt
    end_fine Method None locals d e = inr (e, refl)
    end_fine Method (Some on) locals d e = inr (e, refl)

    do_fine : (line : ℕ) (x : BoundSimple) (rest : List Item) (locals : Locals) (d : Course) → Come (Do (record { line = line; simple = x }) ∷ rest) → Fine (ready_do s x (record { line = line; simple = x }) go rest locals d)
    do_fine line (simple.Write f e) rest locals d c =
        let later = Putting line f no_value ∷ without_values rest in
        fine_value e line locals d _ (λ v.
        let putting = Putting line f (conversion_of v (channel_kind b f)) ∷ rest in
        fine putting locals d (come (Do (record { line = line; simple = simple.Write f e }) ∷ rest) putting later c refl (in_one later later refl)))
    do_fine line (simple.Assign t r) rest locals d c = fine (Do (record { line = line; simple = simple.Assign t r }) ∷ rest) locals d c
    do_fine line (simple.Update t op e) rest locals d c = fine (Do (record { line = line; simple = simple.Update t op e }) ∷ rest) locals d c
    do_fine line (simple.Notify e k) rest locals d c = fine (Do (record { line = line; simple = simple.Notify e k }) ∷ rest) locals d c
    do_fine line (simple.Cancel e) rest locals d c = fine (Do (record { line = line; simple = simple.Cancel e }) ∷ rest) locals d c
    do_fine line (simple.Wait w) rest locals d c = fine (Do (record { line = line; simple = simple.Wait w }) ∷ rest) locals d c
    do_fine line (simple.NextTrigger w) rest locals d c = fine (Do (record { line = line; simple = simple.NextTrigger w }) ∷ rest) locals d c
    do_fine line simple.Stop rest locals d c = fine (Do (record { line = line; simple = simple.Stop }) ∷ rest) locals d c
    do_fine line (simple.Print xs) rest locals d c = fine (Do (record { line = line; simple = simple.Print xs }) ∷ rest) locals d c

    ready_fine : FineNext (ready s go)
    ready_fine (Do x ∷ rest) locals d c = do_fine x.line x.simple rest locals d c
    ready_fine [] locals d c = fine [] locals d c
    ready_fine (i ∷ rest) locals d c = fine (i ∷ rest) locals d c

    arrive_fine : (items : List Item) (locals : Locals) (d : Course) → Come items → Fine (arrive s items locals d go)
    arrive_fine [] locals d c = end_fine process.kind d.trigger locals d refl
    arrive_fine (Begin l ∷ rest) locals d c =
        let later = opened l.body (Check l ∷ without_values rest) (Again l ∷ without_values rest) in
        ready_fine (opened l.body (Check l ∷ rest) (Again l ∷ rest)) locals d (come (Begin l ∷ rest) (opened l.body (Check l ∷ rest) (Again l ∷ rest)) later c (opened_left l.body (Check l ∷ rest) (Again l ∷ rest)) (in_one later later refl))
    arrive_fine (Again l ∷ rest) locals d c =
        let later = maybe_do l.after (Check l ∷ without_values rest) in
        ready_fine (maybe_do l.after (Check l ∷ rest)) locals d (come (Again l ∷ rest) (maybe_do l.after (Check l ∷ rest)) later c (maybe_left l.after (Check l ∷ rest)) (in_one later later refl))
    arrive_fine (Leave line t k v saved ∷ rest) locals d c =
        fine_assign t v line saved d _ (λ locals d. arrive_fine rest locals d (come (Leave line t k v saved ∷ rest) rest (without_values rest) c refl (in_one (without_values rest) (without_values rest) refl)))
    arrive_fine (Do x ∷ rest) locals d c = ready_fine (Do x ∷ rest) locals d c
    arrive_fine (i ∷ rest) locals d c = ready_fine (i ∷ rest) locals d c

  steps_fine : (n : ℕ) → FineNext (steps s n)
  unfolding steps
  steps_fine zero items locals d c = arrive_fine at_limit limit_fine items locals d c
  steps_fine (suc n) items locals d c = arrive_fine (act_first s (steps s n)) (first_fine (steps s n) (steps_fine n)) items locals d c

-- where an activation waits, it stands behind a wait that its statements come to, or a method at its start
pub waits_behind : (b : Bound) (process : BoundProcess) (statements : ℕ) (place : Place) (v : View) → EndsBehind b process (without_values place.items) (act_found b statements (Some process) place v).deed.end (act_found b statements (Some process) place v).next.items
waits_behind b process statements place v =
    steps_fine b process v.stamp (without_values place.items) statements place.items place.locals (course_at v) stays
