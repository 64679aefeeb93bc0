-- An activation by statements depends on what these touch up to their next waits alone, and changes nothing else.
use Rattle.std.proofs.Common.{◌≡◌, ℕ, zero, suc, inl, inr, List, [], ◌∷◌, ◌++◌, length, Bool, true, false, if◌then◌else◌, Option, Some, None, Result, Ok, Err, refl, sym, ap, ◌∙◌, subst}
use Rattle.std.specs.Prelude.{slice_get, slice_set, Contains}
use Rattle.std.proofs.lemmas.List.{length-set, get_or-set_other}
use Rattle.std.specs.List.{AllByRecursion}
use Rattle.ooo_lemmas.proofs.Placed.{set_alike}
use Rattle.ooo_lemmas.proofs.Each.{first_part, then_part, each_contained}
use Rattle.ooo_time.specs.declared.stamp.Stamp.{Stamp}
use Rattle.ooo_time.specs.TimeText.{time_text}
use Rattle.ooo_value.specs.declared.bound.ProcessKind.{ProcessKind}
use Rattle.ooo_value.specs.declared.bound.ProcessKind.TheVariants.{Thread, Method}
use Rattle.ooo_value.specs.declared.kinds.Kind.{Kind}
use Rattle.ooo_value.specs.declared.operators.Fault.{Fault}
use Rattle.ooo_value.specs.declared.operators.Fault.TheVariants.{IndexRange}
use Rattle.ooo_value.specs.declared.operators.Op.{Op}
use Rattle.ooo_value.specs.declared.values.Value.{Value}
use Rattle.ooo_value.specs.declared.values.Value.TheVariants as value
use Rattle.ooo_value.specs.Operators.{binary_of}
use Rattle.ooo_value.specs.Values.{number_of, conversion_of, truth_of}
use Rattle.ooo_value.specs.ValueText.{value_text}
use Rattle.ooo_code.specs.declared.activation.Effect.{Effect}
use Rattle.ooo_code.specs.declared.activation.Effect.TheVariants as effect
use Rattle.ooo_code.specs.declared.activation.JobEnd.{JobEnd}
use Rattle.ooo_code.specs.declared.activation.JobEnd.TheVariants as job
use Rattle.ooo_code.specs.declared.activation.WaitOn.{WaitOn}
use Rattle.ooo_code.specs.Dependence.{SameVariables, AgreeOn, DidTheSame, IsEffectOf, AreEffectsOf, TouchesOnly}
use Rattle.ooo_code.specs.Expressions.{no_value, signal_seen, fifo_seen, cells_of, element_at, index_in, by_truth}
use Rattle.ooo_code.specs.Nodes.{with_first, if_free}
use Rattle.ooo_code.specs.Outcomes.{View, Outcome}
use Rattle.ooo_code.specs.Touches.{Touch, Writes, ReadsSignal, HoldsReading, HoldsWriting}
use Rattle.ooo_code.specs.OwnSteps.{SeesOwnSteps, left_of, free_of}
use Rattle.ooo_bound.specs.declared.expr.BoundExpr.{BoundExpr}
use Rattle.ooo_bound.specs.declared.model.Bound.{Bound}
use Rattle.ooo_bound.specs.declared.model.BoundFunction.{BoundFunction}
use Rattle.ooo_bound.specs.declared.model.BoundProcess.{BoundProcess}
use Rattle.ooo_bound.specs.declared.stat.BoundItem.{BoundItem}
use Rattle.ooo_bound.specs.declared.stat.BoundItem.TheVariants as item
use Rattle.ooo_bound.specs.declared.stat.BoundRight.{BoundRight}
use Rattle.ooo_bound.specs.declared.stat.BoundRight.TheVariants as right
use Rattle.ooo_bound.specs.declared.stat.BoundSimple.{BoundSimple}
use Rattle.ooo_bound.specs.declared.stat.BoundSimple.TheVariants as simple
use Rattle.ooo_bound.specs.declared.stat.BoundTarget.{BoundTarget}
use Rattle.ooo_bound.specs.declared.stat.BoundTarget.TheVariants as target
use Rattle.ooo_activation.specs.Locals.{Locals, with_local}
use Rattle.ooo_activation.specs.Expressions.{reading_of, time_given, wait_time}
use Rattle.ooo_activation.specs.Items.{Item, Do, Putting, Choose, Begin, Check, Again, Break, Continue, Return, Leave, maybe_do, entered, entered_if, entered_all, opened, after_loop, at_loop}
use Rattle.ooo_activation.specs.Activations.{Place, Course, Setting, Next, Onward, sight_of, with_cells, with_output, with_effect, with_take, with_put, variable_kind, channel_kind, ends, with_result, with_index, with_value, with_aim, assigned, assign, current, with_arguments, first_result, call, returned, with_returned, prints, wait_on, act_assign, act_simple, with_test, act, line_of, at_end, ready_do, ready, arrive, at_limit, act_first, steps, act_found, course_at}
use Rattle.ooo_activation.specs.Touches as text
use Rattle.ooo_shapes.specs.Segments.{no_values, call_goes_to, goes_to, Comes, stays, call_reads, first_touches, Touches, without_values}
use Rattle.ooo_shapes.proofs.Blanks.{entered_left, maybe_entered_left, body_left, opened_left, maybe_left, after_left, at_left, returned_left, come_on}
use Rattle.ooo_shapes.proofs.Evaluating.{SameSight, same_reading, same_time, same_wait}
use Rattle.ooo_shapes.proofs.Trees.{in_one, in_two}

module _ (T : Touch → Type 0) (first : List (List Value)) where
  effects_last : (fs : List Effect) (f : Effect) → AreEffectsOf T fs → IsEffectOf T f → AreEffectsOf T (fs ++ f ∷ [])
  effects_last [] f h e = (e, tt)
  effects_last (g ∷ gs) f h e = (h.0, effects_last gs f h.1 e)

  -- two activations have come to the same, as far as it is touched
  pub record SameCourse (d e : Course) : Type 0 where
    pub output : d.output ≡ e.output
    pub effects : d.effects ≡ e.effects
    pub trigger : d.trigger ≡ e.trigger
    pub variables : SameVariables T d.variables e.variables
    pub signals : (c : ℕ) → T (ReadsSignal c) → signal_seen d.seen c ≡ signal_seen e.seen c
    pub readable : (c : ℕ) → T (HoldsReading c) → (fifo_seen d.seen c).values ≡ (fifo_seen e.seen c).values
    pub writable : (c : ℕ) → T (HoldsWriting c) → (fifo_seen d.seen c).free ≡ (fifo_seen e.seen c).free
    pub kept : (x : ℕ) → ¬ T (Writes x) → cells_of d.variables x ≡ cells_of first x
    pub own : AreEffectsOf T d.effects

  pub record Alike (a b : Outcome Place) : Type 0 where
    pub same : DidTheSame T a b
    pub kept : (x : ℕ) → ¬ T (Writes x) → cells_of a.deed.variables x ≡ cells_of first x
    pub own : AreEffectsOf T a.deed.effects

  sight_same : (locals : Locals) (d e : Course) → SameCourse d e → SameSight T (sight_of locals d) (sight_of locals e)
  sight_same locals d e h = record { locals = refl; read = h.variables.read; signals = h.signals; readable = h.readable; writable = h.writable }

  -- ---- steps

  output_same : (words : List ℕ) (d e : Course) → SameCourse d e → SameCourse (with_output words d) (with_output words e)
  output_same words d e h = record { output = ap (λ o. o ++ words) h.output; effects = h.effects; trigger = h.trigger; variables = h.variables; signals = h.signals; readable = h.readable; writable = h.writable; kept = h.kept; own = h.own }

  trigger_same : (on : WaitOn) (d e : Course) → SameCourse d e → SameCourse (record d { trigger = Some on }) (record e { trigger = Some on })
  trigger_same on d e h = record { output = h.output; effects = h.effects; trigger = refl; variables = h.variables; signals = h.signals; readable = h.readable; writable = h.writable; kept = h.kept; own = h.own }

  effect_same : (f : Effect) → IsEffectOf T f → (d e : Course) → SameCourse d e → SameCourse (with_effect f d) (with_effect f e)
  effect_same f t d e h = record { output = h.output; effects = ap (λ fs. fs ++ f ∷ []) h.effects; trigger = h.trigger; variables = h.variables; signals = h.signals; readable = h.readable; writable = h.writable; kept = h.kept; own = effects_last d.effects f h.own t }

  take_same : SeesOwnSteps → (c : ℕ) → T (HoldsReading c) → (d e : Course) → SameCourse d e → SameCourse (with_take c d) (with_take c e)
  take_same shows c t d e h = record {
    output = h.output;
    effects = ap (λ fs. fs ++ effect.Take c ∷ []) h.effects;
    trigger = h.trigger;
    variables = h.variables;
    signals = λ s u. shows.signal_after_take d.seen c s ∙ h.signals s u ∙ sym (shows.signal_after_take e.seen c s);
    readable = λ f u. shows.values_after_take d.seen c f ∙ ap (left_of c f) (h.readable f u) ∙ sym (shows.values_after_take e.seen c f);
    writable = λ f u. shows.free_after_take d.seen c f ∙ h.writable f u ∙ sym (shows.free_after_take e.seen c f);
    kept = h.kept;
    own = effects_last d.effects (effect.Take c) h.own t;
  }

  put_same : SeesOwnSteps → (c : ℕ) (v : Value) → T (HoldsWriting c) → (d e : Course) → SameCourse d e → SameCourse (with_put c v d) (with_put c v e)
  put_same shows c v t d e h = record {
    output = h.output;
    effects = ap (λ fs. fs ++ effect.Put c v ∷ []) h.effects;
    trigger = h.trigger;
    variables = h.variables;
    signals = λ s u. shows.signal_after_put d.seen c s ∙ h.signals s u ∙ sym (shows.signal_after_put e.seen c s);
    readable = λ f u. shows.values_after_put d.seen c f ∙ h.readable f u ∙ sym (shows.values_after_put e.seen c f);
    writable = λ f u. shows.free_after_put d.seen c f ∙ ap (free_of c f) (h.writable f u) ∙ sym (shows.free_after_put e.seen c f);
    kept = h.kept;
    own = effects_last d.effects (effect.Put c v) h.own t;
  }

  cells_same : (x : ℕ) (cells : List Value) → T (Writes x) → (d e : Course) → SameCourse d e → SameCourse (with_cells x cells d) (with_cells x cells e)
  cells_same x cells t d e h = record {
    output = h.output;
    effects = h.effects;
    trigger = h.trigger;
    variables = record {
      count = length-set d.variables x cells ∙ h.variables.count ∙ sym (length-set e.variables x cells);
      read = λ y u. set_alike d.variables e.variables x y cells [] h.variables.count (h.variables.read y u);
      written = λ y u. set_alike d.variables e.variables x y cells [] h.variables.count (h.variables.written y u);
    };
    signals = h.signals;
    readable = h.readable;
    writable = h.writable;
    kept = λ y u. get_or-set_other d.variables x y cells [] (λ s. u (subst (λ z. T (Writes z)) (sym s) t)) ∙ h.kept y u;
    own = h.own;
  }

  -- ---- ends and choices

  ends_alike : (items : List Item) (locals : Locals) (end : JobEnd) (d e : Course) → SameCourse d e → Alike (ends items locals end d) (ends items locals end e)
  ends_alike items locals end d e h = record {
    same = record { output = h.output; effects = h.effects; end = refl; next = refl; variables = h.variables };
    kept = h.kept;
    own = h.own;
  }

  result_alike : {A : Type 0} (line : ℕ) (locals : Locals) (x y : Result A Fault) → x ≡ y → (d e : Course) → SameCourse d e → (f g : A → Outcome Place) → ((v : A) → Alike (f v) (g v)) → Alike (with_result x line locals d f) (with_result y line locals e g)
  result_alike line locals x y q d e h f g go = subst (λ z. Alike (with_result x line locals d f) (with_result z line locals e g)) q (at x)
    where
      at : (z : Result _ Fault) → Alike (with_result z line locals d f) (with_result z line locals e g)
      at (Ok v) = go v
      at (Err fault) = ends_alike [] locals (job.Faulted fault line) d e h

  index_alike : (line : ℕ) (locals : Locals) (x y : Option ℕ) → x ≡ y → (d e : Course) → SameCourse d e → (f g : ℕ → Outcome Place) → ((v : ℕ) → Alike (f v) (g v)) → Alike (with_index x line locals d f) (with_index y line locals e g)
  index_alike line locals x y q d e h f g go = subst (λ z. Alike (with_index x line locals d f) (with_index z line locals e g)) q (at x)
    where
      at : (z : Option ℕ) → Alike (with_index z line locals d f) (with_index z line locals e g)
      at (Some v) = go v
      at None = ends_alike [] locals (job.Faulted IndexRange line) d e h

  truth_alike : (v : Value) (a b c d : Outcome Place) → Alike a b → Alike c d → Alike (by_truth v a c) (by_truth v b d)
  truth_alike v a b c d h k = at (truth_of v)
    where
      at : (t : Bool) → Alike (if t then a else c) (if t then b else d)
      at true = h
      at false = k

  first_alike : (x y : List Value) → x ≡ y → (a b : Outcome Place) (f g : Value → Outcome Place) → Alike a b → ((v : Value) → Alike (f v) (g v)) → Alike (with_first x a f) (with_first y b g)
  first_alike x y q a b f g h go = subst (λ z. Alike (with_first x a f) (with_first z b g)) q (at x)
    where
      at : (z : List Value) → Alike (with_first z a f) (with_first z b g)
      at [] = h
      at (v ∷ vs) = go v

  free_alike : (x y : ℕ) → x ≡ y → (a b c d : Outcome Place) → Alike a b → Alike c d → Alike (if_free x a c) (if_free y b d)
  free_alike x y q a b c d h k = subst (λ z. Alike (if_free x a c) (if_free z b d)) q (at x)
    where
      at : (z : ℕ) → Alike (if_free z a c) (if_free z b d)
      at zero = h
      at (suc n) = k

  module _ (b : Bound) (process : BoundProcess) (stamp : Stamp) where
    abbrev setting : Setting
    setting = record { model = b; process = process; stamp = stamp }

    abbrev into_touches : BoundTarget → List Touch
    into_touches t = text.target_touches b.events t

    value_alike : (x : BoundExpr) (line : ℕ) (locals : Locals) → AllByRecursion T (text.reads_of x) → (d e : Course) → SameCourse d e → (f g : Value → Outcome Place) → ((v : Value) → Alike (f v) (g v)) → Alike (with_value x line locals d f) (with_value x line locals e g)
    value_alike x line locals t d e h f g go =
        result_alike line locals (reading_of x (sight_of locals d)) (reading_of x (sight_of locals e)) (same_reading T (sight_of locals d) (sight_of locals e) (sight_same locals d e h) x t) d e h f g go

    aim_alike : (t : BoundTarget) (line : ℕ) (locals : Locals) → AllByRecursion T (into_touches t) → (d e : Course) → SameCourse d e → (f g : Value → Outcome Place) → ((v : Value) → Alike (f v) (g v)) → Alike (with_aim t line locals d f) (with_aim t line locals e g)
    aim_alike (target.Element x i) line locals t d e h f g go = value_alike i line locals t.1 d e h f g go
    aim_alike target.Nothing line locals t d e h f g go = go no_value
    aim_alike (target.Local k n) line locals t d e h f g go = go no_value
    aim_alike (target.Variable x) line locals t d e h f g go = go no_value
    aim_alike (target.Signal c) line locals t d e h f g go = go no_value

    -- what follows is alike, wherever it is come to with the same
    abbrev AlikeOn : Onward → Type 0
    AlikeOn go = (locals : Locals) (d e : Course) → SameCourse d e → Alike (go locals d) (go locals e)

    assigned_alike : (t : BoundTarget) (index v : Value) (line : ℕ) (locals : Locals) → AllByRecursion T (into_touches t) → (d e : Course) → SameCourse d e → (go : Onward) → AlikeOn go → Alike (assigned setting t index v line locals d go) (assigned setting t index v line locals e go)
    assigned_alike target.Nothing index v line locals t d e h go k = k locals d e h
    assigned_alike (target.Local j n) index v line locals t d e h go k = k (with_local j n (conversion_of v j) locals) d e h
    assigned_alike (target.Variable x) index v line locals t d e h go k =
        let w = conversion_of v (variable_kind b x) in
        let q = ap (λ c. slice_set c 0 w) (h.variables.written x t.0) in
        let cells = slice_set (cells_of d.variables x) 0 w in
        subst (λ c. Alike (go locals (with_cells x cells d)) (go locals (with_cells x c e))) q (k locals (with_cells x cells d) (with_cells x cells e) (cells_same x cells t.0 d e h))
    assigned_alike (target.Element x i) index v line locals t d e h go k =
        let w = conversion_of v (variable_kind b x) in
        index_alike line locals (index_in (length (cells_of d.variables x)) (number_of index)) (index_in (length (cells_of e.variables x)) (number_of index)) (ap (λ c. index_in (length c) (number_of index)) (h.variables.written x t.0)) d e h
        (λ n. go locals (with_cells x (slice_set (cells_of d.variables x) n w) d)) (λ n. go locals (with_cells x (slice_set (cells_of e.variables x) n w) e)) (λ n.
        let q = ap (λ c. slice_set c n w) (h.variables.written x t.0) in
        let cells = slice_set (cells_of d.variables x) n w in
        subst (λ c. Alike (go locals (with_cells x cells d)) (go locals (with_cells x c e))) q (k locals (with_cells x cells d) (with_cells x cells e) (cells_same x cells t.0 d e h)))
    assigned_alike (target.Signal c) index v line locals t d e h go k =
        let f = effect.Request c (conversion_of v (channel_kind b c)) in
        k locals (with_effect f d) (with_effect f e) (effect_same f t.0 d e h)

    assign_alike : (t : BoundTarget) (v : Value) (line : ℕ) (locals : Locals) → AllByRecursion T (into_touches t) → (d e : Course) → SameCourse d e → (go : Onward) → AlikeOn go → Alike (assign setting t v line locals d go) (assign setting t v line locals e go)
    assign_alike t v line locals touched d e h go k =
        aim_alike t line locals touched d e h (λ index. assigned setting t index v line locals d go) (λ index. assigned setting t index v line locals e go) (λ index. assigned_alike t index v line locals touched d e h go k)

    current_same : (t : BoundTarget) (index : Value) (locals : Locals) → AllByRecursion T (text.target_reads t) → (d e : Course) → SameCourse d e → current t index locals d ≡ current t index locals e
    current_same target.Nothing index locals t d e h = refl
    current_same (target.Local k n) index locals t d e h = refl
    current_same (target.Variable x) index locals t d e h = rw (h.variables.read x t.0) refl
    current_same (target.Element x i) index locals t d e h = ap (λ c. element_at c (index_in (length c) (number_of index))) (h.variables.read x t.0)
    current_same (target.Signal c) index locals t d e h = rw (h.signals c t.0) refl

    args_alike : (n : ℕ) (ks : List Kind) (es : List BoundExpr) (line : ℕ) (locals : Locals) → AllByRecursion T (text.arguments_read ks es) → (d e : Course) → SameCourse d e → (given : Locals) (f g : Locals → Outcome Place) → ((given : Locals) → Alike (f given) (g given)) → Alike (with_arguments n ks es line locals d given f) (with_arguments n ks es line locals e given g)
    args_alike n [] [] line locals t d e h given f g k = k given
    args_alike n [] (x ∷ xs) line locals t d e h given f g k = k given
    args_alike n (j ∷ ks) [] line locals t d e h given f g k = k given
    args_alike n (j ∷ ks) (x ∷ xs) line locals t d e h given f g k =
        value_alike x line locals (first_part T (text.reads_of x) (text.arguments_read ks xs) t) d e h
        (λ v. with_arguments (suc n) ks xs line locals d (with_local j n (conversion_of v j) given) f)
        (λ v. with_arguments (suc n) ks xs line locals e (with_local j n (conversion_of v j) given) g)
        (λ v. args_alike (suc n) ks xs line locals (then_part T (text.reads_of x) (text.arguments_read ks xs) t) d e h (with_local j n (conversion_of v j) given) f g k)

    prints_alike : (xs : List BoundItem) (line : ℕ) (locals : Locals) → AllByRecursion T (text.items_read xs) → (d e : Course) → SameCourse d e → (go : Course → Outcome Place) → ((d e : Course) → SameCourse d e → Alike (go d) (go e)) → Alike (prints setting xs line locals d go) (prints setting xs line locals e go)
    prints_alike [] line locals t d e h go k = k d e h
    prints_alike (item.Value x ∷ xs) line locals t d e h go k =
        value_alike x line locals (first_part T (text.reads_of x) (text.items_read xs) t) d e h
        (λ v. prints setting xs line locals (with_output (value_text v) d) go) (λ v. prints setting xs line locals (with_output (value_text v) e) go)
        (λ v. prints_alike xs line locals (then_part T (text.reads_of x) (text.items_read xs) t) (with_output (value_text v) d) (with_output (value_text v) e) (output_same (value_text v) d e h) go k)
    prints_alike (item.Text words ∷ xs) line locals t d e h go k =
        prints_alike xs line locals t (with_output words d) (with_output words e) (output_same words d e h) go k
    prints_alike (item.Time ∷ xs) line locals t d e h go k =
        let words = time_text stamp.time in prints_alike xs line locals t (with_output words d) (with_output words e) (output_same words d e h) go k

    test_alike : (x : Option BoundExpr) (line : ℕ) (locals : Locals) → AllByRecursion T (text.option_reads x) → (d e : Course) → SameCourse d e → (f g : Value → Outcome Place) → ((v : Value) → Alike (f v) (g v)) → Alike (with_test x line locals d f) (with_test x line locals e g)
    test_alike None line locals t d e h f g k = k (value.Bool true)
    test_alike (Some x) line locals t d e h f g k = value_alike x line locals t d e h f g k

    returned_alike : (x : Option BoundExpr) (line : ℕ) (locals : Locals) → AllByRecursion T (text.option_reads x) → (d e : Course) → SameCourse d e → (f g : Option Value → Outcome Place) → ((v : Option Value) → Alike (f v) (g v)) → Alike (with_returned x line locals d f) (with_returned x line locals e g)
    returned_alike None line locals t d e h f g k = k None
    returned_alike (Some x) line locals t d e h f g k = value_alike x line locals t d e h (λ v. f (Some v)) (λ v. g (Some v)) (λ v. k (Some v))

    end_alike : (k : ProcessKind) (x y : Option WaitOn) → x ≡ y → (locals : Locals) (d e : Course) → SameCourse d e → Alike (at_end setting k x locals d) (at_end setting k y locals e)
    end_alike k x y q locals d e h = subst (λ z. Alike (at_end setting k x locals d) (at_end setting k z locals e)) q (at k x)
      where
        at : (k : ProcessKind) (z : Option WaitOn) → Alike (at_end setting k z locals d) (at_end setting k z locals e)
        at Thread z = ends_alike [] locals job.Ended d e h
        at Method None = ends_alike (entered_all process.body []) locals _ d e h
        at Method (Some on) = ends_alike (entered_all process.body []) locals _ d e h

-- ---- what remains

module _ (shows : SeesOwnSteps) (b : Bound) (process : BoundProcess) (stamp : Stamp) (start : List Item) (first : List (List Value)) where
  abbrev T : Touch → Type 0
  T = Touches b start

  abbrev s : Setting
  s = record { model = b; process = process; stamp = stamp }

  -- two activations have come to the same, and did
  abbrev Same : Course → Course → Type 0
  Same d e = SameCourse T first d e

  abbrev Did : Outcome Place → Outcome Place → Type 0
  Did x y = Alike T first x y

  -- the items are come to
  abbrev Come : List Item → Type 0
  Come items = Comes b start (without_values items)

  abbrev come : (items next later : List Item) → Come items → without_values next ≡ later → Contains (goes_to b (without_values items)) later → Come next
  come items next later c e g = come_on b start items next later c e g

  -- what the first of them touches
  first_touched : (items : List Item) → Come items → AllByRecursion T (first_touches b (without_values items))
  first_touched items c = each_contained T (first_touches b (without_values items)) (λ t h. record { later = without_values items; comes = c; touches = h })

  -- what follows is alike at all items that are come to
  abbrev AllAlike : Next → Type 0
  AllAlike next = (items : List Item) (locals : Locals) (d e : Course) → Come items → Same d e → Did (next items locals d) (next items locals e)

  abbrev RestAlike : Onward → Type 0
  RestAlike go = (locals : Locals) (d e : Course) → Same d e → Did (go locals d) (go locals e)

  module _ (next : Next) (all : AllAlike next) where
    -- what remains behind an item that leads there alone
    passed : (items rest : List Item) → Come items → goes_to b (without_values items) ≡ without_values rest ∷ [] → RestAlike (next rest)
    passed items rest c e locals d f h =
        let left = without_values rest in
        all rest locals d f (come items rest left c refl (subst (λ ys. Contains ys left) (sym e) (in_one left left refl))) h

    call_alike : (o : Option BoundFunction) (t : BoundTarget) (args : List BoundExpr) (line : ℕ) (rest : List Item) (locals : Locals) (d e : Course) → Same d e → AllByRecursion T (call_reads o args) → ((f : BoundFunction) → o ≡ Some f → (v : Value) (saved : Locals) → Come (entered_all f.body (Leave line t f.result v saved ∷ rest))) → Did (call o t args line next rest locals d) (call o t args line next rest locals e)
    call_alike None t args line rest locals d e h touched c = ends_alike T first [] locals job.Ended d e h
    call_alike (Some f) t args line rest locals d e h touched c =
        let into = entered_all f.body (Leave line t f.result (first_result f.result) locals ∷ rest) in
        args_alike T first b process stamp 0 f.params args line locals touched d e h _ (λ given. next into given d) (λ given. next into given e) (λ given.
        all into given d e (c f refl (first_result f.result) locals) h)

    called : (items rest : List Item) (line : ℕ) (t : BoundTarget) (o : Option BoundFunction) → Come items → goes_to b (without_values items) ≡ call_goes_to o line t (without_values rest) → (f : BoundFunction) → o ≡ Some f → (v : Value) (saved : Locals) → Come (entered_all f.body (Leave line t f.result v saved ∷ rest))
    called items rest line t None c e f is v saved = absurd cc
    called items rest line t (Some g) c e f is v saved =
        let same : g ≡ f = cc in
        let left = body_left f.body (Leave line t f.result v saved ∷ rest) in
        let into : BoundFunction → List Item = λ g. entered_all g.body (Leave line t g.result no_value no_values ∷ without_values rest) in
        come items (entered_all f.body (Leave line t f.result v saved ∷ rest)) (into f) c left
        (subst (λ ys. Contains ys (into f)) (sym e) (in_one (into g) (into f) (ap into same)))

    abbrev lined : ℕ → BoundSimple → List Item → List Item
    lined line x rest = Do (record { line = line; simple = x }) ∷ rest

    right_alike : (line : ℕ) (t : BoundTarget) (r : BoundRight) (rest : List Item) (locals : Locals) (d e : Course) → Come (lined line (simple.Assign t r) rest) → Same d e → Did (act_assign s t r line next (lined line (simple.Assign t r) rest) rest locals d) (act_assign s t r line next (lined line (simple.Assign t r) rest) rest locals e)
    right_alike line t (right.Value x) rest locals d e c h =
        let items = lined line (simple.Assign t (right.Value x)) rest in
        let touched = first_touched items c in
        let on = passed items rest c refl in
        value_alike T first b process stamp x line locals (first_part T (text.reads_of x) (text.target_touches b.events t) touched) d e h
        (λ v. assign s t v line locals d (next rest)) (λ v. assign s t v line locals e (next rest)) (λ v.
        assign_alike T first b process stamp t v line locals (then_part T (text.reads_of x) (text.target_touches b.events t) touched) d e h (next rest) on)
    right_alike line t (right.Call f args) rest locals d e c h =
        let items = lined line (simple.Assign t (right.Call f args)) rest in
        call_alike (slice_get b.functions f) t args line rest locals d e h (first_touched items c) (called items rest line t (slice_get b.functions f) c refl)
    right_alike line t (right.Read f) rest locals d e c h =
        let items = lined line (simple.Assign t (right.Read f)) rest in
        let touched = first_touched items c in
        let on = passed items rest c refl in
        let taken = first_part T (text.take_touches b.events f) (text.target_touches b.events t) touched in
        let into = then_part T (text.take_touches b.events f) (text.target_touches b.events t) touched in
        first_alike T first (fifo_seen d.seen f).values (fifo_seen e.seen f).values (h.readable f taken.0) _ _
        (λ v. assign s t v line locals (with_take f d) (next rest)) (λ v. assign s t v line locals (with_take f e) (next rest))
        (ends_alike T first items locals _ d e h) (λ v.
        assign_alike T first b process stamp t v line locals into (with_take f d) (with_take f e) (take_same T first shows f taken.0 d e h) (next rest) on)
    right_alike line t (right.NbRead f x) rest locals d e c h =
        let items = lined line (simple.Assign t (right.NbRead f x)) rest in
        let touched = first_touched items c in
        let on = passed items rest c refl in
        let front = first_part T (text.take_touches b.events f ++ text.target_touches b.events x) (text.target_touches b.events t) touched in
        let taken = first_part T (text.take_touches b.events f) (text.target_touches b.events x) front in
        let aimed = then_part T (text.take_touches b.events f) (text.target_touches b.events x) front in
        let into = then_part T (text.take_touches b.events f ++ text.target_touches b.events x) (text.target_touches b.events t) touched in
        let yes : Onward = λ locals d. assign s t (value.Bool true) line locals d (next rest) in
        aim_alike T first b process stamp x line locals aimed d e h _ _ (λ index.
        first_alike T first (fifo_seen d.seen f).values (fifo_seen e.seen f).values (h.readable f taken.0)
        (assign s t (value.Bool false) line locals d (next rest)) (assign s t (value.Bool false) line locals e (next rest))
        (λ v. assigned s x index v line locals (with_take f d) yes) (λ v. assigned s x index v line locals (with_take f e) yes)
        (assign_alike T first b process stamp t (value.Bool false) line locals into d e h (next rest) on) (λ v.
        assigned_alike T first b process stamp x index v line locals aimed (with_take f d) (with_take f e) (take_same T first shows f taken.0 d e h) yes (λ locals d e h.
        assign_alike T first b process stamp t (value.Bool true) line locals into d e h (next rest) on)))
    right_alike line t (right.NbWrite f x) rest locals d e c h =
        let items = lined line (simple.Assign t (right.NbWrite f x)) rest in
        let touched = first_touched items c in
        let on = passed items rest c refl in
        let front = first_part T (text.reads_of x ++ text.put_touches b.events f) (text.target_touches b.events t) touched in
        let puts = then_part T (text.reads_of x) (text.put_touches b.events f) front in
        let into = then_part T (text.reads_of x ++ text.put_touches b.events f) (text.target_touches b.events t) touched in
        value_alike T first b process stamp x line locals (first_part T (text.reads_of x) (text.put_touches b.events f) front) d e h _ _ (λ v.
        let w = conversion_of v (channel_kind b f) in
        free_alike T first (fifo_seen d.seen f).free (fifo_seen e.seen f).free (h.writable f puts.0)
        (assign s t (value.Bool false) line locals d (next rest)) (assign s t (value.Bool false) line locals e (next rest))
        (assign s t (value.Bool true) line locals (with_put f w d) (next rest)) (assign s t (value.Bool true) line locals (with_put f w e) (next rest))
        (assign_alike T first b process stamp t (value.Bool false) line locals into d e h (next rest) on)
        (assign_alike T first b process stamp t (value.Bool true) line locals into (with_put f w d) (with_put f w e) (put_same T first shows f w puts.0 d e h) (next rest) on))

    update_alike : (line : ℕ) (t : BoundTarget) (op : Op) (x : BoundExpr) (rest : List Item) (locals : Locals) (d e : Course) → Come (lined line (simple.Update t op x) rest) → Same d e → Did (act_simple s (simple.Update t op x) line next (lined line (simple.Update t op x) rest) rest locals d) (act_simple s (simple.Update t op x) line next (lined line (simple.Update t op x) rest) rest locals e)
    update_alike line t op x rest locals d e c h =
        let items = lined line (simple.Update t op x) rest in
        let touched = first_touched items c in
        let on = passed items rest c refl in
        let front = first_part T (text.reads_of x ++ text.target_reads t) (text.target_touches b.events t) touched in
        let into = then_part T (text.reads_of x ++ text.target_reads t) (text.target_touches b.events t) touched in
        let read = then_part T (text.reads_of x) (text.target_reads t) front in
        value_alike T first b process stamp x line locals (first_part T (text.reads_of x) (text.target_reads t) front) d e h _ _ (λ v.
        aim_alike T first b process stamp t line locals into d e h _ _ (λ index.
        result_alike T first line locals (current t index locals d) (current t index locals e) (current_same T first b process stamp t index locals read d e h) d e h _ _ (λ a.
        result_alike T first line locals (binary_of op a v) (binary_of op a v) refl d e h _ _ (λ r.
        assigned_alike T first b process stamp t index r line locals into d e h (next rest) on))))

    simple_alike : (line : ℕ) (x : BoundSimple) (rest : List Item) (locals : Locals) (d e : Course) → Come (lined line x rest) → Same d e → Did (act_simple s x line next (lined line x rest) rest locals d) (act_simple s x line next (lined line x rest) rest locals e)
    simple_alike line (simple.Assign t r) rest locals d e c h = right_alike line t r rest locals d e c h
    simple_alike line (simple.Update t op x) rest locals d e c h = update_alike line t op x rest locals d e c h
    simple_alike line (simple.Write f x) rest locals d e c h = ends_alike T first [] locals job.Ended d e h
    simple_alike line (simple.Notify n k) rest locals d e c h =
        let items = lined line (simple.Notify n k) rest in
        let touched = first_touched items c in
        result_alike T first line locals (time_given k (sight_of locals d)) (time_given k (sight_of locals e)) (same_time T (sight_of locals d) (sight_of locals e) (sight_same T first locals d e h) k touched.1) d e h _ _ (λ delay.
        passed items rest c refl locals _ _ (effect_same T first (effect.Notify n delay) (text.constant_delay k, touched.0) d e h))
    simple_alike line (simple.Cancel n) rest locals d e c h =
        let items = lined line (simple.Cancel n) rest in
        passed items rest c refl locals _ _ (effect_same T first (effect.Cancel n) (first_touched items c).0 d e h)
    simple_alike line (simple.Wait w) rest locals d e c h =
        let items = lined line (simple.Wait w) rest in
        result_alike T first line locals (wait_time w.time (sight_of locals d)) (wait_time w.time (sight_of locals e)) (same_wait T (sight_of locals d) (sight_of locals e) (sight_same T first locals d e h) w.time (first_touched items c)) d e h _ _ (λ r.
        ends_alike T first rest locals (job.Waits (wait_on s w r)) d e h)
    simple_alike line (simple.NextTrigger w) rest locals d e c h =
        let items = lined line (simple.NextTrigger w) rest in
        result_alike T first line locals (wait_time w.time (sight_of locals d)) (wait_time w.time (sight_of locals e)) (same_wait T (sight_of locals d) (sight_of locals e) (sight_same T first locals d e h) w.time (first_touched items c)) d e h _ _ (λ r.
        passed items rest c refl locals _ _ (trigger_same T first (wait_on s w r) d e h))
    simple_alike line simple.Stop rest locals d e c h = passed (lined line simple.Stop rest) rest c refl locals _ _ (effect_same T first effect.Stop tt d e h)
    simple_alike line (simple.Print xs) rest locals d e c h =
        let items = lined line (simple.Print xs) rest in
        prints_alike T first b process stamp xs line locals (first_touched items c) d e h (λ d. next rest locals d) (λ d e h. passed items rest c refl locals d e h)

    act_alike : (i : Item) (rest : List Item) (locals : Locals) (d e : Course) → Come (i ∷ rest) → Same d e → Did (act s i next rest locals d) (act s i next rest locals e)
    act_alike (Do x) rest locals d e c h = simple_alike x.line x.simple rest locals d e c h
    act_alike (Putting line f v) rest locals d e c h =
        let items = Putting line f v ∷ rest in
        let puts = first_touched items c in
        free_alike T first (fifo_seen d.seen f).free (fifo_seen e.seen f).free (h.writable f puts.0) _ _ (next rest locals (with_put f v d)) (next rest locals (with_put f v e))
        (ends_alike T first items locals _ d e h) (passed items rest c refl locals (with_put f v d) (with_put f v e) (put_same T first shows f v puts.0 d e h))
    act_alike (Choose line x y z) rest locals d e c h =
        let items = Choose line x y z ∷ rest in
        let left = without_values rest in
        let yes = come items (entered y rest) (entered y left) c (entered_left y rest) (in_two (entered y left) (entered_if z left) (entered y left) (inl refl)) in
        let no = come items (entered_if z rest) (entered_if z left) c (maybe_entered_left z rest) (in_two (entered y left) (entered_if z left) (entered_if z left) (inr refl)) in
        value_alike T first b process stamp x line locals (first_touched items c) d e h _ _ (λ v.
        truth_alike T first v (next (entered y rest) locals d) (next (entered y rest) locals e) (next (entered_if z rest) locals d) (next (entered_if z rest) locals e)
        (all (entered y rest) locals d e yes h) (all (entered_if z rest) locals d e no h))
    act_alike (Check l) rest locals d e c h =
        let items = Check l ∷ rest in
        let left = without_values rest in
        let into = entered l.body (Again l ∷ rest) in
        let into_left = entered l.body (Again l ∷ left) in
        let yes = come items into into_left c (entered_left l.body (Again l ∷ rest)) (in_two into_left left into_left (inl refl)) in
        let no = come items rest left c refl (in_two into_left left left (inr refl)) in
        test_alike T first b process stamp l.test l.line locals (first_touched items c) d e h _ _ (λ v.
        truth_alike T first v (next into locals d) (next into locals e) (next rest locals d) (next rest locals e) (all into locals d e yes h) (all rest locals d e no h))
    act_alike (Break line) rest locals d e c h =
        let later = after_loop (without_values rest) in
        all (after_loop rest) locals d e (come (Break line ∷ rest) (after_loop rest) later c (after_left rest) (in_one later later refl)) h
    act_alike (Continue line) rest locals d e c h =
        let later = at_loop (without_values rest) in
        all (at_loop rest) locals d e (come (Continue line ∷ rest) (at_loop rest) later c (at_left rest) (in_one later later refl)) h
    act_alike (Return line x) rest locals d e c h =
        let later = returned None (without_values rest) in
        returned_alike T first b process stamp x line locals (first_touched (Return line x ∷ rest) c) d e h (λ v. next (returned v rest) locals d) (λ v. next (returned v rest) locals e) (λ v.
        all (returned v rest) locals d e (come (Return line x ∷ rest) (returned v rest) later c (returned_left v rest) (in_one later later refl)) h)
    act_alike (Begin l) rest locals d e c h = ends_alike T first [] locals job.Ended d e h
    act_alike (Again l) rest locals d e c h = ends_alike T first [] locals job.Ended d e h
    act_alike (Leave line t k v saved) rest locals d e c h = ends_alike T first [] locals job.Ended d e h

    counted_alike : AllAlike (act_first s next)
    counted_alike [] locals d e c h = ends_alike T first [] locals job.Ended d e h
    counted_alike (i ∷ rest) locals d e c h = act_alike i rest locals d e c h

  limit_alike : AllAlike at_limit
  limit_alike [] locals d e c h = ends_alike T first [] locals job.Ended d e h
  limit_alike (i ∷ rest) locals d e c h = ends_alike T first [] locals (job.Limit (line_of i)) d e h

  -- ---- what counts nothing

  module _ (go : Next) (all : AllAlike go) where
    abbrev doing : ℕ → BoundSimple → List Item → List Item
    doing line x rest = Do (record { line = line; simple = x }) ∷ rest

    do_alike : (line : ℕ) (x : BoundSimple) (rest : List Item) (locals : Locals) (d e : Course) → Come (doing line x rest) → Same d e → Did (ready_do s x (record { line = line; simple = x }) go rest locals d) (ready_do s x (record { line = line; simple = x }) go rest locals e)
    do_alike line (simple.Write f x) rest locals d e c h =
        let items = doing line (simple.Write f x) rest in
        let later = Putting line f no_value ∷ without_values rest in
        let putting : Value → List Item = λ v. Putting line f (conversion_of v (channel_kind b f)) ∷ rest in
        value_alike T first b process stamp x line locals (first_touched items c) d e h (λ v. go (putting v) locals d) (λ v. go (putting v) locals e) (λ v.
        all (putting v) locals d e (come items (putting v) later c refl (in_one later later refl)) h)
    do_alike line (simple.Assign t r) rest locals d e c h = all (doing line (simple.Assign t r) rest) locals d e c h
    do_alike line (simple.Update t op x) rest locals d e c h = all (doing line (simple.Update t op x) rest) locals d e c h
    do_alike line (simple.Notify n k) rest locals d e c h = all (doing line (simple.Notify n k) rest) locals d e c h
    do_alike line (simple.Cancel n) rest locals d e c h = all (doing line (simple.Cancel n) rest) locals d e c h
    do_alike line (simple.Wait w) rest locals d e c h = all (doing line (simple.Wait w) rest) locals d e c h
    do_alike line (simple.NextTrigger w) rest locals d e c h = all (doing line (simple.NextTrigger w) rest) locals d e c h
    do_alike line simple.Stop rest locals d e c h = all (doing line simple.Stop rest) locals d e c h
    do_alike line (simple.Print xs) rest locals d e c h = all (doing line (simple.Print xs) rest) locals d e c h

    ready_alike : AllAlike (ready s go)
    ready_alike (Do x ∷ rest) locals d e c h = do_alike x.line x.simple rest locals d e c h
    ready_alike [] locals d e c h = all [] locals d e c h
    ready_alike (i ∷ rest) locals d e c h = all (i ∷ rest) locals d e c h

    arrive_alike : (items : List Item) (locals : Locals) (d e : Course) → Come items → Same d e → Did (arrive s items locals d go) (arrive s items locals e go)
    arrive_alike [] locals d e c h = end_alike T first b process stamp process.kind d.trigger e.trigger h.trigger locals d e h
    arrive_alike (Begin l ∷ rest) locals d e c h =
        let into = opened l.body (Check l ∷ rest) (Again l ∷ rest) in
        let later = opened l.body (Check l ∷ without_values rest) (Again l ∷ without_values rest) in
        ready_alike into locals d e (come (Begin l ∷ rest) into later c (opened_left l.body (Check l ∷ rest) (Again l ∷ rest)) (in_one later later refl)) h
    arrive_alike (Again l ∷ rest) locals d e c h =
        let into = maybe_do l.after (Check l ∷ rest) in
        let later = maybe_do l.after (Check l ∷ without_values rest) in
        ready_alike into locals d e (come (Again l ∷ rest) into later c (maybe_left l.after (Check l ∷ rest)) (in_one later later refl)) h
    arrive_alike (Leave line t k v saved ∷ rest) locals d e c h =
        let items = Leave line t k v saved ∷ rest in
        let left = without_values rest in
        assign_alike T first b process stamp t v line saved (first_touched items c) d e h (λ locals d. arrive s rest locals d go) (λ locals d e h.
        arrive_alike rest locals d e (come items rest left c refl (in_one left left refl)) h)
    arrive_alike (Do x ∷ rest) locals d e c h = ready_alike (Do x ∷ rest) locals d e c h
    arrive_alike (i ∷ rest) locals d e c h = ready_alike (i ∷ rest) locals d e c h

  pub steps_alike : (n : ℕ) → AllAlike (steps s n)
  unfolding steps
  steps_alike zero items locals d e c h = arrive_alike at_limit limit_alike items locals d e c h
  steps_alike (suc n) items locals d e c h = arrive_alike (act_first s (steps s n)) (counted_alike (steps s n) (steps_alike n)) items locals d e c h

-- ---- an activation

module _ (shows : SeesOwnSteps) (b : Bound) (process : BoundProcess) (statements : ℕ) (place : Place) where
  abbrev touched : Touch → Type 0
  touched = Touches b (without_values place.items)

  begins : (v w : View) → AgreeOn touched v w → SameCourse touched v.variables (course_at v) (course_at w)
  begins v w h = record {
    output = refl;
    effects = refl;
    trigger = refl;
    variables = h.variables;
    signals = h.signals;
    readable = h.readable;
    writable = h.writable;
    kept = λ x t. refl;
    own = tt;
  }

  activation_alike : (v w : View) → AgreeOn touched v w → Alike touched v.variables (act_found b statements (Some process) place v) (act_found b statements (Some process) place w)
  activation_alike v w h =
      let same = steps_alike shows b process v.stamp (without_values place.items) v.variables statements place.items place.locals (course_at v) (course_at w) stays (begins v w h) in
      subst (λ stamp. Alike touched v.variables (steps (record { model = b; process = process; stamp = v.stamp }) statements place.items place.locals (course_at v)) (steps (record { model = b; process = process; stamp = stamp }) statements place.items place.locals (course_at w))) h.stamp same

  agrees_with_itself : (v : View) → AgreeOn touched v v
  agrees_with_itself v = record {
    stamp = refl;
    variables = record { count = refl; read = λ x t. refl; written = λ x t. refl };
    signals = λ c t. refl;
    readable = λ c t. refl;
    writable = λ c t. refl;
  }

  pub same_on_touched : (v w : View) → AgreeOn touched v w → DidTheSame touched (act_found b statements (Some process) place v) (act_found b statements (Some process) place w)
  same_on_touched v w h = (activation_alike v w h).same

  pub touches_only : (v : View) → TouchesOnly touched v (act_found b statements (Some process) place v)
  touches_only v = let a = activation_alike v v (agrees_with_itself v) in record { variables = a.kept; effects = a.own }
