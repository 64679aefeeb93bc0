-- An activation depends on what its segment touches alone, and changes nothing else.
use Rattle.std.proofs.Common.{◌≡◌, ℕ, zero, suc, List, [], ◌∷◌, ◌++◌, length, Bool, true, false, if◌then◌else◌, Option, Some, None, Result, Ok, Err, refl, sym, ap, ◌∙◌, subst}
use Rattle.std.specs.Prelude.{slice_set}
use Rattle.std.proofs.lemmas.List.{length-set, get_or-set_other}
use Rattle.std.specs.List.{AllByRecursion}
use Rattle.ooo_lemmas.proofs.Placed.{set_alike}
use Rattle.ooo_lemmas.proofs.Each.{first_part, then_part}
use Rattle.ooo_time.specs.TimeText.{time_text}
use Rattle.ooo_value.specs.declared.bound.BoundEvent.{BoundEvent}
use Rattle.ooo_value.specs.declared.bound.ProcessKind.{ProcessKind}
use Rattle.ooo_value.specs.declared.bound.ProcessKind.TheVariants.{Thread, Method}
use Rattle.ooo_value.specs.declared.operators.Fault.{Fault}
use Rattle.ooo_value.specs.declared.operators.Fault.TheVariants.{IndexRange}
use Rattle.ooo_value.specs.declared.values.Value.{Value}
use Rattle.ooo_value.specs.Values.{number_of, truth_of}
use Rattle.ooo_value.specs.ValueText.{value_text}
use Rattle.ooo_code.specs.declared.activation.Effect.{Effect}
use Rattle.ooo_code.specs.declared.activation.Effect.TheVariants as effect
use Rattle.ooo_code.specs.declared.activation.Frame.{Frame}
use Rattle.ooo_code.specs.declared.activation.JobEnd.{JobEnd}
use Rattle.ooo_code.specs.declared.activation.JobEnd.TheVariants as job
use Rattle.ooo_code.specs.declared.activation.WaitOn.{WaitOn}
use Rattle.ooo_code.specs.declared.expression.NodeExpr.{NodeExpr}
use Rattle.ooo_code.specs.declared.node.NodeKind.{NodeKind}
use Rattle.ooo_code.specs.declared.node.NodeKind.TheVariants as kind
use Rattle.ooo_code.specs.declared.node.NodeTime.{NodeTime}
use Rattle.ooo_code.specs.declared.node.NodeTime.TheVariants as time
use Rattle.ooo_code.specs.declared.segment.SegmentEntry.{SegmentEntry}
use Rattle.ooo_code.specs.declared.segment.SegmentEntry.TheVariants.{Start, After}
use Rattle.ooo_code.specs.Outcomes.{Outcome}
use Rattle.ooo_code.specs.Expressions.{signal_seen, fifo_seen, cells_of, index_in, by_truth, reading_of, time_by, time_given}
use Rattle.ooo_code.specs.Nodes.{Doing, sight_of, with_slot, with_cells, with_output, with_effect, with_take, with_put, Next, ends, Running, with_result, with_index, some_time, wait_time, wait_on, at_end, with_first, if_free, act}
use Rattle.ooo_code.specs.Touches.{Touch, Writes, ReadsSignal, HoldsReading, HoldsWriting, reads_of, time_reads, wait_reads, touched_by, constant_delay}
use Rattle.ooo_code.specs.Segments.{leads_to}
use Rattle.ooo_code.specs.Dependence.{SameVariables, DidTheSame, IsEffectOf, AreEffectsOf}
use Rattle.ooo_code.specs.OwnSteps.{left_of, free_of}
use Rattle.ooo_code.proofs.Sights.{signal_after_take, signal_after_put, values_after_take, free_after_take, values_after_put, free_after_put}
use Rattle.ooo_code.proofs.Expressing.{SameSight, same_reading}

module _ (T : Touch → Type 0) (first : List (List Value)) where
  effects_last : (fs : List Effect) (f : Effect) → AreEffectsOf T fs → IsEffectOf T f → AreEffectsOf T (fs ++ f ∷ [])
  effects_last [] f h e = (e, tt)
  effects_last (g ∷ gs) f h e = (h.0, effects_last gs f h.1 e)

  -- two activations have come to the same, as far as it is touched
  pub record SameDoing (d e : Doing) : Type 0 where
    pub slots : d.slots ≡ e.slots
    pub output : d.output ≡ e.output
    pub effects : d.effects ≡ e.effects
    pub trigger : d.trigger ≡ e.trigger
    pub variables : SameVariables T d.variables e.variables
    pub signals : (c : ℕ) → T (ReadsSignal c) → signal_seen d.seen c ≡ signal_seen e.seen c
    pub readable : (c : ℕ) → T (HoldsReading c) → (fifo_seen d.seen c).values ≡ (fifo_seen e.seen c).values
    pub writable : (c : ℕ) → T (HoldsWriting c) → (fifo_seen d.seen c).free ≡ (fifo_seen e.seen c).free
    pub kept : (x : ℕ) → ¬ T (Writes x) → cells_of d.variables x ≡ cells_of first x
    pub own : AreEffectsOf T d.effects

  pub record Alike (a b : Outcome Frame) : Type 0 where
    pub same : DidTheSame T a b
    pub kept : (x : ℕ) → ¬ T (Writes x) → cells_of a.deed.variables x ≡ cells_of first x
    pub own : AreEffectsOf T a.deed.effects

  sight_same : (d e : Doing) → SameDoing d e → SameSight T (sight_of d) (sight_of e)
  sight_same d e h = record { slots = h.slots; read = h.variables.read; signals = h.signals; readable = h.readable; writable = h.writable }

  -- ---- steps

  slot_same : (n : ℕ) (v : Value) (d e : Doing) → SameDoing d e → SameDoing (with_slot n v d) (with_slot n v e)
  slot_same n v d e h = record { slots = ap (λ s. slice_set s n v) h.slots; output = h.output; effects = h.effects; trigger = h.trigger; variables = h.variables; signals = h.signals; readable = h.readable; writable = h.writable; kept = h.kept; own = h.own }

  output_same : (text : List ℕ) (d e : Doing) → SameDoing d e → SameDoing (with_output text d) (with_output text e)
  output_same text d e h = record { slots = h.slots; output = ap (λ o. o ++ text) h.output; effects = h.effects; trigger = h.trigger; variables = h.variables; signals = h.signals; readable = h.readable; writable = h.writable; kept = h.kept; own = h.own }

  trigger_same : (on : WaitOn) (d e : Doing) → SameDoing d e → SameDoing (record d { trigger = Some on }) (record e { trigger = Some on })
  trigger_same on d e h = record { slots = h.slots; output = h.output; effects = h.effects; trigger = refl; variables = h.variables; signals = h.signals; readable = h.readable; writable = h.writable; kept = h.kept; own = h.own }

  effect_same : (f : Effect) → IsEffectOf T f → (d e : Doing) → SameDoing d e → SameDoing (with_effect f d) (with_effect f e)
  effect_same f t d e h = record { slots = h.slots; output = h.output; effects = ap (λ fs. fs ++ f ∷ []) h.effects; trigger = h.trigger; variables = h.variables; signals = h.signals; readable = h.readable; writable = h.writable; kept = h.kept; own = effects_last d.effects f h.own t }

  take_same : (c n : ℕ) (v : Value) → T (HoldsReading c) → (d e : Doing) → SameDoing d e → SameDoing (with_take c n v d) (with_take c n v e)
  take_same c n v t d e h = record {
    slots = ap (λ s. slice_set s n v) h.slots;
    output = h.output;
    effects = ap (λ fs. fs ++ effect.Take c ∷ []) h.effects;
    trigger = h.trigger;
    variables = h.variables;
    signals = λ s u. signal_after_take d.seen c s ∙ h.signals s u ∙ sym (signal_after_take e.seen c s);
    readable = λ f u. values_after_take d.seen c f ∙ ap (left_of c f) (h.readable f u) ∙ sym (values_after_take e.seen c f);
    writable = λ f u. free_after_take d.seen c f ∙ h.writable f u ∙ sym (free_after_take e.seen c f);
    kept = h.kept;
    own = effects_last d.effects (effect.Take c) h.own t;
  }

  put_same : (c : ℕ) (v : Value) → T (HoldsWriting c) → (d e : Doing) → SameDoing d e → SameDoing (with_put c v d) (with_put c v e)
  put_same c v t d e h = record {
    slots = h.slots;
    output = h.output;
    effects = ap (λ fs. fs ++ effect.Put c v ∷ []) h.effects;
    trigger = h.trigger;
    variables = h.variables;
    signals = λ s u. signal_after_put d.seen c s ∙ h.signals s u ∙ sym (signal_after_put e.seen c s);
    readable = λ f u. values_after_put d.seen c f ∙ h.readable f u ∙ sym (values_after_put e.seen c f);
    writable = λ f u. free_after_put d.seen c f ∙ ap (free_of c f) (h.writable f u) ∙ sym (free_after_put e.seen c f);
    kept = h.kept;
    own = effects_last d.effects (effect.Put c v) h.own t;
  }

  cells_same : (x : ℕ) (cells : List Value) → T (Writes x) → (d e : Doing) → SameDoing d e → SameDoing (with_cells x cells d) (with_cells x cells e)
  cells_same x cells t d e h = record {
    slots = h.slots;
    output = h.output;
    effects = h.effects;
    trigger = h.trigger;
    variables = record {
      count = length-set d.variables x cells ∙ h.variables.count ∙ sym (length-set e.variables x cells);
      read = λ y u. set_alike d.variables e.variables x y cells [] h.variables.count (h.variables.read y u);
      written = λ y u. set_alike d.variables e.variables x y cells [] h.variables.count (h.variables.written y u);
    };
    signals = h.signals;
    readable = h.readable;
    writable = h.writable;
    kept = λ y u. get_or-set_other d.variables x y cells [] (λ s. u (subst (λ z. T (Writes z)) (sym s) t)) ∙ h.kept y u;
    own = h.own;
  }

  -- ---- ends and choices

  module _ (r : Running) where
    pub ends_alike : (entry : SegmentEntry) (end : JobEnd) (d e : Doing) → SameDoing d e → Alike (ends entry end d) (ends entry end e)
    ends_alike entry end d e h = record {
      same = record { output = h.output; effects = h.effects; end = refl; next = ap (λ (s : List Value). let f : Frame = record { entry = entry; slots = s } in f) h.slots; variables = h.variables };
      kept = h.kept;
      own = h.own;
    }

    result_alike : {A : Type 0} (line : ℕ) (x y : Result A Fault) → x ≡ y → (d e : Doing) → SameDoing d e → (f g : A → Outcome Frame) → ((v : A) → Alike (f v) (g v)) → Alike (with_result r line d x f) (with_result r line e y g)
    result_alike line x y q d e h f g go = subst (λ z. Alike (with_result r line d x f) (with_result r line e z g)) q (at x)
      where
        at : (z : Result _ Fault) → Alike (with_result r line d z f) (with_result r line e z g)
        at (Ok v) = go v
        at (Err fault) = ends_alike r.entry (job.Faulted fault line) d e h

    index_alike : (line : ℕ) (x y : Option ℕ) → x ≡ y → (d e : Doing) → SameDoing d e → (f g : ℕ → Outcome Frame) → ((v : ℕ) → Alike (f v) (g v)) → Alike (with_index r line d x f) (with_index r line e y g)
    index_alike line x y q d e h f g go = subst (λ z. Alike (with_index r line d x f) (with_index r line e z g)) q (at x)
      where
        at : (z : Option ℕ) → Alike (with_index r line d z f) (with_index r line e z g)
        at (Some v) = go v
        at None = ends_alike r.entry (job.Faulted IndexRange line) d e h

    truth_alike : (v : Value) (a b c d : Outcome Frame) → Alike a b → Alike c d → Alike (by_truth v a c) (by_truth v b d)
    truth_alike v a b c d h k = at (truth_of v)
      where
        at : (t : Bool) → Alike (if t then a else c) (if t then b else d)
        at true = h
        at false = k

    first_alike : (x y : List Value) → x ≡ y → (a b : Outcome Frame) (f g : Value → Outcome Frame) → Alike a b → ((v : Value) → Alike (f v) (g v)) → Alike (with_first x a f) (with_first y b g)
    first_alike x y q a b f g h go = subst (λ z. Alike (with_first x a f) (with_first z b g)) q (at x)
      where
        at : (z : List Value) → Alike (with_first z a f) (with_first z b g)
        at [] = h
        at (v ∷ vs) = go v

    free_alike : (x y : ℕ) → x ≡ y → (a b c d : Outcome Frame) → Alike a b → Alike c d → Alike (if_free x a c) (if_free y b d)
    free_alike x y q a b c d h k = subst (λ z. Alike (if_free x a c) (if_free z b d)) q (at x)
      where
        at : (z : ℕ) → Alike (if_free z a c) (if_free z b d)
        at zero = h
        at (suc n) = k

    end_alike : (k : ProcessKind) (x y : Option WaitOn) → x ≡ y → (d e : Doing) → SameDoing d e → Alike (at_end r k x d) (at_end r k y e)
    end_alike k x y q d e h = subst (λ z. Alike (at_end r k x d) (at_end r k z e)) q (at k x)
      where
        at : (k : ProcessKind) (z : Option WaitOn) → Alike (at_end r k z d) (at_end r k z e)
        at Thread z = ends_alike r.entry job.Ended d e h
        at Method None = ends_alike Start _ d e h
        at Method (Some on) = ends_alike Start _ d e h

    -- ---- one node

    reading_same : (x : NodeExpr) → AllByRecursion T (reads_of x) → (d e : Doing) → SameDoing d e → reading_of x (sight_of d) ≡ reading_of x (sight_of e)
    reading_same x t d e h = same_reading T (sight_of d) (sight_of e) (sight_same d e h) x t

    time_same : (x : NodeTime) → AllByRecursion T (time_reads x) → (d e : Doing) → SameDoing d e → time_given x (sight_of d) ≡ time_given x (sight_of e)
    time_same (time.Fixed k) t d e h = refl
    time_same (time.Amount x scale) t d e h = ap (time_by scale) (reading_same x t d e h)

    wait_same : (x : Option NodeTime) → AllByRecursion T (wait_reads x) → (d e : Doing) → SameDoing d e → wait_time x (sight_of d) ≡ wait_time x (sight_of e)
    wait_same None t d e h = refl
    wait_same (Some x) t d e h = ap some_time (time_same x t d e h)

    -- what follows at a node is alike, wherever it is come to with the same
    abbrev pub GoesAlike : Next → ℕ → Type 0
    GoesAlike go m = (d e : Doing) → SameDoing d e → Alike (go m d) (go m e)

    module _ (events : List BoundEvent) (number line to : ℕ) (go : Next) where
      pub act_alike : (k : NodeKind) → AllByRecursion T (touched_by events k) → AllByRecursion (GoesAlike go) (leads_to k to) → (d e : Doing) → SameDoing d e → Alike (act r k number line to go d) (act r k number line to go e)
      act_alike (kind.Set n x) t l d e h =
          result_alike line _ _ (reading_same x t d e h) d e h _ _ (λ v. l.0 _ _ (slot_same n v d e h))
      act_alike (kind.Store x None y) t l d e h =
          result_alike line _ _ (reading_same y (first_part T (reads_of y) [] t.1) d e h) d e h _ _ (λ v.
          let q = ap (λ c. slice_set c 0 v) (h.variables.written x t.0) in
          subst (λ c. Alike (go to (with_cells x (slice_set (cells_of d.variables x) 0 v) d)) (go to (with_cells x c e))) q (l.0 _ _ (cells_same x _ t.0 d e h)))
      act_alike (kind.Store x (Some i) y) t l d e h =
          result_alike line _ _ (reading_same y (first_part T (reads_of y) (reads_of i) t.1) d e h) d e h _ _ (λ v.
          result_alike line _ _ (reading_same i (then_part T (reads_of y) (reads_of i) t.1) d e h) d e h _ _ (λ w.
          index_alike line _ _ (ap (λ c. index_in (length c) (number_of w)) (h.variables.written x t.0)) d e h _ _ (λ j.
          let q = ap (λ c. slice_set c j v) (h.variables.written x t.0) in
          subst (λ c. Alike (go to (with_cells x (slice_set (cells_of d.variables x) j v) d)) (go to (with_cells x c e))) q (l.0 _ _ (cells_same x _ t.0 d e h)))))
      act_alike (kind.Test x no_to) t l d e h =
          result_alike line _ _ (reading_same x t d e h) d e h _ _ (λ v. truth_alike v _ _ _ _ (l.0 d e h) (l.1.0 d e h))
      act_alike kind.Goto t l d e h = l.0 d e h
      act_alike (kind.PrintText text) t l d e h = l.0 _ _ (output_same text d e h)
      act_alike (kind.PrintValue x) t l d e h =
          result_alike line _ _ (reading_same x t d e h) d e h _ _ (λ v. l.0 _ _ (output_same (value_text v) d e h))
      act_alike kind.PrintTime t l d e h = l.0 _ _ (output_same (time_text r.stamp.time) d e h)
      act_alike (kind.Write c x) t l d e h =
          result_alike line _ _ (reading_same x (first_part T (reads_of x) _ t.1) d e h) d e h _ _ (λ v. l.0 _ _ (effect_same (effect.Request c v) t.0 d e h))
      act_alike (kind.TestAvailable c no_to) t l d e h =
          first_alike _ _ (h.readable c t.0) _ _ _ _ (l.1.0 d e h) (λ v. l.0 d e h)
      act_alike (kind.TestFree c no_to) t l d e h = free_alike _ _ (h.writable c t.0) _ _ _ _ (l.1.0 d e h) (l.0 d e h)
      act_alike (kind.Take c n) t l d e h =
          first_alike _ _ (h.readable c t.0) _ _ _ _ (l.0 d e h) (λ v. l.0 _ _ (take_same c n v t.0 d e h))
      act_alike (kind.Put c x) t l d e h =
          result_alike line _ _ (reading_same x (first_part T (reads_of x) _ t.1) d e h) d e h _ _ (λ v. l.0 _ _ (put_same c v t.0 d e h))
      act_alike (kind.Notify x k) t l d e h =
          result_alike line _ _ (time_same k t.1 d e h) d e h _ _ (λ v. l.0 _ _ (effect_same (effect.Notify x v) (constant_delay k, t.0) d e h))
      act_alike (kind.Cancel x) t l d e h = l.0 _ _ (effect_same (effect.Cancel x) t.0 d e h)
      act_alike kind.Stop t l d e h = l.0 _ _ (effect_same effect.Stop tt d e h)
      act_alike (kind.Trigger w) t l d e h =
          result_alike line _ _ (wait_same w.time t d e h) d e h _ _ (λ v. l.0 _ _ (trigger_same (wait_on w v) d e h))
      act_alike (kind.Wait w) t l d e h =
          result_alike line _ _ (wait_same w.time t d e h) d e h _ _ (λ v. ends_alike (After number) (job.Waits (wait_on w v)) d e h)
      act_alike kind.End t l d e h = end_alike r.process.kind d.trigger e.trigger h.trigger d e h
