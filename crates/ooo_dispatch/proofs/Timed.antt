-- In a sound design the times after which an activation notifies, and that of its wait, are at most the greatest time.
use Rattle.std.proofs.Common.{ℕ, zero, suc, List, [], ◌∷◌, ◌++◌, length, Bool, true, false, if◌then◌else◌, Option, Some, None, Result, Ok, Err, ◌≡◌, refl, sym, subst, arith, ◌⊎◌, inl, inr, ⊎_elim}
use Rattle.std.proofs.lemmas.List.Elements.{All-contains}
use Rattle.std.specs.Prelude.{⊤, slice_set, slice_get, Contains, IfSome, IfOk}
use Rattle.ooo_time.specs.declared.time.Time.{Time}
use Rattle.ooo_value.specs.declared.bound.ProcessKind.{ProcessKind}
use Rattle.ooo_value.specs.declared.bound.ProcessKind.TheVariants.{Thread, Method}
use Rattle.ooo_value.specs.declared.operators.Fault.{Fault}
use Rattle.ooo_value.specs.declared.values.Value.{Value}
use Rattle.ooo_value.specs.Values.{number_of, truth_of}
use Rattle.ooo_code.specs.declared.activation.Effect.{Effect}
use Rattle.ooo_code.specs.declared.activation.Effect.TheVariants as effect
use Rattle.ooo_code.specs.declared.activation.Frame.{Frame}
use Rattle.ooo_code.specs.declared.activation.JobEnd.{JobEnd}
use Rattle.ooo_code.specs.declared.activation.JobEnd.TheVariants as job
use Rattle.ooo_code.specs.declared.activation.Seen.{Seen}
use Rattle.ooo_code.specs.declared.activation.WaitOn.{WaitOn}
use Rattle.ooo_code.specs.declared.design.Design.{Design}
use Rattle.ooo_code.specs.declared.design.Proc.{Proc}
use Rattle.ooo_code.specs.declared.node.Node.{Node}
use Rattle.ooo_code.specs.declared.node.NodeKind.{NodeKind}
use Rattle.ooo_code.specs.declared.node.NodeKind.TheVariants as kind
use Rattle.ooo_code.specs.declared.node.NodeTime.{NodeTime}
use Rattle.ooo_code.specs.Outcomes.{Outcome, View}
use Rattle.ooo_code.specs.Expressions.{Sight, cells_of, fifo_seen, index_in, by_truth, reading_of, time_given}
use Rattle.ooo_code.specs.Nodes.{Doing, sight_of, with_cells, with_effect, with_take, with_put, some_time, wait_time, Next, Running, with_result, with_index, at_end, with_first, if_free, act, at_node, pass, between, at_limit, steps, entry_node, doing_at, run_found, by_nodes}
use Rattle.ooo_code.specs.Segments.{leads_to, IsNodeOf, entries_of, followers}
use Rattle.ooo_code.specs.Sound.{Scope, FitsNode, FitsTime, FitsProcessNode, FitsProcess, scope_of}
use Rattle.ooo_schedules.specs.Model.{In}
use Rattle.ooo_dispatch.proofs.Own.{entry_own}
use Rattle.ooo_dispatch.proofs.Placing.{IsGiven, time_fits}

-- each of these notifies after a time that is at most the greatest one
abbrev pub AreGiven : List Effect → Type 0
AreGiven fs = (e : ℕ) (k : Time) → In (effect.Notify e k) fs → IsGiven k

-- what is waited for has no greater time
abbrev pub IsGivenWait : Option WaitOn → Type 0
IsGivenWait o = IfSome o (λ on. IfSome on.time IsGiven)

abbrev pub IsGivenEnd : JobEnd → Type 0
IsGivenEnd (job.Waits on) = IfSome on.time IsGiven
IsGivenEnd _ = ⊤

pub record IsTimed (o : Outcome Frame) : Type 0 where
  pub effects : AreGiven o.deed.effects
  pub end : IsGivenEnd o.deed.end

-- ---- one more effect

in_last : (fs : List Effect) (f g : Effect) → In g (fs ++ f ∷ []) → (g ≡ f) ⊎ In g fs
in_last [] f g (inl e) = inl e
in_last [] f g (inr i) = absurd i
in_last (h ∷ fs) f g (inl e) = inr (inl e)
in_last (h ∷ fs) f g (inr i) = ⊎_elim (λ e. inl e) (λ j. inr (inr j)) (in_last fs f g i)

-- the effect is a notification after such a time, or none
abbrev IsGivenEffect : Effect → Type 0
IsGivenEffect (effect.Notify e k) = IsGiven k
IsGivenEffect _ = ⊤

given_last : (fs : List Effect) (f : Effect) → AreGiven fs → IsGivenEffect f → AreGiven (fs ++ f ∷ [])
given_last fs f h g e k i = ⊎_elim (λ same. subst IsGivenEffect (sym same) g) (λ j. h e k j) (in_last fs f (effect.Notify e k) i)

-- ---- what is done so far

record IsFine (d : Doing) : Type 0 where
  effects : AreGiven d.effects
  trigger : IsGivenWait d.trigger

-- what isn't of times
plain_fine : (d : Doing) (slots : List Value) (variables : List (List Value)) (seen : List Seen) (output : List ℕ) → IsFine d → IsFine (record d { slots = slots; variables = variables; seen = seen; output = output })
plain_fine d slots variables seen output h = record { effects = h.effects; trigger = h.trigger }

effect_fine : (f : Effect) (d : Doing) (seen : List Seen) (slots : List Value) → IsFine d → IsGivenEffect f → IsFine (record (with_effect f d) { seen = seen; slots = slots })
effect_fine f d seen slots h g = record { effects = given_last d.effects f h.effects g; trigger = h.trigger }

wait_fits : (names : Scope) (t : Option NodeTime) → IfSome t (FitsTime names) → (s : Sight) → IfOk (wait_time t s) (λ o. IfSome o IsGiven)
wait_fits names None h s = tt
wait_fits names (Some t) h s = at (time_given t s) (time_fits names t h s)
  where
    at : (x : Result Time Fault) → IfOk x IsGiven → IfOk (some_time x) (λ o. IfSome o IsGiven)
    at (Ok k) g = g
    at (Err f) g = tt

-- ---- one node

module _ (r : Running) where
  result_timed : {A : Type 0} (line : ℕ) (x : Result A Fault) (d : Doing) → IsFine d → (P : A → Type 0) → IfOk x P → (f : A → Outcome Frame) → ((v : A) → P v → IsTimed (f v)) → IsTimed (with_result r line d x f)
  result_timed line (Ok v) d h P p f go = go v p
  result_timed line (Err fault) d h P p f go = record { effects = h.effects; end = tt }

  any_timed : {A : Type 0} (line : ℕ) (x : Result A Fault) (d : Doing) → IsFine d → (f : A → Outcome Frame) → ((v : A) → IsTimed (f v)) → IsTimed (with_result r line d x f)
  any_timed line (Ok v) d h f go = go v
  any_timed line (Err fault) d h f go = record { effects = h.effects; end = tt }

  index_timed : (line : ℕ) (x : Option ℕ) (d : Doing) → IsFine d → (f : ℕ → Outcome Frame) → ((v : ℕ) → IsTimed (f v)) → IsTimed (with_index r line d x f)
  index_timed line (Some i) d h f go = go i
  index_timed line None d h f go = record { effects = h.effects; end = tt }

  truth_timed : (v : Value) (a b : Outcome Frame) → IsTimed a → IsTimed b → IsTimed (by_truth v a b)
  truth_timed v a b h k = go (truth_of v)
    where
      go : (t : Bool) → IsTimed (if t then a else b)
      go true = h
      go false = k

  first_timed : (xs : List Value) (none : Outcome Frame) (f : Value → Outcome Frame) → IsTimed none → ((v : Value) → IsTimed (f v)) → IsTimed (with_first xs none f)
  first_timed [] none f h go = h
  first_timed (v ∷ vs) none f h go = go v

  free_timed : (n : ℕ) (none some : Outcome Frame) → IsTimed none → IsTimed some → IsTimed (if_free n none some)
  free_timed zero none some h go = h
  free_timed (suc n) none some h go = go

  end_timed : (k : ProcessKind) (trigger : Option WaitOn) (d : Doing) → IsFine d → IsGivenWait trigger → IsTimed (at_end r k trigger d)
  end_timed Thread trigger d h g = record { effects = h.effects; end = tt }
  end_timed Method None d h g = record { effects = h.effects; end = tt }
  end_timed Method (Some on) d h g = record { effects = h.effects; end = g }

  module _ (design : Design) (names : Scope) (number line to : ℕ) (go : Next) where
    -- a node that fits, and is followed by what is fine
    record Leads (k : NodeKind) : Type 0 where
      fits : FitsNode names design.events k
      follow : (m : ℕ) → Contains (leads_to k to) m → (d : Doing) → IsFine d → IsTimed (go m d)

    first : (xs : List ℕ) (m : ℕ) → Contains (m ∷ xs) m
    first xs m = (0, omega arith, refl)

    second : (m n : ℕ) → Contains (m ∷ n ∷ []) n
    second m n = (1, omega arith, refl)

    act_timed : (k : NodeKind) → Leads k → (d : Doing) → IsFine d → IsTimed (act r k number line to go d)
    act_timed (kind.Set n x) l d h = any_timed line _ d h _ (λ v. l.follow to (first [] to) _ (plain_fine d _ _ _ _ h))
    act_timed (kind.Store x None y) l d h = any_timed line _ d h _ (λ v. l.follow to (first [] to) _ (plain_fine d _ _ _ _ h))
    act_timed (kind.Store x (Some i) y) l d h =
        any_timed line (reading_of y (sight_of d)) d h _ (λ v. any_timed line (reading_of i (sight_of d)) d h _ (λ w. index_timed line (index_in (length (cells_of d.variables x)) (number_of w)) d h _ (λ j.
        l.follow to (first [] to) (with_cells x (slice_set (cells_of d.variables x) j v) d) (plain_fine d d.slots (slice_set d.variables x (slice_set (cells_of d.variables x) j v)) d.seen d.output h))))
    act_timed (kind.Test x no_to) l d h =
        any_timed line (reading_of x (sight_of d)) d h _ (λ v. truth_timed v (go to d) (go no_to d) (l.follow to (first (no_to ∷ []) to) d h) (l.follow no_to (second to no_to) d h))
    act_timed kind.Goto l d h = l.follow to (first [] to) d h
    act_timed (kind.PrintText text) l d h = l.follow to (first [] to) _ (plain_fine d _ _ _ _ h)
    act_timed (kind.PrintValue x) l d h = any_timed line _ d h _ (λ v. l.follow to (first [] to) _ (plain_fine d _ _ _ _ h))
    act_timed kind.PrintTime l d h = l.follow to (first [] to) _ (plain_fine d _ _ _ _ h)
    act_timed (kind.Write c x) l d h = any_timed line _ d h _ (λ v. l.follow to (first [] to) _ (effect_fine (effect.Request c v) d d.seen d.slots h tt))
    act_timed (kind.TestAvailable c no_to) l d h = first_timed _ _ _ (l.follow no_to (second to no_to) d h) (λ v. l.follow to (first (no_to ∷ []) to) d h)
    act_timed (kind.TestFree c no_to) l d h = free_timed (fifo_seen d.seen c).free _ _ (l.follow no_to (second to no_to) d h) (l.follow to (first (no_to ∷ []) to) d h)
    act_timed (kind.Take c n) l d h = first_timed _ _ _ (l.follow to (first [] to) d h) (λ v. l.follow to (first [] to) (with_take c n v d) (effect_fine (effect.Take c) d _ _ h tt))
    act_timed (kind.Put c x) l d h = any_timed line _ d h _ (λ v. l.follow to (first [] to) (with_put c v d) (effect_fine (effect.Put c v) d _ d.slots h tt))
    act_timed (kind.Notify e k) l d h =
        result_timed line _ d h IsGiven (time_fits names k l.fits.1 (sight_of d)) _ (λ v given. l.follow to (first [] to) _ (effect_fine (effect.Notify e v) d d.seen d.slots h given))
    act_timed (kind.Cancel e) l d h = l.follow to (first [] to) _ (effect_fine (effect.Cancel e) d d.seen d.slots h tt)
    act_timed kind.Stop l d h = l.follow to (first [] to) _ (effect_fine effect.Stop d d.seen d.slots h tt)
    act_timed (kind.Trigger w) l d h =
        result_timed line _ d h (λ o. IfSome o IsGiven) (wait_fits names w.time l.fits.time (sight_of d)) _ (λ o given. l.follow to (first [] to) _ (record { effects = h.effects; trigger = given }))
    act_timed (kind.Wait w) l d h =
        result_timed line _ d h (λ o. IfSome o IsGiven) (wait_fits names w.time l.fits.time (sight_of d)) _ (λ o given. record { effects = h.effects; end = given })
    act_timed kind.End l d h = end_timed r.process.kind d.trigger d h h.trigger

  -- ---- many nodes

  module _ (design : Design) (process : Proc) (fits : FitsProcess design process) where
    abbrev AllTimed : Next → Type 0
    AllTimed go = (m : ℕ) → IsNodeOf process m → (d : Doing) → IsFine d → IsTimed (go m d)

    leads_on : (k : NodeKind) (n m : ℕ) → Contains (leads_to k n) m → Contains (if (elim k [ kind.Wait w ↦ true | _ ↦ false ]) then n ∷ [] else leads_to k n) m
    leads_on (kind.Wait w) n m c = absurd (let l = c.1 in omega (arith, l))
    leads_on k n m c = c

    node_timed : (go : Next) → AllTimed go → (n : ℕ) (node : Node) → IsNodeOf process n → slice_get design.nodes n ≡ Some node → (d : Doing) → IsFine d → IsTimed (act r node.kind n node.line node.next go d)
    node_timed go all n node mine is d h =
        let f : FitsProcessNode design process n node = fits.nodes n node mine is in
        act_timed design (scope_of design process) n node.line node.next go node.kind
        (record { fits = f.names; follow = λ m c d h. all m (All-contains (IsNodeOf process) (followers node) m f.own (leads_on node.kind node.next m c)) d h }) d h

    AtNode : (Node → Next) → Type 0
    AtNode counted = (n : ℕ) (node : Node) → IsNodeOf process n → slice_get design.nodes n ≡ Some node → (d : Doing) → IsFine d → IsTimed (counted node n d)

    pass_timed : (counted : Node → Next) → AtNode counted → (m : ℕ) → AllTimed (pass design.nodes r counted m)
    unfolding AtNode
    pass_timed counted c zero n mine d h = record { effects = h.effects; end = tt }
    pass_timed counted c (suc m) n mine d h = by (slice_get design.nodes n) refl (pass_timed counted c m)
      where
        choose : (node : Node) → slice_get design.nodes n ≡ Some node → AllTimed (pass design.nodes r counted m) → (t : Bool) → IsTimed (if t then counted node n d else act r node.kind n node.line node.next (pass design.nodes r counted m) d)
        choose node is all true = c n node mine is d h
        choose node is all false = node_timed (pass design.nodes r counted m) all n node mine is d h

        by : (o : Option Node) → slice_get design.nodes n ≡ o → AllTimed (pass design.nodes r counted m) → IsTimed (at_node r counted (pass design.nodes r counted m) o n d)
        by None is all = record { effects = h.effects; end = tt }
        by (Some node) is all = choose node is all node.counts

    steps_timed : (k : ℕ) → AllTimed (steps design.nodes r k)
    unfolding steps AtNode
    steps_timed zero = pass_timed (at_limit r) (λ n node mine is d h. record { effects = h.effects; end = tt }) (between design.nodes)
    steps_timed (suc k) =
        pass_timed (λ node number d. act r node.kind number node.line node.next (steps design.nodes r k) d)
        (λ n node mine is d h. node_timed (steps design.nodes r k) (steps_timed k) n node mine is d h) (between design.nodes)

-- an activation of a process of a sound design
pub all_timed : (design : Design) (process : Proc) (p statements : ℕ) (frame : Frame) (v : View) → FitsProcess design process → slice_get design.processes p ≡ Some process → In frame.entry (entries_of design process) →
    IsTimed (by_nodes design statements p frame v)
all_timed design process p statements frame v fits is enters =
    subst (λ o. IsTimed (run_found design statements o frame v)) (sym is)
    (steps_timed (record { process = process; entry = frame.entry; stamp = v.stamp }) design process fits statements (entry_node design process frame.entry) (entry_own design process fits frame.entry enters) (doing_at frame v)
    (record { effects = λ e k i. absurd i; trigger = tt }))
