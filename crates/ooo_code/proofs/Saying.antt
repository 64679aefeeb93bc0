-- An activation does and ends as the nodes of its segment say.
use Rattle.std.proofs.Common.{◌≡◌, ℕ, zero, suc, ◌==◌, List, [], ◌∷◌, ◌++◌, Bool, true, false, if◌then◌else◌, Option, Some, None, Result, Ok, Err, refl, sym, subst}
use Rattle.std.specs.Prelude.{slice_get, slice_set, length, ⊤}
use Rattle.std.specs.List.{AllByRecursion}
use Rattle.ooo_lemmas.proofs.Each.{each_contained}
use Rattle.ooo_time.specs.declared.time.Time.{Time}
use Rattle.ooo_time.specs.declared.stamp.Stamp.{Stamp}
use Rattle.ooo_value.specs.declared.bound.ProcessKind.{ProcessKind}
use Rattle.ooo_value.specs.declared.bound.ProcessKind.TheVariants.{Thread, Method}
use Rattle.ooo_value.specs.declared.operators.Fault.{Fault}
use Rattle.ooo_value.specs.declared.values.Value.{Value}
use Rattle.ooo_value.specs.Values.{number_of, truth_of}
use Rattle.ooo_code.specs.declared.activation.Effect.{Effect}
use Rattle.ooo_code.specs.declared.activation.Effect.TheVariants as effect
use Rattle.ooo_code.specs.declared.activation.Frame.{Frame}
use Rattle.ooo_code.specs.declared.activation.JobEnd.{JobEnd}
use Rattle.ooo_code.specs.declared.activation.JobEnd.TheVariants as job
use Rattle.ooo_code.specs.declared.activation.WaitOn.{WaitOn}
use Rattle.ooo_code.specs.declared.design.Design.{Design}
use Rattle.ooo_code.specs.declared.design.Proc.{Proc}
use Rattle.ooo_code.specs.declared.node.Node.{Node}
use Rattle.ooo_code.specs.declared.node.NodeKind.{NodeKind}
use Rattle.ooo_code.specs.declared.node.NodeKind.TheVariants as kind
use Rattle.ooo_code.specs.declared.node.NodeTime.{NodeTime}
use Rattle.ooo_code.specs.declared.node.NodeTime.TheVariants as time
use Rattle.ooo_code.specs.declared.segment.SegmentEntry.{SegmentEntry}
use Rattle.ooo_code.specs.declared.segment.SegmentEntry.TheVariants.{Start, After}
use Rattle.ooo_code.specs.Expressions.{Sight, fifo_seen, cells_of, index_in, by_truth, reading_of, time_given}
use Rattle.ooo_code.specs.Outcomes.{View, Outcome}
use Rattle.ooo_code.specs.Nodes.{Doing, Next, Running, sight_of, with_cells, with_effect, with_take, with_put, ends, with_result, with_index, with_first, if_free, some_time, wait_time, wait_on, at_end, act, at_node, pass, between, at_limit, steps, entry_node, doing_at, run_found, by_nodes}
use Rattle.ooo_code.specs.Touches.{constant_delay}
use Rattle.ooo_code.specs.Segments.{leads_to, Reaches, here, further}
use Rattle.ooo_code.specs.AsSaid.{IsAsSaid, IsTimeOf, Makes, IsMade, IsTriggered, behind, static, triggered, EndsAs, DoesAsSaid}

-- ---- times

time_said : (t : NodeTime) (s : Sight) (k : Time) → time_given t s ≡ Ok k → IsAsSaid k (constant_delay t)
time_said (time.Fixed t) s k e = at (t.0 == 0)
  where
    same : k ≡ t
    same = cc

    at : (b : Bool) → IsAsSaid k (if b then None else Some t)
    at true = tt
    at false = same
time_said (time.Amount x scale) s k e = tt

wait_said : (t : Option NodeTime) (s : Sight) (k : Option Time) → wait_time t s ≡ Ok k → IsTimeOf t k
wait_said None s None e = tt
wait_said None s (Some k) e = absurd cc
wait_said (Some t) s k e = at (time_given t s) refl e
  where
    at : (x : Result Time Fault) → time_given t s ≡ x → some_time x ≡ Ok k → IsTimeOf (Some t) k
    at (Ok u) h f = subst (IsTimeOf (Some t)) (is u f) (time_said t s u h)
      where
        is : (u : Time) → some_time (Ok u) ≡ Ok k → Some u ≡ k
        is u f = cc
    at (Err x) h f = absurd cc

more : (P : Effect → Type 0) (fs : List Effect) (f : Effect) → AllByRecursion P fs → P f → AllByRecursion P (fs ++ f ∷ [])
more P [] f h k = (k, tt)
more P (g ∷ fs) f h k = (h.0, more P fs f h.1 k)

module _ (design : Design) (process : Proc) (entry : SegmentEntry) (stamp : Stamp) where
  abbrev pub Made : Effect → Type 0
  Made = IsMade design process entry

  abbrev pub r : Running
  r = record { process = process; entry = entry; stamp = stamp }

  -- what a method named last is a next_trigger of the segment
  abbrev pub Named : Option WaitOn → Type 0
  Named None = ⊤
  Named (Some on) = IsTriggered design process entry on

  pub record Good (d : Doing) : Type 0 where
    pub effects : AllByRecursion Made d.effects
    pub trigger : Named d.trigger

  abbrev pub Q : Outcome Frame → Type 0
  Q o = DoesAsSaid design process entry o

  ends_good : (e : SegmentEntry) (end : JobEnd) (d : Doing) → Good d → EndsAs design process entry end e → Q (ends e end d)
  ends_good e end d g h = record { effects = g.effects; end = h }

  result_good : {A : Type 0} (line : ℕ) (d : Doing) (x : Result A Fault) (f : A → Outcome Frame) → Good d → ((v : A) → x ≡ Ok v → Q (f v)) → Q (with_result r line d x f)
  result_good line d (Ok v) f g h = h v refl
  result_good line d (Err e) f g h = ends_good entry (job.Faulted e line) d g tt

  index_good : (line : ℕ) (d : Doing) (x : Option ℕ) (f : ℕ → Outcome Frame) → Good d → ((i : ℕ) → Q (f i)) → Q (with_index r line d x f)
  index_good line d (Some i) f g h = h i
  index_good line d None f g h = ends_good entry _ d g tt

  truth_good : (v : Value) (a b : Outcome Frame) → Q a → Q b → Q (by_truth v a b)
  truth_good v a b h k = at (truth_of v)
    where
      at : (t : Bool) → Q (if t then a else b)
      at true = h
      at false = k

  first_good : (xs : List Value) (a : Outcome Frame) (f : Value → Outcome Frame) → Q a → ((v : Value) → Q (f v)) → Q (with_first xs a f)
  first_good [] a f h k = h
  first_good (v ∷ vs) a f h k = k v

  free_good : (n : ℕ) (a b : Outcome Frame) → Q a → Q b → Q (if_free n a b)
  free_good zero a b h k = h
  free_good (suc n) a b h k = k

  abbrev pub GoesGood : Next → ℕ → Type 0
  GoesGood go n = (d : Doing) → Good d → Q (go n d)

  same_but : (d e : Doing) → e.effects ≡ d.effects → e.trigger ≡ d.trigger → Good d → Good e
  same_but d e h k g = record { effects = subst (AllByRecursion Made) (sym h) g.effects; trigger = subst Named (sym k) g.trigger }

  effect_good : (f : Effect) (d : Doing) → Made f → Good d → Good (with_effect f d)
  effect_good f d h g = record { effects = more Made d.effects f g.effects h; trigger = g.trigger }

  end_good : (k : ProcessKind) (t : Option WaitOn) (d : Doing) → process.kind ≡ k → Named t → Good d → Q (at_end r k t d)
  end_good Thread t d h n g = ends_good entry job.Ended d g tt
  end_good Method None d h n g = ends_good Start _ d g (static h)
  end_good Method (Some on) d h n g = ends_good Start (job.Waits on) d g (triggered on h n)

  act_good :
      (go : Next) (number line next : ℕ) (node : Node) → Reaches design.nodes (entry_node design process entry) number → slice_get design.nodes number ≡ Some node →
      (k : NodeKind) → node.kind ≡ k → AllByRecursion (GoesGood go) (leads_to k next) →
      (d : Doing) → Good d → Q (act r k number line next go d)
  act_good go number line next node within is (kind.Set n x) s h d g = result_good line d _ _ g (λ v e. h.0 _ (same_but d _ refl refl g))
  act_good go number line next node within is (kind.Store x None y) s h d g = result_good line d _ _ g (λ v e. h.0 _ (same_but d _ refl refl g))
  act_good go number line next node within is (kind.Store x (Some i) y) s h d g =
      result_good line d (reading_of y (sight_of d)) _ g (λ v e.
      result_good line d (reading_of i (sight_of d)) _ g (λ w f.
      let cells = cells_of d.variables x in
      index_good line d (index_in (length cells) (number_of w)) _ g (λ j. h.0 (with_cells x (slice_set cells j v) d) (same_but d _ refl refl g))))
  act_good go number line next node within is (kind.Test x no_to) s h d g = result_good line d (reading_of x (sight_of d)) _ g (λ v e. truth_good v _ _ (h.0 d g) (h.1.0 d g))
  act_good go number line next node within is kind.Goto s h d g = h.0 d g
  act_good go number line next node within is (kind.PrintText text) s h d g = h.0 _ (same_but d _ refl refl g)
  act_good go number line next node within is (kind.PrintValue x) s h d g = result_good line d _ _ g (λ v e. h.0 _ (same_but d _ refl refl g))
  act_good go number line next node within is kind.PrintTime s h d g = h.0 _ (same_but d _ refl refl g)
  act_good go number line next node within is (kind.Write c x) s h d g = result_good line d _ _ g (λ v e. h.0 _ (effect_good (effect.Request c v) d (record { number = number; node = node; within = within; is = is; makes = subst (λ m. Makes m (effect.Request c v)) (sym s) refl }) g))
  act_good go number line next node within is (kind.TestAvailable c no_to) s h d g = first_good (fifo_seen d.seen c).values _ _ (h.1.0 d g) (λ v. h.0 d g)
  act_good go number line next node within is (kind.TestFree c no_to) s h d g = free_good (fifo_seen d.seen c).free _ _ (h.1.0 d g) (h.0 d g)
  act_good go number line next node within is (kind.Take c n) s h d g =
      first_good (fifo_seen d.seen c).values _ _ (h.0 d g) (λ v. h.0 (with_take c n v d) (same_but (with_effect (effect.Take c) d) _ refl refl (effect_good (effect.Take c) d (record { number = number; node = node; within = within; is = is; makes = subst (λ m. Makes m (effect.Take c)) (sym s) refl }) g)))
  act_good go number line next node within is (kind.Put c x) s h d g =
      result_good line d _ _ g (λ v e. h.0 (with_put c v d) (same_but (with_effect (effect.Put c v) d) _ refl refl (effect_good (effect.Put c v) d (record { number = number; node = node; within = within; is = is; makes = subst (λ m. Makes m (effect.Put c v)) (sym s) refl }) g)))
  act_good go number line next node within is (kind.Notify e u) s h d g =
      result_good line d (time_given u (sight_of d)) _ g (λ k f. h.0 _ (effect_good (effect.Notify e k) d (record { number = number; node = node; within = within; is = is; makes = subst (λ m. Makes m (effect.Notify e k)) (sym s) (refl, time_said u (sight_of d) k f) }) g))
  act_good go number line next node within is (kind.Cancel e) s h d g = h.0 _ (effect_good (effect.Cancel e) d (record { number = number; node = node; within = within; is = is; makes = subst (λ m. Makes m (effect.Cancel e)) (sym s) refl }) g)
  act_good go number line next node within is kind.Stop s h d g = h.0 _ (effect_good effect.Stop d (record { number = number; node = node; within = within; is = is; makes = subst (λ m. Makes m (effect.Stop)) (sym s) tt }) g)
  act_good go number line next node within is (kind.Trigger w) s h d g =
      result_good line d (wait_time w.time (sight_of d)) _ g (λ k f.
      h.0 (record d { trigger = Some (wait_on w k) })
      (record { effects = g.effects; trigger = record { number = number; node = node; wait = w; within = within; is = is; kind_is = s; time = wait_said w.time (sight_of d) k f; events = refl } }))
  act_good go number line next node within is (kind.Wait w) s h d g =
      result_good line d (wait_time w.time (sight_of d)) _ g (λ k f.
      ends_good (After number) (job.Waits (wait_on w k)) d g
      (behind number (wait_on w k) (record { node = node; wait = w; within = within; is = is; kind_is = s; time = wait_said w.time (sight_of d) k f; events = refl })))
  act_good go number line next node within is kind.End s h d g = end_good process.kind d.trigger d refl g.trigger g

  abbrev pub start : ℕ
  start = entry_node design process entry

  abbrev pub AllGood : Next → Type 0
  AllGood go = (n : ℕ) → Reaches design.nodes start n → GoesGood go n

  node_good : (go : Next) → AllGood go → (n : ℕ) (node : Node) → Reaches design.nodes start n → slice_get design.nodes n ≡ Some node → (d : Doing) → Good d → Q (act r node.kind n node.line node.next go d)
  node_good go all n node within is d g =
      act_good go n node.line node.next node within is node.kind refl
      (each_contained (GoesGood go) (leads_to node.kind node.next) (λ m c. all m (further within is c))) d g

  abbrev AtNode : (Node → Next) → Type 0
  AtNode counted = (n : ℕ) (node : Node) → Reaches design.nodes start n → slice_get design.nodes n ≡ Some node → (d : Doing) → Good d → Q (counted node n d)

  pass_good : (counted : Node → Next) → AtNode counted → (m : ℕ) → AllGood (pass design.nodes r counted m)
  pass_good counted c zero n within d g = ends_good entry job.Ended d g tt
  pass_good counted c (suc m) n within d g = at (slice_get design.nodes n) refl (pass_good counted c m)
    where
      choose : (node : Node) → slice_get design.nodes n ≡ Some node → AllGood (pass design.nodes r counted m) → (t : Bool) → Q (if t then counted node n d else act r node.kind n node.line node.next (pass design.nodes r counted m) d)
      choose node is all true = c n node within is d g
      choose node is all false = node_good (pass design.nodes r counted m) all n node within is d g

      at : (o : Option Node) → slice_get design.nodes n ≡ o → AllGood (pass design.nodes r counted m) → Q (at_node r counted (pass design.nodes r counted m) o n d)
      at None is all = ends_good entry job.Ended d g tt
      at (Some node) is all = choose node is all node.counts

  pub steps_good : (k : ℕ) → AllGood (steps design.nodes r k)
  unfolding steps
  steps_good zero = pass_good (at_limit r) (λ n node within is d g. ends_good entry (job.Limit node.line) d g tt) (between design.nodes)
  steps_good (suc k) =
      pass_good (λ node number d. act r node.kind number node.line node.next (steps design.nodes r k) d)
      (λ n node within is d g. node_good (steps design.nodes r k) (steps_good k) n node within is d g) (between design.nodes)

pub does_as_said : (design : Design) (statements p : ℕ) (process : Proc) (frame : Frame) (v : View) → slice_get design.processes p ≡ Some process → DoesAsSaid design process frame.entry (by_nodes design statements p frame v)
does_as_said design statements p process frame v is =
    subst (λ o. DoesAsSaid design process frame.entry (run_found design statements o frame v)) (sym is)
    (steps_good design process frame.entry v.stamp statements (entry_node design process frame.entry) here (doing_at frame v) (record { effects = tt; trigger = tt }))
