-- An activation leaves as many variables as it saw.
use Rattle.std.proofs.Common.{◌≡◌, ℕ, zero, suc, List, [], ◌∷◌, length, Bool, true, false, if◌then◌else◌, Option, Some, None, Result, Ok, Err, refl, ◌∙◌}
use Rattle.std.specs.Prelude.{slice_get, slice_set}
use Rattle.std.proofs.lemmas.List.{length-set}
use Rattle.ooo_value.specs.declared.bound.ProcessKind.{ProcessKind}
use Rattle.ooo_value.specs.declared.bound.ProcessKind.TheVariants.{Thread, Method}
use Rattle.ooo_value.specs.declared.operators.Fault.{Fault}
use Rattle.ooo_value.specs.declared.values.Value.{Value}
use Rattle.ooo_value.specs.Values.{number_of, truth_of}
use Rattle.ooo_code.specs.declared.activation.Frame.{Frame}
use Rattle.ooo_code.specs.declared.activation.WaitOn.{WaitOn}
use Rattle.ooo_code.specs.declared.design.Design.{Design}
use Rattle.ooo_code.specs.declared.design.Proc.{Proc}
use Rattle.ooo_code.specs.declared.node.Node.{Node}
use Rattle.ooo_code.specs.declared.node.NodeKind.{NodeKind}
use Rattle.ooo_code.specs.declared.node.NodeKind.TheVariants as kind
use Rattle.ooo_code.specs.Expressions.{by_truth, cells_of, fifo_seen, index_in, reading_of, time_given}
use Rattle.ooo_code.specs.Nodes.{Doing, Next, Running, act, at_end, at_limit, at_node, between, by_nodes, doing_at, entry_node, if_free, pass, run_found, sight_of, steps, wait_time, with_cells, with_first, with_index, with_result}
use Rattle.ooo_code.specs.Outcomes.{Outcome, View}

module _ (n : ℕ) (r : Running) where
  abbrev Q : Outcome Frame → Type 0
  Q o = length o.deed.variables ≡ n

  abbrev Good : Doing → Type 0
  Good d = length d.variables ≡ n

  abbrev GoesGood : Next → Type 0
  GoesGood go = (m : ℕ) (d : Doing) → Good d → Q (go m d)

  result_good : {A : Type 0} (line : ℕ) (d : Doing) (x : Result A Fault) (f : A → Outcome Frame) → Good d → ((v : A) → Q (f v)) → Q (with_result r line d x f)
  result_good line d (Ok v) f g h = h v
  result_good line d (Err e) f g h = g

  index_good : (line : ℕ) (d : Doing) (x : Option ℕ) (f : ℕ → Outcome Frame) → Good d → ((i : ℕ) → Q (f i)) → Q (with_index r line d x f)
  index_good line d (Some i) f g h = h i
  index_good line d None f g h = g

  truth_good : (v : Value) (a b : Outcome Frame) → Q a → Q b → Q (by_truth v a b)
  truth_good v a b h k = at (truth_of v)
    where
      at : (t : Bool) → Q (if t then a else b)
      at true = h
      at false = k

  first_good : (xs : List Value) (a : Outcome Frame) (f : Value → Outcome Frame) → Q a → ((v : Value) → Q (f v)) → Q (with_first xs a f)
  first_good [] a f h k = h
  first_good (v ∷ vs) a f h k = k v

  free_good : (m : ℕ) (a b : Outcome Frame) → Q a → Q b → Q (if_free m a b)
  free_good zero a b h k = h
  free_good (suc m) a b h k = k

  end_good : (k : ProcessKind) (t : Option WaitOn) (d : Doing) → Good d → Q (at_end r k t d)
  end_good Thread t d g = g
  end_good Method None d g = g
  end_good Method (Some on) d g = g

  cells_good : (x : ℕ) (cells : List Value) (d : Doing) → Good d → Good (with_cells x cells d)
  cells_good x cells d g = length-set d.variables x cells ∙ g

  act_good : (k : NodeKind) (number line to : ℕ) (go : Next) → GoesGood go → (d : Doing) → Good d → Q (act r k number line to go d)
  act_good (kind.Set m x) number line to go h d g = result_good line d _ _ g (λ v. h to _ g)
  act_good (kind.Store x None y) number line to go h d g = result_good line d _ _ g (λ v. h to _ (cells_good x (slice_set (cells_of d.variables x) 0 v) d g))
  act_good (kind.Store x (Some i) y) number line to go h d g =
      result_good line d (reading_of y (sight_of d)) _ g (λ v.
      result_good line d (reading_of i (sight_of d)) _ g (λ w.
      let cells = cells_of d.variables x in
      index_good line d (index_in (length cells) (number_of w)) _ g (λ j. h to (with_cells x (slice_set cells j v) d) (cells_good x (slice_set cells j v) d g))))
  act_good (kind.Test x no_to) number line to go h d g = result_good line d (reading_of x (sight_of d)) _ g (λ v. truth_good v _ _ (h to d g) (h no_to d g))
  act_good kind.Goto number line to go h d g = h to d g
  act_good (kind.PrintText text) number line to go h d g = h to _ g
  act_good (kind.PrintValue x) number line to go h d g = result_good line d _ _ g (λ v. h to _ g)
  act_good kind.PrintTime number line to go h d g = h to _ g
  act_good (kind.Write c x) number line to go h d g = result_good line d _ _ g (λ v. h to _ g)
  act_good (kind.TestAvailable c no_to) number line to go h d g = first_good (fifo_seen d.seen c).values _ _ (h no_to d g) (λ v. h to d g)
  act_good (kind.TestFree c no_to) number line to go h d g = free_good (fifo_seen d.seen c).free _ _ (h no_to d g) (h to d g)
  act_good (kind.Take c m) number line to go h d g = first_good (fifo_seen d.seen c).values _ _ (h to d g) (λ v. h to _ g)
  act_good (kind.Put c x) number line to go h d g = result_good line d _ _ g (λ v. h to _ g)
  act_good (kind.Notify e u) number line to go h d g = result_good line d (time_given u (sight_of d)) _ g (λ k. h to _ g)
  act_good (kind.Cancel e) number line to go h d g = h to _ g
  act_good kind.Stop number line to go h d g = h to _ g
  act_good (kind.Trigger w) number line to go h d g = result_good line d (wait_time w.time (sight_of d)) _ g (λ k. h to _ g)
  act_good (kind.Wait w) number line to go h d g = result_good line d (wait_time w.time (sight_of d)) _ g (λ k. g)
  act_good kind.End number line to go h d g = end_good r.process.kind d.trigger d g

  module _ (nodes : List Node) where
    pass_good : (counted : Node → Next) → ((node : Node) → GoesGood (counted node)) → (m : ℕ) → GoesGood (pass nodes r counted m)
    pass_good counted c zero k d g = g
    pass_good counted c (suc m) k d g = at (slice_get nodes k) (pass_good counted c m)
      where
        choose : (node : Node) → GoesGood (pass nodes r counted m) → (t : Bool) → Q (if t then counted node k d else act r node.kind k node.line node.next (pass nodes r counted m) d)
        choose node all true = c node k d g
        choose node all false = act_good node.kind k node.line node.next (pass nodes r counted m) all d g

        at : (o : Option Node) → GoesGood (pass nodes r counted m) → Q (at_node r counted (pass nodes r counted m) o k d)
        at None all = g
        at (Some node) all = choose node all node.counts

    pub steps_good : (k : ℕ) → GoesGood (steps nodes r k)
    unfolding steps
    steps_good zero = pass_good (at_limit r) (λ node k d g. g) (between nodes)
    steps_good (suc k) =
        pass_good (λ node number d. act r node.kind number node.line node.next (steps nodes r k) d)
        (λ node number d g. act_good node.kind number node.line node.next (steps nodes r k) (steps_good k) d g) (between nodes)

pub variables_left : (design : Design) (statements p : ℕ) (frame : Frame) (v : View) → length (by_nodes design statements p frame v).deed.variables ≡ length v.variables
variables_left design statements p frame v = at (slice_get design.processes p)
  where
    at : (o : Option Proc) → length (run_found design statements o frame v).deed.variables ≡ length v.variables
    at None = refl
    at (Some process) =
        steps_good (length v.variables) (record { process = process; entry = frame.entry; stamp = v.stamp }) design.nodes statements (entry_node design process frame.entry) (doing_at frame v) refl
