-- An activation of a process depends on what its segment touches alone, and changes nothing else.
use Rattle.std.proofs.Common.{◌≡◌, ℕ, zero, suc, List, Bool, true, false, if◌then◌else◌, Option, Some, None, refl, sym, subst}
use Rattle.std.specs.Prelude.{slice_get}
use Rattle.std.specs.List.{AllByRecursion}
use Rattle.ooo_lemmas.proofs.Each.{each_contained}
use Rattle.ooo_value.specs.declared.values.Value.{Value}
use Rattle.ooo_code.specs.declared.activation.Frame.{Frame}
use Rattle.ooo_code.specs.declared.activation.JobEnd.TheVariants as job
use Rattle.ooo_code.specs.declared.design.Design.{Design}
use Rattle.ooo_code.specs.declared.design.Proc.{Proc}
use Rattle.ooo_code.specs.declared.node.Node.{Node}
use Rattle.ooo_code.specs.declared.segment.SegmentEntry.{SegmentEntry}
use Rattle.ooo_code.specs.Outcomes.{View}
use Rattle.ooo_code.specs.Nodes.{Doing, Next, Running, act, at_node, pass, between, at_limit, steps, entry_node, doing_at, run_process, run_found, by_nodes}
use Rattle.ooo_code.specs.Touches.{Touch, touched_by}
use Rattle.ooo_code.specs.Segments.{leads_to, Reaches, here, further, Accesses}
use Rattle.ooo_code.specs.Dependence.{AgreeOn, DidTheSame, TouchesOnly}
use Rattle.ooo_code.proofs.Frames.{SameDoing, Alike, ends_alike, GoesAlike, act_alike}

module _ (design : Design) (process : Proc) (entry : SegmentEntry) (first : List (List Value)) where
  abbrev pub T : Touch → Type 0
  T = Accesses design process entry

  abbrev pub start : ℕ
  start = entry_node design process entry

  -- the nodes of the segment touch what it touches
  touches : (n : ℕ) (node : Node) → Reaches design.nodes start n → slice_get design.nodes n ≡ Some node → AllByRecursion T (touched_by design.events node.kind)
  touches n node within is = each_contained T (touched_by design.events node.kind) (λ t c. record { number = n; node = node; within = within; is = is; touches = c })

  module _ (r : Running) where
    -- what follows at each node of the segment is alike
    abbrev pub AllAlike : Next → Type 0
    AllAlike go = (n : ℕ) → Reaches design.nodes start n → (d e : Doing) → SameDoing T first d e → Alike T first (go n d) (go n e)

    -- so is one node of the segment
    node_alike : (go : Next) → AllAlike go → (n : ℕ) (node : Node) → Reaches design.nodes start n → slice_get design.nodes n ≡ Some node → (d e : Doing) → SameDoing T first d e → Alike T first (act r node.kind n node.line node.next go d) (act r node.kind n node.line node.next go e)
    node_alike go all n node within is d e h =
        act_alike T first r design.events n node.line node.next go node.kind (touches n node within is)
        (each_contained (GoesAlike T first r go) (leads_to node.kind node.next) (λ m c. all m (further within is c))) d e h

    AtNode : (Node → Next) → Type 0
    AtNode counted = (n : ℕ) (node : Node) → Reaches design.nodes start n → slice_get design.nodes n ≡ Some node → (d e : Doing) → SameDoing T first d e → Alike T first (counted node n d) (counted node n e)

    pass_alike : (counted : Node → Next) → AtNode counted → (m : ℕ) → AllAlike (pass design.nodes r counted m)
    unfolding AtNode
    pass_alike counted c zero n within d e h = ends_alike T first r r.entry job.Ended d e h
    pass_alike counted c (suc m) n within d e h = at (slice_get design.nodes n) refl (pass_alike counted c m)
      where
        choose : (node : Node) → slice_get design.nodes n ≡ Some node → AllAlike (pass design.nodes r counted m) → (t : Bool) → Alike T first (if t then counted node n d else act r node.kind n node.line node.next (pass design.nodes r counted m) d) (if t then counted node n e else act r node.kind n node.line node.next (pass design.nodes r counted m) e)
        choose node is all true = c n node within is d e h
        choose node is all false = node_alike (pass design.nodes r counted m) all n node within is d e h

        at : (o : Option Node) → slice_get design.nodes n ≡ o → AllAlike (pass design.nodes r counted m) → Alike T first (at_node r counted (pass design.nodes r counted m) o n d) (at_node r counted (pass design.nodes r counted m) o n e)
        at None is all = ends_alike T first r r.entry job.Ended d e h
        at (Some node) is all = choose node is all node.counts

    pub steps_alike : (k : ℕ) → AllAlike (steps design.nodes r k)
    unfolding steps AtNode
    steps_alike zero = pass_alike (at_limit r) (λ n node within is d e h. ends_alike T first r r.entry (job.Limit node.line) d e h) (between design.nodes)
    steps_alike (suc k) =
        pass_alike (λ node number d. act r node.kind number node.line node.next (steps design.nodes r k) d)
        (λ n node within is d e h. node_alike (steps design.nodes r k) (steps_alike k) n node within is d e h) (between design.nodes)

-- the two as they begin
begins : (design : Design) (process : Proc) (frame : Frame) (v w : View) → AgreeOn (Accesses design process frame.entry) v w → SameDoing (Accesses design process frame.entry) v.variables (doing_at frame v) (doing_at frame w)
begins design process frame v w h = record {
  slots = refl;
  output = refl;
  effects = refl;
  trigger = refl;
  variables = h.variables;
  signals = h.signals;
  readable = h.readable;
  writable = h.writable;
  kept = λ x t. refl;
  own = tt;
}

process_alike : (design : Design) (statements : ℕ) (process : Proc) (frame : Frame) (v w : View) → AgreeOn (Accesses design process frame.entry) v w → Alike (Accesses design process frame.entry) v.variables (run_process design statements process frame v) (run_process design statements process frame w)
process_alike design statements process frame v w h =
    let r : Running = record { process = process; entry = frame.entry; stamp = v.stamp } in
    let n = entry_node design process frame.entry in
    let same = steps_alike design process frame.entry v.variables r statements n here (doing_at frame v) (doing_at frame w) (begins design process frame v w h) in
    subst (λ s. Alike (Accesses design process frame.entry) v.variables (steps design.nodes r statements n (doing_at frame v)) (steps design.nodes (record { process = process; entry = frame.entry; stamp = s }) statements n (doing_at frame w))) h.stamp same

agrees_with_itself : (T : Touch → Type 0) (v : View) → AgreeOn T v v
agrees_with_itself T v = record {
  stamp = refl;
  variables = record { count = refl; read = λ x t. refl; written = λ x t. refl };
  signals = λ c t. refl;
  readable = λ c t. refl;
  writable = λ c t. refl;
}

pub same_on_touched : (design : Design) (statements p : ℕ) (process : Proc) (frame : Frame) (v w : View) → slice_get design.processes p ≡ Some process → AgreeOn (Accesses design process frame.entry) v w → DidTheSame (Accesses design process frame.entry) (by_nodes design statements p frame v) (by_nodes design statements p frame w)
same_on_touched design statements p process frame v w is h =
    subst (λ o. DidTheSame (Accesses design process frame.entry) (run_found design statements o frame v) (run_found design statements o frame w)) (sym is)
    (process_alike design statements process frame v w h).same

pub touches_only : (design : Design) (statements p : ℕ) (process : Proc) (frame : Frame) (v : View) → slice_get design.processes p ≡ Some process → TouchesOnly (Accesses design process frame.entry) v (by_nodes design statements p frame v)
touches_only design statements p process frame v is =
    let a = process_alike design statements process frame v v (agrees_with_itself (Accesses design process frame.entry) v) in
    subst (λ o. TouchesOnly (Accesses design process frame.entry) v (run_found design statements o frame v)) (sym is)
    (record { variables = a.kept; effects = a.own })
