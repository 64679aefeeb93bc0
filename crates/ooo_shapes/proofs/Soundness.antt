-- The design of a sound model is sound.
use Rattle.std.proofs.Common.{◌≡◌, ℕ, zero, suc, ◌+◌, ◌<◌, ◌≤◌, inl, inr, ⊎_elim, List, [], ◌∷◌, ◌++◌, length, Bool, true, false, Option, Some, None, refl, sym, ap, ◌∙◌, subst, arith, length-append, get_or}
use Rattle.std.specs.Prelude.{slice_get, Contains, IfSome, is_some, option_map, ◌==◌, ◌||◌}
use Rattle.std.specs.List.{list_any}
use Rattle.std.proofs.lemmas.Bool.{cases_lt, eqb-true, eq-eqb, false≢true, or_left, or_right}
use Rattle.std.proofs.lemmas.Option.{slice_get_within}
use Rattle.std.proofs.lemmas.List.Folds.{list_any_at}
use Rattle.std.proofs.lemmas.List.Elements.{recursion_from_All}
use Rattle.ooo_lemmas.proofs.Placed.{all_from}
use Rattle.ooo_value.specs.declared.kinds.Kind.{Kind}
use Rattle.ooo_value.specs.declared.kinds.Kind.TheVariants as kinds
use Rattle.ooo_code.specs.declared.design.Proc.{Proc}
use Rattle.ooo_code.specs.declared.node.Node.{Node}
use Rattle.ooo_code.specs.declared.node.NodeKind.TheVariants as kind
use Rattle.ooo_code.specs.Segments.{IsNodeOf, successors}
use Rattle.ooo_code.specs.Sound.{MayBegin, FitsProcess}
use Rattle.ooo_code.specs.Sound as code
use Rattle.ooo_code.specs.Touches.{Touch, WritesSignal, HoldsReading, HoldsWriting, touched_by}
use Rattle.ooo_bound.specs.declared.model.Bound.{Bound}
use Rattle.ooo_bound.specs.declared.model.BoundProcess.{BoundProcess}
use Rattle.ooo_meaning.specs.Runs.{holds_reading, holds_writing}
use Rattle.ooo_activation.specs.Kinds.{simples_in, values_in}
use Rattle.ooo_activation.specs.Touches.{process_touches}
use Rattle.ooo_activation.specs.Sound.{IsSound, FitsExpr}
use Rattle.ooo_activation.specs.Sound as text
use Rattle.ooo_shapes.specs.Widths.{kinds_of, body_widths}
use Rattle.ooo_shapes.specs.Expressions.{first_base, first_kinds}
use Rattle.ooo_shapes.specs.Simples.{uncounted}
use Rattle.ooo_shapes.specs.Designs.{home_of, process_shape, process_widths, around_process, free_of, process_nodes, process_size, process_slots, process_at, processes_from, nodes_from, design_of}
use Rattle.ooo_shapes.proofs.Frames.{within_same}
use Rattle.ooo_shapes.proofs.Zeros.{count_kinds}
use Rattle.ooo_shapes.proofs.Places.{HasAt, has_front, has_back, Counts, LeadsOn}
use Rattle.ooo_shapes.proofs.Enter.{begins_end}
use Rattle.ooo_shapes.proofs.Found.{all_at, process_found}
use Rattle.ooo_shapes.proofs.Start.{first_from, all_nodes, nodes_full, has_process}
use Rattle.ooo_shapes.proofs.Alike.{processes_at}
use Rattle.ooo_shapes.proofs.Holders.{process_alike}
use Rattle.ooo_shapes.proofs.Touching.{nodes_some}
use Rattle.ooo_shapes.proofs.Typing.{KindsAt, kinds_left, kinds_right}
use Rattle.ooo_shapes.proofs.Flow.{Enter, enters, NodeOk, AllOk, all_both, fits_node, later}
use Rattle.ooo_shapes.proofs.Rooms.{Room}
use Rattle.ooo_shapes.proofs.Sturdy.{Fine, body_fine, each_ok}
use Rattle.ooo_shapes.proofs.Ranks.{counts_so, rests_so, Leads, ranked}

-- ---- lists

if_some : {A : Type 0} (P : A → Type 0) (o : Option A) → ((x : A) → o ≡ Some x → P x) → IfSome o P
if_some P None h = tt
if_some P (Some x) h = h x refl

-- ---- the place of each process

-- no process begins before the first one
first_low : (b : Bound) (at : ℕ) (ps : List BoundProcess) (p : ℕ) → at ≤ first_from b at ps p
first_low b at [] p = omega arith
first_low b at (x ∷ xs) zero = omega arith
first_low b at (x ∷ xs) (suc p) = let h = first_low b (at + process_size b x) xs p in omega (arith, h)

-- a process begins behind those before it
first_later : (b : Bound) (at : ℕ) (ps : List BoundProcess) (p q : ℕ) (x : BoundProcess) → p < q → slice_get ps p ≡ Some x → first_from b at ps p + process_size b x ≤ first_from b at ps q
first_later b at [] p q x lt e = absurd cc
first_later b at (y ∷ ys) p zero x lt e = absurd (omega (arith, lt))
first_later b at (y ∷ ys) zero (suc q) x lt e =
    let same : y ≡ x = cc in
    let h = first_low b (at + process_size b y) ys q in
    subst (λ z. at + process_size b z ≤ first_from b (at + process_size b y) ys q) same h
first_later b at (y ∷ ys) (suc p) (suc q) x lt e = first_later b (at + process_size b y) ys p q x (omega (arith, lt)) e

-- each node is of a process
record Owner (b : Bound) (at : ℕ) (ps : List BoundProcess) (n : ℕ) : Type 0 where
  number : ℕ
  process : BoundProcess
  is : slice_get ps number ≡ Some process
  from : first_from b at ps number ≤ n
  below : n < first_from b at ps number + process_size b process

owner : (b : Bound) (at : ℕ) (ps : List BoundProcess) (n : ℕ) → at ≤ n → n < at + length (nodes_from b at ps) → Owner b at ps n
owner b at [] n low high = absurd (omega (arith, low, high))
owner b at (x ∷ xs) n low high =
    ⊎_elim (λ lt. record { number = 0; process = x; is = refl; from = low; below = lt })
    (λ le.
    let all = length-append (process_nodes b x at) (nodes_from b (at + process_size b x) xs) in
    let full = nodes_full b x at in
    let o = owner b (at + process_size b x) xs n le (omega (arith, high, all, full)) in
    record { number = suc o.number; process = o.process; is = o.is; from = o.from; below = o.below })
    (cases_lt n (at + process_size b x))

-- ---- a process

module _ (b : Bound) (sound : IsSound b) (p : ℕ) (process : BoundProcess) (is : slice_get b.processes p ≡ Some process) where
  abbrev first : ℕ
  first = first_from b 0 b.processes p

  abbrev end : ℕ
  end = first + process_size b process

  abbrev slots : List Kind
  slots = process_slots b process

  abbrev nodes : List Node
  nodes = all_nodes b

  abbrev at_end : ℕ
  at_end = first + (process_shape b process).size

  abbrev last : List Node
  last = uncounted kind.End 0 at_end ∷ []

  abbrev body : List Node
  body = (process_shape b process).nodes (around_process (process_widths process) at_end) (free_of process) first at_end

  fits : text.FitsProcess b process
  fits = all_at (text.FitsProcess b) b.processes p process sound.processes is

  abbrev frame_kinds : List Kind
  frame_kinds = first_kinds ++ kinds_of (process_widths process)

  whole : KindsAt slots 0 (frame_kinds ++ (process_shape b process).slots)
  whole = record { room = omega arith; same = λ i lt. let e : 0 + i ≡ i = omega arith in ap (λ n. get_or slots n kinds.Bool) e }

  firsts : KindsAt slots 0 first_kinds
  firsts = kinds_left slots 0 first_kinds (kinds_of (process_widths process)) (kinds_left slots 0 frame_kinds (process_shape b process).slots whole)

  locals : KindsAt slots first_base (kinds_of (process_widths process))
  locals = kinds_right slots 0 first_kinds (kinds_of (process_widths process)) (kinds_left slots 0 frame_kinds (process_shape b process).slots whole)

  calls : KindsAt slots (free_of process) (process_shape b process).slots
  calls =
      let e : 0 + length frame_kinds ≡ free_of process = omega (arith, length-append first_kinds (kinds_of (process_widths process)), count_kinds (process_widths process)) in
      subst (λ n. KindsAt slots n (process_shape b process).slots) e (kinds_right slots 0 frame_kinds (process_shape b process).slots whole)

  has : HasAt b process 0 nodes first (body ++ last)
  has = has_process b process 0 [] b.processes 0 p refl is

  fine : Fine b process nodes first end slots firsts fits.events sound.functions (process_shape b process) (body_widths process.body)
  fine =
      body_fine b process nodes first end slots firsts fits.events sound.functions (length b.functions) process.body
      (each_ok b process nodes first end slots firsts fits.events sound.functions (length b.functions) (simples_in process.body) fits.body.simples (process_found b sound.ranked sound.functions process fits) fits.waits)
      (recursion_from_All (FitsExpr b) (values_in process.body) fits.body.values)

  has_last : HasAt b process 0 nodes at_end last
  has_last = subst (λ n. HasAt b process 0 nodes (first + n) last) (fine.full (around_process (process_widths process) at_end) (free_of process) first at_end) (has_back b process 0 nodes first body last has)

  end_in : Enter b process nodes first end slots at_end
  end_in = record {
    from = omega arith;
    below = omega arith;
    begins = λ j is_j.
        let same : Some (uncounted kind.End 0 at_end) ≡ Some j = sym has_last.0 ∙ is_j in
        let one : uncounted kind.End 0 at_end ≡ j = cc in
        subst (λ (j : Node). MayBegin j.kind) one tt;
  }

  room : Room b process nodes first end slots firsts (process_shape b process).size first at_end
  room = record { from = omega arith; to = omega arith; after = inl (omega arith); next_in = end_in }

  body_ok : AllOk b process nodes first end slots first body
  body_ok =
      fine.ok (around_process (process_widths process) at_end) (free_of process) first at_end
      (record {
        around = record { break_in = end_in; continue_in = end_in; return_in = end_in; locals = locals; result = tt };
        within = within_same (process_widths process);
        room = room;
        has = has_front b process 0 nodes first body last has;
        calls = calls;
      })

  all_ok : AllOk b process nodes first end slots first (body ++ last)
  all_ok =
      all_both b process nodes first end slots first body last body_ok
      (subst (λ n. AllOk b process nodes first end slots (first + n) last) (sym (fine.full (around_process (process_widths process) at_end) (free_of process) first at_end)) ((tt, tt), tt))

  first_in : Enter b process nodes first end slots first
  first_in =
      subst (Enter b process nodes first end slots) (begins_end (process_shape b process).size first)
      (enters b process nodes first end slots body (process_shape b process).size first at_end (fine.full (around_process (process_widths process) at_end) (free_of process) first at_end) (fine.begins (around_process (process_widths process) at_end) (free_of process) first at_end) (has_front b process 0 nodes first body last has) room.from room.to end_in)

  -- what is needed of a node among these
  ok_at : (ns : List Node) (q n : ℕ) (i : Node) → AllOk b process nodes first end slots q ns → HasAt b process 0 nodes q ns → q ≤ n → n < q + length ns → slice_get nodes n ≡ Some i → NodeOk b process nodes first end slots n i
  ok_at [] q n i ok h low high e = absurd (omega (arith, low, high))
  ok_at (j ∷ js) q n i ok h low high e =
      ⊎_elim (λ lt. ok_at js (q + 1) n i ok.1 h.1 (omega (arith, lt)) (omega (arith, high)) e)
      (λ le.
      let here : q ≡ n = omega (arith, le, low) in
      let same : Some j ≡ Some i = sym h.0 ∙ ap (slice_get nodes) here ∙ e in
      let one : j ≡ i = cc in
      subst (λ m. NodeOk b process nodes first end slots m i) here (subst (λ i. NodeOk b process nodes first end slots q i) one ok.0))
      (cases_lt q n)

  full : length (body ++ last) ≡ process_size b process
  full = nodes_full b process first

  pub node_ok : (n : ℕ) (i : Node) → first ≤ n → n < end → slice_get nodes n ≡ Some i → NodeOk b process nodes first end slots n i
  node_ok n i low high e = ok_at (body ++ last) first n i all_ok has low (omega (arith, high, full)) e

  pub process_fits : FitsProcess (design_of b) (process_at b process first)
  process_fits = record {
    some = omega arith;
    within = let w = slice_get_within nodes at_end (uncounted kind.End 0 at_end) has_last.0 in omega (arith, w);
    events = fits.events;
    begins = if_some (λ node. MayBegin node.kind) (slice_get nodes first) first_in.begins;
    nodes = λ n i o e. fits_node b process nodes first end slots (processes_from b 0 b.processes) process.initialize n i (node_ok n i o.from o.below e);
  }

  -- an uncounted node leads on, or to one that counts
  pub node_leads : (n m : ℕ) (i : Node) → first ≤ n → n < end → slice_get nodes n ≡ Some i → i.counts ≡ false → Contains (successors i) m → Leads nodes n m
  node_leads n m i low high e u c =
      ⊎_elim (λ le. inl le)
      (λ o.
      inr
      (⊎_elim (λ (c : Counts b process 0 nodes m). inl (counts_so nodes m c.0 c.1 c.2))
      (λ (l : LeadsOn b process 0 nodes m). inr (rests_so nodes m l.slot l.value l.node l.counts.0 l.is l.sets l.next l.counts.1 l.counts.2)) o))
      (later b process nodes first end slots n i (node_ok n i low high e) u m c)

  -- what a node among these touches
  some_at : (test : Touch → Bool) (ns : List Node) (q n : ℕ) (i : Node) → HasAt b process 0 nodes q ns → q ≤ n → n < q + length ns → slice_get nodes n ≡ Some i → list_any test (touched_by b.events i.kind) ≡ true → nodes_some (home_of b process) test ns ≡ true
  some_at test [] q n i h low high e t = absurd (omega (arith, low, high))
  some_at test (j ∷ js) q n i h low high e t =
      ⊎_elim (λ lt. or_right (list_any test (touched_by b.events j.kind)) (nodes_some (home_of b process) test js) (some_at test js (q + 1) n i h.1 (omega (arith, lt)) (omega (arith, high)) e t))
      (λ le.
      let here : q ≡ n = omega (arith, le, low) in
      let same : Some j ≡ Some i = sym h.0 ∙ ap (slice_get nodes) here ∙ e in
      let one : j ≡ i = cc in
      or_left (list_any test (touched_by b.events j.kind)) (nodes_some (home_of b process) test js) (subst (λ (j : Node). list_any test (touched_by b.events j.kind) ≡ true) (sym one) t))
      (cases_lt q n)

  -- what a node of a process touches its statements touch
  pub touches_too : (test : Touch → Bool) (n : ℕ) (i : Node) → first ≤ n → n < end → slice_get nodes n ≡ Some i → list_any test (touched_by b.events i.kind) ≡ true → list_any test (process_touches b process) ≡ true
  touches_too test n i low high e t =
      sym (process_alike b test process first (process_found b sound.ranked sound.functions process fits))
      ∙ some_at test (body ++ last) first n i has low (omega (arith, high, full)) e t

-- ---- one touch

-- the test of a touch: it passes, and nothing else does
pub record IsTestOf (test : Touch → Bool) (touch : Touch) : Type 0 where
  pub passes : test touch ≡ true
  pub only : (t : Touch) → test t ≡ true → t ≡ touch

abbrev writes_signal : ℕ → Touch → Bool
writes_signal c touch = elim touch [ WritesSignal d ↦ c == d | _ ↦ false ]

writes_only : (c : ℕ) (t : Touch) → writes_signal c t ≡ true → t ≡ WritesSignal c
writes_only c (WritesSignal d) h = ap WritesSignal (sym (eqb-true c d h))
writes_only c _ h = cc

reading_only : (c : ℕ) (t : Touch) → holds_reading c t ≡ true → t ≡ HoldsReading c
reading_only c (HoldsReading d) h = ap HoldsReading (sym (eqb-true c d h))
reading_only c _ h = cc

writing_only : (c : ℕ) (t : Touch) → holds_writing c t ≡ true → t ≡ HoldsWriting c
writing_only c (HoldsWriting d) h = ap HoldsWriting (sym (eqb-true c d h))
writing_only c _ h = cc

test_writes : (c : ℕ) → IsTestOf (writes_signal c) (WritesSignal c)
test_writes c = record { passes = eq-eqb c c refl; only = writes_only c }

test_reading : (c : ℕ) → IsTestOf (holds_reading c) (HoldsReading c)
test_reading c = record { passes = eq-eqb c c refl; only = reading_only c }

test_writing : (c : ℕ) → IsTestOf (holds_writing c) (HoldsWriting c)
test_writing c = record { passes = eq-eqb c c refl; only = writing_only c }

module _ (test : Touch → Bool) (touch : Touch) (is_test : IsTestOf test touch) where
  pub some_touch : (xs : List Touch) → Contains xs touch → list_any test xs ≡ true
  some_touch xs c = list_any_at test xs c.0 touch c.1 (ap test c.2 ∙ is_test.passes)

  touch_first : (x : Touch) (xs : List Touch) (t : Bool) → test x ≡ t → (t || list_any test xs) ≡ true → (list_any test xs ≡ true → Contains xs touch) → Contains (x ∷ xs) touch
  touch_first x xs true e h rest = (0, omega arith, is_test.only x e)
  touch_first x xs false e h rest = let c = rest h in (suc c.0, omega (arith, c.1), c.2)

  pub touch_in : (xs : List Touch) → list_any test xs ≡ true → Contains xs touch
  touch_in [] h = absurd (false≢true h)
  touch_in (x ∷ xs) h = touch_first x xs (test x) refl h (touch_in xs)

-- ---- the design

module _ (b : Bound) (sound : IsSound b) where
  -- process p of the design
  pub record ProcOf (p : ℕ) (a : Proc) : Type 0 where
    pub process : BoundProcess
    pub is : slice_get b.processes p ≡ Some process
    pub same : a ≡ process_at b process (first_from b 0 b.processes p)

  proc_in : (p : ℕ) (a : Proc) (o : Option BoundProcess) → slice_get b.processes p ≡ o → option_map (λ x. process_at b x (first_from b 0 b.processes p)) o ≡ Some a → ProcOf p a
  proc_in p a None e h = let f : false ≡ true = ap is_some h in absurd (false≢true f)
  proc_in p a (Some process) e h = record { process = process; is = e; same = cc }

  pub proc_of : (p : ℕ) (a : Proc) → slice_get (processes_from b 0 b.processes) p ≡ Some a → ProcOf p a
  proc_of p a e = proc_in p a (slice_get b.processes p) refl (sym (processes_at b 0 b.processes p) ∙ e)

  design_process : (p : ℕ) (a : Proc) → slice_get (processes_from b 0 b.processes) p ≡ Some a → FitsProcess (design_of b) a
  design_process p a e =
      let o = proc_of p a e in
      subst (FitsProcess (design_of b)) (sym o.same) (process_fits b sound p o.process o.is)

  -- a node of process p stands among its nodes
  own_from : (p n : ℕ) (a : Proc) (o : ProcOf p a) → IsNodeOf a n → first_from b 0 b.processes p ≤ n
  own_from p n a o h = (subst (λ a. IsNodeOf a n) o.same h).from

  own_below : (p n : ℕ) (a : Proc) (o : ProcOf p a) → IsNodeOf a n → n < first_from b 0 b.processes p + process_size b o.process
  own_below p n a o h = (subst (λ a. IsNodeOf a n) o.same h).below

  design_apart : (p q n : ℕ) (x y : Proc) → slice_get (processes_from b 0 b.processes) p ≡ Some x → slice_get (processes_from b 0 b.processes) q ≡ Some y → IsNodeOf x n → IsNodeOf y n → p ≡ q
  design_apart p q n x y e f g h =
      let o = proc_of p x e in
      let r = proc_of q y f in
      let from_p = own_from p n x o g in
      let below_p = own_below p n x o g in
      let from_q = own_from q n y r h in
      let below_q = own_below q n y r h in
      ⊎_elim (λ lt. absurd (omega (arith, first_later b 0 b.processes p q o.process lt o.is, below_p, from_q)))
      (λ le.
      ⊎_elim (λ lt. absurd (omega (arith, first_later b 0 b.processes q p r.process lt r.is, below_q, from_p)))
      (λ le'. omega (arith, le, le')) (cases_lt q p))
      (cases_lt p q)

  design_leads : (n m : ℕ) (i : Node) → slice_get (all_nodes b) n ≡ Some i → i.counts ≡ false → Contains (successors i) m → Leads (all_nodes b) n m
  design_leads n m i e u c =
      let within = slice_get_within (all_nodes b) n i e in
      let o = owner b 0 b.processes n (omega arith) (omega (arith, within)) in
      node_leads b sound o.number o.process o.is n m i o.from o.below e u c

  -- what a process of the design touches a process of the model does
  uses : (p : ℕ) (test : Touch → Bool) (touch : Touch) → IsTestOf test touch → code.Uses (design_of b) p touch → text.Uses b p touch
  uses p test touch is_test u =
      let o = proc_of p u.process u.is in
      let low = own_from p u.number u.process o u.own in
      let high = own_below p u.number u.process o u.own in
      let some = some_touch test touch is_test (touched_by b.events u.node.kind) u.touches in
      record {
        process = o.process;
        is = o.is;
        touches = touch_in test touch is_test (process_touches b o.process) (touches_too b sound p o.process o.is test u.number u.node low high u.node_is some);
      }

  of_one : (test : Touch → Bool) (touch : Touch) → IsTestOf test touch → text.IsOfOne b touch → code.IsOfOne (design_of b) touch
  of_one test touch is_test one p q u v = one p q (uses p test touch is_test u) (uses q test touch is_test v)

  -- the design of a sound model is sound
  pub design_sound : code.IsSound (design_of b)
  design_sound = record {
    variables = sound.variables;
    channels = sound.channels;
    events = sound.events;
    processes = all_from (FitsProcess (design_of b)) (processes_from b 0 b.processes) design_process;
    apart = design_apart;
    ranked = ranked (all_nodes b) design_leads;
    writers = λ c. of_one (writes_signal c) (WritesSignal c) (test_writes c) (sound.writers c);
    reading_ends = λ c. of_one (holds_reading c) (HoldsReading c) (test_reading c) (sound.reading_ends c);
    writing_ends = λ c. of_one (holds_writing c) (HoldsWriting c) (test_writing c) (sound.writing_ends c);
  }
