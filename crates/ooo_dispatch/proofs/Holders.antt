-- Who touches an end of a fifo is the process that holds it.
use Rattle.std.proofs.Common.{◌≡◌, ℕ, ◌+◌, ◌-◌, List, length, Bool, true, false, Some, None, refl, sym, ap, ◌∙◌, subst, arith, cond}
use Rattle.std.specs.Prelude.{slice_get, position, Contains, Any}
use Rattle.std.specs.List.{list_any, position_or_len}
use Rattle.std.proofs.lemmas.Bool.{eqb-true, eq-eqb, lt-ltb}
use Rattle.std.proofs.lemmas.List.Folds.{list_any_at, Any-from_list_any}
use Rattle.std.proofs.lemmas.Option.{slice_get-get_or, slice_get_within, get_or_from_slice_get}
use Rattle.ooo_code.specs.declared.design.Design.{Design}
use Rattle.ooo_code.specs.declared.design.Proc.{Proc}
use Rattle.ooo_code.specs.Segments.{nodes_of}
use Rattle.ooo_code.specs.Sound.{IsOfOne, Uses}
use Rattle.ooo_code.specs.Touches.{Touch, Reads, Writes, ReadsSignal, WritesSignal, HoldsReading, HoldsWriting, Notifies, Cancels, touched_by}
use Rattle.ooo_meaning.specs.Runs.{holder_of, holds_reading, holds_writing, some_node_touches}
use Rattle.ooo_dispatch.proofs.Edges.{in_at}
use Rattle.ooo_dispatch.proofs.Own.{in_part, part_in}
use Rattle.ooo_dispatch.proofs.Segments.{Found, found}

reads_end : (c : ℕ) (t : Touch) → holds_reading c t ≡ true → t ≡ HoldsReading c
reads_end c (HoldsReading d) e = ap HoldsReading (sym (eqb-true c d e))
reads_end c (Reads x) e = absurd (let k : false ≡ true = e in cc)
reads_end c (Writes x) e = absurd (let k : false ≡ true = e in cc)
reads_end c (ReadsSignal d) e = absurd (let k : false ≡ true = e in cc)
reads_end c (WritesSignal d) e = absurd (let k : false ≡ true = e in cc)
reads_end c (HoldsWriting d) e = absurd (let k : false ≡ true = e in cc)
reads_end c (Notifies n t) e = absurd (let k : false ≡ true = e in cc)
reads_end c (Cancels n) e = absurd (let k : false ≡ true = e in cc)

writes_end : (c : ℕ) (t : Touch) → holds_writing c t ≡ true → t ≡ HoldsWriting c
writes_end c (HoldsWriting d) e = ap HoldsWriting (sym (eqb-true c d e))
writes_end c (Reads x) e = absurd (let k : false ≡ true = e in cc)
writes_end c (Writes x) e = absurd (let k : false ≡ true = e in cc)
writes_end c (ReadsSignal d) e = absurd (let k : false ≡ true = e in cc)
writes_end c (WritesSignal d) e = absurd (let k : false ≡ true = e in cc)
writes_end c (HoldsReading d) e = absurd (let k : false ≡ true = e in cc)
writes_end c (Notifies n t) e = absurd (let k : false ≡ true = e in cc)
writes_end c (Cancels n) e = absurd (let k : false ≡ true = e in cc)

some_at : {A : Type 0} (test : A → Bool) (xs : List A) (i : ℕ) (x : A) → slice_get xs i ≡ Some x → test x ≡ true → list_any test xs ≡ true
some_at test xs i x is passes = list_any_at test xs i x (slice_get_within xs i x is) (ap test (get_or_from_slice_get xs i x x is) ∙ passes)

-- the first that passes is there, where one does
first_is : {A : Type 0} (test : A → Bool) (xs : List A) (f : Found test xs) → position test xs ≡ Some (position_or_len test xs)
first_is test xs f = ap (λ b. cond b (Some (position_or_len test xs)) None) (lt-ltb (position_or_len test xs) (length xs) (slice_get_within xs (position_or_len test xs) f.item f.is))

module _ (design : Design) (test : Touch → Bool) (touch : Touch) (same : (t : Touch) → test t ≡ true → t ≡ touch) (self : test touch ≡ true) (one : IsOfOne design touch) where
  touches_some : (p : ℕ) (u : Uses design p touch) → some_node_touches design test u.process ≡ true
  touches_some p u =
      let from = u.own.from in
      let below = u.own.below in
      let back : u.process.first + (u.number - u.process.first) ≡ u.number = omega (arith, from) in
      let at =
      part_in (u.process.end - u.process.first) u.process.first design.nodes (u.number - u.process.first) u.node (omega (arith, from, below)) (ap (slice_get design.nodes) back ∙ u.node_is)
      in
      let c = u.touches in
      some_at (λ x. list_any test (touched_by design.events x.kind)) (nodes_of design u.process) (u.number - u.process.first) u.node at
      (list_any_at test (touched_by design.events u.node.kind) c.0 touch c.1 (ap test c.2 ∙ self))

  some_uses : (q : ℕ) (process : Proc) → slice_get design.processes q ≡ Some process → some_node_touches design test process ≡ true → Uses design q touch
  some_uses q process at_q passes = uses (Any-from_list_any (λ x. list_any test (touched_by design.events x.kind)) (nodes_of design process) passes)
    where
      uses : Any (λ x. list_any test (touched_by design.events x.kind) ≡ true) (nodes_of design process) → Uses design q touch
      uses (k, node, lt, is, some) =
          let t = Any-from_list_any test (touched_by design.events node.kind) some in
          let found : slice_get (nodes_of design process) k ≡ Some node = slice_get-get_or (nodes_of design process) k node lt ∙ ap Some is in
          let place = in_part (process.end - process.first) process.first design.nodes k node found in
          let below = place.0 in
          let c : Contains (touched_by design.events node.kind) t.1 = (t.0, t.2, t.3) in
          record {
            process = process;
            number = process.first + k;
            node = node;
            is = at_q;
            own = record { from = omega arith; below = omega (arith, below) };
            node_is = place.1;
            touches = subst (Contains (touched_by design.events node.kind)) (same t.1 t.4) c;
          }

  pub holder_is : (p : ℕ) → Uses design p touch → holder_of design test ≡ Some p
  holder_is p u =
      let f = found (some_node_touches design test) design.processes u.process (in_at design.processes p u.process u.is) (touches_some p u) in
      first_is (some_node_touches design test) design.processes f
      ∙ ap Some (one (position_or_len (some_node_touches design test) design.processes) p (some_uses (position_or_len (some_node_touches design test) design.processes) f.item f.is f.passes) u)

pub reader_is : (design : Design) (c p : ℕ) → IsOfOne design (HoldsReading c) → Uses design p (HoldsReading c) → holder_of design (holds_reading c) ≡ Some p
reader_is design c p one u = holder_is design (holds_reading c) (HoldsReading c) (reads_end c) (eq-eqb c c refl) one p u

pub writer_is : (design : Design) (c p : ℕ) → IsOfOne design (HoldsWriting c) → Uses design p (HoldsWriting c) → holder_of design (holds_writing c) ≡ Some p
writer_is design c p one u = holder_is design (holds_writing c) (HoldsWriting c) (writes_end c) (eq-eqb c c refl) one p u
