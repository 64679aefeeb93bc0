-- The nodes of each process stand in the design, and it starts at its first one.
use Rattle.std.proofs.Common.{◌≡◌, ℕ, zero, suc, ◌+◌, ◌<◌, inl, List, [], ◌∷◌, ◌++◌, length, map, Some, refl, sym, ap, ◌∙◌, subst, arith, append_assoc, length-append}
use Rattle.std.specs.Prelude.{slice_get}
use Rattle.std.proofs.Math.Seq.{get_or-append_seam}
use Rattle.std.proofs.lemmas.Option.{slice_get-get_or}
use Rattle.std.proofs.lemmas.List.{length-map}
use Rattle.ooo_value.specs.declared.values.Value.{Value}
use Rattle.ooo_code.specs.declared.node.Node.{Node}
use Rattle.ooo_code.specs.declared.node.NodeKind.TheVariants as kind
use Rattle.ooo_code.specs.Nodes.{first_frame}
use Rattle.ooo_bound.specs.declared.model.Bound.{Bound}
use Rattle.ooo_bound.specs.declared.model.BoundProcess.{BoundProcess}
use Rattle.ooo_activation.specs.Locals.{no_locals}
use Rattle.ooo_activation.specs.Kinds.{simples_in}
use Rattle.ooo_activation.specs.Items.{entered_all}
use Rattle.ooo_activation.specs.Activations.{first_place}
use Rattle.ooo_shapes.specs.Widths.{count_of, kinds_of, body_widths}
use Rattle.ooo_shapes.specs.Expressions.{first_base, first_kinds}
use Rattle.ooo_shapes.specs.Simples.{uncounted}
use Rattle.ooo_shapes.specs.Designs.{process_shape, process_widths, around_process, free_of, process_nodes, process_size, process_slots, process_at, nodes_from}
use Rattle.ooo_shapes.proofs.Frames.{within_same, Frame}
use Rattle.ooo_shapes.proofs.Zeros.{zero_of, count_kinds, zero_at}
use Rattle.ooo_shapes.proofs.Places.{SimplesFound, CallFound, HasAt, has_front, has_back, Laid, Place, stands}
use Rattle.ooo_shapes.proofs.Enter.{begins_end, good_body}
use Rattle.ooo_shapes.proofs.Same.{Rests}

-- how many slots a process has
abbrev pub slots_of : Bound → BoundProcess → ℕ
slots_of b process = length (process_slots b process)

-- the number of the first node of process p, of these that begin there
abbrev pub first_from : Bound → (at : ℕ) → List BoundProcess → (p : ℕ) → ℕ
first_from b at [] p = at
first_from b at (x ∷ xs) zero = at
first_from b at (x ∷ xs) (suc p) = first_from b (at + process_size b x) xs p

-- all nodes of a design
abbrev pub all_nodes : Bound → List Node
all_nodes b = nodes_from b 0 b.processes

pub nodes_full : (b : Bound) (x : BoundProcess) (at : ℕ) → length (process_nodes b x at) ≡ process_size b x
nodes_full b x at =
    let s = process_shape b x in
    let end = at + s.size in
    let body = s.nodes (around_process (process_widths x) end) (free_of x) at end in
    let last = uncounted kind.End 0 end ∷ [] in
    omega (arith, length-append body last, (good_body b x 0 [] [] (length b.functions) x.body).full (around_process (process_widths x) end) (free_of x) at end)

module _ (b : Bound) (process : BoundProcess) (total : ℕ) where
  has_all : (is pre : List Node) → HasAt b process total (pre ++ is) (length pre) is
  has_all [] pre = tt
  has_all (i ∷ is) pre =
      let within : length pre < length (pre ++ i ∷ is) = omega (arith, length-append pre (i ∷ is)) in
      let here = slice_get-get_or (pre ++ i ∷ is) (length pre) i within ∙ ap Some (get_or-append_seam pre i is i) in
      let n : length (pre ++ i ∷ []) ≡ length pre + 1 = omega (arith, length-append pre (i ∷ [])) in
      let rest = has_all is (pre ++ i ∷ []) in
      let rest' = subst (λ l. HasAt b process total l (length (pre ++ i ∷ [])) is) (append_assoc pre (i ∷ []) is) rest in
      (here, subst (λ m. HasAt b process total (pre ++ i ∷ is) m is) n rest')

  -- the nodes of process p stand where its first one is
  pub has_process : (pre : List Node) (ps : List BoundProcess) (at p : ℕ) → at ≡ length pre → slice_get ps p ≡ Some process → HasAt b process total (pre ++ nodes_from b at ps) (first_from b at ps p) (process_nodes b process (first_from b at ps p))
  has_process pre [] at p e s = absurd cc
  has_process pre (x ∷ xs) at zero e s =
      let same : x ≡ process = cc in
      let mine = process_nodes b x at in
      let others = nodes_from b (at + process_size b x) xs in
      let all = subst (λ q. HasAt b process total (pre ++ (mine ++ others)) q (mine ++ others)) (sym e) (has_all (mine ++ others) pre) in
      subst (λ y. HasAt b process total (pre ++ (mine ++ others)) at (process_nodes b y at)) same (has_front b process total (pre ++ (mine ++ others)) at mine others all)
  has_process pre (x ∷ xs) at (suc p) e s =
      let mine = process_nodes b x at in
      let others = nodes_from b (at + process_size b x) xs in
      let n : at + process_size b x ≡ length (pre ++ mine) = omega (arith, e, length-append pre mine, nodes_full b x at) in
      subst (λ l. HasAt b process total l (first_from b (at + process_size b x) xs p) (process_nodes b process (first_from b (at + process_size b x) xs p))) (append_assoc pre mine others)
      (has_process (pre ++ mine) xs (at + process_size b x) p n s)

module _ (b : Bound) (process : BoundProcess) (p : ℕ) (is : slice_get b.processes p ≡ Some process) (found : SimplesFound (CallFound b.functions (length b.functions)) (simples_in process.body)) where
  abbrev first : ℕ
  first = first_from b 0 b.processes p

  -- its end
  abbrev pub end_of : ℕ
  end_of = first + (process_shape b process).size

  pub total_is : slots_of b process ≡ first_base + count_of (process_widths process) + length (process_shape b process).slots
  total_is =
      omega (
        arith,
        length-append (first_kinds ++ kinds_of (process_widths process)) (process_shape b process).slots,
        length-append first_kinds (kinds_of (process_widths process)),
        count_kinds (process_widths process),
      )

  -- its body stands at its first node
  pub starts : (slots : List Value) → Place b process (slots_of b process) (all_nodes b) (around_process (process_widths process) end_of) slots (entered_all process.body []) first
  starts slots =
      let total = slots_of b process in
      let code = all_nodes b in
      let x = process_shape b process in
      let t = around_process (process_widths process) end_of in
      let body = x.nodes t (free_of process) first end_of in
      let last = uncounted kind.End 0 end_of ∷ [] in
      let has = has_process b process total [] b.processes 0 p refl is in
      let g = good_body b process total code slots (length b.functions) process.body in
      let at_end = subst (λ n. HasAt b process total code (first + n) last) (g.full t (free_of process) first end_of) (has_back b process total code first body last has) in
      let laid : Laid b process total code (length b.functions) x (body_widths process.body) (simples_in process.body) t (free_of process) first end_of = record {
        within = within_same (process_widths process);
        found = found;
        has = has_front b process total code first body last has;
        after = inl (omega arith);
        room = omega (arith, total_is);
        above = omega arith;
      } in
      subst (λ q. Place b process total code t slots (entered_all process.body []) q) (begins_end x.size first) (g.enters t (free_of process) first end_of [] laid (at_end.0, refl))

  -- it starts so
  pub starts_so : Rests b process (slots_of b process) (all_nodes b) first (first_place process) (first_frame (process_at b process first))
  starts_so =
      let w = process_widths process in
      let t = around_process w end_of in
      let slots = map zero_of (process_slots b process) in
      let frame : Frame (slots_of b process) t no_locals slots = record {
        same = λ k n lt. zero_at w first_kinds (process_shape b process).slots k n lt;
        within = omega (arith, total_is);
        low = omega arith;
      } in
      record {
        stands = stands b process (slots_of b process) (all_nodes b) t (entered_all process.body []) no_locals slots first (starts slots) frame;
        count = length-map (process_slots b process) zero_of;
      }
