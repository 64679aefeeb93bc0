-- The channels of a sound model start with the same holders by its statements and by its nodes.
use Rattle.std.proofs.Common.{◌≡◌, ℕ, suc, ◌+◌, ◌-◌, List, [], ◌∷◌, ◌++◌, length, take, drop, Bool, not, cond, Some, None, refl, sym, ap, ap₂, ◌∙◌, arith, append_assoc, length-append}
use Rattle.std.specs.Prelude.{All, nat_lt}
use Rattle.std.specs.List.{list_any, prefix_len}
use Rattle.std.proofs.Math.Seq.{take-append_seam, drop-append_seam}
use Rattle.std.proofs.lemmas.List.Folds.{list_any-append}
use Rattle.ooo_value.specs.declared.bound.BoundChannel.{BoundChannel}
use Rattle.ooo_code.specs.declared.node.Node.{Node}
use Rattle.ooo_code.specs.declared.node.NodeKind.TheVariants as kind
use Rattle.ooo_code.specs.Channels.{first_channel}
use Rattle.ooo_code.specs.Segments.{nodes_of}
use Rattle.ooo_code.specs.Touches.{Touch, touched_by}
use Rattle.ooo_bound.specs.declared.model.Bound.{Bound}
use Rattle.ooo_bound.specs.declared.model.BoundProcess.{BoundProcess}
use Rattle.ooo_meaning.specs.Runs.{holds_reading, holds_writing, some_node_touches}
use Rattle.ooo_meaning.specs.Runs as code
use Rattle.ooo_activation.specs.Kinds.{simples_in}
use Rattle.ooo_activation.specs.Touches.{process_touches}
use Rattle.ooo_activation.specs.Runs as text
use Rattle.ooo_activation.specs.Sound.{IsSound}
use Rattle.ooo_shapes.specs.Simples.{uncounted}
use Rattle.ooo_shapes.specs.Designs.{home_of, process_shape, process_widths, around_process, free_of, process_nodes, process_size, process_at, processes_from, nodes_from, design_of}
use Rattle.ooo_shapes.proofs.Places.{SimplesFound, CallFound}
use Rattle.ooo_shapes.proofs.Touching.{nodes_some, or_false, touch_alike}
use Rattle.ooo_shapes.proofs.Found.{process_found}
use Rattle.ooo_shapes.proofs.Start.{all_nodes, nodes_full}

-- the calls of a process find their functions
abbrev pub IsFound : Bound → BoundProcess → Type 0
IsFound b x = SimplesFound (CallFound b.functions (length b.functions)) (simples_in x.body)

-- the nodes between two of a list
middle : {A : Type 0} (pre mine others : List A) (at size : ℕ) → at ≡ length pre → length mine ≡ size → take (at + size - at) (drop at (pre ++ (mine ++ others))) ≡ mine
middle pre mine others at size e f =
    let n : at + size - at ≡ length mine = omega (arith, f) in
    ap₂ (λ m k. take m (drop k (pre ++ (mine ++ others)))) n e
    ∙ ap (take (length mine)) (drop-append_seam pre (mine ++ others))
    ∙ take-append_seam mine others

module _ (b : Bound) (test : Touch → Bool) where
  -- the nodes of a process touch what its statements touch
  pub process_alike : (x : BoundProcess) (at : ℕ) → IsFound b x → nodes_some (home_of b x) test (process_nodes b x at) ≡ list_any test (process_touches b x)
  process_alike x at f =
      let s = process_shape b x in
      let end = at + s.size in
      let t = around_process (process_widths x) end in
      let body = s.nodes t (free_of x) at end in
      list_any-append (λ (i : Node). list_any test (touched_by b.events i.kind)) body (uncounted kind.End 0 end ∷ [])
      ∙ or_false (nodes_some (home_of b x) test body)
      ∙ touch_alike (home_of b x) test (length b.functions) x.body f t (free_of x) at end

  abbrev by_text : BoundProcess → Bool
  by_text x = list_any test (process_touches b x)

  -- the first process that touches is the same
  first_alike : (pre : List Node) (at : ℕ) (ps : List BoundProcess) → at ≡ length pre → pre ++ nodes_from b at ps ≡ all_nodes b → All (IsFound b) ps → prefix_len (λ x. not (by_text x)) ps ≡ prefix_len (λ x. not (some_node_touches (design_of b) test x)) (processes_from b at ps)
  first_alike pre at [] e whole found = refl
  first_alike pre at (x ∷ xs) e whole found =
      let mine = process_nodes b x at in
      let others = nodes_from b (at + process_size b x) xs in
      let full = nodes_full b x at in
      let own : nodes_of (design_of b) (process_at b x at) ≡ mine =
      ap (λ all. take (at + process_size b x - at) (drop at all)) (sym whole) ∙ middle pre mine others at (process_size b x) e full in
      let here : by_text x ≡ some_node_touches (design_of b) test (process_at b x at) =
      sym (process_alike x at (found 0 x (omega arith))) ∙ ap (nodes_some (home_of b x) test) (sym own) in
      let n : at + process_size b x ≡ length (pre ++ mine) = omega (arith, e, length-append pre mine, full) in
      let rest = first_alike (pre ++ mine) (at + process_size b x) xs n (append_assoc pre mine others ∙ whole) (λ k d lt. found (suc k) d (omega arith)) in
      ap₂ (λ h k. cond (not h) (1 + k) 0) here rest

  processes_length : (at : ℕ) (ps : List BoundProcess) → length ps ≡ length (processes_from b at ps)
  processes_length at [] = refl
  processes_length at (x ∷ xs) = ap suc (processes_length (at + process_size b x) xs)

  holder_same : All (IsFound b) b.processes → text.holder_in b test ≡ code.holder_of (design_of b) test
  holder_same found =
      ap₂ (λ n m. cond (nat_lt n m) (Some n) None) (first_alike [] 0 b.processes refl refl found) (processes_length 0 b.processes)

module _ (b : Bound) (sound : IsSound b) where
  pub all_found : All (IsFound b) b.processes
  all_found k d lt = process_found b sound.ranked sound.functions _ (sound.processes k d lt)

  channels_same : (c : ℕ) (xs : List BoundChannel) → text.first_channels b c xs ≡ code.first_channels (design_of b) c xs
  channels_same c [] = refl
  channels_same c (x ∷ xs) =
      let r = holder_same b (holds_reading c) all_found in
      let w = holder_same b (holds_writing c) all_found in
      ap₂ (λ y ys. y ∷ ys) (ap₂ (first_channel x) r w) (channels_same (c + 1) xs)

  -- the channels start the same
  pub same_channels : text.first_channels b 0 b.channels ≡ code.first_channels (design_of b) 0 b.channels
  same_channels = channels_same 0 b.channels
