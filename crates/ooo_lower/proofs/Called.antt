-- A called function is written out.
use Rattle.std.proofs.Common.{◌≡◌, ◌∙◌, refl, ap, sym, subst, ℕ, suc, ◌+◌, List, [], ◌∷◌, ◌++◌, length, drop, min, Some, arith, append_assoc, length-append}
use Rattle.ooo_value.specs.declared.kinds.Kind.{Kind}
use Rattle.ooo_code.specs.declared.node.Node.{Node}
use Rattle.ooo_code.specs.declared.node.NodeKind.TheVariants as kind
use Rattle.ooo_bound.specs.declared.expr.BoundExpr.{BoundExpr}
use Rattle.ooo_bound.specs.declared.model.BoundFunction.{BoundFunction}
use Rattle.ooo_bound.specs.declared.stat.BoundTarget.{BoundTarget}
use Rattle.ooo_shapes.specs.declared.around.Around.{Around}
use Rattle.ooo_shapes.specs.Simples.{Home, counted, uncounted}
use Rattle.ooo_shapes.specs.Shapes.{Shape, argument_nodes, call_kinds, call_shape, empty, inside_call, leave_kind, zero_nodes}
use Rattle.ooo_lower.specs.declared.code.Code.{Code}
use Rattle.ooo_lower.specs.declared.simples.Spot.{Spot}
use Rattle.ooo_lower.specs.Codes.{Puts, PutsKinds}
use Rattle.ooo_lower.specs.Tasks.{Goes, Rest, before, leave_shape}

drop_behind : (xs ys : List Kind) → drop (length xs) (xs ++ ys) ≡ ys
drop_behind [] ys = refl
drop_behind (x ∷ xs) ys = drop_behind xs ys

length_zeros : (line slot : ℕ) (ks : List Kind) (at : ℕ) → length (zero_nodes line slot ks at) ≡ length ks
length_zeros line slot [] at = refl
length_zeros line slot (k ∷ ks) at = ap suc (length_zeros line (slot + 1) ks (at + 1))

length_arguments : (t u : Around) (line n : ℕ) (ks : List Kind) (es : List BoundExpr) (at : ℕ) → length (argument_nodes t u line n ks es at) ≡ min (length ks) (length es)
length_arguments t u line n [] es at = omega arith
length_arguments t u line n (k ∷ ks) [] at = omega arith
length_arguments t u line n (k ∷ ks) (e ∷ es) at = omega (arith, length_arguments t u line (n + 1) ks es (at + 1))

in_a_row : (c a g n rest : List Node) (i j : Node) → (((c ++ i ∷ []) ++ a) ++ g) ++ (n ++ (j ∷ rest)) ≡ c ++ ((i ∷ (a ++ (g ++ (n ++ (j ∷ []))))) ++ rest)
in_a_row c a g n rest i j =
    append_assoc ((c ++ i ∷ []) ++ a) g (n ++ (j ∷ rest))
    ∙ append_assoc (c ++ i ∷ []) a (g ++ (n ++ (j ∷ rest)))
    ∙ append_assoc c (i ∷ []) (a ++ (g ++ (n ++ (j ∷ rest))))
    ∙ ap (λ x. c ++ i ∷ x)
    (sym
    (append_assoc a (g ++ (n ++ (j ∷ []))) rest
    ∙ ap (λ x. a ++ x) (append_assoc g (n ++ (j ∷ [])) rest ∙ ap (λ x. g ++ x) (append_assoc n (j ∷ []) rest))))

-- the parts of a call up to its body are put; c0 to c4 is the code between them
pub call_begun : (h : Home) (into : BoundTarget) (args : List BoundExpr) (f : BoundFunction) (body : Shape) (s : Spot) (u : Around) (free goto_at leave : ℕ) (c0 c1 c2 c3 c4 : Code) (r0 r1 r2 : Rest) →
    free ≡ length c0.slots → goto_at ≡ length c0.nodes + 1 → leave ≡ goto_at + length (call_kinds f) + min (length f.params) (length args) + body.size → u ≡ inside_call f free leave →
    Puts (counted kind.Goto s.line goto_at ∷ []) c0 c1 → PutsKinds (call_kinds f) c1 c2 → Puts (zero_nodes s.line free (drop free c2.slots) (length c2.nodes)) c2 c3 → Puts (argument_nodes s.around u s.line 0 f.params args (length c3.nodes)) c3 c4 →
    r1 ≡ before (leave_shape h s.line into f.result free) s.around s.next r0 → r2 ≡ before body u leave r1 →
    Goes (before (call_shape h s.line into args (Some (record { function = f; body = body }))) s.around s.next r0) r2 c0 c4
call_begun h into args f body s u free goto_at leave c0 c1 c2 c3 c4 r0 r1 r2 e_free e_goto e_leave e_u p1 p2 p3 p4 e1 e2 =
    let l = length c0.nodes in
    let fr = length c0.slots in
    let zeros = length (call_kinds f) in
    let given = min (length f.params) (length args) in
    let b = l + 1 + zeros + given in
    let v = b + body.size in
    let w = inside_call f fr v in
    let s2 : c2.slots ≡ c0.slots ++ call_kinds f = p2.slots_are ∙ ap (λ c. c ++ call_kinds f) p1.slots_are in
    let left : drop free c2.slots ≡ call_kinds f = ap (λ n. drop n c2.slots) e_free ∙ ap (drop fr) s2 ∙ drop_behind c0.slots (call_kinds f) in
    let n1 : length c1.nodes ≡ l + 1 = omega (arith, ap length p1.nodes_are, length-append c0.nodes (counted kind.Goto s.line goto_at ∷ [])) in
    let n2 : length c2.nodes ≡ l + 1 = ap length p2.nodes_are ∙ n1 in
    let q3 : c3.nodes ≡ c2.nodes ++ zero_nodes s.line fr (call_kinds f) (l + 1) = p3.nodes_are ∙ ap (λ x. c2.nodes ++ zero_nodes s.line x (drop free c2.slots) (length c2.nodes)) e_free ∙ ap (λ x. c2.nodes ++ zero_nodes s.line fr x (length c2.nodes)) left ∙ ap (λ x. c2.nodes ++ zero_nodes s.line fr (call_kinds f) x) n2 in
    let n3 : length c3.nodes ≡ l + 1 + zeros = omega (arith, ap length q3, length-append c2.nodes (zero_nodes s.line fr (call_kinds f) (l + 1)), length_zeros s.line fr (call_kinds f) (l + 1), n2) in
    let p_leave : leave ≡ v = omega (arith, e_leave, e_goto) in
    let same_u : u ≡ w = e_u ∙ ap (λ x. inside_call f x leave) e_free ∙ ap (λ x. inside_call f fr x) p_leave in
    let q4 : c4.nodes ≡ c3.nodes ++ argument_nodes s.around w s.line 0 f.params args (l + 1 + zeros) = p4.nodes_are ∙ ap (λ x. c3.nodes ++ argument_nodes s.around x s.line 0 f.params args (length c3.nodes)) same_u ∙ ap (λ x. c3.nodes ++ argument_nodes s.around w s.line 0 f.params args x) n3 in
    let n4 : length c4.nodes ≡ b = omega (arith, ap length q4, length-append c3.nodes (argument_nodes s.around w s.line 0 f.params args (l + 1 + zeros)), length_arguments s.around w s.line 0 f.params args (l + 1 + zeros), n3) in
    let s4 : c4.slots ≡ c0.slots ++ call_kinds f = p4.slots_are ∙ p3.slots_are ∙ s2 in
    let f4 : length c4.slots ≡ fr + zeros = ap length s4 ∙ length-append c0.slots (call_kinds f) in
    let q1 : c2.nodes ≡ c0.nodes ++ counted kind.Goto s.line (l + 1) ∷ [] = p2.nodes_are ∙ p1.nodes_are ∙ ap (λ x. c0.nodes ++ counted kind.Goto s.line x ∷ []) e_goto in
    let i1 = counted kind.Goto s.line (l + 1) in
    let a = zero_nodes s.line fr (call_kinds f) (l + 1) in
    let g = argument_nodes s.around w s.line 0 f.params args (l + 1 + zeros) in
    let i6 = λ (x : ℕ). uncounted (leave_kind h s.around into f.result x s.next) s.line s.next in
    let inner = body.nodes w (fr + zeros) b v in
    let all_slots = fr + length (call_kinds f ++ body.slots) in
    let all_nodes = l + (1 + (zeros + (given + (body.size + 1)))) in
    let tail = r0.nodes all_slots all_nodes in
    let end_slots : fr + zeros + length body.slots + 0 ≡ all_slots = omega (arith, length-append (call_kinds f) body.slots) in
    let end_nodes : b + body.size + 1 ≡ all_nodes = omega arith in
    let r2_is : r2 ≡ before body u leave (before (leave_shape h s.line into f.result free) s.around s.next r0) = e2 ∙ ap (before body u leave) e1 in
    let whole : c4.nodes ≡ ((c0.nodes ++ i1 ∷ []) ++ a) ++ g = q4 ∙ ap (λ x. x ++ g) (q3 ∙ ap (λ x. x ++ a) q1) in
    let behind = λ (y : Around) (m k n fs ps : ℕ). body.nodes y k n m ++ (i6 free ∷ r0.nodes fs ps) in
    record {
      nodes_are =
          ap (λ (r : Rest). c4.nodes ++ r.nodes (length c4.slots) (length c4.nodes)) r2_is
          ∙ ap (λ k. c4.nodes ++ behind u leave k (length c4.nodes) (k + length body.slots + 0) (length c4.nodes + body.size + 1)) f4
          ∙ ap (λ n. c4.nodes ++ behind u leave (fr + zeros) n (fr + zeros + length body.slots + 0) (n + body.size + 1)) n4
          ∙ ap (λ y. c4.nodes ++ behind y leave (fr + zeros) b (fr + zeros + length body.slots + 0) (b + body.size + 1)) same_u
          ∙ ap (λ m. c4.nodes ++ behind w m (fr + zeros) b (fr + zeros + length body.slots + 0) (b + body.size + 1)) p_leave
          ∙ ap (λ fs. c4.nodes ++ behind w v (fr + zeros) b fs (b + body.size + 1)) end_slots
          ∙ ap (λ ps. c4.nodes ++ behind w v (fr + zeros) b all_slots ps) end_nodes
          ∙ ap (λ x. c4.nodes ++ (inner ++ (i6 x ∷ tail))) e_free
          ∙ ap (λ c. c ++ (inner ++ (i6 fr ∷ tail))) whole
          ∙ in_a_row c0.nodes a g inner tail i1 (i6 fr);
      slots_are =
          ap (λ (r : Rest). c4.slots ++ r.slots) r2_is
          ∙ ap (λ c. c ++ (body.slots ++ r0.slots)) s4
          ∙ append_assoc c0.slots (call_kinds f) (body.slots ++ r0.slots)
          ∙ ap (λ c. c0.slots ++ c) (sym (append_assoc (call_kinds f) body.slots r0.slots));
      count_is = omega (arith, n4, ap (λ (r : Rest). r.size) r2_is);
    }

-- a call that finds no function
pub no_call_begun : (x : Shape) (t : Around) (next : ℕ) (r0 : Rest) (c : Code) → x ≡ empty → Goes (before x t next r0) r0 c c
no_call_begun x t next r0 c e =
    let f : length c.slots ≡ length c.slots + 0 = omega arith in
    let n : length c.nodes ≡ length c.nodes + 0 = omega arith in
    subst (λ y. Goes (before y t next r0) r0 c c) (sym e)
    (record {
      nodes_are = ap (λ k. c.nodes ++ r0.nodes k (length c.nodes)) f ∙ ap (λ k. c.nodes ++ r0.nodes (length c.slots + 0) k) n;
      slots_are = refl;
      count_is = omega arith;
    })
