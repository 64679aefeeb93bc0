-- The nodes of every statement are sound where they are laid.
use Rattle.std.proofs.Common.{◌≡◌, ℕ, zero, suc, ◌+◌, ◌<◌, ◌≤◌, ◌⊎◌, inl, inr, List, [], ◌∷◌, ◌++◌, length, map, Bool, true, false, Option, Some, None, refl, sym, ap, ◌∙◌, subst, arith, length-append}
use Rattle.std.specs.Prelude.{slice_get, All, IsSome, IsSomeAnd, min, pos}
use Rattle.std.proofs.lemmas.List.Elements.{recursion_from_All}
use Rattle.std.specs.List.{AllByRecursion}
use Rattle.ooo_lemmas.proofs.Each.{first_part, then_part}
use Rattle.ooo_value.specs.declared.bound.ProcessKind.TheVariants.{Method}
use Rattle.ooo_value.specs.declared.kinds.Kind.{Kind}
use Rattle.ooo_value.specs.declared.values.Value.TheVariants as value
use Rattle.ooo_value.specs.Values.{value_of}
use Rattle.ooo_code.specs.declared.expression.NodeExpr.TheVariants as node
use Rattle.ooo_code.specs.declared.node.Node.{Node}
use Rattle.ooo_code.specs.declared.node.NodeKind.{NodeKind}
use Rattle.ooo_code.specs.declared.node.NodeKind.TheVariants as kind
use Rattle.ooo_code.specs.Expressions.{no_value}
use Rattle.ooo_code.specs.Sound.{Scope, MayBegin}
use Rattle.ooo_bound.specs.declared.expr.BoundExpr.{BoundExpr}
use Rattle.ooo_bound.specs.declared.expr.BoundExpr.TheVariants as bound
use Rattle.ooo_bound.specs.declared.expr.BoundExpr.TheOpen as expr_layer
use Rattle.ooo_bound.specs.declared.model.Bound.{Bound}
use Rattle.ooo_bound.specs.declared.model.BoundFunction.{BoundFunction}
use Rattle.ooo_bound.specs.declared.model.BoundProcess.{BoundProcess}
use Rattle.ooo_bound.specs.declared.stat.BoundItem.{BoundItem}
use Rattle.ooo_bound.specs.declared.stat.BoundRight.{BoundRight}
use Rattle.ooo_bound.specs.declared.stat.BoundRight.TheVariants as right
use Rattle.ooo_bound.specs.declared.stat.BoundSimple.{BoundSimple}
use Rattle.ooo_bound.specs.declared.stat.BoundSimple.TheVariants as simple
use Rattle.ooo_bound.specs.declared.stat.BoundStat.{BoundStat, BoundStat-F, ind-BoundStat, map-BoundStat, roll-BoundStat, fold-roll-BoundStat}
use Rattle.ooo_bound.specs.declared.stat.BoundStat.TheOpen as layer
use Rattle.ooo_bound.specs.declared.stat.BoundTarget.{BoundTarget}
use Rattle.ooo_bound.specs.declared.stat.BoundTarget.TheVariants as target
use Rattle.ooo_bound.specs.declared.stat.LinedSimple.{LinedSimple}
use Rattle.ooo_activation.specs.Kinds.{joined, list_of, simples_step, simples_of, simples_in, values_step, values_of, values_in, may_wait}
use Rattle.ooo_activation.specs.Sound.{FitsExpr, FitsTarget, FitsCall, FitsItem, FitsSimple, FitsFunction}
use Rattle.ooo_shapes.specs.declared.around.Around.{Around}
use Rattle.ooo_shapes.specs.declared.around.Widths.{Widths}
use Rattle.ooo_shapes.specs.Widths.{nothing, both, up_to, kinds_of, expr_widths, option_widths, exprs_widths, target_widths, items_widths, simple_widths, simples_widths, after_widths, all_widths, stat_step, stat_widths, body_widths, params_widths}
use Rattle.ooo_shapes.specs.Expressions.{first_kinds, slot_of, lowered, lowered_time, converted}
use Rattle.ooo_shapes.specs.Simples.{Home, counted, uncounted, put_kind, begins, item_nodes, lowered_wait, read_nodes, write_nodes, nb_read_nodes, nb_write_nodes, update_nodes, update_size}
use Rattle.ooo_shapes.specs.Shapes.{Shape, empty, one, plain, then, all_shapes, Callees, result_kinds, function_widths, zero_nodes, argument_nodes, inside_call, result_expr, leave_kind, call_kinds, call_shape, simple_shape, lined_shape, lined_shapes, if_shape, inside, test_or_true, lead_slots, lead_size, lead_nodes, again_at, loop_shape, do_shape, return_kind, jump_shape, after_shape, shape_step, shape_of, body_shape, callee_by, callees_within}
use Rattle.ooo_shapes.specs.Designs.{home_of}
use Rattle.ooo_shapes.proofs.Frames.{Within, within_left, within_right, within_local, within_same}
use Rattle.ooo_shapes.proofs.Places.{SimpleFound, SimplesFound, FunctionFound, CallFound, Counts, LeadsOn, HasAt, has_front, has_back, after_more}
use Rattle.ooo_shapes.proofs.Enter.{IsFull, begins_some, begins_end, after_begins, zero_full, argument_full, simple_full, lead_full, full_callees, simple_some, simple_back}
use Rattle.ooo_shapes.proofs.Found.{all_at}
use Rattle.ooo_shapes.proofs.Values.{lowered_at}
use Rattle.ooo_shapes.proofs.Typing.{kind_of-value_of, KindsAt, kinds_left, kinds_right, kinds_first, local_kind, kind_so, kind_Constant, converted_kind, kind_some}
use Rattle.ooo_shapes.proofs.Naming.{some_of, Named, Typed_so, set_named, slot_typed, constant_typed, put_named, time_named, wait_named, wait_static}
use Rattle.ooo_shapes.proofs.Flow.{Begins, begins_both, Enter, enters, Way, Flow, AllOk, all_both}
use Rattle.ooo_shapes.proofs.Rooms.{put_begins, update_begins, leave_begins, aim_begins, Room, ahead, from_counted, put_flow, leave_flow, read_ok, write_ok, nb_read_ok, nb_write_ok, update_ok, items_in, items_ok}

module _ (b : Bound) (process : BoundProcess) (code : List Node) (first end : ℕ) (slots : List Kind) (firsts : KindsAt slots 0 first_kinds) (own_events : All (λ e. e < length b.events) process.sensitive) (functions : All (FitsFunction b) b.functions) where
  abbrev In : ℕ → Type 0
  In q = Enter b process code first end slots q

  abbrev Ok : ℕ → List Node → Type 0
  Ok p is = AllOk b process code first end slots p is

  abbrev Has : ℕ → List Node → Type 0
  Has at is = HasAt b process 0 code at is

  abbrev RoomAt : ℕ → ℕ → ℕ → Type 0
  RoomAt size at next = Room b process code first end slots firsts size at next

  abbrev h : Home
  h = home_of b process

  abbrev names : Scope
  names = record { slots = slots; variables = b.variables; channels = b.channels }

  abbrev Way_so : Bool → ℕ → ℕ → Type 0
  Way_so counts p q = Way b process code first end slots counts p q

  abbrev pub ResultAt : Option Kind → ℕ → Type 0
  ResultAt None slot = Unit {0}
  ResultAt (Some k) slot = slice_get slots slot ≡ Some k

  -- what stands around a statement is sound
  pub record Surround (t : Around) : Type 0 where
    pub break_in : In t.break_to
    pub continue_in : In t.continue_to
    pub return_in : In t.return_to
    pub locals : KindsAt slots t.base (kinds_of t.widths)
    pub result : ResultAt t.result t.result_slot

  -- a shape is laid at a place
  pub record Ready (x : Shape) (w : Widths) (t : Around) (free at next : ℕ) : Type 0 where
    pub around : Surround t
    pub within : Within w t.widths
    pub room : RoomAt x.size at next
    pub has : Has at (x.nodes t free at next)
    pub calls : KindsAt slots free x.slots

  -- the nodes of a shape are sound wherever it is laid
  pub record Fine (x : Shape) (w : Widths) : Type 0 where
    pub full : IsFull x
    pub begins : (t : Around) (free at next : ℕ) → Begins (x.nodes t free at next)
    pub ok : (t : Around) (free at next : ℕ) → Ready x w t free at next → Ok at (x.nodes t free at next)

  fine_empty : (w : Widths) → Fine empty w
  fine_empty w = record { full = λ t free at next. refl; begins = λ t free at next. tt; ok = λ t free at next r. tt }

  -- where a shape begins
  begins_in : (x : Shape) (w : Widths) → Fine x w → (t : Around) (free at next : ℕ) → RoomAt x.size at next → Has at (x.nodes t free at next) → In (begins x.size at next)
  begins_in x w g t free at next room has = enters b process code first end slots (x.nodes t free at next) x.size at next (g.full t free at next) (g.begins t free at next) has room.from room.to room.next_in

  -- one after the other
  fine_then : (x y : Shape) (v w : Widths) → Fine x v → Fine y w → Fine ((then) x y) (both v w)
  fine_then x y v w gx gy = record {
    full = λ t free at next.
        let front = x.nodes t free at (begins y.size (at + x.size) next) in
        let back = y.nodes t (free + length x.slots) (at + x.size) next in
        omega (arith, length-append front back, gx.full t free at (begins y.size (at + x.size) next), gy.full t (free + length x.slots) (at + x.size) next);
    begins = λ t free at next. begins_both (x.nodes t free at (begins y.size (at + x.size) next)) (y.nodes t (free + length x.slots) (at + x.size) next) (gx.begins t free at (begins y.size (at + x.size) next)) (gy.begins t (free + length x.slots) (at + x.size) next);
    ok = λ t free at next r.
        let entry = begins y.size (at + x.size) next in
        let front = x.nodes t free at entry in
        let back = y.nodes t (free + length x.slots) (at + x.size) next in
        let n = gx.full t free at entry in
        let has_y = subst (λ n. Has (at + n) back) n (has_back b process 0 code at front back r.has) in
        let room_y : RoomAt y.size (at + x.size) next = record {
          from = omega (arith, r.room.from);
          to = omega (arith, r.room.to);
          after = after_more b process 0 code (at + x.size + y.size) (at + (x.size + y.size)) next (omega arith) r.room.after;
          next_in = r.room.next_in;
        } in
        let room_x : RoomAt x.size at entry = record {
          from = r.room.from;
          to = omega (arith, r.room.to);
          after = after_begins b process 0 code y.size (at + x.size) next room_y.after;
          next_in = begins_in y w gy t (free + length x.slots) (at + x.size) next room_y has_y;
        } in
        let ok_x = gx.ok t free at entry (record { around = r.around; within = within_left v w t.widths r.within; room = room_x; has = has_front b process 0 code at front back r.has; calls = kinds_left slots free x.slots y.slots r.calls }) in
        let ok_y = gy.ok t (free + length x.slots) (at + x.size) next (record { around = r.around; within = within_right v w t.widths r.within; room = room_y; has = has_y; calls = kinds_right slots free x.slots y.slots r.calls }) in
        all_both b process code first end slots at front back ok_x (subst (λ n. Ok (at + n) back) (sym n) ok_y);
  }

  -- ---- calls

  stands_in : (q : ℕ) (i : Node) → slice_get code q ≡ Some i → first ≤ q → q < end → MayBegin i.kind → In q
  stands_in q i is low high k = record {
    from = low;
    below = high;
    begins = λ j is_j.
        let same : Some i ≡ Some j = sym is ∙ is_j in
        let one : i ≡ j = cc in
        subst (λ (j : Node). MayBegin j.kind) one k;
  }

  -- from a place on slots get 0
  zeros_in : (line slot : ℕ) (ks : List Kind) (q : ℕ) → Has q (zero_nodes line slot ks q) → first ≤ q → q + length ks ≤ end → In (q + length ks) → In q
  zeros_in line slot [] q has low high e = let n : q + 0 ≡ q = omega arith in subst In n e
  zeros_in line slot (k ∷ ks) q has low high e = stands_in q _ has.0 low (omega (arith, high)) tt

  zeros_ok : (line slot : ℕ) (ks : List Kind) (q : ℕ) → KindsAt slots slot ks → Has q (zero_nodes line slot ks q) → first ≤ q → q + length ks ≤ end → In (q + length ks) → Ok q (zero_nodes line slot ks q)
  zeros_ok line slot [] q kinds has low high e = tt
  zeros_ok line slot (k ∷ ks) q kinds has low high e =
      let n : q + length (k ∷ ks) ≡ q + 1 + length ks = omega arith in
      let e' = subst In n e in
      let inside = zeros_in line (slot + 1) ks (q + 1) has.1 (omega (arith, low)) (omega (arith, high)) e' in
      let zero_kind = kind_Constant names (value_of k (pos 0)) ∙ ap Some (kind_of-value_of k (pos 0)) in
      ((set_named b process slots firsts slot k (node.Constant (value_of k (pos 0))) (kinds_first slots slot k ks kinds) zero_kind, ahead b process code first end slots firsts false q (q + 1) (omega arith) inside), zeros_ok line (slot + 1) ks (q + 1) (kinds_right slots slot (k ∷ []) ks kinds) has.1 (omega (arith, low)) (omega (arith, high)) e')

  -- the arguments go to the first locals of their kinds
  arguments_in : (t u : Around) (line n : ℕ) (ks : List Kind) (es : List BoundExpr) (q : ℕ) → Has q (argument_nodes t u line n ks es q) → first ≤ q → q + min (length ks) (length es) ≤ end → In (q + min (length ks) (length es)) → In q
  arguments_in t u line n [] [] q has low high e = let m : q + min 0 0 ≡ q = omega arith in subst In m e
  arguments_in t u line n [] (x ∷ es) q has low high e = let m : q + min 0 (suc (length es)) ≡ q = omega arith in subst In m e
  arguments_in t u line n (k ∷ ks) [] q has low high e = let m : q + min (suc (length ks)) 0 ≡ q = omega arith in subst In m e
  arguments_in t u line n (k ∷ ks) (x ∷ es) q has low high e = stands_in q _ has.0 low (omega (arith, high)) tt

  arguments_ok : (t u : Around) (line n : ℕ) (ks : List Kind) (es : List BoundExpr) (q : ℕ) → KindsAt slots t.base (kinds_of t.widths) → KindsAt slots u.base (kinds_of u.widths) → Within (exprs_widths es) t.widths → Within (params_widths n ks) u.widths → AllByRecursion (FitsExpr b) es → Has q (argument_nodes t u line n ks es q) → first ≤ q → q + min (length ks) (length es) ≤ end → In (q + min (length ks) (length es)) → Ok q (argument_nodes t u line n ks es q)
  arguments_ok t u line n [] [] q lt lu w v f has low high e = tt
  arguments_ok t u line n [] (x ∷ es) q lt lu w v f has low high e = tt
  arguments_ok t u line n (k ∷ ks) [] q lt lu w v f has low high e = tt
  arguments_ok t u line n (k ∷ ks) (x ∷ es) q lt lu w v f has low high e =
      let m : q + min (suc (length ks)) (suc (length es)) ≡ q + 1 + min (length ks) (length es) = omega arith in
      let e' = subst In m e in
      let inside = arguments_in t u line (n + 1) ks es (q + 1) has.1 (omega (arith, low)) (omega (arith, high)) e' in
      let typed = converted_kind names k (lowered t x) (kind_some b slots t lt x (within_left (expr_widths x) (exprs_widths es) t.widths w) f.0) in
      let slot = local_kind slots u k n lu (within_local k n u.widths (within_left (up_to k n) (params_widths (n + 1) ks) u.widths v)) in
      ((set_named b process slots firsts (slot_of u k n) k (converted k (lowered t x)) slot typed, ahead b process code first end slots firsts false q (q + 1) (omega arith) inside), arguments_ok t u line (n + 1) ks es (q + 1) lt lu (within_right (expr_widths x) (exprs_widths es) t.widths w) (within_right (up_to k n) (params_widths (n + 1) ks) u.widths v) f.1 has.1 (omega (arith, low)) (omega (arith, high)) e')

  result_typed : (k : Option Kind) (free : ℕ) → ResultAt k free → Typed_so b process slots firsts (result_expr k free)
  result_typed None free r = constant_typed b process slots firsts no_value
  result_typed (Some k) free r = some_of (kind_so names (node.Slot free)) k (slot_typed b process slots firsts free k r)

  leave_named : (t : Around) (into : BoundTarget) (k : Option Kind) (free next : ℕ) → KindsAt slots t.base (kinds_of t.widths) → FitsTarget b into → Within (target_widths into) t.widths → ResultAt k free → Named b process slots firsts (leave_kind h t into k free next)
  leave_named t target.Nothing k free next l f w r = tt
  leave_named t (target.Local j n) k free next l f w r = put_named b process slots firsts t l (target.Local j n) (result_expr k free) next f w (result_typed k free r)
  leave_named t (target.Variable x) k free next l f w r = put_named b process slots firsts t l (target.Variable x) (result_expr k free) next f w (result_typed k free r)
  leave_named t (target.Element x i) k free next l f w r = put_named b process slots firsts t l (target.Element x i) (result_expr k free) next f w (result_typed k free r)
  leave_named t (target.Signal c) k free next l f w r = put_named b process slots firsts t l (target.Signal c) (result_expr k free) next f w (result_typed k free r)

  result_at : (k : Option Kind) (free : ℕ) → KindsAt slots free (result_kinds k) → ResultAt k free
  result_at None free h = tt
  result_at (Some k) free h = kinds_first slots free k [] h

  -- a call of a function whose body is sound
  call_fine : (line : ℕ) (into : BoundTarget) (args : List BoundExpr) (f : BoundFunction) (body : Shape) → Fine body (body_widths f.body) → FitsTarget b into → FitsCall b args f → IsFull (call_shape h line into args (Some (record { function = f; body = body }))) → Fine (call_shape h line into args (Some (record { function = f; body = body }))) (both (target_widths into) (exprs_widths args))
  call_fine line into args f body g ft fc full = record {
    full = full;
    begins = λ t free at next. tt;
    ok = λ t free at next r.
        let ks = call_kinds f in
        let zeros = length ks in
        let given = min (length f.params) (length args) in
        let body_at = at + 1 + zeros + given in
        let leave = body_at + body.size in
        let u = inside_call f free leave in
        let zero_list = zero_nodes line free ks (at + 1) in
        let argument_list = argument_nodes t u line 0 f.params args (at + 1 + zeros) in
        let body_list = body.nodes u (free + zeros) body_at leave in
        let last = uncounted (leave_kind h t into f.result free next) line next ∷ [] in
        let nz = zero_full line free ks (at + 1) in
        let na = argument_full t u line 0 f.params args (at + 1 + zeros) in
        let nb = g.full u (free + zeros) body_at leave in
        let has_1 = r.has.1 in
        let has_zeros = has_front b process 0 code (at + 1) zero_list (argument_list ++ (body_list ++ last)) has_1 in
        let has_2 = subst (λ n. Has (at + 1 + n) (argument_list ++ (body_list ++ last))) nz (has_back b process 0 code (at + 1) zero_list (argument_list ++ (body_list ++ last)) has_1) in
        let has_arguments = has_front b process 0 code (at + 1 + zeros) argument_list (body_list ++ last) has_2 in
        let has_3 = subst (λ n. Has (at + 1 + zeros + n) (body_list ++ last)) na (has_back b process 0 code (at + 1 + zeros) argument_list (body_list ++ last) has_2) in
        let has_body = has_front b process 0 code body_at body_list last has_3 in
        let has_last = subst (λ n. Has (body_at + n) last) nb (has_back b process 0 code body_at body_list last has_3) in
        let low = r.room.from in
        let high : at + (1 + (zeros + (given + (body.size + 1)))) ≤ end = r.room.to in
        let leave_in = stands_in leave _ has_last.0 (omega (arith, low)) (omega (arith, high)) (leave_begins h t into f.result free next) in
        let room_body : RoomAt body.size body_at leave = record { from = omega (arith, low); to = omega (arith, high); after = inl (omega arith); next_in = leave_in } in
        let body_in = subst In (begins_end body.size body_at) (begins_in body (body_widths f.body) g u (free + zeros) body_at leave room_body has_body) in
        let own = kinds_left slots free ks body.slots r.calls in
        let result = result_at f.result free (kinds_left slots free (result_kinds f.result) (kinds_of (function_widths f)) own) in
        let locals_u = kinds_right slots free (result_kinds f.result) (kinds_of (function_widths f)) own in
        let around_u : Surround u = record { break_in = leave_in; continue_in = leave_in; return_in = leave_in; locals = locals_u; result = result } in
        let widths_u = within_same (function_widths f) in
        let arguments_first = arguments_in t u line 0 f.params args (at + 1 + zeros) has_arguments (omega (arith, low)) (omega (arith, high)) body_in in
        let zeros_first = zeros_in line free ks (at + 1) has_zeros (omega (arith, low)) (omega (arith, high)) arguments_first in
        let ok_zeros = zeros_ok line free ks (at + 1) own has_zeros (omega (arith, low)) (omega (arith, high)) arguments_first in
        let ok_arguments = arguments_ok t u line 0 f.params args (at + 1 + zeros) r.around.locals locals_u (within_right (target_widths into) (exprs_widths args) t.widths r.within) (within_left (params_widths 0 f.params) (body_widths f.body) (function_widths f) widths_u) (recursion_from_All (FitsExpr b) args fc.1) has_arguments (omega (arith, low)) (omega (arith, high)) body_in in
        let ok_body = g.ok u (free + zeros) body_at leave (record { around = around_u; within = within_right (params_widths 0 f.params) (body_widths f.body) (function_widths f) widths_u; room = room_body; has = has_body; calls = kinds_right slots free ks body.slots r.calls }) in
        let way_last : Way_so false leave next = (r.room.next_in, λ e. after_more b process 0 code (leave + 1) (at + (1 + (zeros + (given + (body.size + 1))))) next (omega arith) r.room.after) in
        let ok_last : Ok leave last = ((leave_named t into f.result free next r.around.locals ft (within_left (target_widths into) (exprs_widths args) t.widths r.within) result, leave_flow b process code first end slots firsts t into f.result free false leave next way_last), tt) in
        let ok_3 = all_both b process code first end slots body_at body_list last ok_body (subst (λ n. Ok (body_at + n) last) (sym nb) ok_last) in
        let ok_2 = all_both b process code first end slots (at + 1 + zeros) argument_list (body_list ++ last) ok_arguments (subst (λ n. Ok (at + 1 + zeros + n) (body_list ++ last)) (sym na) ok_3) in
        let ok_1 = all_both b process code first end slots (at + 1) zero_list (argument_list ++ (body_list ++ last)) ok_zeros (subst (λ n. Ok (at + 1 + n) (argument_list ++ (body_list ++ last))) (sym nz) ok_2) in
        ((tt, from_counted b process code first end slots firsts at (at + 1) zeros_first), ok_1);
  }

  -- ---- statements without statements in them

  full_of : (depth line : ℕ) (x : BoundSimple) → IsFull (simple_shape h (callees_within depth h) line x)
  full_of depth line x = simple_full h (callees_within depth h) (full_callees b process 0 code [] depth) line x

  -- a statement fits, its call is found, and it waits in a thread only
  pub record SimpleOk (depth : ℕ) (x : LinedSimple) : Type 0 where
    pub fits : FitsSimple b x.simple
    pub found : SimpleFound (CallFound b.functions depth) x.simple
    pub waits : process.kind ≡ Method → may_wait x.simple ≡ false

  abbrev Flow_so : ℕ → NodeKind → ℕ → Type 0
  Flow_so p k next = Flow b process code first end slots true p k next

  -- one node, which counts
  single : (line : ℕ) (f : Around → ℕ → NodeKind) (w : Widths) → ((t : Around) (next : ℕ) → MayBegin (f t next)) → ((t : Around) (at next : ℕ) → Surround t → Within w t.widths → RoomAt 1 at next → Named b process slots firsts (f t next) × Flow_so at (f t next) next) → Fine (one line f) w
  single line f w starts k = record {
    full = λ t free at next. refl;
    begins = λ t free at next. starts t next;
    ok = λ t free at next r. (k t at next r.around r.within r.room, tt);
  }

  way_on : (at next : ℕ) → RoomAt 1 at next → Way_so true at next
  way_on at next room = from_counted b process code first end slots firsts at next room.next_in

  never : (w : process.kind ≡ Method → true ≡ false) → process.kind ≡ Method → ⊥
  never w m = let e : true ≡ false = w m in absurd cc

  abbrev CallsFine : ℕ → Type 0
  CallsFine depth = (line : ℕ) (into : BoundTarget) (args : List BoundExpr) (g : ℕ) → CallFound b.functions depth g → FitsTarget b into → IsSomeAnd (slice_get b.functions g) (FitsCall b args) → Fine (call_shape h line into args (callees_within depth h g)) (both (target_widths into) (exprs_widths args))

  -- some nodes, which call nothing
  several : (n : ℕ) (f : Around → (at next : ℕ) → List Node) (w : Widths) → IsFull (plain n f) → ((t : Around) (at next : ℕ) → Begins (f t at next)) → ((t : Around) (at next : ℕ) → Surround t → Within w t.widths → RoomAt n at next → Has at (f t at next) → Ok at (f t at next)) → Fine (plain n f) w
  several n f w full starts k = record {
    full = full;
    begins = λ t free at next. starts t at next;
    ok = λ t free at next r. k t at next r.around r.within r.room r.has;
  }

  module _ (depth : ℕ) (calls : CallsFine depth) where
    abbrev kin : Callees
    kin = callees_within depth h

    value_fine : (line : ℕ) (into : BoundTarget) (e : BoundExpr) → FitsTarget b into → FitsExpr b e → Fine (one line (λ t next. put_kind h t into (lowered t e) next)) (both (target_widths into) (expr_widths e))
    value_fine line into e f g =
        single line (λ t next. put_kind h t into (lowered t e) next) (both (target_widths into) (expr_widths e)) (λ t next. put_begins h t into (lowered t e) next) (λ t at next s w room. (
          put_named b process slots firsts t s.locals into (lowered t e) next f (within_left (target_widths into) (expr_widths e) t.widths w) (kind_some b slots t s.locals e (within_right (target_widths into) (expr_widths e) t.widths w) g),
          put_flow b process code first end slots firsts t into (lowered t e) true at next (way_on at next room),
        ))

    assign_fine : (line : ℕ) (into : BoundTarget) (r : BoundRight) → SimpleOk depth (record { line = line; simple = simple.Assign into r }) → Fine (simple_shape h kin line (simple.Assign into r)) (simple_widths (simple.Assign into r))
    assign_fine line into (right.Value e) o = value_fine line into e o.fits.0 o.fits.1
    assign_fine line into (right.Call g args) o = calls line into args g o.found o.fits.0 o.fits.1
    assign_fine line into (right.Read c) o =
        several 4 (λ t at next. read_nodes h t into c line at next) (both (target_widths into) nothing) (full_of depth line (simple.Assign into (right.Read c))) (λ t at next. tt) (λ t at next s w room has.
        read_ok b process code first end slots firsts t s.locals into c line at next o.fits.0 (within_left (target_widths into) nothing t.widths w) o.fits.1 (never o.waits) room has)
    assign_fine line into (right.NbRead c x) o =
        several 6 (λ t at next. nb_read_nodes h t into c x line at next) (both (target_widths into) (target_widths x)) (full_of depth line (simple.Assign into (right.NbRead c x))) (λ t at next. aim_begins h t x) (λ t at next s w room has.
        nb_read_ok b process code first end slots firsts t s.locals into c x line at next o.fits.0 (within_left (target_widths into) (target_widths x) t.widths w) o.fits.1.1 (within_right (target_widths into) (target_widths x) t.widths w) o.fits.1.0 room has)
    assign_fine line into (right.NbWrite c e) o =
        several 5 (λ t at next. nb_write_nodes h t into c e line at next) (both (target_widths into) (expr_widths e)) (full_of depth line (simple.Assign into (right.NbWrite c e))) (λ t at next. tt) (λ t at next s w room has.
        nb_write_ok b process code first end slots firsts t s.locals into c e line at next o.fits.0 (within_left (target_widths into) (expr_widths e) t.widths w) o.fits.1.1 (within_right (target_widths into) (expr_widths e) t.widths w) o.fits.1.0 room has)

    print_fine : (line : ℕ) (items : List BoundItem) → SimpleOk depth (record { line = line; simple = simple.Print items }) → Fine (simple_shape h kin line (simple.Print items)) (items_widths items)
    print_fine line items o =
        several (1 + length items) (λ t at next. counted kind.Goto line (begins (length items) (at + 1) next) ∷ item_nodes t items line (at + 1) next) (items_widths items) (full_of depth line (simple.Print items)) (λ t at next. tt) (λ t at next s w room has.
        let inside = items_in b process code first end slots firsts t s.locals items line (1 + length items) at next (at + 1) room (omega arith) (omega arith) has.1 in
        let rest = items_ok b process code first end slots firsts t s.locals items line (1 + length items) at next (at + 1) (recursion_from_All (FitsItem b) items o.fits) w room (omega arith) (omega arith) has.1 in
        ((tt, from_counted b process code first end slots firsts at (begins (length items) (at + 1) next) inside), rest))

    pub simple_fine : (line : ℕ) (x : BoundSimple) → SimpleOk depth (record { line = line; simple = x }) → Fine (simple_shape h kin line x) (simple_widths x)
    simple_fine line (simple.Assign into r) o = assign_fine line into r o
    simple_fine line (simple.Update into op e) o =
        several (update_size into) (λ t at next. update_nodes h t into op e line at next) (both (target_widths into) (expr_widths e)) (full_of depth line (simple.Update into op e)) (λ t at next. update_begins h t into op e line at next) (λ t at next s w room has.
        update_ok b process code first end slots firsts t s.locals into op e line at next o.fits.0 (within_left (target_widths into) (expr_widths e) t.widths w) o.fits.1 (within_right (target_widths into) (expr_widths e) t.widths w) room has)
    simple_fine line (simple.Write c e) o =
        several 4 (λ t at next. write_nodes h t c e line at next) (expr_widths e) (full_of depth line (simple.Write c e)) (λ t at next. tt) (λ t at next s w room has.
        write_ok b process code first end slots firsts t s.locals c e line at next o.fits.1 w o.fits.0 (never o.waits) room has)
    simple_fine line (simple.Notify e k) o =
        single line (λ t next. kind.Notify e (lowered_time t k)) (simple_widths (simple.Notify e k)) (λ t next. tt) (λ t at next s w room. ((o.fits.0, time_named b process slots firsts t s.locals k o.fits.1 w), way_on at next room))
    simple_fine line (simple.Cancel e) o = single line (λ t next. kind.Cancel e) nothing (λ t next. tt) (λ t at next s w room. (o.fits, way_on at next room))
    simple_fine line (simple.Wait v) o =
        single line (λ t next. kind.Wait (lowered_wait h t v)) (simple_widths (simple.Wait v)) (λ t next. tt) (λ t at next s w room. (
          wait_named b process slots firsts t s.locals v own_events o.fits w,
          (room.next_in, wait_static b process slots firsts t s.locals v, never o.waits),
        ))
    simple_fine line (simple.NextTrigger v) o =
        single line (λ t next. kind.Trigger (lowered_wait h t v)) (simple_widths (simple.NextTrigger v)) (λ t next. tt) (λ t at next s w room. (
          wait_named b process slots firsts t s.locals v own_events o.fits w,
          (way_on at next room, wait_static b process slots firsts t s.locals v),
        ))
    simple_fine line simple.Stop o = single line (λ t next. kind.Stop) nothing (λ t next. tt) (λ t at next s w room. (tt, way_on at next room))
    simple_fine line (simple.Print items) o = print_fine line items o

    simples_fine : (xs : List LinedSimple) → AllByRecursion (SimpleOk depth) xs → Fine (lined_shapes h kin xs) (simples_widths xs)
    simples_fine [] f = fine_empty nothing
    simples_fine (x ∷ xs) f = fine_then (lined_shape h kin x) (lined_shapes h kin xs) (simple_widths x.simple) (simples_widths xs) (simple_fine x.line x.simple f.0) (simples_fine xs f.1)

    -- ---- tests, loops and jumps

    if_fine : (line : ℕ) (e : BoundExpr) (x y : Shape) (v w : Widths) → FitsExpr b e → Fine x v → Fine y w → Fine (if_shape line e x y) (both (expr_widths e) (both v w))
    if_fine line e x y v w f gx gy = record {
      full = λ t free at next.
          let front = x.nodes t free (at + 1) next in
          let back = y.nodes t (free + length x.slots) (at + 1 + x.size) next in
          omega (arith, length-append front back, gx.full t free (at + 1) next, gy.full t (free + length x.slots) (at + 1 + x.size) next);
      begins = λ t free at next. tt;
      ok = λ t free at next r.
          let front = x.nodes t free (at + 1) next in
          let back = y.nodes t (free + length x.slots) (at + 1 + x.size) next in
          let n = gx.full t free (at + 1) next in
          let low = r.room.from in
          let high : at + (1 + (x.size + y.size)) ≤ end = r.room.to in
          let has_y = subst (λ n. Has (at + 1 + n) back) n (has_back b process 0 code (at + 1) front back r.has.1) in
          let has_x = has_front b process 0 code (at + 1) front back r.has.1 in
          let inner_widths = within_right (expr_widths e) (both v w) t.widths r.within in
          let room_x : RoomAt x.size (at + 1) next = record { from = omega (arith, low); to = omega (arith, high); after = after_more b process 0 code (at + 1 + x.size) (at + (1 + (x.size + y.size))) next (omega arith) r.room.after; next_in = r.room.next_in } in
          let room_y : RoomAt y.size (at + 1 + x.size) next = record { from = omega (arith, low); to = omega (arith, high); after = after_more b process 0 code (at + 1 + x.size + y.size) (at + (1 + (x.size + y.size))) next (omega arith) r.room.after; next_in = r.room.next_in } in
          let first_in = begins_in x v gx t free (at + 1) next room_x has_x in
          let second_in = begins_in y w gy t (free + length x.slots) (at + 1 + x.size) next room_y has_y in
          let ok_x = gx.ok t free (at + 1) next (record { around = r.around; within = within_left v w t.widths inner_widths; room = room_x; has = has_x; calls = kinds_left slots free x.slots y.slots r.calls }) in
          let ok_y = gy.ok t (free + length x.slots) (at + 1 + x.size) next (record { around = r.around; within = within_right v w t.widths inner_widths; room = room_y; has = has_y; calls = kinds_right slots free x.slots y.slots r.calls }) in
          let test = kind_some b slots t r.around.locals e (within_left (expr_widths e) (both v w) t.widths r.within) f in
          ((test, (from_counted b process code first end slots firsts at (begins x.size (at + 1) next) first_in, from_counted b process code first end slots firsts at (begins y.size (at + 1 + x.size) next) second_in)), all_both b process code first end slots (at + 1) front back ok_x (subst (λ n. Ok (at + 1 + n) back) (sym n) ok_y));
    }

    -- the test of a loop has a kind
    test_typed : (t : Around) (e : Option BoundExpr) → KindsAt slots t.base (kinds_of t.widths) → AllByRecursion (FitsExpr b) (list_of e) → Within (option_widths e) t.widths → IsSome (kind_so names (lowered t (test_or_true e)))
    test_typed t None l f w =
        let e : lowered t (bound.Constant (value.Bool true)) ≡ node.Constant (value.Bool true) = ap (lowered t) (sym (bound.rolls-Constant (value.Bool true))) ∙ lowered_at t (expr_layer.Constant (value.Bool true)) in
        subst (λ e. IsSome (kind_so names e)) (sym e) (constant_typed b process slots firsts (value.Bool true))
    test_typed t (Some e) l f w = kind_some b slots t l e w f.0

    -- what stands before a loop's test
    record LeadFine (after : Option LinedSimple) (t : Around) (line free at : ℕ) : Type 0 where
      again_in : In (again_at (after_shape h kin after) at)
      back : Counts b process 0 code (again_at (after_shape h kin after) at) ⊎ LeadsOn b process 0 code (again_at (after_shape h kin after) at)
      ok : Ok at (lead_nodes (after_shape h kin after) t line free at)

    lead_begins : (after : Option LinedSimple) (t : Around) (line free at : ℕ) → Begins (lead_nodes (after_shape h kin after) t line free at)
    lead_begins None t line free at = tt
    lead_begins (Some x) t line free at = tt

    lead_fine : (after : Option LinedSimple) (t : Around) (line free at : ℕ) → Surround t → Within (after_widths after) t.widths → AllByRecursion (SimpleOk depth) (list_of after) → Has at (lead_nodes (after_shape h kin after) t line free at) → KindsAt slots free (lead_slots (after_shape h kin after)) → first ≤ at → at + lead_size (after_shape h kin after) ≤ end → In (at + lead_size (after_shape h kin after)) → Counts b process 0 code (at + lead_size (after_shape h kin after)) → LeadFine after t line free at
    lead_fine None t line free at s w f has kinds low high test_in c =
        let e : at + 0 ≡ at = omega arith in
        record { again_in = subst In e test_in; back = inl (subst (λ q. Counts b process 0 code q) e c); ok = tt }
    lead_fine (Some x) t line free at s w f has kinds low high test_in c =
        let a = lined_shape h kin x in
        let g = simple_fine x.line x.simple f.0 in
        let e : at + (1 + a.size) ≡ at + 1 + a.size = omega arith in
        let next_in = subst In e test_in in
        let room : RoomAt a.size (at + 1) (at + 1 + a.size) = record { from = omega (arith, low); to = omega (arith, high); after = inl (omega arith); next_in = next_in } in
        let again = begins_some a.size (at + 1) (at + 1 + a.size) (simple_some b process 0 code depth x.line x.simple f.0.found) in
        let ready : Ready a (simple_widths x.simple) t free (at + 1) (at + 1 + a.size) = record { around = s; within = w; room = room; has = has.1; calls = kinds } in
        record {
          again_in = begins_in a (simple_widths x.simple) g t free (at + 1) (at + 1 + a.size) room has.1;
          back = subst (λ q. Counts b process 0 code q ⊎ LeadsOn b process 0 code q) (sym again) (simple_back b process 0 code depth x.line x.simple t free (at + 1) (at + 1 + a.size) f.0.found has.1);
          ok = ((tt, ahead b process code first end slots firsts false at (at + 1 + a.size) (omega arith) next_in), g.ok t free (at + 1) (at + 1 + a.size) ready);
        }

    -- a loop that begins with its test
    loop_fine : (line : ℕ) (e : Option BoundExpr) (after : Option LinedSimple) (body : Shape) (w v : Widths) → AllByRecursion (FitsExpr b) (list_of e) → AllByRecursion (SimpleOk depth) (list_of after) → Fine body v → ((t : Widths) → Within w t → Within (option_widths e) t) → ((t : Widths) → Within w t → Within (after_widths after) t) → ((t : Widths) → Within w t → Within v t) → Fine (loop_shape line (test_or_true e) (after_shape h kin after) body) w
    loop_fine line e after body w v fe fa g we wa wv =
        let s = after_shape h kin after in
        let fc = full_callees b process 0 code [] depth in
        record {
          full = λ t free at next.
              let test = at + lead_size s in
              let again = again_at s at in
              let back = body.nodes (inside t next again) (free + length (lead_slots s)) (test + 1) again in
              let node = counted (kind.Test (lowered t (test_or_true e)) next) line (begins body.size (test + 1) again) in
              omega (arith, length-append (lead_nodes s t line free at) (node ∷ back), lead_full h kin fc after t line free at, g.full (inside t next again) (free + length (lead_slots s)) (test + 1) again);
          begins = λ t free at next.
              let test = at + lead_size s in
              let again = again_at s at in
              let back = body.nodes (inside t next again) (free + length (lead_slots s)) (test + 1) again in
              let node = counted (kind.Test (lowered t (test_or_true e)) next) line (begins body.size (test + 1) again) in
              begins_both (lead_nodes s t line free at) (node ∷ back) (lead_begins after t line free at) tt;
          ok = λ t free at next r.
              let test = at + lead_size s in
              let again = again_at s at in
              let front = lead_nodes s t line free at in
              let u = inside t next again in
              let back = body.nodes u (free + length (lead_slots s)) (test + 1) again in
              let node = counted (kind.Test (lowered t (test_or_true e)) next) line (begins body.size (test + 1) again) in
              let n = lead_full h kin fc after t line free at in
              let low = r.room.from in
              let high : at + (lead_size s + (1 + body.size)) ≤ end = r.room.to in
              let has_rest = subst (λ n. Has (at + n) (node ∷ back)) n (has_back b process 0 code at front (node ∷ back) r.has) in
              let test_in = stands_in test node has_rest.0 (omega (arith, low)) (omega (arith, high)) tt in
              let lead = lead_fine after t line free at r.around (wa t.widths r.within) fa (has_front b process 0 code at front (node ∷ back) r.has) (kinds_left slots free (lead_slots s) body.slots r.calls) low (omega (arith, high)) test_in (node, has_rest.0, refl) in
              let around_u : Surround u = record { break_in = r.room.next_in; continue_in = lead.again_in; return_in = r.around.return_in; locals = r.around.locals; result = r.around.result } in
              let room_body : RoomAt body.size (test + 1) again = record { from = omega (arith, low); to = omega (arith, high); after = inr lead.back; next_in = lead.again_in } in
              let body_in = begins_in body v g u (free + length (lead_slots s)) (test + 1) again room_body has_rest.1 in
              let ok_body = g.ok u (free + length (lead_slots s)) (test + 1) again (record { around = around_u; within = wv t.widths r.within; room = room_body; has = has_rest.1; calls = kinds_right slots free (lead_slots s) body.slots r.calls }) in
              let typed = test_typed t e r.around.locals fe (we t.widths r.within) in
              let ok_rest : Ok test (node ∷ back) = ((typed, (from_counted b process code first end slots firsts test (begins body.size (test + 1) again) body_in, from_counted b process code first end slots firsts test next r.room.next_in)), ok_body) in
              all_both b process code first end slots at front (node ∷ back) lead.ok (subst (λ n. Ok (at + n) (node ∷ back)) (sym n) ok_rest);
        }

    -- a loop that begins with its body
    do_fine : (line : ℕ) (e : BoundExpr) (body : Shape) (v : Widths) → FitsExpr b e → Fine body v → Fine (do_shape line e body) (both v (expr_widths e))
    do_fine line e body v f g = record {
      full = λ t free at next.
          let test = at + body.size in
          let front = body.nodes (inside t next test) free at test in
          let node = counted (kind.Test (lowered t e) next) line at in
          omega (arith, length-append front (node ∷ []), g.full (inside t next test) free at test);
      begins = λ t free at next.
          let test = at + body.size in
          let node = counted (kind.Test (lowered t e) next) line at in
          begins_both (body.nodes (inside t next test) free at test) (node ∷ []) (g.begins (inside t next test) free at test) tt;
      ok = λ t free at next r.
          let test = at + body.size in
          let u = inside t next test in
          let front = body.nodes u free at test in
          let node = counted (kind.Test (lowered t e) next) line at in
          let n = g.full u free at test in
          let low = r.room.from in
          let high : at + (body.size + 1) ≤ end = r.room.to in
          let has_test = subst (λ n. Has (at + n) (node ∷ [])) n (has_back b process 0 code at front (node ∷ []) r.has) in
          let has_body = has_front b process 0 code at front (node ∷ []) r.has in
          let test_in = stands_in test node has_test.0 (omega (arith, low)) (omega (arith, high)) tt in
          let room_body : RoomAt body.size at test = record { from = low; to = omega (arith, high); after = inl (omega arith); next_in = test_in } in
          let body_in = subst In (begins_end body.size at) (begins_in body v g u free at test room_body has_body) in
          let around_u : Surround u = record { break_in = r.room.next_in; continue_in = test_in; return_in = r.around.return_in; locals = r.around.locals; result = r.around.result } in
          let ok_body = g.ok u free at test (record { around = around_u; within = within_left v (expr_widths e) t.widths r.within; room = room_body; has = has_body; calls = r.calls }) in
          let typed = kind_some b slots t r.around.locals e (within_right v (expr_widths e) t.widths r.within) f in
          let ok_test : Ok test (node ∷ []) = ((typed, (from_counted b process code first end slots firsts test at body_in, from_counted b process code first end slots firsts test next r.room.next_in)), tt) in
          all_both b process code first end slots at front (node ∷ []) ok_body (subst (λ n. Ok (at + n) (node ∷ [])) (sym n) ok_test);
    }

    -- a jump
    jump_fine : (line : ℕ) (f : Around → NodeKind) (to : Around → ℕ) (w : Widths) → ((t : Around) → MayBegin (f t)) → ((t : Around) (at : ℕ) → Surround t → Within w t.widths → Named b process slots firsts (f t) × Flow_so at (f t) (to t)) → Fine (jump_shape line f to) w
    jump_fine line f to w starts k = record {
      full = λ t free at next. refl;
      begins = λ t free at next. starts t;
      ok = λ t free at next r. (k t at r.around r.within, tt);
    }

    abbrev return_by : Around → BoundExpr → Option Kind → NodeKind
    return_by t e o = elim o [ None ↦ kind.Test (lowered t e) t.return_to | Some k ↦ kind.Set t.result_slot (converted k (lowered t e)) ]

    return_starts : (t : Around) (e : BoundExpr) (o : Option Kind) → MayBegin (return_by t e o)
    return_starts t e None = tt
    return_starts t e (Some k) = tt

    return_begins : (t : Around) (e : Option BoundExpr) → MayBegin (return_kind t e)
    return_begins t None = tt
    return_begins t (Some e) = return_starts t e t.result

    return_by_ok : (t : Around) (at : ℕ) (e : BoundExpr) (o : Option Kind) → Surround t → ResultAt o t.result_slot → Within (expr_widths e) t.widths → FitsExpr b e → Named b process slots firsts (return_by t e o) × Flow_so at (return_by t e o) t.return_to
    return_by_ok t at e None s result w f =
        let way = from_counted b process code first end slots firsts at t.return_to s.return_in in (kind_some b slots t s.locals e w f, (way, way))
    return_by_ok t at e (Some k) s result w f = (set_named b process slots firsts t.result_slot k (converted k (lowered t e)) result (converted_kind names k (lowered t e) (kind_some b slots t s.locals e w f)), from_counted b process code first end slots firsts at t.return_to s.return_in)

    return_ok : (t : Around) (at : ℕ) (e : Option BoundExpr) → Surround t → Within (option_widths e) t.widths → AllByRecursion (FitsExpr b) (list_of e) → Named b process slots firsts (return_kind t e) × Flow_so at (return_kind t e) t.return_to
    return_ok t at None s w f = (tt, from_counted b process code first end slots firsts at t.return_to s.return_in)
    return_ok t at (Some e) s w f = return_by_ok t at e t.result s s.result w f.0

    -- ---- every statement

    abbrev shape : BoundStat → Shape
    shape s = shape_of h kin s

    abbrev P : BoundStat → Type 0
    P s = AllByRecursion (SimpleOk depth) (simples_of s) → AllByRecursion (FitsExpr b) (values_of s) → Fine (shape s) (stat_widths s)

    shape_at : (x : BoundStat-F BoundStat) → shape (roll-BoundStat x) ≡ shape_step h kin (map-BoundStat BoundStat Shape shape x)
    unfolding shape_of
    shape_at x = fold-roll-BoundStat Shape (shape_step h kin) x

    widths_at : (x : BoundStat-F BoundStat) → stat_widths (roll-BoundStat x) ≡ stat_step (map-BoundStat BoundStat Widths stat_widths x)
    unfolding stat_widths
    widths_at x = fold-roll-BoundStat Widths stat_step x

    simples_at : (x : BoundStat-F BoundStat) → simples_of (roll-BoundStat x) ≡ simples_step (map-BoundStat BoundStat (List LinedSimple) simples_of x)
    unfolding simples_of
    simples_at x = fold-roll-BoundStat (List LinedSimple) simples_step x

    values_at : (x : BoundStat-F BoundStat) → values_of (roll-BoundStat x) ≡ values_step (map-BoundStat BoundStat (List BoundExpr) values_of x)
    unfolding values_of
    values_at x = fold-roll-BoundStat (List BoundExpr) values_step x

    by_layer : (x : BoundStat-F BoundStat) → (AllByRecursion (SimpleOk depth) (simples_step (map-BoundStat BoundStat (List LinedSimple) simples_of x)) → AllByRecursion (FitsExpr b) (values_step (map-BoundStat BoundStat (List BoundExpr) values_of x)) → Fine (shape_step h kin (map-BoundStat BoundStat Shape shape x)) (stat_step (map-BoundStat BoundStat Widths stat_widths x))) → P (roll-BoundStat x)
    by_layer x g ss vs =
        subst (λ y. Fine y (stat_widths (roll-BoundStat x))) (sym (shape_at x))
        (subst (λ w. Fine (shape_step h kin (map-BoundStat BoundStat Shape shape x)) w) (sym (widths_at x))
        (g (subst (AllByRecursion (SimpleOk depth)) (simples_at x) ss) (subst (AllByRecursion (FitsExpr b)) (values_at x) vs)))

    abbrev Shown : Type 0
    Shown = (s : BoundStat) × P s

    abbrev stat_in : Shown → BoundStat
    stat_in p = p.0

    -- the parts of a block
    all_fine : (ys : List Shown) → AllByRecursion (SimpleOk depth) (joined (map simples_of (map stat_in ys))) → AllByRecursion (FitsExpr b) (joined (map values_of (map stat_in ys))) → Fine (all_shapes (map shape (map stat_in ys))) (all_widths (map stat_widths (map stat_in ys)))
    all_fine [] ss vs = fine_empty nothing
    all_fine (y ∷ ys) ss vs =
        let rest_simples = joined (map simples_of (map stat_in ys)) in
        let rest_values = joined (map values_of (map stat_in ys)) in
        fine_then (shape y.0) (all_shapes (map shape (map stat_in ys))) (stat_widths y.0) (all_widths (map stat_widths (map stat_in ys)))
        (y.1 (first_part (SimpleOk depth) (simples_of y.0) rest_simples ss) (first_part (FitsExpr b) (values_of y.0) rest_values vs))
        (all_fine ys (then_part (SimpleOk depth) (simples_of y.0) rest_simples ss) (then_part (FitsExpr b) (values_of y.0) rest_values vs))

    choice_fine : (line : ℕ) (e : BoundExpr) (x : Shown) (y : Option Shown) → P (roll-BoundStat (map-BoundStat Shown BoundStat stat_in (layer.If line e x y)))
    choice_fine line e x None =
        by_layer (layer.If line e x.0 None) (λ ss vs.
        if_fine line e (shape x.0) empty (stat_widths x.0) nothing vs.0 (x.1 (first_part (SimpleOk depth) (simples_of x.0) [] ss) (first_part (FitsExpr b) (values_of x.0) [] vs.1)) (fine_empty nothing))
    choice_fine line e x (Some y) =
        by_layer (layer.If line e x.0 (Some y.0)) (λ ss vs.
        if_fine line e (shape x.0) (shape y.0) (stat_widths x.0) (stat_widths y.0) vs.0 (x.1 (first_part (SimpleOk depth) (simples_of x.0) (simples_of y.0) ss) (first_part (FitsExpr b) (values_of x.0) (values_of y.0) vs.1)) (y.1 (then_part (SimpleOk depth) (simples_of x.0) (simples_of y.0) ss) (then_part (FitsExpr b) (values_of x.0) (values_of y.0) vs.1)))

    while_fine : (line : ℕ) (e : BoundExpr) (x : Shown) → P (roll-BoundStat (map-BoundStat Shown BoundStat stat_in (layer.While line e x)))
    while_fine line e x =
        by_layer (layer.While line e x.0) (λ ss vs.
        let v = stat_widths x.0 in
        let w = both (expr_widths e) v in
        loop_fine line (Some e) None (shape x.0) w v (vs.0, tt) tt (x.1 ss vs.1) (λ t i. within_left (expr_widths e) v t i) (λ t i. record { bools = omega arith; ints = omega arith; uints = omega arith; longs = omega arith; ulongs = omega arith }) (λ t i. within_right (expr_widths e) v t i))

    for_fine : (line : ℕ) (begin : List LinedSimple) (e : Option BoundExpr) (after : Option LinedSimple) (x : Shown) → P (roll-BoundStat (map-BoundStat Shown BoundStat stat_in (layer.For line begin e after x)))
    for_fine line begin e after x =
        by_layer (layer.For line begin e after x.0) (λ ss vs.
        let v = stat_widths x.0 in
        let rest = both (after_widths after) v in
        let w = both (option_widths e) rest in
        let front = first_part (SimpleOk depth) (begin ++ list_of after) (simples_of x.0) ss in
        let body = x.1 (then_part (SimpleOk depth) (begin ++ list_of after) (simples_of x.0) ss) (then_part (FitsExpr b) (list_of e) (values_of x.0) vs) in
        fine_then (lined_shapes h kin begin) (loop_shape line (test_or_true e) (after_shape h kin after) (shape x.0)) (simples_widths begin) w (simples_fine begin (first_part (SimpleOk depth) begin (list_of after) front))
        (loop_fine line e after (shape x.0) w v (first_part (FitsExpr b) (list_of e) (values_of x.0) vs) (then_part (SimpleOk depth) begin (list_of after) front) body (λ t i. within_left (option_widths e) rest t i) (λ t i. within_left (after_widths after) v t (within_right (option_widths e) rest t i)) (λ t i. within_right (after_widths after) v t (within_right (option_widths e) rest t i))))

    layer_fine : (y : BoundStat-F Shown) → P (roll-BoundStat (map-BoundStat Shown BoundStat stat_in y))
    layer_fine (layer.Block parts) = by_layer (layer.Block (map stat_in parts)) (all_fine parts)
    layer_fine (layer.Simple x) = by_layer (layer.Simple x) (λ ss vs. simple_fine x.line x.simple ss.0)
    layer_fine (layer.If line e x y) = choice_fine line e x y
    layer_fine (layer.While line e x) = while_fine line e x
    layer_fine (layer.Do line x e) = by_layer (layer.Do line x.0 e) (λ ss vs. do_fine line e (shape x.0) (stat_widths x.0) (then_part (FitsExpr b) (values_of x.0) (e ∷ []) vs).0 (x.1 ss (first_part (FitsExpr b) (values_of x.0) (e ∷ []) vs)))
    layer_fine (layer.For line begin e after x) = for_fine line begin e after x
    layer_fine (layer.Break line) = by_layer (layer.Break line) (λ ss vs. jump_fine line (λ t. kind.Goto) (λ t. t.break_to) nothing (λ t. tt) (λ t at s w. (tt, from_counted b process code first end slots firsts at t.break_to s.break_in)))
    layer_fine (layer.Continue line) = by_layer (layer.Continue line) (λ ss vs. jump_fine line (λ t. kind.Goto) (λ t. t.continue_to) nothing (λ t. tt) (λ t at s w. (tt, from_counted b process code first end slots firsts at t.continue_to s.continue_in)))
    layer_fine (layer.Return line e) = by_layer (layer.Return line e) (λ ss vs. jump_fine line (λ t. return_kind t e) (λ t. t.return_to) (option_widths e) (λ t. return_begins t e) (λ t at s w. return_ok t at e s w vs))

    stat_fine : (s : BoundStat) → P s
    stat_fine = ind-BoundStat P (λ x y e. subst (λ x. P (roll-BoundStat x)) e (layer_fine y))

    body_fine_with : (ss : List BoundStat) → AllByRecursion (SimpleOk depth) (simples_in ss) → AllByRecursion (FitsExpr b) (values_in ss) → Fine (body_shape h kin ss) (body_widths ss)
    body_fine_with [] f g = fine_empty nothing
    body_fine_with (s ∷ ss) f g =
        fine_then (shape s) (body_shape h kin ss) (stat_widths s) (body_widths ss) (stat_fine s (first_part (SimpleOk depth) (simples_of s) (simples_in ss) f) (first_part (FitsExpr b) (values_of s) (values_in ss) g))
        (body_fine_with ss (then_part (SimpleOk depth) (simples_of s) (simples_in ss) f) (then_part (FitsExpr b) (values_of s) (values_in ss) g))

  -- each statement of a body is sound
  pub each_ok : (depth : ℕ) (xs : List LinedSimple) → All (λ x. FitsSimple b x.simple) xs → SimplesFound (CallFound b.functions depth) xs → (process.kind ≡ Method → All (λ x. may_wait x.simple ≡ false) xs) → AllByRecursion (SimpleOk depth) xs
  each_ok depth [] fits found waits = tt
  each_ok depth (x ∷ xs) fits found waits = (
    record { fits = fits 0 x (omega arith); found = found.0; waits = λ m. waits m 0 x (omega arith) },
    each_ok depth xs (λ k d lt. fits (suc k) d (omega (arith, lt))) found.1 (λ m k d lt. waits m (suc k) d (omega (arith, lt))),
  )

  -- a call of a function that is looked up
  call_looked : (k : ℕ) → CallsFine k → (line : ℕ) (into : BoundTarget) (args : List BoundExpr) (g : ℕ) (o : Option BoundFunction) → slice_get b.functions g ≡ o → FunctionFound (CallFound b.functions k) o → FitsTarget b into → IsSomeAnd o (FitsCall b args) → IsFull (call_shape h line into args (callee_by (body_shape h (callees_within k h)) o)) → Fine (call_shape h line into args (callee_by (body_shape h (callees_within k h)) o)) (both (target_widths into) (exprs_widths args))
  call_looked k calls line into args g None e found ft fc full = absurd found
  call_looked k calls line into args g (Some f) e found ft fc full =
      let fits = all_at (FitsFunction b) b.functions g f functions e in
      let body = body_fine_with k calls f.body (each_ok k (simples_in f.body) fits.body.simples found (λ m. fits.waits)) (recursion_from_All (FitsExpr b) (values_in f.body) fits.body.values) in
      call_fine line into args f (body_shape h (callees_within k h) f.body) body ft fc full

  calls_fine : (depth : ℕ) → CallsFine depth
  calls_fine zero line into args g found ft fc = absurd found
  calls_fine (suc k) line into args g found ft fc =
      call_looked k (calls_fine k) line into args g (slice_get b.functions g) refl found ft fc (full_of (suc k) line (simple.Assign into (right.Call g args)))

  -- the nodes of a body are sound where they are laid
  pub body_fine : (depth : ℕ) (ss : List BoundStat) → AllByRecursion (SimpleOk depth) (simples_in ss) → AllByRecursion (FitsExpr b) (values_in ss) → Fine (body_shape h (callees_within depth h) ss) (body_widths ss)
  body_fine depth ss f g = body_fine_with depth (calls_fine depth) ss f g
