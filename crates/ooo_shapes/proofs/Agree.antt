-- From the same place so many statements and so many nodes do the same.
use Rattle.std.proofs.Common.{◌≡◌, ℕ, zero, suc, ◌+◌, ◌<◌, inl, ⊎_elim, List, [], ◌∷◌, length, true, Option, Some, None, Ok, refl, sym, ap, ◌∙◌, subst, arith}
use Rattle.std.specs.Prelude.{slice_get, slice_set}
use Rattle.std.proofs.lemmas.List.{length-set, get_or-set_same}
use Rattle.ooo_time.specs.declared.stamp.Stamp.{Stamp}
use Rattle.ooo_value.specs.declared.bound.ProcessKind.{ProcessKind}
use Rattle.ooo_value.specs.declared.bound.ProcessKind.TheVariants.{Thread, Method}
use Rattle.ooo_value.specs.declared.kinds.Kind.{Kind}
use Rattle.ooo_value.specs.declared.values.Value.{Value}
use Rattle.ooo_value.specs.declared.values.Value.TheVariants as value
use Rattle.ooo_value.specs.Operators.{Answer}
use Rattle.ooo_value.specs.Values.{conversion_of}
use Rattle.ooo_code.specs.declared.activation.Frame.{Frame as NodeFrame}
use Rattle.ooo_code.specs.declared.activation.WaitOn.{WaitOn}
use Rattle.ooo_code.specs.declared.node.Node.{Node}
use Rattle.ooo_code.specs.declared.node.NodeKind.{NodeKind}
use Rattle.ooo_code.specs.declared.node.NodeKind.TheVariants as kind
use Rattle.ooo_code.specs.declared.segment.SegmentEntry.{SegmentEntry}
use Rattle.ooo_code.specs.Expressions.{no_value, on_value, by_truth, fifo_seen}
use Rattle.ooo_code.specs.Expressions as over_slots
use Rattle.ooo_code.specs.declared.activation.JobEnd.TheVariants as job
use Rattle.ooo_code.specs.Nodes as by_nodes
use Rattle.ooo_code.specs.Outcomes.{Outcome}
use Rattle.ooo_bound.specs.declared.expr.BoundExpr.{BoundExpr}
use Rattle.ooo_bound.specs.declared.expr.BoundExpr.TheVariants as bound
use Rattle.ooo_bound.specs.declared.model.Bound.{Bound}
use Rattle.ooo_bound.specs.declared.model.BoundProcess.{BoundProcess}
use Rattle.ooo_bound.specs.declared.stat.BoundSimple.{BoundSimple}
use Rattle.ooo_bound.specs.declared.stat.BoundSimple.TheVariants as simple
use Rattle.ooo_bound.specs.declared.stat.BoundStat.{BoundStat}
use Rattle.ooo_bound.specs.declared.stat.LinedSimple.{LinedSimple}
use Rattle.ooo_activation.specs.Locals.{Locals}
use Rattle.ooo_activation.specs.Expressions as over_locals
use Rattle.ooo_activation.specs.Items.{Loop, Item, Do, Putting, Choose, Begin, Check, Again, Break, Continue, Return, Leave, maybe_do, entered, entered_if, entered_all, opened, after_loop, at_loop}
use Rattle.ooo_activation.specs.Activations.{Place, Course, Onward, sight_of, channel_kind, data_read, returned, result_of}
use Rattle.ooo_activation.specs.Activations as by_statements
use Rattle.ooo_shapes.specs.declared.around.Around.{Around}
use Rattle.ooo_shapes.specs.Widths.{expr_widths, option_widths}
use Rattle.ooo_shapes.specs.Expressions.{lowered, converted}
use Rattle.ooo_shapes.specs.Simples.{counted, channel_slot, begins}
use Rattle.ooo_shapes.specs.Shapes.{callees_within, simple_shape, inside, test_or_true, return_kind}
use Rattle.ooo_shapes.specs.Designs.{around_process, process_widths}
use Rattle.ooo_shapes.proofs.Frames.{Within, Frame}
use Rattle.ooo_shapes.proofs.Values.{gives, lowered_constant, converted_gives}
use Rattle.ooo_shapes.proofs.Places.{IsPlain, after_more, Laid, SimpleAt, StepAt, LoopAt, ChooseAt, PuttingAt, CheckAt, At, place_at, Stands, stands, place_keeps, after_break, after_continue, branch_shape, branch_widths, branch_simples}
use Rattle.ooo_shapes.proofs.Enter.{LaidAt, good}
use Rattle.ooo_shapes.proofs.Begun.{IsReady, begun}
use Rattle.ooo_shapes.proofs.Same.{doing, same_by, full, fuel_next, fuel_lead, setting, running, stops, head, run_is, at, with_fuel, same_result, same_converted, same_truth, same_either, same_free}
use Rattle.ooo_shapes.proofs.Puts.{value_below, home, value_is, slot_is, frame_first}
use Rattle.ooo_shapes.proofs.Steps.{PlaceAt, FuelAt, Here, statements, nodes, passes, does, Agree, runs, place_first, goes_on, step, rests}
use Rattle.ooo_shapes.proofs.Simples.{counts, moved}
use Rattle.ooo_shapes.proofs.Calls.{leave_same}
use Rattle.ooo_shapes.proofs.Acts.{simple_first, simple_same}
use Rattle.ooo_shapes.proofs.Returns.{no_result, return_kept, return_set}

-- the test that a loop without one has gives true
true_is : (t : Around) (s : over_slots.Sight) → gives (lowered t (bound.Constant (value.Bool true))) s ≡ Ok (value.Bool true)
true_is t s = lowered_constant t (value.Bool true) s

return_none : (t : Around) (e : BoundExpr) → t.result ≡ None → return_kind t (Some e) ≡ kind.Test (lowered t e) t.return_to
return_none t e is = ap (λ (r : Option Kind). elim r [ None ↦ kind.Test (lowered t e) t.return_to | Some k ↦ kind.Set t.result_slot (converted k (lowered t e)) ]) is

return_some : (t : Around) (k : Kind) (e : BoundExpr) → t.result ≡ Some k → return_kind t (Some e) ≡ kind.Set t.result_slot (converted k (lowered t e))
return_some t k e is = ap (λ (r : Option Kind). elim r [ None ↦ kind.Test (lowered t e) t.return_to | Some k ↦ kind.Set t.result_slot (converted k (lowered t e)) ]) is

module _ (b : Bound) (process : BoundProcess) (total : ℕ) (code : List Node) (first : ℕ) (entry : SegmentEntry) (stamp : Stamp) where
  abbrev Alike : Outcome Place → Outcome NodeFrame → Type 0
  Alike x y = Here b process total code first entry stamp x y

  abbrev through : ℕ → ℕ → by_nodes.Next
  through n m = passes b process total code first entry stamp n m

  abbrev Fueled : ℕ → ℕ → Type 0
  Fueled m pc = FuelAt b process total code first entry stamp m pc

  abbrev here : by_statements.Setting
  here = setting b process total code first entry stamp

  abbrev Stand : Around → List Value → List Item → ℕ → Type 0
  Stand t slots items pc = PlaceAt b process total code first entry stamp t slots items pc

  abbrev text : ℕ → by_statements.Next
  text n = statements b process total code first entry stamp n

  -- ---- what counts nothing is gone through

  -- at an item that counts
  abbrev Head : Around → List Value → List Item → ℕ → Type 0
  Head t slots [] pc = ⊥
  Head t slots (Do x ∷ rest) pc = IsPlain x.simple × Stand t slots (Do x ∷ rest) pc
  Head t slots (Putting line c v ∷ rest) pc = At b process total code t slots (Putting line c v ∷ rest) pc
  Head t slots (Choose line e x y ∷ rest) pc = Stand t slots (Choose line e x y ∷ rest) pc
  Head t slots (Begin l ∷ rest) pc = ⊥
  Head t slots (Check l ∷ rest) pc = (next : ℕ) × (again : ℕ) × LoopAt b process total code l t next pc again × Stand t slots rest next
  Head t slots (Again l ∷ rest) pc = ⊥
  Head t slots (Break line ∷ rest) pc = Stand t slots (Break line ∷ rest) pc
  Head t slots (Continue line ∷ rest) pc = Stand t slots (Continue line ∷ rest) pc
  Head t slots (Return line e ∷ rest) pc = Stand t slots (Return line e ∷ rest) pc
  Head t slots (Leave line into k v saved ∷ rest) pc = ⊥

  -- what is done at an item that counts is alike, where n more may count
  abbrev HeadsAlike : ℕ → by_statements.Next → Type 0
  HeadsAlike n act = (t : Around) (items : List Item) (locals : Locals) (slots : List Value) (pc m : ℕ) (d : Course) → Head t slots items pc → Frame total t locals slots → length slots ≡ total → Fueled m pc → Alike (act items locals d) (through n m pc (doing slots d))

  -- a loop's body has the frame of what stands around it
  frame_out : (t u : Around) (next pc : ℕ) (locals : Locals) (slots : List Value) → t ≡ inside u next pc → Frame total t locals slots → Frame total u locals slots
  frame_out t u next pc locals slots e f =
      let g = subst (λ t. Frame total t locals slots) e f in
      record { same = g.same; within = g.within; low = g.low }

  frame_in : (u : Around) (next pc : ℕ) (locals : Locals) (slots : List Value) → Frame total u locals slots → Frame total (inside u next pc) locals slots
  frame_in u next pc locals slots f = record { same = f.same; within = f.within; low = f.low }

  module _ (n : ℕ) (act : by_statements.Next) (alike : HeadsAlike n act) where
    -- a blocking write evaluates its value
    write_ready : (line c : ℕ) (e : BoundExpr) (depth free next : ℕ) (t : Around) (rest : List Item) (locals : Locals) (slots : List Value) (pc m : ℕ) (d : Course) → Laid b process total code depth (simple_shape (home b process total code first entry stamp) (callees_within depth (home b process total code first entry stamp)) line (simple.Write c e)) (expr_widths e) (record { line = line; simple = simple.Write c e } ∷ []) t free pc next → Stand t slots rest next → Frame total t locals slots → length slots ≡ total → Fueled m pc → Alike (by_statements.with_value e line locals d (λ v. act (Putting line c (conversion_of v (channel_kind b c)) ∷ rest) locals d)) (through n m pc (doing slots d))
    write_ready line c e depth free next t rest locals slots pc m d l p f len fuel =
        let k = channel_kind b c in
        let slot = channel_slot (home b process total code first entry stamp) c in
        let below = value_below k in
        let room : slot < length slots = omega (arith, len, below, f.low, f.within) in
        step b process total code first entry stamp _ n m pc _ line (pc + 1) (doing slots d) l.has.0 fuel (λ j fuel.
        same_converted b process total code first entry stamp (over_locals.reading_of e (sight_of locals d)) _ k line locals slots d _ _ (converted_gives k (lowered t e) _ ∙ ap (λ o. on_value o (λ v. Ok (conversion_of v k))) (value_is b process total code first entry stamp t locals slots d e f l.within)) (λ v.
        let w = conversion_of v k in
        let slots1 = slice_set slots slot w in
        let putting : PuttingAt b process total code line c w slots1 next (pc + 1) = record {
          wait_to = pc + 2;
          put_to = pc + 3;
          tests = l.has.1.0;
          waits = moved b process total code first entry stamp (pc + 1 + 1) (pc + 2) _ (omega arith) l.has.1.1.0;
          puts = moved b process total code first entry stamp (pc + 1 + 1 + 1) (pc + 3) _ (omega arith) l.has.1.1.1.0;
          after = after_more b process total code (pc + 3 + 1) (pc + 4) next (omega arith) l.after;
          holds = get_or-set_same slots slot w no_value room;
        } in
        alike t (Putting line c w ∷ rest) locals slots1 (pc + 1) j d (next, putting, place_first b process total code first entry stamp t slot w slots rest next below p) (frame_first b process total code first entry stamp t slot w locals slots below f) (length-set slots slot w ∙ len) (fuel_lead b process total code first j pc _ l.has.0 refl (_, l.has.1.0, refl) fuel)))

    -- a statement without statements in it counts, or evaluates what it writes
    do_ready : (line : ℕ) (x : BoundSimple) (next : ℕ) (t : Around) (rest : List Item) (locals : Locals) (slots : List Value) (pc m : ℕ) (d : Course) → SimpleAt b process total code (record { line = line; simple = x }) t pc next → Stand t slots rest next → Frame total t locals slots → length slots ≡ total → Fueled m pc → Alike (by_statements.ready_do here x (record { line = line; simple = x }) act rest locals d) (through n m pc (doing slots d))
    do_ready line (simple.Write c e) next t rest locals slots pc m d s p f len fuel = write_ready line c e s.depth s.free next t rest locals slots pc m d s.laid p f len fuel
    do_ready line (simple.Assign into r) next t rest locals slots pc m d s p f len fuel = alike t _ locals slots pc m d (tt, (next, s, p)) f len fuel
    do_ready line (simple.Update into o e) next t rest locals slots pc m d s p f len fuel = alike t _ locals slots pc m d (tt, (next, s, p)) f len fuel
    do_ready line (simple.Notify e k) next t rest locals slots pc m d s p f len fuel = alike t _ locals slots pc m d (tt, (next, s, p)) f len fuel
    do_ready line (simple.Cancel e) next t rest locals slots pc m d s p f len fuel = alike t _ locals slots pc m d (tt, (next, s, p)) f len fuel
    do_ready line (simple.Wait w) next t rest locals slots pc m d s p f len fuel = alike t _ locals slots pc m d (tt, (next, s, p)) f len fuel
    do_ready line (simple.NextTrigger w) next t rest locals slots pc m d s p f len fuel = alike t _ locals slots pc m d (tt, (next, s, p)) f len fuel
    do_ready line simple.Stop next t rest locals slots pc m d s p f len fuel = alike t _ locals slots pc m d (tt, (next, s, p)) f len fuel
    do_ready line (simple.Print items) next t rest locals slots pc m d s p f len fuel = alike t _ locals slots pc m d (tt, (next, s, p)) f len fuel

    -- the way past what follows each turn
    check_ready : (l : Loop) (next again test : ℕ) (t : Around) (rest : List Item) (locals : Locals) (slots : List Value) (pc m : ℕ) (d : Course) → LoopAt b process total code l t next test again → CheckAt b process total code pc test → Stand t slots rest next → Frame total t locals slots → length slots ≡ total → Fueled m pc → Alike (act (Check l ∷ rest) locals d) (through n m pc (doing slots d))
    check_ready l next again test t rest locals slots pc m d loop c p f len fuel =
        ⊎_elim
        (λ e.
        subst (λ q. Alike (act (Check l ∷ rest) locals d) (through n m q (doing slots d))) (sym e)
        (alike t (Check l ∷ rest) locals slots test m d (next, again, loop, p) f len (subst (λ q. Fueled m q) e fuel)))
        (λ g.
        step b process total code first entry stamp _ n m pc _ g.0 test (doing slots d) g.1 fuel (λ j fuel.
        alike t (Check l ∷ rest) locals slots test j d (next, again, loop, p) f len (fuel_next b process total code first j pc _ g.1 refl (inl g.2) fuel)))
        c

    -- what is begun is gone through up to an item that counts
    ready_same : (t : Around) (items : List Item) (locals : Locals) (slots : List Value) (pc m : ℕ) (d : Course) → IsReady items → Stand t slots items pc → Frame total t locals slots → length slots ≡ total → Fueled m pc → Alike (by_statements.ready here act items locals d) (through n m pc (doing slots d))
    ready_same t [] locals slots pc m d r p f len fuel = absurd r
    ready_same t (Do x ∷ rest) locals slots pc m d r p f len fuel = do_ready x.line x.simple p.0 t rest locals slots pc m d p.1 p.2 f len fuel
    ready_same t (Putting line c v ∷ rest) locals slots pc m d r p f len fuel = absurd r
    ready_same t (Choose line e x y ∷ rest) locals slots pc m d r p f len fuel = alike t (Choose line e x y ∷ rest) locals slots pc m d p f len fuel
    ready_same t (Begin l ∷ rest) locals slots pc m d r p f len fuel = absurd r
    ready_same t (Check l ∷ rest) locals slots pc m d r p f len fuel = check_ready l p.0 p.1 p.2 t rest locals slots pc m d p.3 p.4 p.5 f len fuel
    ready_same t (Again l ∷ rest) locals slots pc m d r p f len fuel = absurd r
    ready_same t (Break line ∷ rest) locals slots pc m d r p f len fuel = alike t (Break line ∷ rest) locals slots pc m d p f len fuel
    ready_same t (Continue line ∷ rest) locals slots pc m d r p f len fuel = alike t (Continue line ∷ rest) locals slots pc m d p f len fuel
    ready_same t (Return line e ∷ rest) locals slots pc m d r p f len fuel = alike t (Return line e ∷ rest) locals slots pc m d p f len fuel
    ready_same t (Leave line into k v saved ∷ rest) locals slots pc m d r p f len fuel = absurd r

    -- what follows a turn, and the test
    again_same : (after : Option LinedSimple) (l : Loop) → l.after ≡ after → (u : Around) (rest : List Item) (next test : ℕ) (locals : Locals) (slots : List Value) (pc m : ℕ) (d : Course) → LoopAt b process total code l u next test pc → Stand u slots rest next → Frame total u locals slots → length slots ≡ total → Fueled m pc → Alike (by_statements.ready here act (maybe_do after (Check l ∷ rest)) locals d) (through n m pc (doing slots d))
    again_same None l e u rest next test locals slots pc m d loop p f len fuel =
        let same : pc ≡ test = subst (λ a. StepAt b process total code a u pc test) e loop.step in
        ready_same u (Check l ∷ rest) locals slots pc m d tt (next, pc, test, loop, inl same, p) f len fuel
    again_same (Some x) l e u rest next test locals slots pc m d loop p f len fuel =
        let first_step : SimpleAt b process total code x u pc test = subst (λ a. StepAt b process total code a u pc test) e loop.step in
        ready_same u (Do x ∷ Check l ∷ rest) locals slots pc m d tt (test, first_step, (next, pc, test, loop, inl refl, p)) f len fuel

    -- ---- the end of a process

    module _ (end : ℕ) (starts : (slots : List Value) → Stand (around_process (process_widths process) end) slots (entered_all process.body []) first) where
      frame_start : (t : Around) (pc : ℕ) (locals : Locals) (slots : List Value) → t ≡ around_process (process_widths process) pc → Frame total t locals slots → Frame total (around_process (process_widths process) end) locals slots
      frame_start t pc locals slots e f =
          let g = subst (λ t. Frame total t locals slots) e f in
          record { same = g.same; within = g.within; low = g.low }

      -- the end of a body: a thread ends, and a method begins anew after a wait
      end_same : (k : ProcessKind) (trigger : Option WaitOn) (t : Around) (pc : ℕ) (locals : Locals) (slots : List Value) (d : Course) → t ≡ around_process (process_widths process) pc → Frame total t locals slots → length slots ≡ total → Alike (by_statements.at_end here k trigger locals d) (by_nodes.at_end (running b process total code first entry stamp) k trigger (doing slots d))
      end_same Thread trigger t pc locals slots d e f len = record { deed = refl; next = tt }
      end_same Method None t pc locals slots d e f len = record { deed = refl; next = record { stands = stands b process total code (around_process (process_widths process) end) (entered_all process.body []) locals slots first (starts slots) (frame_start t pc locals slots e f); count = len } }
      end_same Method (Some wait) t pc locals slots d e f len = record { deed = refl; next = record { stands = stands b process total code (around_process (process_widths process) end) (entered_all process.body []) locals slots first (starts slots) (frame_start t pc locals slots e f); count = len } }

      -- what counts nothing is gone through by both
      arrive_same : (t : Around) (items : List Item) (locals : Locals) (slots : List Value) (pc m : ℕ) (d : Course) → At b process total code t slots items pc → Frame total t locals slots → length slots ≡ total → Fueled m pc → Alike (by_statements.arrive here items locals d act) (through n m pc (doing slots d))
      arrive_same t [] locals slots pc m d p f len fuel =
          step b process total code first entry stamp _ n m pc _ 0 pc (doing slots d) p.0 fuel (λ j fuel. end_same process.kind d.trigger t pc locals slots d p.1 f len)
      arrive_same t (Begin l ∷ rest) locals slots pc m d p f len fuel =
          let loop = p.2 in
          let next = p.0 in
          let again = p.1 in
          let place_again : Stand (inside t next again) slots (Again l ∷ rest) again = (next, again, t, loop, refl, p.4) in
          let place_check : Stand t slots (Check l ∷ rest) again = (next, again, again, loop, inl refl, p.4) in
          let s = begun b process total code slots locals loop.depth l.body in
          let found = s.opens (inside t next again) loop.free loop.body_at again (Check l ∷ rest) (Again l ∷ rest) loop.body place_again (frame_in t next again locals slots f) (record { around = t; place = place_check; frame = f }) in
          subst (λ q. Alike (by_statements.ready here act (opened l.body (Check l ∷ rest) (Again l ∷ rest)) locals d) (through n m q (doing slots d))) (sym p.3)
          (ready_same found.around (opened l.body (Check l ∷ rest) (Again l ∷ rest)) locals slots _ m d (s.ready (Check l ∷ rest) (Again l ∷ rest) tt) found.place found.frame len (subst (λ q. Fueled m q) p.3 fuel))
      arrive_same t (Again l ∷ rest) locals slots pc m d p f len fuel =
          again_same l.after l refl p.2 rest p.0 p.1 locals slots pc m d p.3 p.5 (frame_out t p.2 p.0 pc locals slots p.4 f) len fuel
      arrive_same t (Leave line into k v saved ∷ rest) locals slots pc m d p f len fuel =
          leave_same b process total code first entry stamp n line into k v saved t p.1 p.0 pc m slots d (λ locals d. by_statements.arrive here rest locals d act) p.2 len fuel (λ j fuel locals' slots' d' f' k' len'.
          arrive_same p.1 rest locals' slots' p.0 j d' (place_at b process total code p.1 slots' rest p.0 (place_keeps b process total code p.1 p.1.base slots slots' rest p.0 (omega arith) k' p.3)) f' len' fuel)
      arrive_same t (Do x ∷ rest) locals slots pc m d p f len fuel = ready_same t (Do x ∷ rest) locals slots pc m d tt p f len fuel
      arrive_same t (Putting line c v ∷ rest) locals slots pc m d p f len fuel = alike t (Putting line c v ∷ rest) locals slots pc m d p f len fuel
      arrive_same t (Choose line e x y ∷ rest) locals slots pc m d p f len fuel = ready_same t (Choose line e x y ∷ rest) locals slots pc m d tt p f len fuel
      arrive_same t (Check l ∷ rest) locals slots pc m d p f len fuel = ready_same t (Check l ∷ rest) locals slots pc m d tt p f len fuel
      arrive_same t (Break line ∷ rest) locals slots pc m d p f len fuel = ready_same t (Break line ∷ rest) locals slots pc m d tt p f len fuel
      arrive_same t (Continue line ∷ rest) locals slots pc m d p f len fuel = ready_same t (Continue line ∷ rest) locals slots pc m d tt p f len fuel
      arrive_same t (Return line e ∷ rest) locals slots pc m d p f len fuel = ready_same t (Return line e ∷ rest) locals slots pc m d tt p f len fuel

  -- ---- an item that counts

  -- a node that counts
  counted_step : (x : Outcome Place) (n m pc : ℕ) (k : NodeKind) (line next : ℕ) (d : by_nodes.Doing) → slice_get code pc ≡ Some (counted k line next) → Fueled m pc → Alike x (does b process total code first entry stamp k pc line next (nodes b process total code first entry stamp n) pc d) → Alike x (through (suc n) m pc d)
  counted_step x n m pc k line next d h fuel s =
      with_fuel b process total code first entry stamp x (head b process total code first entry stamp (suc n)) m pc _ d h fuel (λ j fuel. counts b process total code first entry stamp x n j pc k line next d h s)

  module _ (n : ℕ) (ih : Agree b process total code first entry stamp n) where
    -- a blocking write waits, or puts its value
    put_same_at : (line c : ℕ) (v : Value) (next : ℕ) (t : Around) (rest : List Item) (locals : Locals) (slots : List Value) (pc m : ℕ) (d : Course) → PuttingAt b process total code line c v slots next pc → Stand t slots rest next → Frame total t locals slots → length slots ≡ total → Fueled m pc → Alike (by_statements.act_put here line c v (text n) rest locals d) (through (suc n) m pc (doing slots d))
    put_same_at line c v next t rest locals slots pc m d h p f len fuel =
        counted_step _ n m pc _ line h.put_to (doing slots d) h.tests fuel
        (same_free b process total code first entry stamp (fifo_seen d.seen c).free _ _ _ _
        (same_by b process total code first (run_is b process total code first entry stamp n h.wait_to (doing slots d))
        (step b process total code first entry stamp _ n (by_nodes.between code) h.wait_to _ line pc (doing slots d) h.waits (full b process total code first h.wait_to) (λ j fuel.
        record { deed = refl; next = rests b process total code first entry stamp (Putting line c v ∷ rest) locals slots h.wait_to _ h.waits (record { around = t; place = (next, h, p); frame = f }) len })))
        (same_by b process total code first (run_is b process total code first entry stamp n h.put_to (doing slots d))
        (step b process total code first entry stamp _ n (by_nodes.between code) h.put_to _ line next (doing slots d) h.puts (full b process total code first h.put_to) (λ j fuel.
        same_by b process total code first (ap (λ (o : Answer). by_nodes.with_result (running b process total code first entry stamp) line (doing slots d) o (λ v. through n j next (by_nodes.with_put c v (doing slots d)))) (slot_is b process total code first entry stamp (channel_slot (home b process total code first entry stamp) c) v slots d h.holds))
        (goes_on b process total code first entry stamp n ih t rest slots next j p (fuel_next b process total code first j h.put_to _ h.puts refl h.after fuel) locals slots (by_statements.with_put c v d) f (λ i low less. refl) len)))))

    -- the test of a loop, or true where it has none
    test_same : (o : Option BoundExpr) (line : ℕ) (t : Around) (locals : Locals) (slots : List Value) (d : Course) (f : Value → Outcome Place) (g : Value → Outcome NodeFrame) → Within (option_widths o) t.widths → Frame total t locals slots → ((v : Value) → Alike (f v) (g v)) → Alike (by_statements.with_test o line locals d f) (by_nodes.with_result (running b process total code first entry stamp) line (doing slots d) (gives (lowered t (test_or_true o)) (by_nodes.sight_of (doing slots d))) g)
    test_same None line t locals slots d f g w fr s =
        same_result b process total code first entry stamp (Ok (value.Bool true)) _ line locals slots d f g (true_is t (by_nodes.sight_of (doing slots d))) s
    test_same (Some e) line t locals slots d f g w fr s =
        same_result b process total code first entry stamp (over_locals.reading_of e (sight_of locals d)) _ line locals slots d f g (value_is b process total code first entry stamp t locals slots d e fr w) s

    -- the test of a loop leads into the body, or past the loop
    check_same : (l : Loop) (next again : ℕ) (t : Around) (rest : List Item) (locals : Locals) (slots : List Value) (pc m : ℕ) (d : Course) → LoopAt b process total code l t next pc again → Stand t slots rest next → Frame total t locals slots → length slots ≡ total → Fueled m pc → Alike (by_statements.act here (Check l) (text n) rest locals d) (through (suc n) m pc (doing slots d))
    check_same l next again t rest locals slots pc m d h p f len fuel =
        let placed = (good b process total code slots h.depth l.body).enters (inside t next again) h.free h.body_at again (Again l ∷ rest) h.body (next, pc, t, h, refl, p) in
        let placed' = subst (λ q. Stand (inside t next again) slots (entered l.body (Again l ∷ rest)) q) (sym h.yes_is) placed in
        counted_step _ n m pc _ l.line h.yes (doing slots d) h.is_test fuel
        (test_same l.test l.line t locals slots d _ _ h.within f (λ v.
        same_truth b process total code first entry stamp v _ _ _ _
        (runs b process total code first entry stamp n ih (entered l.body (Again l ∷ rest)) locals slots h.yes d (stands b process total code (inside t next again) (entered l.body (Again l ∷ rest)) locals slots h.yes placed' (frame_in t next again locals slots f)) len)
        (runs b process total code first entry stamp n ih rest locals slots next d (stands b process total code t rest locals slots next p f) len)))

    -- the second branch, or what follows where there is none
    second_place : (depth : ℕ) (y : Option BoundStat) (t : Around) (slots : List Value) (free at next : ℕ) (rest : List Item) → LaidAt b process total code depth (branch_shape b process total code depth y) (branch_widths b process total code y) (branch_simples b process total code y) t free at next → Stand t slots rest next → Stand t slots (entered_if y rest) (begins (branch_shape b process total code depth y).size at next)
    second_place depth None t slots free at next rest l p = p
    second_place depth (Some s) t slots free at next rest l p = (good b process total code slots depth s).enters t free at next rest l p

    -- the test of an `if` leads to one of its branches
    choose_same : (line : ℕ) (e : BoundExpr) (x : BoundStat) (y : Option BoundStat) (next : ℕ) (t : Around) (rest : List Item) (locals : Locals) (slots : List Value) (pc m : ℕ) (d : Course) → ChooseAt b process total code line e x y t next pc → Stand t slots rest next → Frame total t locals slots → length slots ≡ total → Fueled m pc → Alike (by_statements.act here (Choose line e x y) (text n) rest locals d) (through (suc n) m pc (doing slots d))
    choose_same line e x y next t rest locals slots pc m d h p f len fuel =
        let yes_place = (good b process total code slots h.depth x).enters t h.first_free h.first_at next rest h.first p in
        let no_place = second_place h.depth y t slots h.second_free h.second_at next rest h.second p in
        counted_step _ n m pc _ line _ (doing slots d) h.is_test fuel
        (same_result b process total code first entry stamp (over_locals.reading_of e (sight_of locals d)) _ line locals slots d _ _ (value_is b process total code first entry stamp t locals slots d e f h.within) (λ v.
        same_truth b process total code first entry stamp v _ _ _ _
        (runs b process total code first entry stamp n ih (entered x rest) locals slots _ d (stands b process total code t (entered x rest) locals slots _ yes_place f) len)
        (runs b process total code first entry stamp n ih (entered_if y rest) locals slots _ d (stands b process total code t (entered_if y rest) locals slots _ no_place f) len)))

    -- a return, by what its function gives
    return_same_by : (r : Option Kind) (line : ℕ) (e : Option BoundExpr) (next : ℕ) (t : Around) (rest : List Item) (locals : Locals) (slots : List Value) (pc m : ℕ) (d : Course) → t.result ≡ r → Within (option_widths e) t.widths → slice_get code pc ≡ Some (counted (return_kind t e) line t.return_to) → Stand t slots rest next → Frame total t locals slots → length slots ≡ total → Fueled m pc → Alike (by_statements.act here (Return line e) (text n) rest locals d) (through (suc n) m pc (doing slots d))
    return_same_by r line None next t rest locals slots pc m d is w h p f len fuel =
        counted_step _ n m pc _ line t.return_to (doing slots d) h fuel
        (runs b process total code first entry stamp n ih (returned None rest) locals slots t.return_to d (return_kept b process total code t None locals slots rest next p f (λ so_far. no_result t.result so_far)) len)
    return_same_by None line (Some e) next t rest locals slots pc m d is w h p f len fuel =
        let h' : slice_get code pc ≡ Some (counted (kind.Test (lowered t e) t.return_to) line t.return_to) = h ∙ ap (λ k. Some (counted k line t.return_to)) (return_none t e is) in
        counted_step _ n m pc _ line t.return_to (doing slots d) h' fuel
        (same_result b process total code first entry stamp (over_locals.reading_of e (sight_of locals d)) _ line locals slots d _ _ (value_is b process total code first entry stamp t locals slots d e f w) (λ v.
        same_either b process total code first entry stamp v _ _
        (runs b process total code first entry stamp n ih (returned (Some v) rest) locals slots t.return_to d (return_kept b process total code t (Some v) locals slots rest next p f (λ so_far. ap (λ r. result_of r (Some v) so_far) is)) len)))
    return_same_by (Some k) line (Some e) next t rest locals slots pc m d is w h p f len fuel =
        let h' : slice_get code pc ≡ Some (counted (kind.Set t.result_slot (converted k (lowered t e))) line t.return_to) = h ∙ ap (λ k. Some (counted k line t.return_to)) (return_some t k e is) in
        counted_step _ n m pc _ line t.return_to (doing slots d) h' fuel
        (same_converted b process total code first entry stamp (over_locals.reading_of e (sight_of locals d)) _ k line locals slots d _ _ (converted_gives k (lowered t e) _ ∙ ap (λ o. on_value o (λ v. Ok (conversion_of v k))) (value_is b process total code first entry stamp t locals slots d e f w)) (λ v.
        runs b process total code first entry stamp n ih (returned (Some v) rest) locals (slice_set slots t.result_slot (conversion_of v k)) t.return_to d (return_set b process total code t k v locals slots rest next is p f len) (length-set slots t.result_slot (conversion_of v k) ∙ len)))

    -- an item that counts does the same as its nodes
    item_same : HeadsAlike (suc n) (by_statements.act_first here (text n))
    item_same t [] locals slots pc m d p f len fuel = absurd p
    item_same t (Do x ∷ rest) locals slots pc m d p f len fuel =
        let s = p.1.1 in
        let i = simple_first b process total code first entry stamp s.depth x.line x.simple t s.free pc p.1.0 p.0 s.laid.found.0 s.laid.has in
        with_fuel b process total code first entry stamp _ (head b process total code first entry stamp (suc n)) m pc _ (doing slots d) i.2 fuel (λ j fuel.
        simple_same b process total code first entry stamp n ih t rest p.1.0 s.depth x.line x.simple (Do x ∷ rest) locals slots s.free pc j d p.0 s.laid p.1.2 f len (stands b process total code t (Do x ∷ rest) locals slots pc p.1 f))
    item_same t (Putting line c v ∷ rest) locals slots pc m d p f len fuel = put_same_at line c v p.0 t rest locals slots pc m d p.1 p.2 f len fuel
    item_same t (Choose line e x y ∷ rest) locals slots pc m d p f len fuel = choose_same line e x y p.0 t rest locals slots pc m d p.1 p.2 f len fuel
    item_same t (Begin l ∷ rest) locals slots pc m d p f len fuel = absurd p
    item_same t (Check l ∷ rest) locals slots pc m d p f len fuel = check_same l p.0 p.1 t rest locals slots pc m d p.2 p.3 f len fuel
    item_same t (Again l ∷ rest) locals slots pc m d p f len fuel = absurd p
    item_same t (Break line ∷ rest) locals slots pc m d p f len fuel =
        counted_step _ n m pc _ line t.break_to (doing slots d) p.1 fuel (runs b process total code first entry stamp n ih (after_loop rest) locals slots t.break_to d (after_break b process total code t locals slots rest p.0 p.2 f) len)
    item_same t (Continue line ∷ rest) locals slots pc m d p f len fuel =
        counted_step _ n m pc _ line t.continue_to (doing slots d) p.1 fuel (runs b process total code first entry stamp n ih (at_loop rest) locals slots t.continue_to d (after_continue b process total code t locals slots rest p.0 p.2 f) len)
    item_same t (Return line e ∷ rest) locals slots pc m d p f len fuel = return_same_by t.result line e p.0 t rest locals slots pc m d refl p.1 p.2 p.3 f len fuel
    item_same t (Leave line into k v saved ∷ rest) locals slots pc m d p f len fuel = absurd p

  -- ---- at the limit

  -- the line of an item that is one too many is that of its node
  stopped : (line m pc : ℕ) (k : NodeKind) (next : ℕ) (locals : Locals) (slots : List Value) (d : Course) → slice_get code pc ≡ Some (counted k line next) → Fueled m pc → Alike (by_statements.ends [] locals (job.Limit line) d) (through 0 m pc (doing slots d))
  stopped line m pc k next locals slots d h fuel =
      with_fuel b process total code first entry stamp _ (head b process total code first entry stamp 0) m pc _ (doing slots d) h fuel (λ j fuel.
      same_by b process total code first (at b process total code first entry stamp (stops b process total code first entry stamp) j pc _ (doing slots d) h) (record { deed = refl; next = tt }))

  -- at an item that is one too many
  item_stopped : HeadsAlike 0 by_statements.at_limit
  item_stopped t [] locals slots pc m d p f len fuel = absurd p
  item_stopped t (Do x ∷ rest) locals slots pc m d p f len fuel =
      let s = p.1.1 in
      let i = simple_first b process total code first entry stamp s.depth x.line x.simple t s.free pc p.1.0 p.0 s.laid.found.0 s.laid.has in
      stopped x.line m pc i.0 i.1 locals slots d i.2 fuel
  item_stopped t (Putting line c v ∷ rest) locals slots pc m d p f len fuel = stopped line m pc _ _ locals slots d p.1.tests fuel
  item_stopped t (Choose line e x y ∷ rest) locals slots pc m d p f len fuel = stopped line m pc _ _ locals slots d p.1.is_test fuel
  item_stopped t (Begin l ∷ rest) locals slots pc m d p f len fuel = absurd p
  item_stopped t (Check l ∷ rest) locals slots pc m d p f len fuel = stopped l.line m pc _ _ locals slots d p.2.is_test fuel
  item_stopped t (Again l ∷ rest) locals slots pc m d p f len fuel = absurd p
  item_stopped t (Break line ∷ rest) locals slots pc m d p f len fuel = stopped line m pc _ _ locals slots d p.1 fuel
  item_stopped t (Continue line ∷ rest) locals slots pc m d p f len fuel = stopped line m pc _ _ locals slots d p.1 fuel
  item_stopped t (Return line e ∷ rest) locals slots pc m d p f len fuel = stopped line m pc _ _ locals slots d p.2 fuel
  item_stopped t (Leave line into k v saved ∷ rest) locals slots pc m d p f len fuel = absurd p

  -- ---- over so many that count

  text_zero : (items : List Item) (locals : Locals) (d : Course) → text 0 items locals d ≡ by_statements.arrive here items locals d by_statements.at_limit
  unfolding by_statements.steps
  text_zero items locals d = refl

  text_suc : (n : ℕ) (items : List Item) (locals : Locals) (d : Course) → text (suc n) items locals d ≡ by_statements.arrive here items locals d (by_statements.act_first here (text n))
  unfolding by_statements.steps
  text_suc n items locals d = refl

  module _ (end : ℕ) (starts : (slots : List Value) → Stand (around_process (process_widths process) end) slots (entered_all process.body []) first) where
    agree : (n : ℕ) → Agree b process total code first entry stamp n
    agree zero items locals slots pc m d s len fuel =
        subst (λ o. Alike o (through 0 m pc (doing slots d))) (sym (text_zero items locals d))
        (arrive_same 0 by_statements.at_limit item_stopped end starts s.around items locals slots pc m d s.place s.frame len fuel)
    agree (suc n) items locals slots pc m d s len fuel =
        subst (λ o. Alike o (through (suc n) m pc (doing slots d))) (sym (text_suc n items locals d))
        (arrive_same (suc n) (by_statements.act_first here (text n)) (item_same n (agree n)) end starts s.around items locals slots pc m d s.place s.frame len fuel)

    -- over at most n that count
    pub steps_same : (n : ℕ) (items : List Item) (locals : Locals) (slots : List Value) (pc : ℕ) (d : Course) → Stands b process total code items locals slots pc → length slots ≡ total → Alike (text n items locals d) (nodes b process total code first entry stamp n pc (doing slots d))
    steps_same n items locals slots pc d s len = runs b process total code first entry stamp n (agree n) items locals slots pc d s len
