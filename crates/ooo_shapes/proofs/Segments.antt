-- A segment by statements and the segment by nodes.
use Rattle.std.proofs.Common.{◌≡◌, ℕ, zero, suc, inl, ⊎_elim, List, [], ◌∷◌, length, Bool, true, Option, Some, None, refl, sym, ap, ◌∙◌, subst, arith}
use Rattle.std.specs.Prelude.{slice_get, Contains}
use Rattle.std.specs.List.{list_any}
use Rattle.ooo_lemmas.proofs.Contained.{not_in_none, one_is}
use Rattle.ooo_code.specs.declared.design.Proc.{Proc}
use Rattle.ooo_code.specs.declared.node.Node.{Node}
use Rattle.ooo_code.specs.declared.segment.SegmentEntry.{SegmentEntry}
use Rattle.ooo_code.specs.declared.segment.SegmentEntry.TheVariants as from
use Rattle.ooo_code.specs.Nodes.{entry_node, next_of}
use Rattle.ooo_code.specs.Segments.{is_wait, trigger_events, Reaches, here, further}
use Rattle.ooo_code.specs.Touches.{Touch, touched_by}
use Rattle.ooo_bound.specs.declared.model.Bound.{Bound}
use Rattle.ooo_bound.specs.declared.model.BoundProcess.{BoundProcess}
use Rattle.ooo_bound.specs.declared.stat.LinedSimple.{LinedSimple}
use Rattle.ooo_activation.specs.Kinds.{simples_in}
use Rattle.ooo_activation.specs.Sound.{IsSound, FitsProcess}
use Rattle.ooo_activation.specs.Items.{Loop, Item, Do, Putting, Choose, Begin, Check, Again, Break, Continue, Return, Leave, maybe_do, opened, entered_all}
use Rattle.ooo_shapes.specs.declared.around.Around.{Around}
use Rattle.ooo_shapes.specs.Shapes.{inside}
use Rattle.ooo_shapes.specs.Designs.{around_process, process_widths, process_at, design_of}
use Rattle.ooo_shapes.specs.Segments.{no_values, goes_to, Comes, stays, onward, first_touches, first_triggers, Triggers, Pause, first_pauses, Touches, Pauses, SameSegment, SameSegments}
use Rattle.ooo_shapes.proofs.Frames.{Frame}
use Rattle.ooo_shapes.proofs.Places.{SimplesFound, CallFound, SimpleAt, StepAt, LoopAt, Place, At, stands}
use Rattle.ooo_shapes.proofs.Found.{all_at, process_found}
use Rattle.ooo_shapes.proofs.Start.{slots_of, first_from, all_nodes, end_of, total_is, starts}
use Rattle.ooo_shapes.proofs.Begun.{IsReady, begun}
use Rattle.ooo_shapes.proofs.Soundness.{some_touch, touch_in, proc_of}
use Rattle.ooo_shapes.proofs.Touched.{same_touch, touch_test}
use Rattle.ooo_shapes.proofs.Trees.{in_one, WaitsAt, StandsAt, Block, OutReached, PauseReached, TriggerReached, trigger_reached, part_names, TouchReached, reach_on, out_reached, pause_reached, touch_reached, Part, part_of, OutAt, part_leads, part_touches, part_waits}
use Rattle.ooo_shapes.proofs.Blocks.{frame_in, end_block, break_block, continue_block, return_block, leave_block, putting_block, check_block, choose_block}
use Rattle.ooo_shapes.proofs.Doing.{do_block}

-- has nodes of its own: a loop that begins with its body hasn't, nor has the end of a loop's body
abbrev pub IsHead : List Item → Type 0
IsHead (Begin l ∷ rest) = ⊥
IsHead (Again l ∷ rest) = ⊥
IsHead _ = Unit {0}

ready_head : (items : List Item) → IsReady items → IsHead items
ready_head [] r = absurd r
ready_head (Begin l ∷ rest) r = r
ready_head (Again l ∷ rest) r = r
ready_head (_ ∷ rest) r = tt

comes_on : (b : Bound) (x y z : List Item) → Comes b x y → Comes b y z → Comes b x z
comes_on b x y z c stays = c
comes_on b x y z c (onward d g) = onward (comes_on b x y _ c d) g

module _ (b : Bound) (process : BoundProcess) (total : ℕ) (code : List Node) where
  abbrev Stood : List Item → ℕ → Type 0
  Stood items pc = StandsAt b process total code items pc

  abbrev BlockAt : List Item → ℕ → Type 0
  BlockAt items pc = Block b process total code items pc

  -- ---- the first item and its nodes

  -- an item that has nodes
  head_block : (t : Around) (items : List Item) (pc : ℕ) → IsHead items → At b process total code t [] items pc → Frame total t no_values [] → BlockAt items pc
  head_block t [] pc i p f = end_block b process total code pc p.0
  head_block t (Do x ∷ rest) pc i p f = do_block b process total code x t rest pc p.0 p.1 p.2 f
  head_block t (Putting line c v ∷ rest) pc i p f = putting_block b process total code line c v t rest pc p.0 p.1 p.2 f
  head_block t (Choose line e x y ∷ rest) pc i p f = choose_block b process total code line e x y t rest pc p.0 p.1 p.2 f
  head_block t (Begin l ∷ rest) pc i p f = absurd i
  head_block t (Check l ∷ rest) pc i p f = check_block b process total code l t rest pc p.0 p.1 p.2 p.3 p.4 p.5 f
  head_block t (Again l ∷ rest) pc i p f = absurd i
  head_block t (Break line ∷ rest) pc i p f = break_block b process total code line t rest pc p.0 p.1 p.2 f
  head_block t (Continue line ∷ rest) pc i p f = continue_block b process total code line t rest pc p.0 p.1 p.2 f
  head_block t (Return line e ∷ rest) pc i p f = return_block b process total code line e t rest pc p.0 p.2 p.3 f
  head_block t (Leave line into k v saved ∷ rest) pc i p f = leave_block b process total code line into k v saved t p.1 rest pc p.0 p.2 p.3

  -- a loop that begins with its body is begun
  begin_stands : (l : Loop) (t : Around) (rest : List Item) (pc : ℕ) → Place b process total code t [] (Begin l ∷ rest) pc → Frame total t no_values [] → IsReady (opened l.body (Check l ∷ rest) (Again l ∷ rest)) × Stood (opened l.body (Check l ∷ rest) (Again l ∷ rest)) pc
  begin_stands l t rest pc p f =
      let loop = p.2 in
      let next = p.0 in
      let again = p.1 in
      let place_again : Place b process total code (inside t next again) [] (Again l ∷ rest) again = (next, again, t, loop, refl, p.4) in
      let place_check : Place b process total code t [] (Check l ∷ rest) again = (next, again, again, loop, inl refl, p.4) in
      let s = begun b process total code [] no_values loop.depth l.body in
      let found = s.opens (inside t next again) loop.free loop.body_at again (Check l ∷ rest) (Again l ∷ rest) loop.body place_again (frame_in b process total code t next again f) (record { around = t; place = place_check; frame = f }) in (
        s.ready (Check l ∷ rest) (Again l ∷ rest) tt,
        subst (λ q. Stood (opened l.body (Check l ∷ rest) (Again l ∷ rest)) q) (sym p.3)
            (stands b process total code found.around (opened l.body (Check l ∷ rest) (Again l ∷ rest)) no_values [] _ found.place found.frame),
      )

  frame_out : (t u : Around) (next pc : ℕ) → t ≡ inside u next pc → Frame total t no_values [] → Frame total u no_values []
  frame_out t u next pc e f =
      let g = subst (λ t. Frame total t no_values []) e f in
      record { same = g.same; within = g.within; low = g.low }

  -- what follows a turn, and the test
  turn_stands : (after : Option LinedSimple) (l : Loop) → l.after ≡ after → (u : Around) (rest : List Item) (next test pc : ℕ) → LoopAt b process total code l u next test pc → Place b process total code u [] rest next → Frame total u no_values [] → IsReady (maybe_do after (Check l ∷ rest)) × Stood (maybe_do after (Check l ∷ rest)) pc
  turn_stands None l e u rest next test pc loop p f =
      let same : pc ≡ test = subst (λ a. StepAt b process total code a u pc test) e loop.step in
      (tt, stands b process total code u (Check l ∷ rest) no_values [] pc (next, pc, test, loop, inl same, p) f)
  turn_stands (Some x) l e u rest next test pc loop p f =
      let step : SimpleAt b process total code x u pc test = subst (λ a. StepAt b process total code a u pc test) e loop.step in
      (tt, stands b process total code u (Do x ∷ Check l ∷ rest) no_values [] pc (test, step, (next, pc, test, loop, inl refl, p)) f)

  -- from these items on there is one that has nodes, at the same node
  record Settled (items : List Item) (pc : ℕ) : Type 0 where
    later : List Item
    comes : Comes b items later
    block : BlockAt later pc

  settle_to : (items later : List Item) (pc : ℕ) → Contains (goes_to b items) later → IsReady later → Stood later pc → Settled items pc
  settle_to items later pc g r s = record { later = later; comes = onward stays g; block = head_block s.around later pc (ready_head later r) s.place s.frame }

  settle_at : (t : Around) (items : List Item) (pc : ℕ) → At b process total code t [] items pc → Frame total t no_values [] → Settled items pc
  settle_at t (Begin l ∷ rest) pc p f =
      let s = begin_stands l t rest pc p f in settle_to (Begin l ∷ rest) _ pc (in_one _ _ refl) s.0 s.1
  settle_at t (Again l ∷ rest) pc p f =
      let s = turn_stands l.after l refl p.2 rest p.0 p.1 pc p.3 p.5 (frame_out t p.2 p.0 pc p.4 f) in
      settle_to (Again l ∷ rest) _ pc (in_one _ _ refl) s.0 s.1
  settle_at t [] pc p f = record { later = []; comes = stays; block = head_block t [] pc tt p f }
  settle_at t (i ∷ rest) pc p f = record { later = i ∷ rest; comes = stays; block = head_block t (i ∷ rest) pc tt p f }

  settle : (items : List Item) (pc : ℕ) → Stood items pc → Settled items pc
  settle items pc s = settle_at s.around items pc s.place s.frame

  -- ---- from statements to nodes

  block_way : (items y : List Item) (pc : ℕ) → BlockAt items pc → Contains (goes_to b items) y → OutReached b process total code pc y
  block_way items y pc x c = out_reached b process total code x.tree pc pc y here x.rooted (x.ways y c)

  -- where an item leads its nodes lead
  way_at : (t : Around) (items y : List Item) (pc : ℕ) → At b process total code t [] items pc → Frame total t no_values [] → Contains (goes_to b items) y → OutReached b process total code pc y
  way_at t (Begin l ∷ rest) y pc p f c =
      let s = begin_stands l t rest pc p f in
      record { at = pc; reached = here; stands = subst (λ y. Stood y pc) (one_is _ y c) s.1 }
  way_at t (Again l ∷ rest) y pc p f c =
      let s = turn_stands l.after l refl p.2 rest p.0 p.1 pc p.3 p.5 (frame_out t p.2 p.0 pc p.4 f) in
      record { at = pc; reached = here; stands = subst (λ y. Stood y pc) (one_is _ y c) s.1 }
  way_at t [] y pc p f c = absurd (not_in_none y c)
  way_at t (i ∷ rest) y pc p f c = block_way (i ∷ rest) y pc (head_block t (i ∷ rest) pc tt p f) c

  -- where statements come to nodes lead
  come_to : (items later : List Item) (pc : ℕ) → Comes b items later → Stood items pc → OutReached b process total code pc later
  come_to items later pc stays s = record { at = pc; reached = here; stands = s }
  come_to items later pc (onward {later = y} c g) s =
      let r = come_to items y pc c s in
      let o = way_at r.stands.around y later r.at r.stands.place r.stands.frame g in
      record { at = o.at; reached = reach_on b process total code pc r.at o.at r.reached o.reached; stands = o.stands }

  -- ---- from nodes to statements

  -- a node that is reached is one of the first of some items that are come to
  record InPart (items : List Item) (n : ℕ) : Type 0 where
    later : List Item
    comes : Comes b items later
    part : Part b process total code later n

  part_in : (items later : List Item) (n : ℕ) → Comes b items later → Settled later n → InPart items n
  part_in items later n c s = record { later = s.later; comes = comes_on b items later s.later c s.comes; part = part_of b process total code s.later n s.block }

  reached_part : (items : List Item) (pc n : ℕ) → Stood items pc → Reaches code pc n → InPart items n
  reached_part items pc n s here = part_in items items n stays (settle items n s)
  reached_part items pc n s (further {b = m} {node = i} r is c) =
      let x = reached_part items pc m s r in
      ⊎_elim (λ (p : Part b process total code x.later n). record { later = x.later; comes = x.comes; part = p })
      (λ (o : OutAt b process total code x.later n). part_in items o.later n (onward x.comes o.goes) (settle o.later n o.stands))
      (part_leads b process total code x.later m n i x.part is c)

  -- ---- what is touched, and the waits

  -- what an item touches its nodes touch
  item_touch : (t : Around) (items : List Item) (pc : ℕ) (test : Touch → Bool) → At b process total code t [] items pc → Frame total t no_values [] → list_any test (first_touches b items) ≡ true → TouchReached b process total code pc test
  item_touch t [] pc test p f h = absurd cc
  item_touch t (Begin l ∷ rest) pc test p f h = absurd cc
  item_touch t (Again l ∷ rest) pc test p f h = absurd cc
  item_touch t (i ∷ rest) pc test p f h =
      let x = head_block t (i ∷ rest) pc tt p f in touch_reached b process total code x.tree pc pc test here x.rooted (x.touches test ∙ h)

  -- as an item waits its nodes wait
  item_pause : (t : Around) (items : List Item) (pc : ℕ) (pause : Pause) → At b process total code t [] items pc → Frame total t no_values [] → Contains (first_pauses b process items) pause → PauseReached b process total code pc pause
  item_pause t [] pc pause p f h = absurd (not_in_none pause h)
  item_pause t (Begin l ∷ rest) pc pause p f h = absurd (not_in_none pause h)
  item_pause t (Again l ∷ rest) pc pause p f h = absurd (not_in_none pause h)
  item_pause t (i ∷ rest) pc pause p f h =
      let x = head_block t (i ∷ rest) pc tt p f in pause_reached b process total code x.tree pc pc pause here x.rooted (x.pauses pause h)

  -- the events that an item names in a trigger its nodes name
  item_trigger : (t : Around) (items : List Item) (pc e : ℕ) → At b process total code t [] items pc → Frame total t no_values [] → Contains (first_triggers process items) e → TriggerReached b process total code pc e
  item_trigger t [] pc e p f h = absurd (not_in_none e h)
  item_trigger t (Begin l ∷ rest) pc e p f h = absurd (not_in_none e h)
  item_trigger t (Again l ∷ rest) pc e p f h = absurd (not_in_none e h)
  item_trigger t (i ∷ rest) pc e p f h =
      let x = head_block t (i ∷ rest) pc tt p f in trigger_reached b process total code x.tree pc pc e here x.rooted (x.triggers e h)

  -- what items that are come to touch, a node that is reached touches
  pub touch_out : (items : List Item) (pc : ℕ) (touch : Touch) → Stood items pc → Touches b items touch → TouchReached b process total code pc (same_touch touch)
  touch_out items pc touch s t =
      let r = come_to items t.later pc t.comes s in
      let some = some_touch (same_touch touch) touch (touch_test touch) (first_touches b t.later) t.touches in
      let x = item_touch r.stands.around t.later r.at (same_touch touch) r.stands.place r.stands.frame some in
      record { at = x.at; node = x.node; reached = reach_on b process total code pc r.at x.at r.reached x.reached; is = x.is; touches = x.touches }

  -- the events that items that are come to name in triggers, a node that is reached names
  pub trigger_out : (items : List Item) (pc e : ℕ) → Stood items pc → Triggers b process items e → TriggerReached b process total code pc e
  trigger_out items pc e s w =
      let r = come_to items w.later pc w.comes s in
      let x = item_trigger r.stands.around w.later r.at e r.stands.place r.stands.frame w.names in
      record { at = x.at; node = x.node; reached = reach_on b process total code pc r.at x.at r.reached x.reached; is = x.is; names = x.names }

  -- as items that are come to wait, a node that is reached waits
  pub pause_out : (items : List Item) (pc : ℕ) (pause : Pause) → Stood items pc → Pauses b process items pause → PauseReached b process total code pc pause
  pause_out items pc pause s w =
      let r = come_to items w.later pc w.comes s in
      let x = item_pause r.stands.around w.later r.at pause r.stands.place r.stands.frame w.pauses in
      record { at = x.at; node = x.node; reached = reach_on b process total code pc r.at x.at r.reached x.reached; waits = x.waits }

  -- what a node that is reached touches, items that are come to touch
  pub touch_back : (items : List Item) (pc n : ℕ) (i : Node) (touch : Touch) → Stood items pc → Reaches code pc n → slice_get code n ≡ Some i → Contains (touched_by b.events i.kind) touch → Touches b items touch
  touch_back items pc n i touch s r is c =
      let x = reached_part items pc n s r in
      let test = same_touch touch in
      let some = part_touches b process total code x.later n i test x.part is (some_touch test touch (touch_test touch) (touched_by b.events i.kind) c) in
      record { later = x.later; comes = x.comes; touches = touch_in test touch (touch_test touch) (first_touches b x.later) some }

  -- the events that a node that is reached names in a trigger, items that are come to name
  pub trigger_back : (items : List Item) (pc n : ℕ) (i : Node) (e : ℕ) → Stood items pc → Reaches code pc n → slice_get code n ≡ Some i → Contains (trigger_events i.kind) e → Triggers b process items e
  trigger_back items pc n i e s r is c =
      let x = reached_part items pc n s r in
      record { later = x.later; comes = x.comes; names = part_names b process total code x.later n i e x.part is c }

  -- as a node that is reached waits, items that are come to wait
  pub record WaitBack (items : List Item) (n : ℕ) : Type 0 where
    pub pause : Pause
    pub pauses : Pauses b process items pause
    pub node : Node
    pub waits : WaitsAt b process total code n node pause

  pub wait_back : (items : List Item) (pc n : ℕ) (i : Node) → Stood items pc → Reaches code pc n → slice_get code n ≡ Some i → is_wait i ≡ true → WaitBack items n
  wait_back items pc n i s r is w =
      let x = reached_part items pc n s r in
      let p = part_waits b process total code x.later n i x.part is w in
      record { pause = p.pause; pauses = record { later = x.later; comes = x.comes; pauses = p.pauses }; node = p.node; waits = p.waits }

-- ---- segments of a process

module _ (b : Bound) (sound : IsSound b) (p : ℕ) (process : BoundProcess) (is : slice_get b.processes p ≡ Some process) where
  abbrev total : ℕ
  total = slots_of b process

  abbrev code : List Node
  code = all_nodes b

  abbrev first : ℕ
  first = first_from b 0 b.processes p

  abbrev own : Proc
  own = process_at b process first

  abbrev at_entry : SegmentEntry → ℕ
  at_entry entry = entry_node (design_of b) own entry

  abbrev Standing : List Item → ℕ → Type 0
  Standing items pc = StandsAt b process total code items pc

  abbrev GoesOn : (List Item → SegmentEntry → Type 0) → Type 0
  GoesOn Behind = (items : List Item) (n : ℕ) (i : Node) → slice_get code n ≡ Some i → Standing items i.next → Behind items (from.After n)

  same_segment : (Behind : List Item → SegmentEntry → Type 0) → GoesOn Behind → (items : List Item) (entry : SegmentEntry) → Standing items (at_entry entry) → SameSegment b process (design_of b) own Behind items entry
  same_segment Behind goes items entry s = record {
    touches = λ touch. (
      λ t.
          let x = touch_out b process total code items (at_entry entry) touch s t in
          record { number = x.at; node = x.node; within = x.reached; is = x.is; touches = touch_in (same_touch touch) touch (touch_test touch) (touched_by b.events x.node.kind) x.touches },
      λ a. touch_back b process total code items (at_entry entry) a.number a.node touch s a.within a.is a.touches,
    );
    triggers = λ e. (
      λ w.
          let x = trigger_out b process total code items (at_entry entry) e s w in
          record { number = x.at; node = x.node; within = x.reached; is = x.is; names = x.names },
      λ a. trigger_back b process total code items (at_entry entry) a.number a.node e s a.within a.is a.names,
    );
    pauses = λ pause w.
        let x = pause_out b process total code items (at_entry entry) pause s w in (
          x.at,
          record { node = x.node; within = x.reached; is = x.waits.is; line = x.waits.line; waits = x.waits.waits },
          goes pause.behind x.at x.node x.waits.is x.waits.behind,
        );
    waits = λ n w.
        let x = wait_back b process total code items (at_entry entry) n w.node s w.within w.is w.waits in (
          x.pause,
          x.pauses,
          record { node = x.node; within = w.within; is = x.waits.is; line = x.waits.line; waits = x.waits.waits },
          goes x.pause.behind n x.node x.waits.is x.waits.behind,
        );
  }

  same_count : (count : ℕ) (items : List Item) (entry : SegmentEntry) → Standing items (at_entry entry) → SameSegments b process (design_of b) own count items entry
  same_count zero items entry s = tt
  same_count (suc n) items entry s =
      same_segment (SameSegments b process (design_of b) own n)
      (λ later m i e at. same_count n later (from.After m) (subst (λ q. Standing later q) (sym (ap next_of e)) at)) items entry s

  found : SimplesFound (CallFound b.functions (length b.functions)) (simples_in process.body)
  found = process_found b sound.ranked sound.functions process (all_at (FitsProcess b) b.processes p process sound.processes is)

  from_start : (count : ℕ) → SameSegments b process (design_of b) own count (entered_all process.body []) from.Start
  from_start count =
      let t = around_process (process_widths process) (end_of b process p is found) in
      let frame : Frame total t no_values [] = record { same = λ k n lt. refl; within = omega (arith, total_is b process p is found); low = omega arith } in
      same_count count (entered_all process.body []) from.Start (stands b process total code t (entered_all process.body []) no_values [] first (starts b process p is found []) frame)

-- each process of a sound model has the same segments by its statements and by its nodes
pub segments_same : (b : Bound) (p count : ℕ) (process : BoundProcess) (own : Proc) → IsSound b → slice_get b.processes p ≡ Some process → slice_get (design_of b).processes p ≡ Some own → SameSegments b process (design_of b) own count (entered_all process.body []) from.Start
segments_same b p count process own sound is e =
    let o = proc_of b sound p own e in
    let one : Some o.process ≡ Some process = sym o.is ∙ is in
    let same : o.process ≡ process = cc in
    let own_is : process_at b process (first_from b 0 b.processes p) ≡ own = ap (λ x. process_at b x (first_from b 0 b.processes p)) (sym same) ∙ sym o.same in
    subst (λ a. SameSegments b process (design_of b) a count (entered_all process.body []) from.Start) own_is (from_start b sound p process is count)
