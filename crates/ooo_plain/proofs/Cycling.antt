-- One cycle of the engine, and what follows.
use Rattle.std.proofs.Common.{◌≡◌, ◌≢◌, inl, inr, ℕ, suc, ◌<◌, ◌≤◌, ◌+◌, ◌-◌, ◌*◌, Bool, true, false, if◌then◌else◌, arith, Option, Some, None, refl, sym, subst, ap, ◌∙◌, length, ⊎_elim}
use Rattle.std.proofs.lemmas.List.Elements.{All-nil}
use Rattle.std.proofs.Math.Nat.{mul-le-mul_right, suc-mul}
use Rattle.std.specs.Prelude.{All}
use Rattle.ooo_time.specs.declared.stamp.Stamp.{Stamp}
use Rattle.ooo_time.specs.Stamps.{IsBefore}
use Rattle.ooo_code.specs.declared.activation.Frame.{Frame}
use Rattle.ooo_code.specs.declared.design.Design.{Design}
use Rattle.ooo_code.specs.declared.limits.Limits.{Limits}
use Rattle.ooo_code.specs.Nodes.{by_nodes}
use Rattle.ooo_code.specs.Outcomes.{Activate}
use Rattle.ooo_history.specs.declared.run.End.{End}
use Rattle.ooo_history.specs.declared.run.End.TheVariants as end
use Rattle.ooo_meaning.specs.World.{World, Over, update, reach, next_delta, least, least_activity, last_stamp, settle, notified}
use Rattle.ooo_meaning.specs.Sequence.{state_of}
use Rattle.ooo_meaning.specs.Runs.{ascending}
use Rattle.ooo_channels.specs.Operations.{Operations, later_of, after_forgetting}
use Rattle.ooo_channels.specs.Bank.{BankState, IsBankAfter}
use Rattle.ooo_channels.specs.Agreement.{GoesOn, HasHistories, shown_up_to}
use Rattle.ooo_plain.specs.declared.engine.Engine.{Engine}
use Rattle.ooo_plain.specs.declared.cycles.CycleEnd.TheVariants as cycle_end
use Rattle.ooo_plain.specs.Agenda.{due_in}
use Rattle.ooo_plain.specs.Laws.{Laws}
use Rattle.ooo_plain.specs.Tracking.{IsPlanned}
use Rattle.ooo_plain.specs.Engine.{Stands, Mirrors, Prints, frames_of}
use Rattle.ooo_plain.specs.Cycles.{AreInRange, MayGo, Evaluated, Evaluates, Overs, Goes as GoesOnTo, cycles_after, IsWithin, Cycles}
use Rattle.ooo_plain.proofs.Order.{IsBefore-irrefl, IsBefore-trans, earlier_or_not, Earlier, earlier, not_earlier}
use Rattle.ooo_plain.proofs.Slots.{IsNear}
use Rattle.ooo_plain.proofs.Phases.{Rested, too_late, too_deep, no_more, pending}
use Rattle.ooo_plain.proofs.Tracking.{rest, next_is, next_later, next_near, update_stamp}
use Rattle.ooo_plain.proofs.Tracking.{idle as all_idle}
use Rattle.ooo_plain.proofs.Onward.{Onward, onward, ends_here, settle_is}

-- ---- how many cycles may follow

pub fewer_cycles : (limits : Limits) (s t : Stamp) → IsWithin limits s → IsWithin limits t → IsBefore s t → cycles_after limits t < cycles_after limits s
fewer_cycles limits s t a b (inl lt) =
    let m : suc (limits.stop.0 - t.time.0) * (limits.deltas + 1) ≤ (limits.stop.0 - s.time.0) * (limits.deltas + 1) = mul-le-mul_right (limits.deltas + 1) (let h = b.time in omega (arith, lt, h)) in
    let n = suc-mul (limits.stop.0 - t.time.0) (limits.deltas + 1) in
    omega (arith, m, n)
fewer_cycles limits s t a b (inr (same, lt)) =
    let h = b.delta in
    let e : (limits.stop.0 - t.time.0) * (limits.deltas + 1) ≡ (limits.stop.0 - s.time.0) * (limits.deltas + 1) = ap (λ x. (limits.stop.0 - x) * (limits.deltas + 1)) (sym same) in
    omega (arith, lt, h, e)

-- ---- the world where it is over

made_update : (w : World) → (update w).made ≡ w.made
unfolding update
made_update w = refl

made_reach : (s : Stamp) (w : World) → (reach s (update w)).made ≡ w.made
unfolding reach update
made_reach s w = refl

settle_broken : (limits : Limits) (w : World) (e : End) → w.broken ≡ Some e → settle limits w ≡ Over w e
unfolding settle
settle_broken limits w e b = rw b refl

settle_stopped : (limits : Limits) (w : World) → w.broken ≡ None → w.stopped ≡ true → settle limits w ≡ Over (update w) (end.Stop w.stamp)
unfolding settle
settle_stopped limits w b s = rw (b, s) refl

shown_broken : (w : World) (e : End) → w.broken ≡ Some e → shown_up_to w ≡ w.stamp
shown_broken w e b = rw b refl

shown_whole : (w : World) → w.broken ≡ None → shown_up_to w ≡ next_delta w.stamp
shown_whole w b = rw b refl

prints_same : (e : Engine) (w v : World) → v.made ≡ w.made → Prints e w → Prints e v
prints_same e w v same p = rw same (record { output = p.output; activations = p.activations; last = p.last })

module _ (laws : Laws) (design : Design) (limits : Limits) (old mid : Engine) (w : World) where
  abbrev act : Activate Frame
  act = by_nodes design limits.statements

  pub over_broken : (e : End) → Evaluated design limits.statements (Some e) old mid w → Overs design limits e mid.stamp old mid w
  over_broken e r =
      let b = r.calms in
      let is = settle_broken limits r.world e b.broken in
      record {
        world = r.world;
        over = record {
          ops = b.ops;
          of = b.of;
          bank = b.bank;
          histories = subst (λ s. HasHistories b.ops s r.world) (shown_broken r.world e b.broken ∙ b.stamp) (subst (GoesOn b.ops (shown_up_to r.world)) is (laws.settles b.ops r.world limits b.agrees b.timely));
          prints = b.prints;
        };
        run = ends_here Frame act (ascending design) limits (state_of w (frames_of old)) r.world r.world (frames_of mid) e r.state is;
      }

  module _ (r : Evaluated design limits.statements None old mid w) where
    -- it is over in a world with the same activations
    over_in : (v : World) (e : End) → settle limits r.world ≡ Over v e → v.made ≡ r.world.made → Overs design limits e (next_delta mid.stamp) old mid w
    over_in v e is made = record {
      world = v;
      over = record {
        ops = r.calms.turns.ops;
        of = r.calms.turns.mirrors.of;
        bank = r.calms.turns.mirrors.bank;
        histories = subst (λ s. HasHistories r.calms.turns.ops s v) (shown_whole r.world r.calms.turns.mirrors.whole ∙ ap next_delta r.calms.turns.mirrors.stamp)
            (subst (GoesOn r.calms.turns.ops (shown_up_to r.world)) is (laws.settles r.calms.turns.ops r.world limits r.calms.turns.mirrors.agrees r.calms.turns.mirrors.timely));
        prints = prints_same mid r.world v made r.calms.turns.mirrors.prints;
      };
      run = ends_here Frame act (ascending design) limits (state_of w (frames_of old)) r.world v (frames_of mid) e r.state is;
    }

    pub over_stopped : mid.stopped ≡ true → Overs design limits (end.Stop mid.stamp) (next_delta mid.stamp) old mid w
    over_stopped s =
        over_in (update r.world) (end.Stop mid.stamp)
        (settle_stopped limits r.world r.calms.turns.mirrors.whole (r.calms.turns.mirrors.stopped ∙ s) ∙ ap (λ x. Over (update r.world) (end.Stop x)) r.calms.turns.mirrors.stamp) (made_update r.world)

    module _ (going : mid.stopped ≡ false) where
      nobody : (p : ℕ) → due_in mid.schedule.agenda p ≢ Some r.world.stamp
      nobody p e = r.calms.nobody p (e ∙ ap Some r.calms.turns.mirrors.stamp)

      abbrev d : World
      d = reach (next_delta (update r.world).stamp) (update r.world)

      settled_is : settle limits r.world ≡ notified limits d
      settled_is = settle_is Frame act (ascending design) limits r.world r.calms.turns.mirrors.whole (r.calms.turns.mirrors.stopped ∙ going)

      calm : Rested (update r.world)
      calm = rest r.world r.calms.turns.mirrors.timely (all_idle mid.schedule r.world r.calms.turns.mirrors.timely r.calms.turns.planned nobody)

      active : least mid.schedule.agenda ≡ least_activity (update r.world)
      active = next_is mid.schedule r.world r.calms.turns.mirrors.timely r.calms.turns.planned nobody

      made_d : d.made ≡ r.world.made
      made_d = made_reach (next_delta (update r.world).stamp) r.world

      pub over_idle : least mid.schedule.agenda ≡ None → Overs design limits (end.Idle mid.last) (next_delta mid.stamp) old mid w
      over_idle e =
          over_in d (end.Idle mid.last)
          (settled_is ∙ no_more limits (update r.world) calm (sym active ∙ e) ∙ ap (λ x. Over d (end.Idle x)) (ap last_stamp made_d ∙ r.calms.turns.mirrors.prints.last)) made_d

      time_same : (update r.world).stamp ≡ mid.stamp
      time_same = update_stamp r.world ∙ r.calms.turns.mirrors.stamp

      module _ (t : Stamp) (first : least mid.schedule.agenda ≡ Some t) where
        pub over_time : mid.stamp.time.0 ≤ limits.stop.0 → limits.stop.0 < t.time.0 → Overs design limits (end.Time limits.stop) (next_delta mid.stamp) old mid w
        over_time le lt =
            over_in d (end.Time limits.stop)
            (settled_is ∙ too_late limits (update r.world) t calm (sym active ∙ first) (subst (λ s. s.time.0 ≤ limits.stop.0) (sym time_same) le) lt) made_d

        near : IsNear mid.stamp t
        near = subst (λ s. IsNear s t) r.calms.turns.mirrors.stamp (next_near mid.schedule r.world r.calms.turns.mirrors.timely r.calms.turns.planned nobody t first)

        pub over_deltas : AreInRange limits → t.delta ≡ limits.deltas → Overs design limits (end.Deltas t) (next_delta mid.stamp) old mid w
        over_deltas range deep =
            over_in d (end.Deltas t)
            (settled_is ∙ too_deep limits (update r.world) t calm (sym active ∙ first) (let a = range.some_deltas in omega (arith, a)) (subst (λ s. IsNear s t) (sym time_same) near) deep) made_d

        pub later : IsBefore mid.stamp t
        later = subst (λ s. IsBefore s t) r.calms.turns.mirrors.stamp (next_later mid.schedule r.world r.calms.turns.mirrors.timely r.calms.turns.planned nobody t first)

        module _ (range : AreInRange limits) (small : t.delta ≢ limits.deltas) (le : t.time.0 ≤ limits.stop.0) (was : IsWithin limits mid.stamp) where
          pub within : IsWithin limits t
          within = record {
            time = le;
            delta = ⊎_elim
                (λ e. let a = ap (λ s. s.delta) e in let b = was.delta in omega (arith, a, b, small))
                (λ z. let a = range.some_deltas in omega (arith, z, a)) near;
          }

          o : Onward Frame act (ascending design) limits laws mid.schedule r.calms.turns.ops t first small le (frames_of mid) r.world
          o = onward Frame act (ascending design) limits laws mid.schedule r.calms.turns.ops t first small le (frames_of mid) (suc (pending (update r.world).slots)) r.world (omega arith)
              r.calms.turns.mirrors.agrees r.calms.turns.mirrors.timely r.calms.turns.mirrors.whole (r.calms.turns.mirrors.stopped ∙ going) r.calms.turns.planned nobody

          abbrev ops' : Operations
          ops' = after_forgetting t r.calms.turns.ops

          below' : ¬ IsBefore t (later_of r.calms.turns.ops.below t)
          below' = go (earlier_or_not r.calms.turns.ops.below t)
            where
              go : {b : Bool} → Earlier r.calms.turns.ops.below t b → ¬ IsBefore t (if b then t else r.calms.turns.ops.below)
              go (earlier h) = IsBefore-irrefl t
              go (not_earlier h) = λ k. r.calms.turns.mirrors.below (IsBefore-trans mid.stamp t r.calms.turns.ops.below later k)

          stands : Stands design o.world (frames_of mid)
          stands = let s = r.calms.turns.mirrors.stands in record {
            frames_count = s.frames_count;
            waits_count = o.keeps.count ∙ s.waits_count;
            ends = o.keeps.ends ∙ s.ends;
            entries = s.entries;
            known = λ p. ⊎_elim
                (λ e. subst (λ x. All (λ e. e < length design.events) x.events) (sym e) (s.known p))
                (λ e. subst (λ x. All (λ e. e < length design.events) x.events) (sym e) (All-nil (λ e. e < length design.events)))
                (o.keeps.waits p);
          }

          pub goes_to : (bank : BankState) → ((ops : Operations) → IsBankAfter mid.bank ops → IsBankAfter bank (after_forgetting t ops)) → GoesOnTo design limits old (record mid { stamp = t; bank = bank }) w
          goes_to bank after = record {
            world = o.world;
            turns = record {
              ops = ops';
              mirrors = let k = r.calms.turns.mirrors in record {
                of = record { channels = k.of.channels; events = k.of.events };
                agrees = laws.forgets r.calms.turns.ops o.world t o.agrees;
                timely = o.timely;
                below = below';
                bank = after r.calms.turns.ops k.bank;
                stamp = o.stamp;
                countable = record { time = (let a = range.stop in omega (arith, le, a)); delta = (let a = within.delta in let b = range.deltas in omega (arith, a, b)) };
                variables = o.keeps.variables ∙ k.variables;
                prints = let q = prints_same mid r.world o.world o.keeps.made k.prints in record { output = q.output; activations = q.activations; last = q.last };
                stopped = o.keeps.stopped ∙ k.stopped;
                whole = o.keeps.broken ∙ k.whole;
                stands = stands;
                shown_channels = k.shown_channels;
                channel_events = k.channel_events;
                lists = k.lists;
              };
              planned = o.planned;
            };
            run = λ x h. o.run x h (state_of w (frames_of old)) r.state;
          }

-- ---- a cycle

module _ (laws : Laws) (design : Design) (limits : Limits) (o x : Option End) (same : x ≡ o) (old mid : Engine) (ev : Evaluates design limits.statements x old mid) where
  evaluated : (w : World) (ops : Operations) → Mirrors design old ops w → IsPlanned old.schedule w → Evaluated design limits.statements o old mid w
  evaluated w ops m h = subst (λ y. Evaluated design limits.statements y old mid w) same (ev.each w ops m h)

  pub cycled_over : (e : End) (at : Stamp) → ((w : World) → Evaluated design limits.statements o old mid w → Overs design limits e at old mid w) → Cycles design limits (cycle_end.Over e at) old mid
  cycled_over e at f = record { activations = ev.activations; nears = tt; each = λ w ops m h. f w (evaluated w ops m h) }

module _ (laws : Laws) (design : Design) (limits : Limits) (x : Option End) (same : x ≡ None) (old mid : Engine) (ev : Evaluates design limits.statements x old mid)
    (may : MayGo design old) (was : IsWithin limits old.stamp) (range : AreInRange limits) (going : mid.stopped ≡ false) (t : Stamp) (first : least mid.schedule.agenda ≡ Some t) (small : t.delta ≢ limits.deltas) (le : t.time.0 ≤ limits.stop.0) where
  was_mid : IsWithin limits mid.stamp
  was_mid = subst (IsWithin limits) (sym ev.stamp) was

  pub cycled_on : (bank : BankState) → ((ops : Operations) → IsBankAfter mid.bank ops → IsBankAfter bank (after_forgetting t ops)) → Cycles design limits cycle_end.Goes old (record mid { stamp = t; bank = bank })
  cycled_on bank after =
      let r = evaluated laws design limits None x same old mid ev may.world may.ops may.mirrors may.planned in
      let in_range = within laws design limits old mid may.world r going t first range small le was_mid in
      record {
        activations = ev.activations;
        nears = (in_range, fewer_cycles limits old.stamp t was in_range (subst (λ s. IsBefore s t) ev.stamp (later laws design limits old mid may.world r going t first)));
        each = λ w ops m h. goes_to laws design limits old mid w (evaluated laws design limits None x same old mid ev w ops m h) going t first range small le was_mid bank after;
      }
