-- One process after another.
use Rattle.std.proofs.Common.{◌≡◌, ◌≢◌, ℕ, zero, suc, ◌<◌, ◌≤◌, ◌+◌, ◌-◌, Bool, true, false, ◌&&◌, arith, List, [], ◌∷◌, Option, Some, None, refl, sym, subst, ap, ◌∙◌, get_or, set, length, ⊎_elim}
use Rattle.std.proofs.lemmas.Bool.{cases_eq, cases_lt, false_from_ne_true}
use Rattle.std.proofs.lemmas.List.{length-set, get_or-set_same, get_or-set_other}
use Rattle.std.proofs.lemmas.Option.{slice_get-get_or}
use Rattle.std.specs.Prelude.{All, fold, slice_get, is_none}
use Rattle.ooo_time.specs.declared.stamp.Stamp.{Stamp}
use Rattle.ooo_code.specs.declared.activation.Frame.{Frame}
use Rattle.ooo_code.specs.declared.activation.JobEnd.{JobEnd}
use Rattle.ooo_code.specs.declared.activation.JobEnd.TheVariants as job
use Rattle.ooo_code.specs.declared.design.Design.{Design}
use Rattle.ooo_code.specs.Nodes.{by_nodes}
use Rattle.ooo_code.specs.Outcomes.{Activate}
use Rattle.ooo_history.specs.declared.run.End.{End}
use Rattle.ooo_meaning.specs.World.{World, wait_at, never, runs_now, view_of, after_deed, wait_after}
use Rattle.ooo_meaning.specs.Sequence.{State, state_of, turn, after_turn, evaluate}
use Rattle.ooo_meaning.specs.Runs.{ascending, numbers_from}
use Rattle.ooo_channels.specs.Operations.{Operations}
use Rattle.ooo_plain.specs.declared.engine.Engine.{Engine}
use Rattle.ooo_plain.specs.Agenda.{due_in, AllFrom, Takes}
use Rattle.ooo_plain.specs.Tracking.{IsPlanned, IsPlannedBut}
use Rattle.ooo_plain.specs.Schedule.{KnowsWaiters, awaited_at}
use Rattle.ooo_plain.specs.declared.schedule.Schedule.{Schedule}
use Rattle.ooo_plain.specs.Engine.{Mirrors, Prints, Turned, MayTurn, frames_of, no_frame, outcome_at}
use Rattle.ooo_plain.specs.Cycles.{MayGo, Passed, still, HadTurns, HaveTurns, Evaluated, Evaluates}
use Rattle.ooo_plain.proofs.Tracking.{due_is, due_now, due_not_now, runs_if_due, all_from, same_count}
use Rattle.ooo_plain.proofs.Deeding.{stamp_after, waits_after, count_after}

-- ---- a process is taken off

module _ (design : Design) (e : Engine) (ops : Operations) (w : World) (m : Mirrors design e ops w) (h : IsPlanned e.schedule w) where
  pub may_take : AllFrom e.stamp e.schedule.agenda
  may_take = subst (λ s. AllFrom s e.schedule.agenda) m.stamp (all_from e.schedule w m.timely h)

  pub within_all : (p : ℕ) → p < length e.schedule.agenda → p < length design.processes
  within_all p lt = let a = same_count e.schedule w m.timely h in let b = m.stands.waits_count in omega (arith, lt, a, b)

  module _ (s : Schedule) (p : ℕ) (rest : s ≡ record e.schedule { agenda = s.agenda }) (agenda : s.agenda ≡ set e.schedule.agenda p None) where
    pub mirrors_taken : Mirrors design (record e { schedule = s }) ops w
    mirrors_taken = record {
      of = m.of;
      agrees = m.agrees;
      timely = m.timely;
      below = m.below;
      bank = m.bank;
      stamp = m.stamp;
      countable = m.countable;
      variables = m.variables;
      prints = record { output = m.prints.output; activations = m.prints.activations; last = m.prints.last };
      stopped = m.stopped;
      whole = m.whole;
      stands = m.stands;
      shown_channels = m.shown_channels;
      channel_events = m.channel_events;
      lists = ap {A = Schedule} (λ x. length x.waiters.items) rest ∙ m.lists;
    }

    awaited_same : s.awaited ≡ e.schedule.awaited
    awaited_same = ap {A = Schedule} (λ x. x.awaited) rest

    pub planned_taken : IsPlannedBut p s w
    planned_taken = record {
      count = ap length agenda ∙ length-set e.schedule.agenda p None ∙ same_count e.schedule w m.timely h;
      dues = λ q ne. ap (λ a. due_in a q) agenda ∙ get_or-set_other e.schedule.agenda p q None None ne ∙ due_is e.schedule w m.timely h q;
      awaited = λ q ne r. ap {A = Schedule} (λ x. awaited_at x.awaited.items q) rest ∙ h.awaited q r;
      known = λ q. subst (λ x. All (λ i. i < length x.waiters.items) (awaited_at x.awaited.items q).events) (sym rest) (h.known q);
      knows = subst KnowsWaiters (sym rest) (record { count = ap length agenda ∙ length-set e.schedule.agenda p None ∙ h.knows.count; all = h.knows.all; within = h.knows.within });
    }

-- the lowest that is due has its turn
pub passed : (design : Design) (statements p : ℕ) (o x : Option End) → x ≡ o → (old new : Engine) (s : Schedule) → Takes p old.stamp old.schedule.agenda s.agenda → s ≡ record old.schedule { agenda = s.agenda }
    → ((w : World) (ops : Operations) → Mirrors design (record old { schedule = s }) ops w → IsPlannedBut p s w → Turned design statements p x (record old { schedule = s }) new w)
    → (w : World) (ops : Operations) → Mirrors design old ops w → IsPlanned old.schedule w → Passed design statements p o old new w
passed design statements p o x is old new s takes rest turned w ops m h =
    let t = subst (λ y. Turned design statements p y (record old { schedule = s }) new w) is (turned w ops (mirrors_taken design old ops w m h s p rest takes.new_is) (planned_taken design old ops w m h s p rest takes.new_is)) in
    record {
      within = within_all design old ops w m h p takes.within;
      due = takes.due;
      lowest = takes.lowest;
      turned = record { comes = t.comes; frames = t.frames };
    }

pub may_turn : (design : Design) (p : ℕ) (old : Engine) (s : Schedule) → MayGo design old → Takes p old.stamp old.schedule.agenda s.agenda → s ≡ record old.schedule { agenda = s.agenda } → MayTurn design (record old { schedule = s }) p
may_turn design p old s m takes rest = record {
  world = m.world;
  ops = m.ops;
  mirrors = mirrors_taken design old m.ops m.world m.mirrors m.planned s p rest takes.new_is;
  planned = planned_taken design old m.ops m.world m.mirrors m.planned s p rest takes.new_is;
  within = within_all design old m.ops m.world m.mirrors m.planned p takes.within;
}

-- ---- a turn of the scheduler

and_true : (a b : Bool) → a ≡ true → b ≡ true → (a && b) ≡ true
and_true true true e f = refl
and_true true false e f = f
and_true false b e f = e

runs_true : (p : ℕ) (w : World) → w.broken ≡ None → (wait_at w.waits p).runnable ≡ true → runs_now p w ≡ true
unfolding runs_now
runs_true p w b r = and_true (is_none w.broken) _ (ap is_none b) r

runs_false : (p : ℕ) (w : World) → (wait_at w.waits p).runnable ≡ false → runs_now p w ≡ false
unfolding runs_now
runs_false p w r = rw r (go (is_none w.broken)) where
  go : (b : Bool) → (b && false) ≡ false
  go true = refl
  go false = refl

broken_false : (p : ℕ) (w : World) (e : End) → w.broken ≡ Some e → runs_now p w ≡ false
unfolding runs_now
broken_false p w e b = rw b refl

turn_runs : (activate : Activate Frame) (s : State Frame) (p : ℕ) (k : Frame) → runs_now p s.world ≡ true → slice_get s.places p ≡ Some k → turn activate s p ≡ after_turn p s (activate p k (view_of p s.world))
unfolding turn
turn_runs activate s p k r is = rw (r, is) refl

module _ (activate : Activate Frame) where
  turn_idle : (s : State Frame) (p : ℕ) → runs_now p s.world ≡ false → turn activate s p ≡ s
  unfolding turn
  turn_idle s p h = rw h refl

  turns_idle : (ps : List ℕ) (s : State Frame) → ((p : ℕ) → runs_now p s.world ≡ false) → fold (turn activate) s ps ≡ s
  turns_idle [] s h = refl
  turns_idle (p ∷ ps) s h = ap (λ x. fold (turn activate) x ps) (turn_idle s p (h p)) ∙ turns_idle ps s h

  -- processes that aren't runnable are passed over
  skips : (k p n : ℕ) (s : State Frame) → ((q : ℕ) → p ≤ q → q < p + k → runs_now q s.world ≡ false) → fold (turn activate) s (numbers_from p (k + n)) ≡ fold (turn activate) s (numbers_from (p + k) n)
  skips zero p n s h = ap (λ m. fold (turn activate) s (numbers_from p m)) (let e : 0 + n ≡ n = omega arith in e) ∙ ap (λ i. fold (turn activate) s (numbers_from i n)) (let e : p ≡ p + 0 = omega arith in e)
  skips (suc k) p n s h =
      ap (λ m. fold (turn activate) s (numbers_from p m)) (let e : suc k + n ≡ suc (k + n) = omega arith in e)
      ∙ ap (λ x. fold (turn activate) x (numbers_from (p + 1) (k + n))) (turn_idle s p (h p (omega arith) (omega arith)))
      ∙ skips k (p + 1) n s (λ q le lt. h q (omega (arith, le)) (omega (arith, lt)))
      ∙ ap (λ m. fold (turn activate) s (numbers_from m n)) (let f : p + 1 + k ≡ p + suc k = omega arith in f)

-- ---- the loop

module _ (design : Design) (statements : ℕ) where
  abbrev pub act : Activate Frame
  act = by_nodes design statements

  pub had_none : (e : Engine) → HaveTurns design statements 0 e e
  had_none e = record {
    within = omega arith;
    stamp = refl;
    activations = omega arith;
    had = λ w ops m h. record { world = w; turns = record { ops = ops; mirrors = m; planned = h }; rest = refl; idle = λ q lt. absurd (omega (arith, lt)) };
  }

  pub may_pass : (p : ℕ) (old mid : Engine) → MayGo design old → HaveTurns design statements p old mid → MayGo design mid
  may_pass p old mid m h = let r = h.had m.world m.ops m.mirrors m.planned in record { world = r.world; ops = r.turns.ops; mirrors = r.turns.mirrors; planned = r.turns.planned }

  module _ (p : ℕ) (old mid : Engine) (h : HaveTurns design statements p old mid) where
    -- who had its turn isn't due
    pub not_passed : (q : ℕ) → MayGo design old → due_in mid.schedule.agenda q ≡ Some mid.stamp → p ≤ q
    not_passed q m due =
        let r = h.had m.world m.ops m.mirrors m.planned in
        ⊎_elim
        (λ lt. absurd (due_not_now mid.schedule r.world r.turns.mirrors.timely r.turns.planned q (r.idle q lt) (due ∙ ap Some (sym r.turns.mirrors.stamp))))
        (λ le. le)
        (cases_lt q p)

    module _ (w : World) (r : HadTurns design statements p old mid w) where
      undue : (q : ℕ) → due_in mid.schedule.agenda q ≢ Some mid.stamp → (wait_at r.world.waits q).runnable ≡ false
      undue q not = false_from_ne_true _ (λ e. not (due_now mid.schedule r.world r.turns.mirrors.timely r.turns.planned q e ∙ ap Some r.turns.mirrors.stamp))

      -- no other process runs
      over : ((q : ℕ) → runs_now q r.world ≡ false) → evaluate act (ascending design) (state_of w (frames_of old)) ≡ state_of r.world (frames_of mid)
      unfolding evaluate
      over none = ap (λ n. fold (turn act) (state_of w (frames_of old)) (numbers_from 0 n)) (let e : length design.processes ≡ length design.processes - 0 = omega arith in e) ∙ sym r.rest ∙ turns_idle act (still design p) (state_of r.world (frames_of mid)) none

      pub calm : ((q : ℕ) → due_in mid.schedule.agenda q ≢ Some mid.stamp) → Evaluated design statements None old mid w
      calm nobody = record {
        world = r.world;
        calms = record { turns = r.turns; nobody = nobody };
        state = over (λ q. runs_false q r.world (undue q (nobody q)));
      }

      -- the next turn
      module _ (q : ℕ) (within : q < length design.processes) (le : p ≤ q) (due : due_in mid.schedule.agenda q ≡ Some mid.stamp) (lowest : (i : ℕ) → i < q → due_in mid.schedule.agenda i ≢ Some mid.stamp)
          (new : Engine) (x : Option End) (t : Turned design statements q x mid new r.world) where
        abbrev next : World
        next = after_deed q r.world (outcome_at design statements q (frames_of mid) r.world).deed

        runs : runs_now q r.world ≡ true
        runs = runs_true q r.world r.turns.mirrors.whole (runs_if_due mid.schedule r.world r.turns.mirrors.timely r.turns.planned q (due ∙ ap Some (sym r.turns.mirrors.stamp)))

        below : (i : ℕ) → i < q → runs_now i r.world ≡ false
        below i lt = runs_false i r.world (undue i (lowest i lt))

        found : slice_get (frames_of mid) q ≡ Some (get_or (frames_of mid) q no_frame)
        found = slice_get-get_or (frames_of mid) q no_frame (let a = r.turns.mirrors.stands.frames_count in omega (arith, a, within))

        turn_is : turn act (state_of r.world (frames_of mid)) q ≡ state_of next (frames_of new)
        turn_is = turn_runs act (state_of r.world (frames_of mid)) q (get_or (frames_of mid) q no_frame) runs found ∙ ap (state_of next) (sym t.frames)

        rest_is : fold (turn act) (state_of next (frames_of new)) (still design (q + 1)) ≡ fold (turn act) (state_of w (frames_of old)) (still design 0)
        rest_is =
            ap (λ s. fold (turn act) s (still design (q + 1))) (sym turn_is)
            ∙ ap (λ n. fold (turn act) (state_of r.world (frames_of mid)) (numbers_from q n)) (let e : suc (length design.processes - (q + 1)) ≡ length design.processes - q = omega (arith, within) in e)
            ∙ sym (skips act (q - p) p (length design.processes - q) (state_of r.world (frames_of mid)) (λ i a b. below i (omega (arith, b, le)))
            ∙ ap (λ i. fold (turn act) (state_of r.world (frames_of mid)) (numbers_from i (length design.processes - q))) (let e : p + (q - p) ≡ q = omega (arith, le) in e))
            ∙ ap (λ n. fold (turn act) (state_of r.world (frames_of mid)) (numbers_from p n)) (let e : q - p + (length design.processes - q) ≡ length design.processes - p = omega (arith, le, within) in e)
            ∙ r.rest

        pub stopped_by : ((i : ℕ) → runs_now i next ≡ false) → evaluate act (ascending design) (state_of w (frames_of old)) ≡ state_of next (frames_of new)
        unfolding evaluate
        stopped_by none = ap (λ n. fold (turn act) (state_of w (frames_of old)) (numbers_from 0 n)) (let e : length design.processes ≡ length design.processes - 0 = omega arith in e) ∙ sym rest_is ∙ turns_idle act (still design (q + 1)) (state_of next (frames_of new)) none

        own_idle : (s : Stamp) (end : JobEnd) → (wait_after s end).runnable ≡ false
        own_idle s (job.Waits on) = refl
        own_idle s job.Ended = refl
        own_idle s (job.Faulted f line) = refl
        own_idle s (job.Limit line) = refl

        idle_next : (i : ℕ) → i < q + 1 → (wait_at next.waits i).runnable ≡ false
        idle_next i lt =
            subst (λ ws. (wait_at ws i).runnable ≡ false) (sym (waits_after q r.world (outcome_at design statements q (frames_of mid) r.world).deed))
            (⊎_elim
            (λ e. subst (λ j. (wait_at (set r.world.waits q (wait_after r.world.stamp (outcome_at design statements q (frames_of mid) r.world).deed.end)) j).runnable ≡ false) (sym e)
            (ap (λ y. y.runnable) (get_or-set_same r.world.waits q (wait_after r.world.stamp (outcome_at design statements q (frames_of mid) r.world).deed.end) never (let a = r.turns.mirrors.stands.waits_count in omega (arith, a, within))) ∙ own_idle r.world.stamp (outcome_at design statements q (frames_of mid) r.world).deed.end))
            (λ ne. ap (λ y. y.runnable) (get_or-set_other r.world.waits q i (wait_after r.world.stamp (outcome_at design statements q (frames_of mid) r.world).deed.end) never ne) ∙ undue i (lowest i (omega (arith, lt, ne))))
            (cases_eq i q))

        activations_next : Prints new next → new.activations ≡ mid.activations + 1
        activations_next pr = sym pr.activations ∙ count_after q r.world (outcome_at design statements q (frames_of mid) r.world).deed ∙ ap (λ n. n + 1) r.turns.mirrors.prints.activations

  -- ---- from one pass to the next

  module _ (p q : ℕ) (old mid new : Engine) (m : MayGo design old) (h : HaveTurns design statements p old mid) (t : (w : World) (ops : Operations) → Mirrors design mid ops w → IsPlanned mid.schedule w → Passed design statements q None mid new w) where
    mine : HadTurns design statements p old mid m.world
    mine = h.had m.world m.ops m.mirrors m.planned

    once : Passed design statements q None mid new mine.world
    once = t mine.world mine.turns.ops mine.turns.mirrors mine.turns.planned

    pub from : p ≤ q
    from = not_passed p old mid h q m once.due

    pub within : q < length design.processes
    within = once.within

    stamp_new : new.stamp ≡ mid.stamp
    stamp_new = sym once.turned.comes.mirrors.stamp ∙ stamp_after q mine.world (outcome_at design statements q (frames_of mid) mine.world).deed ∙ mine.turns.mirrors.stamp

    pub had_more : HaveTurns design statements (q + 1) old new
    had_more = record {
      within = (let l = once.within in omega (arith, l));
      stamp = stamp_new ∙ h.stamp;
      activations = (let a = activations_next p old mid h m.world mine q once.within from once.due once.lowest new None once.turned once.turned.comes.mirrors.prints in let b = h.activations in let c = from in omega (arith, a, b, c));
      had = λ w ops mi pl.
          let r = h.had w ops mi pl in
          let d = t r.world r.turns.ops r.turns.mirrors r.turns.planned in
          record {
            world = _;
            turns = d.turned.comes;
            rest = rest_is p old mid h w r q d.within from d.due d.lowest new None d.turned;
            idle = idle_next p old mid h w r q d.within from d.due d.lowest new None d.turned;
          };
    }

  -- no process is due any more
  pub all_calm : (p : ℕ) (old mid : Engine) → HaveTurns design statements p old mid → ((q : ℕ) → due_in mid.schedule.agenda q ≢ Some mid.stamp) → Evaluates design statements None old mid
  all_calm p old mid h nobody = record {
    stamp = h.stamp;
    activations = (let a = h.activations in let b = h.within in omega (arith, a, b));
    each = λ w ops mi pl. calm p old mid h w (h.had w ops mi pl) nobody;
  }

  -- an activation ended the run
  module _ (p : ℕ) (old mid new : Engine) (e : End) (m : MayGo design old) (h : HaveTurns design statements p old mid) (t : (w : World) (ops : Operations) → Mirrors design mid ops w → IsPlanned mid.schedule w → (q : ℕ) × Passed design statements q (Some e) mid new w) where
    first : HadTurns design statements p old mid m.world
    first = h.had m.world m.ops m.mirrors m.planned

    whole : (q : ℕ) × Passed design statements q (Some e) mid new first.world
    whole = t first.world first.turns.ops first.turns.mirrors first.turns.planned

    q_from : p ≤ whole.0
    q_from = not_passed p old mid h whole.0 m whole.1.due

    pub broken : Evaluates design statements (Some e) old new
    broken = record {
      stamp = sym whole.1.turned.comes.stamp ∙ stamp_after whole.0 first.world (outcome_at design statements whole.0 (frames_of mid) first.world).deed ∙ first.turns.mirrors.stamp ∙ h.stamp;
      activations = (let a = activations_next p old mid h m.world first whole.0 whole.1.within q_from whole.1.due whole.1.lowest new (Some e) whole.1.turned whole.1.turned.comes.prints in let b = h.activations in let c = q_from in let l = whole.1.within in omega (arith, a, b, c, l));
      each = λ w ops mi pl.
          let r = h.had w ops mi pl in
          let d = t r.world r.turns.ops r.turns.mirrors r.turns.planned in
          let le = not_passed p old mid h d.0 m d.1.due in
          record {
            world = _;
            calms = d.1.turned.comes;
            state = stopped_by p old mid h w r d.0 d.1.within le d.1.due d.1.lowest new (Some e) d.1.turned (λ i. broken_false i _ e d.1.turned.comes.broken);
          };
    }
