-- The sequential run by cycles is the run that takes the front of least place, and ends where a board is over.
use Rattle.std.proofs.Common.{◌≡◌, ◌≢◌, ℕ, suc, ◌<◌, ◌≤◌, ◌⊎◌, inl, inr, ⊎_elim, Bool, true, false, [], ◌∷◌, Option, Some, None, refl, sym, ap, ◌∙◌, subst, arith}
use Rattle.ooo_schedules.specs.Model.{Front, last, Model, ActOf, Log, Laws, Sequential, Open, Kept, IsOver, IsLeast, Earlier}
use Rattle.ooo_time.specs.declared.stamp.Stamp.{Stamp}
use Rattle.ooo_time.specs.Stamps.{IsBefore}
use Rattle.ooo_schedules.specs.Design.{Wait, model, times}
use Rattle.ooo_schedules.specs.Slots.{is_since}
use Rattle.ooo_schedules.specs.Cycles.{act_at, Turn, FromPlace}
use Rattle.ooo_time.specs.Stamps.{is_before}
use Rattle.ooo_value.specs.declared.bound.BoundEvent.{BoundEvent}
use Rattle.ooo_value.specs.declared.bound.BoundEvent.TheVariants as event
use Rattle.ooo_meaning.specs.World.{zero_stamp}
use Rattle.ooo_schedules.specs.Program.{Program, wait_by, design, Sound}
use Rattle.ooo_schedules.specs.Worlds.{World, Waiting, after_turn, fire_at, at_stamp, Fits, same_wait, Quiet, is_at}
use Rattle.ooo_schedules.specs.Updates.{noted_by, note, nobody}
use Rattle.ooo_schedules.specs.Going.{Takes, GoesOn}
use Rattle.ooo_schedules.specs.Going.{Going as GoingOf}
use Rattle.ooo_schedules.specs.Sequence.{Sched, after_act, slot_updated, update, next_cycle, Evaluates, ends, skips, takes, Breaks, skip_on, take_on, here, NextStamp, AllLate, NoStop, Fires, no_more, unheard, RunsTo, faults, stopped, late, limited, goes, starts_now, begin, Starts}
use Rattle.ooo_schedules.proofs.Reaches.{irreflexive, transitive, compare, then_not_after}
use Rattle.ooo_schedules.proofs.Programs.{is_own, design_laws, program_laws}
use Rattle.ooo_schedules.proofs.Run.{run_of, ahead_next}
use Rattle.ooo_schedules.proofs.Cycles.{turn_next}
use Rattle.ooo_schedules.proofs.Worlds.{skip_turn, sorted, take_turn, fired_fits, EndsBy, on_time, on_event, ends_by, at_itself, is_at_some, fired_slots}
use Rattle.ooo_schedules.proofs.Fronts.{FrontOf, front_of as front_of_log, front_ends, front_is}
use Rattle.ooo_schedules.proofs.Sorts.{soonest_is}
use Rattle.ooo_schedules.proofs.Logs.{same_or_not}
use Rattle.ooo_schedules.proofs.Places.{earlier_before}
use Rattle.ooo_schedules.proofs.Updates.{updated, asks_turn, next_cycle as next_asks}

module _ (p : Program) (h : Sound p) where
  abbrev M : Model
  M = model (design p)

  abbrev L : Laws M
  L = program_laws p h

  abbrev pub Going : Sched → Log M → ℕ → Type 0
  Going s xs q = GoingOf p s xs q

  skip_going : (s : Sched) (xs : Log M) (q : ℕ) → Going s xs q → s.world.runnable q ≡ false → Going s xs (suc q)
  skip_going s xs q g e =
      let t = skip_turn p h s.world xs q g.fits e in
      record { fits = t.1; from = (turn_next M L s.world.stamp q xs xs g.run g.from t.0).1; asks = g.asks; run = g.run; kept = g.kept; within = g.within; below = g.below; whole = g.whole; calm = g.calm }

  module _ (s : Sched) (xs : Log M) (q : ℕ) (g : Going s xs q) (f : Front Stamp) (runs : s.world.runnable q ≡ true) (front_q : M.front xs q ≡ Some f) where
    abbrev x : ActOf M
    x = act_at M xs q f

    now : f.stamp ≡ s.world.stamp
    now = let r = g.fits.runs q runs in ap (λ y. y.stamp) (same f r.1 (sym front_q ∙ r.2)) ∙ r.3
      where
        same : (a b : Front Stamp) → Some a ≡ Some b → a ≡ b
        same a b e = cc

    turn : Turn M s.world.stamp q xs (x ∷ xs) × Fits p (after_turn p s.world q (p.act x)) (x ∷ xs) (suc q)
    turn = take_turn p h s.world xs q g.fits (run_of M L xs g.run) f front_q now

    went : Sequential M (x ∷ xs) × FromPlace M s.world.stamp (suc q) (x ∷ xs)
    went = turn_next M L s.world.stamp q xs (x ∷ xs) g.run g.from turn.0

    open_x : Open M xs f.stamp q
    open_x = record {
      within = subst (λ t. t.time.0 ≤ p.stop.0) (sym now) g.within;
      below = λ e. g.below (ap (λ t. t.delta) (sym now) ∙ e);
      uncut = λ y i c.
          ⊎_elim (λ k. let c : true ≡ false = sym k.0 ∙ g.whole y i in absurd cc)
          (λ k. irreflexive s.world.stamp (subst (IsBefore s.world.stamp) now (subst (λ t. IsBefore t f.stamp) (g.calm y i k.0) k.1))) c;
    }

    take_going : p.breaks x ≡ false → Going (after_act p s q x) (x ∷ xs) (suc q)
    take_going whole = record {
      fits = turn.1;
      from = went.1;
      asks = λ e n. asks_turn p h s.world xs q g.fits (run_of M L xs g.run) f front_q now e (s.values e) n (s.asked e) (g.asks e n);
      run = went.0;
      kept = (open_x, g.kept);
      within = g.within;
      below = g.below;
      whole = λ y i. ⊎_elim (λ e. ap p.breaks e ∙ whole) (λ j. g.whole y j) i;
      calm = λ y i k. ⊎_elim (λ e. ap (λ t. t.stamp) e ∙ now) (λ j. g.calm y j k) i;
    }

  pub evaluated : (q : ℕ) (s t : Sched) (xs ys : Log M) → Evaluates p q s xs t ys → Going s xs q → Going t ys p.processes
  evaluated q s t xs ys (ends e) g = subst (Going s xs) e g
  evaluated q s t xs ys (skips r e) g = evaluated (suc q) s t xs ys e (skip_going s xs q g r)
  evaluated q s t xs ys (takes f r k b e) g = evaluated (suc q) (after_act p s q (act_at M xs q f)) t (act_at M xs q f ∷ xs) ys e (take_going s xs q g f r k b)

  -- ---- what a run is

  pub record Ran (zs : Log M) : Type 0 where
    pub run : Sequential M zs
    pub kept : Kept M zs
    pub over : IsOver M (record { log = zs; out = [] })

  -- an activation that broke cuts off all fronts after it
  broke : (q : ℕ) (s : Sched) (xs ys : Log M) → Breaks p q s xs ys → Going s xs q → Ran ys
  broke q s xs ys (skip_on r b) g = broke (suc q) s xs ys b (skip_going s xs q g r)
  broke q s xs ys (take_on f r k n b) g = broke (suc q) (after_act p s q (act_at M xs q f)) (act_at M xs q f ∷ xs) ys b (take_going s xs q g f r k n)
  broke q s xs _ (here f r k b) g =
      let w = went s xs q g f r k in
      record {
        run = w.0;
        kept = (open_x s xs q g f r k, g.kept);
        over = record {
          quiet = refl;
          shut = λ a c e least o.
              let k' = ahead_next M L (act_at M xs q f) xs w.0.0 (run_of M L xs g.run) a c e in
              o.uncut (act_at M xs q f) (inl refl) (inl (b, ⊎_elim (λ y. inl y) (λ y. let z = y.1 in inr (y.0, omega (arith, z))) k'));
        };
      }

  -- ---- after an evaluation

  not_own : (o : BoundEvent) (old new : Option Stamp) → o ≢ event.Own → slot_updated o old new ≡ new
  not_own event.Own old new n = absurd (n refl)
  not_own (event.Changed c) old new n = refl
  not_own (event.Rise c) old new n = refl
  not_own (event.Fall c) old new n = refl
  not_own (event.Written c) old new n = refl
  not_own (event.Taken c) old new n = refl

  -- between cycles: nobody is runnable, and each slot is as the log says
  pub record Between (w : World) (ys : Log M) : Type 0 where
    pub fits : Fits p w ys 0
    pub none : (q : ℕ) → w.runnable q ≡ false
    pub slots : (e : ℕ) → w.slots e ≡ (at_stamp p w.stamp e ys).pending

  module _ (t : Sched) (ys : Log M) (g : Going t ys p.processes) where
    numbered : (a : ℕ) (c : Front Stamp) → M.front ys a ≡ Some c → a < p.processes
    numbered a c e = L.numbered ys a c (run_of M L ys g.run).ordered e

    later_front : (a : ℕ) (c : Front Stamp) → M.front ys a ≡ Some c → IsBefore t.world.stamp c.stamp
    later_front a c e = ⊎_elim (λ b. b) (λ b. let k = b.1 in let n = numbered a c e in absurd (omega (arith, k, n))) (g.from a c e)

    no_runner : (q : ℕ) → t.world.runnable q ≡ false
    no_runner q = at (t.world.runnable q) refl
      where
        at : (b : Bool) → t.world.runnable q ≡ b → b ≡ false
        at true e = let r = g.fits.runs q e in let k = r.0 in let n = numbered q r.1 r.2 in absurd (omega (arith, k, n))
        at false e = refl

    updated_all : (e : ℕ) → (update p t).slots e ≡ (at_stamp p t.world.stamp e ys).pending
    updated_all e =
        ⊎_elim (λ o. ap (λ y. slot_updated y (t.world.slots e) (note (noted_by (p.origin e) (t.values e) (t.asked e)) t.world.stamp)) o ∙ g.fits.own e o)
        (λ n. not_own (p.origin e) (t.world.slots e) (note (noted_by (p.origin e) (t.values e) (t.asked e)) t.world.stamp) n ∙ sym (updated p h t.world.stamp ys e (t.values e) (t.asked e) (g.asks e n)))
        (is_own (p.origin e))

    pub between : Between (update p t) ys
    between = record {
      fits = record { own = λ e o. updated_all e; past = g.fits.past; runs = λ q e. let c : true ≡ false = sym e ∙ no_runner q in absurd cc; waits = g.fits.waits; quiet = g.fits.quiet };
      none = no_runner;
      slots = updated_all;
    }

  pub fires_on : (w v : World) (ys : Log M) → Between w ys → Fires w v → Between v ys × (IsBefore w.stamp v.stamp ⊎ (w.stamp ≡ v.stamp))
  fires_on w _ ys b no_more = (b, inr refl)
  fires_on w v ys b (unheard u next none f) =
      let fired = fired_fits p h w ys 0 b.fits b.none b.slots u next.later next.slots next.times in
      let slots = fired_slots p h w ys 0 b.fits b.none b.slots u next.later next.slots next.times in
      let r = fires_on (fire_at w u) v ys (record { fits = fired.0; none = none; slots = slots }) f in
      (r.0, inl (then_not_after w.stamp u v.stamp next.later r.1))

  module _ (w : World) (ys : Log M) (b : Between w ys) where
    waiting_is : (a : ℕ) (x : Wait Stamp) → wait_by p a (last a ys) ≡ Some x → w.waits a ≡ Some (record { timeout = x.timeout; events = x.events })
    waiting_is a x e = b.fits.waits a (b.none a) ∙ ap same_wait e

    all_late : AllLate p.stop w → (a : ℕ) (c : Front Stamp) → M.front ys a ≡ Some c → c.stamp.time.0 ≤ p.stop.0 → ⊥
    all_late l a c e o = at (ends_by p h w.stamp ys f.wait (b.fits.quiet a (b.none a) f.wait f.waits) c.stamp (front_ends (design p) (design_laws p h) ys f.wait c.stamp f.stamp))
      where
        f : FrontOf (design p) (design_laws p h) ys a c
        f = front_of_log (design p) (design_laws p h) ys a c e

        x : Waiting
        x = record { timeout = f.wait.timeout; events = f.wait.events }

        at : EndsBy p h w.stamp ys f.wait c.stamp → ⊥
        at (on_time k) = l.times a x c.stamp (waiting_is a f.wait f.waits) k o
        at (on_event d i k) = l.events a x d c.stamp (waiting_is a f.wait f.waits) i (b.slots d ∙ k) o

    module _ (u : Stamp) (next : NextStamp w u) where
      pub fired : Fits p (fire_at w u) ys 0 × FromPlace M u 0 ys
      fired = fired_fits p h w ys 0 b.fits b.none b.slots u next.later next.slots next.times

      -- where a process is runnable at the limit, the front of least place is at the limit
      at_the_limit : u.delta ≡ p.limit → (q : ℕ) → (fire_at w u).runnable q ≡ true → (a : ℕ) (c : Front Stamp) → M.front ys a ≡ Some c → IsLeast M (record { log = ys; out = [] }) a c → c.stamp.delta ≡ p.limit
      at_the_limit n q woken a c e least = ⊎_elim (λ k. absurd (not_later k)) (λ k. ap (λ y. y.delta) (sym k.0) ∙ n) (fired.1 a c e)
        where
          r : (0 ≤ q) × (f : Front Stamp) × (M.front ys q ≡ Some f) × (f.stamp ≡ u)
          r = fired.0.runs q woken

          same : (a b : Front Stamp) → Some a ≡ Some b → a ≡ b
          same a b e = cc

          not_later : IsBefore u c.stamp → ⊥
          not_later k =
              ⊎_elim (λ s. irreflexive u (subst (IsBefore u) (ap (λ y. y.stamp) (same c r.1 (sym e ∙ ap (M.front ys) (sym s) ∙ r.2)) ∙ r.3) k))
              (λ s. earlier_before M L.order c.stamp a u q (subst (λ y. Earlier M c.stamp a y q) r.3 (least q r.1 s r.2)) k)
              (same_or_not q a)

      going_on : (t : Sched) → Going t ys p.processes → IsBefore t.world.stamp w.stamp ⊎ (t.world.stamp ≡ w.stamp) → u.time.0 ≤ p.stop.0 → (u.delta ≡ p.limit → ⊥) → NoStop p ys → Going (next_cycle p t w u) ys 0
      going_on t g since within below calm = record {
        fits = fired.0;
        from = fired.1;
        asks = λ e n. next_asks p h t.world.stamp u ys e (t.values e) (t.asked e) (⊎_elim (λ k. transitive t.world.stamp w.stamp u k next.later) (λ k. subst (λ y. IsBefore y u) (sym k) next.later) since) (g.asks e n);
        run = g.run;
        kept = g.kept;
        within = within;
        below = below;
        whole = g.whole;
        calm = λ y i k. let c : true ≡ false = sym k ∙ calm y i in absurd cc;
      }

  -- the run by cycles is the run of fronts of least place, and is over where a board is
  pub ran : (s : Sched) (xs zs : Log M) → RunsTo p s xs zs → Going s xs 0 → Ran zs
  ran s xs zs (faults b) g = broke 0 s xs zs b g
  ran s xs zs (stopped t y e i k) g =
      let d = evaluated 0 s t xs zs e g in
      record { run = d.run; kept = d.kept; over = record { quiet = refl; shut = λ a c f least o. o.uncut y i (inr (k, subst (λ z. IsBefore z c.stamp) (sym (d.calm y i k)) (later_front t zs d a c f))) } }
  ran s xs zs (late t w e n f l) g =
      let d = evaluated 0 s t xs zs e g in
      let v = fires_on (update p t) w zs (between t zs d) f in
      record { run = d.run; kept = d.kept; over = record { quiet = refl; shut = λ a c f least o. all_late w zs v.0 l a c f o.within } }
  ran s xs zs (limited t w u q e n f x lim woken) g =
      let d = evaluated 0 s t xs zs e g in
      let v = fires_on (update p t) w zs (between t zs d) f in
      record { run = d.run; kept = d.kept; over = record { quiet = refl; shut = λ a c f least o. o.below (at_the_limit w zs v.0 u x lim q woken a c f least) } }
  ran s xs zs (goes t w u ys e n f x within below r) g =
      let d = evaluated 0 s t xs ys e g in
      let v = fires_on (update p t) w ys (between t ys d) f in
      ran (next_cycle p t w u) ys zs r (going_on w ys v.0 u x t d v.1 within below n)

  -- ---- the start

  zero_from : (u : Stamp) → IsBefore zero_stamp u ⊎ (zero_stamp ≡ u)
  zero_from u = at (compare zero_stamp u)
    where
      at : IsBefore zero_stamp u ⊎ ((zero_stamp ≡ u) ⊎ IsBefore u zero_stamp) → IsBefore zero_stamp u ⊎ (zero_stamp ≡ u)
      at h = ⊎_elim (λ b. inl b) (λ k. ⊎_elim (λ e. inr e) (λ b. absurd (⊎_elim (λ y. omega (arith, y)) (λ y. let z = y.1 in omega (arith, z)) b)) k) h

  module _ (starts : Starts p) where
    front_start : (q : ℕ) (w : Wait Stamp) → p.start q ≡ Some w → w.timeout ≡ Some zero_stamp → M.front [] q ≡ Some (record { segment = w.segment; stamp = zero_stamp })
    front_start q w e k =
        front_is (design p) (design_laws p h) [] q w zero_stamp e
        (soonest_is (design p) (design_laws p h) (times (design p) w []) zero_stamp (inl (sym k)) (λ u i. zero_from u))

    begin_fits : Fits p (begin p).world [] 0
    begin_fits = record { own = λ e o. refl; past = λ e u i. absurd i; runs = runs; waits = λ q e. refl; quiet = quiet }
      where
        runs : (q : ℕ) → starts_now (p.start q) ≡ true → (0 ≤ q) × (f : Front Stamp) × (M.front [] q ≡ Some f) × (f.stamp ≡ zero_stamp)
        runs q e = at (p.start q) refl
          where
            at : (o : Option (Wait Stamp)) → p.start q ≡ o → (0 ≤ q) × (f : Front Stamp) × (M.front [] q ≡ Some f) × (f.stamp ≡ zero_stamp)
            at None k = let c : true ≡ false = sym e ∙ ap starts_now k in absurd cc
            at (Some w) k = (omega arith, record { segment = w.segment; stamp = zero_stamp }, front_start q w k (is_at_some p h zero_stamp w.timeout (sym (ap starts_now k) ∙ e)), refl)

        quiet : (q : ℕ) → starts_now (p.start q) ≡ false → (w : Wait Stamp) → p.start q ≡ Some w → Quiet p zero_stamp [] w
        quiet q e w k = record {
          later = λ u t. let c : true ≡ false = sym (ap (is_at zero_stamp) (t ∙ ap Some (starts.ready q w u k t)) ∙ at_itself p h zero_stamp) ∙ sym (ap starts_now k) ∙ e in absurd cc;
          since = λ u b. ap (λ t. is_since Stamp is_before t u) (starts.since q w k);
          none = λ d u i j c. absurd j;
        }

    pub begins : Going (begin p) [] 0
    begins = record {
      fits = begin_fits;
      from = λ r f e. ⊎_elim (λ b. inl b) (λ b. inr (b, omega arith)) (zero_from f.stamp);
      asks = λ e n. nobody refl refl;
      run = tt;
      kept = tt;
      within = omega arith;
      below = λ e. let k = starts.limit in absurd (omega (arith, k, e));
      whole = λ y i. absurd i;
      calm = λ y i k. absurd i;
    }

    -- the sequential run: all its activations are those of the fronts of least place, below the cut, and after it the board is over
    pub sequential_run : (zs : Log M) → RunsTo p (begin p) [] zs → Ran zs
    sequential_run zs r = ran (begin p) [] zs r begins

    -- how it goes on, for a scheduler that makes the same steps
    pub goes_on : GoesOn p
    goes_on = record {
      begins = begins;
      skips = skip_going;
      takes = taken;
      idle = λ s xs g. no_runner s xs g;
      moves = λ s xs w u g n f x within below.
          let v = fires_on (update p s) w xs (between s xs g) f in going_on w xs v.0 u x s g v.1 within below n;
    }
      where
        taken : (s : Sched) (xs : Log M) (q : ℕ) → Going s xs q → s.world.runnable q ≡ true → Takes p s xs q
        taken s xs q g on =
            let r = g.fits.runs q on in
            let f = r.1 in
            let o = front_of_log (design p) (design_laws p h) xs q f r.2 in
            record {
              front = f;
              is = r.2;
              stamp = r.3;
              wait = o.wait;
              waits = o.waits;
              segment = o.segment;
              ahead = λ y i. (run_of M L xs g.run).ahead q f r.2 y i;
              sorted = sorted p h s.world xs q g.fits (run_of M L xs g.run) f r.2 r.3;
              goes = λ whole. take_going s xs q g f on r.2 whole;
            }
