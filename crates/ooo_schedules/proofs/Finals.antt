-- How the sequential run ends, by what is due after its last cycle.
use Rattle.std.proofs.Common.{◌≡◌, ◌≢◌, ℕ, ◌≤◌, ◌⊎◌, inl, inr, ⊎_elim, true, false, Option, Some, None, refl, sym, ap, ◌∙◌, subst}
use Rattle.ooo_schedules.specs.Model.{Front, In, last, Model, Log, Laws, Earlier}
use Rattle.ooo_time.specs.declared.stamp.Stamp.{Stamp}
use Rattle.ooo_time.specs.Stamps.{IsBefore}
use Rattle.ooo_schedules.specs.Design.{Wait, Design, DesignLaws, model}
use Rattle.ooo_schedules.specs.Program.{Program, ActIn, wait_by, design, Sound}
use Rattle.ooo_schedules.specs.Worlds.{World, Waiting, fire_at, same_wait}
use Rattle.ooo_schedules.specs.Sequence.{NextStamp, AllLate, update}
use Rattle.ooo_schedules.specs.Going.{IsDue, NoneDue, ComesToEnd}
use Rattle.ooo_schedules.specs.Endings.{Deltas, Time, Idle, RunEnds, run_limited, run_late, run_idle}
use Rattle.ooo_schedules.proofs.Reaches.{irreflexive}
use Rattle.ooo_schedules.proofs.Programs.{design_laws, program_laws}
use Rattle.ooo_schedules.proofs.Worlds.{EndsBy, on_time, on_event, ends_by, pending_first}
use Rattle.ooo_schedules.proofs.Fronts.{Ends, by_time, by_event, FrontOf, front_of as front_of_log, front_ends, front_by_end}
use Rattle.ooo_schedules.proofs.Logs.{same_or_not, some_is}
use Rattle.ooo_schedules.proofs.Places.{earlier_before}
use Rattle.ooo_schedules.proofs.Over.{least_front}
use Rattle.ooo_schedules.proofs.Run.{run_of}
use Rattle.ooo_schedules.proofs.Sequence.{Between, fired, between, fires_on}
use Rattle.ooo_schedules.specs.Model.{Sequential}

module _ (p : Program) (h : Sound p) where
  abbrev D : Design
  D = design p

  abbrev DL : DesignLaws (design p)
  DL = design_laws p h

  abbrev M : Model
  M = model (design p)

  abbrev L : Laws M
  L = program_laws p h

  module _ (w : World) (ys : Log M) (b : Between p h w ys) (unbroken : (z : ActIn p) → In z ys → p.breaks z ≡ false) (unstopped : (z : ActIn p) → In z ys → p.stops z ≡ false) where
    abbrev waiting : Wait Stamp → Waiting
    waiting x = record { timeout = x.timeout; events = x.events }

    -- a front is due
    due : (a : ℕ) (c : Front Stamp) → M.front ys a ≡ Some c → IsDue w a c.stamp
    due a c e = (
      waiting f.wait,
      b.fits.waits a (b.none a) ∙ ap same_wait f.waits,
      at (ends_by p h w.stamp ys f.wait (b.fits.quiet a (b.none a) f.wait f.waits) c.stamp (front_ends D DL ys f.wait c.stamp f.stamp)),
    )
      where
        f : FrontOf (design p) (design_laws p h) ys a c
        f = front_of_log (design p) (design_laws p h) ys a c e

        at : EndsBy p h w.stamp ys f.wait c.stamp → (f.wait.timeout ≡ Some c.stamp) ⊎ ((d : ℕ) × In d f.wait.events × (w.slots d ≡ Some c.stamp))
        at (on_time k) = inl k
        at (on_event d i k) = inr (d, i, b.slots d ∙ k)

    -- who waits for a stamp has a front
    front_there : (q : ℕ) (u : Stamp) → IsDue w q u → (g : Front Stamp) × (M.front ys q ≡ Some g)
    front_there q u k = at (wait_by p q (last q ys)) refl
      where
        at : (o : Option (Wait Stamp)) → wait_by p q (last q ys) ≡ o → (g : Front Stamp) × (M.front ys q ≡ Some g)
        at None e = absurd (let c : None ≡ Some k.0 = sym (b.fits.waits q (b.none q) ∙ ap same_wait e) ∙ k.1 in cc)
        at (Some y) e = let g = front_by_end D DL ys q y u e (ends (by k.2)) in (g.0, g.1)
          where
            same : waiting y ≡ k.0
            same = some_is (waiting y) k.0 (sym (b.fits.waits q (b.none q) ∙ ap same_wait e) ∙ k.1)

            by : (k.0.timeout ≡ Some u) ⊎ ((d : ℕ) × In d k.0.events × (w.slots d ≡ Some u)) → EndsBy p h w.stamp ys y u
            by (inl t) = on_time (ap (λ x. x.timeout) same ∙ t)
            by (inr (d, i, s)) = on_event d (subst (λ x. In d x.events) (sym same) i) (sym (b.slots d) ∙ s)

            ends : EndsBy p h w.stamp ys y u → Ends D DL y ys u
            ends (on_time t) = by_time t
            ends (on_event d i s) = by_event d i (pending_first p h w.stamp ys y (b.fits.quiet q (b.none q) y e) d i u s)

    -- nothing is due: idle
    pub idles : NoneDue w → RunEnds p ys Idle
    idles nothing = run_idle none unbroken unstopped
      where
        none : (q : ℕ) → M.front ys q ≡ None
        none q = at (M.front ys q) refl
          where
            at : (o : Option (Front Stamp)) → M.front ys q ≡ o → M.front ys q ≡ None
            at None e = e
            at (Some c) e = absurd (nothing q c.stamp (due q c e))

    -- all that is due is late, and something is
    pub lates : AllLate p.stop w → (q : ℕ) (u : Stamp) → IsDue w q u → RunEnds p ys Time
    lates l q u k =
        let g = front_there q u k in
        run_late q g.0 g.1 (λ a f e le. let d = due a f e in ⊎_elim (λ t. l.times a d.0 f.stamp d.1 t le) (λ t. l.events a d.0 t.0 f.stamp d.1 t.1 t.2 le) d.2) unbroken unstopped

    -- a process is runnable at the limit
    module _ (run : Sequential M ys) (u : Stamp) (next : NextStamp w u) (q : ℕ) (woken : (fire_at w u).runnable q ≡ true) where
      front_q : (f : Front Stamp) × (M.front ys q ≡ Some f) × (f.stamp ≡ u)
      front_q = let r = (fired p h w ys b u next).0.runs q woken in (r.1, r.2, r.3)

      least_there : (a : ℕ) × (c : Front Stamp) × (M.front ys a ≡ Some c) × ((n : ℕ) (g : Front Stamp) → n ≢ a → M.front ys n ≡ Some g → Earlier M c.stamp a g.stamp n)
      least_there = least_front M L ys (run_of M L ys run).ordered q front_q.0 front_q.1

      at_u : (a : ℕ) (c : Front Stamp) → M.front ys a ≡ Some c → ((n : ℕ) (g : Front Stamp) → n ≢ a → M.front ys n ≡ Some g → Earlier M c.stamp a g.stamp n) → c.stamp ≡ u
      at_u a c e least = ⊎_elim (λ k. absurd (not_later k)) (λ k. sym k.0) ((fired p h w ys b u next).1 a c e)
        where
          not_later : IsBefore u c.stamp → ⊥
          not_later k =
              ⊎_elim (λ s. irreflexive u (subst (IsBefore u) (ap (λ y. y.stamp) (some_is c front_q.0 (sym e ∙ ap (M.front ys) (sym s) ∙ front_q.1)) ∙ front_q.2) k))
              (λ s. earlier_before M L.order c.stamp a u q (subst (λ y. Earlier M c.stamp a y q) front_q.2 (least q front_q.0 s front_q.1)) k)
              (same_or_not q a)

      pub limits : u.time.0 ≤ p.stop.0 → u.delta ≡ p.limit → RunEnds p ys (Deltas u)
      limits within limit =
          let l = least_there in
          let s = at_u l.0 l.1 l.2 l.3 in
          subst (λ t. RunEnds p ys (Deltas t)) s (run_limited l.0 l.1 l.2 l.3 (ap (λ t. t.delta) s ∙ limit) (subst (λ t. t.time.0 ≤ p.stop.0) (sym s) within) unbroken unstopped)

  -- the three together
  pub comes_to_end : ComesToEnd p
  comes_to_end = record {
    idles = λ s xs w g n f nothing. let v = fires_on p h (update p s) w xs (between p h s xs g) f in idles w xs v.0 g.whole n nothing;
    lates = λ s xs w g n f l q u due. let v = fires_on p h (update p s) w xs (between p h s xs g) f in lates w xs v.0 g.whole n l q u due;
    limits = λ s xs w u g n f next within limit q woken. let v = fires_on p h (update p s) w xs (between p h s xs g) f in limits w xs v.0 g.whole n g.run u next q woken within limit;
  }
