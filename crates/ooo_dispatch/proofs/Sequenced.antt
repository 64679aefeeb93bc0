-- The scheduler's run makes the steps of the run of which the theorem on schedules speaks.
use Rattle.std.proofs.Common.{◌≡◌, ℕ, zero, suc, ◌<◌, ◌+◌, ◌⊎◌, inl, inr, ⊎_elim, List, [], ◌∷◌, length, Bool, true, false, ◌&&◌, if◌then◌else◌, Some, None, refl, sym, ap, ◌∙◌, subst, arith}
use Rattle.std.specs.Prelude.{fold, is_none, slice_get, slice_set}
use Rattle.ooo_code.specs.declared.activation.Frame.{Frame}
use Rattle.ooo_code.specs.Nodes.{by_nodes}
use Rattle.ooo_code.specs.Outcomes.{Activate}
use Rattle.ooo_code.specs.Sound.{IsSound}
use Rattle.ooo_history.specs.declared.run.End.{End}
use Rattle.ooo_meaning.specs.Runs.{numbers_from}
use Rattle.ooo_meaning.specs.Sequence.{State, state_of, turn, turn_at}
use Rattle.ooo_meaning.specs.World as real
use Rattle.ooo_meaning.specs.World.{World, runs_now, view_of, wait_at}
use Rattle.ooo_schedules.specs.Cycles.{act_at}
use Rattle.ooo_schedules.specs.Going.{Going, GoesOn, Takes}
use Rattle.ooo_schedules.specs.Design.{model}
use Rattle.ooo_schedules.specs.Model.{Model}
use Rattle.ooo_schedules.specs.Program.{Program, design}
use Rattle.ooo_schedules.specs.Sequence.{Breaks, Evaluates, Sched, after_act, ends, here, skip_on, skips, take_on, takes}
use Rattle.ooo_schedules.specs.Tables.{program}
use Rattle.ooo_dispatch.specs.Boards.{AreRules}
use Rattle.ooo_dispatch.specs.Rules.{Rules, tables}
use Rattle.ooo_dispatch.proofs.Accessed.{element}
use Rattle.ooo_dispatch.proofs.Acting.{Does}
use Rattle.ooo_dispatch.proofs.Turning.{Activation, Alike, ChangesTouched, IsEnded, ReadsTouched, broken_turned, turned}

-- where a run is broken, no process has a turn
no_turn : (activate : Activate Frame) (w : World) (places : List Frame) (e : End) → w.broken ≡ Some e → (q : ℕ) → turn activate (state_of w places) q ≡ state_of w places
unfolding turn runs_now
no_turn activate w places e is q =
    ap (λ b. if (is_none b && (wait_at w.waits q).runnable) then turn_at activate (state_of w places) q (slice_get places q) else state_of w places) is

still : (activate : Activate Frame) (w : World) (places : List Frame) (e : End) → w.broken ≡ Some e → (order : List ℕ) → fold (turn activate) (state_of w places) order ≡ state_of w places
still activate w places e is [] = refl
still activate w places e is (q ∷ order) = ap (λ st. fold (turn activate) st order) (no_turn activate w places e is q) ∙ still activate w places e is order

-- a process that isn't runnable has no turn
sleeps : (activate : Activate Frame) (w : World) (places : List Frame) (q : ℕ) → (wait_at w.waits q).runnable ≡ false → turn activate (state_of w places) q ≡ state_of w places
unfolding turn runs_now
sleeps activate w places q off =
    ap (λ b. if (is_none w.broken && b) then turn_at activate (state_of w places) q (slice_get places q) else state_of w places) off ∙ at (is_none w.broken)
  where
    at : (b : Bool) → (if (b && false) then turn_at activate (state_of w places) q (slice_get places q) else state_of w places) ≡ state_of w places
    at true = refl
    at false = refl

-- one that is, runs from its place
runs : (activate : Activate Frame) (w : World) (places : List Frame) (q : ℕ) (k : Frame) → w.broken ≡ None → (wait_at w.waits q).runnable ≡ true → slice_get places q ≡ Some k →
    turn activate (state_of w places) q ≡ state_of (real.after_deed q w (activate q k (view_of q w)).deed) (slice_set places q (activate q k (view_of q w)).next)
unfolding turn runs_now
runs activate w places q k whole on is =
    ap (λ o. if (is_none o && (wait_at w.waits q).runnable) then turn_at activate (state_of w places) q (slice_get places q) else state_of w places) whole
    ∙ ap (λ b. if b then turn_at activate (state_of w places) q (slice_get places q) else state_of w places) on ∙ ap (turn_at activate (state_of w places) q) is

module _ (r : Rules) (rules : AreRules r) (sound : IsSound r.design) (law : GoesOn (program (tables r))) (does : Does) (reads : ReadsTouched) (changes : ChangesTouched) where
  abbrev p : Program
  p = program (tables r)

  abbrev M : Model
  M = model (design p)

  abbrev activate : Activate Frame
  activate = by_nodes r.design r.limits.statements

  -- all had their turns
  pub record Turned (q : ℕ) (s : Sched) (xs : List Activation) (st : State Frame) : Type 0 where
    pub last : Sched
    pub log : List Activation
    pub evaluates : Evaluates p q s xs last log
    pub alike : Alike r rules sound st.world st.places last log
    pub going : Going p last log p.processes

  -- an activation ended the run
  pub record Broke (q : ℕ) (s : Sched) (xs : List Activation) (st : State Frame) : Type 0 where
    pub log : List Activation
    pub breaks : Breaks p q s xs log
    pub ended : IsEnded r rules sound st.world log

  abbrev Ended : ℕ → Sched → List Activation → State Frame → Type 0
  Ended q s xs st = Turned q s xs st ⊎ Broke q s xs st

  pub evaluated : (m q : ℕ) → q + m ≡ length r.design.processes → (w : World) (places : List Frame) (s : Sched) (xs : List Activation) → Alike r rules sound w places s xs → Going p s xs q →
      Ended q s xs (fold (turn activate) (state_of w places) (numbers_from q m))
  evaluated zero q all w places s xs a g = inl (record { last = s; log = xs; evaluates = ends e; alike = a; going = subst (Going p s xs) e g })
    where
      e : q ≡ length r.design.processes
      e = omega (arith, all)
  evaluated (suc m) q all w places s xs a g =
      by (s.world.runnable q) refl
      (λ off. evaluated m (suc q) (omega (arith, all)) w places s xs a (law.skips s xs q g off))
      (λ tk k is whole.
      evaluated m (suc q) (omega (arith, all)) (real.after_deed q w (activate q k (view_of q w)).deed) (slice_set places q (activate q k (view_of q w)).next) (after_act p s q (act_at M xs q tk.front))
      (act_at M xs q tk.front ∷ xs) (turned r rules sound does reads changes w places s xs q a tk k is whole) (tk.goes whole))
    where
      same_order : numbers_from (q + 1) m ≡ numbers_from (suc q) m
      same_order = ap (λ n. numbers_from n m) (let e : q + 1 ≡ suc q = omega arith in e)

      by :
          (b : Bool) → s.world.runnable q ≡ b →
          (s.world.runnable q ≡ false → Ended (suc q) s xs (fold (turn activate) (state_of w places) (numbers_from (suc q) m))) →
          ((tk : Takes p s xs q) → (k : Frame) → slice_get places q ≡ Some k → p.breaks (act_at M xs q tk.front) ≡ false →
          Ended (suc q) (after_act p s q (act_at M xs q tk.front)) (act_at M xs q tk.front ∷ xs)
          (fold (turn activate) (state_of (real.after_deed q w (activate q k (view_of q w)).deed) (slice_set places q (activate q k (view_of q w)).next)) (numbers_from (suc q) m))) →
          Ended q s xs (fold (turn activate) (turn activate (state_of w places) q) (numbers_from (q + 1) m))
      by false off skip take =
          subst (Ended q s xs) (sym (ap (λ st. fold (turn activate) st (numbers_from (q + 1) m)) (sleeps activate w places q (sym (a.runnable q) ∙ off)) ∙ ap (fold (turn activate) (state_of w places)) same_order))
          (⊎_elim (λ t. inl (record { last = t.last; log = t.log; evaluates = skips off t.evaluates; alike = t.alike; going = t.going }))
          (λ b. inr (record { log = b.log; breaks = skip_on off b.breaks; ended = b.ended })) (skip off))
      by true on skip take =
          subst (Ended q s xs) (sym (ap (λ st. fold (turn activate) st (numbers_from (q + 1) m)) (runs activate w places q k a.broken (sym (a.runnable q) ∙ on) is) ∙ ap (fold (turn activate) after) same_order)) (broken (p.breaks x) refl)
        where
          tk : Takes p s xs q
          tk = law.takes s xs q g on

          there : q < length places
          there = let e = a.places_count in omega (arith, all, e)

          k : Frame
          k = (element places q there).0

          is : slice_get places q ≡ Some k
          is = (element places q there).1

          x : Activation
          x = act_at M xs q tk.front

          after : State Frame
          after = state_of (real.after_deed q w (activate q k (view_of q w)).deed) (slice_set places q (activate q k (view_of q w)).next)

          broken : (b : Bool) → p.breaks x ≡ b → Ended q s xs (fold (turn activate) after (numbers_from (suc q) m))
          broken false whole =
              ⊎_elim (λ t. inl (record { last = t.last; log = t.log; evaluates = takes tk.front on tk.is whole t.evaluates; alike = t.alike; going = t.going }))
              (λ b. inr (record { log = b.log; breaks = take_on tk.front on tk.is whole b.breaks; ended = b.ended })) (take tk k is whole)
          broken true breaks =
              let t = broken_turned r rules sound does reads changes w places s xs q a tk k is breaks in
              subst (Ended q s xs) (sym (still activate after.world after.places t.end t.broken (numbers_from (suc q) m)))
              (inr (record { log = x ∷ xs; breaks = here tk.front on tk.is breaks; ended = t }))
