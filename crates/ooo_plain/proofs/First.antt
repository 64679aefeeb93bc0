-- The first step of a run, from initialization.
use Rattle.std.proofs.Common.{◌≡◌, ℕ, ◌≤◌, ◌+◌, ◌*◌, ◌==◌, ◌||◌, Bool, true, false, arith, List, [], ◌∷◌, Some, None, refl, subst, ap, ◌∙◌, map, length, replicate}
use Rattle.std.proofs.lemmas.Bool.{ne_eqb}
use Rattle.std.specs.List.{list_any}
use Rattle.ooo_events.specs.Slots.{Nothing, due_of}
use Rattle.ooo_code.specs.declared.design.Design.{Design}
use Rattle.ooo_code.specs.declared.design.Proc.{Proc}
use Rattle.ooo_code.specs.declared.limits.Limits.{Limits}
use Rattle.ooo_code.specs.Nodes.{by_nodes}
use Rattle.ooo_history.specs.declared.run.Run.{Run}
use Rattle.ooo_history.specs.declared.run.End.TheVariants as end
use Rattle.ooo_meaning.specs.World.{World, Goes, zero_stamp, slot_at, least, sooner, activity, least_activity, some_runnable, notified, idle, last_stamp}
use Rattle.ooo_code.specs.Outcomes.{Activate}
use Rattle.ooo_meaning.specs.Sequence.{State, Result, result_of, run, run_whole, finish, state_of}
use Rattle.ooo_meaning.specs.Runs.{start_of, first_wait, ascending}
use Rattle.ooo_channels.specs.Agreement.{GoesOn}
use Rattle.ooo_plain.specs.declared.engine.Engine.{Engine}
use Rattle.ooo_plain.specs.Laws.{Laws}
use Rattle.ooo_plain.specs.Cycles.{AreInRange, IsOver, IsWithin, cycles_after}
use Rattle.ooo_plain.specs.Starting.{Starts, first_world_of, first_operations}
use Rattle.ooo_plain.specs.Running.{ShowsRun, ShowsOver, Reaches}
use Rattle.ooo_plain.proofs.Beginning.{get_same}

runnable_is : (b : Bool) (es : List ℕ) → (first_wait b es).runnable ≡ b
runnable_is true es = refl
runnable_is false es = refl

any_runs : (ps : List Proc) → list_any (λ x. x.runnable) (map (λ x. first_wait x.initialize x.sensitive) ps) ≡ list_any (λ x. x.initialize) ps
any_runs [] = refl
any_runs (x ∷ ps) = ap (λ b. b || list_any (λ y. y.runnable) (map (λ y. first_wait y.initialize y.sensitive) ps)) (runnable_is x.initialize x.sensitive) ∙ ap (λ b. x.initialize || b) (any_runs ps)

least_nothing : (n : ℕ) (es : List ℕ) → least (map (λ e. due_of (slot_at (replicate n Nothing) e)) es) ≡ None
least_nothing n [] = refl
least_nothing n (e ∷ es) = ap (λ s. sooner (due_of s) (least (map (λ i. due_of (slot_at (replicate n Nothing) i)) es))) (get_same n e Nothing) ∙ least_nothing n es

no_activity : (n : ℕ) (b : Bool) (es : List ℕ) → activity (replicate n Nothing) (first_wait b es) ≡ None
no_activity n true es = refl
no_activity n false es = least_nothing n es

least_first : (n : ℕ) (ps : List Proc) → least (map (activity (replicate n Nothing)) (map (λ x. first_wait x.initialize x.sensitive) ps)) ≡ None
least_first n [] = refl
least_first n (x ∷ ps) = ap (λ o. sooner o (least (map (activity (replicate n Nothing)) (map (λ y. first_wait y.initialize y.sensitive) ps)))) (no_activity n x.initialize x.sensitive) ∙ least_first n ps

is_idle : (limits : Limits) (w : World) → some_runnable w ≡ false → least_activity w ≡ None → notified limits w ≡ idle w
unfolding notified
is_idle limits w a b = rw (a, b) refl

goes_on : (limits : Limits) (w : World) → some_runnable w ≡ true → (w.stamp.delta == limits.deltas) ≡ false → notified limits w ≡ Goes w
unfolding notified
goes_on limits w a b = rw (a, b) refl

not_deep : (n : ℕ) → 1 ≤ n → (0 == n) ≡ false
not_deep n le = ne_eqb 0 n (λ z. absurd (omega (arith, le, z)))

whole_goes : {K : Type 0} (activate : Activate K) (order : List ℕ) (limits : Limits) (n : ℕ) (s : State K) (r : Result) → notified limits s.world ≡ Goes s.world → run activate order limits n s ≡ Some r → run_whole activate order limits n s ≡ Some r
unfolding run_whole
whole_goes activate order limits n s r e h = ap (λ p. finish s.places p (run activate order limits n)) e ∙ h

whole_idle : {K : Type 0} (activate : Activate K) (order : List ℕ) (limits : Limits) (s : State K) → notified limits s.world ≡ idle s.world → run_whole activate order limits 0 s ≡ Some (result_of s.world (end.Idle (last_stamp s.world.made)))
unfolding run_whole
whole_idle activate order limits s e = ap (λ p. finish s.places p (run activate order limits 0)) e

pub reaches_first : (design : Design) (limits : Limits) (e : Engine) → AreInRange limits → Starts design e → list_any (λ x. x.initialize) design.processes ≡ true → Reaches design limits e
reaches_first design limits e range h some = record {
  within = subst (IsWithin limits) h.mirrors.stamp (record { time = omega arith; delta = (let d = range.some_deltas in omega (arith, d)) });
  activations = subst (λ s. e.activations + cycles_after limits s * length design.processes ≤ cycles_after limits zero_stamp * length design.processes) h.mirrors.stamp (let a = h.activations in omega (arith, a));
  world = first_world_of design;
  turns = record { ops = first_operations design; mirrors = h.mirrors; planned = h.planned };
  run = λ r g. record {
    cycles = g.cycles;
    is = whole_goes (by_nodes design limits.statements) (ascending design) limits g.cycles (start_of design) r
        (goes_on limits (first_world_of design) (any_runs design.processes ∙ some) (not_deep limits.deltas range.some_deltas))
        (subst (λ places. run (by_nodes design limits.statements) (ascending design) limits g.cycles (state_of (first_world_of design) places) ≡ Some r) h.places g.is);
  };
}

module _ (laws : Laws) (design : Design) (limits : Limits) (e : Engine) (h : Starts design e) (none : list_any (λ x. x.initialize) design.processes ≡ false) where
  idle0 : notified limits (first_world_of design) ≡ idle (first_world_of design)
  idle0 = is_idle limits (first_world_of design) (any_runs design.processes ∙ none) (least_first (length design.events) design.processes)

  over0 : IsOver design e zero_stamp (first_world_of design)
  over0 = record {
    ops = first_operations design;
    of = h.mirrors.of;
    bank = h.mirrors.bank;
    histories = subst (GoesOn (first_operations design) zero_stamp) idle0 (laws.initializes design limits);
    prints = h.mirrors.prints;
  }

  pub over_first : (w : World) × IsOver design e zero_stamp w
  over_first = (first_world_of design, over0)

  pub shows_idle : (r : Run) → ShowsOver e zero_stamp (end.Idle zero_stamp) r → ShowsRun design limits r
  shows_idle r s = record {
    result = result_of (first_world_of design) (end.Idle zero_stamp);
    is = record { cycles = 0; is = whole_idle (by_nodes design limits.statements) (ascending design) limits (start_of design) idle0 };
    shows = s design (first_world_of design) over0;
  }
