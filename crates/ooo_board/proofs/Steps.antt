-- What a board keeps is of the steps that it is seen as.
use Rattle.std.proofs.Common.{◌≡◌, ℕ, suc, ◌≤◌, List, [], ◌∷◌, ◌++◌, length, true, false, refl, sym, ap, subst, arith}
use Rattle.std.proofs.lemmas.List.{length-append, length-map}
use Rattle.ooo_code.specs.declared.design.Proc.{Proc}
use Rattle.ooo_segments.specs.Beginnings.{beginning_of, beginnings_from, beginnings_of, greatest_segments}
use Rattle.std.specs.Global.{Vec}
use Rattle.ooo_code.specs.declared.design.Design.{Design}
use Rattle.ooo_code.specs.declared.limits.Limits.{Limits}
use Rattle.ooo_tables.specs.declared.tables.Tables.{Tables}
use Rattle.ooo_dispatch.specs.declared.step.Step.{Step}
use Rattle.ooo_dispatch.specs.Least.{rules_of}
use Rattle.ooo_dispatch.specs.Rules.{Rules}
use Rattle.ooo_dispatch.specs.Steps.{IsLawfulStep, Replay, after_step, nothing_done, replayed}
use Rattle.ooo_board.specs.declared.cores.Core.{Core}
use Rattle.ooo_board.specs.Boards.{Shown, rules, some_of, state, with_step}
use Rattle.ooo_board.specs.Cores.{HasCore, IsCore, Stands, after}
use Rattle.ooo_board.specs.Laws.{Laws}

replayed_more : (r : Rules) (s : Replay r) (steps : List Step) (step : Step) → replayed r s (steps ++ step ∷ []) ≡ after_step r (replayed r s steps) step
replayed_more r s [] step = refl
replayed_more r s (x ∷ steps) step = replayed_more r (after_step r s x) steps step

-- it leads to what the step makes of what the others lead to
pub after_more : (design : Design) (limits : Limits) (t : Tables) (steps : List Step) (step : Step) →
    after design limits t (steps ++ step ∷ []) ≡ after_step (rules_of design limits t) (after design limits t steps) step
after_more design limits t steps step = replayed_more (rules_of design limits t) (nothing_done (rules_of design limits t)) steps step

-- how a board is seen that keeps these
abbrev pub view_with : Design → Limits → Tables → List Step → Shown
view_with design limits t steps = record { design = design; limits = limits; tables = t; schedule = steps }

abbrev pub view_of : Design → Limits → Tables → Vec Step → Shown
view_of design limits t schedule = view_with design limits t schedule.items

-- a core is that of a board as it is seen
abbrev pub IsKept : Shown → Core → Type 0
IsKept b c = HasCore b.design b.limits b.tables b.schedule c

-- ---- how many processes there are

-- each process has a segment
each_begins : (design : Design) (p : ℕ) (ps : List Proc) → length ps ≤ length (beginnings_from design p ps)
each_begins design p [] = omega arith
each_begins design p (x ∷ ps) =
    let h = each_begins design (suc p) ps in
    let e = length-append (beginnings_of design p x) (beginnings_from design (suc p) ps) in
    let k : 1 ≤ length (beginnings_of design p x) = omega arith in
    omega (arith, h, e, k)

pub few : (b : Shown) (c : Core) → IsKept b c → length b.design.processes ≤ greatest_segments
few b c has =
    let tables = has.stands.ready.tables in
    let h = each_begins b.design 0 b.design.processes in
    let e = ap length tables.segments.order in
    let m = length-map b.tables.graph.segments beginning_of in
    let k = tables.few in
    omega (arith, h, e, m, k)

-- ---- a further step

module _ (b : Shown) (c : Core) (has : IsKept b c) (laws : Laws) (step : Step) (lawful : IsLawfulStep (rules b) b.tables.advance (state b) step) where
  pub stands_on : Stands b.design b.limits b.tables (b.schedule ++ step ∷ [])
  stands_on = record {
    ready = has.stands.ready;
    deltas = has.stands.deltas;
    lawful = (laws b.design b.limits b.tables has.stands.ready).goes_on b.schedule step has.stands.lawful lawful;
  }

  pub kept_on : (c' : Core) → IsCore b.design b.limits b.tables (after_step (rules b) (state b) step) c' → IsKept (with_step b step) c'
  kept_on c' core = record {
    stands = stands_on;
    core = subst (λ s. IsCore b.design b.limits b.tables s c') (sym (after_more b.design b.limits b.tables b.schedule step)) core;
  }

-- ---- whether a job was abandoned

pub none_of : (ps : List ℕ) → some_of ps ≡ false → ps ≡ []
none_of [] e = refl
none_of (p ∷ ps) e = absurd cc

pub is_some_of : (ps : List ℕ) → some_of ps ≡ true → ps ≡ [] → ⊥
is_some_of [] e k = absurd cc
is_some_of (p ∷ ps) e k = absurd cc
