-- A design as it starts is a state between two cycles.
use Rattle.std.proofs.Common.{◌≡◌, ℕ, zero, suc, ◌+◌, ◌-◌, ◌*◌, ◌<◌, List, [], ◌∷◌, map, Bool, true, false, arith, replicate}
use Rattle.ooo_events.specs.Slots.{Nothing}
use Rattle.ooo_code.specs.declared.design.Design.{Design}
use Rattle.ooo_code.specs.declared.design.Proc.{Proc}
use Rattle.ooo_code.specs.declared.limits.Limits.{Limits}
use Rattle.ooo_meaning.specs.Runs.{first_wait, start_of}
use Rattle.ooo_meaning.specs.Laws.{IsLater, AllLater, timeouts, IsBetween, cycles_left}

nothing_later : (n : ℕ) → AllLater 0 (replicate n Nothing)
nothing_later zero = tt
nothing_later (suc n) = (tt, nothing_later n)

first_later : (initialize : Bool) (sensitive : List ℕ) → IsLater 0 (first_wait initialize sensitive).timeout
first_later true sensitive = tt
first_later false sensitive = tt

waits_later : (ps : List Proc) → AllLater 0 (timeouts (map (λ p. first_wait p.initialize p.sensitive) ps))
waits_later [] = tt
waits_later (p ∷ ps) = (first_later p.initialize p.sensitive, waits_later ps)

pub start_between : (design : Design) (limits : Limits) → 0 < limits.deltas → IsBetween limits (start_of design).world
start_between design limits some = record { time = omega arith; delta = some; slots = nothing_later _; waits = waits_later design.processes }

enough : (a d : ℕ) → a * (d + 1) + d < (a + 1) * (d + 1)
enough a d = omega arith

pub start_left : (design : Design) (limits : Limits) → cycles_left limits (start_of design).world < (limits.stop.0 + 1) * (limits.deltas + 1)
start_left design limits =
    let a : limits.stop.0 - 0 ≡ limits.stop.0 = omega arith in
    let d : limits.deltas - 0 ≡ limits.deltas = omega arith in
    rw (a, d) (enough limits.stop.0 limits.deltas)
