-- From cycle to cycle, up to the end of the run.
use Rattle.std.proofs.Common.{◌<◌, ◌≤◌, ◌+◌, ◌-◌, ◌*◌, arith}
use Rattle.std.proofs.Math.Nat.{mul-le-mul_right}
use Rattle.std.proofs.lemmas.Nat.{mul-le}
use Rattle.std.specs.Prelude.{◌^◌, length}
use Rattle.ooo_time.specs.declared.stamp.Stamp.{Stamp}
use Rattle.ooo_code.specs.declared.design.Design.{Design}
use Rattle.ooo_code.specs.declared.limits.Limits.{Limits}
use Rattle.ooo_history.specs.declared.run.End.{End}
use Rattle.ooo_history.specs.declared.run.Run.{Run}
use Rattle.ooo_meaning.specs.World.{World, zero_stamp}
use Rattle.ooo_meaning.specs.Sequence.{result_of}
use Rattle.ooo_plain.specs.declared.engine.Engine.{Engine}
use Rattle.ooo_plain.specs.declared.cycles.CycleEnd.TheVariants as cycle_end
use Rattle.ooo_plain.specs.Engine.{IsFew}
use Rattle.ooo_plain.specs.Cycles.{AreInRange, IsOver, Cycles, MayGo, cycles_after}
use Rattle.ooo_plain.specs.Running.{ShowsRun, ShowsOver, Reaches}

pub may_go : (design : Design) (limits : Limits) (e : Engine) → Reaches design limits e → MayGo design e
may_go design limits e h = record { world = h.world; ops = h.turns.ops; mirrors = h.turns.mirrors; planned = h.turns.planned }

pub counts_below : (design : Design) (limits : Limits) (e : Engine) → IsFew design → AreInRange limits → Reaches design limits e → e.activations + length design.processes + 1 < 2 ^ 128
counts_below design limits e few range h =
    let n = length design.processes in
    let a : (limits.stop.0 - 0) * (limits.deltas + 1) ≤ 4611686018427387904 * 1000001 = mul-le (limits.stop.0 - 0) (limits.deltas + 1) 4611686018427387904 1000001 (let s = range.stop in omega (arith, s)) (let s = range.deltas in omega (arith, s)) in
    let b : cycles_after limits zero_stamp ≤ 4611690630113406332387904 = (let s = range.deltas in omega (arith, a, s)) in
    let f = few.processes in
    let m : cycles_after limits zero_stamp * n ≤ 4611690630113406332387904 * 4294967296 = mul-le (cycles_after limits zero_stamp) n 4611690630113406332387904 4294967296 b (omega (arith, f)) in
    let acts = h.activations in omega (arith, acts, m, f)

pub reaches_next : (design : Design) (limits : Limits) (old new : Engine) → Cycles design limits cycle_end.Goes old new → Reaches design limits old → Reaches design limits new
reaches_next design limits old new c h =
    let f = c.each h.world h.turns.ops h.turns.mirrors h.turns.planned in
    record {
      within = c.nears.0;
      activations =
          let n = length design.processes in
          let fewer = c.nears.1 in
          let m : (cycles_after limits new.stamp + 1) * n ≤ cycles_after limits old.stamp * n = mul-le-mul_right n (omega (arith, fewer)) in
          let a = c.activations in let b = h.activations in omega (arith, m, a, b);
      world = f.world;
      turns = f.turns;
      run = λ r g. h.run r (f.run r g);
    }

pub fewer_follow : (design : Design) (limits : Limits) (old new : Engine) → Cycles design limits cycle_end.Goes old new → cycles_after limits new.stamp < cycles_after limits old.stamp
fewer_follow design limits old new c = c.nears.1

pub is_over : (design : Design) (limits : Limits) (end : End) (at : Stamp) (old new : Engine) → Cycles design limits (cycle_end.Over end at) old new → Reaches design limits old → (w : World) × IsOver design new at w
is_over design limits end at old new c h = let f = c.each h.world h.turns.ops h.turns.mirrors h.turns.planned in (f.world, f.over)

pub shows_run : (design : Design) (limits : Limits) (end : End) (at : Stamp) (old new : Engine) (run : Run) → Cycles design limits (cycle_end.Over end at) old new → Reaches design limits old → ShowsOver new at end run → ShowsRun design limits run
shows_run design limits end at old new run c h s =
    let f = c.each h.world h.turns.ops h.turns.mirrors h.turns.planned in
    record { result = result_of f.world end; is = h.run (result_of f.world end) f.run; shows = s design f.world f.over }
