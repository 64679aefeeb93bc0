use Rattle.std.proofs.Common.{◌≡◌, drop}
use Rattle.ooo_elaborate.specs.Elaborated.{held_in, processes_hold}
use Rattle.ooo_walk.specs.Plans.{filed}
use Rattle.ooo_elaborate.proofs.elaborated.held_in.Given as goal

abbrev pub invariant-parts : goal.invariant-parts
invariant-parts l =
    processes_hold (filed l.modules) l.numbered.instances l.bound l.place (drop l.place l.walk.processes) l.all
    ≡ held_in (filed l.modules) l.walk l.numbered l.bound
