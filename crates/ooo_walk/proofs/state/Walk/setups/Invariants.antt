use Rattle.std.proofs.Common.{◌≡◌, drop}
use Rattle.ooo_walk.specs.Plans.{viewed}
use Rattle.ooo_walk.specs.Setups.{setups_from}
use Rattle.ooo_walk.proofs.state.Walk.setups.Given as goal

abbrev pub invariant-parts : goal.invariant-parts
invariant-parts l =
    setups_from (viewed l.view) l.place (drop l.place l.view.setups.now) l.self
    ≡ setups_from (viewed l.view) 0 l.view.setups.now l.initial.self
