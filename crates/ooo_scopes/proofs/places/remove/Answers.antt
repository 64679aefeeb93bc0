use Rattle.std.specs.Prelude.{None}
use Rattle.ooo_scopes.proofs.PlaceMaps.{has_place}
use Rattle.ooo_scopes.proofs.places.remove.Goals as goal

pub returns : goal.returns
returns c = has_place c.args.name.now c.args.places.now c.remove.new.self None c.remove.ensures.updates
