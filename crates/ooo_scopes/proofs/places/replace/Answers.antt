use Rattle.std.specs.Prelude.{Some}
use Rattle.std.proofs.Common.{rules}
use Rattle.ooo_scopes.proofs.PlaceMaps.{has_place}
use Rattle.ooo_scopes.proofs.places.replace.Goals as goal

pub returns-in-Some : goal.returns-in-Some
returns-in-Some c =
    has_place c.args.name.now c.args.places.now (c.get_mut.follows.lender c.args.place) (Some c.args.place)
    ((c.get_mut.follows.holds c.args.place).3 (search rules))
