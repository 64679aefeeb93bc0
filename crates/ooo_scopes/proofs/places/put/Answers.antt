use Rattle.std.specs.Prelude.{ℕ, List, Some}
use Rattle.std.proofs.Common.{subst}
use Rattle.ooo_scopes.specs.Places.{HasPlace}
use Rattle.ooo_scopes.proofs.PlaceMaps.{has_place}
use Rattle.ooo_scopes.proofs.places.put.Goals as goal

pub returns-clause-ok : goal.returns-clause-ok
returns-clause-ok c =
    subst (λ (l : List ℕ). HasPlace c.args.places.now c.insert.new.self l (Some c.args.place)) c.in_ok-key.ensures.items
    (has_place c.in_ok-key.key.items c.args.places.now c.insert.new.self (Some c.args.place) c.in_ok-had.ensures.updates)
