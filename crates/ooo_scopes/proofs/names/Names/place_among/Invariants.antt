use Rattle.std.specs.Prelude.{◌-◌, length}
use Rattle.ooo_scopes.specs.Names.{bindings_of}
use Rattle.ooo_scopes.proofs.Behind.{Reached, rank}
use Rattle.ooo_scopes.proofs.names.Names.place_among.Given as goal

-- the place is one of the name, behind none but later bindings
abbrev pub invariant-hidden : goal.invariant-hidden
invariant-hidden l =
    Reached (bindings_of l.self-inside) (length (bindings_of l.self-inside) - l.kept) l.name l.place

abbrev pub decreases-hidden : goal.decreases-hidden
decreases-hidden l = rank l.place
