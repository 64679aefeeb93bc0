use Rattle.std.proofs.Common.{◌≡◌, ◌++◌, drop}
use Rattle.ooo_numbers.specs.Names.{events_of}
use Rattle.ooo_numbers.specs.Names.{numbering_of}
use Rattle.ooo_numbers.proofs.names.events.Given as goal

abbrev pub invariant-parts : goal.invariant-parts
invariant-parts l =
    l.all ++ events_of (numbering_of l.numbers) (drop l.part-index l.given) ≡ l.initial.all ++ events_of (numbering_of l.numbers) l.given
