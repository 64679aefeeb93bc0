use Rattle.std.proofs.Common.{◌≡◌, drop}
use Rattle.ooo_elaborate.specs.Bindings.{links_by, links_of}
use Rattle.ooo_elaborate.proofs.bindings.link_all.Given as goal

abbrev pub invariant-parts : goal.invariant-parts
invariant-parts l = links_by l.walk (drop l.e-index l.e-items) l.links ≡ links_of l.walk
