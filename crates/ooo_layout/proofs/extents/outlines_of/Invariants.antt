use Rattle.ooo_layout.specs.Extents.{AreOutlines}
use Rattle.ooo_layout.proofs.extents.outlines_of.Given as goal

abbrev pub invariant-functions : goal.invariant-functions
invariant-functions l = AreOutlines l.model l.outlines
