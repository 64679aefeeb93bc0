use Rattle.std.proofs.Common.{◌≡◌, ◌++◌, drop}
use Rattle.ooo_checked.specs.Exprs.{exprs_of}
use Rattle.ooo_checked.specs.Notes.{all_notes, trees}
use Rattle.ooo_bodies.specs.Noting.{noted}
use Rattle.ooo_bodies.proofs.exprs.+expr.Given as goal

abbrev pub invariant-exprs-args-2 : goal.invariant-exprs-args-2
invariant-exprs-args-2 l = record {
  trees : l.all ++ trees (exprs_of (drop l.e-index l.e-items) l.scopes) ≡ trees (exprs_of l.e-items l.scopes);
  notes : noted l.notes (all_notes (exprs_of (drop l.e-index l.e-items) l.scopes))
      ≡ noted l.initial.notes (all_notes (exprs_of l.e-items l.scopes));
}
