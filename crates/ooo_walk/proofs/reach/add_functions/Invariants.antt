use Rattle.std.proofs.Common.{◌≡◌, drop, length}
use Rattle.ooo_walk.specs.Plans.{viewed}
use Rattle.ooo_walk.specs.Reach.{Marks, with_calls}
use Rattle.ooo_walk.proofs.reach.add_functions.Given as goal

abbrev pub invariant-parts : goal.invariant-parts
invariant-parts l = record {
  seen : with_calls (viewed l.view) l.seen (drop l.e-index l.calls) ≡ with_calls (viewed l.view) l.initial.seen l.calls;
  marks : Marks (length l.view.places.now) l.seen l.marks;
}
