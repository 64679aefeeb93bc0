use Rattle.std.proofs.Common.{◌≡◌, ◌-◌, length}
use Rattle.std.specs.Prelude.{[]}
use Rattle.ooo_walk.specs.Plans.{viewed}
use Rattle.ooo_walk.specs.Reach.{Marks, reached_from, reached_by}
use Rattle.ooo_walk.proofs.reach.reached.Given as goal

abbrev pub invariant-turns : goal.invariant-turns
invariant-turns l = record {
  seen : reached_from (viewed l.view) (l.names - l.place) l.place l.seen ≡ reached_by (viewed l.view) l.by;
  marks : Marks (length l.view.places.now) l.seen l.marks;
}
