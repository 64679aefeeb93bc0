use Rattle.std.proofs.Common.{◌≡◌, ◌≤◌, length, take}
use Rattle.std.specs.Prelude.{filter}
use Rattle.ooo_board.specs.Finishing.{shows}
use Rattle.ooo_board.proofs.finishing.count_shown.Given as goal

abbrev pub invariant-loop-place : goal.invariant-loop-place
invariant-loop-place l = (l.shown ≡ length (filter (shows l.cut l.next) (take l.place-index l.places))) × (l.shown ≤ l.place-index)
