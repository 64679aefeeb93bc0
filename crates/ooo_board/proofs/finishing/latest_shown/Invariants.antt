use Rattle.std.proofs.Common.{◌≡◌, take}
use Rattle.std.specs.Prelude.{filter}
use Rattle.ooo_dispatch.specs.ReadOff.{latest_stamp}
use Rattle.ooo_board.specs.Finishing.{shows}
use Rattle.ooo_board.proofs.finishing.latest_shown.Given as goal

abbrev pub invariant-loop-place : goal.invariant-loop-place
invariant-loop-place l = l.latest ≡ latest_stamp (filter (shows l.cut l.next) (take l.place-index l.places))
