-- Processes, each with the stamp at which it is due: the rows of delta cycles, and an ordered set of all others.
use Rattle.std.specs.Prelude.{◌≡◌, ◌||◌, Bool, List, Option}
use Rattle.std.specs.BTreeSet.{BTreeSet, contains}
use Rattle.ooo_time.specs.declared.stamp.Stamp.{Stamp}
use Rattle.ooo_meaning.specs.World.{is_at}
use Rattle.ooo_plain.specs.declared.agenda.Due.{Due}
use Rattle.ooo_plain.specs.Agenda.{due_in, due_cmp}
use Rattle.ooo_plain.specs.Deltas.{DeltasState, stands_among}

-- the rows, and the others
pub record QueueState : Type 0 where
  pub rows : DeltasState
  pub others : BTreeSet Due

-- a process is in the queue, as it is due
abbrev pub is_in : QueueState → Due → Bool
is_in queue k = stands_among queue.rows k || contains due_cmp queue.others k

-- the queue has each process for the stamp at which it is due, and nothing else
abbrev pub IsExact : List (Option Stamp) → QueueState → Type 0
IsExact dues queue = (k : Due) → is_in queue k ≡ is_at k.stamp (due_in dues k.process)
