-- The sequential run of a bound model.
use Rattle.std.specs.Prelude.{ℕ, ◌+◌, List, [], ◌∷◌, length, map, position, Bool, Option}
use Rattle.std.specs.List.{list_any}
use Rattle.ooo_value.specs.declared.bound.BoundChannel.{BoundChannel}
use Rattle.ooo_code.specs.declared.limits.Limits.{Limits}
use Rattle.ooo_code.specs.Channels.{Channel, first_channel}
use Rattle.ooo_code.specs.Touches.{Touch}
use Rattle.ooo_bound.specs.declared.model.Bound.{Bound}
use Rattle.ooo_meaning.specs.Sequence.{State, Result, state_of, run_whole, IsWholeRun}
use Rattle.ooo_meaning.specs.Runs.{first_wait, first_world, holds_reading, holds_writing, numbers_from}
use Rattle.ooo_activation.specs.Activations.{Place, by_statements, first_place}
use Rattle.ooo_activation.specs.Touches.{process_touches}

-- the process whose code touches what passes the test, of which a sound model has one at most for each end of a fifo
abbrev pub holder_in : Bound → (Touch → Bool) → Option ℕ
holder_in b test = position (λ process. list_any test (process_touches b process)) b.processes

-- the channels as they start, the first of which has number c
abbrev pub first_channels : Bound → ℕ → List BoundChannel → List Channel
first_channels b c [] = []
first_channels b c (x ∷ xs) =
    first_channel x (holder_in b (holds_reading c)) (holder_in b (holds_writing c)) ∷ first_channels b (c + 1) xs

-- a model before initialization: each process before its body (IEEE 1666-2011, 4.2.1.1)
abbrev pub start_of : Bound → State Place
start_of b =
    state_of
    (first_world
    (map (λ process. first_wait process.initialize process.sensitive) b.processes)
    b.variables
    b.events
    (first_channels b 0 b.channels))
    (map first_place b.processes)

-- the processes in ascending number, which is the order of a sequential run
abbrev pub ascending : Bound → List ℕ
ascending b = numbers_from 0 (length b.processes)

-- what the sequential run of a bound model gives, if it is over after at most n cycles
abbrev pub sequential_run : Bound → Limits → ℕ → Option Result
sequential_run b limits n = run_whole (by_statements b limits.statements) (ascending b) limits n (start_of b)

-- the sequential run of a bound model gives this
abbrev pub IsSequentialRun : Bound → Limits → Result → Type 0
IsSequentialRun b limits r = IsWholeRun (by_statements b limits.statements) (ascending b) limits (start_of b) r
