-- The sequential run of a design.
use Rattle.std.specs.Prelude.{◌≡◌, ℕ, zero, suc, ◌+◌, ◌==◌, List, [], ◌∷◌, length, map, replicate, position, Bool, false, if◌then◌else◌, Option, None}
use Rattle.std.specs.List.{list_any}
use Rattle.ooo_value.specs.declared.bound.BoundChannel.{BoundChannel}
use Rattle.ooo_value.specs.declared.bound.BoundEvent.{BoundEvent}
use Rattle.ooo_value.specs.declared.bound.BoundVariable.{BoundVariable}
use Rattle.ooo_events.specs.Slots.{Nothing}
use Rattle.ooo_code.specs.declared.activation.Frame.{Frame}
use Rattle.ooo_code.specs.declared.design.Design.{Design}
use Rattle.ooo_code.specs.declared.design.Proc.{Proc}
use Rattle.ooo_code.specs.declared.limits.Limits.{Limits}
use Rattle.ooo_code.specs.Channels.{Channel, first_channel}
use Rattle.ooo_code.specs.Nodes.{by_nodes, first_frame}
use Rattle.ooo_code.specs.Segments.{nodes_of}
use Rattle.ooo_code.specs.Touches.{Touch, HoldsReading, HoldsWriting, touched_by}
use Rattle.ooo_history.specs.declared.run.Run.{Run}
use Rattle.ooo_history.specs.Reporting.{output_text}
use Rattle.ooo_meaning.specs.World.{World, Wait, awake, zero_stamp}
use Rattle.ooo_meaning.specs.Sequence.{State, Result, state_of, output_of, run_whole, IsWholeRun}

-- ---- as a run starts (IEEE 1666-2011, 4.2.1.1)

-- a process that is initialized is runnable, another one waits on its static events
abbrev pub first_wait : (initialize : Bool) → (sensitive : List ℕ) → Wait
first_wait initialize sensitive = if initialize then awake else record { runnable = false; events = sensitive; timeout = Nothing }

-- nothing is pending, no channel has a history, and no activation was made
abbrev pub first_world : List Wait → List BoundVariable → List BoundEvent → List Channel → World
first_world waits variables events channels = record {
  stamp = zero_stamp;
  waits = waits;
  variables = map (λ x. replicate x.length x.start) variables;
  events = events;
  slots = replicate (length events) Nothing;
  channels = channels;
  histories = replicate (length channels) [];
  made = [];
  stopped = false;
  broken = None;
}

-- ---- a design

-- what is touched is the fifo's reading end
abbrev pub holds_reading : ℕ → Touch → Bool
holds_reading c touch = elim touch [ HoldsReading d ↦ c == d | _ ↦ false ]

-- what is touched is the fifo's writing end
abbrev pub holds_writing : ℕ → Touch → Bool
holds_writing c touch = elim touch [ HoldsWriting d ↦ c == d | _ ↦ false ]

-- some node of the process touches what passes the test
abbrev pub some_node_touches : Design → (Touch → Bool) → Proc → Bool
some_node_touches design test process = list_any (λ node. list_any test (touched_by design.events node.kind)) (nodes_of design process)

-- the process that does, of which a sound design has one at most for each end of a fifo
abbrev pub holder_of : Design → (Touch → Bool) → Option ℕ
holder_of design test = position (some_node_touches design test) design.processes

-- the channels as they start, the first of which has number c
abbrev pub first_channels : Design → ℕ → List BoundChannel → List Channel
first_channels design c [] = []
first_channels design c (x ∷ xs) =
    first_channel x (holder_of design (holds_reading c)) (holder_of design (holds_writing c)) ∷ first_channels design (c + 1) xs

-- a design before initialization: each process at its first node
abbrev pub start_of : Design → State Frame
start_of design =
    state_of
    (first_world
    (map (λ process. first_wait process.initialize process.sensitive) design.processes)
    design.variables
    design.events
    (first_channels design 0 design.channels))
    (map first_frame design.processes)

-- ---- its run

-- so many numbers from p on
abbrev pub numbers_from : ℕ → ℕ → List ℕ
numbers_from p zero = []
numbers_from p (suc n) = p ∷ numbers_from (p + 1) n

-- the processes in ascending number, which is the order of a sequential run
abbrev pub ascending : Design → List ℕ
ascending design = numbers_from 0 (length design.processes)

-- what the sequential run of a design gives, if it is over after at most n cycles
abbrev pub sequential_run : Design → Limits → ℕ → Option Result
sequential_run design limits n = run_whole (by_nodes design limits.statements) (ascending design) limits n (start_of design)

-- the sequential run of a design gives this
abbrev pub IsSequentialRun : Design → Limits → Result → Type 0
IsSequentialRun design limits r = IsWholeRun (by_nodes design limits.statements) (ascending design) limits (start_of design) r

-- a run shows what a sequential run gives: its histories, its ending and the number of its activations, and its pieces
-- joined are the output
pub record Shows (run : Run) (r : Result) : Type 0 where
  pub histories : run.channels ≡ r.histories
  pub ending : run.end ≡ r.end
  pub activations : run.activations ≡ length r.made
  pub output : output_text run.pieces ≡ output_of r
