-- What one node's step says: where the activation goes on, or how it ends.
use Rattle.std.specs.Prelude.{◌≡◌, ℕ, Option, Result, Ok, Err, option_map}
use Rattle.ooo_code.specs.declared.activation.Effect.{Effect}
use Rattle.ooo_code.specs.declared.activation.Frame.{Frame}
use Rattle.ooo_code.specs.declared.activation.JobEnd.{JobEnd}
use Rattle.ooo_code.specs.declared.activation.JobEnd.TheVariants as job
use Rattle.ooo_code.specs.declared.activation.WaitOn.{WaitOn}
use Rattle.ooo_code.specs.declared.node.Node.{Node}
use Rattle.ooo_code.specs.declared.node.NodeKind.{NodeKind}
use Rattle.ooo_code.specs.declared.segment.SegmentEntry.{SegmentEntry}
use Rattle.ooo_code.specs.Expressions.{Sight}
use Rattle.ooo_code.specs.Nodes.{Doing, Next, Running, act, ends, with_effect}
use Rattle.ooo_code.specs.Outcomes.{Outcome}
use Rattle.ooo_interp.specs.declared.doing.Activation.{Activation}
use Rattle.ooo_interp.specs.declared.doing.Break.{Break}
use Rattle.ooo_interp.specs.declared.doing.Break.TheVariants as break
use Rattle.ooo_interp.specs.declared.doing.Halt.{Halt}
use Rattle.ooo_interp.specs.declared.doing.Halt.TheVariants as halt
use Rattle.ooo_interp.specs.declared.doing.Emitted.{Emitted}
use Rattle.ooo_interp.specs.declared.doing.Pause.{Pause}

-- what a pause waits for
abbrev pub wait_of : Pause → WaitOn
wait_of p = record { time = p.time; events = p.events.now }

-- what an activation has come to: on the parts lent, by what it emitted and what its method waits for next, where that was set
abbrev pub doing_of : Sight → Emitted → Option Pause → Doing
doing_of s m p = record {
  slots = s.slots;
  variables = s.variables;
  seen = s.seen;
  output = m.output.items;
  effects = m.effects.items;
  trigger = option_map wait_of p;
}

-- the process that acts, its entry and the stamp
abbrev pub running_of : Activation → Running
running_of a = record { process = a.process.now; entry = a.entry; stamp = a.stamp }

-- the end of an activation that halted so
abbrev pub job_end : Halt → JobEnd
job_end (halt.Waits entry p) = job.Waits (wait_of p)
job_end halt.Ended = job.Ended
job_end (halt.Faulted f line) = job.Faulted f line
job_end (halt.Limit line) = job.Limit line

-- the entry from which its process goes on, where it began at an entry
abbrev pub entry_after : SegmentEntry → Halt → SegmentEntry
entry_after began (halt.Waits entry p) = entry
entry_after began halt.Ended = began
entry_after began (halt.Faulted f line) = began
entry_after began (halt.Limit line) = began

-- an activation that halts so, from what it has come to
abbrev pub ended_by : Running → Halt → Doing → Outcome Frame
ended_by r h d = ends (entry_after r.entry h) (job_end h) d

-- what an activation comes to where no node follows one of this line, from what it has come to; without memory anything
abbrev pub IsBreak : Running → (line : ℕ) → Break → Doing → Outcome Frame → Type 0
IsBreak r line (break.Halts h) d o = o ≡ ended_by r h d
IsBreak r line (break.Faults f) d o = o ≡ ends r.entry (job.Faulted f line) d
IsBreak r line break.OutOfMemory d o = Unit {0}

-- a step from what was come to before to what is come to after: the node goes on there, or no node follows
abbrev pub Steps : Running → (line : ℕ) → Result ℕ Break → Doing → (Next → Outcome Frame) → Type 0
Steps r line (Ok to) d from = (next : Next) → from next ≡ next to d
Steps r line (Err b) d from = (next : Next) → IsBreak r line b d (from next)

-- what a node does
abbrev pub Acts : Running → Node → (number : ℕ) → Result ℕ Break → (before after : Doing) → Type 0
Acts r node number result before after =
    Steps r node.line result after (λ next. act r node.kind number node.line node.next next before)

-- what a node of a kind does, whatever process, number and line it has
abbrev pub ActsAs : NodeKind → (to : ℕ) → Result ℕ Break → (before after : Doing) → Type 0
ActsAs k to result before after =
    (r : Running) (number line : ℕ) → Steps r line result after (λ next. act r k number line to next before)

-- what a node of a kind does to parts, whatever was emitted before
abbrev pub ActsOn : NodeKind → (to : ℕ) → Result ℕ Break → (before after : Sight) → Type 0
ActsOn k to result s t = (m : Emitted) (p : Option Pause) → ActsAs k to result (doing_of s m p) (doing_of t m p)

-- what a node of a kind does to parts and to what is emitted
abbrev pub Emits : NodeKind → (to : ℕ) → Result ℕ Break → Sight → Emitted → Sight → Emitted → Type 0
Emits k to result s m t l = (p : Option Pause) → ActsAs k to result (doing_of s m p) (doing_of t l p)

-- an effect is added and it goes on there, or memory runs out
abbrev pub GoesWith : Effect → (to : ℕ) → Result ℕ Break → (before after : Doing) → Type 0
GoesWith f to (Ok n) before after = (n ≡ to) × (after ≡ with_effect f before)
GoesWith f to (Err b) before after = b ≡ break.OutOfMemory
