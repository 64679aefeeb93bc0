-- A small job, which a test runs: a thread that prints a text and ends, and that may change a variable of one number.
use Rattle.std.specs.Prelude.{◌≡◌, ℕ, List, [], ◌∷◌, true, false}
use Rattle.ooo_value.specs.declared.bound.BoundVariable.{BoundVariable}
use Rattle.ooo_value.specs.declared.bound.ProcessKind.TheVariants.{Thread}
use Rattle.ooo_value.specs.declared.kinds.Kind.TheVariants as value_kind
use Rattle.ooo_value.specs.declared.values.Value.TheVariants as value
use Rattle.ooo_code.specs.declared.design.Design.{Design}
use Rattle.ooo_code.specs.declared.design.Proc.{Proc}
use Rattle.ooo_code.specs.declared.node.Node.{Node}
use Rattle.ooo_code.specs.declared.node.NodeKind.TheVariants as kind
use Rattle.ooo_code.specs.declared.segment.SegmentEntry.TheVariants.{Start}
use Rattle.ooo_interp.specs.declared.job.Job.{Job}

-- its nodes: the print, and the end
abbrev pub small_nodes : List ℕ → List Node
small_nodes text =
    record { kind = kind.PrintText text; line = 1; counts = true; next = 1 }
    ∷ record { kind = kind.End; line = 2; counts = false; next = 0 } ∷ []

-- its process
abbrev pub small_process : Proc
small_process = record { kind = Thread; first = 0; end = 2; slots = []; sensitive = []; initialize = true }

-- its variable
abbrev pub small_variable : BoundVariable
small_variable = record { kind = value_kind.Uint; length = 1; start = value.Uint 0 }

-- its design
abbrev pub small_design : List ℕ → Design
small_design text = record {
  nodes = small_nodes text;
  processes = small_process ∷ [];
  variables = small_variable ∷ [];
  channels = [];
  events = [];
}

-- the job, at the start of the process, with 3 in the variable
pub record IsSmall (text : List ℕ) (job : Job) : Type 0 where
  pub design : job.design.value ≡ small_design text
  pub process : job.process ≡ 0
  pub frame : job.frame ≡ record { entry = Start; slots = [] }
  pub owned : job.owned.items ≡ (0, value.Uint 3 ∷ []) ∷ []
  pub copied : job.copied.items ≡ []
  pub seen : job.seen.items ≡ []
