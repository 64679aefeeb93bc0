-- The design of a bound model.
use Rattle.std.specs.Prelude.{ℕ, ◌+◌, List, [], ◌∷◌, ◌++◌, length, None}
use Rattle.ooo_value.specs.declared.kinds.Kind.{Kind}
use Rattle.ooo_code.specs.declared.design.Design.{Design}
use Rattle.ooo_code.specs.declared.design.Proc.{Proc}
use Rattle.ooo_code.specs.declared.node.Node.{Node}
use Rattle.ooo_code.specs.declared.node.NodeKind.TheVariants as kind
use Rattle.ooo_bound.specs.declared.model.Bound.{Bound}
use Rattle.ooo_bound.specs.declared.model.BoundProcess.{BoundProcess}
use Rattle.ooo_shapes.specs.declared.around.Around.{Around}
use Rattle.ooo_shapes.specs.declared.around.Widths.{Widths}
use Rattle.ooo_shapes.specs.Widths.{count_of, kinds_of, body_widths}
use Rattle.ooo_shapes.specs.Expressions.{first_kinds, first_base}
use Rattle.ooo_shapes.specs.Simples.{Home, uncounted}
use Rattle.ooo_shapes.specs.Shapes.{Shape, shape_within}

-- ---- a process: its body, and the end

abbrev pub home_of : Bound → BoundProcess → Home
home_of b process = record { model = b; sensitive = process.sensitive }

-- its body, whose calls are nested no deeper than there are functions
abbrev pub process_shape : Bound → BoundProcess → Shape
process_shape b process = shape_within (length b.functions) (home_of b process) process.body

abbrev pub process_widths : BoundProcess → Widths
process_widths process = body_widths process.body

-- around its body: all jumps that leave it lead to its end
abbrev pub around_process : Widths → (end : ℕ) → Around
around_process w end = record {
  base = first_base;
  widths = w;
  result_slot = 0;
  result = None;
  break_to = end;
  continue_to = end;
  return_to = end;
}

-- the first slot behind its own locals
abbrev pub free_of : BoundProcess → ℕ
free_of process = first_base + count_of (process_widths process)

-- the nodes of a process whose first node has this number
abbrev pub process_nodes : Bound → BoundProcess → (first : ℕ) → List Node
process_nodes b process first =
    let x = process_shape b process in
    let end = first + x.size in
    x.nodes (around_process (process_widths process) end) (free_of process) first end ++ uncounted kind.End 0 end ∷ []

-- how many nodes a process has
abbrev pub process_size : Bound → BoundProcess → ℕ
process_size b process = (process_shape b process).size + 1

abbrev pub process_slots : Bound → BoundProcess → List Kind
process_slots b process = first_kinds ++ kinds_of (process_widths process) ++ (process_shape b process).slots

-- a process whose first node has this number
abbrev pub process_at : Bound → BoundProcess → (first : ℕ) → Proc
process_at b process first = record {
  kind = process.kind;
  first = first;
  end = first + process_size b process;
  slots = process_slots b process;
  sensitive = process.sensitive;
  initialize = process.initialize;
}

-- ---- a model

-- the processes one after the other, from this node on
abbrev pub processes_from : Bound → (first : ℕ) → List BoundProcess → List Proc
processes_from b first [] = []
processes_from b first (p ∷ ps) = process_at b p first ∷ processes_from b (first + process_size b p) ps

-- their nodes
abbrev pub nodes_from : Bound → (first : ℕ) → List BoundProcess → List Node
nodes_from b first [] = []
nodes_from b first (p ∷ ps) = process_nodes b p first ++ nodes_from b (first + process_size b p) ps

-- the design of a model
abbrev pub design_of : Bound → Design
design_of b = record {
  nodes = nodes_from b 0 b.processes;
  processes = processes_from b 0 b.processes;
  variables = b.variables;
  channels = b.channels;
  events = b.events;
}
