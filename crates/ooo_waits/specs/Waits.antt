-- The waits of a process: of its nodes, and of its statements in the order of the text.
use Rattle.std.specs.Prelude.{ℕ, zero, suc, List, [], ◌∷◌, ◌++◌, length, Option, Some, None, slice_get, if◌then◌else◌}
use Rattle.ooo_time.specs.declared.time.Time.{Time}
use Rattle.ooo_code.specs.declared.node.Node.{Node}
use Rattle.ooo_code.specs.declared.node.NodeKind.{NodeKind}
use Rattle.ooo_code.specs.declared.node.NodeKind.TheVariants as kind
use Rattle.ooo_bound.specs.declared.model.Bound.{Bound}
use Rattle.ooo_bound.specs.declared.model.BoundFunction.{BoundFunction}
use Rattle.ooo_bound.specs.declared.model.BoundProcess.{BoundProcess}
use Rattle.ooo_bound.specs.declared.stat.BoundRight.{BoundRight}
use Rattle.ooo_bound.specs.declared.stat.BoundRight.TheVariants as right
use Rattle.ooo_bound.specs.declared.stat.BoundSimple.{BoundSimple}
use Rattle.ooo_bound.specs.declared.stat.BoundSimple.TheVariants as simple
use Rattle.ooo_bound.specs.declared.stat.BoundStat.{BoundStat, BoundStat-F, fold-BoundStat}
use Rattle.ooo_bound.specs.declared.stat.BoundStat.TheOpen as stat
use Rattle.ooo_bound.specs.declared.stat.LinedSimple.{LinedSimple}
use Rattle.ooo_activation.specs.Activations.{data_written, data_read}
use Rattle.ooo_shapes.specs.Designs.{home_of}
use Rattle.ooo_shapes.specs.Segments.{fixed_time, constant_time}
use Rattle.ooo_shapes.specs.Simples.{Home}

-- a wait: the line of its statement, its time where that is constant, and its events
pub record Waiting : Type 0 where
  pub line : ℕ
  pub time : Option Time
  pub events : List ℕ

-- ---- nodes

-- the wait of a node on a line, if it is one
abbrev pub kind_waits : NodeKind → (line : ℕ) → List Waiting
kind_waits (kind.Wait w) line = record { line = line; time = fixed_time w.time; events = w.events } ∷ []
kind_waits _ line = []

-- the waits among nodes, in order
abbrev pub waits_of : List Node → List Waiting
waits_of [] = []
waits_of (i ∷ is) = kind_waits i.kind i.line ++ waits_of is

-- ---- statements

-- a blocking statement of a fifo waits for an event, for as long as it takes (IEEE 1666-2011, 6.23)
abbrev pub until : (line : ℕ) → List ℕ → List Waiting
until line events = record { line = line; time = None; events = events } ∷ []

-- the waits of the functions that may be called
abbrev pub Callees : Type 0
Callees = ℕ → List Waiting

abbrev pub right_waits : Home → Callees → (line : ℕ) → BoundRight → List Waiting
right_waits h callees line (right.Call f args) = callees f
right_waits h callees line (right.Read c) = until line (data_written h.model c)
right_waits h callees line _ = []

-- the waits of a statement without statements in it
abbrev pub simple_waits : Home → Callees → (line : ℕ) → BoundSimple → List Waiting
simple_waits h callees line (simple.Assign t r) = right_waits h callees line r
simple_waits h callees line (simple.Write c e) = until line (data_read h.model c)
simple_waits h callees line (simple.Wait w) =
    record { line = line; time = constant_time w.time; events = if w.is_static then h.sensitive else w.events } ∷ []
simple_waits h callees line _ = []

abbrev pub simples_waits : Home → Callees → List LinedSimple → List Waiting
simples_waits h callees [] = []
simples_waits h callees (x ∷ xs) = simple_waits h callees x.line x.simple ++ simples_waits h callees xs

abbrev pub after_waits : Home → Callees → Option LinedSimple → List Waiting
after_waits h callees None = []
after_waits h callees (Some x) = simple_waits h callees x.line x.simple

abbrev pub all_waits : List (List Waiting) → List Waiting
all_waits [] = []
all_waits (x ∷ xs) = x ++ all_waits xs

abbrev pub maybe_waits : Option (List Waiting) → List Waiting
maybe_waits None = []
maybe_waits (Some x) = x

-- what follows each turn of a `for` stands before its body, as in the text
abbrev pub waits_step : Home → Callees → BoundStat-F (List Waiting) → List Waiting
waits_step h callees (stat.Block parts) = all_waits parts
waits_step h callees (stat.Simple x) = simple_waits h callees x.line x.simple
waits_step h callees (stat.If line e a b) = a ++ maybe_waits b
waits_step h callees (stat.While line e a) = a
waits_step h callees (stat.Do line a e) = a
waits_step h callees (stat.For line begin e after a) = simples_waits h callees begin ++ (after_waits h callees after ++ a)
waits_step h callees _ = []

-- the waits of a statement
unfoldable pub stat_waits : Home → Callees → BoundStat → List Waiting
stat_waits h callees s = fold-BoundStat (List Waiting) (waits_step h callees) s

-- the waits of the statements of a body
abbrev pub body_waits : Home → Callees → List BoundStat → List Waiting
body_waits h callees [] = []
body_waits h callees (s ∷ ss) = stat_waits h callees s ++ body_waits h callees ss

abbrev pub function_waits : (List BoundStat → List Waiting) → Option BoundFunction → List Waiting
function_waits waits None = []
function_waits waits (Some f) = waits f.body

-- the waits of functions whose calls are nested no deeper than this; those of a sound model have none
abbrev pub waits_within : (depth : ℕ) → Home → Callees
waits_within zero h f = []
waits_within (suc depth) h f = function_waits (body_waits h (waits_within depth h)) (slice_get h.model.functions f)

-- the waits of a process, in the order of the text
abbrev pub process_waits : Bound → BoundProcess → List Waiting
process_waits b process =
    let h = home_of b process in body_waits h (waits_within (length b.functions) h) process.body
