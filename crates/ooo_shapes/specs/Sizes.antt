-- The size of the code of a model: how many items count against the statement limit, each where it is written, and a called
-- function's anew for each call.
use Rattle.std.specs.Prelude.{ℕ, zero, suc, ◌+◌, List, [], ◌∷◌, length, Option, Some, None, slice_get}
use Rattle.ooo_bound.specs.declared.model.Bound.{Bound}
use Rattle.ooo_bound.specs.declared.model.BoundFunction.{BoundFunction}
use Rattle.ooo_bound.specs.declared.model.BoundProcess.{BoundProcess}
use Rattle.ooo_bound.specs.declared.stat.BoundRight.{BoundRight}
use Rattle.ooo_bound.specs.declared.stat.BoundRight.TheVariants as right
use Rattle.ooo_bound.specs.declared.stat.BoundSimple.{BoundSimple}
use Rattle.ooo_bound.specs.declared.stat.BoundSimple.TheVariants as simple
use Rattle.ooo_bound.specs.declared.stat.BoundStat.{BoundStat, BoundStat-F, fold-BoundStat}
use Rattle.ooo_bound.specs.declared.stat.BoundStat.TheOpen as stat
use Rattle.ooo_bound.specs.declared.stat.LinedSimple.{LinedSimple}

-- the size of the body of each function that may be called
abbrev pub Sizes : Type 0
Sizes = ℕ → ℕ

-- a call adds one for each argument, and the size of the function's body
abbrev pub right_size : Sizes → BoundRight → ℕ
right_size sizes (right.Call f args) = length args + sizes f
right_size sizes _ = 0

-- a statement counts one, and a print one more for each item
abbrev pub simple_size : Sizes → BoundSimple → ℕ
simple_size sizes (simple.Assign t r) = 1 + right_size sizes r
simple_size sizes (simple.Print items) = 1 + length items
simple_size sizes _ = 1

abbrev pub simples_size : Sizes → List LinedSimple → ℕ
simples_size sizes [] = 0
simples_size sizes (x ∷ xs) = simple_size sizes x.simple + simples_size sizes xs

abbrev pub after_size : Sizes → Option LinedSimple → ℕ
after_size sizes None = 0
after_size sizes (Some x) = simple_size sizes x.simple

abbrev pub sum_of : List ℕ → ℕ
sum_of [] = 0
sum_of (n ∷ ns) = n + sum_of ns

abbrev pub size_or_zero : Option ℕ → ℕ
size_or_zero None = 0
size_or_zero (Some n) = n

-- each test counts one, and so does each jump
abbrev pub size_step : Sizes → BoundStat-F ℕ → ℕ
size_step sizes (stat.Block parts) = sum_of parts
size_step sizes (stat.Simple x) = simple_size sizes x.simple
size_step sizes (stat.If line e a b) = 1 + (a + size_or_zero b)
size_step sizes (stat.While line e a) = 1 + a
size_step sizes (stat.Do line a e) = a + 1
size_step sizes (stat.For line begin e after a) = simples_size sizes begin + (1 + (after_size sizes after + a))
size_step sizes (stat.Break line) = 1
size_step sizes (stat.Continue line) = 1
size_step sizes (stat.Return line e) = 1

unfoldable pub stat_size : Sizes → BoundStat → ℕ
stat_size sizes s = fold-BoundStat ℕ (size_step sizes) s

abbrev pub body_size : Sizes → List BoundStat → ℕ
body_size sizes [] = 0
body_size sizes (s ∷ ss) = stat_size sizes s + body_size sizes ss

abbrev pub function_size : (List BoundStat → ℕ) → Option BoundFunction → ℕ
function_size size None = 0
function_size size (Some f) = size f.body

-- the sizes of functions whose calls are nested no deeper than this
abbrev pub sizes_within : (depth : ℕ) → List BoundFunction → Sizes
sizes_within zero functions f = 0
sizes_within (suc depth) functions f = function_size (body_size (sizes_within depth functions)) (slice_get functions f)

abbrev pub processes_size : Sizes → List BoundProcess → ℕ
processes_size sizes [] = 0
processes_size sizes (p ∷ ps) = 1 + (body_size sizes p.body + processes_size sizes ps)

-- the size of the code: those of all bodies, and one for each process
abbrev pub code_size : Bound → ℕ
code_size b = processes_size (sizes_within (length b.functions) b.functions) b.processes
