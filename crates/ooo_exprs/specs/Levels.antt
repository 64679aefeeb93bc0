-- The binary levels as readers, by the number of a level.
use Rattle.std.specs.Prelude.{ℕ, ◌+◌, ◌-◌, ◌≡◌, Bool, true, false, if◌then◌else◌, List, [], ◌∷◌, ◌++◌, Option, None, drop}
use Rattle.ooo_syntax.specs.declared.symbol.Symbol.{Symbol}
use Rattle.ooo_syntax.specs.declared.expr.Expr.{Expr}
use Rattle.ooo_syntax.specs.declared.expr.Expr.TheVariants as expr
use Rattle.ooo_syntax.specs.declared.expr.BinaryOp.{BinaryOp}
use Rattle.ooo_syntax.specs.declared.expr.PrefixOp.{PrefixOp}
use Rattle.ooo_syntax.specs.declared.terminal.Terminal.{Terminal}
use Rattle.ooo_syntax.specs.declared.terminal.Terminal.TheVariants as terminal
use Rattle.ooo_syntax.specs.declared.leaves.TypeForm.{TypeForm}
use Rattle.ooo_syntax.specs.declared.leaves.TypeForm.TheVariants as form
use Rattle.ooo_grammar.specs.Forms.{Outcome, Bad, Deep, Reader, then_r, mapped_r, repeats_r, one_r}
use Rattle.ooo_grammar.specs.Sets.{Terminals, in_set, table_test}
use Rattle.ooo_grammar.specs.Codes.{deeper}
use Rattle.ooo_grammar.specs.Combinators.{Table, led, rows, terminals_of, to, quoted}
use Rattle.ooo_exprs.specs.declared.expressions.First.{First}
use Rattle.ooo_exprs.specs.declared.expressions.First.TheVariants as first
use Rattle.ooo_grammar.specs.declared.limits.Limits.{Limits}
use Rattle.ooo_grammar.specs.Expressions.{binary_levels, unary, plain_unary, prefixed, prefixed_by, converted, operand, inner, chosen}
use Rattle.ooo_grammar.specs.Gives.{room_at, reads_at}
use Rattle.ooo_grammar.specs.Readings.{Room, fits}

-- an operator and its right side, any number of times
abbrev pub turn : Reader BinaryOp → Reader Expr → Expr → Reader Expr
turn op q a = then_r op (λ o. mapped_r (λ b. expr.Binary o a b) q)

-- inside a bracket that is open already the operators stand one level deeper
abbrev pub op_levels : Bool → ℕ → ℕ
op_levels true n = n - 1
op_levels false n = n

abbrev pub levels_r : ℕ → Room → (inside : Bool) → List (Table BinaryOp) → Reader Expr → Reader Expr → Reader Expr
levels_r n room inside [] p q = p
levels_r n room inside (l ∷ ls) p q = then_r (levels_r n room inside ls p q) (repeats_r (in_set (terminals_of l)) (turn (one_r (fits (op_levels inside n) room) (table_test (rows l))) (levels_r n room inside ls q q)))

-- the levels from number k on
unfoldable pub level_r : ℕ → Room → (inside : Bool) → ℕ → Reader Expr → Reader Expr → Reader Expr
level_r n room inside k p q = levels_r n room inside (drop k binary_levels) p q

-- an operator of level k
abbrev pub op_in : List (Table BinaryOp) → Symbol → Option BinaryOp
op_in [] t = None
op_in (l ∷ ls) t = table_test (rows l) t

-- the signs of level k, and their reader
abbrev pub kinds_in : List (Table BinaryOp) → Terminals
kinds_in [] = []
kinds_in (l ∷ ls) = terminals_of l

unfoldable pub kinds_at : ℕ → Terminals
kinds_at k = kinds_in (drop k binary_levels)

unfoldable pub op_at : ℕ → Symbol → Option BinaryOp
op_at k t = op_in (drop k binary_levels) t

-- ---- what an expression begins with, and what its other operands are

abbrev pub others_of : First → First
others_of first.Any = first.Any
others_of first.Plain = first.Any
others_of (first.Converted t) = first.Operand
others_of first.Operand = first.Operand

abbrev pub is_inside : First → Bool
is_inside first.Any = false
is_inside first.Plain = false
is_inside (first.Converted t) = true
is_inside first.Operand = true

unfoldable pub first_r : Limits → First → Reader Expr
first_r l first.Any = reads_at l unary
first_r l first.Plain = reads_at l plain_unary
first_r l (first.Converted t) = reads_at l (deeper (converted t))
first_r l first.Operand = reads_at l operand

-- an expression's levels from number k on
abbrev pub level_at : Limits → First → ℕ → Reader Expr
level_at l x k = level_r l.levels (room_at l.bound) (is_inside x) k (first_r l x) (first_r l (others_of x))

-- what a call at one level of nesting may still call at that level: the measure of the readers
abbrev pub rank_of : First → ℕ
rank_of first.Any = 30
rank_of first.Plain = 30
rank_of (first.Converted t) = 4
rank_of first.Operand = 4

-- one turn of level k
abbrev pub turn_at : Limits → First → ℕ → Expr → Reader Expr
turn_at l x k = turn (one_r (fits (op_levels (is_inside x) l.levels) (room_at l.bound)) (op_at k)) (level_r l.levels (room_at l.bound) (is_inside x) (k + 1) (first_r l (others_of x)) (first_r l (others_of x)))

-- ---- a list of expressions

abbrev pub item_step : Limits → List Expr → Reader (List Expr)
item_step l es = then_r (reads_at l (deeper (quoted terminal.Comma))) (λ _. mapped_r (λ e. es ++ e ∷ []) (reads_at l inner))

-- an expression by its first operand: its levels, and then a conditional or nothing
abbrev pub chosen_r : Limits → First → Expr → Reader Expr
chosen_r l first.Any a = reads_at l (chosen a)
chosen_r l first.Plain a = reads_at l (chosen a)
chosen_r l (first.Converted t) a = reads_at l (deeper (chosen a))
chosen_r l first.Operand a = reads_at l (deeper (chosen a))

abbrev pub expression_r : Limits → First → Reader Expr
expression_r l x = then_r (level_at l x 0) (chosen_r l x)

-- ---- what begins an expression

-- where no level is left: what begins here is too deep
abbrev pub refused : Bool → List Symbol → Outcome Expr
refused b ts = if b then Deep ts else Bad ts

-- whether a cast follows `(` and a type: `)` tells after a type that a conversion may begin with
abbrev pub is_cast : TypeForm → Bool → Bool
is_cast form.Bool closes = closes
is_cast form.Int closes = closes
is_cast form.Unsigned closes = closes
is_cast _ closes = true

-- the `)` that ends this expression, whose other tokens were read before
abbrev pub closed : Expr → Limits → Reader Expr
closed e l = reads_at l (to (λ _. e) (quoted terminal.Close))

-- a prefix that begins here is read as one with this meaning and this sign
abbrev pub IsPrefixBy : PrefixOp → Terminal → List Symbol → Type 0
IsPrefixBy op sign ts = (l : Limits) → reads_at l prefixed ts ≡ reads_at l (led sign (prefixed_by op)) ts
