-- The forms that stand within one another: what each means, what begins it, and what may go on with it.
use Rattle.std.specs.Prelude.{Bool, true, false, [], ◌∷◌, ◌++◌, Some, None}
use Rattle.ooo_syntax.specs.declared.terminal.Terminal.TheVariants as terminal
use Rattle.ooo_syntax.specs.declared.expr.Expr.{Expr}
use Rattle.ooo_syntax.specs.declared.stat.Stat.{Stat, Stat-F, fold-Stat}
use Rattle.ooo_syntax.specs.declared.stat.Stat.TheOpen as layer
use Rattle.ooo_grammar.specs.Sets.{Terminals}

-- an expression, one that doesn't begin with a type, an operand, and a statement
pub data Name : Type 0 where
  expr_name plain_name unary_name stat_name : Name

abbrev pub Value : Name → Type 0
Value expr_name = Expr
Value plain_name = Expr
Value unary_name = Expr
Value stat_name = Stat

-- ---- what begins

abbrev pub names : Terminals
names = terminal.Word ∷ terminal.Notify ∷ terminal.Cancel ∷ terminal.Bind ∷ []

abbrev pub type_words : Terminals
type_words = terminal.Bool ∷ terminal.Int ∷ terminal.Unsigned ∷ terminal.Long ∷ []

abbrev pub prefix_signs : Terminals
prefix_signs = terminal.Not ∷ terminal.Tilde ∷ terminal.Minus ∷ terminal.Plus ∷ []

-- a conversion `type ( expr )` begins with a type of one word
abbrev pub short_types : Terminals
short_types = terminal.Bool ∷ terminal.Int ∷ terminal.Unsigned ∷ []

-- an expression that doesn't begin with a type
abbrev pub begins_plain : Terminals
begins_plain = prefix_signs ++ terminal.Open ∷ terminal.Number ∷ terminal.True ∷ terminal.False ∷ names

abbrev pub begins_expr : Terminals
begins_expr = short_types ++ begins_plain

abbrev pub begins_simple : Terminals
begins_simple = names ++ terminal.PlusPlus ∷ terminal.MinusMinus ∷ terminal.Wait ∷ terminal.NextTrigger ∷ terminal.ScStop ∷ terminal.Cout ∷ []

abbrev pub begins_stat : Terminals
begins_stat = terminal.OpenBrace ∷ terminal.Semicolon ∷ terminal.Break ∷ terminal.Continue ∷ terminal.Return ∷ terminal.If ∷ terminal.While ∷ terminal.Do ∷ terminal.For ∷ (type_words ++ begins_simple)

abbrev pub begins : Name → Terminals
begins expr_name = begins_expr
begins plain_name = begins_plain
begins unary_name = begins_expr
begins stat_name = begins_stat

-- ---- what may go on

-- the signs of `sum` and of the levels below it
abbrev pub sum_signs : Terminals
sum_signs = terminal.Star ∷ terminal.Slash ∷ terminal.Percent ∷ terminal.Plus ∷ terminal.Minus ∷ []

-- the binary signs
abbrev pub binary_signs : Terminals
binary_signs = sum_signs ++ terminal.ShiftLeft ∷ terminal.ShiftRight ∷ terminal.Less ∷ terminal.LessEqual ∷ terminal.Greater ∷ terminal.GreaterEqual ∷ terminal.EqualEqual
    ∷ terminal.NotEqual ∷ terminal.And ∷ terminal.Xor ∷ terminal.Or ∷ terminal.AndAnd ∷ terminal.OrOr ∷ []

-- after a word in an expression
abbrev pub word_tails : Terminals
word_tails = terminal.OpenBracket ∷ terminal.Open ∷ terminal.Dot ∷ []

abbrev pub after_sum : Terminals
after_sum = word_tails ++ sum_signs

abbrev pub after_expr : Terminals
after_expr = word_tails ++ binary_signs ++ terminal.Question ∷ []

-- whether an `else` could still be read as part of the statement
abbrev pub ends_step : Stat-F Bool → Bool
ends_step (layer.If p e s None) = true
ends_step (layer.If p e s (Some t)) = t
ends_step (layer.While p e s) = s
ends_step (layer.For p a e b s) = s
ends_step _ = false

unfoldable pub ends_open : Stat → Bool
ends_open = fold-Stat Bool ends_step

abbrev pub else_if : Bool → Terminals
else_if true = terminal.Else ∷ []
else_if false = []

abbrev pub after_stat : Stat → Terminals
after_stat s = else_if (ends_open s)

abbrev pub goes : (x : Name) → Value x → Terminals
goes expr_name e = after_expr
goes plain_name e = after_expr
goes unary_name e = word_tails
goes stat_name s = after_stat s
