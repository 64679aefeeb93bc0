-- Expressions.
use Rattle.std.specs.Prelude.{true, false, List, [], ◌∷◌, ◌++◌, refl}
use Rattle.ooo_syntax.specs.declared.terminal.Terminal.{Terminal}
use Rattle.ooo_syntax.specs.declared.terminal.Terminal.TheVariants as terminal
use Rattle.ooo_syntax.specs.declared.symbol.Mark.{Mark}
use Rattle.ooo_syntax.specs.declared.leaves.Word.{Word}
use Rattle.ooo_syntax.specs.declared.leaves.TypeForm.{TypeForm}
use Rattle.ooo_syntax.specs.declared.leaves.TypeForm.TheVariants as form
use Rattle.ooo_syntax.specs.declared.leaves.TypeName.{TypeName}
use Rattle.ooo_syntax.specs.declared.expr.BinaryOp.{BinaryOp}
use Rattle.ooo_syntax.specs.declared.expr.BinaryOp.TheVariants as op
use Rattle.ooo_syntax.specs.declared.expr.PrefixOp.{PrefixOp}
use Rattle.ooo_syntax.specs.declared.expr.PrefixOp.TheVariants as prefix
use Rattle.ooo_syntax.specs.declared.expr.Expr.{Expr}
use Rattle.ooo_syntax.specs.declared.expr.Expr.TheVariants as expr
use Rattle.ooo_grammar.specs.Sets.{Terminals, Row, same_self}
use Rattle.ooo_grammar.specs.Names.{expr_name, plain_name, unary_name, names, short_types, prefix_signs, begins_plain, begins_expr, word_tails, after_sum, after_expr}
use Rattle.ooo_grammar.specs.Codes.{Code, nothing, pair, choice, within, deeper, outermost, refer}
use Rattle.ooo_grammar.specs.Combinators.{none, always, quoted, Table, skip, led, ended, in_parens, in_brackets, to, optional, separated_inside, or_none, levels, or}
use Rattle.ooo_grammar.specs.Lexis.{word, member_word, literal, named_type, long_after, plain_type}

-- an expression that stands in brackets or after a sign: one level deeper
unfoldable pub inner : Code Expr begins_expr (always after_expr) false
inner = refer expr_name

-- the operand of a prefix or a cast
unfoldable pub operand : Code Expr begins_expr (always word_tails) false
operand = refer unary_name

-- ---- what begins with a word

-- "[" expr "]"
unfoldable pub index : Word → Code Expr (terminal.OpenBracket ∷ []) none false
index w = to (λ e. expr.Index w e) (in_brackets inner refl)

-- expr {"," expr}
unfoldable pub some_expressions : Code (List Expr) begins_expr (always (terminal.Comma ∷ after_expr)) false
some_expressions = separated_inside terminal.Comma inner refl

-- [expr {"," expr}]
unfoldable pub expressions : Code (List Expr) begins_expr (always (begins_expr ++ terminal.Comma ∷ after_expr)) true
expressions = to or_none (optional some_expressions)

-- "(" [expr {"," expr}] ")"
unfoldable pub arguments : Code (List Expr) (terminal.Open ∷ []) none false
arguments = in_parens expressions refl

-- "." word "(" [expr] ")"
unfoldable pub member_call : Word → Code Expr (terminal.Dot ∷ []) none false
member_call w = skip terminal.Dot (pair member_word (λ m. to (λ e. expr.Member w m e) (in_parens (optional inner) refl)) refl)

-- word | word "[" expr "]" | word "(" [expr {"," expr}] ")" | word "." word "(" [expr] ")", after the word
unfoldable pub after_word : Word → Code Expr word_tails (always word_tails) true
after_word w = within _ _ (choice (index w) (choice (to (λ es. expr.Call w es) arguments) (choice (member_call w) (nothing (expr.Name w)) refl) refl) refl) refl (λ _. refl)

unfoldable pub named : Code Expr names (always word_tails) false
named = pair word after_word refl

-- ---- numbers, prefixes and conversions

unfoldable pub numeral : Code Expr (terminal.Number ∷ []) none false
numeral = to (λ n. expr.Number n) literal

-- "true" | "false"
unfoldable pub truth : Code Expr (terminal.True ∷ terminal.False ∷ []) none false
truth = or (to (λ k. expr.Truth true k.position) (quoted terminal.True)) (to (λ k. expr.Truth false k.position) (quoted terminal.False)) refl

-- the sign's token and what it means, before an operand
unfoldable pub prefixed_by : PrefixOp → Mark → Code Expr begins_expr (always word_tails) false
prefixed_by p k = to (λ e. expr.Prefix k.position p e) operand

-- ("!" | "~" | "-" | "+") unary
unfoldable pub prefixed : Code Expr prefix_signs (always word_tails) false
prefixed = or (led terminal.Not (prefixed_by prefix.Not)) (or (led terminal.Tilde (prefixed_by prefix.Invert))
    (or (led terminal.Minus (prefixed_by prefix.Negate)) (led terminal.Plus (prefixed_by prefix.Keep)) refl) refl) refl

-- "(" expr ")", after a type: the tokens of the expression stand inside a bracket and a cast
unfoldable pub converted : TypeName → Code Expr (terminal.Open ∷ []) none false
converted t = to (λ e. expr.Conversion t e) (in_parens (deeper inner) refl)

-- a type of one word
unfoldable pub short_type : Code TypeName short_types none false
short_type = or (to (λ k. named_type k form.Bool) (quoted terminal.Bool)) (or (to (λ k. named_type k form.Int) (quoted terminal.Int)) (to (λ k. named_type k form.Unsigned) (quoted terminal.Unsigned)) refl) refl

-- type "(" expr ")"
unfoldable pub conversion : Code Expr short_types none false
conversion = pair short_type converted refl

-- ---- the binary levels, loosest first

abbrev pub row : {X : Type 0} → Terminal → X → Row X
row K x = record { terminal = K; value = x }

-- sum, which is `+` `-`, and `*` `/` `%`
abbrev pub sum_levels : List (Table BinaryOp)
sum_levels =
    record { first = row terminal.Plus op.Add; others = row terminal.Minus op.Subtract ∷ [] }
    ∷ record { first = row terminal.Star op.Multiply; others = row terminal.Slash op.Divide ∷ row terminal.Percent op.Remainder ∷ [] }
    ∷ []

abbrev pub binary_levels : List (Table BinaryOp)
binary_levels =
    record { first = row terminal.OrOr op.Either; others = [] }
    ∷ record { first = row terminal.AndAnd op.Both; others = [] }
    ∷ record { first = row terminal.Or op.Or; others = [] }
    ∷ record { first = row terminal.Xor op.Xor; others = [] }
    ∷ record { first = row terminal.And op.And; others = [] }
    ∷ record { first = row terminal.EqualEqual op.Equal; others = row terminal.NotEqual op.NotEqual ∷ [] }
    ∷ record { first = row terminal.Less op.Less; others = row terminal.LessEqual op.LessEqual ∷ row terminal.Greater op.Greater ∷ row terminal.GreaterEqual op.GreaterEqual ∷ [] }
    ∷ record { first = row terminal.ShiftLeft op.ShiftLeft; others = row terminal.ShiftRight op.ShiftRight ∷ [] }
    ∷ sum_levels

-- ["?" expr ":" expr], after the condition: what follows the `?` stands inside the conditional
unfoldable pub chosen : Expr → Code Expr (terminal.Question ∷ []) (always after_expr) true
chosen c = within _ _ (choice (skip terminal.Question (pair inner (λ a. pair (deeper (quoted terminal.Colon)) (λ _. to (λ b. expr.Choose c a b) inner) refl) refl)) (nothing c) refl) refl (λ _. refl)

-- expr = or ["?" expr ":" expr], whose first operand is c and whose others are d
unfoldable pub expression : {f f' : Terminals} → Code Expr f (always word_tails) false → Code Expr f' (always word_tails) false → Code Expr f (always after_expr) false
expression {f} c d = within f (always after_expr) (pair (levels false binary_levels c d refl) chosen refl) (same_self f) (λ _. refl)

-- ---- what `(` begins

-- ")" unary, after `(` and a type
unfoldable pub cast_to : Mark → TypeName → Code Expr (terminal.Close ∷ []) (always word_tails) false
cast_to k t = skip terminal.Close (to (λ e. expr.Cast k.position t e) operand)

-- an expression whose first operand is a conversion, after `(` and the conversion's type
unfoldable pub inside_expression : TypeName → Code Expr (terminal.Open ∷ []) (always after_expr) false
inside_expression t = within _ (always after_expr) (pair (levels {f = terminal.Open ∷ []} true binary_levels (within (terminal.Open ∷ []) (always word_tails) (deeper (converted t)) refl (λ _. refl)) operand refl) (λ c. deeper (chosen c)) refl) refl (λ _. refl)

-- the same and ")"
unfoldable pub conversion_first : Mark → TypeName → Code Expr (terminal.Open ∷ []) none false
conversion_first k t = to (λ e. expr.Paren k.position e) (ended terminal.Close (inside_expression t) refl)

-- a cast, or an expression in parentheses that begins with a conversion, after `(` and a type of one word
unfoldable pub after_short_type : Mark → TypeName → Code Expr (terminal.Close ∷ terminal.Open ∷ []) (always word_tails) false
after_short_type k t = within _ _ (choice (cast_to k t) (conversion_first k t) refl) refl (λ _. refl)

-- "long" ["int"] ")" unary, after `(` and the words up to the first `long`, of which u is the first
unfoldable pub long_cast : Mark → Mark → TypeForm → TypeForm → Code Expr (terminal.Long ∷ []) (always word_tails) false
long_cast k u bare full = pair (deeper (long_after bare full)) (λ f. cast_to k (named_type u f)) refl

-- after `(` and `unsigned`
unfoldable pub after_unsigned_cast : Mark → Mark → Code Expr (terminal.Close ∷ terminal.Open ∷ terminal.Int ∷ terminal.Long ∷ []) (always word_tails) false
after_unsigned_cast k u = within _ _
    (choice (pair (deeper (quoted terminal.Int)) (λ _. cast_to k (named_type u form.UnsignedInt)) refl)
    (choice (pair (deeper (quoted terminal.Long)) (λ _. long_cast k u form.UnsignedLongLong form.UnsignedLongLongInt) refl) (after_short_type k (named_type u form.Unsigned)) refl) refl) refl (λ _. refl)

abbrev pub begins_expr_or_long : Terminals
begins_expr_or_long = terminal.Long ∷ begins_expr

-- an expression that doesn't begin with a type, one level deeper
unfoldable pub inner_plain : Code Expr begins_plain (always after_expr) false
inner_plain = refer plain_name

-- expr ")", after `(`, where the expression doesn't begin with a type
unfoldable pub parenthesis : Mark → Code Expr begins_plain none false
parenthesis k = to (λ e. expr.Paren k.position e) (ended terminal.Close inner_plain refl)

-- after `(`
unfoldable pub after_open : Mark → Code Expr begins_expr_or_long (always word_tails) false
after_open k = within _ _ (choice (pair (deeper plain_type) (after_short_type k) refl)
    (choice (pair (deeper (quoted terminal.Unsigned)) (after_unsigned_cast k) refl)
    (choice (pair (deeper (quoted terminal.Long)) (λ u. long_cast k u form.LongLong form.LongLongInt) refl) (parenthesis k) refl) refl) refl) refl (λ _. refl)

unfoldable pub bracketed : Code Expr (terminal.Open ∷ []) (always word_tails) false
bracketed = led terminal.Open after_open

-- ---- operands and expressions

unfoldable pub plain_unary : Code Expr begins_plain (always word_tails) false
plain_unary = within _ _ (choice prefixed (choice bracketed (choice numeral (choice truth named refl) refl) refl) refl) refl (λ _. refl)

unfoldable pub unary : Code Expr begins_expr (always word_tails) false
unary = within _ _ (choice conversion plain_unary refl) refl (λ _. refl)

unfoldable pub plain_expression : Code Expr begins_plain (always after_expr) false
plain_expression = expression plain_unary unary

-- expr
unfoldable pub whole_expression : Code Expr begins_expr (always after_expr) false
whole_expression = expression unary unary

-- an expression that is part of no other: its operators are counted
unfoldable pub value : Code Expr begins_expr (always after_expr) false
value = outermost whole_expression

-- the same, one level deeper
unfoldable pub inner_value : Code Expr begins_expr (always after_expr) false
inner_value = outermost inner

-- the level `sum`, which is the outermost one of its operators
unfoldable pub counted_sum : Code Expr begins_expr (always after_sum) false
counted_sum = within _ _ (levels false sum_levels unary unary refl) refl (λ _. refl)

unfoldable pub sum : Code Expr begins_expr (always after_sum) false
sum = outermost counted_sum
