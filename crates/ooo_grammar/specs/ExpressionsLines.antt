-- The lines of EBNF of expressions, written by hand, each beside the code that prints as it.
use Rattle.std.specs.Prelude.{◌≡◌, List, [], ◌∷◌}
use Rattle.ooo_syntax.specs.declared.terminal.Terminal.TheVariants as terminal
use Rattle.ooo_syntax.specs.declared.leaves.Word.{Word}
use Rattle.ooo_syntax.specs.declared.leaves.TypeName.{TypeName}
use Rattle.ooo_syntax.specs.declared.leaves.TypeForm.{TypeForm}
use Rattle.ooo_syntax.specs.declared.expr.Expr.{Expr}
use Rattle.ooo_syntax.specs.declared.symbol.Mark.{Mark}
use Rattle.ooo_syntax.specs.declared.leaves.TypeForm.TheVariants as form
use Rattle.ooo_grammar.specs.Sets.{Terminals}
use Rattle.ooo_grammar.specs.Names.{names, expr_name, plain_name, unary_name}
use Rattle.ooo_syntax.specs.declared.expr.BinaryOp.{BinaryOp}
use Rattle.ooo_grammar.specs.Combinators.{mark_of, sample, Table, terminals_of}
use Rattle.ooo_grammar.specs.Shapes.{Nothing, Token, Form, value_of, shape, t, line, one_of_these, opt, rep}
use Rattle.ooo_grammar.specs.Expressions.{after_open, after_short_type, after_unsigned_cast, after_word, arguments, binary_levels, bracketed, cast_to, chosen, conversion, conversion_first, index, long_cast, member_call, named, numeral, parenthesis, plain_unary, prefixed, truth, unary, sum_levels}
use Rattle.ooo_grammar.specs.Lexis.{literal, named_type, plain_type, word}

-- the binary signs by level, loosest first
abbrev pub binary_sets : List Terminals
binary_sets = (terminal.OrOr ∷ []) ∷ (terminal.AndAnd ∷ []) ∷ (terminal.Or ∷ []) ∷ (terminal.Xor ∷ []) ∷ (terminal.And ∷ []) ∷ (terminal.EqualEqual ∷ terminal.NotEqual ∷ [])
    ∷ (terminal.Less ∷ terminal.LessEqual ∷ terminal.Greater ∷ terminal.GreaterEqual ∷ []) ∷ (terminal.ShiftLeft ∷ terminal.ShiftRight ∷ [])
    ∷ (terminal.Plus ∷ terminal.Minus ∷ []) ∷ (terminal.Star ∷ terminal.Slash ∷ terminal.Percent ∷ []) ∷ []

abbrev pub sum_sets : List Terminals
sum_sets = (terminal.Plus ∷ terminal.Minus ∷ []) ∷ (terminal.Star ∷ terminal.Slash ∷ terminal.Percent ∷ []) ∷ []

abbrev pub sets_of : List (Table BinaryOp) → List Terminals
sets_of [] = []
sets_of (l ∷ ls) = terminals_of l ∷ sets_of ls

-- the levels are those of the signs
abbrev pub LevelsLine : Type 0
LevelsLine = (sets_of binary_levels ≡ binary_sets) × (sets_of sum_levels ≡ sum_sets)

abbrev pub IndexLine : Type 0
IndexLine = (w : Word) → shape (index w) ≡ line (t terminal.OpenBracket ∷ Form expr_name ∷ t terminal.CloseBracket ∷ [])

abbrev pub ArgumentsLine : Type 0
ArgumentsLine = shape arguments ≡ line (t terminal.Open ∷ opt (Form expr_name ∷ rep (t terminal.Comma ∷ Form expr_name ∷ []) ∷ []) ∷ t terminal.Close ∷ [])

abbrev pub MemberCallLine : Type 0
MemberCallLine = (w : Word) → shape (member_call w) ≡ line (t terminal.Dot ∷ Token (terminal.Word ∷ terminal.Bind ∷ []) ∷ t terminal.Open ∷ opt (Form expr_name ∷ []) ∷ t terminal.Close ∷ [])

abbrev pub AfterWordLine : Type 0
AfterWordLine = (w : Word) → shape (after_word w) ≡ one_of_these (shape (index w) ∷ shape arguments ∷ shape (member_call w) ∷ Nothing ∷ [])

abbrev pub NamedLine : Type 0
NamedLine = shape named ≡ line (Token names ∷ shape (after_word (value_of word)) ∷ [])

abbrev pub PrefixedLine : Type 0
PrefixedLine = shape prefixed ≡ one_of_these (line (t terminal.Not ∷ Form unary_name ∷ []) ∷ line (t terminal.Tilde ∷ Form unary_name ∷ []) ∷ line (t terminal.Minus ∷ Form unary_name ∷ []) ∷ line (t terminal.Plus ∷ Form unary_name ∷ []) ∷ [])

abbrev pub ConversionLine : Type 0
ConversionLine = shape conversion ≡ line (one_of_these (t terminal.Bool ∷ t terminal.Int ∷ t terminal.Unsigned ∷ []) ∷ t terminal.Open ∷ Form expr_name ∷ t terminal.Close ∷ [])

abbrev pub TruthLine : Type 0
TruthLine = shape truth ≡ one_of_these (t terminal.True ∷ t terminal.False ∷ [])

abbrev pub ChosenLine : Type 0
ChosenLine = (c : Expr) → shape (chosen c) ≡ opt (t terminal.Question ∷ Form expr_name ∷ t terminal.Colon ∷ Form expr_name ∷ [])

abbrev pub CastToLine : Type 0
CastToLine = (k : Mark) (n : TypeName) → shape (cast_to k n) ≡ line (t terminal.Close ∷ Form unary_name ∷ [])

abbrev pub AfterShortTypeLine : Type 0
AfterShortTypeLine = (k : Mark) (n : TypeName) → shape (after_short_type k n) ≡ one_of_these (shape (cast_to k n) ∷ shape (conversion_first k n) ∷ [])

abbrev pub LongCastLine : Type 0
LongCastLine = (k u : Mark) (a b : TypeForm) → shape (long_cast k u a b) ≡ line (t terminal.Long ∷ opt (t terminal.Int ∷ []) ∷ t terminal.Close ∷ Form unary_name ∷ [])

abbrev pub AfterUnsignedCastLine : Type 0
AfterUnsignedCastLine = (k u : Mark) → shape (after_unsigned_cast k u) ≡ one_of_these (line (t terminal.Int ∷ shape (cast_to k (named_type u form.UnsignedInt)) ∷ []) ∷ line (t terminal.Long ∷ shape (long_cast k u form.UnsignedLongLong form.UnsignedLongLongInt) ∷ []) ∷ shape (after_short_type k (named_type u form.Unsigned)) ∷ [])

abbrev pub ParenthesisLine : Type 0
ParenthesisLine = (k : Mark) → shape (parenthesis k) ≡ line (Form plain_name ∷ t terminal.Close ∷ [])

abbrev pub AfterOpenLine : Type 0
AfterOpenLine = (k : Mark) → shape (after_open k) ≡ one_of_these (line (one_of_these (t terminal.Bool ∷ t terminal.Int ∷ []) ∷ shape (after_short_type k (value_of plain_type)) ∷ []) ∷ line (t terminal.Unsigned ∷ shape (after_unsigned_cast k (mark_of (sample terminal.Unsigned))) ∷ []) ∷ line (t terminal.Long ∷ shape (long_cast k (mark_of (sample terminal.Long)) form.LongLong form.LongLongInt) ∷ []) ∷ shape (parenthesis k) ∷ [])

abbrev pub BracketedLine : Type 0
BracketedLine = shape bracketed ≡ line (t terminal.Open ∷ shape (after_open (mark_of (sample terminal.Open))) ∷ [])

abbrev pub PlainUnaryLine : Type 0
PlainUnaryLine = shape plain_unary ≡ one_of_these (shape prefixed ∷ shape bracketed ∷ shape numeral ∷ shape truth ∷ shape named ∷ [])

abbrev pub NumeralLine : Type 0
NumeralLine = shape numeral ≡ shape literal

abbrev pub UnaryLine : Type 0
UnaryLine = shape unary ≡ one_of_these (shape conversion ∷ shape plain_unary ∷ [])

-- each code is the line that stands beside it here
abbrev pub ExpressionsLines : Type 0
ExpressionsLines = LevelsLine × IndexLine × ArgumentsLine × MemberCallLine × AfterWordLine × NamedLine × PrefixedLine × ConversionLine × TruthLine × ChosenLine × CastToLine × AfterShortTypeLine × LongCastLine × AfterUnsignedCastLine × ParenthesisLine × AfterOpenLine × BracketedLine × PlainUnaryLine × NumeralLine × UnaryLine
