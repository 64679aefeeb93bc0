-- A code printed as a line of EBNF.
use Rattle.std.specs.Prelude.{Bool, List, [], ◌∷◌, None}
use Rattle.ooo_syntax.specs.declared.terminal.Terminal.{Terminal}
use Rattle.ooo_syntax.specs.declared.terminal.Terminal.TheVariants as terminal
use Rattle.ooo_syntax.specs.declared.expr.Expr.TheVariants as expr
use Rattle.ooo_syntax.specs.declared.stat.Stat.TheVariants as stat_form
use Rattle.ooo_grammar.specs.Sets.{Terminals}
use Rattle.ooo_grammar.specs.Names.{Name, expr_name, plain_name, unary_name, stat_name, Value}
use Rattle.ooo_grammar.specs.Codes.{Code, nothing, token_of, pair, link, choice, maybe, many, mapped, within, deeper, outermost, refer}
use Rattle.ooo_grammar.specs.Combinators.{sample, start}
use Rattle.ooo_grammar.specs.Lexis.{number_of}

-- one of these terminals, a form by its name, one part and then another, alternatives, a part that may be left out, and one that may be repeated
pub data Shape : Type 0 where
  Nothing : Shape
  Token : Terminals → Shape
  Form : Name → Shape
  Seq Or : Shape → Shape → Shape
  Maybe Many : Shape → Shape

-- one part and then another, grouped to the right
abbrev pub seq : Shape → Shape → Shape
seq Nothing s = s
seq (Token ks) Nothing = Token ks
seq (Token ks) s = Seq (Token ks) s
seq (Form x) Nothing = Form x
seq (Form x) s = Seq (Form x) s
seq (Or a b) Nothing = Or a b
seq (Or a b) s = Seq (Or a b) s
seq (Maybe a) Nothing = Maybe a
seq (Maybe a) s = Seq (Maybe a) s
seq (Many a) Nothing = Many a
seq (Many a) s = Seq (Many a) s
seq (Seq a b) s = Seq a (seq b s)

-- alternatives, of which nothing leaves the other one out
abbrev pub either : Shape → Shape → Shape
either a Nothing = Maybe a
either a s = Or a s

abbrev pub some_value : (x : Name) → Value x
some_value expr_name = expr.Number (number_of (sample terminal.Number))
some_value plain_name = expr.Number (number_of (sample terminal.Number))
some_value unary_name = expr.Number (number_of (sample terminal.Number))
some_value stat_name = stat_form.Empty start

-- a value of the form
abbrev pub value_of : {A : Type 0} {f : Terminals} {g : A → Terminals} {e : Bool} → Code A f g e → A
value_of (nothing a) = a
value_of (token_of test ms of k x is) = x
value_of (pair c d far) = value_of (d (value_of c))
value_of (link c d far) = (value_of c, value_of (d (value_of c)))
value_of (choice c d far) = value_of c
value_of (maybe c) = None
value_of (many c far a) = a
value_of (mapped g' h c i) = h (value_of c)
value_of (within f' g' c h i) = value_of c
value_of (deeper c) = value_of c
value_of (outermost c) = value_of c
value_of (refer x) = some_value x

abbrev pub shape : {A : Type 0} {f : Terminals} {g : A → Terminals} {e : Bool} → Code A f g e → Shape
shape (nothing a) = Nothing
shape (token_of test ms of k x is) = Token ms
shape (pair c d far) = seq (shape c) (shape (d (value_of c)))
shape (link c d far) = seq (shape c) (shape (d (value_of c)))
shape (choice c d far) = either (shape c) (shape d)
shape (maybe c) = Maybe (shape c)
shape (many c far a) = Many (shape (c a))
shape (mapped g' h c i) = shape c
shape (within f' g' c h i) = shape c
shape (deeper c) = shape c
shape (outermost c) = shape c
shape (refer x) = Form x

-- ---- words to write a line in

-- "K"
abbrev pub t : Terminal → Shape
t k = Token (k ∷ [])

-- parts in a row
abbrev pub line : List Shape → Shape
line [] = Nothing
line (s ∷ []) = s
line (s ∷ ss) = seq s (line ss)

-- a | b | …
abbrev pub one_of_these : List Shape → Shape
one_of_these [] = Nothing
one_of_these (s ∷ []) = s
one_of_these (s ∷ ss) = either s (one_of_these ss)

-- [ … ], { … }
abbrev pub opt : List Shape → Shape
opt ss = Maybe (line ss)

abbrev pub rep : List Shape → Shape
rep ss = Many (line ss)

-- s {op o} on each of these levels, loosest first, where s is the first operand and o each other one
abbrev pub levels_of : Shape → Shape → List Terminals → Shape
levels_of s o [] = s
levels_of s o (ops ∷ ls) = seq (levels_of s o ls) (Many (seq (Token ops) (levels_of o o ls)))
