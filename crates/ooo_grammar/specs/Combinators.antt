-- Words to write a grammar in: each is put together from codes.
use Rattle.std.specs.Prelude.{◌≡◌, pos, Bool, true, false, ◌&&◌, List, [], ◌∷◌, ◌++◌, Option, Some, None, refl}
use Rattle.std.proofs.Common.{ap}
use Rattle.std.proofs.lemmas.Bool.{and_parts}
use Rattle.ooo_syntax.specs.declared.terminal.Terminal.{Terminal}
use Rattle.ooo_syntax.specs.declared.terminal.Terminal.TheVariants as terminal
use Rattle.ooo_syntax.specs.declared.symbol.Mark.{Mark}
use Rattle.ooo_syntax.specs.declared.symbol.Symbol.{Symbol}
use Rattle.ooo_lexer.specs.declared.position.Position.{Position}
use Rattle.ooo_syntax.specs.declared.expr.Expr.{Expr}
use Rattle.ooo_syntax.specs.declared.expr.Expr.TheVariants as expr
use Rattle.ooo_syntax.specs.declared.expr.BinaryOp.{BinaryOp}
use Rattle.ooo_value.specs.declared.values.Value.TheVariants as value
use Rattle.ooo_grammar.specs.Sets.{Terminals, disjoint, subset, join, anywhere, of, of_terminals, some_if, Row, table_test, table_terminals, table_of, first_row, has_first, subset_self, same_self, subset_left, subset_right, subset_level, subset_twice}
use Rattle.ooo_grammar.specs.Codes.{Code, after_maybe, nothing, token_of, pair, choice, maybe, many, mapped, within, deeper}

-- nothing may go on
abbrev pub none : {A : Type 0} → A → Terminals
none a = []

-- the same may go on after every value
abbrev pub always : {A : Type 0} → Terminals → A → Terminals
always g a = g

abbrev pub start : Position
start = record { line = 1; column = 1 }

-- a token of this terminal, for samples
abbrev pub sample : Terminal → Symbol
sample K = record { terminal = K; text = record { ref_ptr = (0, 0); now = [] }; value = value.Int (pos 0); counts = false; before = 0; position = start; first = start }

-- K | …, as what a symbol says wherever its bytes stand in memory
abbrev pub one_as : {X : Type 0} (h : Symbol → X) (K : Terminal) (Ks : Terminals) → ((k : Symbol) → h (anywhere k) ≡ h k) → Code X (K ∷ Ks) none false
one_as h K Ks i = token_of (of h (K ∷ Ks)) (K ∷ Ks) (of_terminals h (K ∷ Ks) i) (sample K) (h (sample K)) (ap (λ b. some_if b (h (sample K))) (has_first K Ks))

-- where it stands
abbrev pub mark_of : Symbol → Mark
mark_of k = record { position = k.position }

-- K | …
abbrev pub one_of : (K : Terminal) (Ks : Terminals) → Code Mark (K ∷ Ks) none false
one_of K Ks = one_as mark_of K Ks (λ _. refl)

-- "K"
abbrev pub quoted : (K : Terminal) → Code Mark (K ∷ []) none false
quoted K = one_of K []

-- one of these terminals, as a value
pub record Table (X : Type 0) : Type 0 where
  pub first : Row X
  pub others : List (Row X)

abbrev pub rows : {X : Type 0} → Table X → List (Row X)
rows t = t.first ∷ t.others

abbrev pub terminals_of : {X : Type 0} → Table X → Terminals
terminals_of t = t.first.terminal ∷ table_terminals t.others

abbrev pub table : {X : Type 0} (t : Table X) → Code X (terminals_of t) none false
table t = token_of (table_test (rows t)) (terminals_of t) (table_of (rows t)) (sample t.first.terminal) t.first.value (first_row t.first t.others)

-- "K" c
abbrev pub skip : {A : Type 0} {f : Terminals} {g : A → Terminals} {e : Bool} (K : Terminal) → Code A f g e → Code A (K ∷ []) (λ a. join e [] (g a)) false
skip K c = pair (quoted K) (λ _. c) refl

-- "K" c, where c may name the token
abbrev pub led : {A : Type 0} {f : Terminals} {g : A → Terminals} {e : Bool} (K : Terminal) → (Mark → Code A f g e) → Code A (K ∷ []) (λ a. join e [] (g a)) false
led K c = pair (quoted K) c refl

-- "K" c, where c stands in a bracket that is open already, and so does "K"
abbrev pub skip_inside : {A : Type 0} {f : Terminals} {g : A → Terminals} {e : Bool} (K : Terminal) → Code A f g e → Code A (K ∷ []) (λ a. join e [] (g a)) false
skip_inside K c = pair (deeper (quoted K)) (λ _. c) refl

-- c "K"
abbrev pub ended : {A : Type 0} {f g : Terminals} {e : Bool} (K : Terminal) → Code A f (always g) e → disjoint g (K ∷ []) ≡ true → Code A (join e (K ∷ []) f) none false
ended {e = true} K c far = pair c (λ a. pair (quoted K) (λ _. nothing a) refl) far
ended {e = false} K c far = pair c (λ a. pair (quoted K) (λ _. nothing a) refl) far

-- "(" c ")", "{" c "}", "[" c "]"; what stands between is written one level deeper by the caller
abbrev pub in_parens : {A : Type 0} {f g : Terminals} {e : Bool} → Code A f (always g) e → disjoint g (terminal.Close ∷ []) ≡ true → Code A (terminal.Open ∷ []) none false
in_parens c far = skip terminal.Open (ended terminal.Close c far)

abbrev pub in_braces : {A : Type 0} {f g : Terminals} {e : Bool} → Code A f (always g) e → disjoint g (terminal.CloseBrace ∷ []) ≡ true → Code A (terminal.OpenBrace ∷ []) none false
in_braces c far = skip terminal.OpenBrace (ended terminal.CloseBrace c far)

abbrev pub in_brackets : {A : Type 0} {f g : Terminals} {e : Bool} → Code A f (always g) e → disjoint g (terminal.CloseBracket ∷ []) ≡ true → Code A (terminal.OpenBracket ∷ []) none false
in_brackets c far = skip terminal.OpenBracket (ended terminal.CloseBracket c far)

-- h (c)
abbrev pub to : {A B : Type 0} {f g : Terminals} {e : Bool} (h : A → B) → Code A f (always g) e → Code B f (always g) e
to {g = g} h c = mapped (always g) h c (λ _. subset_self g)

-- [c]
abbrev pub optional : {A : Type 0} {f g : Terminals} → Code A f (always g) false → Code (Option A) f (always (f ++ g)) true
optional {A} {f} {g} c = within f (always (f ++ g)) (maybe c) (same_self f) at
  where
    at : (o : Option A) → subset (after_maybe f (always g) o) (f ++ g) ≡ true
    at None = subset_left f g
    at (Some a) = subset_right f g

-- c {"K" c}
abbrev pub separated : {A : Type 0} {f g : Terminals} (K : Terminal) → Code A f (always g) false → disjoint g (K ∷ []) ≡ true → Code (List A) f (always (K ∷ g)) false
separated {A} {f} {g} K c far =
    within f (always (K ∷ g)) (pair c (λ a. many (λ xs. skip K (mapped (always g) (λ b. xs ++ b ∷ []) c (λ _. subset_self g))) far (a ∷ [])) far) (same_self f) (λ _. subset_level (K ∷ []) g)

-- c {"K" c}, where c is written one level deeper already
abbrev pub separated_inside : {A : Type 0} {f g : Terminals} (K : Terminal) → Code A f (always g) false → disjoint g (K ∷ []) ≡ true → Code (List A) f (always (K ∷ g)) false
separated_inside {A} {f} {g} K c far =
    within f (always (K ∷ g)) (pair c (λ a. many (λ xs. skip_inside K (mapped (always g) (λ b. xs ++ b ∷ []) c (λ _. subset_self g))) far (a ∷ [])) far) (same_self f) (λ _. subset_level (K ∷ []) g)

abbrev pub or_none : {A : Type 0} → Option (List A) → List A
or_none None = []
or_none (Some xs) = xs

-- [c {"K" c}]
abbrev pub listed : {A : Type 0} {f g : Terminals} (K : Terminal) → Code A f (always g) false → disjoint g (K ∷ []) ≡ true → Code (List A) f (always (f ++ K ∷ g)) true
listed K c far = to or_none (optional (separated K c far))

-- {c}
abbrev pub repeated : {A : Type 0} {f g : Terminals} → Code A f (always g) false → disjoint g f ≡ true → Code (List A) f (always (f ++ g)) true
repeated {g = g} c far = many (λ xs. mapped (always g) (λ b. xs ++ b ∷ []) c (λ _. subset_self g)) far []

-- {c}, where each c gives a list: these lists in a row
abbrev pub gathered : {A : Type 0} {f g : Terminals} → Code (List A) f (always g) false → disjoint g f ≡ true → Code (List A) f (always (f ++ g)) true
gathered {g = g} c far = many (λ xs. mapped (always g) (λ ys. xs ++ ys) c (λ _. subset_self g)) far []

-- ---- binary levels, grouped from the left

-- c {op d}, for the operators of one level
abbrev pub binary : {f f' ops g : Terminals} → Code BinaryOp ops none false → Code Expr f (always g) false → Code Expr f' (always g) false → disjoint g ops ≡ true → Code Expr f (always (ops ++ g)) false
binary {f} {f'} {ops} {g} op c d far =
    within f (always (ops ++ g)) (pair c (λ a. many (λ a. pair op (λ o. mapped (always g) (λ b. expr.Binary o a b) d (λ _. subset_self g)) refl) far a) far) (same_self f) (λ _. subset_level ops g)

-- the operators of these levels, loosest first, and what may go on with an operand
abbrev pub signs_of : List (Table BinaryOp) → Terminals → Terminals
signs_of [] g = g
signs_of (l ∷ ls) g = terminals_of l ++ signs_of ls g

abbrev pub are_apart : List (Table BinaryOp) → Terminals → Bool
are_apart [] g = true
are_apart (l ∷ ls) g = disjoint (signs_of ls g) (terminals_of l) && are_apart ls g

abbrev pub op_of : (inside : Bool) (l : Table BinaryOp) → Code BinaryOp (terminals_of l) none false
op_of true l = deeper (table l)
op_of false l = table l

-- all levels over a first operand c and the other operands d; inside a bracket that is open already the operators stand one level deeper
abbrev pub levels : {f f' g : Terminals} (inside : Bool) (ls : List (Table BinaryOp)) → Code Expr f (always g) false → Code Expr f' (always g) false → are_apart ls g ≡ true → Code Expr f (always (signs_of ls g)) false
levels inside [] c d h = c
levels {g = g} inside (l ∷ ls) c d h =
    let b = and_parts (disjoint (signs_of ls g) (terminals_of l)) (are_apart ls g) h in
    binary (op_of inside l) (levels inside ls c d b.1) (levels inside ls d d b.1) b.0

-- c | d, where the same may go on after both
abbrev pub or : {A : Type 0} {f1 f2 : Terminals} {g : A → Terminals} → Code A f1 g false → Code A f2 g false → disjoint f1 f2 ≡ true → Code A (f1 ++ f2) g false
or {f1 = f1} {f2 = f2} {g = g} c d far = within (f1 ++ f2) g (choice c d far) (same_self (f1 ++ f2)) (λ a. subset_twice (g a))

-- c, where more may go on than does after c, with which nothing goes on
abbrev pub loosely : {A : Type 0} {f : Terminals} (g : A → Terminals) → Code A f none false → Code A f g false
loosely {f = f} g c = within f g c (same_self f) (λ _. refl)
