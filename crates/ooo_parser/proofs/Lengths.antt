-- How many symbols there are: no more than tokens, and no more tokens than bytes.
use Rattle.std.proofs.Common.{◌≤◌, ◌+◌, ℕ, suc, Bool, true, false, cond, List, [], ◌∷◌, ◌++◌, Option, Some, None, All, length, length-append, arith}
use Rattle.std.specs.Option.{is_some}
use Rattle.std.proofs.lemmas.List.Elements.{All-head, All-tail}
use Rattle.ooo_lexer.specs.declared.token.Token.{Token}
use Rattle.ooo_lexer.specs.Spans.{IsWithin, AreInOrder}
use Rattle.ooo_syntax.specs.declared.symbol.Symbol.{Symbol}
use Rattle.ooo_parser.specs.Classes.{is_word}
use Rattle.ooo_parser.specs.Symbols.{is_pair, with_pair, behind, joined, one_if}

choice_length : (b : Bool) (xs ys : List Symbol) (n : ℕ) → length xs ≤ n → length ys ≤ n → length (cond b xs ys) ≤ n
choice_length true xs ys n f g = f
choice_length false xs ys n f g = g

behind_length : (p : Option Symbol) (k : Symbol) → length (behind p k) ≤ one_if (is_some p) + 1
behind_length None k = omega arith
behind_length (Some p) k = choice_length (is_word k.terminal) _ _ 2 (omega arith) (omega arith)

joined_length : (p : Option Symbol) (ks : List Symbol) → length (joined p ks) ≤ one_if (is_some p) + length ks
joined_length None [] = omega arith
joined_length (Some p) [] = omega arith
joined_length p (k ∷ []) = behind_length p k
joined_length p (k ∷ l ∷ ks) = choice_length (is_pair k l) (joined (Some (with_pair p k l)) ks) (behind p k ++ joined None (l ∷ ks)) _
    (omega (arith, joined_length (Some (with_pair p k l)) ks))
    (omega (arith, behind_length p k, joined_length None (l ∷ ks), length-append (behind p k) (joined None (l ∷ ks))))

pub joined_few : (ks : List Symbol) → length (joined None ks) ≤ length ks
joined_few ks = omega (arith, joined_length None ks)

-- tokens that begin behind so many bytes of a source
from_here : (source : List ℕ) (n : ℕ) (tokens : List Token) → n ≤ length source → All (λ t. n ≤ t.start) tokens → All (IsWithin source) tokens → AreInOrder tokens → n + length tokens ≤ length source
from_here source n [] h at within in_order = omega arith
from_here source n (t ∷ ts) h at within in_order =
    let first = All-head (λ u. n ≤ u.start) t ts at in
    let span = All-head (IsWithin source) t ts within in
    let others : t.end + length ts ≤ length source = from_here source t.end ts span.1 (λ k d l. in_order 0 (suc k) d (omega arith) (omega arith)) (All-tail (IsWithin source) t ts within) (λ i j d l m. in_order (suc i) (suc j) d (omega arith) (omega arith)) in
    omega (arith, first, span.0, others)

pub few_tokens : (source : List ℕ) (tokens : List Token) → All (IsWithin source) tokens → AreInOrder tokens → length tokens ≤ length source
few_tokens source tokens within in_order = omega (arith, from_here source 0 tokens (omega arith) (λ k d h. omega arith) within in_order)
