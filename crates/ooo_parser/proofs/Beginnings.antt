-- What follows a beginning that leaves no pair open changes none of its symbols.
use Rattle.std.proofs.Common.{◌≡◌, ℕ, ◌+◌, Bool, true, false, not, ◌||◌, ◌&&◌, List, [], ◌∷◌, ◌++◌, Option, Some, None, refl, sym, ap, ◌∙◌, append_assoc, arith}
use Rattle.ooo_syntax.specs.declared.symbol.Symbol.{Symbol}
use Rattle.ooo_parser.specs.Classes.{is_library, is_scope, is_type_word, counts}
use Rattle.ooo_parser.specs.Symbols.{is_pair, begins_pair, with_pair, behind, joined, one_if, numbered}
use Rattle.ooo_parser.specs.SymbolLaws.{is_closed, ends_in_type, count_of, BeginningsStay}
use Rattle.ooo_parser.proofs.Joins.{joined_pair, joined_other}

-- a last symbol of a closed list begins no pair
no_pair : (k : Symbol) (ys : List Symbol) → is_closed (k ∷ []) ≡ true → begins_pair k ys ≡ false
no_pair k [] e = refl
no_pair k (l ∷ ls) e = at (is_library k.terminal) (is_scope k.terminal) (is_scope l.terminal) e
  where
    at : (a b c : Bool) → not (a || b) ≡ true → (a && c) ≡ false
    at true b c e = absurd cc
    at false b c e = refl

-- no list ends in a pair and is closed
not_scope : (k l : Symbol) → is_pair k l ≡ true → is_closed (l ∷ []) ≡ true → ⊥
not_scope k l p e = at (is_library k.terminal) (is_library l.terminal) (is_scope l.terminal) p e
  where
    at : (a b c : Bool) → (a && c) ≡ true → not (b || c) ≡ true → ⊥
    at true true true p e = cc
    at true false true p e = cc
    at true b false p e = cc
    at false b c p e = cc

by_pair : (k l : Symbol) (a b : List Symbol) → (is_pair k l ≡ true → a ≡ b) → (is_pair k l ≡ false → a ≡ b) → a ≡ b
by_pair k l a b f g = at (is_pair k l) f g
  where
    at : (t : Bool) → (t ≡ true → a ≡ b) → (t ≡ false → a ≡ b) → a ≡ b
    at true f g = f refl
    at false f g = g refl

-- single symbols, of which there is one, or no pair stands before them
begun : (p : Option Symbol) (k : Symbol) (xs ys : List Symbol) → is_closed (k ∷ xs) ≡ true → joined p (k ∷ (xs ++ ys)) ≡ joined p (k ∷ xs) ++ joined None ys
begun p k [] ys e = joined_other p k ys (no_pair k ys e)
begun p k (l ∷ []) ys e = by_pair k l _ _
    (λ pair. absurd (not_scope k l pair e))
    (λ none. joined_other p k (l ∷ ys) none ∙ ap (λ ks. behind p k ++ ks) (begun None l [] ys e) ∙ sym (append_assoc (behind p k) (joined None (l ∷ [])) (joined None ys)) ∙ ap (λ ks. ks ++ joined None ys) (sym (joined_other p k (l ∷ []) none)))
begun p k (l ∷ m ∷ xs) ys e = by_pair k l _ _
    (λ pair. joined_pair p k l (m ∷ (xs ++ ys)) pair ∙ begun (Some (with_pair p k l)) m xs ys e ∙ ap (λ ks. ks ++ joined None ys) (sym (joined_pair p k l (m ∷ xs) pair)))
    (λ none. joined_other p k (l ∷ m ∷ (xs ++ ys)) none ∙ ap (λ ks. behind p k ++ ks) (begun None l (m ∷ xs) ys e) ∙ sym (append_assoc (behind p k) (joined None (l ∷ m ∷ xs)) (joined None ys))
    ∙ ap (λ ks. ks ++ joined None ys) (sym (joined_other p k (l ∷ m ∷ xs) none)))

joined_begun : (xs ys : List Symbol) → is_closed xs ≡ true → joined None (xs ++ ys) ≡ joined None xs ++ joined None ys
joined_begun [] ys e = refl
joined_begun (k ∷ xs) ys e = begun None k xs ys e

numbered_begun : (t : Bool) (n : ℕ) (xs ys : List Symbol) → numbered t n (xs ++ ys) ≡ numbered t n xs ++ numbered (ends_in_type t xs) (n + count_of t xs) ys
numbered_begun t n [] ys = ap (λ n. numbered t n ys) (omega arith)
numbered_begun t n (k ∷ xs) ys =
    ap (λ ks. record k { counts = counts t k.terminal; before = n } ∷ ks)
    (numbered_begun (is_type_word k.terminal) (n + one_if (counts t k.terminal)) xs ys
    ∙ ap (λ m. numbered (is_type_word k.terminal) (n + one_if (counts t k.terminal)) xs ++ numbered (ends_in_type (is_type_word k.terminal) xs) m ys) (omega arith))

pub beginnings_stay : BeginningsStay
beginnings_stay xs ys e = ap (numbered false 0) (joined_begun xs ys e) ∙ numbered_begun false 0 (joined None xs) (joined None ys)
    ∙ ap (λ n. numbered false 0 (joined None xs) ++ numbered (ends_in_type false (joined None xs)) n (joined None ys)) (omega arith)
