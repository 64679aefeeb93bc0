-- The value of a number's bytes.
use Rattle.std.proofs.Common.{◌≡◌, ℕ, ◌≤◌, Bool, true, false, List, [], ◌∷◌, Some, Result, Ok, Err, refl, ap, sym, cond, subst, leb}
use Rattle.std.proofs.lemmas.Bool.{leb-true}
use Rattle.ooo_lexer.specs.declared.breach.LexBreach.{LexBreach}
use Rattle.ooo_lexer.specs.declared.numbers.Number.{Number}
use Rattle.ooo_lexer.specs.declared.numbers.NumberKind.{NumberKind}
use Rattle.ooo_lexer.specs.Numbers.{IsNumberOf, HasNoNumber, first_holding, greatest_of, kinds_of}
use Rattle.ooo_lexer.specs.Numerals.{number_of}
use Rattle.ooo_lexer.specs.Laws.{IsNumberFound}
use Rattle.ooo_parser.specs.Symbols.{value_of, value_or_zero, zero_value}

-- the first kind that holds a value holds it
holding : (ks : List NumberKind) (v : ℕ) (k : NumberKind) → first_holding ks v ≡ Some k → v ≤ greatest_of k
holding [] v k e = absurd cc
holding (l ∷ ks) v k e = at (leb v (greatest_of l)) refl e (holding ks v k)
  where
    at : (b : Bool) → leb v (greatest_of l) ≡ b → cond b (Some l) (first_holding ks v) ≡ Some k → (first_holding ks v ≡ Some k → v ≤ greatest_of k) → v ≤ greatest_of k
    at true t e others = let same : l ≡ k = cc in subst (λ k. v ≤ greatest_of k) same (leb-true v (greatest_of l) t)
    at false f e others = others e

pub number_held : (bs : List ℕ) (n : Number) → IsNumberOf bs n → n.value ≤ greatest_of n.kind
number_held bs n is = holding (kinds_of is.base is.suffix) n.value n.kind is.kind

pub number_valued : IsNumberFound → (bs : List ℕ) (n : Number) → IsNumberOf bs n → value_of n.kind n.value ≡ value_or_zero (number_of bs)
number_valued found bs n is = ap value_or_zero (sym ((found bs n).0 is))

pub no_number_valued : IsNumberFound → (bs : List ℕ) → HasNoNumber bs → zero_value ≡ value_or_zero (number_of bs)
no_number_valued found bs none = at (number_of bs) refl
  where
    at : (r : Result Number LexBreach) → number_of bs ≡ r → zero_value ≡ value_or_zero r
    at (Ok n) is = absurd (none n ((found bs n).1 is))
    at (Err e) is = refl
