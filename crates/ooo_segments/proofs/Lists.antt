-- Lists: what is in one.
use Rattle.std.proofs.Common.{◌≡◌, ℕ, ◌<◌, List, [], ◌∷◌, length, get_or, refl, ap, sym, ◌∙◌, arith, Option, Some, None}
use Rattle.std.specs.Prelude.{Contains, IsSomeAnd, slice_get}
use Rattle.std.proofs.lemmas.Option.{slice_get-get_or}

-- the one element is in its list
pub in_one : {A : Type 0} (x : A) → Contains (x ∷ []) x
in_one x = (0, omega arith, refl)

-- what is there, and holds of it
pub some_and : {A : Type 0} (o : Option A) (P : A → Type 0) → IsSomeAnd o P → (x : A) × (o ≡ Some x) × P x
some_and None P h = absurd h
some_and (Some x) P h = (x, refl, h)

-- what an index reads is what a look-up gives
pub read_is : {A : Type 0} (xs ys : List A) (n : ℕ) (x : A) → xs ≡ ys → n < length ys → x ≡ get_or xs n x → slice_get ys n ≡ Some x
read_is xs ys n x e lt is = slice_get-get_or ys n x lt ∙ ap Some (sym (is ∙ ap (λ zs. get_or zs n x) e))
