-- The least of some stamps.
use Rattle.std.proofs.Common.{◌≡◌, ℕ, zero, suc, Bool, true, false, ◌||◌, cond, arith, List, [], ◌∷◌, Option, Some, None, refl, sym, subst, ap, ◌∙◌, get_or, map, ⊎_elim, eqb-true, eq-eqb}
use Rattle.std.proofs.lemmas.Bool.{and_parts, and_from, or_cases, or_left, or_right}
use Rattle.std.specs.List.{list_any}
use Rattle.ooo_time.specs.declared.stamp.Stamp.{Stamp}
use Rattle.ooo_time.specs.Stamps.{IsBefore, is_before}
use Rattle.ooo_plain.proofs.Order.{Earlier, earlier, not_earlier, earlier_or_not, IsBefore-irrefl, IsBefore-trans, not_before-trans, stamps_same}
use Rattle.ooo_meaning.specs.World.{is_at, sooner, least}
use Rattle.ooo_plain.proofs.Slots.{Later}

-- a stamp, if any, isn't before this one
abbrev pub From : Stamp → Option Stamp → Type 0
From s None = Unit {0}
From s (Some t) = ¬ IsBefore t s

pub bool_same : (a b : Bool) → (a ≡ true → b ≡ true) → (b ≡ true → a ≡ true) → a ≡ b
bool_same true b h k = sym (h refl)
bool_same false true h k = k refl
bool_same false false h k = refl

pub neither : (a b : Stamp) → ¬ IsBefore b a → ¬ IsBefore a b → a ≡ b
neither a b k l = stamps_same a b (grind arith) (grind arith)

pub at_same : (s : Stamp) → is_at s (Some s) ≡ true
at_same s = and_from _ _ (eq-eqb s.time.0 s.time.0 refl) (eq-eqb s.delta s.delta refl)

pub at_is : (s : Stamp) (o : Option Stamp) → is_at s o ≡ true → o ≡ Some s
at_is s None e = absurd cc
at_is s (Some t) e = let p = and_parts _ _ e in ap Some (sym (stamps_same s t (eqb-true _ _ p.0) (eqb-true _ _ p.1)))

pub at_later : (s : Stamp) (o : Option Stamp) → From s o → is_at s o ≡ false → Later s o
at_later s None h e = tt
at_later s (Some t) h e = go (earlier_or_not s t) where
  go : {b : Bool} → Earlier s t b → IsBefore s t
  go (earlier k) = k
  go (not_earlier k) = absurd (let f : s ≡ t = neither s t h k in let g : is_at s (Some t) ≡ true = subst (λ x. is_at s (Some x) ≡ true) f (at_same s) in cc)

pub later_from : (s : Stamp) (o : Option Stamp) → Later s o → From s o
later_from s None h = tt
later_from s (Some t) h = λ k. IsBefore-irrefl s (IsBefore-trans s t s h k)

pub from_earlier : (s t : Stamp) (o : Option Stamp) → ¬ IsBefore t s → From t o → From s o
from_earlier s t None h k = tt
from_earlier s t (Some u) h k = not_before-trans s t u h k

pub from_sooner : (s : Stamp) (a b : Option Stamp) → From s a → From s b → From s (sooner a b)
from_sooner s None b h k = k
from_sooner s (Some a) None h k = h
from_sooner s (Some a) (Some b) h k = go (is_before b a) where
  go : (x : Bool) → From s (cond x (Some b) (Some a))
  go true = k
  go false = h

pub sooner_from : (s : Stamp) (a b : Option Stamp) → From s (sooner a b) → From s a × From s b
sooner_from s None b h = (tt, h)
sooner_from s (Some a) None h = (h, tt)
sooner_from s (Some a) (Some b) h = go (earlier_or_not b a) h where
  go : {x : Bool} → Earlier b a x → From s (cond x (Some b) (Some a)) → From s (Some a) × From s (Some b)
  go (earlier lt) k = ((λ l. k (IsBefore-trans b a s lt l)), k)
  go (not_earlier le) k = (k, not_before-trans s a b k le)

pub at_sooner : (s : Stamp) (a b : Option Stamp) → From s a → From s b → is_at s (sooner a b) ≡ (is_at s a || is_at s b)
at_sooner s None b h k = refl
at_sooner s (Some a) None h k = or_false (is_at s (Some a)) where
  or_false : (x : Bool) → x ≡ (x || false)
  or_false true = refl
  or_false false = refl
at_sooner s (Some a) (Some b) h k = go (earlier_or_not b a) where
  go : {x : Bool} → Earlier b a x → is_at s (cond x (Some b) (Some a)) ≡ (is_at s (Some a) || is_at s (Some b))
  go (earlier lt) = bool_same _ _ (λ e. or_right (is_at s (Some a)) _ e) (λ e. ⊎_elim (λ f. absurd (let i : Some a ≡ Some s = at_is s (Some a) f in let g : a ≡ s = cc in k (subst (λ x. IsBefore b x) g lt))) (λ f. f) (or_cases _ _ e))
  go (not_earlier le) = bool_same _ _ (λ e. or_left _ (is_at s (Some b)) e) (λ e. ⊎_elim (λ f. f) (λ f. let g : b ≡ s = cc (at_is s (Some b) f) in let l : a ≡ s = neither a s (subst (λ x. ¬ IsBefore x a) g le) h in subst (λ x. is_at s (Some x) ≡ true) (sym l) (at_same s)) (or_cases _ _ e))

module _ {A : Type 0} (f : A → Option Stamp) (s : Stamp) where
  pub from_least : (xs : List A) (d : A) → ((i : ℕ) → From s (f (get_or xs i d))) → From s (least (map f xs))
  from_least [] d h = tt
  from_least (x ∷ xs) d h = from_sooner s (f x) (least (map f xs)) (h 0) (from_least xs d (λ i. h (suc i)))

  pub least_from : (xs : List A) (d : A) → From s (f d) → From s (least (map f xs)) → (i : ℕ) → From s (f (get_or xs i d))
  least_from [] d none h i = none
  least_from (x ∷ xs) d none h zero = (sooner_from s (f x) (least (map f xs)) h).0
  least_from (x ∷ xs) d none h (suc i) = least_from xs d none ((sooner_from s (f x) (least (map f xs)) h).1) i

  pub at_least : (xs : List A) → From s (least (map f xs)) → is_at s (least (map f xs)) ≡ list_any (λ x. is_at s (f x)) xs
  at_least [] h = refl
  at_least (x ∷ xs) h = let b = sooner_from s (f x) (least (map f xs)) h in at_sooner s (f x) (least (map f xs)) b.0 b.1 ∙ ap (λ y. is_at s (f x) || y) (at_least xs b.1)
