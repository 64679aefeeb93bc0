-- What is seen of fifos, in a list that ascends by their numbers.
use Rattle.std.proofs.Common.{◌≡◌, ◌≢◌, ℕ, zero, suc, ◌+◌, ◌<◌, ◌≤◌, ◌==◌, List, [], ◌∷◌, ◌++◌, length, take, drop, true, false, Some, get_or, Bool, refl, sym, ap, subst, ◌∙◌, arith, add-one}
use Rattle.std.specs.Prelude.{All, slice_get}
use Rattle.std.proofs.lemmas.Bool.Decides.{nat_tests}
use Rattle.std.proofs.lemmas.Option.{slice_get-get_or}
use Rattle.ooo_value.specs.declared.values.Value.{Value}
use Rattle.ooo_code.specs.declared.activation.Seen.{Seen}
use Rattle.ooo_code.specs.declared.activation.Seen.TheVariants as seen
use Rattle.ooo_code.specs.Expressions.{FifoSeen, fifo_seen}
use Rattle.ooo_interp.specs.Jobs.{IsFew, IsKeptBy, SeenAscend, number_seen}
use Rattle.ooo_interp.specs.Ports.{values_in}
use Rattle.ooo_interp.proofs.Searched.{StandsAt, first_differs, later_differ, none_first, none_later, stands_from, stands_within, tail_ascends}

-- what is seen of another channel says nothing of fifo number c
fifo_past : (s : Seen) (ss : List Seen) (c : ℕ) → (c == number_seen s) ≡ false → fifo_seen (s ∷ ss) c ≡ fifo_seen ss c
fifo_past (seen.Signal d v changed) ss c e = refl
fifo_past (seen.Fifo d values free) ss c e = rw e refl

past : (s : Seen) (ss : List Seen) (c : ℕ) → (c == number_seen s) ≡ false → values_in (s ∷ ss) c ≡ values_in ss c
past s ss c e = ap {A = FifoSeen} (λ f. f.values) (fifo_past s ss c e)

fifo_here : (ss : List Seen) (c d : ℕ) (values : List Value) (free : ℕ) → d ≡ c → fifo_seen (seen.Fifo d values free ∷ ss) c ≡ record { values = values; free = free }
fifo_here ss c d values free e = let t : (c == d) ≡ true = grind (arith, nat_tests) in rw t refl

here : (ss : List Seen) (c d : ℕ) (values : List Value) (free : ℕ) → d ≡ c → values_in (seen.Fifo d values free ∷ ss) c ≡ values
here ss c d values free e = ap {A = FifoSeen} (λ f. f.values) (fifo_here ss c d values free e)

pub none_values : (ss : List Seen) (c : ℕ) → All (λ s. number_seen s ≢ c) ss → values_in ss c ≡ []
none_values [] c h = refl
none_values (s ∷ ss) c h = past s ss c (none_first number_seen s ss c h) ∙ none_values ss c (none_later number_seen s ss c h)

some_same : {A : Type 0} (x y : A) → Some x ≡ Some y → x ≡ y
some_same x y e = cc

-- where the fifo of number c stands, its values are what is seen
pub its_values : (ss : List Seen) (c at d : ℕ) (values : List Value) (free : ℕ) → SeenAscend ss → StandsAt number_seen ss c at → slice_get ss at ≡ Some (seen.Fifo d values free) → values_in ss c ≡ values
its_values [] c at d values free asc h is = absurd h
its_values (s ∷ ss) c zero d values free asc h is =
    let e : s ≡ seen.Fifo d values free = some_same s (seen.Fifo d values free) is in
    ap (λ x. values_in (x ∷ ss) c) e ∙ here ss c d values free (ap number_seen (sym e) ∙ h)
its_values (s ∷ ss) c (suc at) d values free asc h is =
    past s ss c (first_differs number_seen s ss c at asc h) ∙ its_values ss c at d values free (tail_ascends number_seen s ss asc) h is

-- where a signal of number c stands, no fifo has it
pub no_values : (ss : List Seen) (c at d : ℕ) (v : Value) (changed : Bool) → SeenAscend ss → StandsAt number_seen ss c at → slice_get ss at ≡ Some (seen.Signal d v changed) → values_in ss c ≡ []
no_values [] c at d v changed asc h is = absurd h
no_values (s ∷ ss) c zero d v changed asc h is =
    let e : s ≡ seen.Signal d v changed = some_same s (seen.Signal d v changed) is in
    ap (λ x. values_in (x ∷ ss) c) e ∙ none_values ss c (later_differ number_seen s ss c asc h)
no_values (s ∷ ss) c (suc at) d v changed asc h is =
    past s ss c (first_differs number_seen s ss c at asc h) ∙ no_values ss c at d v changed (tail_ascends number_seen s ss asc) h is

-- what stands at a place, where that is found
pub at_place : (ss : List Seen) (c at : ℕ) (x y : Seen) → StandsAt number_seen ss c at → x ≡ get_or ss at x → x ≡ y → slice_get ss at ≡ Some y
at_place ss c at x y h is e = slice_get-get_or ss at x (stands_within number_seen ss c at h) ∙ ap Some (sym is ∙ e)

-- its values are few
pub few_at : (ss : List Seen) (c at d : ℕ) (x : Seen) (values : List Value) (free : ℕ) → All IsFew ss → StandsAt number_seen ss c at → x ≡ get_or ss at x → x ≡ seen.Fifo d values free → length values ≤ 65536
few_at ss c at d x values free few h is e = (subst IsFew (sym is ∙ e) (few at x (stands_within number_seen ss c at h))).0

-- each is seen with its own values
pub kept : (ss : List Seen) (i : ℕ) (d : Seen) → SeenAscend ss → i < length ss → IsKeptBy (values_in ss) (get_or ss i d)
kept ss i d asc lt = of (get_or ss i d) refl
  where
    of : (s : Seen) → get_or ss i d ≡ s → IsKeptBy (values_in ss) s
    of (seen.Signal e v changed) is = tt
    of (seen.Fifo e values free) is = its_values ss e i e values free asc (stands_from number_seen ss e i d lt (ap number_seen is)) (slice_get-get_or ss i d lt ∙ ap Some is)

-- a list is what stands before a place, at it and after it
split_suc : {A : Type 0} (xs : List A) (i : ℕ) (d : A) → i < length xs → take i xs ++ get_or xs i d ∷ drop (suc i) xs ≡ xs
split_suc [] i d lt = absurd (omega (arith, lt))
split_suc (x ∷ xs) zero d lt = refl
split_suc (x ∷ xs) (suc i) d lt = ap (λ ys. x ∷ ys) (split_suc xs i d (omega (arith, lt)))

pub split_at : {A : Type 0} (xs : List A) (i : ℕ) (d : A) → i < length xs → take i xs ++ get_or xs i d ∷ drop (i + 1) xs ≡ xs
split_at xs i d lt = rw add-one (split_suc xs i d lt)
