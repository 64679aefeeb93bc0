-- A function that the processes of a module reach is called by a function of the module.
use Rattle.std.proofs.Common.{◌≡◌, ◌≢◌, refl, sym, subst, arith, ℕ, zero, suc, ◌<◌, List, [], ◌∷◌, ◌++◌, length, Bool, true, false, Option, Some, None, inl, inr}
use Rattle.std.specs.Prelude.{◌==◌, Contains}
use Rattle.std.proofs.lemmas.Bool.{eq-eqb, eqb-false, eqb-true, or_cases, or_left, or_right}
use Rattle.std.proofs.lemmas.List.Elements.{Contains-append_cases, Contains-append_left, Contains-append_right}
use Rattle.ooo_checked.specs.declared.module.CheckedFunction.{CheckedFunction}
use Rattle.ooo_checked.specs.declared.module.CheckedSetup.{CheckedSetup}
use Rattle.ooo_checked.specs.declared.module.CheckedSetup.TheVariants as setup
use Rattle.ooo_constants.specs.Bodies.{body_calls}
use Rattle.ooo_walk.specs.Plans.{Viewed, function_at}
use Rattle.ooo_walk.specs.Reach.{calls_in, has}
use Rattle.ooo_elaborate.specs.Functions.{functions_in, setup_calls, setups_calls}
use Rattle.ooo_sound_walk.specs.Reached.{HasFunctions, ReachedAreLeast}
use Rattle.ooo_sound.proofs.Names.{function_within}

has_is : (xs : List ℕ) (n : ℕ) → has xs n ≡ true → Contains xs n
has_is [] n h = absurd cc
has_is (x ∷ xs) n h = elim (or_cases (n == x) (has xs n) h) [
  | inl e ↦ (0, omega arith, sym (eqb-true n x e))
  | inr r ↦ Contains-append_right (x ∷ []) xs n (has_is xs n r)
]

is_had : (xs : List ℕ) (n : ℕ) → Contains xs n → has xs n ≡ true
is_had [] n (j, within, is) = absurd (omega (arith, within))
is_had (x ∷ xs) n (zero, within, is) = or_left (n == x) (has xs n) (eq-eqb n x (sym is))
is_had (x ∷ xs) n (suc j, within, is) = or_right (n == x) (has xs n) (is_had xs n (j, omega (arith, within), is))

-- the calls of the functions below a number
abbrev pub calls_below : Viewed → ℕ → List ℕ
calls_below v zero = []
calls_below v (suc n) = calls_in (function_at v n) ++ calls_below v n

call_step : (v : Viewed) (k n y : ℕ) (b : Bool) → (n == k) ≡ b → n < suc k → Contains (calls_in (function_at v n)) y →
    (n < k → Contains (calls_below v k) y) → Contains (calls_below v (suc k)) y
call_step v k n y true e below c others =
    Contains-append_left (calls_in (function_at v k)) (calls_below v k) y
    (subst (λ m. Contains (calls_in (function_at v m)) y) (eqb-true n k e) c)
call_step v k n y false e below c others =
    Contains-append_right (calls_in (function_at v k)) (calls_below v k) y
    (others (let differs : n ≢ k = eqb-false n k e in omega (arith, below, differs)))

call_below : (v : Viewed) (k n y : ℕ) → n < k → Contains (calls_in (function_at v n)) y → Contains (calls_below v k) y
call_below v zero n y below c = absurd (omega (arith, below))
call_below v (suc k) n y below c = call_step v k n y (n == k) refl below c (λ less. call_below v k n y less c)

-- a function of a module calls another by this number
pub record IsCalled (v : Viewed) (y : ℕ) : Type 0 where
  pub caller : ℕ
  pub function : CheckedFunction
  pub at : function_at v caller ≡ Some function
  pub calls : Contains (body_calls function.body) y

called_at : (v : Viewed) (n y : ℕ) (o : Option CheckedFunction) → function_at v n ≡ o → Contains (calls_in o) y → IsCalled v y
called_at v n y None at (j, within, is) = absurd (omega (arith, within))
called_at v n y (Some f) at c = record { caller = n; function = f; at = at; calls = c }

called_below : (v : Viewed) (k y : ℕ) → Contains (calls_below v k) y → IsCalled v y
called_below v zero y (j, within, is) = absurd (omega (arith, within))
called_below v (suc n) y c = elim (Contains-append_cases (calls_in (function_at v n)) (calls_below v n) y c) [
  | inl here ↦ called_at v n y (function_at v n) refl here
  | inr below ↦ called_below v n y below
]

-- whatever calls at a number calls below the number of names
within_of : (v : Viewed) (n y : ℕ) (o : Option CheckedFunction) → function_at v n ≡ o → Contains (calls_in o) y → n < length v.places
within_of v n y None at (j, within, is) = absurd (omega (arith, within))
within_of v n y (Some f) at c = function_within v n (rw at refl)

among_all : (v : Viewed) (n y : ℕ) → Contains (calls_in (function_at v n)) y → Contains (calls_below v (length v.places)) y
among_all v n y c = call_below v (length v.places) n y (within_of v n y (function_at v n) refl c) c

setup_among : (v : Viewed) (x : CheckedSetup) (y : ℕ) → Contains (setup_calls v x) y → Contains (calls_below v (length v.places)) y
setup_among v (setup.Thread at r) y c = among_all v r.denotes.number y c
setup_among v (setup.Method at r) y c = among_all v r.denotes.number y c
setup_among v (setup.Sensitive at es) y (j, within, is) = absurd (omega (arith, within))
setup_among v (setup.DontInitialize at) y (j, within, is) = absurd (omega (arith, within))
setup_among v (setup.Bind b) y (j, within, is) = absurd (omega (arith, within))
setup_among v (setup.Set r e) y (j, within, is) = absurd (omega (arith, within))

setups_among : (v : Viewed) (xs : List CheckedSetup) (y : ℕ) → Contains (setups_calls v xs) y → Contains (calls_below v (length v.places)) y
setups_among v [] y (j, within, is) = absurd (omega (arith, within))
setups_among v (x ∷ xs) y c = elim (Contains-append_cases (setup_calls v x) (setups_calls v xs) y c) [
  | inl here ↦ setup_among v x y here
  | inr others ↦ setups_among v xs y others
]

-- what the processes of a module reach by calls is called
pub reached_called : ReachedAreLeast → (v : Viewed) (y : ℕ) → has (functions_in v) y ≡ true → IsCalled v y
reached_called least v y h =
    let names = calls_below v (length v.places) in
    let first : HasFunctions v names (setups_calls v v.setups) = λ z f c at. is_had names z (setups_among v v.setups z c) in
    let others : (x : ℕ) (f : CheckedFunction) → has names x ≡ true → function_at v x ≡ Some f → HasFunctions v names (calls_in (Some f)) =
    λ x f among at z g c is. is_had names z (among_all v x z (subst (λ o. Contains (calls_in o) z) (sym at) c)) in
    called_below v (length v.places) y (has_is names y ((least v (setups_calls v v.setups)).least names first others y h))
