-- The names of functions mean the functions that have their numbers.
use Rattle.std.proofs.Common.{◌≡◌, ◌∙◌, refl, sym, ap, subst, arith, ℕ, zero, suc, ◌+◌, ◌<◌, List, [], ◌∷◌, length, length-append, slice_set, length-set, Bool, true, false, Option, Some}
use Rattle.std.specs.Prelude.{◌==◌, ◌||◌, slice_get}
use Rattle.std.proofs.lemmas.Bool.{eqb-true, eq-eqb, true≢false}
use Rattle.ooo_lemmas.proofs.Placed.{kept_at, behind_at}
use Rattle.ooo_constants.specs.declared.meaning.Meaning.{Meaning}
use Rattle.ooo_constants.specs.declared.meaning.Meaning.TheVariants as meaning
use Rattle.ooo_walk.specs.declared.state.WalkedInstance.{WalkedInstance}
use Rattle.ooo_walk.specs.Plans.{Filed, view_at}
use Rattle.ooo_walk.specs.Reach.{has}
use Rattle.ooo_elaborate.specs.declared.functions.Numbered.{Numbered}
use Rattle.ooo_elaborate.specs.declared.functions.WalkedFunction.{WalkedFunction}
use Rattle.ooo_elaborate.specs.Functions.{functions_in, meanings_with, of_instance, numbered_with, numbered_by}
use Rattle.ooo_sound_model.specs.Numbering.{HasNumbers, FunctionsAreNumbered}

-- ---- lists

set_itself : (xs : List Meaning) (i : ℕ) (a : Meaning) → i < length xs → slice_get (slice_set xs i a) i ≡ Some a
set_itself [] i a h = absurd (omega (arith, h))
set_itself (x ∷ xs) zero a h = refl
set_itself (x ∷ xs) (suc i) a h = set_itself xs i a (omega (arith, h))

set_other : (xs : List Meaning) (i : ℕ) (a : Meaning) (j : ℕ) → (j == i) ≡ false → slice_get (slice_set xs i a) j ≡ slice_get xs j
set_other [] i a j h = refl
set_other (x ∷ xs) zero a zero h = absurd (true≢false (sym (eq-eqb 0 0 refl) ∙ h))
set_other (x ∷ xs) zero a (suc j) h = refl
set_other (x ∷ xs) (suc i) a zero h = refl
set_other (x ∷ xs) (suc i) a (suc j) h = set_other xs i a j (fewer j i h)
  where
    fewer : (j i : ℕ) → (suc j == suc i) ≡ false → (j == i) ≡ false
    fewer j i h = by (j == i) refl
      where
        by : (b : Bool) → (j == i) ≡ b → b ≡ false
        by false is = refl
        by true is = absurd (true≢false (sym (eq-eqb (suc j) (suc i) (ap suc (eqb-true j i is))) ∙ h))

-- ---- meanings

-- a name that is none of these means what it meant
other_meaning : (number : ℕ) (fs : List ℕ) (ms : List Meaning) (x : ℕ) → has fs x ≡ false → slice_get (meanings_with number fs ms) x ≡ slice_get ms x
other_meaning number [] ms x h = refl
other_meaning number (f ∷ fs) ms x h =
    by (x == f) (has fs x) refl refl (other_meaning (number + 1) fs (slice_set ms f (meaning.Function number)) x) h
  where
    by : (a c : Bool) → (x == f) ≡ a → has fs x ≡ c →
        (has fs x ≡ false → slice_get (meanings_with (number + 1) fs (slice_set ms f (meaning.Function number))) x
        ≡ slice_get (slice_set ms f (meaning.Function number)) x) → (a || c) ≡ false →
        slice_get (meanings_with (number + 1) fs (slice_set ms f (meaning.Function number))) x ≡ slice_get ms x
    by false false is of others h = others of ∙ set_other ms f (meaning.Function number) x is
    by true c is of others h = absurd cc
    by false true is of others h = absurd cc

-- where a function stands among those that get numbers, and its number
record Numbers (number : ℕ) (fs : List ℕ) (ms : List Meaning) (x : ℕ) : Type 0 where
  pub place : ℕ
  pub at : slice_get fs place ≡ Some x
  pub means : slice_get (meanings_with number fs ms) x ≡ Some (meaning.Function (number + place))

one_meaning : (number : ℕ) (fs : List ℕ) (ms : List Meaning) (x : ℕ) → has fs x ≡ true → x < length ms → Numbers number fs ms x
one_meaning number [] ms x h within = absurd cc
one_meaning number (f ∷ fs) ms x h within =
    by (has fs x) refl (x == f) refl (one_meaning (number + 1) fs (slice_set ms f (meaning.Function number)) x) h
  where
    by : (c : Bool) → has fs x ≡ c → (a : Bool) → (x == f) ≡ a →
        (has fs x ≡ true → x < length (slice_set ms f (meaning.Function number)) →
        Numbers (number + 1) fs (slice_set ms f (meaning.Function number)) x) → (a || c) ≡ true → Numbers number (f ∷ fs) ms x
    by true of a is later h =
        let r = later of (let all = length-set ms f (meaning.Function number) in omega (arith, within, all)) in record {
          place = suc r.place;
          at = r.at;
          means = r.means ∙ ap (λ n. Some (meaning.Function n)) (omega arith);
        }
    by false of true is later h =
        let same : x ≡ f = eqb-true x f is in record {
          place = 0;
          at = ap Some (sym same);
          means = other_meaning (number + 1) fs (slice_set ms f (meaning.Function number)) x of
              ∙ subst (λ y. slice_get (slice_set ms f (meaning.Function number)) y ≡ Some (meaning.Function number)) (sym same)
              (set_itself ms f (meaning.Function number) (subst (λ y. y < length ms) same within))
              ∙ ap (λ n. Some (meaning.Function n)) (omega arith);
        }
    by false of false is later h = absurd cc

function_at_place : (instance : ℕ) (fs : List ℕ) (q x : ℕ) → slice_get fs q ≡ Some x →
    slice_get (of_instance instance fs) q ≡ Some (record { instance = instance; function = x })
function_at_place instance [] q x h = absurd cc
function_at_place instance (f ∷ fs) zero x h =
    let same : f ≡ x = cc in ap {B = Option WalkedFunction} (λ n. Some (record { instance = instance; function = n })) same
function_at_place instance (f ∷ fs) (suc q) x h = function_at_place instance fs q x h

-- ---- instances one after the other

module _ (f : Filed) where
  -- what has numbers goes on to have them
  kept_instance : (is : List WalkedInstance) (n : Numbered) (k : ℕ) (i : WalkedInstance) → slice_get n.instances k ≡ Some i →
      slice_get (numbered_by f is n).instances k ≡ Some i
  kept_instance [] n k i h = h
  kept_instance (j ∷ is) n k i h = kept_instance is _ k i (kept_at n.instances _ k i h)

  kept_function : (is : List WalkedInstance) (n : Numbered) (k : ℕ) (x : WalkedFunction) → slice_get n.functions k ≡ Some x →
      slice_get (numbered_by f is n).functions k ≡ Some x
  kept_function [] n k x h = h
  kept_function (j ∷ is) n k x h = kept_function is _ k x (kept_at n.functions _ k x h)

  at_place : (is : List WalkedInstance) (n : Numbered) (k place : ℕ) (i : WalkedInstance) → length n.instances + k ≡ place →
      slice_get is k ≡ Some i → HasNumbers f (numbered_by f is n) place i
  at_place [] n k place i sum at = absurd cc
  at_place (j ∷ is) n zero place i sum at =
      let same : j ≡ i = cc in
      let fs = functions_in (view_at f j.module_number) in
      let n1 = numbered_with fs j n in
      let made : WalkedInstance = record j { members = meanings_with (length n.functions) fs j.members } in
      let there : slice_get n1.instances place ≡ Some made = behind_at n.instances (made ∷ []) 0 place sum in
      let here : length n.instances ≡ place = omega (arith, sum) in
      subst (HasNumbers f (numbered_by f (j ∷ is) n) place) same (record {
        instance = made;
        there = kept_instance is n1 place made there;
        module_number = refl;
        reached = λ x h within.
            let r = one_meaning (length n.functions) fs j.members x h within in record {
              number = length n.functions + r.place;
              means = r.means;
              is = kept_function is n1 (length n.functions + r.place) _
                  (behind_at n.functions (of_instance (length n.instances) fs) r.place (length n.functions + r.place) refl
                  ∙ function_at_place (length n.instances) fs r.place x r.at
                  ∙ ap {B = Option WalkedFunction} (λ m. Some (record { instance = m; function = x })) here);
            };
        others = λ x h. other_meaning (length n.functions) fs j.members x h;
      })
  at_place (j ∷ is) n (suc k) place i sum at =
      let n1 = numbered_with (functions_in (view_at f j.module_number)) j n in
      let all : length n1.instances ≡ length n.instances + 1 = length-append n.instances _ in
      at_place is n1 k place i (omega (arith, sum, all)) at

pub functions_are_numbered : FunctionsAreNumbered
functions_are_numbered f is place i at = at_place f is (record { functions = []; instances = [] }) place place i (omega arith) at
