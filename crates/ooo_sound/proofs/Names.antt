-- The names of a module's parts stand where its members declare them.
use Rattle.std.proofs.Common.{◌≡◌, ◌≢◌, refl, sym, subst, arith, ℕ, zero, suc, ◌<◌, List, [], ◌∷◌, length, Bool, true, false, Option, Some, None, ◌⊎◌, inl, inr}
use Rattle.std.specs.Prelude.{◌==◌, Contains, IsSome, slice_get}
use Rattle.std.proofs.lemmas.Bool.{eqb-true, eqb-false}
use Rattle.std.proofs.lemmas.List.Elements.{Contains-append_right}
use Rattle.std.proofs.lemmas.Option.{slice_get_within}
use Rattle.ooo_checked.specs.declared.denotation.Denotation.{Denotation}
use Rattle.ooo_checked.specs.declared.denotation.Thing.{Thing}
use Rattle.ooo_checked.specs.declared.denotation.Thing.TheVariants as thing
use Rattle.ooo_checked.specs.declared.module.CheckedFunction.{CheckedFunction}
use Rattle.ooo_checked.specs.Scopes.{Scope, meaning_of}
use Rattle.ooo_walk.specs.Plans.{Viewed, as_function, function_at, member_placed}
use Rattle.ooo_sound_walk.specs.Names.{things_of}
use Rattle.ooo_sound_model.specs.Texts.{AllStand, Stands}
use Rattle.ooo_sound_text.specs.Modules.{IsInside, IsOwn}
use Rattle.ooo_sound_text.specs.Calls.{FunctionsAreAmong, IsAmong}
use Rattle.ooo_sound_text.specs.Names.{StandsIn}

stands : (v : Viewed) (d : Denotation) (t : Thing) → StandsIn (things_of v.members) d t → Stands v d t
stands v d (thing.Variable k) h = h
stands v d (thing.Array k) h = h
stands v d (thing.FixedArray k) h = h
stands v d (thing.Signal k) h = h
stands v d (thing.SignalPort direction k) h = h
stands v d (thing.Fifo k) h = h
stands v d (thing.FifoIn k) h = h
stands v d (thing.FifoOut k) h = h
stands v d thing.Event h = h
stands v d (thing.Function gives params) h = h
stands v d _ h = tt

own_stands : (v : Viewed) (d : Denotation) (t : Thing) → IsOwn t → Stands v d t
own_stands v d (thing.Parameter k) own = tt
own_stands v d thing.ModuleName own = tt
own_stands v d _ own = absurd own

-- the names of a scope stand among the things of a module
abbrev pub AllStandIn : List Thing → Scope → Type 0
AllStandIn ts s = (name : List ℕ) → let d = meaning_of s name in StandsIn ts d d.thing

-- so do those of a part
pub all_stand : (v : Viewed) (part s : Scope) → AllStandIn (things_of v.members) s → IsInside part s → AllStand v part
all_stand v part s h inside name = by (meaning_of part name) (inside name)
  where
    by : (d : Denotation) → (d ≡ meaning_of s name) ⊎ IsOwn d.thing → Stands v d d.thing
    by d (inl same) = subst (λ (e : Denotation). Stands v e e.thing) (sym same) (stands v (meaning_of s name) (meaning_of s name).thing (h name))
    by d (inr own) = own_stands v d d.thing own

-- ---- functions

-- a number, where there is a function
abbrev pub with_number : ℕ → Option CheckedFunction → List ℕ → List ℕ
with_number n None xs = xs
with_number n (Some f) xs = n ∷ xs

-- the numbers below one at which a module has functions
abbrev pub numbers_below : Viewed → ℕ → List ℕ
numbers_below v zero = []
numbers_below v (suc n) = with_number n (function_at v n) (numbers_below v n)

put : (o : Option CheckedFunction) (n : ℕ) (xs : List ℕ) → IsSome o → Contains (with_number n o xs) n
put (Some f) n xs some = (0, omega arith, refl)
put None n xs some = absurd cc

passed : (o : Option CheckedFunction) (n : ℕ) (xs : List ℕ) (y : ℕ) → Contains xs y → Contains (with_number n o xs) y
passed (Some f) n xs y c = Contains-append_right (n ∷ []) xs y c
passed None n xs y c = c

number_step : (v : Viewed) (k n : ℕ) (b : Bool) → (n == k) ≡ b → n < suc k → IsSome (function_at v n) →
    (n < k → Contains (numbers_below v k) n) → Contains (numbers_below v (suc k)) n
number_step v k n true e below some others =
    let same : k ≡ n = sym (eqb-true n k e) in
    subst (λ m. Contains (numbers_below v (suc k)) m) same
    (put (function_at v k) k (numbers_below v k) (subst (λ m. IsSome (function_at v m)) (sym same) some))
number_step v k n false e below some others =
    passed (function_at v k) k (numbers_below v k) n
    (others (let differs : n ≢ k = eqb-false n k e in omega (arith, below, differs)))

pub number_below : (v : Viewed) (k n : ℕ) → n < k → IsSome (function_at v n) → Contains (numbers_below v k) n
number_below v zero n below some = absurd (omega (arith, below))
number_below v (suc k) n below some = number_step v k n (n == k) refl below some (λ less. number_below v k n less some)

took : (o : Option CheckedFunction) (n : ℕ) (xs : List ℕ) (y : ℕ) → Contains (with_number n o xs) y →
    ((n ≡ y) × IsSome o) ⊎ Contains xs y
took None n xs y c = inr c
took (Some f) n xs y (zero, within, is) = inl (is, refl)
took (Some f) n xs y (suc j, within, is) = inr (j, omega (arith, within), is)

pub number_is : (v : Viewed) (k y : ℕ) → Contains (numbers_below v k) y → IsSome (function_at v y)
number_is v zero y (j, within, is) = absurd (omega (arith, within))
number_is v (suc k) y c = elim (took (function_at v k) k (numbers_below v k) y c) [
  | inl here ↦ subst (λ m. IsSome (function_at v m)) here.0 here.1
  | inr below ↦ number_is v k y below
]

-- a function stands at a place of its module
pub function_within : (v : Viewed) (n : ℕ) → IsSome (function_at v n) → n < length v.places
function_within v n some = by (slice_get v.places n) refl some
  where
    by : (o : Option ℕ) → slice_get v.places n ≡ o → IsSome (as_function (member_placed v.members o)) → n < length v.places
    by None e none = absurd cc
    by (Some place) e some = slice_get_within v.places n place e

-- the functions of a scope are among them
pub functions_among : (v : Viewed) (s : Scope) →
    ((x params : ℕ) → slice_get (things_of v.members) x ≡ Some (thing.Function None params) → IsSome (function_at v x)) →
    AllStandIn (things_of v.members) s → FunctionsAreAmong (numbers_below v (length v.places)) s
functions_among v s there h name = by (meaning_of s name) (meaning_of s name).thing (h name)
  where
    by : (d : Denotation) (t : Thing) → StandsIn (things_of v.members) d t → IsAmong (numbers_below v (length v.places)) d t
    by d (thing.Function gives params) at =
        let some : IsSome (function_at v d.number) = there d.number params at in
        number_below v (length v.places) d.number (function_within v d.number some) some
    by d _ at = tt

own_among : (functions : List ℕ) (d : Denotation) (t : Thing) → IsOwn t → IsAmong functions d t
own_among functions d (thing.Parameter k) own = tt
own_among functions d thing.ModuleName own = tt
own_among functions d _ own = absurd own

pub part_among : (functions : List ℕ) (part s : Scope) → FunctionsAreAmong functions s → IsInside part s → FunctionsAreAmong functions part
part_among functions part s h inside name = by (meaning_of part name) (inside name)
  where
    by : (d : Denotation) → (d ≡ meaning_of s name) ⊎ IsOwn d.thing → IsAmong functions d d.thing
    by d (inl same) = subst (λ (e : Denotation). IsAmong functions e e.thing) (sym same) (h name)
    by d (inr own) = own_among functions d d.thing own
