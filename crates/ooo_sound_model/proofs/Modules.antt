-- The functions of a module among the things that it declares.
use Rattle.std.proofs.Common.{◌≡◌, ◌∙◌, refl, sym, ap, subst, arith, ℕ, zero, suc, ◌+◌, ◌<◌, List, [], ◌∷◌, ◌++◌, map, length, Option, Some, None, inl, inr}
use Rattle.std.specs.Prelude.{slice_get}
use Rattle.ooo_lemmas.proofs.Placed.{behind_at, replicated_or}
use Rattle.ooo_checked.specs.declared.denotation.Thing.{Thing}
use Rattle.ooo_checked.specs.declared.denotation.Thing.TheVariants as thing
use Rattle.ooo_checked.specs.declared.module.CheckedFunction.{CheckedFunction}
use Rattle.ooo_checked.specs.declared.module.CheckedMember.{CheckedMember}
use Rattle.ooo_checked.specs.declared.module.CheckedMember.TheVariants as member
use Rattle.ooo_checked.specs.declared.unit.CheckedUnit.{CheckedUnit}
use Rattle.ooo_checked.specs.declared.unit.CheckedUnitItem.{CheckedUnitItem}
use Rattle.ooo_checked.specs.declared.unit.CheckedUnitItem.TheVariants as item
use Rattle.ooo_walk.specs.declared.plan.Plan.{Plan}
use Rattle.ooo_walk.specs.Plans.{as_function, function_at, member_placed, members_in, names_in, places_from, plan_of, plans_from, view_at, view_planned}
use Rattle.ooo_walk.specs.Texts.{file_of}
use Rattle.ooo_sound_walk.specs.Names.{things_in, things_of}

-- ---- places of names

mapped_length : {A B : Type 0} (f : A → B) (xs : List A) → length (map f xs) ≡ length xs
mapped_length f [] = refl
mapped_length f (x ∷ xs) = ap suc (mapped_length f xs)

-- a member declares as many things as names
as_many : (m : CheckedMember) → length (things_in m) ≡ names_in m
as_many member.Public = refl
as_many (member.Constant c) = refl
as_many (member.HasProcess w) = refl
as_many (member.Fields x) = mapped_length _ x.fields
as_many (member.Ports p) = mapped_length _ p.names
as_many (member.Clocks names) = mapped_length _ names
as_many (member.Channels c) = mapped_length _ c.parts
as_many (member.Events names) = mapped_length _ names
as_many (member.Children c) = mapped_length _ c.parts
as_many (member.Function f) = refl
as_many (member.Constructor c) = refl

as_function_is : (m : CheckedMember) (f : CheckedFunction) → as_function (Some m) ≡ Some f → m ≡ member.Function f
as_function_is member.Public f h = absurd cc
as_function_is (member.Constant c) f h = absurd cc
as_function_is (member.HasProcess w) f h = absurd cc
as_function_is (member.Fields x) f h = absurd cc
as_function_is (member.Ports p) f h = absurd cc
as_function_is (member.Clocks names) f h = absurd cc
as_function_is (member.Channels c) f h = absurd cc
as_function_is (member.Events names) f h = absurd cc
as_function_is (member.Children c) f h = absurd cc
as_function_is (member.Function g) f h = let same : g ≡ f = cc in ap (λ (x : CheckedFunction). member.Function x) same
as_function_is (member.Constructor c) f h = absurd cc

first_thing : (m : CheckedMember) (f : CheckedFunction) (ts : List Thing) (x : ℕ) → m ≡ member.Function f → x < names_in m →
    slice_get (things_in m ++ ts) x ≡ Some (thing.Function None (length f.params))
first_thing m f ts x is within =
    let few : x < 1 = subst (λ (n : CheckedMember). x < names_in n) is within in
    let none : 0 ≡ x = omega (arith, few) in
    subst (λ n. slice_get (things_in m ++ ts) n ≡ Some (thing.Function None (length f.params))) none
    (ap (λ (n : CheckedMember). slice_get (things_in n ++ ts) 0) is)

module _ (all : List CheckedMember) (f : CheckedFunction) where
  thing_from : (ms : List CheckedMember) (place : ℕ) → ((j : ℕ) (m : CheckedMember) → slice_get ms j ≡ Some m → slice_get all (place + j) ≡ Some m) →
      (x k : ℕ) → slice_get (places_from place ms) x ≡ Some k → as_function (slice_get all k) ≡ Some f →
      slice_get (things_of ms) x ≡ Some (thing.Function None (length f.params))
  thing_from [] place stand x k at is = absurd cc
  thing_from (m ∷ ms) place stand x k at is = elim (replicated_or (names_in m) place (places_from (place + 1) ms) x k at) [
    | inl here ↦
        let there : slice_get all k ≡ Some m =
        subst (λ n. slice_get all n ≡ Some m) (let e : place + 0 ≡ place = omega arith in e ∙ here.1) (stand 0 m refl) in
        let one : m ≡ member.Function f = as_function_is m f (ap as_function (sym there) ∙ is) in
        first_thing m f (things_of ms) x one here.0
    | inr more ↦
        let many = as_many m in
        let sum = more.1 in
        let e : length (things_in m) + more.0 ≡ x = omega (arith, many, sum) in
        behind_at (things_in m) (things_of ms) more.0 x e
        ∙ thing_from ms (place + 1)
        (λ j n h. subst (λ i. slice_get all i ≡ Some n) (let d : place + suc j ≡ place + 1 + j = omega arith in d) (stand (suc j) n h)) more.0 k more.2 is
  ]

-- ---- plans

-- items from a place on
abbrev StandFrom : List CheckedUnitItem → ℕ → List CheckedUnitItem → Type 0
StandFrom all place items = (j : ℕ) (x : CheckedUnitItem) → slice_get items j ≡ Some x → slice_get all (place + j) ≡ Some x

stand_later : (all : List CheckedUnitItem) (place : ℕ) (x : CheckedUnitItem) (xs : List CheckedUnitItem) → StandFrom all place (x ∷ xs) →
    StandFrom all (place + 1) xs
stand_later all place x xs stand j y at =
    subst (λ i. slice_get all i ≡ Some y) (let d : place + suc j ≡ place + 1 + j = omega arith in d) (stand (suc j) y at)

stands_here : (all : List CheckedUnitItem) (place : ℕ) (x : CheckedUnitItem) (xs : List CheckedUnitItem) → StandFrom all place (x ∷ xs) →
    slice_get all place ≡ Some x
stands_here all place x xs stand = let e : place + 0 ≡ place = omega arith in subst (λ k. slice_get all k ≡ Some x) e (stand 0 x refl)

-- the names of a planned module stand where its members declare them
abbrev PlacesAre : List CheckedUnitItem → Plan → Type 0
PlacesAre all p = p.places ≡ places_from 0 (members_in (slice_get all p.item))

plan_first : (all : List CheckedUnitItem) (place : ℕ) (ms : List CheckedMember) (p : Plan) → members_in (slice_get all place) ≡ ms →
    plan_of place ms ≡ p → PlacesAre all p
plan_first all place ms p of same = subst (PlacesAre all) same (ap (λ ns. places_from 0 ns) (sym of))

planned : (all items : List CheckedUnitItem) (place : ℕ) → StandFrom all place items → (n : ℕ) (p : Plan) →
    slice_get (plans_from place items) n ≡ Some p → PlacesAre all p
planned all [] place stand n p h = absurd cc
planned all (item.Using library ∷ xs) place stand n p h = planned all xs (place + 1) (stand_later all place _ xs stand) n p h
planned all (item.Constant c ∷ xs) place stand zero p h =
    plan_first all place [] p (ap members_in (stands_here all place (item.Constant c) xs stand)) (let e : plan_of place [] ≡ p = cc in e)
planned all (item.Constant c ∷ xs) place stand (suc n) p h = planned all xs (place + 1) (stand_later all place _ xs stand) n p h
planned all (item.Module m ∷ xs) place stand zero p h =
    plan_first all place m.members p (ap members_in (stands_here all place (item.Module m) xs stand)) (let e : plan_of place m.members ≡ p = cc in e)
planned all (item.Module m ∷ xs) place stand (suc n) p h = planned all xs (place + 1) (stand_later all place _ xs stand) n p h

-- a function of a module is declared as one
pub function_declared : (u : CheckedUnit) (n x : ℕ) (f : CheckedFunction) → function_at (view_at (file_of u) n) x ≡ Some f →
    slice_get (things_of (view_at (file_of u) n).members) x ≡ Some (thing.Function None (length f.params))
function_declared u n x f h = by (slice_get (file_of u).plans n) refl h
  where
    placed : (ms : List CheckedMember) (o : Option ℕ) → slice_get (places_from 0 ms) x ≡ o → as_function (member_placed ms o) ≡ Some f →
        slice_get (things_of ms) x ≡ Some (thing.Function None (length f.params))
    placed ms None at is = absurd cc
    placed ms (Some k) at is =
        thing_from ms f ms 0 (λ j m g. subst (λ i. slice_get ms i ≡ Some m) (let e : j ≡ 0 + j = omega arith in e) g) x k at is

    by : (o : Option Plan) → slice_get (file_of u).plans n ≡ o → function_at (view_planned u.items o) x ≡ Some f →
        slice_get (things_of (view_planned u.items o).members) x ≡ Some (thing.Function None (length f.params))
    by None of is = absurd cc
    by (Some p) of is =
        let ms = members_in (slice_get u.items p.item) in
        let places = planned u.items u.items 0 (λ j y g. subst (λ i. slice_get u.items i ≡ Some y) (let e : j ≡ 0 + j = omega arith in e) g) n p of in
        placed ms (slice_get (places_from 0 ms) x) refl (ap (λ ps. as_function (member_placed ms (slice_get ps x))) (sym places) ∙ is)
