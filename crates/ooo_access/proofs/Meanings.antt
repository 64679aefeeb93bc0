-- What is meant by what is told: which touches, and of which part.
use Rattle.std.proofs.Common.{◌≡◌, ℕ, zero, suc, ◌+◌, ◌-◌, ◌≤◌, List, [], ◌∷◌, refl, ap, sym, ◌∙◌, subst, arith, inl, inr, ◌⊎◌, ◌↔◌, Option, Some, None, Bool, true, false, cond, add-zero}
use Rattle.std.specs.Prelude.{Contains, slice_get}
use Rattle.std.proofs.lemmas.Bool.{eqb-true, eq-eqb}
use Rattle.std.proofs.lemmas.List.Elements.{Contains-append_left, Contains-append_right, Contains-append_cases}
use Rattle.ooo_lemmas.proofs.Contained.{not_in_none, one_is, in_first, in_later, first_or_later, in_mapped, mapped_from}
use Rattle.ooo_time.specs.declared.time.Time.{Time}
use Rattle.ooo_value.specs.declared.bound.BoundEvent.{BoundEvent}
use Rattle.ooo_value.specs.declared.bound.BoundEvent.TheVariants as event
use Rattle.ooo_code.specs.Touches as touch
use Rattle.ooo_segments.specs.Numbers.{IsIn}
use Rattle.ooo_access.specs.declared.told.Told.{Told}
use Rattle.ooo_access.specs.declared.told.Told.TheVariants as tells
use Rattle.ooo_access.specs.declared.told.Part.TheVariants as part
use Rattle.ooo_access.specs.Calls.{IsCalled, IsCalledAt}
use Rattle.ooo_access.specs.Notices.{Notice}
use Rattle.ooo_access.specs.Told.{meant, all_meant, number_of, IsTold}
use Rattle.ooo_access.proofs.Calling.{HasDirect}

-- ---- one of what is told

-- a touch is meant by a thing that is told
pub record MeantBy (events : List BoundEvent) (told : List Told) (x : touch.Touch) : Type 0 where
  pub one : Told
  pub among : Contains told one
  pub meant_is : Contains (meant events one) x

-- what is meant is meant by one
pub meant_by : (events : List BoundEvent) (told : List Told) (x : touch.Touch) → Contains (all_meant events told) x → MeantBy events told x
unfolding all_meant
meant_by events [] x h = absurd (not_in_none x h)
meant_by events (t ∷ ts) x h =
    elim (Contains-append_cases (meant events t) (all_meant events ts) x h) [
      | inl a ↦ record { one = t; among = in_first t ts; meant_is = a }
      | inr a ↦ let r = meant_by events ts x a in record { one = r.one; among = in_later t r.one ts r.among; meant_is = r.meant_is }
    ]

-- and the other way round
pub in_meant : (events : List BoundEvent) (told : List Told) (t : Told) (x : touch.Touch) → Contains told t → Contains (meant events t) x → Contains (all_meant events told) x
unfolding all_meant
in_meant events [] t x h m = absurd (not_in_none t h)
in_meant events (u ∷ us) t x h m =
    elim (first_or_later u t us h) [
      | inl e ↦ Contains-append_left (meant events u) (all_meant events us) x (subst (λ w. Contains (meant events w) x) (sym e) m)
      | inr a ↦ Contains-append_right (meant events u) (all_meant events us) x (in_meant events us t x a m)
    ]

-- ---- the numbers of those that pass a test

-- the one that has a number
pub record PassesAt {A : Type 0} (test : A → Bool) (n : ℕ) (xs : List A) (w : ℕ) : Type 0 where
  pub item : A
  pub from : n ≤ w
  pub is : slice_get xs (w - n) ≡ Some item
  pub passes : test item ≡ true

later : {A : Type 0} (test : A → Bool) (n : ℕ) (x : A) (xs : List A) (w : ℕ) → PassesAt test (n + 1) xs w → PassesAt test n (x ∷ xs) w
later test n x xs w p =
    let from = p.from in
    let e : w - n ≡ suc (w - (n + 1)) = omega arith in
    record { item = p.item; from = omega arith; is = rw e p.is; passes = p.passes }

passes_at : {A : Type 0} (test : A → Bool) (n : ℕ) (xs : List A) (w : ℕ) → Contains (touch.numbers_where test n xs) w → PassesAt test n xs w
passes_at test n [] w h = absurd (not_in_none w h)
passes_at {A} test n (x ∷ xs) w h = at (test x) refl (passes_at test (n + 1) xs w) h
  where
    at : (b : Bool) → test x ≡ b → (Contains (touch.numbers_where test (n + 1) xs) w → PassesAt test (n + 1) xs w) → Contains (cond b (n ∷ touch.numbers_where test (n + 1) xs) (touch.numbers_where test (n + 1) xs)) w → PassesAt test n (x ∷ xs) w
    at true e rest h =
        elim (first_or_later n w (touch.numbers_where test (n + 1) xs) h) [
          | inl same ↦ let z : w - n ≡ 0 = omega arith in record { item = x; from = omega arith; is = rw z refl; passes = e }
          | inr k ↦ later test n x xs w (rest k)
        ]
    at false e rest h = later test n x xs w (rest h)

in_where : {A : Type 0} (test : A → Bool) (n : ℕ) (xs : List A) (k : ℕ) (x : A) → slice_get xs k ≡ Some x → test x ≡ true → Contains (touch.numbers_where test n xs) (n + k)
in_where test n [] k x is p = cc
in_where {A} test n (y ∷ ys) zero x is p =
    let same : y ≡ x = cc in
    let t : test y ≡ true = ap test same ∙ p in
    rw (t, add-zero) (in_first n (touch.numbers_where test (n + 1) ys))
in_where {A} test n (y ∷ ys) (suc k) x is p =
    let e : (n + 1) + k ≡ n + suc k = omega arith in
    at (test y) refl (subst (λ z. Contains (touch.numbers_where test (n + 1) ys) z) e (in_where test (n + 1) ys k x is p))
  where
    at : (b : Bool) → test y ≡ b → Contains (touch.numbers_where test (n + 1) ys) (n + suc k) → Contains (cond b (n ∷ touch.numbers_where test (n + 1) ys) (touch.numbers_where test (n + 1) ys)) (n + suc k)
    at true e r = in_later n (n + suc k) (touch.numbers_where test (n + 1) ys) r
    at false e r = r

-- what is notified for the next delta cycle is a number of these
pub next_from : (test : BoundEvent → Bool) (events : List BoundEvent) (x : touch.Touch) → Contains (touch.notified_next (touch.numbers_where test 0 events)) x → (e : ℕ) × (x ≡ touch.Notifies e None) × PassesAt test 0 events e
next_from test events x h =
    let m = mapped_from (λ e. touch.Notifies e None) (touch.numbers_where test 0 events) x h in
    (m.0, sym m.2, passes_at test 0 events m.0 m.1)

pub in_next : (test : BoundEvent → Bool) (events : List BoundEvent) (e : ℕ) (event : BoundEvent) → slice_get events e ≡ Some event → test event ≡ true → Contains (touch.notified_next (touch.numbers_where test 0 events)) (touch.Notifies e None)
in_next test events e event is p =
    let z : 0 + e ≡ e = omega arith in
    in_mapped (λ n. touch.Notifies n None) (touch.numbers_where test 0 events) e (subst (λ n. Contains (touch.numbers_where test 0 events) n) z (in_where test 0 events e event is p))

-- ---- notifications

-- the channels of which events are notified are those that are told
pub record AreTold (changed taken given : List Bool) (told : List Told) : Type 0 where
  pub changed_is : (n : ℕ) → IsIn changed n ↔ IsTold part.Changed n told
  pub taken_is : (n : ℕ) → IsIn taken n ↔ IsTold part.Taken n told
  pub given_is : (n : ℕ) → IsIn given n ↔ IsTold part.Given n told

changes_is : (u : Told) (n : ℕ) → number_of part.Changed u ≡ Some n → u ≡ tells.Changes n
changes_is (tells.Changes c) n e = let q : c ≡ n = cc in ap tells.Changes q
changes_is u n e = absurd cc

read_is : (u : Told) (n : ℕ) → number_of part.Taken u ≡ Some n → u ≡ tells.DataRead n
read_is (tells.DataRead c) n e = let q : c ≡ n = cc in ap tells.DataRead q
read_is u n e = absurd cc

written_is : (u : Told) (n : ℕ) → number_of part.Given u ≡ Some n → u ≡ tells.DataWritten n
written_is (tells.DataWritten c) n e = let q : c ≡ n = cc in ap tells.DataWritten q
written_is u n e = absurd cc

told_next : (events : List BoundEvent) (told : List Told) (u v : Told) (test : BoundEvent → Bool) (e : ℕ) (event : BoundEvent) → Contains told u → u ≡ v → meant events v ≡ touch.notified_next (touch.numbers_where test 0 events) → slice_get events e ≡ Some event → test event ≡ true → Contains (all_meant events told) (touch.Notifies e None)
told_next events told u v test e event among same m is p =
    in_meant events told u (touch.Notifies e None) among (subst (λ w. Contains (meant events w) (touch.Notifies e None)) (sym same) (subst (λ xs. Contains xs (touch.Notifies e None)) (sym m) (in_next test events e event is p)))

called_meant : (changed taken given : List Bool) (events : List BoundEvent) (told : List Told) (e : ℕ) (x : BoundEvent) → AreTold changed taken given told → slice_get events e ≡ Some x → IsCalled changed taken given x → Contains (all_meant events told) (touch.Notifies e None)
called_meant changed taken given events told e event.Own a is h = absurd h
called_meant changed taken given events told e (event.Changed c) a is h =
    let t = (a.changed_is c).0 h in told_next events told t.one (tells.Changes c) (touch.is_of_signal c) e (event.Changed c) t.among (changes_is t.one c t.is) refl is (eq-eqb c c refl)
called_meant changed taken given events told e (event.Rise c) a is h =
    let t = (a.changed_is c).0 h in told_next events told t.one (tells.Changes c) (touch.is_of_signal c) e (event.Rise c) t.among (changes_is t.one c t.is) refl is (eq-eqb c c refl)
called_meant changed taken given events told e (event.Fall c) a is h =
    let t = (a.changed_is c).0 h in told_next events told t.one (tells.Changes c) (touch.is_of_signal c) e (event.Fall c) t.among (changes_is t.one c t.is) refl is (eq-eqb c c refl)
called_meant changed taken given events told e (event.Written c) a is h =
    let t = (a.given_is c).0 h in told_next events told t.one (tells.DataWritten c) (touch.is_data_written c) e (event.Written c) t.among (written_is t.one c t.is) refl is (eq-eqb c c refl)
called_meant changed taken given events told e (event.Taken c) a is h =
    let t = (a.taken_is c).0 h in told_next events told t.one (tells.DataRead c) (touch.is_data_read c) e (event.Taken c) t.among (read_is t.one c t.is) refl is (eq-eqb c c refl)

signal_called : (changed taken given : List Bool) (c : ℕ) (x : BoundEvent) → touch.is_of_signal c x ≡ true → IsIn changed c → IsCalled changed taken given x
signal_called changed taken given c (event.Changed d) e h = subst (λ n. IsIn changed n) (eqb-true c d e) h
signal_called changed taken given c (event.Rise d) e h = subst (λ n. IsIn changed n) (eqb-true c d e) h
signal_called changed taken given c (event.Fall d) e h = subst (λ n. IsIn changed n) (eqb-true c d e) h
signal_called changed taken given c x e h = absurd cc

written_called : (changed taken given : List Bool) (c : ℕ) (x : BoundEvent) → touch.is_data_written c x ≡ true → IsIn given c → IsCalled changed taken given x
written_called changed taken given c (event.Written d) e h = subst (λ n. IsIn given n) (eqb-true c d e) h
written_called changed taken given c x e h = absurd cc

read_called : (changed taken given : List Bool) (c : ℕ) (x : BoundEvent) → touch.is_data_read c x ≡ true → IsIn taken c → IsCalled changed taken given x
read_called changed taken given c (event.Taken d) e h = subst (λ n. IsIn taken n) (eqb-true c d e) h
read_called changed taken given c x e h = absurd cc

from_next : (changed taken given : List Bool) (events : List BoundEvent) (test : BoundEvent → Bool) (e : ℕ) (t : Option Time) → ((x : BoundEvent) → test x ≡ true → IsCalled changed taken given x) → Contains (touch.notified_next (touch.numbers_where test 0 events)) (touch.Notifies e t) → (t ≡ None) × IsCalledAt changed taken given events e
from_next changed taken given events test e t called m =
    let r = next_from test events (touch.Notifies e t) m in
    let q = r.1 in
    let a : e ≡ r.0 = cc in
    let b : t ≡ None = cc in
    let z : r.0 - 0 ≡ e = omega arith in
    (b, record { event = r.2.item; is = subst (λ n. slice_get events n ≡ Some r.2.item) z r.2.is; called = called r.2.item r.2.passes })

meant_from : (changed taken given : List Bool) (events : List BoundEvent) (told : List Told) (e : ℕ) (t : Option Time) (u : Told) → AreTold changed taken given told → Contains told u → Contains (meant events u) (touch.Notifies e t) → Contains told (tells.Notifies e t) ⊎ ((t ≡ None) × IsCalledAt changed taken given events e)
meant_from changed taken given events told e t (tells.Notifies f s) a among m =
    let q = one_is (touch.Notifies f s) (touch.Notifies e t) m in
    let x : f ≡ e = cc in
    let y : s ≡ t = cc in
    let same : tells.Notifies f s ≡ tells.Notifies e t = cc in
    inl (subst (λ w. Contains told w) same among)
meant_from changed taken given events told e t (tells.Changes c) a among m =
    inr (from_next changed taken given events (touch.is_of_signal c) e t (λ x p. signal_called changed taken given c x p ((a.changed_is c).1 (record { one = tells.Changes c; among = among; is = refl }))) m)
meant_from changed taken given events told e t (tells.DataRead c) a among m =
    inr (from_next changed taken given events (touch.is_data_read c) e t (λ x p. read_called changed taken given c x p ((a.taken_is c).1 (record { one = tells.DataRead c; among = among; is = refl }))) m)
meant_from changed taken given events told e t (tells.DataWritten c) a among m =
    inr (from_next changed taken given events (touch.is_data_written c) e t (λ x p. written_called changed taken given c x p ((a.given_is c).1 (record { one = tells.DataWritten c; among = among; is = refl }))) m)
meant_from changed taken given events told e t u a among m = let q = one_is _ _ m in absurd cc

-- the notifications that are listed are those that are meant
pub notices_meant : (changed taken given : List Bool) (events : List BoundEvent) (told : List Told) (direct notices : List Notice) → AreTold changed taken given told → HasDirect told direct → ((e : ℕ) (t : Option Time) → Contains notices (e, t) ↔ (Contains direct (e, t) ⊎ ((t ≡ None) × IsCalledAt changed taken given events e))) → (e : ℕ) (t : Option Time) → Contains notices (e, t) ↔ Contains (all_meant events told) (touch.Notifies e t)
notices_meant changed taken given events told direct notices a d h e t = (
  λ w. elim ((h e t).0 w) [
    | inl b ↦ in_meant events told (tells.Notifies e t) (touch.Notifies e t) ((d.has e t).0 b) (in_first (touch.Notifies e t) [])
    | inr b ↦ subst (λ s. Contains (all_meant events told) (touch.Notifies e s)) (sym b.0) (called_meant changed taken given events told e b.1.event a b.1.is b.1.called)
  ],
  λ w.
      let m = meant_by events told (touch.Notifies e t) w in
      elim (meant_from changed taken given events told e t m.one a m.among m.meant_is) [
        | inl b ↦ (h e t).1 (inl ((d.has e t).1 b))
        | inr b ↦ (h e t).1 (inr b)
      ],
)
