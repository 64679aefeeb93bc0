-- The queue of an agenda has what is due.
use Rattle.std.proofs.Common.{◌≡◌, ◌≢◌, ℕ, suc, ◌<◌, ◌≤◌, Bool, true, false, cond, arith, List, [], ◌∷◌, Option, Some, None, refl, sym, subst, ap, ◌∙◌, map, set, length, ⊎_elim, le-ltb, eq-eqb}
use Rattle.std.proofs.lemmas.Bool.{cases_eq, ne_eqb, cases_lt, false_from_ne_true}
use Rattle.std.proofs.lemmas.List.Folds.{list_any_at}
use Rattle.std.proofs.lemmas.List.{get_or-set_same, get_or-set_other, get_or_past}
use Rattle.std.proofs.lemmas.Map.Lookups.{exact_unsigned}
use Rattle.std.specs.declared.cmp.Ordering.{Ordering}
use Rattle.std.specs.declared.cmp.Ordering.TheVariants.{Less, Equal, Greater}
use Rattle.std.specs.Ordering.{nat_cmp, ordering_then, is_gt, is_eq}
use Rattle.std.specs.BTreeSet.{BTreeSet, contains}
use Rattle.std.specs.List.{list_any}
use Rattle.ooo_time.specs.declared.stamp.Stamp.{Stamp}
use Rattle.ooo_time.specs.Stamps.{IsBefore}
use Rattle.ooo_plain.specs.declared.agenda.Due.{Due}
use Rattle.ooo_meaning.specs.World.{is_at, least}
use Rattle.ooo_plain.specs.Agenda.{due_in, due_cmp, AllFrom, Takes, TakesNone}
use Rattle.ooo_plain.specs.Row.{IsUpTo, IsLowest}
use Rattle.ooo_plain.proofs.Order.{stamps_same, some_same}
use Rattle.ooo_plain.proofs.Least.{From, at_same, at_is, neither, at_least, from_least}

abbrev pub due_at : Stamp → ℕ → Due
due_at t p = record { stamp = t; process = p }

-- ---- the order of keys

then_equal : (o q : Ordering) → ordering_then o q ≡ Equal → (o ≡ Equal) × (q ≡ Equal)
then_equal Less q e = absurd cc
then_equal Equal q e = (refl, e)
then_equal Greater q e = absurd cc

is_equal : (o : Ordering) → is_eq o ≡ true → o ≡ Equal
is_equal Less e = absurd cc
is_equal Equal e = refl
is_equal Greater e = absurd cc

pub same_due : (k q : Due) → k.stamp ≡ q.stamp → k.process ≡ q.process → k ≡ q
same_due k q e f = rw (e, f) refl

pub key_same : (k q : Due) → is_eq (due_cmp k q) ≡ true → k ≡ q
key_same k q e =
    let a = then_equal _ _ (is_equal (due_cmp k q) e) in
    let b = then_equal _ _ a.0 in
    same_due k q (stamps_same k.stamp q.stamp (exact_unsigned _ _ b.0) (exact_unsigned _ _ b.1)) (exact_unsigned _ _ a.1)

cmp_equal : (x y : ℕ) → x ≡ y → nat_cmp x y ≡ Equal
cmp_equal x y e = rw (le-ltb x y (omega (arith, e)), eq-eqb x y e) refl

cmp_greater : (x y : ℕ) → y < x → nat_cmp x y ≡ Greater
cmp_greater x y lt = rw (le-ltb x y (omega arith), ne_eqb x y (λ e. absurd (omega (arith, e)))) refl

pub key_self : (k : Due) → is_eq (due_cmp k k) ≡ true
key_self k = rw (cmp_equal k.stamp.time.0 k.stamp.time.0 refl, cmp_equal k.stamp.delta k.stamp.delta refl, cmp_equal k.process k.process refl) refl

greater : (k q : Due) → IsBefore q.stamp k.stamp → is_gt (due_cmp k q) ≡ true
greater k q h =
    ⊎_elim
    (λ lt. rw (cmp_greater k.stamp.time.0 q.stamp.time.0 lt) refl)
    (λ d. rw (cmp_equal k.stamp.time.0 q.stamp.time.0 (sym d.0), cmp_greater k.stamp.delta q.stamp.delta d.1) refl)
    h

no_more : {b : Bool} → b ≡ true → b ≡ false → ⊥
no_more e f = let g : true ≡ false = sym e ∙ f in absurd cc

-- what a key is not above isn't before it
pub stamp_above : (k q : Due) → is_gt (due_cmp k q) ≡ false → ¬ IsBefore q.stamp k.stamp
stamp_above k q e h = no_more (greater k q h) e

pub process_above : (k q : Due) → k.stamp ≡ q.stamp → is_gt (due_cmp k q) ≡ false → k.process ≤ q.process
process_above k q e f =
    ⊎_elim
    (λ lt. let g : is_gt (due_cmp k q) ≡ true = rw (cmp_equal k.stamp.time.0 q.stamp.time.0 (ap (λ x. x.time.0) e), cmp_equal k.stamp.delta q.stamp.delta (ap (λ x. x.delta) e), cmp_greater k.process q.process lt) refl in absurd (no_more g f))
    (λ le. le)
    (cases_lt q.process k.process)

pub lowest_of : (has : Due → Bool) (k : Due) → has k ≡ true → ((q : Due) → has q ≡ true → is_gt (due_cmp k q) ≡ false) → IsLowest has k
lowest_of has k is least = record {
  member = is;
  lowest = λ q e. record { stamp = stamp_above k q (least q e); process = λ s. process_above k q s (least q e) };
}

-- ---- a key is removed, or added

pub other_key : (k q : Due) → is_eq (due_cmp k q) ≡ false → k ≢ q
other_key k q e f = let g : is_eq (due_cmp k q) ≡ true = subst (λ x. is_eq (due_cmp k x) ≡ true) f (key_self k) in let h : true ≡ false = sym g ∙ e in cc

module _ (dues : List (Option Stamp)) (p : ℕ) (t : Stamp) (lt : p < length dues) (has new : Due → Bool) where
  abbrev k : Due
  k = due_at t p

  other_due : (q : Due) → q.process ≡ p → t ≡ q.stamp → k ≡ q
  other_due q f e = same_due k q e (sym f)

  pub exact_removed : ((q : Due) → has q ≡ is_at q.stamp (due_in dues q.process)) → due_in dues p ≡ Some t → ((q : Due) → new q ≡ cond (is_eq (due_cmp k q)) false (has q)) → (q : Due) → new q ≡ is_at q.stamp (due_in (set dues p None) q.process)
  exact_removed exact due is q = is q ∙ go (is_eq (due_cmp k q)) refl where
    there : is_eq (due_cmp k q) ≡ false → (q.process ≡ p) → is_at q.stamp (due_in dues q.process) ≡ false
    there e f = false_from_ne_true _ (λ g. other_key k q e (other_due q f (some_same (sym (ap (due_in dues) f ∙ due) ∙ at_is q.stamp _ g))))

    go : (b : Bool) → is_eq (due_cmp k q) ≡ b → cond b false (has q) ≡ is_at q.stamp (due_in (set dues p None) q.process)
    go true e = let same : k ≡ q = key_same k q e in subst (λ x. false ≡ is_at x.stamp (due_in (set dues p None) x.process)) same (rw (get_or-set_same dues p None None lt) refl)
    go false e =
        ⊎_elim
        (λ f. exact q ∙ there e f ∙ sym (ap (λ i. is_at q.stamp (due_in (set dues p None) i)) f ∙ ap (is_at q.stamp) (get_or-set_same dues p None None lt)))
        (λ ne. exact q ∙ ap (is_at q.stamp) (sym (get_or-set_other dues p q.process None None ne)))
        (cases_eq q.process p)

  pub exact_added : ((q : Due) → has q ≡ is_at q.stamp (due_in dues q.process)) → due_in dues p ≡ None → ((q : Due) → new q ≡ cond (is_eq (due_cmp k q)) true (has q)) → (q : Due) → new q ≡ is_at q.stamp (due_in (set dues p (Some t)) q.process)
  exact_added exact due is q = is q ∙ go (is_eq (due_cmp k q)) refl where
    go : (b : Bool) → is_eq (due_cmp k q) ≡ b → cond b true (has q) ≡ is_at q.stamp (due_in (set dues p (Some t)) q.process)
    go true e = let same : k ≡ q = key_same k q e in subst (λ x. true ≡ is_at x.stamp (due_in (set dues p (Some t)) x.process)) same (rw (get_or-set_same dues p (Some t) None lt) (sym (at_same t)))
    go false e =
        ⊎_elim
        (λ f. exact q ∙ ap (is_at q.stamp) (ap (due_in dues) f ∙ due) ∙ sym (ap (λ i. is_at q.stamp (due_in (set dues p (Some t)) i)) f ∙ ap (is_at q.stamp) (get_or-set_same dues p (Some t) None lt)
        ∙ false_from_ne_true _ (λ g. other_key k q e (other_due q f (some_same (at_is q.stamp (Some t) g))))))
        (λ ne. exact q ∙ ap (is_at q.stamp) (sym (get_or-set_other dues p q.process (Some t) None ne)))
        (cases_eq q.process p)

-- ---- the first of all

module _ (dues : List (Option Stamp)) (has : Due → Bool) (exact : (q : Due) → has q ≡ is_at q.stamp (due_in dues q.process)) where
  -- each that is due is there
  queued : (p : ℕ) (t : Stamp) → due_in dues p ≡ Some t → has (due_at t p) ≡ true
  queued p t e = exact (due_at t p) ∙ ap (is_at t) e ∙ at_same t

  pub never_due : ((q : Due) → has q ≡ false) → (p : ℕ) → due_in dues p ≡ None
  never_due h p = go (due_in dues p) refl where
    go : (o : Option Stamp) → due_in dues p ≡ o → o ≡ None
    go None e = refl
    go (Some t) e = absurd (no_more (queued p t e) (h (due_at t p)))

  module _ (k : Due) (is : has k ≡ true) (lowest : (q : Due) → has q ≡ true → IsUpTo k q) where
    pub first_due : due_in dues k.process ≡ Some k.stamp
    first_due = at_is k.stamp _ (sym (exact k) ∙ is)

    pub first_within : k.process < length dues
    first_within = ⊎_elim (λ lt. lt) (λ le. let e : None ≡ Some k.stamp = sym (get_or_past dues k.process None le) ∙ first_due in absurd cc) (cases_lt k.process (length dues))

    pub all_from : AllFrom k.stamp dues
    all_from p t e = (lowest (due_at t p) (queued p t e)).stamp

    pub first_takes : (now : Stamp) (new : List (Option Stamp)) → AllFrom now dues → ¬ IsBefore now k.stamp → new ≡ set dues k.process None → Takes k.process now dues new
    first_takes now new from le e =
        let same : k.stamp ≡ now = neither k.stamp now le (from k.process k.stamp first_due) in
        record {
          within = first_within;
          due = first_due ∙ ap Some same;
          lowest = λ q lt d. absurd (let above : k.process ≤ q = (lowest (due_at now q) (queued q now d)).process same in omega (arith, lt, above));
          new_is = e;
        }

    pub takes_none : (now : Stamp) → IsBefore now k.stamp → TakesNone now dues dues
    takes_none now lt = record { none = λ p e. all_from p now e lt; same = refl }

map_same : {A : Type 0} (xs : List A) → map (λ x. x) xs ≡ xs
map_same [] = refl
map_same (x ∷ xs) = ap (λ ys. x ∷ ys) (map_same xs)

from_all : (s : Stamp) (o : Option Stamp) → ((t : Stamp) → o ≡ Some t → ¬ IsBefore t s) → From s o
from_all s None h = tt
from_all s (Some t) h = h t refl

pub least_is : (dues : List (Option Stamp)) (t : Stamp) (p : ℕ) → AllFrom t dues → due_in dues p ≡ Some t → p < length dues → least dues ≡ Some t
least_is dues t p from is lt =
    let f : From t (least (map (λ x. x) dues)) = from_least (λ x. x) t dues None (λ i. from_all t (due_in dues i) (from i)) in
    at_is t (least dues) (subst (λ xs. is_at t (least xs) ≡ true) (map_same dues) (at_least (λ x. x) t dues f ∙ list_any_at (is_at t) dues p None lt (ap (is_at t) is ∙ at_same t)))

pub least_none : (dues : List (Option Stamp)) → ((p : ℕ) → due_in dues p ≡ None) → least dues ≡ None
least_none [] h = refl
least_none (x ∷ xs) h = rw (h 0, least_none xs (λ p. h (suc p))) refl

-- ---- as the code has it

no_key : (f : Due → Bool) (ks : List Due) → (0 < length ks → false ≡ true) → list_any f ks ≡ false
no_key f [] h = refl
no_key f (k ∷ ks) h = let e : false ≡ true = h (omega arith) in absurd cc

pub no_queue : (s : BTreeSet Due) → (0 < length s.keys → false ≡ true) → (q : Due) → contains due_cmp s q ≡ false
no_queue s h q = no_key _ s.keys h
