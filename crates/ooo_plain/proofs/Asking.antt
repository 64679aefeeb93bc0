-- What the schedule asks of the bank.
use Rattle.std.proofs.Common.{◌≡◌, ◌≢◌, ℕ, zero, suc, ◌<◌, ◌≤◌, ◌+◌, ◌-◌, false, arith, List, [], ◌∷◌, ◌++◌, Option, Some, None, refl, sym, subst, ap, ◌∙◌, inl, inr, ◌⊎◌, ⊎_elim, get_or, map, length, take, drop, drop-cons}
use Rattle.std.proofs.lemmas.List.{get_or-map, get_or-set_same, get_or-set_other, length-set, get_or_read, take_more, take_all, set-get_or}
use Rattle.std.proofs.lemmas.Bool.{cases_eq, false_from_ne_true}
use Rattle.std.proofs.lemmas.List.Elements.{Contains-append_cases}
use Rattle.std.specs.Prelude.{All, Contains, slice_set}
use Rattle.ooo_time.specs.declared.stamp.Stamp.{Stamp}
use Rattle.ooo_time.specs.Stamps.{IsBefore}
use Rattle.ooo_events.specs.Firings.{IsFirstAfter}
use Rattle.ooo_meaning.specs.World.{sooner, least}
use Rattle.ooo_channels.specs.Operations.{Operations}
use Rattle.ooo_channels.specs.Calls.{FiresAt}
use Rattle.ooo_channels.specs.Conditions.{HasEventAt}
use Rattle.ooo_channels.specs.Bank.{BankState, IsBankAfter}
use Rattle.ooo_plain.specs.declared.schedule.Awaited.{Awaited}
use Rattle.ooo_plain.specs.declared.schedule.Schedule.{Schedule}
use Rattle.ooo_plain.specs.Agenda.{due_in}
use Rattle.ooo_plain.specs.Schedule.{nothing_awaited, awaited_at, alone, waits_on, waiting_on, KnowsWaiters, IsLeastOf, MayAskFor, MayAskAll, IsAsked, RefreshedOne, AskedAnew, Touched, TouchedSoFar, TouchedOthers}
use Rattle.ooo_plain.proofs.Least.{neither}

-- there is one first stamp
pub first_same : (P : Stamp → Type 0) (s : Stamp) (a b : Option Stamp) → IsFirstAfter P s a → IsFirstAfter P s b → a ≡ b
first_same P s None None h k = refl
first_same P s None (Some b) h k = absurd (h b k.later k.holds)
first_same P s (Some a) None h k = absurd (k a h.later h.holds)
first_same P s (Some a) (Some b) h k = ap Some (neither a b (h.below b k.later k.holds) (k.below a h.later h.holds))

pub least_more : (bank : BankState) (at : Stamp) (events : List ℕ) (left : ℕ) (found new r : Option Stamp) → 0 < left → left ≤ length events → IsLeastOf bank at (drop left events) found
    → ((ops : Operations) → IsBankAfter bank ops → ¬ IsBefore at ops.below → IsFirstAfter (FiresAt ops (get_or events (left - 1) 0)) at r) → new ≡ sooner r found → IsLeastOf bank at (drop (left - 1) events) new
least_more bank at events left found new r pos le is asked e ops b by first firsts =
    let e0 : ℕ = get_or events (left - 1) 0 in
    let same : suc (left - 1) ≡ left = omega (arith, pos) in
    let cons : drop (left - 1) events ≡ e0 ∷ drop (suc (left - 1)) events = drop-cons events (left - 1) 0 (omega (arith, pos, le)) in
    let all : All (λ e. IsFirstAfter (FiresAt ops e) at (first e)) (e0 ∷ drop left events) = subst (All (λ e. IsFirstAfter (FiresAt ops e) at (first e))) (cons ∙ ap (λ i. e0 ∷ drop i events) same) firsts in
    let one : r ≡ first e0 = first_same (FiresAt ops e0) at r (first e0) (asked ops b by) (all 0 0 (omega arith)) in
    let rest : found ≡ least (map first (drop left events)) = is ops b by first (λ k d lt. all (suc k) d (omega (arith, lt))) in
    e ∙ ap (λ x. sooner x found) one ∙ ap (sooner (first e0)) rest ∙ ap (λ i. least (map first (e0 ∷ drop i events))) (sym same) ∙ ap (λ xs. least (map first xs)) (sym cons)

-- ---- one event alone

single_least : (x : Option Stamp) → x ≡ sooner x None
single_least None = refl
single_least (Some s) = refl

pub one_is : (xs : List ℕ) → length xs ≡ 1 → get_or xs 0 0 ∷ [] ≡ xs
one_is [] one = absurd (omega (arith, one))
one_is (x ∷ []) one = refl
one_is (x ∷ (y ∷ ys)) one = absurd (omega (arith, one))

pub asked_alone : (bank : BankState) (now : Stamp) (e : ℕ) (r : Option Stamp) → ((ops : Operations) → IsBankAfter bank ops → ¬ IsBefore now ops.below → IsFirstAfter (FiresAt ops e) now r) → IsAsked bank now (alone e) r
asked_alone bank now e r is ops b by first firsts = first_same (FiresAt ops e) now r (first e) (is ops b by) (firsts 0 0 (omega arith)) ∙ single_least (first e)

pub least_of_one : (bank : BankState) (now : Stamp) (events : List ℕ) (r : Option Stamp) → length events ≡ 1
    → ((ops : Operations) → IsBankAfter bank ops → ¬ IsBefore now ops.below → IsFirstAfter (FiresAt ops (get_or events 0 0)) now r) → IsLeastOf bank now events r
least_of_one bank now [] r one is ops b by first firsts = absurd (omega (arith, one))
least_of_one bank now (e ∷ []) r one is ops b by first firsts = first_same (FiresAt ops e) now r (first e) (is ops b by) (firsts 0 0 (omega arith)) ∙ single_least (first e)
least_of_one bank now (e ∷ (f ∷ fs)) r one is ops b by first firsts = absurd (omega (arith, one))

-- ---- one process among all

pub awaited_is : (xs : List Awaited) (q : ℕ) (x : Awaited) → q < length xs → x ≡ get_or xs q x → awaited_at xs q ≡ x
awaited_is xs q x lt e = sym (get_or_read xs q x lt e nothing_awaited)

pub may_ask : (bank : BankState) (s : Schedule) (q : ℕ) (x : Awaited) → MayAskAll bank s → q < length s.awaited.items → x ≡ get_or s.awaited.items q x → MayAskFor bank x.events
may_ask bank s q x m lt is = record {
  ops = m.ops;
  bank_is = m.bank_is;
  known = subst (λ h. All (HasEventAt m.ops) h.events) (awaited_is s.awaited.items q x lt is) (m.known q);
}

pub may_ask_alone : (bank : BankState) (s : Schedule) (q e : ℕ) → MayAskAll bank s → awaited_at s.awaited.items q ≡ alone e → MayAskFor bank (e ∷ [])
may_ask_alone bank s q e m is = record {
  ops = m.ops;
  bank_is = m.bank_is;
  known = subst (λ h. All (HasEventAt m.ops) h.events) is (m.known q);
}

pub asked_so : (now : Stamp) (s : Schedule) (a : List (Option Stamp)) (q : ℕ) (due : Option Stamp) → a ≡ slice_set s.agenda q due → ¬ (due_in s.agenda q ≡ Some now)
    → (bank : BankState) → IsAsked bank now (awaited_at s.awaited.items q) due → RefreshedOne q bank now s (record s { agenda = a })
asked_so now s a q due same not bank asked = record {
  rest = refl;
  due = due;
  agenda = same;
  asked = inl (not, asked);
}

pub asked_one : (bank : BankState) (now : Stamp) (s : Schedule) (a : List (Option Stamp)) (q : ℕ) (x : Awaited) (due : Option Stamp) → q < length s.awaited.items → x ≡ get_or s.awaited.items q x → a ≡ slice_set s.agenda q due
    → ¬ (due_in s.agenda q ≡ Some now) → IsAsked bank now x due → RefreshedOne q bank now s (record s { agenda = a })
asked_one bank now s a q x due lt is same not asked = record {
  rest = refl;
  due = due;
  agenda = same;
  asked = inl (not, subst (λ h. IsAsked bank now h due) (sym (awaited_is s.awaited.items q x lt is)) asked);
}

pub not_asked : (bank : BankState) (now : Stamp) (s : Schedule) (q : ℕ) → due_in s.agenda q ≡ Some now → q < length s.agenda → RefreshedOne q bank now s s
not_asked bank now s q is lt = record {
  rest = refl;
  due = due_in s.agenda q;
  agenda = sym (set-get_or s.agenda q None);
  asked = inr (refl, is);
}

-- ---- one after another

single : (y p k : ℕ) → k < 1 → get_or (y ∷ []) k p ≡ p → p ≡ y
single y p zero lt e = sym e
single y p (suc k) lt e = absurd (omega (arith, lt))

pub only : (y q : ℕ) → Contains (y ∷ []) q → q ≡ y
only y q h = single y q h.0 h.1 h.2

pub take_contains : (xs : List ℕ) (n p : ℕ) → n < length xs → Contains (take (n + 1) xs) p → Contains (take n xs) p ⊎ (p ≡ get_or xs n 0)
take_contains xs n p lt h =
    elim (Contains-append_cases (take n xs) (get_or xs n 0 ∷ []) p (subst (λ ys. Contains ys p) (take_more xs n 0 lt) h)) [
      | inl a ↦ inl a
      | inr b ↦ inr (only (get_or xs n 0) p b)
    ]

module _ (bank : BankState) (now : Stamp) (h : Awaited) where
  pub joined : (X : Type 0) (o m d : Option Stamp) → AskedAnew bank now h o m ⊎ ((m ≡ o) × X) → AskedAnew bank now h m d → AskedAnew bank now h o d
  joined X o m d (inl (inl a)) (inl r) = inl (a.0, r.1)
  joined X o m d (inl (inr a)) (inl r) = absurd (r.0 (a.0 ∙ a.1))
  joined X o m d (inl a) (inr r) = subst (AskedAnew bank now h o) (sym r.0) a
  joined X o m d (inr a) (inl r) = inl ((λ e. r.0 (a.0 ∙ e)), r.1)
  joined X o m d (inr a) (inr r) = inr (r.0 ∙ a.0, sym a.0 ∙ r.1)

  -- the second leaves it
  pub stayed : (X Y Z : Type 0) (o m d : Option Stamp) → (X → Y → Z) → AskedAnew bank now h o m ⊎ ((m ≡ o) × X) → (d ≡ m) × Y → AskedAnew bank now h o d ⊎ ((d ≡ o) × Z)
  stayed X Y Z o m d both (inl a) r = inl (subst (AskedAnew bank now h o) (sym r.0) a)
  stayed X Y Z o m d both (inr a) r = inr (r.0 ∙ a.0, both a.1 r.1)

module _ (bank : BankState) (now : Stamp) (i n q : ℕ) (old mid new : Schedule) where
  pub asked_again : TouchedSoFar i n bank now old mid → n < length (waiting_on old i) → q ≡ get_or (waiting_on old i) n 0 → q < length mid.agenda → RefreshedOne q bank now mid new → TouchedSoFar i (n + 1) bank now old new
  asked_again h lt is within r = record {
    rest = r.rest ∙ ap {A = Schedule} (λ e. record e { agenda = new.agenda }) h.rest;
    count = ap length r.agenda ∙ length-set mid.agenda q r.due ∙ h.count;
    each = λ p below. ⊎_elim (λ e. inl (here p e below)) (λ ne. there p ne below) (cases_eq p q);
  } where
    asked : AskedAnew bank now (awaited_at old.awaited.items q) (due_in mid.agenda q) r.due
    asked = subst (λ m. AskedAnew bank now (awaited_at m.awaited.items q) (due_in mid.agenda q) r.due) h.rest r.asked

    here : (p : ℕ) → p ≡ q → p < length old.agenda → AskedAnew bank now (awaited_at old.awaited.items p) (due_in old.agenda p) (due_in new.agenda p)
    here p e below = subst (λ x. AskedAnew bank now (awaited_at old.awaited.items x) (due_in old.agenda x) (due_in new.agenda x)) (sym e)
        (subst (AskedAnew bank now (awaited_at old.awaited.items q) (due_in old.agenda q)) (sym (ap (λ a. due_in a q) r.agenda ∙ get_or-set_same mid.agenda q r.due None within))
        (joined bank now (awaited_at old.awaited.items q) (¬ Contains (take n (waiting_on old i)) q) (due_in old.agenda q) (due_in mid.agenda q) r.due (h.each q (subst (λ x. x < length old.agenda) e below)) asked))

    there : (p : ℕ) → p ≢ q → p < length old.agenda → AskedAnew bank now (awaited_at old.awaited.items p) (due_in old.agenda p) (due_in new.agenda p) ⊎ ((due_in new.agenda p ≡ due_in old.agenda p) × ¬ Contains (take (n + 1) (waiting_on old i)) p)
    there p ne below =
        let same : due_in new.agenda p ≡ due_in mid.agenda p = ap (λ a. due_in a p) r.agenda ∙ get_or-set_other mid.agenda q p r.due None ne in
        elim (h.each p below) [
          | inl a ↦ inl (subst (AskedAnew bank now (awaited_at old.awaited.items p) (due_in old.agenda p)) (sym same) a)
          | inr a ↦ inr (same ∙ a.0, λ c. ⊎_elim (λ x. a.1 x) (λ x. ne (x ∙ sym is)) (take_contains (waiting_on old i) n p lt c))
        ]

-- the next one waits on the event alone
pub touched_others : (bank : BankState) (now : Stamp) (e n q : ℕ) (old mid : Schedule) → TouchedSoFar e n bank now old mid → n < length (waiting_on old e) → MayAskAll bank old → awaited_at mid.awaited.items q ≡ alone e → TouchedOthers e n bank now old mid
touched_others bank now e n q old mid h lt may is = record {
  so_far = h;
  within = omega (arith, lt);
  known = λ more. may_ask_alone bank old q e may (ap {A = Schedule} (λ s. awaited_at s.awaited.items q) (sym h.rest) ∙ is);
}

-- all were asked
pub touched_every : (bank : BankState) (now : Stamp) (e n count : ℕ) (old mid : Schedule) → TouchedSoFar e n bank now old mid → n ≡ count → count ≡ length (waiting_on old e) → TouchedOthers e count bank now old mid
touched_every bank now e n count old mid h same all = record {
  so_far = subst (λ i. TouchedSoFar e i bank now old mid) same h;
  within = omega (arith, all);
  known = λ more. absurd (omega (arith, all, more));
}

-- how many stand in a list of lists
pub count_in : {A : Type 0} (f : A → List ℕ) (ws : List A) (e : ℕ) (v : A) → e < length ws → v ≡ get_or ws e v → length (f v) ≡ length (get_or (map f ws) e [])
count_in f ws e v lt is = ap length (ap f is ∙ sym (get_or-map f ws e v [] lt))

pub touched_all : (bank : BankState) (now : Stamp) (i n : ℕ) (old new : Schedule) → KnowsWaiters old → length (waiting_on old i) ≤ n → TouchedSoFar i n bank now old new → Touched (i ∷ []) bank now old new
touched_all bank now i n old new knows le h = record {
  rest = h.rest;
  count = h.count;
  each = λ p lt. elim (h.each p lt) [
    | inl a ↦ inl a
    | inr a ↦ inr (a.0, λ e c. false_from_ne_true _ (λ y. a.1 (subst (λ xs. Contains xs p) (sym (take_all n (waiting_on old i) le)) (subst (λ x. Contains (waiting_on old x) p) (only i e c) (knows.all p e y)))))
  ];
}

-- what an index of a list of lists reads
pub read_in : {A : Type 0} (f : A → List ℕ) (ws : List A) (e i q : ℕ) (v : A) → e < length ws → v ≡ get_or ws e v → i < length (get_or (map f ws) e []) → q ≡ get_or (f v) i q → q ≡ get_or (get_or (map f ws) e []) i 0
read_in f ws e i q v lt is below read =
    let same : get_or (map f ws) e [] ≡ f v = get_or-map f ws e v [] lt ∙ ap f (sym is) in
    get_or_read (f v) i q (subst (λ xs. i < length xs) same below) read 0 ∙ ap (λ xs. get_or xs i 0) (sym same)

-- ---- several events

pub touched_none : (bank : BankState) (now : Stamp) (s : Schedule) → Touched [] bank now s s
touched_none bank now s = record { rest = refl; count = refl; each = λ p lt. inr (refl, λ e c. absurd (let l = c.1 in omega (arith, l))) }

-- none of these events is waited on
abbrev pub Spared : Awaited → List ℕ → Type 0
Spared h xs = (e : ℕ) → Contains xs e → waits_on e h ≡ false

pub touched_both : (bank : BankState) (now : Stamp) (es fs : List ℕ) (old mid new : Schedule) → Touched es bank now old mid → Touched fs bank now mid new → Touched (es ++ fs) bank now old new
touched_both bank now es fs old mid new h k = record {
  rest = k.rest ∙ ap {A = Schedule} (λ e. record e { agenda = new.agenda }) h.rest;
  count = k.count ∙ h.count;
  each = λ p lt.
      let awaited : awaited_at mid.awaited.items p ≡ awaited_at old.awaited.items p = ap {A = Schedule} (λ m. awaited_at m.awaited.items p) h.rest in
      elim (k.each p (let c = h.count in omega (arith, lt, c))) [
        | inl a ↦ inl (joined bank now (awaited_at old.awaited.items p) ((e : ℕ) → Contains es e → waits_on e (awaited_at old.awaited.items p) ≡ false) _ _ _ (h.each p lt) (subst (λ x. AskedAnew bank now x (due_in mid.agenda p) (due_in new.agenda p)) awaited a))
        | inr a ↦ stayed bank now (awaited_at old.awaited.items p) (Spared (awaited_at old.awaited.items p) es) (Spared (awaited_at old.awaited.items p) fs) (Spared (awaited_at old.awaited.items p) (es ++ fs)) (due_in old.agenda p) (due_in mid.agenda p) (due_in new.agenda p)
            (λ x y e c. ⊎_elim (x e) (y e) (Contains-append_cases es fs e c)) (h.each p lt) (a.0, λ e c. ap (waits_on e) (sym awaited) ∙ a.1 e c)
      ];
}

-- who waits for what stays
pub touched_knows : (bank : BankState) (now : Stamp) (es : List ℕ) (old new : Schedule) → Touched es bank now old new → KnowsWaiters old → KnowsWaiters new
touched_knows bank now es old new h k = subst KnowsWaiters (sym h.rest) (record { count = h.count ∙ k.count; all = k.all; within = k.within })

pub touched_may : (bank : BankState) (now : Stamp) (es : List ℕ) (old new : Schedule) → Touched es bank now old new → MayAskAll bank old → MayAskAll bank new
touched_may bank now es old new h k = subst (MayAskAll bank) (sym h.rest) (record { ops = k.ops; bank_is = k.bank_is; known = k.known })
