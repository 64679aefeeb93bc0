-- What a board that is over reports, by what ends its run.
use Rattle.std.proofs.Common.{◌≡◌, ℕ, ◌<◌, ◌⊎◌, inl, inr, ⊎_elim, Bool, true, false, not, ◌&&◌, ◌||◌, ◌==◌, nat_lt, if◌then◌else◌, List, [], ◌∷◌, Option, Some, None, refl, sym, ap, ◌∙◌, subst, arith}
use Rattle.std.specs.List.{list_any}
use Rattle.std.proofs.lemmas.Bool.{cases_order, lt-ltb, ltb-true}
use Rattle.ooo_time.specs.declared.stamp.Place.{Place}
use Rattle.ooo_time.specs.declared.stamp.Stamp.{Stamp}
use Rattle.ooo_time.specs.Stamps.{ComesBefore, IsBefore, is_before}
use Rattle.ooo_code.specs.declared.activation.JobEnd.{JobEnd}
use Rattle.ooo_code.specs.declared.activation.JobEnd.TheVariants as job
use Rattle.ooo_history.specs.declared.run.End.{End}
use Rattle.ooo_meaning.specs.World.{broken_by, next_delta, place_of}
use Rattle.ooo_schedules.specs.Delays.{NotAfter}
use Rattle.ooo_schedules.specs.Model.{In}
use Rattle.ooo_schedules.specs.Program.{Program}
use Rattle.ooo_schedules.specs.Reports.{cuts_off, is_below_limit}
use Rattle.ooo_schedules.specs.Tables.{program}
use Rattle.ooo_dispatch.specs.ReadOff.{Ends, IsFirstBreak, IsFirstStop, break_shown, calls_stop, counted_before, counted_by, is_past_break, is_past_stop, is_shown, limit_reached, precedes, stop_shown}
use Rattle.ooo_dispatch.specs.Rules.{Rules, breaks_by, outcome_of, tables}
use Rattle.ooo_dispatch.proofs.Commits.{Activation}
use Rattle.ooo_dispatch.proofs.Stamps.{before_no, before_yes, compare, delta_not_after, irreflexive, is_no, is_yes, then_not_after, transitive}

-- ---- of truth values

pub both_ways : (a b : Bool) → (a ≡ true → b ≡ true) → (b ≡ true → a ≡ true) → a ≡ b
both_ways true b f g = sym (f refl)
both_ways false true f g = g refl
both_ways false false f g = refl

pub not_true : (b : Bool) → (b ≡ true → ⊥) → b ≡ false
not_true true n = absurd (n refl)
not_true false n = refl

pub apart : {b : Bool} → b ≡ true → b ≡ false → ⊥
apart p q = let c : true ≡ false = sym p ∙ q in cc

or_yes : (b : Bool) → (b || true) ≡ true
or_yes true = refl
or_yes false = refl

or_parts : (a b : Bool) → (a || b) ≡ true → (a ≡ true) ⊎ (b ≡ true)
or_parts true b h = inl refl
or_parts false b h = inr h

or_no : (a b : Bool) → (a || b) ≡ false → (a ≡ false) × (b ≡ false)
or_no true b h = absurd (let c : true ≡ false = h in cc)
or_no false b h = (refl, h)

and_parts : (a b : Bool) → (a && b) ≡ true → (a ≡ true) × (b ≡ true)
and_parts true b h = (refl, h)
and_parts false b h = absurd (let c : false ≡ true = h in cc)

not_is : (b : Bool) → not b ≡ true → b ≡ false
not_is true h = absurd (let c : false ≡ true = h in cc)
not_is false h = refl

-- ---- of lists

pub any_in : {A : Type 0} (test : A → Bool) (xs : List A) → list_any test xs ≡ true → (x : A) × In x xs × (test x ≡ true)
any_in test [] h = absurd (let c : false ≡ true = h in cc)
any_in test (x ∷ xs) h = ⊎_elim (λ e. (x, inl refl, e)) (λ e. let r = any_in test xs e in (r.0, inr r.1, r.2)) (or_parts (test x) (list_any test xs) h)

pub in_any : {A : Type 0} (test : A → Bool) (xs : List A) (x : A) → In x xs → test x ≡ true → list_any test xs ≡ true
in_any test [] x i e = absurd i
in_any test (y ∷ xs) x (inl k) e = ap (λ b. b || list_any test xs) (ap test (sym k) ∙ e)
in_any test (y ∷ xs) x (inr i) e = ap (λ b. test y || b) (in_any test xs x i e) ∙ or_yes (test y)

-- ---- the order of places

pub place_is : (a b : Place) → a.stamp ≡ b.stamp → a.process ≡ b.process → a ≡ b
place_is a b e f = ap (λ s. place_of s a.process) e ∙ ap (λ q. place_of b.stamp q) f

pub same_stamps : (s t : Stamp) → is_before s t ≡ false → is_before t s ≡ false → s ≡ t
same_stamps s t p q =
    ⊎_elim (λ h. absurd (apart (before_yes s t h) p)) (λ h. ⊎_elim (λ e. e) (λ k. absurd (apart (before_yes t s k) q)) h) (compare s t)

pub precedes_is : (a b : Place) → precedes a b ≡ true → ComesBefore a b
precedes_is a b h = at (is_before a.stamp b.stamp) (is_before b.stamp a.stamp) (nat_lt a.process b.process) refl refl refl h
  where
    at : (x y z : Bool) → is_before a.stamp b.stamp ≡ x → is_before b.stamp a.stamp ≡ y → nat_lt a.process b.process ≡ z → (x || (not y && z)) ≡ true → ComesBefore a b
    at true y z p q s k = inl (is_yes a.stamp b.stamp p)
    at false true z p q s k = absurd (let c : false ≡ true = k in cc)
    at false false true p q s k = inr (same_stamps a.stamp b.stamp p q, ltb-true a.process b.process s)
    at false false false p q s k = absurd (let c : false ≡ true = k in cc)

pub is_precedes : (a b : Place) → ComesBefore a b → precedes a b ≡ true
is_precedes a b (inl h) = ap (λ x. x || (not (is_before b.stamp a.stamp) && nat_lt a.process b.process)) (before_yes a.stamp b.stamp h)
is_precedes a b (inr h) =
    ap (λ y. is_before a.stamp b.stamp || (not y && nat_lt a.process b.process)) (before_no b.stamp a.stamp (λ k. irreflexive a.stamp (subst (λ s. IsBefore s a.stamp) (sym h.0) k)))
    ∙ ap (λ z. is_before a.stamp b.stamp || z) (lt-ltb a.process b.process h.1) ∙ or_yes (is_before a.stamp b.stamp)

pub places_apart : (a : Place) → ComesBefore a a → ⊥
places_apart a (inl h) = irreflexive a.stamp h
places_apart a (inr h) = let k = h.1 in omega (arith, k)

pub places_join : (a b c : Place) → ComesBefore a b → ComesBefore b c → ComesBefore a c
places_join a b c (inl h) (inl k) = inl (transitive a.stamp b.stamp c.stamp h k)
places_join a b c (inl h) (inr k) = inl (subst (IsBefore a.stamp) k.0 h)
places_join a b c (inr h) (inl k) = inl (subst (λ s. IsBefore s c.stamp) (sym h.0) k)
places_join a b c (inr h) (inr k) = let x = h.1 in let y = k.1 in inr (h.0 ∙ k.0, omega (arith, x, y))

pub places_compare : (a b : Place) → ComesBefore a b ⊎ ((a ≡ b) ⊎ ComesBefore b a)
places_compare a b = ⊎_elim (λ h. inl (inl h)) (λ h. ⊎_elim (λ e. by e (cases_order a.process b.process)) (λ k. inr (inr (inl k))) h) (compare a.stamp b.stamp)
  where
    by : a.stamp ≡ b.stamp → (a.process ≡ b.process) ⊎ ((a.process < b.process) ⊎ (b.process < a.process)) → ComesBefore a b ⊎ ((a ≡ b) ⊎ ComesBefore b a)
    by e (inl f) = inr (inl (place_is a b e f))
    by e (inr (inl lt)) = inl (inr (e, lt))
    by e (inr (inr gt)) = inr (inr (inr (sym e, gt)))

pub stamps_of : (a b : Place) → ComesBefore a b → NotAfter a.stamp b.stamp
stamps_of a b (inl h) = inl h
stamps_of a b (inr h) = inr h.0

pub not_after_before : (s t u : Stamp) → NotAfter s t → IsBefore t u → IsBefore s u
not_after_before s t u (inl a) b = transitive s t u a b
not_after_before s t u (inr e) b = subst (λ x. IsBefore x u) (sym e) b

-- ---- what is shown, by what ends a run

pub below_back : (limit : ℕ) (next : Option Stamp) (s t : Stamp) → NotAfter s t → is_below_limit limit next t ≡ true → is_below_limit limit next s ≡ true
below_back limit None s t le h = refl
below_back limit (Some n) s t le h = at (n.delta == limit) h
  where
    at : (b : Bool) → (not b || is_before t n) ≡ true → (not b || is_before s n) ≡ true
    at false k = refl
    at true k = before_yes s n (not_after_before s t n le (is_yes t n k))

pub stop_back : (stopped : Option Stamp) (s t : Stamp) → NotAfter s t → is_past_stop stopped t ≡ false → is_past_stop stopped s ≡ false
stop_back None s t le h = refl
stop_back (Some u) s t le h = not_true (is_before u s) (λ k. apart (before_yes u t (then_not_after u s t (is_yes u s k) le)) h)

-- a stamp is before another one, if there is one
abbrev pub counts : Option Stamp → Stamp → Bool
counts None s = true
counts (Some t) s = is_before s t

module _ (limit : ℕ) (e : Ends) where
  pub record Parts (a : Place) : Type 0 where
    pub break : is_past_break e.broken a ≡ false
    pub stop : is_past_stop e.stopped a.stamp ≡ false
    pub below : is_below_limit limit e.next a.stamp ≡ true

  pub parts : (a : Place) → is_shown limit e a ≡ true → Parts a
  parts a h =
      let k = and_parts (not (is_past_break e.broken a || is_past_stop e.stopped a.stamp)) (is_below_limit limit e.next a.stamp) h in
      let n = or_no (is_past_break e.broken a) (is_past_stop e.stopped a.stamp) (not_is (is_past_break e.broken a || is_past_stop e.stopped a.stamp) k.0) in
      record { break = n.0; stop = n.1; below = k.1 }

  pub shown_by : (a : Place) → Parts a → is_shown limit e a ≡ true
  shown_by a k =
      ap (λ x. not (x || is_past_stop e.stopped a.stamp) && is_below_limit limit e.next a.stamp) k.break
      ∙ ap (λ x. not x && is_below_limit limit e.next a.stamp) k.stop ∙ k.below

  -- where the first break isn't shown, what is past no stop and below the limit isn't past the break either
  pub no_break : break_shown limit e e.broken ≡ None → (a : Place) → is_past_stop e.stopped a.stamp ≡ false → is_below_limit limit e.next a.stamp ≡ true → is_past_break e.broken a ≡ false
  no_break none a stop below = at e.broken refl none
    where
      at : (o : Option (Place × End)) → e.broken ≡ o → break_shown limit e o ≡ None → is_past_break o a ≡ false
      at None k h = refl
      at (Some x) k h = not_true (precedes x.0 a) (λ p. past (precedes_is x.0 a p))
        where
          past : ComesBefore x.0 a → ⊥
          past c =
              let le = stamps_of x.0 a c in
              let here : is_shown limit e x.0 ≡ true = shown_by x.0 (record {
                break = ap (λ o. is_past_break o x.0) k ∙ not_true (precedes x.0 x.0) (λ p. places_apart x.0 (precedes_is x.0 x.0 p));
                stop = stop_back e.stopped x.0.stamp a.stamp le stop;
                below = below_back limit e.next x.0.stamp a.stamp le below;
              }) in
              let some : Some x ≡ None = sym (ap (λ b. if b then Some x else None) here) ∙ h in cc

  -- so what is shown is what is before the stamp that counts
  pub shown_whole : break_shown limit e e.broken ≡ None → (a : Place) → is_shown limit e a ≡ counts (counted_before limit e) a.stamp
  shown_whole none a = by_parts ∙ at e.stopped refl ∙ sym (ap (λ o. counts (counted_by o (stop_shown limit e.next e.stopped) (limit_reached limit e.next)) a.stamp) none)
    where
      s : Stamp
      s = a.stamp

      by_parts : is_shown limit e a ≡ (not (is_past_stop e.stopped a.stamp) && is_below_limit limit e.next a.stamp)
      by_parts =
          both_ways (is_shown limit e a) (not (is_past_stop e.stopped a.stamp) && is_below_limit limit e.next a.stamp)
          (λ h. let k = parts a h in ap (λ x. not x && is_below_limit limit e.next a.stamp) k.stop ∙ k.below)
          (λ h.
          let k = and_parts (not (is_past_stop e.stopped a.stamp)) (is_below_limit limit e.next a.stamp) h in
          let n = not_is (is_past_stop e.stopped a.stamp) k.0 in
          shown_by a (record { break = no_break none a n k.1; stop = n; below = k.1 }))

      by_limit : (o : Option Stamp) → is_below_limit limit o a.stamp ≡ counts (limit_reached limit o) a.stamp
      by_limit None = refl
      by_limit (Some n) = go (n.delta == limit)
        where
          go : (b : Bool) → (not b || is_before a.stamp n) ≡ counts (if b then Some n else None) a.stamp
          go true = refl
          go false = refl

      by_stop : (t : Stamp) (b : Bool) → is_below_limit limit e.next t ≡ b →
          (not (is_before t a.stamp) && is_below_limit limit e.next a.stamp) ≡ counts (counted_by None (if b then Some t else None) (limit_reached limit e.next)) a.stamp
      by_stop t true below =
          both_ways (not (is_before t a.stamp) && is_below_limit limit e.next a.stamp) (is_before a.stamp (next_delta t))
          (λ h.
          let k = and_parts (not (is_before t a.stamp)) (is_below_limit limit e.next a.stamp) h in
          before_yes a.stamp (next_delta t) (not_after_before a.stamp t (next_delta t) (is_no t a.stamp (not_is (is_before t a.stamp) k.0)) (inr (refl, omega arith))))
          (λ h.
          let not_past : IsBefore t a.stamp → ⊥ = λ lt. irreflexive a.stamp (then_not_after a.stamp (next_delta t) a.stamp (is_yes a.stamp (next_delta t) h) (delta_not_after t a.stamp lt)) in
          let no : is_before t a.stamp ≡ false = before_no t a.stamp not_past in
          ap (λ x. not x && is_below_limit limit e.next a.stamp) no ∙ below_back limit e.next a.stamp t (is_no t a.stamp no) below)
      by_stop t false below =
          both_ways (not (is_before t a.stamp) && is_below_limit limit e.next a.stamp) (is_below_limit limit e.next a.stamp)
          (λ h. (and_parts (not (is_before t a.stamp)) (is_below_limit limit e.next a.stamp) h).1)
          (λ h. ap (λ x. not x && is_below_limit limit e.next a.stamp) (not_true (is_before t a.stamp) (λ k. apart (below_back limit e.next t a.stamp (inl (is_yes t a.stamp k)) h) below)) ∙ h)
          ∙ by_limit e.next

      at : (o : Option Stamp) → e.stopped ≡ o → (not (is_past_stop o a.stamp) && is_below_limit limit e.next a.stamp) ≡ counts (counted_by None (stop_shown limit e.next o) (limit_reached limit e.next)) a.stamp
      at None k = by_limit e.next
      at (Some t) k = by_stop t (is_below_limit limit e.next t) refl

-- ---- what cuts an activation off

some_breaks : (at : Place) (k : JobEnd) (x : End) → broken_by at k ≡ Some x → breaks_by k ≡ true
some_breaks at (job.Waits on) x h = absurd (let c : None ≡ Some x = h in cc)
some_breaks at job.Ended x h = absurd (let c : None ≡ Some x = h in cc)
some_breaks at (job.Faulted f line) x h = refl
some_breaks at (job.Limit line) x h = refl

module _ (r : Rules) (log : List Activation) where
  abbrev p : Program
  p = program (tables r)

  abbrev pub place : Activation → Place
  place y = place_of y.stamp y.process

  past_break : (o : Option (Place × End)) → IsFirstBreak r log o → (y z : Activation) → In z log → p.breaks z ≡ true → precedes (place z) (place y) ≡ true → is_past_break o (place y) ≡ true
  past_break None first y z i broke lt = absurd (apart broke (first z i))
  past_break (Some x) first y z i broke lt =
      is_precedes x.0 (place y) (⊎_elim (λ h. absurd (first.1 z i broke h)) (λ h. ⊎_elim (λ k. subst (λ a. ComesBefore a (place y)) k after) (λ k. places_join x.0 (place z) (place y) k after) h) (places_compare (place z) x.0))
    where
      after : ComesBefore (place z) (place y)
      after = precedes_is (place z) (place y) lt

  broken_before : (o : Option (Place × End)) → IsFirstBreak r log o → (y : Activation) → is_past_break o (place y) ≡ true → (z : Activation) × In z log × (cuts_off p z y ≡ true)
  broken_before None first y h = absurd (let c : false ≡ true = h in cc)
  broken_before (Some x) first y h =
      let z = first.0.0 in
      let breaks : p.breaks z ≡ true = some_breaks x.0 (outcome_of r z).deed.end x.1 first.0.2.how in
      let lt : precedes (place z) (place y) ≡ true = ap (λ a. precedes a (place y)) (sym first.0.2.at) ∙ h in
      (z, first.0.1, ap (λ b. (b && precedes (place z) (place y)) || (p.stops z && is_before z.stamp y.stamp)) breaks ∙ ap (λ b. b || (p.stops z && is_before z.stamp y.stamp)) lt)

  past_stop : (o : Option Stamp) → IsFirstStop r log o → (y z : Activation) → In z log → calls_stop r z ≡ true → is_before z.stamp y.stamp ≡ true → is_past_stop o y.stamp ≡ true
  past_stop None first y z i stops lt = absurd (apart stops (first z i))
  past_stop (Some t) first y z i stops lt =
      before_yes t y.stamp (not_after_before t z.stamp y.stamp (is_no z.stamp t (before_no z.stamp t (first.1 z i stops))) (is_yes z.stamp y.stamp lt))

  stopped_before : (o : Option Stamp) → IsFirstStop r log o → (y : Activation) → is_past_stop o y.stamp ≡ true → (z : Activation) × In z log × (cuts_off p z y ≡ true)
  stopped_before None first y h = absurd (let c : false ≡ true = h in cc)
  stopped_before (Some t) first y h =
      let z = first.0.0 in
      let lt : is_before z.stamp y.stamp ≡ true = ap (λ s. is_before s y.stamp) first.0.3 ∙ h in
      (z, first.0.1, ap (λ b. (p.breaks z && precedes (place z) (place y)) || (b && is_before z.stamp y.stamp)) first.0.2 ∙ ap (λ b. (p.breaks z && precedes (place z) (place y)) || b) lt ∙ or_yes (p.breaks z && precedes (place z) (place y)))

  -- some activation of the log does, where that place is past an end
  pub cut_is : (e : Ends) → IsFirstBreak r log e.broken → IsFirstStop r log e.stopped → (y : Activation) →
      list_any (λ z. cuts_off p z y) log ≡ (is_past_break e.broken (place y) || is_past_stop e.stopped y.stamp)
  cut_is e broken stopped y =
      both_ways (list_any (λ z. cuts_off p z y) log) (is_past_break e.broken (place y) || is_past_stop e.stopped y.stamp)
      (λ h. let z = any_in (λ z. cuts_off p z y) log h in onward z.0 z.1 (or_parts (p.breaks z.0 && precedes (place z.0) (place y)) (p.stops z.0 && is_before z.0.stamp y.stamp) z.2))
      (λ h. let z = back (or_parts (is_past_break e.broken (place y)) (is_past_stop e.stopped y.stamp) h) in in_any (λ z. cuts_off p z y) log z.0 z.1 z.2)
    where
      onward : (z : Activation) → In z log → ((p.breaks z && precedes (place z) (place y)) ≡ true) ⊎ ((p.stops z && is_before z.stamp y.stamp) ≡ true) → (is_past_break e.broken (place y) || is_past_stop e.stopped y.stamp) ≡ true
      onward z i (inl h) =
          let k = and_parts (p.breaks z) (precedes (place z) (place y)) h in
          ap (λ b. b || is_past_stop e.stopped y.stamp) (past_break e.broken broken y z i k.0 k.1)
      onward z i (inr h) =
          let k = and_parts (p.stops z) (is_before z.stamp y.stamp) h in
          ap (λ b. is_past_break e.broken (place y) || b) (past_stop e.stopped stopped y z i k.0 k.1) ∙ or_yes (is_past_break e.broken (place y))

      back : (is_past_break e.broken (place y) ≡ true) ⊎ (is_past_stop e.stopped y.stamp ≡ true) → (z : Activation) × In z log × (cuts_off p z y ≡ true)
      back (inl h) = broken_before e.broken broken y h
      back (inr h) = stopped_before e.stopped stopped y h
