-- A front leads to nothing before its own stamp, and only with no delay to that stamp: so it holds no front up that comes before
-- it, and one at its stamp only by segments to which it leads with no delay.
use Rattle.std.proofs.Common.{◌≡◌, ◌∙◌, refl, sym, ap, subst, arith, ℕ, ◌<◌, ◌⊎◌, inl, inr, ⊎_elim, Bool, true, false, ◌&&◌, if◌then◌else◌, ◌==◌, ◌+◌, nat_lt, List, Option, None, Some, length}
use Rattle.std.proofs.lemmas.Bool.{eqb-true, eqb-false, ltb-true}
use Rattle.std.specs.Prelude.{is_some, Contains}
use Rattle.ooo_time.specs.declared.stamp.Stamp.{Stamp}
use Rattle.ooo_time.specs.declared.delay.Delay.{Delay}
use Rattle.ooo_time.specs.Delays.{advanced}
use Rattle.ooo_time.specs.Stamps.{IsBefore, is_before}
use Rattle.ooo_meaning.specs.World.{same_stamp}
use Rattle.ooo_conflicts.specs.Kinds.{is_clash, kind_at}
use Rattle.ooo_advance.specs.Rows.{entry_at}
use Rattle.ooo_advance.specs.Walks.{no_delay}
use Rattle.ooo_tables.specs.declared.tables.Tables.{Tables}
use Rattle.ooo_fronts.specs.declared.front.Front.{Front}
use Rattle.ooo_fronts.specs.Fronts.{process_in}
use Rattle.ooo_fronts.specs.Holds.{HoldsByNoOther, clashes_at, hold_at, holds_of}
use Rattle.ooo_fronts.specs.Reaching.{IsListOf, LeadsAtOnce}
use Rattle.ooo_fronts.proofs.Holding.{found_by, none_apart, none_own, some_clashing}
use Rattle.ooo_fronts.proofs.Orders.{is_yes, never_before, same_yes, stamp_is, yes_same}
use Rattle.ooo_fronts.proofs.Places.{transitive}
use Rattle.ooo_fronts.proofs.Totals.{none_counted}

-- a delay leads to no earlier stamp
pub no_earlier : (s : Stamp) (d : Delay) → IsBefore (advanced s d) s → ⊥
no_earlier s d = at (d.time.0 == 0) refl
  where
    at : (x : Bool) → (d.time.0 == 0) ≡ x → IsBefore (if x then record { time = s.time; delta = s.delta + d.deltas } else record { time = record { 0 = s.time.0 + d.time.0 }; delta = d.deltas }) s → ⊥
    at true e h = ⊎_elim (λ a. absurd (omega (arith, a))) (λ a. let b = a.1 in absurd (omega (arith, b))) h
    at false e h =
        let some = eqb-false d.time.0 0 e in
        ⊎_elim (λ a. absurd (omega (arith, a))) (λ a. let b = a.0 in some (omega (arith, b))) h

-- only no delay at all leads to the same stamp
stays : (s : Stamp) (d : Delay) → advanced s d ≡ s → d ≡ no_delay
stays s d = at (d.time.0 == 0) refl
  where
    none : d.time.0 ≡ 0 → d.deltas ≡ 0 → d ≡ no_delay
    none e n = ap (λ x. record { time = record { 0 = x }; deltas = d.deltas }) e ∙ ap (λ x. record { time = record { 0 = 0 }; deltas = x }) n

    at : (x : Bool) → (d.time.0 == 0) ≡ x → (if x then record { time = s.time; delta = s.delta + d.deltas } else record { time = record { 0 = s.time.0 + d.time.0 }; delta = d.deltas }) ≡ s → d ≡ no_delay
    at true e h = let still : s.delta + d.deltas ≡ s.delta = ap (λ (u : Stamp). u.delta) h in none (eqb-true d.time.0 0 e) (omega (arith, still))
    at false e h =
        let some = eqb-false d.time.0 0 e in
        let later : s.time.0 + d.time.0 ≡ s.time.0 = ap (λ (u : Stamp). u.time.0) h in
        absurd (some (omega (arith, later)))

-- what clashes with a front comes before it or at its stamp
pub before_or_at : (t : Tables) (b : ℕ) (s : Stamp) (p : ℕ) (f : Front) → clashes_at t b s p f ≡ true → IsBefore s f.stamp ⊎ (s ≡ f.stamp)
before_or_at t b s p f = at (is_before s f.stamp) (same_stamp s f.stamp) (is_clash (kind_at t.clash b f.segment) true) (nat_lt (process_in t b) p && is_clash (kind_at t.clash b f.segment) false) refl refl
  where
    at : (x y k l : Bool) → is_before s f.stamp ≡ x → same_stamp s f.stamp ≡ y → (if x then k else y && l) ≡ true → IsBefore s f.stamp ⊎ (s ≡ f.stamp)
    at true y k l e i h = inl (is_yes s f.stamp e)
    at false true k l e i h = inr (yes_same s f.stamp i)
    at false false k l e i h = absurd cc

-- ---- a front that comes before the other

pub none_behind : (t : Tables) (g : Front) (p : ℕ) (f : Front) → IsBefore f.stamp g.stamp → holds_of t g p f ≡ 0
unfolding holds_of
none_behind t g p f behind = none_counted (λ b. is_some (hold_at t g p f b)) (length t.graph.segments) (λ b lt. at b (hold_at t g p f b) refl)
  where
    at : (b : ℕ) (o : Option Stamp) → hold_at t g p f b ≡ o → is_some (hold_at t g p f b) ≡ false
    at b None e = ap (λ (o : Option Stamp). is_some o) e
    at b (Some s) e =
        let r = found_by t g p f b s e in
        let early : IsBefore s g.stamp = ⊎_elim (λ h. transitive s f.stamp g.stamp h behind) (λ h. subst (λ u. IsBefore u g.stamp) (sym h) behind) (before_or_at t b s p f r.clashes) in
        absurd (no_earlier g.stamp r.delay (subst (λ u. IsBefore u g.stamp) r.at early))

-- ---- a front at the same stamp

-- those to which a front leads with no delay are all by which it may hold up another one at its stamp
pub at_once_are_all : (t : Tables) (g : Front) (p : ℕ) (f : Front) (xs : List ℕ) → f.stamp ≡ g.stamp → IsListOf (LeadsAtOnce t g.segment) xs → HoldsByNoOther t g p f xs
at_once_are_all t g p f xs same is = record {
  ascending = is.ascending;
  within = λ b c. ((is.exact b).0 c).0;
  others = λ b lt out. at b lt out (hold_at t g p f b) refl;
}
  where
    at : (b : ℕ) → b < length t.graph.segments → (Contains xs b → ⊥) → (o : Option Stamp) → hold_at t g p f b ≡ o → is_some (hold_at t g p f b) ≡ false
    at b lt out None e = ap (λ (o : Option Stamp). is_some o) e
    at b lt out (Some s) e =
        let r = found_by t g p f b s e in
        let early : IsBefore s f.stamp → ⊥ = λ h. no_earlier g.stamp r.delay (subst (λ u. IsBefore u g.stamp) r.at (subst (IsBefore s) same h)) in
        let there : (s ≡ f.stamp) → ⊥ = λ h. out ((is.exact b).1 (lt, r.leads ∙ ap (λ (d : Delay). Some d) (stays g.stamp r.delay (sym r.at ∙ h ∙ same)))) in
        absurd (⊎_elim early there (before_or_at t b s p f r.clashes))

-- where a front leads to a segment with no delay, that one clashes with another front at its stamp exactly by a lower process
clashes_at_once : (t : Tables) (b : ℕ) (g : Front) (p : ℕ) (f : Front) → f.stamp ≡ g.stamp → clashes_at t b (advanced g.stamp no_delay) p f ≡ (nat_lt (process_in t b) p && is_clash (kind_at t.clash b f.segment) false)
clashes_at_once t b g p f same =
    let here : advanced g.stamp no_delay ≡ f.stamp = stamp_is (advanced g.stamp no_delay) g.stamp refl (omega arith) ∙ sym same in
    ap (λ s. clashes_at t b s p f) here ∙ rw (never_before f.stamp f.stamp refl, same_yes f.stamp f.stamp refl) refl

not_below : (a p : ℕ) → a ≡ p → nat_lt a p ≡ false
not_below a p e = at (nat_lt a p) refl
  where
    at : (x : Bool) → nat_lt a p ≡ x → nat_lt a p ≡ false
    at true q = let lt = ltb-true a p q in absurd (omega (arith, lt, e))
    at false q = q

-- by such a segment it holds the other one up exactly where that is of a lower process and clashes
pub as_it_clashes_at_once : (t : Tables) (g : Front) (p : ℕ) (f : Front) (b : ℕ) → f.stamp ≡ g.stamp → entry_at t.advance g.segment b ≡ Some no_delay → (nat_lt (process_in t b) p && is_clash (kind_at t.clash b f.segment) false) ≡ is_some (hold_at t g p f b)
as_it_clashes_at_once t g p f b same leads = at (nat_lt (process_in t b) p && is_clash (kind_at t.clash b f.segment) false) (process_in t b == p) refl refl
  where
    at : (x own : Bool) → (nat_lt (process_in t b) p && is_clash (kind_at t.clash b f.segment) false) ≡ x → (process_in t b == p) ≡ own → (nat_lt (process_in t b) p && is_clash (kind_at t.clash b f.segment) false) ≡ is_some (hold_at t g p f b)
    at x true e o =
        let is : process_in t b ≡ p = eqb-true (process_in t b) p o in
        let none : (nat_lt (process_in t b) p && is_clash (kind_at t.clash b f.segment) false) ≡ false = rw (not_below (process_in t b) p is) refl in
        none ∙ ap (λ (o : Option Stamp). is_some o) (none_own t g p f b is)
    at true false e o = e ∙ ap (λ (o : Option Stamp). is_some o) (some_clashing t g p f b no_delay (eqb-false (process_in t b) p o) leads (clashes_at_once t b g p f same ∙ e))
    at false false e o = e ∙ ap (λ (o : Option Stamp). is_some o) (none_apart t g p f b no_delay (eqb-false (process_in t b) p o) leads (clashes_at_once t b g p f same ∙ e))
