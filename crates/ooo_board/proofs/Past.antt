-- What was before all fronts isn't asked for: no event of a wait fires between its beginning and what is forgotten.
use Rattle.std.proofs.Common.{◌≡◌, ℕ, zero, suc, ◌+◌, ◌<◌, ◌==◌, ◌⊎◌, inl, inr, ⊎_elim, List, [], ◌∷◌, Bool, true, false, ◌&&◌, ◌||◌, nat_lt, if◌then◌else◌, Option, Some, None, map, refl, sym, ap, ◌∙◌, subst, arith}
use Rattle.std.proofs.lemmas.Bool.{cases_order, eqb-false, eqb-true, ltb-true, lt-ltb, eq-eqb}
use Rattle.ooo_time.specs.declared.delay.Delay.{Delay}
use Rattle.ooo_time.specs.declared.stamp.Stamp.{Stamp}
use Rattle.ooo_time.specs.Delays.{advanced}
use Rattle.ooo_time.specs.Stamps.{IsBefore, is_before}
use Rattle.ooo_meaning.specs.World.{zero_stamp}
use Rattle.ooo_events.specs.Firings.{IsFirstAfter}
use Rattle.ooo_channels.specs.Calls.{FiresAt}
use Rattle.ooo_channels.specs.Operations.{later_of}
use Rattle.ooo_schedules.specs.Delays.{NotAfter}
use Rattle.ooo_schedules.specs.Design.{Wait, front_by, sooner, soonest, sort, times}
use Rattle.ooo_schedules.specs.Model.{Act, Front, In, front_at}
use Rattle.ooo_schedules.specs.Program.{design}
use Rattle.ooo_schedules.specs.Tables.{program}
use Rattle.ooo_dispatch.specs.declared.reads.Reads.{Reads}
use Rattle.ooo_dispatch.specs.Banks.{IsToldOf, first_on, operations_on, since_of}
use Rattle.ooo_dispatch.specs.Boards.{Board, IsFront}
use Rattle.ooo_dispatch.specs.Least.{Advance}
use Rattle.ooo_dispatch.specs.Rules.{Rules, tables}
use Rattle.ooo_dispatch.specs.Schedules.{HadFront, Leads}
use Rattle.ooo_board.specs.Forgetting.{IsPast, forgetting}
use Rattle.ooo_board.specs.Waking.{IsPastFront, front_told}
use Rattle.ooo_board.proofs.Forgotten.{first_same}

-- ---- the order of stamps

pub irreflexive : (s : Stamp) → IsBefore s s → ⊥
irreflexive s h = ⊎_elim (λ a. omega (arith, a)) (λ a. let b = a.1 in omega (arith, b)) h

pub transitive : (s t u : Stamp) → IsBefore s t → IsBefore t u → IsBefore s u
transitive s t u a b =
    ⊎_elim (λ h. ⊎_elim (λ k. inl (omega (arith, h, k))) (λ k. let e = k.0 in inl (omega (arith, h, e))) b)
    (λ h. let e = h.0 in ⊎_elim (λ k. inl (omega (arith, e, k))) (λ k. let f = k.0 in let x = h.1 in let y = k.1 in inr (omega (arith, e, f), omega (arith, x, y))) b) a

stamp_is : (s t : Stamp) → s.time.0 ≡ t.time.0 → s.delta ≡ t.delta → s ≡ t
stamp_is s t e d = λ i. record { time = record { 0 = e i }; delta = d i }

pub compare : (s t : Stamp) → IsBefore s t ⊎ ((s ≡ t) ⊎ IsBefore t s)
compare s t =
    ⊎_elim (λ e. ⊎_elim (λ d. inr (inl (stamp_is s t e d))) (λ d. ⊎_elim (λ x. inl (inr (e, x))) (λ x. inr (inr (inr (sym e, x)))) d) (cases_order s.delta t.delta))
    (λ h. ⊎_elim (λ x. inl (inl x)) (λ x. inr (inr (inl x))) h) (cases_order s.time.0 t.time.0)

pub then_not_after : (s t u : Stamp) → IsBefore s t → NotAfter t u → IsBefore s u
then_not_after s t u a b = ⊎_elim (λ k. transitive s t u a k) (λ k. subst (IsBefore s) k a) b

-- where the second isn't before the third, what is before the third is before the second
pub before_or : (s t u : Stamp) → IsBefore s u → (IsBefore t u → ⊥) → IsBefore s t
before_or s t u a n = ⊎_elim (λ k. absurd (n k)) (λ k. ⊎_elim (λ e. subst (IsBefore s) (sym e) a) (λ l. transitive s u t a l) k) (compare t u)

pub none_before : (s : Stamp) → IsBefore s zero_stamp → ⊥
none_before s h = omega (arith, h)

pub is_yes : (s t : Stamp) → is_before s t ≡ true → IsBefore s t
is_yes s t = at (nat_lt s.time.0 t.time.0) (s.time.0 == t.time.0) (nat_lt s.delta t.delta) refl refl refl
  where
    at : (a b c : Bool) → nat_lt s.time.0 t.time.0 ≡ a → (s.time.0 == t.time.0) ≡ b → nat_lt s.delta t.delta ≡ c → (a || (b && c)) ≡ true → IsBefore s t
    at true b c p q r e = inl (ltb-true s.time.0 t.time.0 p)
    at false true true p q r e = inr (eqb-true s.time.0 t.time.0 q, ltb-true s.delta t.delta r)
    at false true false p q r e = absurd cc
    at false false c p q r e = absurd cc

pub before_yes : (s t : Stamp) → IsBefore s t → is_before s t ≡ true
before_yes s t h = ⊎_elim (λ a. rw (lt-ltb s.time.0 t.time.0 a) refl) (λ a. same (nat_lt s.time.0 t.time.0) (s.time.0 == t.time.0) (nat_lt s.delta t.delta) (eq-eqb s.time.0 t.time.0 a.0) (lt-ltb s.delta t.delta a.1)) h
  where
    same : (x y z : Bool) → y ≡ true → z ≡ true → (x || (y && z)) ≡ true
    same true y z e f = refl
    same false true true e f = refl
    same false true false e f = absurd cc
    same false false z e f = absurd cc

pub is_no : (s t : Stamp) → is_before s t ≡ false → IsBefore s t → ⊥
is_no s t e h = let c : true ≡ false = sym (before_yes s t h) ∙ e in cc

advances : (s : Stamp) (d : Delay) → NotAfter s (advanced s d)
advances s d = at (d.time.0 == 0) refl
  where
    at : (b : Bool) → (d.time.0 == 0) ≡ b → NotAfter s (if b then record { time = s.time; delta = s.delta + d.deltas } else record { time = record { 0 = s.time.0 + d.time.0 }; delta = d.deltas })
    at true e = ⊎_elim (λ k. inr (stamp_is s _ refl (omega (arith, k)))) (λ k. ⊎_elim (λ x. absurd (omega (arith, x))) (λ x. inl (inr (refl, omega (arith, x)))) k) (cases_order d.deltas 0)
    at false e = ⊎_elim (λ h. absurd (eqb-false d.time.0 0 e h)) (λ h. ⊎_elim (λ x. absurd (omega (arith, x))) (λ x. inl (inl (omega (arith, x)))) h) (cases_order d.time.0 0)

-- ---- the later of two stamps

module _ (s below : Stamp) where
  pub later_past : IsBefore (later_of s below) below → ⊥
  later_past = at (is_before s below) refl
    where
      at : (b : Bool) → is_before s below ≡ b → IsBefore (if b then below else s) below → ⊥
      at true e h = irreflexive below h
      at false e h = is_no s below e h

  pub later_than : (u : Stamp) → IsBefore (later_of s below) u → IsBefore s u
  later_than u = at (is_before s below) refl
    where
      at : (b : Bool) → is_before s below ≡ b → IsBefore (if b then below else s) u → IsBefore s u
      at true e h = transitive s below u (is_yes s below e) h
      at false e h = h

  later_both : (u : Stamp) → IsBefore s u → IsBefore below u → IsBefore (later_of s below) u
  later_both u h k = at (is_before s below)
    where
      at : (b : Bool) → IsBefore (if b then below else s) u
      at true = k
      at false = h

  -- a fact that holds of no stamp up to the second one first holds after that
  module _ (P : Stamp → Type 0) (none : (u : Stamp) → IsBefore s u → (IsBefore below u → ⊥) → P u → ⊥) where
    beyond : (u : Stamp) → IsBefore s u → P u → IsBefore (later_of s below) u
    beyond u h p =
        ⊎_elim (λ k. later_both u h k)
        (λ k. absurd (none u h (λ c. ⊎_elim (λ e. irreflexive u (subst (λ x. IsBefore x u) e c)) (λ l. irreflexive u (transitive u below u l c)) k) p)) (compare below u)

    pub later_first : (t : Option Stamp) → IsFirstAfter P (later_of s below) t → IsFirstAfter P s t
    later_first None h = λ u before p. h u (beyond u before p) p
    later_first (Some t) h = record { later = later_than t h.later; holds = h.holds; below = λ u before p. h.below u (beyond u before p) p }

-- ---- a first one

-- a fact that holds of no stamp before which it doesn't hold already, holds of none
none_first : (P : Stamp → Type 0) → ((u : Stamp) → P u → ((v : Stamp) → IsBefore v u → P v → ⊥) → ⊥) → (u : Stamp) → P u → ⊥
none_first P step u p = by_time (suc u.time.0) u (omega arith) p
  where
    by_delta : (n : ℕ) → ((v : Stamp) → v.time.0 < n → P v → ⊥) → (m : ℕ) (u : Stamp) → u.time.0 ≡ n → u.delta < m → P u → ⊥
    by_delta n before zero u same lt p = omega (arith, lt)
    by_delta n before (suc m) u same lt p =
        step u p (λ v h q. ⊎_elim (λ k. before v (omega (arith, k, same)) q) (λ k. let e = k.0 in let d = k.1 in by_delta n before m v (omega (arith, e, same)) (omega (arith, d, lt)) q) h)

    by_time : (n : ℕ) (u : Stamp) → u.time.0 < n → P u → ⊥
    by_time zero u lt p = omega (arith, lt)
    by_time (suc n) u lt p =
        ⊎_elim (λ e. by_delta n (by_time n) (suc u.delta) u e (omega arith) p)
        (λ h. ⊎_elim (λ x. by_time n u x p) (λ x. absurd (omega (arith, x, lt))) h) (cases_order u.time.0 n)

-- ---- the front by a wait

module _ (r : Rules) where
  -- the soonest of some stamps isn't after one of them
  soonest_by : (ts : List (Option Stamp)) (u : Stamp) → In (Some u) ts → (s : Stamp) × (soonest (design (program (tables r))) ts ≡ Some s) × (IsBefore u s → ⊥)
  soonest_by [] u i = absurd i
  soonest_by (t ∷ ts) u (inl e) = subst (λ o. (s : Stamp) × (sooner (design (program (tables r))) o (soonest (design (program (tables r))) ts) ≡ Some s) × (IsBefore u s → ⊥)) e (here (soonest (design (program (tables r))) ts))
    where
      here : (o : Option Stamp) → (s : Stamp) × (sooner (design (program (tables r))) (Some u) o ≡ Some s) × (IsBefore u s → ⊥)
      here None = (u, refl, irreflexive u)
      here (Some v) = at (is_before v u) refl
        where
          at : (b : Bool) → is_before v u ≡ b → (s : Stamp) × ((if b then Some v else Some u) ≡ Some s) × (IsBefore u s → ⊥)
          at true f = (v, refl, λ h. irreflexive u (transitive u v u h (is_yes v u f)))
          at false f = (u, refl, irreflexive u)
  soonest_by (t ∷ ts) u (inr i) = there t (soonest_by ts u i)
    where
      there : (t : Option Stamp) → ((s : Stamp) × (soonest (design (program (tables r))) ts ≡ Some s) × (IsBefore u s → ⊥)) →
          (s : Stamp) × (sooner (design (program (tables r))) t (soonest (design (program (tables r))) ts) ≡ Some s) × (IsBefore u s → ⊥)
      there None rest = rest
      there (Some a) (s, e, n) = subst (λ o. (v : Stamp) × (sooner (design (program (tables r))) (Some a) o ≡ Some v) × (IsBefore u v → ⊥)) (sym e) (at (is_before s a) refl)
        where
          at : (b : Bool) → is_before s a ≡ b → (v : Stamp) × ((if b then Some s else Some a) ≡ Some v) × (IsBefore u v → ⊥)
          at true f = (s, refl, n)
          at false f = (a, refl, λ h. n (before_or u s a h (is_no s a f)))

  module _ (b : Board r) (w : Wait Stamp) (told : IsToldOf r b w) (below : Stamp) (past : IsPastFront r b below (Some w)) (e : ℕ) (i : In e w.events) where
    in_mapped : (f : ℕ → Option Stamp) (es : List ℕ) → In e es → In (f e) (map f es)
    in_mapped f [] j = absurd j
    in_mapped f (d ∷ es) (inl same) = inl (ap f same)
    in_mapped f (d ∷ es) (inr j) = inr (in_mapped f es j)

    -- where the event first fires at a stamp, the front isn't after it
    front_then : (u : Stamp) → IsFirstAfter (FiresAt (operations_on r b) e) (since_of w.since) (Some u) → (g : Front Stamp) × (front_told r b (Some w) ≡ Some g) × (IsBefore u g.stamp → ⊥)
    front_then u first =
        let is : Some u ≡ first_on r b e w.since = told.told e (Some u) i first in
        let among : In (Some u) (times (design (program (tables r))) w (sort (design (program (tables r))) b.log)) =
        inr (subst (λ o. In o (map (λ d. first_on r b d w.since) w.events)) (sym is) (in_mapped (λ d. first_on r b d w.since) w.events i)) in
        let (s, by, n) = soonest_by (times (design (program (tables r))) w (sort (design (program (tables r))) b.log)) u among in
        (record { segment = w.segment; stamp = s }, ap (front_by w.segment) by, n)

    none_between : (u : Stamp) → IsBefore (since_of w.since) u → (IsBefore below u → ⊥) → FiresAt (operations_on r b) e u → ⊥
    none_between = ⊎_elim none_yet none_past past
      where
        none_yet : below ≡ zero_stamp → (u : Stamp) → IsBefore (since_of w.since) u → (IsBefore below u → ⊥) → FiresAt (operations_on r b) e u → ⊥
        none_yet first u since up fires = none_before (since_of w.since) (subst (IsBefore (since_of w.since)) first (before_or (since_of w.since) below u since up))

        none_past : ((g : Front Stamp) → front_told r b (Some w) ≡ Some g → IsBefore below g.stamp) → (u : Stamp) → IsBefore (since_of w.since) u → (IsBefore below u → ⊥) → FiresAt (operations_on r b) e u → ⊥
        none_past after u since up fires =
            none_first (λ v. IsBefore (since_of w.since) v × (IsBefore below v → ⊥) × FiresAt (operations_on r b) e v)
            (λ v is none.
            let (g, front, n) = front_then v (record { later = is.0; holds = is.2; below = λ x since fires sooner. none x sooner (since, (λ k. is.1 (transitive below x v k sooner)), fires) }) in
            is.1 (before_or below v g.stamp (after g front) n))
            u (since, up, fires)

    -- so a bank that forgot what was before that stamp says when the event first fires
    pub told_past : (t : Option Stamp) → IsFirstAfter (FiresAt (forgetting below (operations_on r b)) e) (later_of (since_of w.since) below) t → t ≡ first_on r b e w.since
    told_past t first =
        told.told e t i (later_first (since_of w.since) below (FiresAt (operations_on r b) e) none_between t (first_same below (operations_on r b) e (later_of (since_of w.since) below) t first))

-- ---- a commit

-- what a board is past, it is past after a job is committed
pub past_on :
    (r : Rules) (least : Advance) (b next : Board r) (p : ℕ) (j : Act Stamp Reads) (below : Stamp) → IsFront r b p (front_at j) →
    ((q : ℕ) (g : Front Stamp) → IsFront r next q g → HadFront r b q g ⊎ Leads least (front_at j) g) → IsPast r b below → IsPast r next below
past_on r least b next p j below own walks (inl first) = inl first
past_on r least b next p j below own walks (inr after) =
    inr (λ q g is. ⊎_elim (λ had. then_not_after below had.front.stamp g.stamp (after q had.front had.is) had.not_later)
    (λ leads.
    let sooner = then_not_after below j.stamp (advanced j.stamp leads.delay) (after p (front_at j) own) (advances j.stamp leads.delay) in
    then_not_after below (advanced j.stamp leads.delay) g.stamp sooner leads.not_later) (walks q g is))

-- and where each front is as it was
pub past_same : (r : Rules) (b next : Board r) (below : Stamp) → ((q : ℕ) (g : Front Stamp) → IsFront r next q g → IsFront r b q g) → IsPast r b below → IsPast r next below
past_same r b next below same (inl first) = inl first
past_same r b next below same (inr after) = inr (λ q g is. after q g (same q g is))

-- no front is before what is forgotten
pub front_kept : (r : Rules) (b : Board r) (below : Stamp) (q : ℕ) (g : Front Stamp) → IsPast r b below → IsFront r b q g → IsBefore g.stamp below → ⊥
front_kept r b below q g (inl first) is h = none_before g.stamp (subst (IsBefore g.stamp) first h)
front_kept r b below q g (inr after) is h = irreflexive below (transitive below g.stamp below (after q g is) h)
