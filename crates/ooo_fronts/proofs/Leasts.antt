-- The front of least place.
use Rattle.std.proofs.Common.{◌≡◌, ℕ, zero, suc, ◌<◌, ◌⊎◌, inl, inr, ⊎_elim, [], Option, Some, None, refl, sym, ap, ◌∙◌, subst, arith}
use Rattle.std.proofs.lemmas.Bool.{cases_eq, cases_order}
use Rattle.ooo_time.specs.declared.stamp.Stamp.{Stamp}
use Rattle.ooo_time.specs.Stamps.{IsBefore, ComesBefore}
use Rattle.ooo_meaning.specs.World.{place_of}
use Rattle.ooo_schedules.specs.Model.{Front, IsLeast, front_of}
use Rattle.ooo_dispatch.specs.Boards.{Board, IsFront, IsOverBoard, model}
use Rattle.ooo_dispatch.specs.Least.{IsBelowCut}
use Rattle.ooo_dispatch.specs.Rules.{Rules}
use Rattle.ooo_fronts.specs.Cuts.{IsLeastStamp}
use Rattle.ooo_fronts.specs.Choices.{NoFrontBelow}
use Rattle.ooo_fronts.proofs.Places.{before_on, compare, cut_off_on, irreflexive, no_later_time, not_both}

pub some_is : {A : Type 0} (x y : A) → Some x ≡ Some y → x ≡ y
some_is x y e = cc

module _ (r : Rules) (b : Board r) where
  -- a front has the stamp s, and none of a lower process does
  record FirstAt (s : Stamp) : Type 0 where
    process : ℕ
    front : Front Stamp
    has : IsFront r b process front
    at : front.stamp ≡ s
    lowest : (q : ℕ) (g : Front Stamp) → q < process → IsFront r b q g → g.stamp ≡ s → ⊥

  abbrev NoneAt : Stamp → ℕ → Type 0
  NoneAt s n = (q : ℕ) (g : Front Stamp) → q < n → IsFront r b q g → g.stamp ≡ s → ⊥

  same_front : (p q : ℕ) (f g : Front Stamp) → p ≡ q → IsFront r b p f → IsFront r b q g → f ≡ g
  same_front p q f g e i j = some_is f g (sym i ∙ ap (front_of (model r) b) e ∙ j)

  one_more : (s : Stamp) (n : ℕ) → NoneAt s n → (o : Option (Front Stamp)) → front_of (model r) b n ≡ o → FirstAt s ⊎ NoneAt s (suc n)
  one_more s n h None e =
      inr (λ q g k i a. ⊎_elim (λ x. let c : None ≡ Some g = sym e ∙ ap (front_of (model r) b) (sym x) ∙ i in absurd cc) (λ x. h q g (⊎_elim (λ y. y) (λ y. absurd (omega (arith, y, k))) (⊎_elim (λ y. absurd (x y)) (λ y. y) (cases_order q n))) i a) (cases_eq q n))
  one_more s n h (Some f) e =
      ⊎_elim (λ x. other (λ a. irreflexive s (subst (λ t. IsBefore t s) a x))) (λ x. ⊎_elim (λ a. inl (record { process = n; front = f; has = e; at = a; lowest = h })) (λ y. other (λ a. irreflexive s (subst (IsBefore s) a y))) x) (compare f.stamp s)
    where
      other : (f.stamp ≡ s → ⊥) → FirstAt s ⊎ NoneAt s (suc n)
      other d = inr (λ q g k i a. ⊎_elim (λ x. d (ap (λ t. t.stamp) (same_front n q f g (sym x) e i) ∙ a)) (λ x. h q g (⊎_elim (λ y. y) (λ y. absurd (omega (arith, y, k))) (⊎_elim (λ y. absurd (x y)) (λ y. y) (cases_order q n))) i a) (cases_eq q n))

  first_at : (s : Stamp) (n : ℕ) → FirstAt s ⊎ NoneAt s n
  first_at s zero = inr (λ q g k i a. absurd (omega (arith, k)))
  first_at s (suc n) = ⊎_elim (λ x. inl x) (λ h. one_more s n h (front_of (model r) b n) refl) (first_at s n)

  -- process p has the front of least place
  pub record LeastFront (s : Stamp) : Type 0 where
    pub process : ℕ
    pub front : Front Stamp
    pub has : IsFront r b process front
    pub at : front.stamp ≡ s
    pub is_least : IsLeast (model r) b process front

  pub least_front : (s : Stamp) → IsLeastStamp r b (Some s) → LeastFront s
  least_front s l =
      let n = suc l.0.0 in ⊎_elim
      (λ x. record {
        process = x.process;
        front = x.front;
        has = x.has;
        at = x.at;
        is_least = λ q g d i.
            ⊎_elim (λ h. absurd (l.1 q g i h)) (λ h. ⊎_elim (λ e. inr (x.at ∙ sym e, ⊎_elim (λ y. absurd (d y)) (λ y. ⊎_elim (λ z. absurd (x.lowest q g z i e)) (λ z. z) y) (cases_order q x.process))) (λ y. inl (subst (λ t. IsBefore t g.stamp) (sym x.at) y)) h) (compare g.stamp s);
      })
      (λ h. absurd (h l.0.0 l.0.1 (omega arith) l.0.2 l.0.3)) (first_at s n)

  -- where some process has a front, there is one of least place
  pub some_least : (first : Option Stamp) → IsLeastStamp r b first → (p : ℕ) (f : Front Stamp) → IsFront r b p f → (s : Stamp) × LeastFront s
  some_least None l p f i = let c : None ≡ Some f = sym (l p) ∙ i in absurd cc
  some_least (Some s) l p f i = (s, least_front s l)

  -- a front of least place has the earliest stamp
  pub at_least_stamp : (s : Stamp) → IsLeastStamp r b (Some s) → (q : ℕ) (g : Front Stamp) → IsFront r b q g → IsLeast (model r) b q g → g.stamp ≡ s
  at_least_stamp s l q g i least =
      ⊎_elim (λ e. ap (λ t. t.stamp) (same_front q l.0.0 g l.0.1 (sym e) i l.0.2) ∙ l.0.3)
      (λ d. ⊎_elim (λ h. absurd (l.1 q g i (subst (IsBefore g.stamp) l.0.3 h))) (λ h. h.0 ∙ l.0.3) (least l.0.0 l.0.1 d l.0.2)) (cases_eq l.0.0 q)

  -- a front, and that of least place
  module _ (p : ℕ) (f : Front Stamp) (i : IsFront r b p f) (q : ℕ) (g : Front Stamp) (j : IsFront r b q g) (least : IsLeast (model r) b q g) where
    pub not_before : ComesBefore (place_of f.stamp p) (place_of g.stamp q) → ⊥
    not_before h =
        ⊎_elim (λ e. let s : f.stamp ≡ g.stamp = ap (λ t. t.stamp) (same_front p q f g e i j) in ⊎_elim (λ x. irreflexive g.stamp (subst (λ t. IsBefore t g.stamp) s x)) (λ x. let y = x.1 in absurd (omega (arith, y, e))) h)
        (λ d. not_both (place_of f.stamp p) (place_of g.stamp q) h (least p f d i)) (cases_eq p q)

    no_earlier : IsBefore f.stamp g.stamp → ⊥
    no_earlier h = not_before (inl h)

    -- where the front is below the cut, that of least place isn't at the limit of deltas
    pub not_at_limit : IsBelowCut r b f.stamp p → g.stamp.delta ≡ r.limits.deltas → ⊥
    not_at_limit c e = no_earlier (c.before_limit q g j least e)

    -- and it is below the cut
    pub least_below : IsBelowCut r b f.stamp p → IsBelowCut r b g.stamp q
    least_below c = record {
      in_time = let t = no_later_time g.stamp f.stamp no_earlier in let u = c.in_time in omega (arith, t, u);
      uncut = λ y k h.
          c.uncut y k
          (⊎_elim (λ x. inl (x.0, cut_off_on (place_of y.stamp y.process) (place_of g.stamp q) (place_of f.stamp p) x.1 not_before)) (λ x. inr (x.0, before_on y.stamp g.stamp f.stamp x.1 no_earlier)) h);
      before_limit = λ t h k l e. absurd (
          ⊎_elim (λ x. not_at_limit c (subst (λ s. s.stamp.delta ≡ r.limits.deltas) (same_front t q h g x k j) e))
          (λ d. not_both (place_of h.stamp t) (place_of g.stamp q) (l q g (λ x. d (sym x)) j) (least t h d k)) (cases_eq t q));
    }

  -- no front is below the cut just where the board is over
  pub to_over : b.out ≡ [] → NoFrontBelow r b → IsOverBoard r b
  to_over e none = record {
    quiet = e;
    shut = λ p f i least shown.
        none p f i (record {
          in_time = shown.within;
          uncut = shown.uncut;
          before_limit = λ t h k l a. absurd (
              ⊎_elim (λ x. shown.below (subst (λ s. s.stamp.delta ≡ r.limits.deltas) (same_front t p h f x k i) a))
              (λ d. not_both (place_of h.stamp t) (place_of f.stamp p) (l p f (λ x. d (sym x)) i) (least t h d k)) (cases_eq t p));
        });
  }

  pub from_over : (first : Option Stamp) → IsLeastStamp r b first → IsOverBoard r b → NoFrontBelow r b
  from_over first l over p f i c =
      let w = some_least first l p f i in
      let x = w.1 in
      let k = least_below p f i x.process x.front x.has x.is_least c in
      over.shut x.process x.front x.has x.is_least (record { within = k.in_time; below = not_at_limit p f i x.process x.front x.has x.is_least c; uncut = k.uncut })
