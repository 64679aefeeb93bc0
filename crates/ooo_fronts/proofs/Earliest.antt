-- The earliest stamp of fronts, front by front.
use Rattle.std.proofs.Common.{◌≡◌, ◌∙◌, refl, sym, ap, subst, arith, ℕ, zero, suc, ◌+◌, ◌<◌, ◌⊎◌, inl, inr, List, length, get_or, Option, None, Some}
use Rattle.std.proofs.lemmas.Bool.{cases_lt}
use Rattle.ooo_time.specs.declared.stamp.Stamp.{Stamp}
use Rattle.ooo_time.specs.Stamps.{IsBefore}
use Rattle.ooo_schedules.specs.Model as board
use Rattle.ooo_dispatch.specs.Boards.{Board}
use Rattle.ooo_dispatch.specs.Rules.{Rules}
use Rattle.ooo_fronts.specs.declared.front.Front.{Front}
use Rattle.ooo_fronts.specs.Cuts.{IsLeastStamp}
use Rattle.ooo_fronts.specs.Fronts.{AreFrontsOf, IsLeastOf, front_is, maybe_front}
use Rattle.ooo_fronts.proofs.Counted.{at_front}
use Rattle.ooo_fronts.proofs.Places.{before_by, compare, irreflexive, transitive}
use Rattle.ooo_fronts.proofs.Ruling.{kept_is}

-- the earliest stamp of the first i fronts
abbrev pub EarliestBelow : List (Option Front) → (i : ℕ) → Option Stamp → Type 0
EarliestBelow fronts i None = (p : ℕ) → p < i → get_or fronts p None ≡ None
EarliestBelow fronts i (Some s) =
    ((p : ℕ) × (f : Front) × (get_or fronts p None ≡ Some f) × (f.stamp ≡ s))
    × ((p : ℕ) (f : Front) → p < i → get_or fronts p None ≡ Some f → IsBefore f.stamp s → ⊥)

pub earliest_first : (fronts : List (Option Front)) → EarliestBelow fronts 0 None
earliest_first fronts p lt = absurd (omega arith)

-- below one more, it is below i or i
here_or_below : (p i : ℕ) → p < i + 1 → (p < i) ⊎ (p ≡ i)
here_or_below p i lt = elim (cases_lt p i) [ inl below ↦ inl below | inr above ↦ inr (omega arith) ]

pub earliest_none : (fronts : List (Option Front)) (i : ℕ) (r : Option Stamp) → get_or fronts i None ≡ None → EarliestBelow fronts i r → EarliestBelow fronts (i + 1) r
earliest_none fronts i None e h = λ p lt. elim (here_or_below p i lt) [
  | inl below ↦ h p below
  | inr same ↦ ap (λ k. get_or fronts k None) same ∙ e
]
earliest_none fronts i (Some s) e h = (
  h.0,
  λ p f lt is. elim (here_or_below p i lt) [
    | inl below ↦ h.1 p f below is
    | inr same ↦ λ b. let both : None ≡ Some f = sym e ∙ ap (λ k. get_or fronts k None) (sym same) ∙ is in absurd cc
  ],
)

-- the earlier of a front's stamp and one that may be missing
pub record IsEarlier (one : Stamp) (other : Option Stamp) (s : Stamp) : Type 0 where
  pub one_of : (s ≡ one) ⊎ (other ≡ Some s)
  pub first : IsBefore one s → ⊥
  pub second : (u : Stamp) → other ≡ Some u → IsBefore u s → ⊥

pub earliest_some : (fronts : List (Option Front)) (i : ℕ) (r : Option Stamp) (f : Front) (s : Stamp) → get_or fronts i None ≡ Some f → EarliestBelow fronts i r → IsEarlier f.stamp r s → EarliestBelow fronts (i + 1) (Some s)
earliest_some fronts i None f s e h is = (
  (i, f, e, elim is.one_of [ inl same ↦ sym same | inr missing ↦ absurd cc ]),
  λ p g lt at b. elim (here_or_below p i lt) [
    | inl below ↦ let both : None ≡ Some g = sym (h p below) ∙ at in cc
    | inr same ↦
        let both : Some f ≡ Some g = sym e ∙ ap (λ k. get_or fronts k None) (sym same) ∙ at in
        let one : g ≡ f = cc in
        is.first (rw one at b)
  ],
)
earliest_some fronts i (Some u) f s e h is = (
  elim is.one_of [
    | inl same ↦ (i, f, e, sym same)
    | inr other ↦ let same : u ≡ s = cc in (h.0.0, h.0.1, h.0.2, h.0.3 ∙ same)
  ],
  λ p g lt at b. elim (here_or_below p i lt) [
    | inl below ↦ is.second u refl (before_by u g.stamp s (h.1 p g below at) b)
    | inr same ↦
        let both : Some f ≡ Some g = sym e ∙ ap (λ k. get_or fronts k None) (sym same) ∙ at in
        let one : g ≡ f = cc in
        is.first (rw one at b)
  ],
)

pub earliest_all : (fronts : List (Option Front)) (i : ℕ) (r : Option Stamp) → i ≡ length fronts → EarliestBelow fronts i r → IsLeastOf fronts r
earliest_all fronts i None e h = λ p. at p (get_or fronts p None) refl
  where
    at : (p : ℕ) (o : Option Front) → get_or fronts p None ≡ o → get_or fronts p None ≡ None
    at p None is = is
    at p (Some f) is = h p (let lt = at_front fronts p f is in omega arith)
earliest_all fronts i (Some s) e h = (h.0, λ p f is. h.1 p f (let lt = at_front fronts p f is in omega arith) is)

-- there is one of any fronts, or none has a stamp
earlier_of : (one : Stamp) (other : Option Stamp) → (s : Stamp) × IsEarlier one other s
earlier_of one None = (one, record { one_of = inl refl; first = irreflexive one; second = λ u e. absurd cc })
earlier_of one (Some t) = elim (compare one t) [
  | inl before ↦ (one, record { one_of = inl refl; first = irreflexive one; second = λ u e h. irreflexive one (transitive one t one before (let same : u ≡ t = cc in subst (λ x. IsBefore x one) same h)) })
  | inr other ↦ (
    t,
    record {
      one_of = inr refl;
      first = λ h. elim other [ inl same ↦ irreflexive t (subst (λ x. IsBefore x t) same h) | inr before ↦ irreflexive t (transitive t one t before h) ];
      second = λ u e h. irreflexive t (let same : u ≡ t = cc in subst (λ x. IsBefore x t) same h);
    },
  )
]

earliest_below : (fronts : List (Option Front)) (i : ℕ) → (r : Option Stamp) × EarliestBelow fronts i r
earliest_below fronts zero = (None, earliest_first fronts)
earliest_below fronts (suc i) = more (earliest_below fronts i) (get_or fronts i None) refl
  where
    more : ((r : Option Stamp) × EarliestBelow fronts i r) → (o : Option Front) → get_or fronts i None ≡ o → (r : Option Stamp) × EarliestBelow fronts (suc i) r
    more h None e = (h.0, subst (λ n. EarliestBelow fronts n h.0) (omega arith) (earliest_none fronts i h.0 e h.1))
    more h (Some f) e =
        let x = earlier_of f.stamp h.0 in
        (Some x.0, subst (λ n. EarliestBelow fronts n (Some x.0)) (omega arith) (earliest_some fronts i h.0 f x.0 e h.1 x.1))

pub earliest : (fronts : List (Option Front)) → (r : Option Stamp) × IsLeastOf fronts r
earliest fronts = let x = earliest_below fronts (length fronts) in (x.0, earliest_all fronts (length fronts) x.0 refl x.1)

-- the same of the fronts of a board
pub least_on_board : (r : Rules) (b : Board r) (fronts : List (Option Front)) (least : Option Stamp) → AreFrontsOf r b fronts → IsLeastOf fronts least → IsLeastStamp r b least
least_on_board r b fronts None are h = λ q. are.each q ∙ ap maybe_front (h q)
least_on_board r b fronts (Some s) are h = (
  (h.0.0, front_is h.0.1, are.each h.0.0 ∙ ap maybe_front h.0.2, h.0.3),
  λ q g is before.
      let x = kept_is fronts q g (sym (are.each q) ∙ is) in
      let same : x.0.stamp ≡ g.stamp = ap (λ (y : board.Front Stamp). y.stamp) x.2 in
      let P : Stamp → Type 0 = λ u. IsBefore u s in
      h.1 q x.0 x.1 (subst P (sym same) before),
)
