-- The first that holds a front up, by each front and each segment.
use Rattle.std.proofs.Common.{◌≡◌, ◌≢◌, ◌∙◌, refl, sym, ap, arith, ℕ, ◌+◌, ◌<◌, ◌≤◌, inl, inr, List, length, get_or, Option, None, Some}
use Rattle.std.proofs.lemmas.Bool.{cases_lt}
use Rattle.ooo_time.specs.declared.stamp.Stamp.{Stamp}
use Rattle.ooo_tables.specs.declared.tables.Tables.{Tables}
use Rattle.ooo_fronts.specs.declared.front.Front.{Front}
use Rattle.ooo_fronts.specs.declared.front.Hold.{Hold}
use Rattle.ooo_fronts.specs.Holds.{hold_at, IsHold, IsFirstHold, IsFirstBy, IsFirstFrom}
use Rattle.ooo_fronts.proofs.Counted.{at_front}

module _ (t : Tables) (fronts : List (Option Front)) (p : ℕ) where
  -- ---- by one front

  pub none_of_own : (q : ℕ) → q ≡ p → IsFirstFrom t fronts p q None
  none_of_own q e h at is = is.other (at ∙ e)

  pub none_of_none : (q : ℕ) → get_or fronts q None ≡ None → IsFirstFrom t fronts p q None
  none_of_none q e h at is = let both : None ≡ Some is.holding = sym e ∙ ap (λ k. get_or fronts k None) (sym at) ∙ is.front in cc

  -- what a hold says, where both fronts are known
  known : (f g : Front) (q : ℕ) → get_or fronts p None ≡ Some f → get_or fronts q None ≡ Some g → (h : Hold) → h.front ≡ q → IsHold t fronts p h → hold_at t g p f h.segment ≡ Some h.at
  known f g q own e h at is =
      let theirs : Some g ≡ Some is.holding = sym e ∙ ap (λ k. get_or fronts k None) (sym at) ∙ is.front in
      let ours : Some f ≡ Some is.held = sym own ∙ is.own in
      let one : g ≡ is.holding = cc in
      let two : f ≡ is.held = cc in
      ap (λ x. hold_at t x p f h.segment) one ∙ ap (λ y. hold_at t is.holding p y h.segment) two ∙ is.at

  pub none_by_front : (f g : Front) (q : ℕ) → get_or fronts p None ≡ Some f → get_or fronts q None ≡ Some g → IsFirstBy t g p f None → IsFirstFrom t fronts p q None
  none_by_front f g q own e none h at is = let both : None ≡ Some h.at = sym (none h.segment is.within) ∙ known f g q own e h at is in cc

  pub first_by_front : (f g : Front) (q b : ℕ) (s : Stamp) → q ≢ p → get_or fronts p None ≡ Some f → get_or fronts q None ≡ Some g → IsFirstBy t g p f (Some (b, s)) → IsFirstFrom t fronts p q (Some (record { front = q; segment = b; at = s }))
  first_by_front f g q b s ne own e first = (
    refl,
    record { holding = g; held = f; other = ne; front = e; own = own; within = first.0; at = first.1 },
    λ h at is lt. let both : None ≡ Some h.at = sym (first.2 h.segment lt) ∙ known f g q own e h at is in cc,
  )

  -- ---- by the fronts so far

  abbrev pub NoneBelow : ℕ → Type 0
  NoneBelow q = (h : Hold) → h.front < q → IsHold t fronts p h → ⊥

  pub none_yet : NoneBelow 0
  none_yet h lt is = omega arith

  pub none_and_more : (q : ℕ) → NoneBelow q → IsFirstFrom t fronts p q None → NoneBelow (q + 1)
  none_and_more q none here h lt is = elim (cases_lt h.front q) [
    | inl below ↦ none h below is
    | inr above ↦ here h (omega arith) is
  ]

  pub none_of_all : (q : ℕ) → length fronts ≤ q → NoneBelow q → IsFirstHold t fronts p None
  none_of_all q le none h is = none h (let lt = at_front fronts h.front is.holding is.front in omega arith) is

  pub first_of_all : (q : ℕ) (h : Hold) → NoneBelow q → IsFirstFrom t fronts p q (Some h) → IsFirstHold t fronts p (Some h)
  first_of_all q h none first = (
    first.1,
    λ g is sooner. elim sooner [
      | inl less ↦ none g (let e = first.0 in omega arith) is
      | inr w ↦ first.2 g (w.0 ∙ first.0) is w.1
    ],
  )
