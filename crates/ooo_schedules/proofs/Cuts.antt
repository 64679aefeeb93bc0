-- The cut never rises.
use Rattle.std.proofs.Common.{◌≡◌, ◌≢◌, ℕ, inr, sym, ap, ◌∙◌, subst}
use Rattle.ooo_schedules.specs.Model.{Front, front_at, In, Model, ActOf, State, front_of, Allowed, dispatched, committed, Lawful, Laws}
use Rattle.ooo_schedules.specs.Cuts.{IsCut, by_end, by_limit}
use Rattle.ooo_schedules.proofs.Logs.{some_is}
use Rattle.ooo_schedules.proofs.Walks.{dispatch_fronts, front_of_out, good}
use Rattle.ooo_schedules.proofs.Steps.{least_stays}
use Rattle.ooo_schedules.proofs.Over.{never_at_limit}

module _ (m : Model) (l : Laws m) (st : State m) (lawful : Lawful m st) where
  pub cut_stays_dispatch : (p : ℕ) (f : Front m.Stamp) → Allowed m st p f → (s : m.Stamp) (q : ℕ) → IsCut m st s q → IsCut m (dispatched m st p f) s q
  cut_stays_dispatch p f a s q (by_end y i c) = by_end y i c
  cut_stays_dispatch p f a s q (by_limit r g e least n k) = by_limit r g (dispatch_fronts m l st p f a r ∙ e) (λ x h d w. least x h d (sym (dispatch_fronts m l st p f a x) ∙ w)) n k

  pub cut_stays_commit : (j : ActOf m) → In j st.out → (s : m.Stamp) (q : ℕ) → IsCut m st s q → IsCut m (committed m st j) s q
  cut_stays_commit j i s q (by_end y k c) = by_end y (inr k) c
  cut_stays_commit j i s q (by_limit r g e least n k) =
      let good_st = good m l st lawful in
      let another : r ≢ j.process = λ h.
      let x : front_at j ≡ g = some_is (front_at j) g (sym (front_of_out m l st j.process j (good_st.alone j i)) ∙ ap (front_of m st) (sym h) ∙ e) in
      never_at_limit m st lawful j (inr i) (subst m.AtLimit (sym (ap (λ t. t.stamp) x)) n) in
      let w = least_stays m l st good_st j i r g another e least in
      by_limit r g w.0 w.1 n k
