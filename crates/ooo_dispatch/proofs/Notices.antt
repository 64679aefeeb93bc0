-- An edge by a notification is no longer than the notification.
use Rattle.std.proofs.Common.{◌≡◌, ℕ, ◌<◌, ◌+◌, ◌==◌, inl, inr, ⊎_elim, Bool, true, false, if◌then◌else◌, Option, Some, None, refl, sym, subst, arith}
use Rattle.std.proofs.lemmas.Bool.{eqb-false, cases_order}
use Rattle.ooo_time.specs.declared.time.Time.{Time}
use Rattle.ooo_time.specs.declared.stamp.Stamp.{Stamp}
use Rattle.ooo_time.specs.Stamps.{stamp_after}
use Rattle.ooo_time.specs.Delays.{advanced}
use Rattle.ooo_code.specs.AsSaid.{IsAsSaid}
use Rattle.ooo_segments.specs.Edges.{delay_after}
use Rattle.ooo_schedules.specs.Delays.{NotAfter}

pub above_zero : (n : ℕ) → (n == 0) ≡ false → 0 < n
above_zero n e = ⊎_elim (λ h. absurd (eqb-false n 0 e h)) (λ h. ⊎_elim (λ x. absurd (omega (arith, x))) (λ x. x) h) (cases_order n 0)

pub notice_fits : (s : Stamp) (k : Time) (delay : Option Time) → IsAsSaid k delay → NotAfter (advanced s (delay_after delay)) (stamp_after s k)
notice_fits s k (Some t) h = subst (λ x. NotAfter (advanced s (delay_after (Some t))) (stamp_after s x)) (sym h) (at (t.0 == 0))
  where
    at :
        (b : Bool) →
        NotAfter (if b then record { time = s.time; delta = s.delta + 0 } else record { time = record { 0 = s.time.0 + t.0 }; delta = 0 })
        (if b then record { time = s.time; delta = s.delta + 1 } else record { time = record { 0 = s.time.0 + t.0 }; delta = 0 })
    at true = inl (inr (refl, omega arith))
    at false = inr refl
notice_fits s k None h = at (k.0 == 0) refl
  where
    at :
        (b : Bool) → (k.0 == 0) ≡ b →
        NotAfter (record { time = s.time; delta = s.delta + 1 }) (if b then record { time = s.time; delta = s.delta + 1 } else record { time = record { 0 = s.time.0 + k.0 }; delta = 0 })
    at true e = inr refl
    at false e = let more = above_zero k.0 e in inl (inl (omega (arith, more)))
