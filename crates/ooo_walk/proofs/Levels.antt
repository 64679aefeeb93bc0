-- A level more of an instance.
use Rattle.std.proofs.Common.{◌≡◌, refl, ap, arith, ℕ, zero, suc, ◌-◌}
use Rattle.ooo_walk.specs.declared.state.Walk.{Walk}
use Rattle.ooo_walk.specs.Instances.{inside_of, walked_with}
use Rattle.ooo_walk.specs.Plans.{Filed, view_at}

-- an instance of which some levels are walked
pub inside_step : (levels : ℕ) (f : Filed) (n : ℕ) (w : Walk) → (levels ≡ 0 → ⊥) →
    inside_of levels f n w ≡ walked_with (inside_of (levels - 1) f) f (view_at f n) w
inside_step zero f n w some = absurd (some refl)
inside_step (suc levels) f n w some =
    let e : levels ≡ suc levels - 1 = omega arith in ap (λ k. walked_with (inside_of k f) f (view_at f n) w) e
