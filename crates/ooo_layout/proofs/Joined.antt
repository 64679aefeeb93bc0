-- Slots that several parts need.
use Rattle.std.proofs.Common.{◌≡◌, ℕ, max, refl, arith}
use Rattle.std.proofs.Math.Nat.{max-zero, zero-max}
use Rattle.ooo_shapes.specs.declared.around.Widths.{Widths}
use Rattle.ooo_shapes.specs.Widths.{both, nothing}

max_assoc : (a b c : ℕ) → max (max a b) c ≡ max a (max b c)
max_assoc a b c = omega arith

abbrev made : (a b c d e : ℕ) → Widths
made a b c d e = record { bools = a; ints = b; uints = c; longs = d; ulongs = e }

same_widths : (a a' b b' c c' d d' e e' : ℕ) → a ≡ a' → b ≡ b' → c ≡ c' → d ≡ d' → e ≡ e' → made a b c d e ≡ made a' b' c' d' e'
same_widths a a' b b' c c' d d' e e' h i j k l = rw (h, i, j, k, l) refl

pub both_assoc : (u v w : Widths) → both (both u v) w ≡ both u (both v w)
both_assoc u v w =
    same_widths _ _ _ _ _ _ _ _ _ _
    (max_assoc u.bools v.bools w.bools)
    (max_assoc u.ints v.ints w.ints)
    (max_assoc u.uints v.uints w.uints)
    (max_assoc u.longs v.longs w.longs)
    (max_assoc u.ulongs v.ulongs w.ulongs)

pub nothing_both : (w : Widths) → both nothing w ≡ w
nothing_both w =
    same_widths _ _ _ _ _ _ _ _ _ _ (zero-max w.bools) (zero-max w.ints) (zero-max w.uints) (zero-max w.longs) (zero-max w.ulongs)

pub both_nothing : (w : Widths) → both w nothing ≡ w
both_nothing w =
    same_widths _ _ _ _ _ _ _ _ _ _ (max-zero w.bools) (max-zero w.ints) (max-zero w.uints) (max-zero w.longs) (max-zero w.ulongs)
