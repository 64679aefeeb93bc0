-- The order of delays, and that joining keeps it.
use Rattle.std.proofs.Common.{◌≡◌, ◌+◌, ◌<◌, Bool, true, false, cond, eqb, refl, sym, arith, inl, inr, ◌⊎◌}
use Rattle.std.proofs.lemmas.Bool.{cases_lt, eqb-true, eqb-false}
use Rattle.ooo_time.specs.declared.delay.Delay.{Delay}
use Rattle.ooo_time.specs.Delays.{IsLess, joined}
use Rattle.ooo_advance.specs.Orders.{AtMost}

-- then it isn't greater
pub at_most_not_less : (d e : Delay) → AtMost d e → IsLess e d → ⊥
at_most_not_less d e h l =
    let t = h.time in
    elim l [ inl a ↦ omega arith | inr b ↦ let s = b.0 in let k = b.1 in let g = h.deltas (omega arith) in omega arith ]

pub at_most_refl : (d : Delay) → AtMost d d
at_most_refl d = record { time = omega arith; deltas = λ _. omega arith }

pub at_most_trans : (a b c : Delay) → AtMost a b → AtMost b c → AtMost a c
at_most_trans a b c p q =
    let t = p.time in
    let u = q.time in
    record { time = omega arith; deltas = λ e. let g = p.deltas (omega arith) in let h = q.deltas (omega arith) in omega arith }

-- what isn't less is at least as great
pub not_less_at_most : (d e : Delay) → (IsLess e d → ⊥) → AtMost d e
not_less_at_most d e out = record {
  time = elim (cases_lt e.time.0 d.time.0) [ inl a ↦ absurd (out (inl a)) | inr b ↦ b ];
  deltas = λ s. elim (cases_lt e.deltas d.deltas) [ inl a ↦ absurd (out (inr (sym s, a))) | inr b ↦ b ];
}

-- joining, by whether the second has a time
pub joined_parts : (d e : Delay) → ((e.time.0 ≡ 0) × ((joined d e).time.0 ≡ d.time.0) × ((joined d e).deltas ≡ d.deltas + e.deltas)) ⊎ ((0 < e.time.0) × ((joined d e).time.0 ≡ d.time.0 + e.time.0) × ((joined d e).deltas ≡ e.deltas))
joined_parts d e = at (eqb e.time.0 0) refl
  where
    two : Bool → Delay
    two b = cond b (record { time = d.time; deltas = d.deltas + e.deltas }) (record { time = record { 0 = d.time.0 + e.time.0 }; deltas = e.deltas })

    at : (b : Bool) → eqb e.time.0 0 ≡ b → ((e.time.0 ≡ 0) × ((two b).time.0 ≡ d.time.0) × ((two b).deltas ≡ d.deltas + e.deltas)) ⊎ ((0 < e.time.0) × ((two b).time.0 ≡ d.time.0 + e.time.0) × ((two b).deltas ≡ e.deltas))
    at true q = inl (eqb-true e.time.0 0 q, refl, refl)
    at false q = let z = eqb-false e.time.0 0 q in inr (omega arith, refl, refl)

-- a lesser first delay gives a lesser sum
pub joined_left : (a b e : Delay) → AtMost a b → AtMost (joined a e) (joined b e)
joined_left a b e h =
    let t = h.time in
    elim (joined_parts a e) [
      | inl p ↦ elim (joined_parts b e) [
        | inl q ↦ let x = p.1 in let y = q.1 in let u = p.2 in let v = q.2 in
            record { time = omega arith; deltas = λ s. let g = h.deltas (omega arith) in omega arith }
        | inr q ↦ let x = p.0 in let y = q.0 in absurd (omega arith)
      ]
      | inr p ↦ elim (joined_parts b e) [
        | inl q ↦ let x = p.0 in let y = q.0 in absurd (omega arith)
        | inr q ↦ let x = p.1 in let y = q.1 in let u = p.2 in let v = q.2 in
            record { time = omega arith; deltas = λ s. omega arith }
      ]
    ]

-- a lesser second delay gives a lesser sum
pub joined_right : (a d e : Delay) → AtMost d e → AtMost (joined a d) (joined a e)
joined_right a d e h =
    let t = h.time in
    elim (joined_parts a d) [
      | inl p ↦ elim (joined_parts a e) [
        | inl q ↦ let w = p.0 in let z = q.0 in let x = p.1 in let y = q.1 in let u = p.2 in let v = q.2 in
            record { time = omega arith; deltas = λ s. let g = h.deltas (omega arith) in omega arith }
        | inr q ↦ let z = q.0 in let x = p.1 in let y = q.1 in
            record { time = omega arith; deltas = λ s. absurd (omega arith) }
      ]
      | inr p ↦ elim (joined_parts a e) [
        | inl q ↦ let x = p.0 in let y = q.0 in absurd (omega arith)
        | inr q ↦ let x = p.1 in let y = q.1 in let u = p.2 in let v = q.2 in
            record { time = omega arith; deltas = λ s. let g = h.deltas (omega arith) in omega arith }
      ]
    ]

-- a sum is at least its first delay
pub joined_more : (a e : Delay) → AtMost a (joined a e)
joined_more a e =
    elim (joined_parts a e) [
      | inl p ↦ let x = p.1 in let u = p.2 in record { time = omega arith; deltas = λ s. omega arith }
      | inr p ↦ let z = p.0 in let x = p.1 in record { time = omega arith; deltas = λ s. absurd (omega arith) }
    ]
