-- Segments have one table of least delays.
use Rattle.std.proofs.Common.{◌≡◌, ℕ, ◌≤◌, List, [], length, refl, ap, sym, ◌∙◌, subst, arith, inl, inr, Option, Some, None}
use Rattle.std.specs.Prelude.{All}
use Rattle.std.proofs.lemmas.Bool.{cases_lt}
use Rattle.ooo_time.specs.declared.delay.Delay.{Delay}
use Rattle.ooo_time.specs.Delays.{IsLess}
use Rattle.ooo_time.specs.Scales.{greatest_time}
use Rattle.ooo_segments.specs.declared.graphs.Graph.{Graph}
use Rattle.ooo_access.specs.declared.access.Access.{Access}
use Rattle.ooo_advance.specs.Orders.{AtMost}
use Rattle.ooo_advance.specs.Rows.{AreAddable, IsTable, entry_at}
use Rattle.ooo_advance.specs.Walks.{HasWalk, IsLeast, NoLess, sum_of}
use Rattle.ooo_tables.specs.Tables.{HaveCount}
use Rattle.ooo_tables.proofs.RowLemmas.{same_rows}

-- a delay by its parts
abbrev delay_of : (ticks deltas : ℕ) → Delay
delay_of ticks deltas = record { time = record { 0 = ticks }; deltas = deltas }

-- two delays that are at most each other are the same
same_delay : (d e : Delay) → AtMost d e → AtMost e d → d ≡ e
same_delay d e p q =
    let t = p.time in
    let u = q.time in
    let ticks : d.time.0 ≡ e.time.0 = omega arith in
    let v = p.deltas ticks in
    let w = q.deltas (omega arith) in
    let deltas : d.deltas ≡ e.deltas = omega arith in
    ap (λ (k : ℕ). delay_of k d.deltas) ticks ∙ ap (λ (k : ℕ). delay_of e.time.0 k) deltas

-- what isn't less is at least as great
not_less : (d e : Delay) → (IsLess e d → ⊥) → AtMost d e
not_less d e out = record {
  time = elim (cases_lt e.time.0 d.time.0) [ inl a ↦ absurd (out (inl a)) | inr b ↦ b ];
  deltas = λ s. elim (cases_lt e.deltas d.deltas) [ inl a ↦ absurd (out (inr (sym s, a))) | inr b ↦ b ];
}

-- no walk is less, so this one isn't
at_most_walk : (graph : Graph) (access : List Access) (a b : ℕ) (d e : Delay) → NoLess graph access a b d → HasWalk graph access a b e → AtMost d e
at_most_walk graph access a b d e none w =
    not_less d e (λ less. none w.edges w.walk (subst (λ k. IsLess k d) (sym w.sum) less))

-- a delay of the greatest time at most
abbrev IsWithin : Option Delay → Type 0
IsWithin o = (d : Delay) → o ≡ Some d → d.time.0 ≤ greatest_time

-- a walk of the greatest time at most isn't beyond it
not_beyond : (graph : Graph) (access : List Access) (a b : ℕ) (d : Delay) → IsLeast graph access a b None → HasWalk graph access a b d → d.time.0 ≤ greatest_time → ⊥
not_beyond graph access a b d beyond w within =
    let lt = beyond w.edges w.walk in
    let s : (sum_of w.edges).time.0 ≡ d.time.0 = ap (λ (k : Delay). k.time.0) w.sum in
    omega arith

-- between two segments there is one least delay
same_least : (graph : Graph) (access : List Access) (a b : ℕ) (o u : Option Delay) → IsLeast graph access a b o → IsLeast graph access a b u → IsWithin o → IsWithin u → o ≡ u
same_least graph access a b None None p q w v = refl
same_least graph access a b None (Some e) p q w v = absurd (not_beyond graph access a b e p q.0 (v e refl))
same_least graph access a b (Some d) None p q w v = absurd (not_beyond graph access a b d q p.0 (w d refl))
same_least graph access a b (Some d) (Some e) p q w v =
    ap (λ (k : Delay). Some k) (same_delay d e (at_most_walk graph access a b d e p.1 q.0) (at_most_walk graph access a b e d q.1 p.0))

pub same_delays : (graph : Graph) (access : List Access) (rows others : List (List (Option Delay))) → IsTable graph access rows → HaveCount (length access) rows → All AreAddable rows → IsTable graph access others → HaveCount (length access) others → All AreAddable others → rows ≡ others
same_delays graph access rows others a wide add b wide' add' =
    let n = a.count in
    let m = b.count in
    same_rows (length access) None rows others a.count b.count wide wide'
    (λ x y lt lt'.
    same_least graph access x y (entry_at rows x y) (entry_at others x y) (a.least x y lt lt') (b.least x y lt lt')
    (λ d e. (add x [] (omega arith) y d e).time)
    (λ d e. (add' x [] (omega arith) y d e).time))
