-- A settled row has the least sums.
use Rattle.std.proofs.Common.{◌≡◌, ℕ, ◌≤◌, List, [], ◌∷◌, Option, Some, None, refl, sym, subst, arith, inl, inr}
use Rattle.std.proofs.lemmas.Bool.{cases_lt}
use Rattle.ooo_time.specs.declared.delay.Delay.{Delay}
use Rattle.ooo_time.specs.Delays.{joined}
use Rattle.ooo_time.specs.Scales.{greatest_time}
use Rattle.ooo_segments.specs.declared.graphs.Edge.{Edge}
use Rattle.ooo_segments.specs.declared.graphs.Graph.{Graph}
use Rattle.ooo_access.specs.declared.access.Access.{Access}
use Rattle.ooo_advance.specs.Orders.{AtMost}
use Rattle.ooo_advance.specs.Walks.{Walk, no_delay, sum_from, sum_of, IsLeast}
use Rattle.ooo_advance.specs.Orders.{HasAtMost}
use Rattle.ooo_advance.specs.Rows.{delay_at}
use Rattle.ooo_advance.specs.Settled.{IsSettled}
use Rattle.ooo_advance.proofs.OrderLemmas.{joined_left, joined_more, at_most_refl, at_most_trans, at_most_not_less}

-- a sum grows along a walk
sum_grows : (s : Delay) (es : List Edge) → AtMost s (sum_from s es)
sum_grows s [] = at_most_refl s
sum_grows s (e ∷ es) = at_most_trans s (joined s e.delay) (sum_from (joined s e.delay) es) (joined_more s e.delay) (sum_grows (joined s e.delay) es)

-- where the row has a segment, it has each that a walk within the greatest time comes to, by no more than its sum
reaches : (graph : Graph) (access : List Access) (a : ℕ) (row : List (Option Delay)) → IsSettled graph access a row → (es : List Edge) (x b : ℕ) (d s : Delay) → Walk graph access x b es → delay_at row x ≡ Some d → AtMost d s → (sum_from s es).time.0 ≤ greatest_time → HasAtMost (delay_at row b) (sum_from s es)
reaches graph access a row h [] x b d s w is le fits = record { has = d; is = subst (λ n. delay_at row n ≡ Some d) w is; at_most = le }
reaches graph access a row h (e ∷ es) x b d s w is le fits =
    let at_from : delay_at row e.from ≡ Some d = subst (λ n. delay_at row n ≡ Some d) (sym w.0) is in
    let keeps = joined_left d s e.delay le in
    let t = keeps.time in
    let u = (sum_grows (joined s e.delay) es).time in
    let next = h.closed e d at_from w.1 (omega arith) in
    reaches graph access a row h es e.to b next.has (joined s e.delay) w.2 next.is (at_most_trans next.has (joined d e.delay) (joined s e.delay) next.at_most keeps) fits

from_start : (graph : Graph) (access : List Access) (a : ℕ) (row : List (Option Delay)) → IsSettled graph access a row → (b : ℕ) (es : List Edge) → Walk graph access a b es → (sum_of es).time.0 ≤ greatest_time → HasAtMost (delay_at row b) (sum_of es)
from_start graph access a row h b es w fits = reaches graph access a row h es a b no_delay no_delay w h.start (at_most_refl no_delay) fits

least_by : (graph : Graph) (access : List Access) (a b : ℕ) (row : List (Option Delay)) → IsSettled graph access a row → (r : Option Delay) → delay_at row b ≡ r → IsLeast graph access a b r
least_by graph access a b row h None e = λ es w.
    elim (cases_lt greatest_time (sum_of es).time.0) [
      | inl beyond ↦ beyond
      | inr fits ↦ let m = from_start graph access a row h b es w fits in let i = m.is in absurd cc
    ]
least_by graph access a b row h (Some d) e =
    let own = h.walks b d e in (
      own.0,
      λ es w less.
          let small : (sum_of es).time.0 ≤ d.time.0 = elim less [ inl t ↦ omega arith | inr p ↦ let q = p.0 in omega arith ] in
          let top = own.1 in
          let m = from_start graph access a row h b es w (omega arith) in
          let same : m.has ≡ d = let i = m.is in cc in
          at_most_not_less d (sum_of es) (subst (λ x. AtMost x (sum_of es)) same m.at_most) less,
    )

-- a settled row has the least sum to each segment
pub settled_is_least : (graph : Graph) (access : List Access) (a : ℕ) (row : List (Option Delay)) → IsSettled graph access a row → (b : ℕ) → IsLeast graph access a b (delay_at row b)
settled_is_least graph access a row h b = least_by graph access a b row h (delay_at row b) refl
