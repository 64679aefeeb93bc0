-- A table, row by row.
use Rattle.std.proofs.Common.{◌≡◌, ℕ, ◌+◌, ◌<◌, List, [], ◌∷◌, ◌++◌, length, Option, refl, sym, ◌∙◌, subst, arith, inl, inr}
use Rattle.std.specs.Prelude.{All}
use Rattle.std.proofs.lemmas.Bool.{cases_lt}
use Rattle.std.proofs.lemmas.List.{length_push, get_or_append_left, get_or_at}
use Rattle.std.proofs.lemmas.List.Elements.{All-nil, All-push}
use Rattle.ooo_time.specs.declared.delay.Delay.{Delay}
use Rattle.ooo_segments.specs.declared.graphs.Graph.{Graph}
use Rattle.ooo_access.specs.declared.access.Access.{Access}
use Rattle.ooo_advance.specs.Walks.{IsLeast}
use Rattle.ooo_advance.specs.Rows.{AreAddable, IsTable, delay_at, entry_at}
use Rattle.ooo_advance.specs.Links.{HasRows, IsLinkTable}
use Rattle.ooo_advance.specs.Settled.{IsSettled}
use Rattle.ooo_advance.proofs.SettledLemmas.{settled_is_least}

-- the rows of the segments below n
pub record RowsSoFar (graph : Graph) (access : List Access) (n : ℕ) (rows : List (List (Option Delay))) : Type 0 where
  pub count : length rows ≡ n
  pub long : HasRows (length access) rows
  pub addable : All AreAddable rows
  pub least : (a b : ℕ) → a < n → b < length access → IsLeast graph access a b (entry_at rows a b)

pub rows_none : (graph : Graph) (access : List Access) → RowsSoFar graph access 0 []
rows_none graph access = record { count = refl; long = All-nil (λ row. length row ≡ length access); addable = All-nil AreAddable; least = λ a b lt in_b. absurd (omega arith) }

pub rows_more : (graph : Graph) (access : List Access) (n : ℕ) (rows : List (List (Option Delay))) (row : List (Option Delay)) → RowsSoFar graph access n rows → length row ≡ length access → AreAddable row → IsSettled graph access n row → RowsSoFar graph access (n + 1) (rows ++ row ∷ [])
rows_more graph access n rows row h long add s = record {
  count = let c = h.count in let p = length_push rows row in omega arith;
  long = All-push (λ r. length r ≡ length access) rows row h.long long;
  addable = All-push AreAddable rows row h.addable add;
  least = λ a b lt in_b.
      let c = h.count in
      elim (cases_lt a n) [
        | inl lower ↦
            let same = get_or_append_left rows (row ∷ []) [] a (omega arith) in
            subst (λ r. IsLeast graph access a b (delay_at r b)) (sym same) (h.least a b lower in_b)
        | inr above ↦
            let e : n ≡ a = omega arith in
            let same = get_or_at rows row [] [] a (c ∙ e) in
            subst (λ r. IsLeast graph access a b (delay_at r b)) (sym same) (subst (λ m. IsLeast graph access m b (delay_at row b)) e (settled_is_least graph access n row s b))
      ];
}

pub rows_end : (graph : Graph) (access : List Access) (n : ℕ) (rows : List (List (Option Delay))) → n ≡ length access → RowsSoFar graph access n rows → IsTable graph access rows
rows_end graph access n rows e h = record { count = h.count ∙ e; least = λ a b in_a in_b. h.least a b (omega arith) in_b }

pub rows_long : (graph : Graph) (access : List Access) (n : ℕ) (rows : List (List (Option Delay))) → n ≡ length access → RowsSoFar graph access n rows → All (λ row. length row ≡ length rows) rows
rows_long graph access n rows e h = subst (λ count. HasRows count rows) (sym (h.count ∙ e)) h.long

-- a table of links has as many rows as each row is long
pub links_square : (graph : Graph) (access : List Access) (links : List (List (Option Delay))) → IsLinkTable graph access links → HasRows (length links) links
links_square graph access links h = subst (λ count. HasRows count links) (sym h.count) h.rows
