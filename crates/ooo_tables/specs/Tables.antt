-- The tables of a design.
use Rattle.std.specs.Prelude.{◌≡◌, ℕ, ◌≤◌, List, length, All}
use Rattle.ooo_code.specs.declared.design.Design.{Design}
use Rattle.ooo_segments.specs.Beginnings.{greatest_segments, AreSegments}
use Rattle.ooo_segments.specs.Edges.{AreEdges}
use Rattle.ooo_conflicts.specs.Kinds as kinds
use Rattle.ooo_advance.specs.Rows as delays
use Rattle.ooo_tables.specs.Accesses.{AreAccesses}
use Rattle.ooo_tables.specs.declared.tables.Tables.{Tables}

-- each row has so many entries
abbrev pub HaveCount : {A : Type 0} → ℕ → List (List A) → Type 0
HaveCount count rows = All (λ row. length row ≡ count) rows

-- all segments and edges of the design, the access of each segment, when any two of them clash, and the least delay by
-- which one can come after another
pub record AreTables (design : Design) (t : Tables) : Type 0 where
  pub few : length t.graph.segments ≤ greatest_segments
  pub segments : AreSegments design t.graph.segments
  pub edges : AreEdges design t.graph.segments t.graph.edges
  pub access : AreAccesses design t.graph.segments t.access
  pub clash : kinds.IsTable design.events t.access t.clash
  pub clash_rows : HaveCount (length t.access) t.clash
  pub advance : delays.IsTable t.graph t.access t.advance
  pub advance_rows : HaveCount (length t.access) t.advance
  pub addable : All delays.AreAddable t.advance
