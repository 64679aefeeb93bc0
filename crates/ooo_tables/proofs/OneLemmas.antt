-- A design has one set of tables.
use Rattle.std.proofs.Common.{◌≡◌, List, length, ap, sym, ◌∙◌, subst, Option}
use Rattle.ooo_time.specs.declared.delay.Delay.{Delay}
use Rattle.ooo_code.specs.declared.design.Design.{Design}
use Rattle.ooo_code.specs.declared.segment.Segment.{Segment}
use Rattle.ooo_segments.specs.declared.graphs.Edge.{Edge}
use Rattle.ooo_segments.specs.declared.graphs.Graph.{Graph}
use Rattle.ooo_segments.specs.Edges.{AreEdges}
use Rattle.ooo_access.specs.declared.access.Access.{Access}
use Rattle.ooo_conflicts.specs.declared.kind.ClashKind.{ClashKind}
use Rattle.ooo_conflicts.specs.Kinds as kinds
use Rattle.ooo_advance.specs.Rows as delays
use Rattle.ooo_tables.specs.Accesses.{AreAccesses}
use Rattle.ooo_tables.specs.declared.tables.Tables.{Tables}
use Rattle.ooo_tables.specs.Tables.{AreTables, HaveCount}
use Rattle.ooo_tables.proofs.GraphLemmas.{same_segments, same_edges}
use Rattle.ooo_tables.proofs.AccessLemmas.{same_accesses}
use Rattle.ooo_tables.proofs.ClashLemmas.{same_clashes}
use Rattle.ooo_tables.proofs.DelayLemmas.{same_delays}

-- a graph by its parts
abbrev graph_of : List Segment → List Edge → Graph
graph_of segments edges = record { segments = segments; edges = edges }

-- tables by their parts
abbrev tables_of : Graph → List Access → List (List ClashKind) → List (List (Option Delay)) → Tables
tables_of graph access clash advance = record { graph = graph; access = access; clash = clash; advance = advance }

same_graph : (design : Design) (s t : Tables) → AreTables design s → AreTables design t → s.graph ≡ t.graph
same_graph design s t a b =
    let segments = same_segments design s.graph.segments t.graph.segments a.segments b.segments in
    let edges = subst (λ k. AreEdges design k t.graph.edges) (sym segments) b.edges in
    ap (λ (k : List Edge). graph_of s.graph.segments k) (same_edges design s.graph.segments s.graph.edges t.graph.edges a.edges edges)
    ∙ ap (λ (k : List Segment). graph_of k t.graph.edges) segments

same_access : (design : Design) (s t : Tables) → AreTables design s → AreTables design t → s.access ≡ t.access
same_access design s t a b =
    let segments = same_segments design s.graph.segments t.graph.segments a.segments b.segments in
    same_accesses design s.graph.segments s.access t.access a.access (subst (λ k. AreAccesses design k t.access) (sym segments) b.access)

same_clash : (design : Design) (s t : Tables) → AreTables design s → AreTables design t → s.access ≡ t.access → s.clash ≡ t.clash
same_clash design s t a b e =
    same_clashes design.events s.access s.clash t.clash a.clash a.clash_rows
    (subst (λ k. kinds.IsTable design.events k t.clash) (sym e) b.clash)
    (subst (λ k. HaveCount (length k) t.clash) (sym e) b.clash_rows)

same_advance : (design : Design) (s t : Tables) → AreTables design s → AreTables design t → s.graph ≡ t.graph → s.access ≡ t.access → s.advance ≡ t.advance
same_advance design s t a b g e =
    same_delays s.graph s.access s.advance t.advance a.advance a.advance_rows a.addable
    (subst (λ k. delays.IsTable k s.access t.advance) (sym g) (subst (λ k. delays.IsTable t.graph k t.advance) (sym e) b.advance))
    (subst (λ k. HaveCount (length k) t.advance) (sym e) b.advance_rows)
    b.addable

pub same_tables : (design : Design) (s t : Tables) → AreTables design s → AreTables design t → s ≡ t
same_tables design s t a b =
    let g = same_graph design s t a b in
    let e = same_access design s t a b in
    ap (λ (k : Graph). tables_of k s.access s.clash s.advance) g
    ∙ ap (λ (k : List Access). tables_of t.graph k s.clash s.advance) e
    ∙ ap (λ (k : List (List ClashKind)). tables_of t.graph t.access k s.advance) (same_clash design s t a b e)
    ∙ ap (λ (k : List (List (Option Delay))). tables_of t.graph t.access t.clash k) (same_advance design s t a b g e)
