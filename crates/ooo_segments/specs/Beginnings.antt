-- All segments of a design, in order.
use Rattle.std.specs.Prelude.{◌≡◌, ℕ, suc, List, [], ◌∷◌, ◌++◌, map, All}
use Rattle.ooo_code.specs.declared.design.Design.{Design}
use Rattle.ooo_code.specs.declared.design.Proc.{Proc}
use Rattle.ooo_code.specs.declared.segment.Segment.{Segment}
use Rattle.ooo_code.specs.declared.segment.SegmentEntry.{SegmentEntry}
use Rattle.ooo_code.specs.Segments.{entries_of, IsSegment}

-- the most segments that a design may have
abbrev pub greatest_segments : ℕ
greatest_segments = 1024

-- where a segment begins: its process, and its entry there
abbrev pub Beginning : Type 0
Beginning = ℕ × SegmentEntry

-- where a segment begins
abbrev pub beginning_of : Segment → Beginning
beginning_of segment = (segment.process, segment.entry)

-- where the segments of process p begin: at its start first, and then after each of its waits in order
abbrev pub beginnings_of : Design → ℕ → Proc → List Beginning
beginnings_of design p process = map (λ e. (p, e)) (entries_of design process)

-- where the segments of these processes begin, the first of which has the number p
abbrev pub beginnings_from : Design → ℕ → List Proc → List Beginning
beginnings_from design p [] = []
beginnings_from design p (process ∷ others) = beginnings_of design p process ++ beginnings_from design (suc p) others

-- where all segments of a design begin, process by process
abbrev pub beginnings : Design → List Beginning
beginnings design = beginnings_from design 0 design.processes

-- all segments of a design, in order
pub record AreSegments (design : Design) (segments : List Segment) : Type 0 where
  pub order : map beginning_of segments ≡ beginnings design
  pub each : All (IsSegment design) segments

-- these segments were added, which begin there
pub record AddsSegments (design : Design) (segments segments' : List Segment) (added : List Beginning) : Type 0 where
  pub order : map beginning_of segments' ≡ map beginning_of segments ++ added
  pub each : All (IsSegment design) segments → All (IsSegment design) segments'
