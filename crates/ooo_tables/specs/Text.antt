-- The text of a design's tables.
use Rattle.std.specs.Prelude.{ℕ, zero, suc, ◌==◌, List, [], ◌++◌, Option, Some, None, codes, decimal, length, slice_get, slice_index_or, if◌then◌else◌}
use Rattle.ooo_time.specs.declared.delay.Delay.{Delay}
use Rattle.ooo_time.specs.TimeText.{time_text}
use Rattle.ooo_code.specs.declared.design.Design.{Design}
use Rattle.ooo_code.specs.declared.node.Node.{Node}
use Rattle.ooo_code.specs.declared.segment.Segment.{Segment}
use Rattle.ooo_code.specs.declared.segment.SegmentEntry.{SegmentEntry}
use Rattle.ooo_code.specs.declared.segment.SegmentEntry.TheVariants.{Start, After}
use Rattle.ooo_conflicts.specs.declared.kind.ClashKind.{ClashKind}
use Rattle.ooo_conflicts.specs.declared.kind.ClashKind.TheVariants.{Apart, Earlier, Same}
use Rattle.ooo_conflicts.specs.Kinds.{kind_at}
use Rattle.ooo_advance.specs.Rows.{entry_at}
use Rattle.ooo_tables.specs.declared.tables.Tables.{Tables}

-- what is written for each number below n, one after another
abbrev pub each_below : ℕ → (ℕ → List ℕ) → List ℕ
each_below zero write = []
each_below (suc n) write = each_below n write ++ write n

-- ---- segments

-- the line of a node
abbrev pub line_of : Option Node → ℕ
line_of None = 0
line_of (Some node) = node.line

-- where a segment begins: at the start of its process, or on the line of the wait after which it begins
abbrev pub entry_text : Design → SegmentEntry → List ℕ
entry_text design Start = codes "start"
entry_text design (After wait) = decimal (line_of (slice_get design.nodes wait))

-- the name of a process
abbrev pub process_name : List (List ℕ) → ℕ → List ℕ
process_name names p = slice_index_or names p []

-- the line of segment n
abbrev pub segment_text : Design → (names : List (List ℕ)) → (n : ℕ) → Segment → List ℕ
segment_text design names n segment =
    codes "segment " ++ decimal n ++ codes " " ++ process_name names segment.process ++ codes " "
    ++ entry_text design segment.entry ++ codes "\n"

-- the line of segment n, if there is such a one
abbrev pub segment_line : Design → (names : List (List ℕ)) → (n : ℕ) → Option Segment → List ℕ
segment_line design names n None = []
segment_line design names n (Some segment) = segment_text design names n segment

-- the lines of these segments
abbrev pub segments_text : Design → (names : List (List ℕ)) → List Segment → List ℕ
segments_text design names segments = each_below (length segments) (λ n. segment_line design names n (slice_get segments n))

-- ---- least delays

-- the numbers of two segments, with a blank before each
abbrev pub pair_text : (a b : ℕ) → List ℕ
pair_text a b = codes " " ++ decimal a ++ codes " " ++ decimal b

-- the line of the least delay from segment a to segment b, if there is one
abbrev pub least_text : (a b : ℕ) → Option Delay → List ℕ
least_text a b None = []
least_text a b (Some d) =
    codes "least" ++ pair_text a b ++ codes " " ++ time_text d.time ++ codes " " ++ decimal d.deltas ++ codes "\n"

-- the lines of the least delays from segment a to each of so many
abbrev pub leasts_from_text : List (List (Option Delay)) → (count : ℕ) → (a : ℕ) → List ℕ
leasts_from_text rows count a = each_below count (λ b. least_text a b (entry_at rows a b))

-- the lines of the least delays between any two of so many segments
abbrev pub leasts_text : List (List (Option Delay)) → (count : ℕ) → List ℕ
leasts_text rows count = each_below count (leasts_from_text rows count)

-- ---- clashes

-- the line of segments a and b, if they clash: whether even at one stamp, or where a comes at an earlier one
abbrev pub clash_text : (a b : ℕ) → ClashKind → List ℕ
clash_text a b Apart = []
clash_text a b Same = codes "clash" ++ pair_text a b ++ codes " same\n"
clash_text a b Earlier = codes "clash" ++ pair_text a b ++ codes " earlier\n"

-- the process of a segment
abbrev pub process_of : Option Segment → ℕ
process_of None = 0
process_of (Some segment) = segment.process

-- the line of segments a and b, if they are of two processes and clash
abbrev pub clash_between_text : List Segment → List (List ClashKind) → (a b : ℕ) → List ℕ
clash_between_text segments rows a b =
    if process_of (slice_get segments a) == process_of (slice_get segments b) then [] else clash_text a b (kind_at rows a b)

-- the lines of segment a and each other
abbrev pub clashes_from_text : List Segment → List (List ClashKind) → (a : ℕ) → List ℕ
clashes_from_text segments rows a = each_below (length segments) (clash_between_text segments rows a)

-- the lines of any two segments
abbrev pub clashes_text : List Segment → List (List ClashKind) → List ℕ
clashes_text segments rows = each_below (length segments) (clashes_from_text segments rows)

-- ---- all tables

-- the segments, the least delays, and the clashes
abbrev pub tables_text : Design → (names : List (List ℕ)) → Tables → List ℕ
tables_text design names t =
    segments_text design names t.graph.segments ++ leasts_text t.advance (length t.graph.segments)
    ++ clashes_text t.graph.segments t.clash
