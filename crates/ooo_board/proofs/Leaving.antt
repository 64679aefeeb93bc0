-- How an activation leaves its process.
use Rattle.std.proofs.Common.{◌≡◌, ℕ, ◌<◌, List, [], ◌∷◌, Bool, true, Option, Some, length, get_or, sym, ap, ◌∙◌, arith}
use Rattle.std.specs.Prelude.{slice_get}
use Rattle.std.specs.List.{position_or_len}
use Rattle.std.proofs.lemmas.List.Sums.{passes_at_first}
use Rattle.std.proofs.lemmas.Option.{slice_get-get_or}
use Rattle.ooo_time.specs.declared.stamp.Stamp.{Stamp}
use Rattle.ooo_code.specs.declared.activation.JobEnd.{JobEnd}
use Rattle.ooo_code.specs.declared.activation.JobEnd.TheVariants as job
use Rattle.ooo_code.specs.declared.activation.WaitOn.{WaitOn}
use Rattle.ooo_code.specs.declared.design.Design.{Design}
use Rattle.ooo_code.specs.declared.limits.Limits.{Limits}
use Rattle.ooo_code.specs.declared.segment.Segment.{Segment}
use Rattle.ooo_code.specs.declared.segment.SegmentEntry.{SegmentEntry}
use Rattle.ooo_schedules.specs.Program.{time_out, wait_left}
use Rattle.ooo_tables.specs.declared.tables.Tables.{Tables}
use Rattle.ooo_dispatch.specs.Least.{rules_of}
use Rattle.ooo_dispatch.specs.Rules.{left_by, segment_at}
use Rattle.ooo_board.specs.declared.links.Links.{Links}
use Rattle.ooo_board.specs.Committing.{MayLeave, WaitsInTime}
use Rattle.ooo_board.specs.Cores.{wait_is}
use Rattle.ooo_board.specs.Links.{HasSegment, begins_at}

-- where a test passes within a list, the first that passes it is there
pub found : {A : Type 0} (test : A → Bool) (xs : List A) → position_or_len test xs < length xs → (x : A) × (slice_get xs (position_or_len test xs) ≡ Some x) × (test x ≡ true)
found test [] lt = absurd (omega arith)
found test (x ∷ xs) lt = (get_or (x ∷ xs) (position_or_len test (x ∷ xs)) x, slice_get-get_or (x ∷ xs) (position_or_len test (x ∷ xs)) x lt, passes_at_first test (x ∷ xs) x lt)

module _ (t : Tables) (l : Links) (p : ℕ) (entry : SegmentEntry) (end : JobEnd) (at : Stamp) (on : WaitOn) (is : end ≡ job.Waits on) where
  pub has_segment : (segments : List Segment) → segments ≡ t.graph.segments → ((design : Design) × (limits : Limits) × MayLeave design limits t l p entry end at) → HasSegment l segments p entry
  has_segment segments same (design, limits, may) =
      let next = may.next (segment_at (rules_of design limits t) p entry) on.time on.events (ap (left_by (rules_of design limits t) p entry) is) in
      let one = found (begins_at p entry) t.graph.segments next.0 in
      record {
        design = design;
        tables = t;
        are_tables = may.are_tables;
        segments_are = sym same;
        links = may.links;
        number = segment_at (rules_of design limits t) p entry;
        segment = one.0;
        there = ap (λ ss. slice_get ss (segment_at (rules_of design limits t) p entry)) same ∙ one.1;
        begins = one.2;
      }

  pub waits_in_time : ((design : Design) × (limits : Limits) × MayLeave design limits t l p entry end at) → WaitsInTime at on.time
  waits_in_time (design, limits, may) =
      let next = may.next (segment_at (rules_of design limits t) p entry) on.time on.events (ap (left_by (rules_of design limits t) p entry) is) in
      record { countable = may.countable; counted = next.1 }

  pub left_waiting :
      (design : Design) (limits : Limits) (segment : ℕ) (timeout : Option Stamp) → segment ≡ segment_at (rules_of design limits t) p entry → timeout ≡ time_out at on.time →
      Some (wait_is (record { segment = segment; timeout = timeout; events = on.events; since = Some at })) ≡ wait_left at (left_by (rules_of design limits t) p entry end)
  left_waiting design limits segment timeout segment_is timeout_is =
      (λ i. Some (wait_is (record { segment = segment_is i; timeout = timeout_is i; events = on.events; since = Some at })))
      ∙ ap (λ e. wait_left at (left_by (rules_of design limits t) p entry e)) (sym is)
