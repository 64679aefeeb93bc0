-- The functions that call the target, or one that was marked before, by the calls so far.
use Rattle.std.proofs.Common.{◌≡◌, ◌==◌, length, take, false}
use Rattle.std.specs.Prelude.{◌&&◌, ◌||◌, slice_index_or}
use Rattle.std.specs.List.{list_any}
use Rattle.ooo_calls.specs.Marks.{AreMarksOf}
use Rattle.ooo_calls.proofs.closure.one_call_more.Given as goal

abbrev pub invariant-calls : goal.invariant-calls
invariant-calls l = record {
  count : length l.marks.items ≡ length l.before;
  exact : AreMarksOf (λ f. list_any (λ c. (c.from == f) && ((c.to == l.target) || slice_index_or l.before c.to false)) (take l.call-index l.calls)) l.marks.items;
}
