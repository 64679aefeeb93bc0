-- The functions that the calls so far call are marked.
use Rattle.std.proofs.Common.{◌≡◌, ◌==◌, length, take}
use Rattle.std.specs.List.{list_any}
use Rattle.ooo_calls.specs.Marks.{AreMarksOf}
use Rattle.ooo_calls.proofs.calls.called_functions.Given as goal

abbrev pub invariant-calls : goal.invariant-calls
invariant-calls l = record {
  count : length l.marks.items ≡ l.count;
  exact : AreMarksOf (λ n. list_any (λ c. c.to == n) (take l.call-index l.calls)) l.marks.items;
}
