-- The functions that reach the target within as many calls as there were rounds.
use Rattle.std.proofs.Common.{◌≡◌, length}
use Rattle.ooo_calls.specs.Cycles.{reaches}
use Rattle.ooo_calls.specs.Marks.{AreMarksOf}
use Rattle.ooo_calls.proofs.closure.reaching.Given as goal

abbrev pub invariant-rounds : goal.invariant-rounds
invariant-rounds l = record {
  count : length l.marks.items ≡ l.count;
  exact : AreMarksOf (λ f. reaches l._round l.calls f l.target) l.marks.items;
}
