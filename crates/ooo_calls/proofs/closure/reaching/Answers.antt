-- Round by round.
use Rattle.std.proofs.Common.{◌==◌, length, false, sym, ◌∙◌, ap}
use Rattle.std.specs.Prelude.{◌&&◌, ◌||◌, slice_index_or}
use Rattle.std.proofs.lemmas.List.{length-replicate}
use Rattle.ooo_calls.specs.declared.call.Call.{Call}
use Rattle.ooo_calls.specs.Cycles.{reaches}
use Rattle.ooo_calls.proofs.Lists.{list_any-same}
use Rattle.ooo_calls.proofs.Ways.{reaches_none, reaches_more}
use Rattle.ooo_calls.proofs.MarkLemmas.{marks_none}
use Rattle.ooo_calls.proofs.closure.reaching.Goals as goal

pub rounds-init : goal.rounds-init
rounds-init c = rw c.in_ok-marks.ensures.items_if_clones_equal (record {
  count = length-replicate _ _;
  exact = marks_none (λ f. reaches 0 c.args.calls.now f c.args.target) c.args.count (λ f. reaches_none c.args.calls.now f c.args.target);
})

pub rounds-preserved : goal.rounds-preserved
rounds-preserved c = record {
  count = c.in_ok-marks-2.ensures.count ∙ ap (λ (xs : _). length xs) c.as_slice.ensures.value ∙ c.rounds.invariant.count;
  exact = λ f. c.in_ok-marks-2.ensures.exact f ∙ list_any-same (λ (x : Call). (x.from == f) && ((x.to == c.args.target) || slice_index_or c.as_slice.result.now x.to false)) (λ (x : Call). (x.from == f) && ((x.to == c.args.target) || reaches c.rounds._round c.args.calls.now x.to c.args.target)) (λ x. ap (λ b. (x.from == f) && ((x.to == c.args.target) || b)) (rw c.as_slice.ensures.value (c.rounds.invariant.exact x.to))) c.args.calls.now ∙ sym (reaches_more c.rounds._round c.args.calls.now f c.args.target);
}
