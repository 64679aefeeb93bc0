-- The closure gives a variable's number.
use Rattle.std.proofs.Common.{rules}
use Rattle.std.proofs.lemmas.List.Sorted.{answers_always}
use Rattle.ooo_interp.proofs.Listed.{listed_or_none, number_of_carried}
use Rattle.std.specs.Result.{result_ok}
use Rattle.ooo_interp.proofs.Searched.{found}
use Rattle.ooo_interp.proofs.job_parts.place_of.Goals as goal

pub returns : goal.returns
returns c =
    let facts = c.binary_search_by_key.ensures in
    let by_number = facts.position (λ carried. carried.0) (answers_always _ _ _ (λ f a r g called. search rules)) in
    rw c.ok.ensures.value (listed_or_none c.args.carried.now c.args.variable (result_ok c.binary_search_by_key.result) (found number_of_carried c.args.carried.now c.args.variable c.binary_search_by_key.result c.requires facts.bound by_number))
