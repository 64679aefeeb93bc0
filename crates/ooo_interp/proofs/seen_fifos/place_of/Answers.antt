-- The closure gives the number of a channel that is seen.
use Rattle.std.proofs.Common.{rules}
use Rattle.std.proofs.lemmas.List.Sorted.{answers_always}
use Rattle.ooo_interp.specs.Jobs.{number_seen}
use Rattle.ooo_interp.proofs.Searched.{found}
use Rattle.ooo_interp.proofs.seen_fifos.place_of.Goals as goal

pub returns : goal.returns
returns c =
    let facts = c.binary_search_by_key.ensures in
    let by_number = facts.position number_seen (answers_always _ _ _ (λ f a r g called. search rules)) in
    rw c.ok.ensures.value (found number_seen _ c.args.channel _ c.requires facts.bound by_number)
