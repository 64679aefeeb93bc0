-- By what is before the place, and what is after it.
use Rattle.std.proofs.Common.{sym, ◌∙◌}
use Rattle.std.proofs.lemmas.Bool.{false≢true}
use Rattle.ooo_access.proofs.Orders.{inserted, inserted_has, is_new, is_behind, there_has}
use Rattle.ooo_access.proofs.sorting.insert.Goals as goal

pub returns-then-is_there-clause-members : goal.returns-then-is_there-clause-members
returns-then-is_there-clause-members c = λ m.
    let within = rw c.as_slice.ensures.value at c.place_of-place.ensures.within in
    let last = rw c.as_slice.ensures.value at c.place_of-place.ensures.last in
    let there = rw c.as_slice-2.ensures.value at (c.is_there.ensures.0 c.if-is_there.true) in
    there_has _ _ m (is_new _ _ _ within last there)

pub returns-clause-members : goal.returns-clause-members
returns-clause-members c = λ m. rw c.in_ok-insert.ensures.items (inserted_has _ _ _ m)

pub returns-clause-in_order : goal.returns-clause-in_order
returns-clause-in_order c =
    let within = rw c.as_slice.ensures.value at c.place_of-place.ensures.within in
    let last = rw c.as_slice.ensures.value at c.place_of-place.ensures.last in
    let later = rw c.as_slice.ensures.value at c.place_of-place.ensures.later in
    let there = rw c.as_slice-2.ensures.value at c.is_there.ensures.1 in
    rw c.in_ok-insert.ensures.items (inserted _ _ _ within c.requires (is_behind _ _ _ within c.requires last (λ p. false≢true (sym c.if-is_there.false ∙ there p))) later)
