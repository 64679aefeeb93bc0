-- The event of what happens to a fifo is the first in the list.
use Rattle.std.proofs.Common.{◌≡◌, ℕ, ap, List, Bool}
use Rattle.std.specs.Prelude.{position}
use Rattle.std.specs.List.{position_from}
use Rattle.std.proofs.lemmas.Iterator.Adapters.{position_from-zero}
use Rattle.ooo_bound.specs.declared.model.Bound.{Bound}
use Rattle.ooo_activation.specs.Activations.{one_event}
use Rattle.ooo_lower.specs.declared.kinds_of_nodes.Change.{Change}
use Rattle.ooo_lower.specs.declared.kinds_of_nodes.Change.TheVariants.{Written, Read}
use Rattle.ooo_lower.specs.Changes.{is_event, events_of}

position_is : {A : Type 0} (test : A → Bool) (xs : List A) → position test xs ≡ position_from test 0 xs
position_is test xs = position_from-zero test xs

pub events_are : (b : Bound) (change : Change) (c : ℕ) → events_of b change c ≡ one_event (position_from (is_event change c) 0 b.events)
events_are b Written c = ap one_event (position_is (is_event Written c) b.events)
events_are b Read c = ap one_event (position_is (is_event Read c) b.events)
