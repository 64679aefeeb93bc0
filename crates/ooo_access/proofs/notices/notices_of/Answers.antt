-- The notifications told as such, and those of channels' events.
use Rattle.ooo_access.proofs.Meanings.{notices_meant}
use Rattle.ooo_access.proofs.notices.notices_of.Goals as goal

pub returns-clause-members : goal.returns-clause-members
returns-clause-members c =
    notices_meant _ _ _ _ _ _ _ (record { changed_is = c.in_ok-called.ensures.changed; taken_is = c.in_ok-called.ensures.taken; given_is = c.in_ok-called.ensures.given })
    (record { has = c.in-Ok.ensures.members; in_order = c.in-Ok.ensures.in_order }) c.in-Ok-add.ensures.members
