-- Each list by what was told in its part.
use Rattle.std.proofs.Common.{ℕ, ◌↔◌, Option}
use Rattle.std.specs.Prelude.{Contains}
use Rattle.ooo_time.specs.declared.time.Time.{Time}
use Rattle.ooo_code.specs.Touches.{Notifies}
use Rattle.ooo_access.specs.Told.{all_meant}
use Rattle.ooo_access.proofs.Gathered.{gathered}
use Rattle.ooo_access.proofs.gathering.lists_of.Goals as goal

pub returns-clause-exact : goal.returns-clause-exact
returns-clause-exact c =
    let notified : (e : ℕ) (t : Option Time) → Contains c.from_vec-notified.result (e, t) ↔ Contains (all_meant c.args.events.now c.args.told.now) (Notifies e t) =
    rw c.from_vec-notified.ensures c.in-Ok.ensures.members in
    gathered c.args.events.now c.args.told.now _ _
    c.in-Ok-numbers_of.ensures.members c.in-Ok-numbers_of-2.ensures.members c.in-Ok-numbers_of-3.ensures.members c.in-Ok-numbers_of-4.ensures.members
    c.in-Ok-numbers_of-5.ensures.members c.in-Ok-numbers_of-6.ensures.members c.in-Ok-numbers_of-7.ensures.members
    notified (λ e. (λ h. h, λ h. h))

pub returns-clause-in_order : goal.returns-clause-in_order
returns-clause-in_order c = record {
  read = c.in-Ok-numbers_of.ensures.ascending;
  written = c.in-Ok-numbers_of-2.ensures.ascending;
  signals_read = c.in-Ok-numbers_of-3.ensures.ascending;
  signals_written = c.in-Ok-numbers_of-4.ensures.ascending;
  takes = c.in-Ok-numbers_of-5.ensures.ascending;
  puts = c.in-Ok-numbers_of-6.ensures.ascending;
  cancelled = c.in-Ok-numbers_of-7.ensures.ascending;
  waited = c.requires;
  notified = rw c.from_vec-notified.ensures c.in-Ok.ensures.in_order;
}
