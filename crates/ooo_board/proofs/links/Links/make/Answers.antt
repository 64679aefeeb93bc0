use Rattle.std.proofs.Common.{◌≡◌, ◌≤◌, [], ap, subst, sym, ◌∙◌, map, length}
use Rattle.std.specs.Prelude.{All}
use Rattle.ooo_code.specs.Segments.{IsSegment}
use Rattle.ooo_segments.specs.Beginnings.{greatest_segments}
use Rattle.ooo_access.specs.Access.{IsInOrder}
use Rattle.ooo_tables.specs.Accesses.{AreAccesses}
use Rattle.ooo_board.specs.Links.{AreStarts, AreWaiters, WaitsOnEvents, only_read, watched_from}
use Rattle.ooo_board.proofs.Looking.{length_mapped, mapped}
use Rattle.ooo_board.proofs.links.Links.make.Goals as goal

pub all_starts-requires-clause-segments : goal.all_starts-requires-clause-segments
all_starts-requires-clause-segments c = subst (All (IsSegment c.args.design.now)) (sym c.as_slice-segments.ensures) c.requires.tables.segments.each

pub all_starts-requires-clause-few : goal.all_starts-requires-clause-few
all_starts-requires-clause-few c = subst (λ xs. length xs ≤ greatest_segments) (sym c.as_slice-segments.ensures) c.requires.tables.few

pub all_watched-requires-clause-in_order : goal.all_watched-requires-clause-in_order
all_watched-requires-clause-in_order c = subst (All IsInOrder) (sym c.as_slice-access.ensures) c.requires.tables.access.in_order

pub all_only_read-requires : goal.all_only_read-requires
all_only_read-requires c = subst (All IsInOrder) (sym c.as_slice-access.ensures) c.requires.tables.access.in_order

pub all_waiters-waiters-requires-clause-segments : goal.all_waiters-waiters-requires-clause-segments
all_waiters-waiters-requires-clause-segments c = subst (All (IsSegment c.args.design.now)) (sym c.as_slice-segments.ensures) c.requires.tables.segments.each

pub all_waiters-waiters-requires-clause-access : goal.all_waiters-waiters-requires-clause-access
all_waiters-waiters-requires-clause-access c =
    subst (λ xs. AreAccesses c.args.design.now xs c.as_slice-access.result.now) (sym c.as_slice-segments.ensures) (subst (AreAccesses c.args.design.now c.args.tables.now.graph.segments) (sym c.as_slice-access.ensures) c.requires.tables.access)

pub all_waiters-waiters-requires-clause-waits : goal.all_waiters-waiters-requires-clause-waits
all_waiters-waiters-requires-clause-waits c = subst (WaitsOnEvents c.args.design.now) (sym c.as_slice-access.ensures) c.requires.waits

pub returns : goal.returns
returns c =
    let design = c.args.design.now in
    let t = c.args.tables.now in
    let watched = c.in-Ok-all_watched.made.items in
    let read = c.in-Ok-all_only_read.made.items in
    let watched_is : watched ≡ map (λ a. watched_from a 0 design.channels) t.access = c.in-Ok-all_watched.ensures ∙ ap (map (λ a. watched_from a 0 design.channels)) c.as_slice-access.ensures in
    let read_is : read ≡ map only_read t.access = c.in-Ok-all_only_read.ensures ∙ ap (map only_read) c.as_slice-access.ensures in
    record {
      watched_count = length_mapped (λ a. watched_from a 0 design.channels) t.access watched watched_is;
      watched = mapped (λ a. watched_from a 0 design.channels) t.access watched [] watched_is;
      read_count = length_mapped only_read t.access read read_is;
      only_read = mapped only_read t.access read [] read_is;
      waiters =
          subst (λ xs. AreWaiters design (length t.graph.segments) t.graph.segments xs c.in-Ok-waiters.made.items) c.as_slice-access.ensures
          (subst (λ xs. AreWaiters design (length xs) xs c.as_slice-access.result.now c.in-Ok-waiters.made.items) c.as_slice-segments.ensures c.in-Ok-waiters.ensures);
      channel_events = c.in-Ok-channel_events.ensures;
      starts = subst (λ xs. AreStarts design 0 xs c.in_ok-starts.starts.items) c.as_slice-segments.ensures c.in_ok-starts.ensures;
      reaches = c.in-Ok.ensures;
    }
