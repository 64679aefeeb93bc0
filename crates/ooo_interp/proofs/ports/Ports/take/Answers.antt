-- The port that stands there shows the take, and no other changes.
use Rattle.std.proofs.Common.{◌≡◌, ◌≢◌, subst}
use Rattle.std.specs.Prelude.{All, slice_set}
use Rattle.ooo_code.specs.Nodes.{seen_after_take}
use Rattle.ooo_interp.specs.Ports.{ValuesOf, all_shown, channel_of}
use Rattle.ooo_interp.proofs.Ported.{none_taken, one_taken}
use Rattle.ooo_interp.proofs.Searched.{StandsAt, still_ascends}
use Rattle.ooo_interp.proofs.ports.Ports.take.Goals as goal

pub invariant_of-self : goal.invariant_of-self
invariant_of-self g c = still_ascends channel_of c.self.inside.items.items c.in-Some.at c.index_mut.result.now c.take_of.new.port c.self.invariant c.index_mut.ensures.value c.take_of.ensures.channel

pub returns-in-Some : goal.returns-in-Some
returns-in-Some g c =
    let values : ValuesOf = g.F.FifoValues.values c.args.fifos.now in
    let stands : StandsAt channel_of c.self.inside.items.items c.args.channel c.in-Some.at = rw c.deref.ensures.value at c.in-Some.ensures in
    subst (λ ps. all_shown values (slice_set c.self.inside.items.items c.in-Some.at c.take_of.new.port) ≡ seen_after_take (all_shown values ps) c.args.channel) c.self.view_is (one_taken values c.args.channel c.in-Some.at c.index_mut.result.now c.take_of.new.port c.self.inside.items.items c.self.invariant stands c.index_mut.ensures.value c.take_of.ensures.shown)

pub returns-in_default : goal.returns-in_default
returns-in_default g c =
    let values : ValuesOf = g.F.FifoValues.values c.args.fifos.now in
    let none : All (λ p. channel_of p ≢ c.args.channel) c.self.inside.items.items = rw c.deref.ensures.value at c.in_default.ensures in
    subst (λ ps. all_shown values ps ≡ seen_after_take (all_shown values ps) c.args.channel) c.self.view_is (none_taken values c.args.channel c.self.inside.items.items none)
