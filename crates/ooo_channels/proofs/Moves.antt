-- Channels that go on to a cycle.
use Rattle.std.proofs.Common.{◌≡◌, Bool, true, false, cond, ◌++◌, refl}
use Rattle.ooo_time.specs.declared.stamp.Stamp.{Stamp}
use Rattle.ooo_time.specs.Stamps.{IsBefore, is_before}
use Rattle.ooo_meaning.specs.World.{entries_of}
use Rattle.ooo_channels.specs.Cycles.{Cycle, cycle_at, later_channel}
use Rattle.ooo_channels.proofs.Orders.{is_before-yes, is_before-no}

-- the parts of a channel in a cycle, by the order of stamps
module _ (at : Stamp) (x : Cycle) where
  pub channel-cycle_at : (cycle_at at x).channel ≡ cond (is_before x.stamp at) (later_channel at x) x.channel
  channel-cycle_at = go (is_before x.stamp at) where
    go : (b : Bool) → (cond b (record { stamp = at; channel = later_channel at x; history = x.history ++ entries_of x.stamp x.channel }) x).channel ≡ cond b (later_channel at x) x.channel
    go true = refl
    go false = refl

  pub history-cycle_at : (cycle_at at x).history ≡ cond (is_before x.stamp at) (x.history ++ entries_of x.stamp x.channel) x.history
  history-cycle_at = go (is_before x.stamp at) where
    go : (b : Bool) → (cond b (record { stamp = at; channel = later_channel at x; history = x.history ++ entries_of x.stamp x.channel }) x).history ≡ cond b (x.history ++ entries_of x.stamp x.channel) x.history
    go true = refl
    go false = refl

  pub stamp-cycle_at : (cycle_at at x).stamp ≡ cond (is_before x.stamp at) at x.stamp
  stamp-cycle_at = go (is_before x.stamp at) where
    go : (b : Bool) → (cond b (record { stamp = at; channel = later_channel at x; history = x.history ++ entries_of x.stamp x.channel }) x).stamp ≡ cond b at x.stamp
    go true = refl
    go false = refl

pub cycle_at-later : (at : Stamp) (x : Cycle) → IsBefore x.stamp at →
    cycle_at at x ≡ record { stamp = at; channel = later_channel at x; history = x.history ++ entries_of x.stamp x.channel }
cycle_at-later at x before = rw (is_before-yes x.stamp at before) refl

pub cycle_at-here : (at : Stamp) (x : Cycle) → ¬ IsBefore x.stamp at → cycle_at at x ≡ x
cycle_at-here at x not = rw (is_before-no x.stamp at not) refl
