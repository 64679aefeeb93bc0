-- The processes of clocks.
use Rattle.std.specs.Prelude.{◌≡◌, ℕ, ◌≤◌, List, Some, slice_get}
use Rattle.ooo_time.specs.declared.time.Time.{Time}
use Rattle.ooo_time.specs.Scales.{greatest_time}
use Rattle.ooo_value.specs.declared.bound.ChannelKind.TheVariants.{Signal}
use Rattle.ooo_value.specs.declared.kinds.Kind.TheVariants.{Bool}
use Rattle.ooo_checked.specs.declared.unit.CheckedUnit.{CheckedUnit}
use Rattle.ooo_walk.specs.declared.state.ProcessForm.TheVariants.{Clock}
use Rattle.ooo_walk.specs.declared.state.WalkedChannel.{WalkedChannel}
use Rattle.ooo_walk.specs.declared.state.WalkedProcess.{WalkedProcess}
use Rattle.ooo_walk.specs.Texts.{walk_of}

-- a clock's channel is a signal of bool, and half its period at most the greatest time
pub record IsClock (channels : List WalkedChannel) (c : ℕ) (half : Time) : Type 0 where
  pub channel : WalkedChannel
  pub there : slice_get channels c ≡ Some channel
  pub is_signal : channel.bound.kind ≡ Signal
  pub of_bool : channel.bound.value ≡ Bool
  pub within : half.0 ≤ greatest_time

-- that of each text
abbrev pub ClocksAreRight : Type 0
ClocksAreRight = (u : CheckedUnit) (p : ℕ) (x : WalkedProcess) (c : ℕ) (half : Time) (line : ℕ) →
    slice_get (walk_of u).processes p ≡ Some x → x.form ≡ Clock c half line → IsClock (walk_of u).channels c half
