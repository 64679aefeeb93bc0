-- What a process's own takes and puts change of what it sees: of the fifo that they are on one value, or one free slot.
use Rattle.std.specs.Prelude.{◌≡◌, ℕ, ◌-◌, ◌==◌, List, drop, if◌then◌else◌}
use Rattle.ooo_value.specs.declared.values.Value.{Value}
use Rattle.ooo_code.specs.declared.activation.Seen.{Seen}
use Rattle.ooo_code.specs.Expressions.{signal_seen, fifo_seen}
use Rattle.ooo_code.specs.Nodes.{seen_after_take, seen_after_put}

-- what is left to take of fifo c after a take of fifo b
abbrev pub left_of : (b c : ℕ) → List Value → List Value
left_of b c values = if b == c then drop 1 values else values

-- what is free of fifo c after a put into fifo b
abbrev pub free_of : (b c : ℕ) → ℕ → ℕ
free_of b c free = if b == c then free - 1 else free

-- no signal is seen otherwise, and a fifo only so
pub record SeesOwnSteps : Type 0 where
  pub signal_after_take : (xs : List Seen) (b c : ℕ) → signal_seen (seen_after_take xs b) c ≡ signal_seen xs c
  pub signal_after_put : (xs : List Seen) (b c : ℕ) → signal_seen (seen_after_put xs b) c ≡ signal_seen xs c
  pub values_after_take : (xs : List Seen) (b c : ℕ) → (fifo_seen (seen_after_take xs b) c).values ≡ left_of b c (fifo_seen xs c).values
  pub values_after_put : (xs : List Seen) (b c : ℕ) → (fifo_seen (seen_after_put xs b) c).values ≡ (fifo_seen xs c).values
  pub free_after_take : (xs : List Seen) (b c : ℕ) → (fifo_seen (seen_after_take xs b) c).free ≡ (fifo_seen xs c).free
  pub free_after_put : (xs : List Seen) (b c : ℕ) → (fifo_seen (seen_after_put xs b) c).free ≡ free_of b c (fifo_seen xs c).free
