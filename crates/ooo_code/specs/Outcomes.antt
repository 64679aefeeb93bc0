-- What an activation sees and does, however the process keeps its place.
use Rattle.std.specs.Prelude.{ℕ, List}
use Rattle.ooo_time.specs.declared.stamp.Stamp.{Stamp}
use Rattle.ooo_value.specs.declared.values.Value.{Value}
use Rattle.ooo_code.specs.declared.activation.Effect.{Effect}
use Rattle.ooo_code.specs.declared.activation.Seen.{Seen}
use Rattle.ooo_code.specs.declared.activation.JobEnd.{JobEnd}

-- what a process sees as it begins: the stamp, all variables, and its part of the channels
pub record View : Type 0 where
  pub stamp : Stamp
  pub variables : List (List Value)
  pub seen : List Seen

-- what it did: its output, the variables after it, its effects in order, and how it ended
pub record Deed : Type 0 where
  pub output : List ℕ
  pub variables : List (List Value)
  pub effects : List Effect
  pub end : JobEnd

-- what it did, and the place at which it left the process
pub record Outcome (K : Type 0) : Type 0 where
  pub deed : Deed
  pub next : K

-- an activation of a process, by its number, at a place of its code, given what it sees
abbrev pub Activate : Type 0 → Type 0
Activate K = ℕ → K → View → Outcome K
