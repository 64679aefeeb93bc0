-- What holds of the front's answers.
use Rattle.std.specs.Prelude.{◌≡◌, ℕ, List, Result}
use Rattle.ooo_front.specs.declared.answer.Accepted.{Accepted}
use Rattle.ooo_front.specs.declared.answer.Refused.{Refused}
use Rattle.ooo_front.specs.Layers.{IsFrontOf}

-- a text has one answer at most
abbrev pub HasOneAnswer : Type 0
HasOneAnswer = (text : List ℕ) (a b : Result Accepted Refused) → IsFrontOf text a → IsFrontOf text b → a ≡ b

-- no text is left out
abbrev pub HasAnswer : Type 0
HasAnswer = (text : List ℕ) → (a : Result Accepted Refused) × IsFrontOf text a
