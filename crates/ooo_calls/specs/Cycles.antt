-- Which calls among functions lie on a cycle of calls.
use Rattle.std.specs.Prelude.{ℕ, zero, suc, ◌+◌, ◌==◌, ◌&&◌, ◌||◌, List, length, Bool, false}
use Rattle.std.specs.List.{list_any}
use Rattle.ooo_calls.specs.declared.call.Call.{Call}

-- some call calls the function of this number
abbrev pub is_called : List Call → ℕ → Bool
is_called cs n = list_any (λ c. c.to == n) cs

-- function a calls function b, directly or through others, within so many calls
unfoldable pub reaches : ℕ → List Call → ℕ → ℕ → Bool
reaches zero cs a b = false
reaches (suc n) cs a b = list_any (λ c. (c.from == a) && ((c.to == b) || reaches n cs c.to b)) cs

-- a call lies on a cycle of calls. Twice as many calls as there are suffice to come back, if there is a way
abbrev pub is_on_cycle : List Call → Call → Bool
is_on_cycle cs c = (c.from == c.to) || reaches (length cs + length cs) cs c.to c.from
