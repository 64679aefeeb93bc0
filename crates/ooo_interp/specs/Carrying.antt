-- Variables that a job carries, each as its number and its elements.
use Rattle.std.specs.Prelude.{◌≡◌, ℕ, ◌==◌, ◌<◌, ◌≤◌, ◌+◌, List, [], ◌∷◌, map, replicate, if◌then◌else◌, Option, Some, None, AllPairs, slice_get, slice_set}
use Rattle.ooo_value.specs.declared.values.Value.{Value}

-- a variable's number and its elements
abbrev pub Carried : Type 0
Carried = ℕ × List Value

-- each number is below the later ones
abbrev pub IsAscending : List Carried → Type 0
IsAscending carried = AllPairs (λ a b. a.0 < b.0) carried

-- the elements that are carried of variable number x
abbrev pub listed : List Carried → ℕ → Option (List Value)
listed [] x = None
listed (c ∷ others) x = if x == c.0 then Some c.1 else listed others x

-- the same with other elements of variable number x
abbrev pub with_listed : ℕ → (List Value → List Value) → List Carried → List Carried
with_listed x change [] = []
with_listed x change (c ∷ others) =
    if x == c.0 then (c.0, change c.1) ∷ others else c ∷ with_listed x change others

-- all variables, where those that are carried have what is carried of them
abbrev pub put_in : List Carried → List (List Value) → List (List Value)
put_in [] variables = variables
put_in (c ∷ others) variables = slice_set (put_in others variables) c.0 c.1

-- all variables of a design of so many, with what is carried of them, and without elements where nothing is. What may be
-- changed stands before what is only read.
abbrev pub all_cells : ℕ → (owned copied : List Carried) → List (List Value)
all_cells count owned copied = put_in owned (put_in copied (replicate count []))

-- the numbers of the variables that are carried
abbrev pub numbers_of : List Carried → List ℕ
numbers_of carried = map (λ c. c.0) carried

-- the first n have numbers one after another, from a first number on, all of 32 bits
abbrev pub StandInOrder : (first n : ℕ) → List Carried → Type 0
StandInOrder first n carried =
    (first + n ≤ 4294967296) × ((k : ℕ) → k < n → slice_get (numbers_of carried) k ≡ Some (first + k))
