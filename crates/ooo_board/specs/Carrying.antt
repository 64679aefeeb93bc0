-- Variables that a job carries.
use Rattle.std.specs.Prelude.{ℕ, List, [], ◌∷◌, map, slice_index_or, slice_set}
use Rattle.ooo_value.specs.declared.values.Value.{Value}
use Rattle.ooo_interp.specs.Carrying.{Carried}

-- the variables of these numbers, with their cells
abbrev pub carried_from : List (List Value) → List ℕ → List Carried
carried_from variables numbers = map (λ x. (x, slice_index_or variables x [])) numbers

-- the numbers, without cells
abbrev pub bare : List ℕ → List Carried
bare numbers = map (λ x. (x, [])) numbers

-- the cells of each variable in exchange for those that stand beside its number, from the first on
abbrev pub taken_from : List (List Value) → List Carried → List (List Value) × List Carried
taken_from variables [] = (variables, [])
taken_from variables (c ∷ others) =
    let rest = taken_from (slice_set variables c.0 c.1) others in (rest.0, (c.0, slice_index_or variables c.0 []) ∷ rest.1)
