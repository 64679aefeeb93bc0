-- Where calls stand.
use Rattle.std.specs.Prelude.{Bool, true, false}
use Rattle.ooo_checked.specs.declared.place.CallPlace.{CallPlace}
use Rattle.ooo_checked.specs.declared.place.CallPlace.TheVariants.{Statement, Inside}

-- the call stands inside an expression, and not as a whole right side or as a statement
abbrev pub is_inside : CallPlace → Bool
is_inside Inside = true
is_inside _ = false

-- the value of the call is used
abbrev pub is_used : CallPlace → Bool
is_used Statement = false
is_used _ = true
