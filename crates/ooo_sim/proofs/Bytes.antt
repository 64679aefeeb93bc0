-- More bytes of a text.
use Rattle.std.proofs.Common.{ℕ, ◌+◌, List, Option, take, drop, sym, subst, take-add}
use Rattle.std.specs.Io.KnownBytes.{Appends}
use Rattle.std.proofs.KnownBytes.{Appends-trans}

-- what two writes took, one after the other
pub Appends_more : (a b c : Option (List ℕ)) (i n : ℕ) (xs : List ℕ) → Appends a b (take i xs) → Appends b c (take n (drop i xs)) → Appends a c (take (i + n) xs)
Appends_more a b c i n xs h k = subst (Appends a c) (sym (take-add i n xs)) (Appends-trans a b c (take i xs) (take n (drop i xs)) h k)
