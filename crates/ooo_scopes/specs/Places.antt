-- A map from names to places, read by the bytes of the names.
use Rattle.std.specs.Prelude.{◌≡◌, ℕ, List, Option}
use Rattle.std.specs.BTreeMap.{BTreeMap, get_by}
use Rattle.std.specs.Cmp.Lexicographic.{slice_cmp}
use Rattle.std.specs.Map.{update}
use Rattle.std.specs.Ordering.{nat_cmp}
use Rattle.std.specs.Str.{bytes_eq}
use Rattle.std.specs.declared.vec.Vec.{Vec}

-- the place that the map has at a name
abbrev pub place_of : {Y : Type 0} → BTreeMap (Vec ℕ Y) ℕ → List ℕ → Option ℕ
place_of m name = get_by (λ k. slice_cmp nat_cmp name k.items) m

-- the second map has the place, or none, at the name, and is the first at each other name
abbrev pub HasPlace : {Y : Type 0} → BTreeMap (Vec ℕ Y) ℕ → BTreeMap (Vec ℕ Y) ℕ → List ℕ → Option ℕ → Type 0
HasPlace m n name place = (q : List ℕ) → place_of n q ≡ update bytes_eq (place_of m) name place q

-- both maps have the same place at each name
abbrev pub HasSamePlaces : {Y : Type 0} → BTreeMap (Vec ℕ Y) ℕ → BTreeMap (Vec ℕ Y) ℕ → Type 0
HasSamePlaces m n = (q : List ℕ) → place_of n q ≡ place_of m q
