-- The names that are known, one after another, and the place of the latest of each.
use Rattle.std.specs.Prelude.{◌≡◌, ℕ, ◌≤◌, List, [], ◌∷◌, length, drop, take, reverse, Option, Some, None, if◌then◌else◌}
use Rattle.std.specs.BTreeMap.{BTreeMap}
use Rattle.std.specs.Str.{bytes_eq}
use Rattle.std.specs.declared.vec.Vec.{Vec}
use Rattle.ooo_checked.specs.Scopes.{Binding}
use Rattle.ooo_scopes.specs.Places.{place_of}
use Rattle.ooo_scopes.specs.declared.names.Declared.{Declared}
use Rattle.ooo_scopes.specs.declared.names.Names.TheInside.{Inside}

-- the bindings of declarations, the latest first, whose names stand one after another in a text
abbrev pub bindings : List ℕ → List Declared → List Binding
bindings text [] = []
bindings text (d ∷ ds) = record { name = drop d.from text; denotes = d.denotes } ∷ bindings (take d.from text) ds

-- the place of the latest binding of a name, counted from the earliest binding
abbrev pub place_in : List Binding → List ℕ → Option ℕ
place_in [] name = None
place_in (b ∷ bs) name = if bytes_eq name b.name then Some (length bs) else place_in bs name

-- each name lies in the text, and each declaration has the place of the binding that it hides
abbrev pub KeepsHidden : List ℕ → List Declared → Type 0
KeepsHidden text [] = Unit {0}
KeepsHidden text (d ∷ ds) =
    (d.from ≤ length text) × (d.hides ≡ place_in (bindings (take d.from text) ds) (drop d.from text)) × KeepsHidden (take d.from text) ds

-- the bindings of the fields
abbrev pub bindings_of : Inside → List Binding
bindings_of a = bindings a.text.items (reverse a.declared.items)

-- a map has the place of the latest binding of each name, by a text and the declarations from the earliest on
pub record IsExact {Y : Type 0} (places : BTreeMap (Vec ℕ Y) ℕ) (text : List ℕ) (declared : List Declared) : Type 0 where
  pub index : (q : List ℕ) → place_of places q ≡ place_in (bindings text (reverse declared)) q
  pub hidden : KeepsHidden text (reverse declared)

-- the map of the fields has the place of the latest binding of each name
abbrev pub FieldsAreExact : Inside → Type 0
FieldsAreExact a = IsExact a.places a.text.items a.declared.items
