-- What is noted as a text is checked: its breaches, and what is found of calls and waits, in the order of the text.
use Rattle.std.specs.Prelude.{ℕ, List, [], ◌∷◌, ◌++◌, Bool, true, false, if◌then◌else◌}
use Rattle.ooo_lexer.specs.declared.position.Position.{Position}
use Rattle.ooo_checked.specs.declared.breach.TypeBreach.{TypeBreach}

-- a breach at a place; a call at a place of the member function of this number; a wait, or a `next_trigger`, at a place
pub data Note : Type 0 where
  Breaks : TypeBreach → Position → Note
  Calls : Position → ℕ → Note
  Waits : Position → Note
  Triggers : Position → Note

-- a part of a tree with what its names denote, and what is noted of it
pub record Checked (T : Type 0) : Type 0 where
  pub tree : T
  pub notes : List Note

-- the breach, where something is so
abbrev pub breach_when : Bool → TypeBreach → Position → List Note
breach_when b what at = if b then Breaks what at ∷ [] else []

-- the trees of parts
abbrev pub trees : {T : Type 0} → List (Checked T) → List T
trees [] = []
trees (c ∷ cs) = c.tree ∷ trees cs

-- what is noted of parts, one after the other
abbrev pub all_notes : {T : Type 0} → List (Checked T) → List Note
all_notes [] = []
all_notes (c ∷ cs) = c.notes ++ all_notes cs
