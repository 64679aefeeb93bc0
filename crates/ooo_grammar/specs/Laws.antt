-- What a reader of a code is worth.
use Rattle.std.specs.Prelude.{◌≡◌, ℕ, List, [], ◌∷◌, ◌++◌, Bool, map}
use Rattle.ooo_syntax.specs.declared.symbol.Symbol.{Symbol}
use Rattle.ooo_grammar.specs.Forms.{Outcome, Got, Bad, Deep}
use Rattle.ooo_syntax.specs.declared.leaves.TypeName.{TypeName}
use Rattle.ooo_grammar.specs.Sets.{Terminals, anywhere}
use Rattle.ooo_grammar.specs.Lexis.{type_name}
use Rattle.ooo_grammar.specs.Roots.{Root, Tree, roots}
use Rattle.ooo_grammar.specs.Codes.{Code}
use Rattle.ooo_grammar.specs.Readings.{Room, free, form, reader, front}

-- the tokens are a spelling of the value
abbrev pub Derives : {A : Type 0} {f : Terminals} {g : A → Terminals} {e : Bool} → Code A f g e → List Symbol → A → Type 0
Derives c ts a = (n : ℕ) × form n free c ts a []

-- the tokens begin a spelling
abbrev pub Begins : {A : Type 0} {f : Terminals} {g : A → Terminals} {e : Bool} → Code A f g e → List Symbol → Type 0
Begins c ts = (n : ℕ) × front n free c ts

-- the rest begins with the refused token, or is empty where the tokens are a beginning and no whole
pub record Refuses {A : Type 0} {f : Terminals} {g : A → Terminals} {e : Bool} (c : Code A f g e) (ts rest : List Symbol) : Type 0 where
  pub read : List Symbol
  pub is : ts ≡ read ++ rest
  pub begins : Begins c read
  pub refused : (k : Symbol) (us : List Symbol) → rest ≡ k ∷ us → Begins c (read ++ k ∷ []) → ⊥
  pub unfinished : rest ≡ [] → (a : A) → Derives c ts a → ⊥

-- the tokens read so far keep to the limits
pub record Keeps {A : Type 0} {f : Terminals} {g : A → Terminals} {e : Bool} (n : ℕ) (room : Room) (c : Code A f g e) (ts rest : List Symbol) : Type 0 where
  pub read : List Symbol
  pub is : ts ≡ read ++ rest
  pub within : front n room c read

-- the rest begins with the first token that is too deep, which isn't refused
pub record ExceedsAt {A : Type 0} {f : Terminals} {g : A → Terminals} {e : Bool} (n : ℕ) (room : Room) (c : Code A f g e) (ts rest : List Symbol) : Type 0 where
  pub read : List Symbol
  pub token : Symbol
  pub later : List Symbol
  pub starts : rest ≡ token ∷ later
  pub is : ts ≡ read ++ token ∷ later
  pub begins : Begins c (read ++ token ∷ [])
  pub within : front n room c read
  pub beyond : front n room c (read ++ token ∷ []) → ⊥

-- a whole text: what follows a spelling is refused
abbrev pub whole : {A : Type 0} → Outcome A → Outcome A
whole (Got a []) = Got a []
whole (Got a (k ∷ us)) = Bad (k ∷ us)
whole (Bad rest) = Bad rest
whole (Deep rest) = Deep rest

-- what a reader of whole texts with these limits says is so; the three outcomes exclude one another
pub record Decides_texts (x : Root) (n : ℕ) (room : Room) : Type 0 where
  pub found : (ts : List Symbol) (a : Tree x) → whole (reader n room (roots x) ts) ≡ Got a [] → form n room (roots x) ts a []
  pub one : (ts : List Symbol) (a b : Tree x) → whole (reader n room (roots x) ts) ≡ Got a [] → Derives (roots x) ts b → a ≡ b
  pub refused : (ts rest : List Symbol) → whole (reader n room (roots x) ts) ≡ Bad rest → Refuses (roots x) ts rest × Keeps n room (roots x) ts rest
  pub exceeded : (ts rest : List Symbol) → whole (reader n room (roots x) ts) ≡ Deep rest → ExceedsAt n room (roots x) ts rest
  -- and so it finds what is spelled within the limits
  pub finds : (ts : List Symbol) (a : Tree x) → form n room (roots x) ts a [] → whole (reader n room (roots x) ts) ≡ Got a []

abbrev pub Decided : Type 0
Decided = (x : Root) (n : ℕ) (room : Room) → Decides_texts x n room

-- what is spelled within limits, and what begins it
pub record Keeps_limits (x : Root) (n : ℕ) (room : Room) : Type 0 where
  -- it is spelled, and begun within the limits
  pub derives : (ts : List Symbol) (a : Tree x) → form n room (roots x) ts a [] → Derives (roots x) ts a
  pub begins : (ts : List Symbol) (a : Tree x) → form n room (roots x) ts a [] → front n room (roots x) ts
  -- what a reader finds is spelled by the symbols before the rest
  pub found : (ts rest : List Symbol) (a : Tree x) → reader n room (roots x) ts ≡ Got a rest → (read : List Symbol) × (ts ≡ read ++ rest) × form n room (roots x) read a []
  -- a beginning within the limits is a beginning, and so are those of its own
  pub free : (ts : List Symbol) → front n room (roots x) ts → Begins (roots x) ts
  pub prefix : (before after : List Symbol) → front n room (roots x) (before ++ after) → front n room (roots x) before

abbrev pub BeginsWithin : Type 0
BeginsWithin = (x : Root) (n : ℕ) (room : Room) → Keeps_limits x n room

-- trees and beginnings are the same wherever the bytes of the symbols stand in memory
pub record Stays_anywhere (x : Root) (n : ℕ) (room : Room) : Type 0 where
  pub spelled : (ts : List Symbol) (a : Tree x) → form n room (roots x) ts a [] → form n room (roots x) (map anywhere ts) a []
  pub spells : (ts : List Symbol) (a : Tree x) → form n room (roots x) (map anywhere ts) a [] → form n room (roots x) ts a []
  pub begun : (ts : List Symbol) → front n room (roots x) ts → front n room (roots x) (map anywhere ts)
  pub begins : (ts : List Symbol) → front n room (roots x) (map anywhere ts) → front n room (roots x) ts

abbrev pub IsAnywhere : Type 0
IsAnywhere = (x : Root) (n : ℕ) (room : Room) → Stays_anywhere x n room

-- so is a type
pub record Types_stay (n : ℕ) (room : Room) : Type 0 where
  pub spelled : (ts : List Symbol) (t : TypeName) → form n room type_name ts t [] → form n room type_name (map anywhere ts) t []
  pub spells : (ts : List Symbol) (t : TypeName) → form n room type_name (map anywhere ts) t [] → form n room type_name ts t []

abbrev pub TypesStay : Type 0
TypesStay = (n : ℕ) (room : Room) → Types_stay n room

-- what a reader of types finds in symbols is the type that they spell, and it finds each
abbrev pub DecidesTypes : Type 0
DecidesTypes = (n : ℕ) (room : Room) (ts : List Symbol) (t : TypeName) → (reader n room type_name ts ≡ Got t [] → form n room type_name ts t []) × (form n room type_name ts t [] → reader n room type_name ts ≡ Got t [])

-- what a reader within limits may say of tokens excludes the rest
pub record Outcomes_apart (x : Root) (n : ℕ) (room : Room) : Type 0 where
  pub too_deep_once : (ts r s : List Symbol) → ExceedsAt n room (roots x) ts r → ExceedsAt n room (roots x) ts s → r ≡ s
  pub refused_or_too_deep : (ts r s : List Symbol) → Refuses (roots x) ts r → Keeps n room (roots x) ts r → ExceedsAt n room (roots x) ts s → ⊥
  pub spelled_or_too_deep : (ts rest : List Symbol) (a : Tree x) → form n room (roots x) ts a [] → ExceedsAt n room (roots x) ts rest → ⊥

abbrev pub AreApart : Type 0
AreApart = (x : Root) (n : ℕ) (room : Room) → Outcomes_apart x n room

-- ---- the laws

-- no list of tokens has two trees
abbrev pub HasOneTree : Type 0
HasOneTree = (x : Root) (ts : List Symbol) (a b : Tree x) → Derives (roots x) ts a → Derives (roots x) ts b → a ≡ b

-- some text of the form begins with these tokens
abbrev pub CanGoOn : Root → List Symbol → Type 0
CanGoOn x ts = (more : List Symbol) × (a : Tree x) × Derives (roots x) (ts ++ more) a

-- the beginnings are the prefixes of the form's texts
abbrev pub FrontsAreBeginnings : Type 0
FrontsAreBeginnings = (x : Root) (ts : List Symbol) → (Begins (roots x) ts → CanGoOn x ts) × (CanGoOn x ts → Begins (roots x) ts)

-- the rest begins with the first token after which no text of the form goes on, or it is empty where more has to follow
pub record IsRefusedFirst (x : Root) (ts rest : List Symbol) : Type 0 where
  pub read : List Symbol
  pub is : ts ≡ read ++ rest
  pub before : (front back : List Symbol) → read ≡ front ++ back → CanGoOn x front
  pub here : (k : Symbol) (us : List Symbol) → rest ≡ k ∷ us → CanGoOn x (read ++ k ∷ []) → ⊥
  pub unfinished : rest ≡ [] → (a : Tree x) → Derives (roots x) ts a → ⊥

-- what the readers refuse is the first such token
abbrev pub RefusesFirst : Type 0
RefusesFirst = (x : Root) (ts rest : List Symbol) → Refuses (roots x) ts rest → IsRefusedFirst x ts rest

-- tokens that are refused are refused at one place, and have no tree
abbrev pub IsRefusedOnce : Type 0
IsRefusedOnce = (x : Root) (ts r s : List Symbol) → Refuses (roots x) ts r → Refuses (roots x) ts s → r ≡ s

abbrev pub HasNoTree : Type 0
HasNoTree = (x : Root) (ts rest : List Symbol) (a : Tree x) → Refuses (roots x) ts rest → Derives (roots x) ts a → ⊥
