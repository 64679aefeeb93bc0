-- What stands in a text, and what it means (ISO/IEC 14882, [lex.string] and [lex.ccon]).
use Rattle.std.specs.Prelude.{◌≡◌, ℕ, Bool, true, false, not, ◌==◌, if◌then◌else◌, List, [], ◌∷◌, ◌++◌, IsTrue}
use Rattle.std.specs.List.{list_all}
use Rattle.ooo_lexer.specs.Bytes.{is_text_byte, is_escape, ends_line, StopsBefore}

-- what a text is made of: a byte, an escape by what follows its backslash, or a backslash that begins no escape
pub data Part : Type 0 where
  Byte : (byte : ℕ) → Part
  Escape : (byte : ℕ) → Part
  Stray : Part

-- how a part is written
abbrev pub written_part : Part → List ℕ
written_part (Byte b) = b ∷ []
written_part (Escape b) = 92 ∷ b ∷ []
written_part Stray = 92 ∷ []

abbrev pub written : List Part → List ℕ
written [] = []
written (p ∷ ps) = written_part p ++ written ps

abbrev pub is_stray : Part → Bool
is_stray (Byte b) = false
is_stray (Escape b) = false
is_stray Stray = true

-- no backslash is without its escape
abbrev pub HasNoStray : List Part → Type 0
HasNoStray parts = IsTrue (list_all (λ p. not (is_stray p)) parts)

-- a part that may stand before the rest of a source
abbrev pub MayStand : Part → List ℕ → Type 0
MayStand (Byte b) rest = IsTrue (is_text_byte b)
MayStand (Escape b) rest = IsTrue (is_escape b)
MayStand Stray rest = StopsBefore is_escape rest

-- each part may stand before those that follow it and the rest
abbrev pub AreParts : List Part → List ℕ → Type 0
AreParts [] rest = Unit {0}
AreParts (p ∷ ps) rest = MayStand p (written ps ++ rest) × AreParts ps rest

-- two double quotes round parts, none of which is a stray backslash
pub record IsText (bs : List ℕ) : Type 0 where
  pub parts : List Part
  pub stand : AreParts parts (34 ∷ [])
  pub clean : HasNoStray parts
  pub is : bs ≡ 34 ∷ (written parts ++ 34 ∷ [])

-- the source or the line ends
abbrev pub EndsLine : List ℕ → Type 0
EndsLine [] = Unit {0}
EndsLine (b ∷ bs) = IsTrue (ends_line b)

-- the byte that an escape stands for: a line feed, a tab, or what follows the backslash
abbrev pub escaped : ℕ → ℕ
escaped b = if b == 110 then 10 else (if b == 116 then 9 else b)

-- the byte that a part stands for: itself, or its escape's
abbrev pub meant_by : Part → ℕ
meant_by (Byte b) = b
meant_by (Escape b) = escaped b
meant_by Stray = 92

-- a text's value, by what stands between its quotes: each escape is one byte
abbrev pub unescaped : List ℕ → List ℕ
unescaped [] = []
unescaped (b ∷ []) = b ∷ []
unescaped (b ∷ c ∷ bs) = if b == 92 then escaped c ∷ unescaped bs else b ∷ unescaped (c ∷ bs)
