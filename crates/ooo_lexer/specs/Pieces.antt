-- The cutting of a source into pieces by the longest fit, as a relation on the whole source (ISO/IEC 14882, [lex.pptoken]).
use Rattle.std.specs.Prelude.{◌≡◌, ℕ, ◌≤◌, List, [], ◌∷◌, ◌++◌, ◌⊎◌, IsTrue, Contains, length}
use Rattle.ooo_lexer.specs.declared.token.TokenKind.{TokenKind}
use Rattle.ooo_lexer.specs.declared.token.TokenKind.TheVariants as kind
use Rattle.ooo_lexer.specs.Bytes.{is_space, is_word_byte, is_line_byte, StopsBefore}
use Rattle.ooo_lexer.specs.Forms.{IsWord, IsSign, signs, comment_marks, IsLineComment, IsBlockComment, IsDirective}
use Rattle.ooo_lexer.specs.Numbers.{IsNumber}
use Rattle.ooo_lexer.specs.Texts.{IsText}

-- a token as a grammar sees it: its kind and how it is written ([lex.token])
pub record Lexeme : Type 0 where
  pub kind : TokenKind
  pub bytes : List ℕ

-- a space, a comment, a directive or a lexeme, of which the first three are skipped
pub data Piece : Type 0 where
  Space : (byte : ℕ) → Piece
  Comment : (bytes : List ℕ) → Piece
  Directive : (bytes : List ℕ) → Piece
  Kept : (lexeme : Lexeme) → Piece

-- how a piece is written
abbrev pub bytes_of : Piece → List ℕ
bytes_of (Space b) = b ∷ []
bytes_of (Comment bs) = bs
bytes_of (Directive bs) = bs
bytes_of (Kept l) = l.bytes

-- bytes that make a token of a kind
abbrev pub IsOfKind : TokenKind → List ℕ → Type 0
IsOfKind kind.Word bs = IsWord bs
IsOfKind kind.Number bs = IsNumber bs
IsOfKind kind.Text bs = IsText bs
IsOfKind kind.Sign bs = IsSign bs

-- nothing longer stands where this sign does: no longer sign, and nothing that begins a comment
abbrev pub IsLongestSign : List ℕ → List ℕ → Type 0
IsLongestSign bs rest = (longer after : List ℕ) → Contains (comment_marks ++ signs) longer → bs ++ rest ≡ longer ++ after → length longer ≤ length bs

-- the longest fit: a word and a number take all letters, digits and `_` that follow, a sign is the longest that fits, and a text ends with its quote
abbrev pub IsLongest : TokenKind → List ℕ → List ℕ → Type 0
IsLongest kind.Word bs rest = StopsBefore is_word_byte rest
IsLongest kind.Number bs rest = StopsBefore is_word_byte rest
IsLongest kind.Text bs rest = Unit {0}
IsLongest kind.Sign bs rest = IsLongestSign bs rest

-- a piece that may stand before the rest of a source: a comment that `//` begins and a directive take the rest of their line
abbrev pub StandsBefore : Piece → List ℕ → Type 0
StandsBefore (Space b) rest = IsTrue (is_space b)
StandsBefore (Comment bs) rest = (IsLineComment bs × StopsBefore is_line_byte rest) ⊎ IsBlockComment bs
StandsBefore (Directive bs) rest = IsDirective bs × StopsBefore is_line_byte rest
StandsBefore (Kept l) rest = IsOfKind l.kind l.bytes × IsLongest l.kind l.bytes rest

-- the pieces' bytes, one after another
abbrev pub joined : List Piece → List ℕ
joined [] = []
joined (p ∷ ps) = bytes_of p ++ joined ps

-- each piece may stand before those that follow it and the rest
abbrev pub EachStands : List Piece → List ℕ → Type 0
EachStands [] rest = Unit {0}
EachStands (p ∷ ps) rest = StandsBefore p (joined ps ++ rest) × EachStands ps rest

-- the source is cut into these pieces
pub record Cuts (source : List ℕ) (pieces : List Piece) : Type 0 where
  pub whole : joined pieces ≡ source
  pub fits : EachStands pieces []

-- the source is cut into no pieces
abbrev pub IsUncut : List ℕ → Type 0
IsUncut source = (pieces : List Piece) → ¬ Cuts source pieces

-- the lexemes among the pieces, in order
abbrev pub lexemes : List Piece → List Lexeme
lexemes [] = []
lexemes (Space b ∷ ps) = lexemes ps
lexemes (Comment bs ∷ ps) = lexemes ps
lexemes (Directive bs ∷ ps) = lexemes ps
lexemes (Kept l ∷ ps) = l ∷ lexemes ps

-- these are the lexemes of whichever pieces the source is cut into
abbrev pub AreLexemesOf : List ℕ → List Lexeme → Type 0
AreLexemesOf source ls = (pieces : List Piece) → Cuts source pieces → ls ≡ lexemes pieces
