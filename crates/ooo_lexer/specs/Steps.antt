-- What the code does with one piece. No public clause cites this.
use Rattle.std.specs.Prelude.{ℕ, ◌+◌, ◌==◌, if◌then◌else◌, List, [], ◌∷◌}
use Rattle.ooo_lexer.specs.declared.token.Token.{Token}
use Rattle.ooo_lexer.specs.declared.heads.PieceKind.{PieceKind}
use Rattle.ooo_lexer.specs.declared.heads.PieceKind.TheVariants as piece
use Rattle.ooo_lexer.specs.declared.cursor.Cursor.{Cursor}
use Rattle.ooo_lexer.specs.declared.position.Position.{Position}

-- the cursor after one byte
abbrev pub cursor_after_byte : Cursor → ℕ → Cursor
cursor_after_byte at b = if b == 10 then record { start = at.start + 1; line = at.line + 1; column = 1 } else record { start = at.start + 1; line = at.line; column = at.column + 1 }

-- the cursor after bytes
abbrev pub cursor_after : Cursor → List ℕ → Cursor
cursor_after at [] = at
cursor_after at (b ∷ bs) = cursor_after (cursor_after_byte at b) bs

abbrev pub position_of : Cursor → Position
position_of at = record { line = at.line; column = at.column }

-- the token of a piece of a kind and a length, if it is one
abbrev pub tokens_of : PieceKind → ℕ → Cursor → List Token
tokens_of piece.Space length at = []
tokens_of piece.Comment length at = []
tokens_of piece.Directive length at = []
tokens_of (piece.Token k) length at = record { kind = k; start = at.start; end = at.start + length; line = at.line; column = at.column } ∷ []
