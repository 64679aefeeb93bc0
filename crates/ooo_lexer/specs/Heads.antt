-- What the code computes of the first piece of a list of bytes. No public clause cites this: `Pieces` and `Breaches` say what pieces and breaches are.
use Rattle.std.specs.Prelude.{ℕ, ◌+◌, Bool, true, false, ◌||◌, ◌&&◌, ◌==◌, nat_eq, if◌then◌else◌, List, [], ◌∷◌, Option, Some, None, Result, Ok, Err, codes, drop, length}
use Rattle.std.specs.Option.{option_map}
use Rattle.std.specs.List.{list_any, take_while, starts_with}
use Rattle.ooo_lexer.specs.declared.bytes.Class.TheVariants as class
use Rattle.ooo_lexer.specs.declared.breach.LexBreach.{LexBreach}
use Rattle.ooo_lexer.specs.declared.breach.LexBreach.TheVariants as breach
use Rattle.ooo_lexer.specs.declared.flaw.Flaw.{Flaw}
use Rattle.ooo_lexer.specs.declared.heads.Head.{Head}
use Rattle.ooo_lexer.specs.declared.heads.PieceKind.{PieceKind}
use Rattle.ooo_lexer.specs.declared.heads.PieceKind.TheVariants as piece
use Rattle.ooo_lexer.specs.declared.numbers.Number.{Number}
use Rattle.ooo_lexer.specs.declared.token.TokenKind.TheVariants as kind
use Rattle.ooo_lexer.specs.Bytes.{is_space, is_digit, begins_word, is_text_byte, is_escape}
use Rattle.ooo_lexer.specs.Forms.{headers}
use Rattle.ooo_lexer.specs.Numerals.{number_of}
use Rattle.ooo_lexer.specs.Runs.{has, after_run, begins_with, is_nothing}

abbrev pub flaw : LexBreach → ℕ → Flaw
flaw b n = record { breach = b; before = n }

abbrev pub head : PieceKind → ℕ → Head
head k n = record { kind = k; length = n }

-- ---- numbers

-- a number, by the outcome for its word bytes
abbrev pub head_of_number : ℕ → Result Number LexBreach → Result Head Flaw
head_of_number n (Ok number) = Ok (head (piece.Token kind.Number) n)
head_of_number n (Err b) = Err (flaw b 0)

-- ---- texts

-- whether an escape's letter stands first
abbrev pub begins_escape : List ℕ → Bool
begins_escape [] = false
begins_escape (b ∷ bs) = is_escape b

-- how many bytes the first part of a text takes, or none where the text ends; a stray backslash is a part only where strays are passed
abbrev pub part_length : Bool → ℕ → List ℕ → ℕ
part_length strays b bs = if b == 92 then (if begins_escape bs then 2 else (if strays then 1 else 0)) else (if is_text_byte b then 1 else 0)

abbrev pub first_part : Bool → List ℕ → ℕ
first_part strays [] = 0
first_part strays (b ∷ bs) = part_length strays b bs

-- how many bytes the parts at the front take
abbrev pub parts_length : Bool → List ℕ → ℕ
parts_length strays [] = 0
parts_length strays (b ∷ []) = part_length strays b []
parts_length strays (b ∷ c ∷ bs) = if part_length strays b (c ∷ bs) == 2 then 2 + parts_length strays bs
    else (if part_length strays b (c ∷ bs) == 1 then 1 + parts_length strays (c ∷ bs) else 0)

-- a text, by what follows its opening quote
abbrev pub text_head : List ℕ → Result Head Flaw
text_head bs = if begins_with 34 (drop (parts_length true bs) bs)
    then (if parts_length false bs == parts_length true bs then Ok (head (piece.Token kind.Text) (parts_length true bs + 2)) else Err (flaw breach.BadByte (parts_length false bs + 1)))
    else Err (flaw breach.TextNotClosed 0)

-- ---- directives

-- how many bytes the first of these headers that stands first takes
abbrev pub header_length : List (List ℕ) → List ℕ → Option ℕ
header_length [] bs = None
header_length (h ∷ hs) bs = if starts_with nat_eq bs h then Some (length h) else header_length hs bs

-- nothing, or a comment to the line's end
abbrev pub is_note : List ℕ → Bool
is_note bs = is_nothing bs || starts_with nat_eq bs (codes "//")

-- blanks, and then nothing or a comment to the line's end
abbrev pub is_end : List ℕ → Bool
is_end bs = is_note (after_run class.Blank bs)

-- what may follow a header of this length
abbrev pub ends_header : Option ℕ → List ℕ → Bool
ends_header None bs = false
ends_header (Some n) bs = is_end (drop n bs)

-- blanks, a header, and what may follow it
abbrev pub is_named : List ℕ → Bool
is_named bs = ends_header (header_length headers (after_run class.Blank bs)) (after_run class.Blank bs)

-- `include`, and what may follow it
abbrev pub is_include : List ℕ → Bool
is_include bs = starts_with nat_eq bs (codes "include") && is_named (drop 7 bs)

-- a directive, by what follows its `#`
abbrev pub directive_head : List ℕ → Result Head Flaw
directive_head bs = if is_include (after_run class.Blank (take_while (has class.Line) bs)) then Ok (head piece.Directive (length (take_while (has class.Line) bs) + 1)) else Err (flaw breach.Directive 0)

-- ---- comments

-- how many bytes stand before the first `*/`
abbrev pub close_at : List ℕ → Option ℕ
close_at [] = None
close_at (b ∷ bs) = if b == 42 && begins_with 47 bs then Some 0 else option_map (λ n. n + 1) (close_at bs)

-- a comment that `/*` begins, by where its `*/` stands after that
abbrev pub block_head : Option ℕ → Result Head Flaw
block_head None = Err (flaw breach.CommentNotClosed 0)
block_head (Some n) = Ok (head piece.Comment (n + 4))

-- ---- signs

abbrev pub begins_triple : List ℕ → Bool
begins_triple bs = starts_with nat_eq bs (codes "<<=") || starts_with nat_eq bs (codes ">>=")

-- what `=` may follow in a sign of two bytes
abbrev pub takes_equals : ℕ → Bool
takes_equals b = list_any (λ c. b == c) (codes "<>=!+-*/%&|^")

-- what may stand twice in a sign of two bytes
abbrev pub may_be_doubled : ℕ → Bool
may_be_doubled b = list_any (λ c. b == c) (codes "<>&|+-:")

abbrev pub is_pair : ℕ → ℕ → Bool
is_pair a b = (b == 61 && takes_equals a) || (a == b && may_be_doubled a)

abbrev pub begins_pair : ℕ → List ℕ → Bool
begins_pair a [] = false
begins_pair a (b ∷ bs) = is_pair a b

-- the other signs of one byte
abbrev pub stands_alone : ℕ → Bool
stands_alone b = list_any (λ c. b == c) (codes "~?:;,.(){}[]")

-- signs of one byte with which no other sign begins, nor a comment
abbrev pub is_separator : ℕ → Bool
is_separator b = list_any (λ c. b == c) (codes "{}()[];,.")

-- the signs of one byte
abbrev pub is_lone_sign : ℕ → Bool
is_lone_sign b = takes_equals b || stands_alone b

abbrev pub sign : ℕ → Result Head Flaw
sign n = Ok (head (piece.Token kind.Sign) n)

-- a sign, by its first byte and what follows
abbrev pub sign_head : ℕ → List ℕ → Result Head Flaw
sign_head b bs = if begins_triple (b ∷ bs) then sign 3 else (if begins_pair b bs then sign 2 else (if is_lone_sign b then sign 1 else Err (flaw breach.BadByte 0)))

-- ---- the first piece

-- a comment or a sign, by its first byte and what follows
abbrev pub mark_head : ℕ → List ℕ → Result Head Flaw
mark_head b bs = if b == 47 && begins_with 47 bs then Ok (head piece.Comment (length (take_while (has class.Line) bs) + 1))
    else (if b == 47 && begins_with 42 bs then block_head (close_at (drop 1 bs)) else sign_head b bs)

-- a text, a directive, a comment or a sign, by its first byte and what follows
abbrev pub marked_head : ℕ → List ℕ → Result Head Flaw
marked_head b bs = if b == 34 then text_head bs else (if b == 35 then directive_head bs else mark_head b bs)

-- what the first byte begins
unfoldable pub head_at : ℕ → List ℕ → Result Head Flaw
head_at b bs = if is_space b then Ok (head piece.Space 1)
    else (if begins_word b then Ok (head (piece.Token kind.Word) (length (take_while (has class.Word) (b ∷ bs))))
    else (if is_digit b then head_of_number (length (take_while (has class.Word) (b ∷ bs))) (number_of (take_while (has class.Word) (b ∷ bs)))
    else marked_head b bs))

-- the first piece; there is none where no byte is
unfoldable pub head_of : List ℕ → Result Head Flaw
head_of [] = Err (flaw breach.BadByte 0)
head_of (b ∷ bs) = head_at b bs
