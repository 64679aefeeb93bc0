-- What holds of every source.
use Rattle.std.specs.Prelude.{◌≡◌, ℕ, ◌⊎◌, Ok, List, ◌++◌, All, map}
use Rattle.ooo_lexer.specs.declared.breach.LexBreach.{LexBreach}
use Rattle.ooo_lexer.specs.declared.numbers.Number.{Number}
use Rattle.ooo_lexer.specs.declared.position.Position.{Position}
use Rattle.ooo_lexer.specs.declared.token.Token.{Token}
use Rattle.ooo_lexer.specs.Numerals.{number_of}
use Rattle.ooo_lexer.specs.Numbers.{IsNumberOf}
use Rattle.ooo_lexer.specs.Pieces.{Piece, Cuts, lexemes}
use Rattle.ooo_lexer.specs.Breaches.{HasBreach, IsOnlyBreach}
use Rattle.ooo_lexer.specs.Texts.{Part, written, HasNoStray, AreParts, meant_by, unescaped}
use Rattle.ooo_lexer.specs.Spans.{AreTokensOf, IsWithin, AreInOrder, lexeme_at}

-- two cuttings of one source are the same
abbrev pub IsCutOneWay : Type 0
IsCutOneWay = (source : List ℕ) (pieces others : List Piece) → Cuts source pieces → Cuts source others → pieces ≡ others

-- a source has one list of tokens at most
abbrev pub HasOneTokenList : Type 0
HasOneTokenList = (source : List ℕ) (tokens others : List Token) → AreTokensOf source tokens → AreTokensOf source others → tokens ≡ others

-- a source has one breach at most
abbrev pub HasOneBreach : Type 0
HasOneBreach = (source : List ℕ) (b : LexBreach) (at : Position) → HasBreach source b at → IsOnlyBreach source b at

-- no source with a breach is cut
abbrev pub HasNoCutting : Type 0
HasNoCutting = (source : List ℕ) (b : LexBreach) (at : Position) (pieces : List Piece) → HasBreach source b at → Cuts source pieces → ⊥

-- a source is cut, or it has a breach
abbrev pub IsCutOrBroken : Type 0
IsCutOrBroken = (source : List ℕ) → ((pieces : List Piece) × Cuts source pieces) ⊎ ((b : LexBreach) × ((at : Position) × HasBreach source b at))

-- a number has one kind and one value
abbrev pub IsOneNumber : Type 0
IsOneNumber = (bs : List ℕ) (n o : Number) → IsNumberOf bs n → IsNumberOf bs o → n ≡ o

-- a number is found in its bytes, and what is found is the number
abbrev pub IsNumberFound : Type 0
IsNumberFound = (bs : List ℕ) (n : Number) → (IsNumberOf bs n → number_of bs ≡ Ok n) × (number_of bs ≡ Ok n → IsNumberOf bs n)

-- the spans of a source's tokens lie within it
abbrev pub SpansAreWithin : Type 0
SpansAreWithin = (source : List ℕ) (tokens : List Token) → AreTokensOf source tokens → All (IsWithin source) tokens

-- the spans of a source's tokens are in order, and none overlaps another
abbrev pub SpansAreInOrder : Type 0
SpansAreInOrder = (source : List ℕ) (tokens : List Token) → AreTokensOf source tokens → AreInOrder tokens

-- the tokens with their spans' bytes are the lexemes of any cutting
abbrev pub SpansAreLexemes : Type 0
SpansAreLexemes = (source : List ℕ) (tokens : List Token) (pieces : List Piece) → AreTokensOf source tokens → Cuts source pieces → map (lexeme_at source) tokens ≡ lexemes pieces

-- a text's value has one byte for each of its parts, in order, and what follows the parts keeps its own value
abbrev pub HasValueOfParts : Type 0
HasValueOfParts = (parts : List Part) (rest : List ℕ) → AreParts parts rest → HasNoStray parts
    → unescaped (written parts ++ rest) ≡ map meant_by parts ++ unescaped rest
