-- What it is that the code finds first in a list of bytes: a piece that stands first, or a breach.
use Rattle.std.proofs.Common.{◌≡◌, ℕ, ◌≤◌, Bool, true, false, List, [], ◌∷◌, ◌++◌, length, take, drop, Ok, Err, Result, refl, ap}
use Rattle.std.specs.List.{list_all, Contains}
use Rattle.std.specs.Str.{bytes_eq}
use Rattle.std.proofs.lemmas.Bool.{eqb-true, false≢true}
use Rattle.std.proofs.lemmas.List.Elements.{All-contains}
use Rattle.std.proofs.lemmas.List.Sums.{AllPass-from_list_all}
use Rattle.std.proofs.lemmas.Slice.Eq.{bytes_eq-Decides}
use Rattle.ooo_lexer.specs.declared.flaw.Flaw.{Flaw}
use Rattle.ooo_lexer.specs.declared.heads.Head.{Head}
use Rattle.ooo_lexer.specs.declared.heads.PieceKind.{PieceKind}
use Rattle.ooo_lexer.specs.declared.heads.PieceKind.TheVariants as part
use Rattle.ooo_lexer.specs.Breaches.{IsBreach}
use Rattle.ooo_lexer.specs.Heads.{head}
use Rattle.ooo_lexer.specs.Pieces.{Piece, Space, Comment, Directive, Kept, bytes_of, StandsBefore}
use Rattle.ooo_lexer.specs.Runs.{begins_with, is_nothing}

-- a piece's kind, as the code has it
abbrev pub kind_of : Piece → PieceKind
kind_of (Space b) = part.Space
kind_of (Comment bs) = part.Comment
kind_of (Directive bs) = part.Directive
kind_of (Kept l) = part.Token l.kind

abbrev pub head_from : Piece → Head
head_from p = head (kind_of p) (length (bytes_of p))

-- the head is that of a piece that stands first
pub record First (xs : List ℕ) (h : Head) : Type 0 where
  pub piece : Piece
  pub rest : List ℕ
  pub is : xs ≡ bytes_of piece ++ rest
  pub stands : StandsBefore piece rest
  pub head : h ≡ head_from piece

-- the flaw is a breach of the bytes
pub record IsFlaw (xs : List ℕ) (f : Flaw) : Type 0 where
  pub breach : IsBreach xs f.breach (take f.before xs)
  pub within : f.before ≤ length xs

-- what the code finds in the bytes
abbrev pub Finds : List ℕ → Result Head Flaw → Type 0
Finds xs (Ok h) = First xs h
Finds xs (Err f) = IsFlaw xs f

-- ---- small steps

-- by what a test says
pub by_test : {P : Type 0} (t : Bool) → (t ≡ true → P) → (t ≡ false → P) → P
by_test true f g = f refl
by_test false f g = g refl

-- a test that each element passes, at one of them
pub passes_each : (test : List ℕ → Bool) (ss : List (List ℕ)) (s : List ℕ) → list_all test ss ≡ true → Contains ss s → test s ≡ true
passes_each test ss s all c = All-contains (λ x. test x ≡ true) ss s (AllPass-from_list_all test ss all) c

pub begins_is : (x : ℕ) (bs : List ℕ) → begins_with x bs ≡ true → bs ≡ x ∷ drop 1 bs
begins_is x [] e = absurd (false≢true e)
begins_is x (b ∷ bs) e = ap (λ b. b ∷ bs) (eqb-true b x e)

pub nothing_is : (bs : List ℕ) → is_nothing bs ≡ true → bs ≡ []
nothing_is [] e = refl
nothing_is (b ∷ bs) e = absurd (false≢true e)

-- equal bytes, as a test
pub same_bytes : (xs ys : List ℕ) → bytes_eq xs ys ≡ true → xs ≡ ys
same_bytes xs ys e = (bytes_eq-Decides xs ys).0 e
