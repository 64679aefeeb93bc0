-- A source is cut in one way up to where it can't be, and has one breach there.
use Rattle.std.proofs.Common.{◌≡◌, ℕ, ◌<◌, List, [], ◌∷◌, ◌++◌, length, take, take, drop, Result, Ok, Err, ⊎_elim, refl, sym, ap, ◌∙◌, arith, length-append, append_assoc, append-nil}
use Rattle.std.proofs.lemmas.List.{take_at, drop_at}
use Rattle.ooo_lexer.specs.declared.breach.LexBreach.{LexBreach}
use Rattle.ooo_lexer.specs.declared.position.Position.{Position}
use Rattle.ooo_lexer.specs.Positions.{position_after}
use Rattle.ooo_lexer.specs.declared.flaw.Flaw.{Flaw}
use Rattle.ooo_lexer.specs.declared.token.TokenKind.{TokenKind}
use Rattle.ooo_lexer.specs.declared.token.TokenKind.TheVariants as kind
use Rattle.ooo_lexer.specs.declared.heads.Head.{Head}
use Rattle.ooo_lexer.specs.Breaches.{IsBadNumber, IsBreach, bad_byte, bad_escape, text_not_closed, number_too_wide, bad_number, comment_not_closed, directive, HasBreach, IsOnlyBreach}
use Rattle.ooo_lexer.specs.Heads.{head_of}
use Rattle.ooo_lexer.specs.Pieces.{Piece, Space, Comment, Directive, Kept, bytes_of, IsOfKind, StandsBefore, joined, EachStands, Cuts}
use Rattle.ooo_lexer.proofs.Finds.{kind_of, head_from}
use Rattle.ooo_lexer.proofs.Firsts.{complete, flawed}
use Rattle.ooo_lexer.proofs.Numerals.{numeral_begins}
use Rattle.ooo_lexer.proofs.Signs.{sign_has_bytes}

abbrev kept : TokenKind → List ℕ → Piece
kept k bs = Kept (record { kind = k; bytes = bs })

same_kept : (k l : TokenKind) (xs ys : List ℕ) → k ≡ l → xs ≡ ys → kept k xs ≡ kept l ys
same_kept k l xs ys e f = ap (λ k. kept k xs) e ∙ ap (kept l) f

same_piece : (p q : Piece) → kind_of p ≡ kind_of q → bytes_of p ≡ bytes_of q → p ≡ q
same_piece (Space a) (Space b) k e = cc
same_piece (Space a) (Comment b) k e = absurd cc
same_piece (Space a) (Directive b) k e = absurd cc
same_piece (Space a) (Kept b) k e = absurd cc
same_piece (Comment a) (Space b) k e = absurd cc
same_piece (Comment a) (Comment b) k e = ap Comment e
same_piece (Comment a) (Directive b) k e = absurd cc
same_piece (Comment a) (Kept b) k e = absurd cc
same_piece (Directive a) (Space b) k e = absurd cc
same_piece (Directive a) (Comment b) k e = absurd cc
same_piece (Directive a) (Directive b) k e = ap Directive e
same_piece (Directive a) (Kept b) k e = absurd cc
same_piece (Kept a) (Space b) k e = absurd cc
same_piece (Kept a) (Comment b) k e = absurd cc
same_piece (Kept a) (Directive b) k e = absurd cc
same_piece (Kept a) (Kept b) k e = same_kept a.kind b.kind a.bytes b.bytes (cc) e

-- one piece stands first in a list of bytes
pub same_first : (p q : Piece) (r s : List ℕ) → StandsBefore p r → StandsBefore q s → bytes_of p ++ r ≡ bytes_of q ++ s → (p ≡ q) × (r ≡ s)
same_first p q r s f g e =
    let heads : ◌≡◌ {A = Result Head Flaw} (Ok (head_from p)) (Ok (head_from q)) = sym (complete p r f) ∙ ap head_of e ∙ complete q s g in
    let head : head_from p ≡ head_from q = cc in
    let kinds : kind_of p ≡ kind_of q = ap (λ (h : Head). h.kind) head in
    let lengths : length (bytes_of p) ≡ length (bytes_of q) = ap (λ (h : Head). h.length) head in
    let bytes = sym (take_at (bytes_of p) r (length (bytes_of q)) lengths) ∙ ap (take (length (bytes_of q))) e ∙ take_at (bytes_of q) s (length (bytes_of q)) refl in
    let rests = sym (drop_at (bytes_of p) r (length (bytes_of q)) lengths) ∙ ap (drop (length (bytes_of q))) e ∙ drop_at (bytes_of q) s (length (bytes_of q)) refl in
    (same_piece p q kinds bytes, rests)

-- no piece is empty
pub token_has_bytes : (k : TokenKind) (bs : List ℕ) → IsOfKind k bs → 0 < length bs
token_has_bytes kind.Word [] is = absurd is
token_has_bytes kind.Word (b ∷ bs) is = omega arith
token_has_bytes kind.Number bs is = let begins = numeral_begins bs is.1.base is.1.digits is.1.suffix is.1.numeral in omega (arith, ap length begins.2)
token_has_bytes kind.Text bs is = omega (arith, ap length is.is)
token_has_bytes kind.Sign bs is = sign_has_bytes bs is

pub piece_has_bytes : (p : Piece) (r : List ℕ) → StandsBefore p r → 0 < length (bytes_of p)
piece_has_bytes (Space b) r f = omega arith
piece_has_bytes (Comment bs) r f = ⊎_elim (λ line. omega (arith, ap length line.0.is)) (λ block. omega (arith, ap length block.is)) f
piece_has_bytes (Directive bs) r f = omega (arith, ap length f.0.is)
piece_has_bytes (Kept l) r f = token_has_bytes l.kind l.bytes f.0

-- nothing stands first in these bytes
pub record Stuck (rest : List ℕ) : Type 0 where
  pub flaw : Flaw
  pub head : head_of rest ≡ Err flaw

pub stuck_at_end : Stuck []
unfolding head_of
stuck_at_end = record { flaw = _; head = refl }

pub stuck_at_breach : (rest : List ℕ) (b : LexBreach) (before : List ℕ) → IsBreach rest b before → Stuck rest
stuck_at_breach rest b before breach = let f = flawed rest b before breach in record { flaw = f.flaw; head = f.head }

pub not_stuck : (p : Piece) (r xs : List ℕ) → StandsBefore p r → bytes_of p ++ r ≡ xs → Stuck xs → ⊥
not_stuck p r xs f e s = let heads : ◌≡◌ {A = Result Head Flaw} (Ok (head_from p)) (Err s.flaw) = sym (complete p r f) ∙ ap head_of e ∙ s.head in absurd cc

-- the pieces before nothing stands first are the same, and so is what follows
pub same_front : (ps qs : List Piece) (r s : List ℕ) → EachStands ps r → EachStands qs s → Stuck r → Stuck s → joined ps ++ r ≡ joined qs ++ s → (ps ≡ qs) × (r ≡ s)
same_front [] [] r s f g t u e = (refl, e)
same_front [] (q ∷ qs) r s f g t u e = absurd (not_stuck q (joined qs ++ s) r g.0 (sym (append_assoc (bytes_of q) (joined qs) s) ∙ sym e) t)
same_front (p ∷ ps) [] r s f g t u e = absurd (not_stuck p (joined ps ++ r) s f.0 (sym (append_assoc (bytes_of p) (joined ps) r) ∙ e) u)
same_front (p ∷ ps) (q ∷ qs) r s f g t u e =
    let whole = sym (append_assoc (bytes_of p) (joined ps) r) ∙ e ∙ append_assoc (bytes_of q) (joined qs) s in
    let first = same_first p q (joined ps ++ r) (joined qs ++ s) f.0 g.0 whole in
    let more = same_front ps qs r s f.1 g.1 t u first.1 in
    let i = first.0 in let j = more.0 in
    (cc, more.1)

pub one_cutting : (source : List ℕ) (ps qs : List Piece) → Cuts source ps → Cuts source qs → ps ≡ qs
one_cutting source ps qs c d = (same_front ps qs [] [] c.fits d.fits stuck_at_end stuck_at_end (ap (λ x. x ++ []) (c.whole ∙ sym d.whole))).0

-- no breach is of no bytes
bad_number_has_bytes : (bs : List ℕ) → IsBadNumber bs → 0 < length bs
bad_number_has_bytes [] bad = absurd bad
bad_number_has_bytes (b ∷ bs) bad = omega arith

breach_has_bytes : (rest : List ℕ) (b : LexBreach) (before : List ℕ) → IsBreach rest b before → 0 < length rest
breach_has_bytes rest b before (bad_byte is same none) = omega (arith, ap length is.is)
breach_has_bytes rest b before (bad_escape parts later after are clean is same none) = omega (arith, ap length is)
breach_has_bytes rest b before (text_not_closed parts after are ends is same none) = omega (arith, ap length is)
breach_has_bytes rest b before (number_too_wide bs after wide stops is same none) =
    let begins = numeral_begins bs wide.base wide.digits wide.suffix wide.numeral in omega (arith, ap length is, ap length begins.2, length-append bs after)
breach_has_bytes rest b before (bad_number bs after bad stops is same none) = omega (arith, ap length is, bad_number_has_bytes bs bad, length-append bs after)
breach_has_bytes rest b before (comment_not_closed after no_end is same none) = omega (arith, ap length is)
breach_has_bytes rest b before (directive line after on stops bad is same none) = omega (arith, ap length is)

-- a source with a breach is cut before the breach alone
pub no_cutting : (source : List ℕ) (b : LexBreach) (at : Position) (ps : List Piece) → HasBreach source b at → Cuts source ps → ⊥
no_cutting source b at ps has c =
    let stuck = stuck_at_breach has.rest b has.before has.breach in
    let same = same_front has.cut ps has.rest [] has.fits c.fits stuck stuck_at_end (has.whole ∙ sym c.whole ∙ sym (append-nil (joined ps))) in
    absurd (omega (arith, ap length same.1, breach_has_bytes has.rest b has.before has.breach))

-- the position of a flaw of what stands after pieces
position_at : List Piece → List ℕ → ℕ → Position
position_at cut rest n = position_after (joined cut ++ take n rest)

pub one_breach : (source : List ℕ) (b : LexBreach) (at : Position) → HasBreach source b at → IsOnlyBreach source b at
unfolding position_at
one_breach source b at has c there other =
    let left = stuck_at_breach has.rest b has.before has.breach in
    let right = stuck_at_breach other.rest c other.before other.breach in
    let same = same_front has.cut other.cut has.rest other.rest has.fits other.fits left right (has.whole ∙ sym other.whole) in
    let x = flawed has.rest b has.before has.breach in
    let y = flawed other.rest c other.before other.breach in
    let heads : ◌≡◌ {A = Result Head Flaw} (Err x.flaw) (Err y.flaw) = sym x.head ∙ ap head_of same.1 ∙ y.head in
    let flaws : x.flaw ≡ y.flaw = cc in
    let here : at ≡ position_at has.cut has.rest x.flaw.before = has.position ∙ ap (λ r. position_after (joined has.cut ++ r)) x.taken in
    let over : there ≡ position_at other.cut other.rest y.flaw.before = other.position ∙ ap (λ r. position_after (joined other.cut ++ r)) y.taken in
    let moved : position_at has.cut has.rest x.flaw.before ≡ position_at other.cut other.rest y.flaw.before =
    ap (λ ps. position_at ps has.rest x.flaw.before) same.0 ∙ ap (λ r. position_at other.cut r x.flaw.before) same.1 ∙ ap (λ f. position_at other.cut other.rest f.before) flaws in
    (y.same ∙ sym (ap (λ f. f.breach) flaws) ∙ sym x.same, over ∙ sym moved ∙ sym here)
