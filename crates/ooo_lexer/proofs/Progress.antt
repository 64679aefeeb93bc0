-- What the loop keeps: the source up to here is cut into pieces with these tokens.
use Rattle.std.proofs.Common.{◌≡◌, ℕ, ◌+◌, ◌<◌, ◌≤◌, List, [], ◌∷◌, ◌++◌, length, take, drop, Ok, Err, refl, sym, ap, ◌∙◌, subst, arith, append_assoc, append-nil, length-append}
use Rattle.std.proofs.lemmas.List.{take_at, drop_at}
use Rattle.ooo_lexer.specs.declared.flaw.Flaw.{Flaw}
use Rattle.ooo_lexer.specs.declared.position.Position.{Position}
use Rattle.ooo_lexer.specs.declared.token.Token.{Token}
use Rattle.ooo_lexer.specs.declared.heads.Head.{Head}
use Rattle.ooo_lexer.specs.declared.cursor.Cursor.{Cursor}
use Rattle.ooo_lexer.specs.Breaches.{HasBreach}
use Rattle.ooo_lexer.specs.Heads.{head_of}
use Rattle.ooo_lexer.specs.Pieces.{Piece, Space, Comment, Directive, Kept, bytes_of, StandsBefore, joined, EachStands}
use Rattle.ooo_lexer.specs.Positions.{token_after, tokens_after}
use Rattle.ooo_lexer.specs.Spans.{AreTokensOf}
use Rattle.ooo_lexer.specs.Steps.{cursor_after, position_of, tokens_of}
use Rattle.ooo_lexer.proofs.Finds.{kind_of, First, IsFlaw, Finds}
use Rattle.ooo_lexer.proofs.Firsts.{sound}
use Rattle.ooo_lexer.proofs.Positions.{IsAfter, first_cursor, after_bytes, position_is, line_bound, column_bound}
use Rattle.ooo_lexer.proofs.Cuttings.{piece_has_bytes}

-- ---- one more piece

joined_append : (ps qs : List Piece) → joined (ps ++ qs) ≡ joined ps ++ joined qs
joined_append [] qs = refl
joined_append (p ∷ ps) qs = ap (λ r. bytes_of p ++ r) (joined_append ps qs) ∙ sym (append_assoc (bytes_of p) (joined ps) (joined qs))

joined_push : (ps : List Piece) (p : Piece) → joined (ps ++ p ∷ []) ≡ joined ps ++ bytes_of p
joined_push ps p = joined_append ps (p ∷ []) ∙ ap (λ r. joined ps ++ r) (append-nil (bytes_of p))

-- the last piece may as well be a part of what follows
pub last_follows : (ps : List Piece) (p : Piece) (r : List ℕ) → joined (ps ++ p ∷ []) ++ r ≡ joined ps ++ (bytes_of p ++ r)
last_follows ps p r = ap (λ x. x ++ r) (joined_push ps p) ∙ append_assoc (joined ps) (bytes_of p) r

pub stands_push : (ps : List Piece) (p : Piece) (r : List ℕ) → EachStands ps (bytes_of p ++ r) → StandsBefore p r → EachStands (ps ++ p ∷ []) r
stands_push [] p r each last = (last, tt)
stands_push (q ∷ ps) p r each last = (subst (StandsBefore q) (sym (last_follows ps p r)) each.0, stands_push ps p r each.1 last)

placed_append : (before : List ℕ) (ps qs : List Piece) → tokens_after before (ps ++ qs) ≡ tokens_after before ps ++ tokens_after (before ++ joined ps) qs
placed_append before [] qs = ap (λ b. tokens_after b qs) (sym (append-nil before))
placed_append before (Space b ∷ ps) qs = placed_append (before ++ b ∷ []) ps qs ∙ ap (λ x. tokens_after (before ++ b ∷ []) ps ++ tokens_after x qs) (append_assoc before (b ∷ []) (joined ps))
placed_append before (Comment bs ∷ ps) qs = placed_append (before ++ bs) ps qs ∙ ap (λ x. tokens_after (before ++ bs) ps ++ tokens_after x qs) (append_assoc before bs (joined ps))
placed_append before (Directive bs ∷ ps) qs = placed_append (before ++ bs) ps qs ∙ ap (λ x. tokens_after (before ++ bs) ps ++ tokens_after x qs) (append_assoc before bs (joined ps))
placed_append before (Kept l ∷ ps) qs = ap (λ ts. token_after before l ∷ ts) (placed_append (before ++ l.bytes) ps qs ∙ ap (λ x. tokens_after (before ++ l.bytes) ps ++ tokens_after x qs) (append_assoc before l.bytes (joined ps)))

tokens_of_piece : (before : List ℕ) (at : Cursor) (p : Piece) → IsAfter before at → tokens_of (kind_of p) (length (bytes_of p)) at ≡ tokens_after before (p ∷ [])
tokens_of_piece before at (Space b) a = refl
tokens_of_piece before at (Comment bs) a = refl
tokens_of_piece before at (Directive bs) a = refl
tokens_of_piece before at (Kept l) a = let s = a.start in let n = a.line in let m = a.column in cc

-- ---- what the loop keeps

pub record Reached (source rest : List ℕ) (tokens : List Token) (at : Cursor) : Type 0 where
  pub front : List Piece
  pub whole : joined front ++ rest ≡ source
  pub fits : EachStands front rest
  pub cursor : IsAfter (joined front) at
  pub kept : tokens ≡ tokens_after [] front

pub reached_none : (source : List ℕ) → Reached source source [] (record { start = 0; line = 1; column = 1 })
reached_none source = record { front = []; whole = refl; fits = tt; cursor = first_cursor; kept = refl }

reached_piece : (source : List ℕ) (tokens : List Token) (at : Cursor) (p : Piece) (r : List ℕ) → Reached source (bytes_of p ++ r) tokens at → StandsBefore p r
    → Reached source r (tokens ++ tokens_of (kind_of p) (length (bytes_of p)) at) (cursor_after at (bytes_of p))
reached_piece source tokens at p r now stands = record {
  front = now.front ++ p ∷ [];
  whole = last_follows now.front p r ∙ now.whole;
  fits = stands_push now.front p r now.fits stands;
  cursor = subst (λ x. IsAfter x (cursor_after at (bytes_of p))) (sym (joined_push now.front p)) (after_bytes (joined now.front) at (bytes_of p) now.cursor);
  kept = ap (λ ts. ts ++ tokens_of (kind_of p) (length (bytes_of p)) at) now.kept ∙ ap (λ ts. tokens_after [] now.front ++ ts) (tokens_of_piece (joined now.front) at p now.cursor) ∙ sym (placed_append [] now.front (p ∷ []));
}

pub finds : (rest : List ℕ) → 0 < length rest → Finds rest (head_of rest)
finds [] some = absurd (omega arith)
finds (b ∷ bs) some = sound b bs

pub first_of : (rest : List ℕ) (h : Head) → 0 < length rest → head_of rest ≡ Ok h → First rest h
first_of rest h some e = subst (Finds rest) e (finds rest some)

pub flaw_of : (rest : List ℕ) (f : Flaw) → 0 < length rest → head_of rest ≡ Err f → IsFlaw rest f
flaw_of rest f some e = subst (Finds rest) e (finds rest some)

pub reached_more : (source rest : List ℕ) (tokens : List Token) (at : Cursor) (h : Head) → Reached source rest tokens at → 0 < length rest → head_of rest ≡ Ok h
    → Reached source (drop h.length rest) (tokens ++ tokens_of h.kind h.length at) (cursor_after at (take h.length rest))
reached_more source rest tokens at h now some e =
    let f = first_of rest h some e in
    let p = f.piece in
    let next = reached_piece source tokens at p f.rest (subst (λ x. Reached source x tokens at) f.is now) f.stands in
    let length_is : h.length ≡ length (bytes_of p) = ap (λ (k : Head). k.length) f.head in
    let length_back = sym length_is in
    let kind_is : h.kind ≡ kind_of p = ap (λ (k : Head). k.kind) f.head in
    let R : List ℕ → List Token → List ℕ → Type 0 = λ x ts bs. Reached source x (tokens ++ ts) (cursor_after at bs) in
    let front = ap (take h.length) f.is ∙ take_at (bytes_of p) f.rest h.length length_back in
    let back = ap (drop h.length) f.is ∙ drop_at (bytes_of p) f.rest h.length length_back in
    let more : tokens_of h.kind h.length at ≡ tokens_of (kind_of p) (length (bytes_of p)) at = cc in
    subst (λ x. R x (tokens_of h.kind h.length at) (take h.length rest)) (sym back) (subst (λ ts. R f.rest ts (take h.length rest)) (sym more) (subst (λ bs. R f.rest (tokens_of (kind_of p) (length (bytes_of p)) at) bs) (sym front) next))

-- the same, by what the code has after the step
pub reached_next : (source rest piece more : List ℕ) (tokens longer : List Token) (at next : Cursor) (h : Head) → Reached source rest tokens at → 0 < length rest → head_of rest ≡ Ok h
    → piece ≡ take h.length rest → more ≡ drop h.length rest → longer ≡ tokens ++ tokens_of h.kind h.length at → next ≡ cursor_after at piece → Reached source more longer next
reached_next source rest piece more tokens longer at next h now some e p r t n =
    let there : next ≡ cursor_after at (take h.length rest) = n ∙ ap (cursor_after at) p in
    subst (λ x. Reached source x longer next) (sym r) (subst (λ x. Reached source (drop h.length rest) x next) (sym t) (subst (λ x. Reached source (drop h.length rest) (tokens ++ tokens_of h.kind h.length at) x) (sym there) (reached_more source rest tokens at h now some e)))

-- the first piece has a byte, and is no longer than the list
pub head_fits : (rest : List ℕ) (h : Head) → 0 < length rest → head_of rest ≡ Ok h → (0 < h.length) × (h.length ≤ length rest)
head_fits rest h some e =
    let f = first_of rest h some e in
    let n = ap (λ (k : Head). k.length) f.head in
    let m = ap length f.is in
    let l = length-append (bytes_of f.piece) f.rest in
    let k = piece_has_bytes f.piece f.rest f.stands in
    (omega arith, omega arith)

-- the numbers of a cursor, with what is left, are no larger than the source
pub record CursorFits (source rest : List ℕ) (at : Cursor) : Type 0 where
  pub start : at.start + length rest ≡ length source
  pub line : at.line + length rest ≤ length source + 1
  pub column : at.column + length rest ≤ length source + 1

pub cursor_fits : (source rest : List ℕ) (tokens : List Token) (at : Cursor) → Reached source rest tokens at → CursorFits source rest at
cursor_fits source rest tokens at now =
    let n = ap length now.whole in
    let m = length-append (joined now.front) rest in
    let s = now.cursor.start in let l = now.cursor.line in let c = now.cursor.column in
    record { start = omega arith; line = omega (arith, line_bound (joined now.front)); column = omega (arith, column_bound (joined now.front)) }

-- ---- what the answers say

pub reached_end : (source : List ℕ) (tokens : List Token) (at : Cursor) → Reached source [] tokens at → AreTokensOf source tokens
reached_end source tokens at now = record { pieces = now.front; cut = record { whole = sym (append-nil (joined now.front)) ∙ now.whole; fits = now.fits }; are = now.kept }

-- the code's flaw is the breach where it stops
pub reached_breach : (source rest : List ℕ) (tokens : List Token) (at : Cursor) (f : Flaw) (position : Position) → Reached source rest tokens at → 0 < length rest → head_of rest ≡ Err f
    → position ≡ position_of (cursor_after at (take f.before rest)) → HasBreach source f.breach position
reached_breach source rest tokens at f position now some found is =
    let there = position_is (joined now.front ++ take f.before rest) (cursor_after at (take f.before rest)) (after_bytes (joined now.front) at (take f.before rest) now.cursor) in
    record { cut = now.front; rest = rest; before = take f.before rest; whole = now.whole; fits = now.fits; breach = (flaw_of rest f some found).breach; position = is ∙ there }
