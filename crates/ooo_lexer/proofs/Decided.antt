-- Every source is cut or has a breach.
use Rattle.std.proofs.Common.{◌≡◌, ℕ, zero, suc, ◌≤◌, List, [], ◌∷◌, ◌++◌, ◌⊎◌, inl, inr, length, take, Result, Ok, Err, refl, sym, ap, ◌∙◌, subst, arith, append-nil, length-append}
use Rattle.ooo_lexer.specs.declared.breach.LexBreach.{LexBreach}
use Rattle.ooo_lexer.specs.declared.position.Position.{Position}
use Rattle.ooo_lexer.specs.Positions.{position_after}
use Rattle.ooo_lexer.specs.declared.flaw.Flaw.{Flaw}
use Rattle.ooo_lexer.specs.declared.heads.Head.{Head}
use Rattle.ooo_lexer.specs.Breaches.{HasBreach}
use Rattle.ooo_lexer.specs.Heads.{head_of}
use Rattle.ooo_lexer.specs.Pieces.{Piece, bytes_of, joined, EachStands, Cuts}
use Rattle.ooo_lexer.proofs.Cuttings.{piece_has_bytes}
use Rattle.ooo_lexer.proofs.Finds.{Finds}
use Rattle.ooo_lexer.proofs.Firsts.{sound}
use Rattle.ooo_lexer.proofs.Progress.{last_follows, stands_push}

abbrev CutOrBroken : List ℕ → Type 0
CutOrBroken source = ((pieces : List Piece) × Cuts source pieces) ⊎ ((b : LexBreach) × ((at : Position) × HasBreach source b at))

-- one step on from a front that is cut, where what is left is decided once it is shorter
found : (n : ℕ) (source : List ℕ) (front : List Piece) (rest : List ℕ) (r : Result Head Flaw)
    → ((longer : List Piece) (left : List ℕ) → length left ≤ n → joined longer ++ left ≡ source → EachStands longer left → CutOrBroken source)
    → length rest ≤ suc n → joined front ++ rest ≡ source → EachStands front rest → Finds rest r → CutOrBroken source
found n source front rest (Ok h) next short whole fits first =
    let some = piece_has_bytes first.piece first.rest first.stands in
    let shorter : length first.rest ≤ n = omega (arith, ap length first.is, length-append (bytes_of first.piece) first.rest) in
    next (front ++ first.piece ∷ []) first.rest shorter (last_follows front first.piece first.rest ∙ ap (λ r. joined front ++ r) (sym first.is) ∙ whole)
    (stands_push front first.piece first.rest (subst (EachStands front) first.is fits) first.stands)
found n source front rest (Err f) next short whole fits flaw = inr (f.breach, (position_after (joined front ++ take f.before rest), record { cut = front; rest = rest; before = take f.before rest; whole = whole; fits = fits; breach = flaw.breach; position = refl }))

-- by how many bytes are left at most
decided : (n : ℕ) (source : List ℕ) (front : List Piece) (rest : List ℕ) → length rest ≤ n → joined front ++ rest ≡ source → EachStands front rest → CutOrBroken source
decided n source front [] short whole fits = inl (front, record { whole = sym (append-nil (joined front)) ∙ whole; fits = fits })
decided zero source front (b ∷ bs) short whole fits = absurd (omega arith)
decided (suc n) source front (b ∷ bs) short whole fits = found n source front (b ∷ bs) (head_of (b ∷ bs)) (λ longer left less is each. decided n source longer left less is each) short whole fits (sound b bs)

pub cut_or_broken : (source : List ℕ) → CutOrBroken source
cut_or_broken source = decided (length source) source [] source (omega arith) refl tt
