-- Where the tokens of pieces lie, and what their spans hold.
use Rattle.std.proofs.Common.{◌≡◌, ℕ, ◌+◌, ◌-◌, ◌≤◌, List, [], ◌∷◌, ◌++◌, length, take, drop, map, All, refl, sym, ap, ◌∙◌, subst, arith, append_assoc, length-append}
use Rattle.std.proofs.lemmas.List.{take_at, drop_at}
use Rattle.std.proofs.lemmas.List.Elements.{All-cons}
use Rattle.std.proofs.lemmas.List.Kept.{AllPairs-cons}
use Rattle.ooo_lexer.specs.declared.token.Token.{Token}
use Rattle.ooo_lexer.specs.Pieces.{Lexeme, Piece, Space, Comment, Directive, Kept, joined, EachStands, Cuts, lexemes}
use Rattle.ooo_lexer.specs.Positions.{token_after, tokens_after}
use Rattle.ooo_lexer.specs.Spans.{AreTokensOf, IsWithin, AreInOrder, lexeme_at}
use Rattle.ooo_lexer.proofs.Cuttings.{token_has_bytes, one_cutting}

-- the pieces after the first, behind its bytes
behind : (n : ℕ) (before bs more : List ℕ) → length before + length (bs ++ more) ≤ n → length (before ++ bs) + length more ≤ n
behind n before bs more h = omega (arith, length-append before bs, length-append bs more)

within : (source before : List ℕ) (ps : List Piece) → EachStands ps [] → length before + length (joined ps) ≤ length source → All (IsWithin source) (tokens_after before ps)
within source before [] each fits = λ k d h. absurd (omega arith)
within source before (Space b ∷ ps) each fits = within source (before ++ b ∷ []) ps each.1 (behind (length source) before (b ∷ []) (joined ps) fits)
within source before (Directive bs ∷ ps) each fits = within source (before ++ bs) ps each.1 (behind (length source) before bs (joined ps) fits)
within source before (Comment bs ∷ ps) each fits = within source (before ++ bs) ps each.1 (behind (length source) before bs (joined ps) fits)
within source before (Kept l ∷ ps) each fits =
    let some = token_has_bytes l.kind l.bytes each.0.0 in
    let n = length-append l.bytes (joined ps) in
    All-cons (IsWithin source) (token_after before l) (tokens_after (before ++ l.bytes) ps) (omega arith, omega arith)
    (within source (before ++ l.bytes) ps each.1 (behind (length source) before l.bytes (joined ps) fits))

starts_after : (n : ℕ) (before : List ℕ) (ps : List Piece) → n ≤ length before → All (λ (t : Token). n ≤ t.start) (tokens_after before ps)
starts_after n before [] h = λ k d i. absurd (omega arith)
starts_after n before (Space b ∷ ps) h = starts_after n (before ++ b ∷ []) ps (omega (arith, length-append before (b ∷ [])))
starts_after n before (Directive bs ∷ ps) h = starts_after n (before ++ bs) ps (omega (arith, length-append before bs))
starts_after n before (Comment bs ∷ ps) h = starts_after n (before ++ bs) ps (omega (arith, length-append before bs))
starts_after n before (Kept l ∷ ps) h = All-cons (λ (t : Token). n ≤ t.start) (token_after before l) (tokens_after (before ++ l.bytes) ps) h
    (starts_after n (before ++ l.bytes) ps (omega (arith, length-append before l.bytes)))

in_order : (before : List ℕ) (ps : List Piece) → AreInOrder (tokens_after before ps)
in_order before [] = λ i j d h k. absurd (omega arith)
in_order before (Space b ∷ ps) = in_order (before ++ b ∷ []) ps
in_order before (Directive bs ∷ ps) = in_order (before ++ bs) ps
in_order before (Comment bs ∷ ps) = in_order (before ++ bs) ps
in_order before (Kept l ∷ ps) = AllPairs-cons (λ (t u : Token). t.end ≤ u.start) (token_after before l) (tokens_after (before ++ l.bytes) ps)
    (starts_after (length before + length l.bytes) (before ++ l.bytes) ps (omega (arith, length-append before l.bytes)))
    (in_order (before ++ l.bytes) ps)

slice_is : (before bs more : List ℕ) → take ((length before + length bs) - length before) (drop (length before) (before ++ (bs ++ more))) ≡ bs
slice_is before bs more =
    let n : length bs ≡ (length before + length bs) - length before = omega arith in
    ap (take ((length before + length bs) - length before)) (drop_at before (bs ++ more) (length before) refl) ∙ take_at bs more _ n

lexemes_are : (source before : List ℕ) (ps : List Piece) → source ≡ before ++ joined ps → map (lexeme_at source) (tokens_after before ps) ≡ lexemes ps
lexemes_are source before [] e = refl
lexemes_are source before (Space b ∷ ps) e = lexemes_are source (before ++ b ∷ []) ps (e ∙ sym (append_assoc before (b ∷ []) (joined ps)))
lexemes_are source before (Directive bs ∷ ps) e = lexemes_are source (before ++ bs) ps (e ∙ sym (append_assoc before bs (joined ps)))
lexemes_are source before (Comment bs ∷ ps) e = lexemes_are source (before ++ bs) ps (e ∙ sym (append_assoc before bs (joined ps)))
lexemes_are source before (Kept l ∷ ps) e =
    let bytes = ap (λ s. take ((length before + length l.bytes) - length before) (drop (length before) s)) e ∙ slice_is before l.bytes (joined ps) in
    let L : List ℕ → Lexeme = λ bs. record { kind = l.kind; bytes = bs } in
    ap (λ bs. L bs ∷ map (lexeme_at source) (tokens_after (before ++ l.bytes) ps)) bytes
    ∙ ap (λ ls. l ∷ ls) (lexemes_are source (before ++ l.bytes) ps (e ∙ sym (append_assoc before l.bytes (joined ps))))

pub one_list : (source : List ℕ) (tokens others : List Token) → AreTokensOf source tokens → AreTokensOf source others → tokens ≡ others
one_list source tokens others t o = t.are ∙ ap (tokens_after []) (one_cutting source t.pieces o.pieces t.cut o.cut) ∙ sym o.are

pub tokens_are : (source : List ℕ) (tokens : List Token) (pieces : List Piece) → AreTokensOf source tokens → Cuts source pieces → tokens ≡ tokens_after [] pieces
tokens_are source tokens pieces t c = one_list source tokens (tokens_after [] pieces) t (record { pieces = pieces; cut = c; are = refl })

pub tokens_within : (source : List ℕ) (tokens : List Token) → AreTokensOf source tokens → All (IsWithin source) tokens
tokens_within source tokens t =
    let n = ap length t.cut.whole in
    subst (λ ts. All (IsWithin source) ts) (sym t.are) (within source [] t.pieces t.cut.fits (omega arith))

pub tokens_in_order : (source : List ℕ) (tokens : List Token) → AreTokensOf source tokens → AreInOrder tokens
tokens_in_order source tokens t = subst (λ ts. AreInOrder ts) (sym t.are) (in_order [] t.pieces)

pub tokens_are_lexemes : (source : List ℕ) (tokens : List Token) (pieces : List Piece) → AreTokensOf source tokens → Cuts source pieces → map (lexeme_at source) tokens ≡ lexemes pieces
tokens_are_lexemes source tokens pieces t c = ap (map (lexeme_at source)) (tokens_are source tokens pieces t c) ∙ lexemes_are source [] pieces (sym c.whole)
