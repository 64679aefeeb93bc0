-- What the code finds first is what stands there: a piece or a breach, and the other way round.
use Rattle.std.proofs.Common.{◌≡◌, ℕ, suc, ◌+◌, Bool, true, false, cond, eqb, ◌&&◌, List, [], ◌∷◌, ◌++◌, length, take, drop, Ok, Err, Result, inl, inr, refl, sym, ap, ◌∙◌, subst, arith, append_assoc, length-append, codes}
use Rattle.std.specs.List.{list_all, prefix_len, take_while}
use Rattle.std.proofs.lemmas.Bool.{and_parts, and_from, or_from, or_parts, eqb-true, ne_eqb, cond-true, cond-false}
use Rattle.std.proofs.lemmas.List.{take_at}
use Rattle.std.proofs.lemmas.List.Sums.{take_while-cons}
use Rattle.ooo_lexer.specs.declared.bytes.Class.TheVariants as class
use Rattle.ooo_lexer.specs.declared.breach.LexBreach.{LexBreach}
use Rattle.ooo_lexer.specs.declared.breach.LexBreach.TheVariants as breach
use Rattle.ooo_lexer.specs.declared.flaw.Flaw.{Flaw}
use Rattle.ooo_lexer.specs.declared.heads.Head.{Head}
use Rattle.ooo_lexer.specs.declared.heads.PieceKind.TheVariants as part
use Rattle.ooo_lexer.specs.declared.numbers.Base.{Base}
use Rattle.ooo_lexer.specs.declared.numbers.Suffix.{Suffix}
use Rattle.ooo_lexer.specs.declared.numbers.Number.{Number}
use Rattle.ooo_lexer.specs.declared.token.TokenKind.{TokenKind}
use Rattle.ooo_lexer.specs.declared.token.TokenKind.TheVariants as kind
use Rattle.ooo_lexer.specs.Breaches.{BeginsNothing, IsBadNumber, IsBreach, bad_byte, bad_escape, text_not_closed, number_too_wide, bad_number, comment_not_closed, directive}
use Rattle.ooo_lexer.specs.Bytes.{is_space, is_digit, begins_word, is_word_byte, is_line_byte, StopsBefore}
use Rattle.ooo_lexer.specs.Forms.{IsWord, IsSign, IsLineComment, IsBlockComment, IsDirective, HasNoEnd}
use Rattle.ooo_lexer.specs.Heads.{head, flaw, block_head, close_at, head_of_number, text_head, directive_head, mark_head, head_at, head_of}
use Rattle.ooo_lexer.specs.Numbers.{IsNumeral, IsNumber}
use Rattle.ooo_lexer.specs.Numerals.{number_of}
use Rattle.ooo_lexer.specs.Pieces.{Piece, Space, Comment, Directive, Kept, bytes_of, IsOfKind, IsLongestSign, IsLongest, StandsBefore}
use Rattle.ooo_lexer.specs.Runs.{has, begins_with}
use Rattle.ooo_lexer.specs.Texts.{Part, Stray, written_part, written, AreParts, HasNoStray, IsText, EndsLine}
use Rattle.ooo_lexer.proofs.Classes.{word_begins, digit_goes_on, digit_begins_no_word, word_is_no_space}
use Rattle.ooo_lexer.proofs.Comments.{line_sound, line_complete, block_sound, block_complete, block_open}
use Rattle.ooo_lexer.proofs.Directives.{directive_sound, directive_complete, directive_bad}
use Rattle.ooo_lexer.proofs.Finds.{head_from, First, Finds, begins_is}
use Rattle.ooo_lexer.proofs.Numerals.{IsOutcome, number_sound, number_complete, wide_complete, bad_complete, numeral_is_word, numeral_begins}
use Rattle.ooo_lexer.proofs.Runs.{run_front, run_passes, run_stops, run_joins}
use Rattle.ooo_lexer.proofs.Signs.{sign_sound, sign_complete, sign_first, sign_has_bytes, nothing_complete}
use Rattle.ooo_lexer.proofs.FoundTexts.{text_sound, text_complete, open_complete, stray_complete}

-- ---- what the code finds

-- what a choice by a test finds is what its branches find
chosen : (xs : List ℕ) (t : Bool) (r s : Result Head Flaw) → (t ≡ true → Finds xs r) → (t ≡ false → Finds xs s) → Finds xs (cond t r s)
chosen xs true r s f g = f refl
chosen xs false r s f g = g refl

word_sound : (b : ℕ) (bs : List ℕ) → begins_word b ≡ true → First (b ∷ bs) (head (part.Token kind.Word) (length (take_while is_word_byte (b ∷ bs))))
word_sound b bs begins =
    let run = take_while is_word_byte (b ∷ bs) in
    let starts = take_while-cons is_word_byte b bs ∙ cond-true (is_word_byte b) (b ∷ take_while is_word_byte bs) [] (word_begins b begins) in
    record {
      piece = Kept (record { kind = kind.Word; bytes = run });
      rest = drop (prefix_len is_word_byte (b ∷ bs)) (b ∷ bs);
      is = sym (run_joins is_word_byte (b ∷ bs));
      stands = (subst IsWord (sym starts) (begins, run_passes is_word_byte bs), run_stops is_word_byte (b ∷ bs));
      head = refl;
    }

-- a number, or why it is none, by its word bytes
number_found : (b : ℕ) (bs rest : List ℕ) (r : Result Number LexBreach) → is_digit b ≡ true → list_all is_word_byte bs ≡ true → StopsBefore is_word_byte rest → IsOutcome (b ∷ bs) r
    → Finds ((b ∷ bs) ++ rest) (head_of_number (length (b ∷ bs)) r)
number_found b bs rest (Ok n) digit all stops outcome = record { piece = Kept (record { kind = kind.Number; bytes = b ∷ bs }); rest = rest; is = refl; stands = ((n, outcome), stops); head = refl }
number_found b bs rest (Err breach.BadByte) digit all stops outcome = absurd outcome
number_found b bs rest (Err breach.NumberTooWide) digit all stops outcome = record {
  breach = number_too_wide (b ∷ bs) rest outcome stops refl refl refl;
  within = omega arith;
}
number_found b bs rest (Err breach.TextNotClosed) digit all stops outcome = absurd outcome
number_found b bs rest (Err breach.CommentNotClosed) digit all stops outcome = absurd outcome
number_found b bs rest (Err breach.Directive) digit all stops outcome = absurd outcome
number_found b bs rest (Err breach.BadNumber) digit all stops outcome = record {
  breach = bad_number (b ∷ bs) rest (digit, (all, outcome)) stops refl refl refl;
  within = omega arith;
}

number_at : (b : ℕ) (bs : List ℕ) → is_digit b ≡ true → Finds (b ∷ bs) (head_of_number (length (take_while is_word_byte (b ∷ bs))) (number_of (take_while is_word_byte (b ∷ bs))))
number_at b bs digit =
    let run = take_while is_word_byte (b ∷ bs) in
    let starts = take_while-cons is_word_byte b bs ∙ cond-true (is_word_byte b) (b ∷ take_while is_word_byte bs) [] (digit_goes_on b digit) in
    let found = number_found b (take_while is_word_byte bs) (drop (prefix_len is_word_byte (b ∷ bs)) (b ∷ bs)) (number_of (b ∷ take_while is_word_byte bs)) digit (run_passes is_word_byte bs) (run_stops is_word_byte (b ∷ bs)) (number_sound (b ∷ take_while is_word_byte bs)) in
    let whole = ap (λ r. r ++ drop (prefix_len is_word_byte (b ∷ bs)) (b ∷ bs)) (sym starts) ∙ run_joins is_word_byte (b ∷ bs) in
    let P : List ℕ → Type 0 = λ xs. Finds xs (head_of_number (length (b ∷ take_while is_word_byte bs)) (number_of (b ∷ take_while is_word_byte bs))) in
    let Q : List ℕ → Type 0 = λ r. Finds (b ∷ bs) (head_of_number (length r) (number_of r)) in
    subst Q (sym starts) (subst P whole found)

-- two bytes of which a comment's mark is made
mark_is : (b c : ℕ) (bs : List ℕ) → (eqb b 47 && begins_with c bs) ≡ true → b ∷ bs ≡ 47 ∷ c ∷ drop 1 bs
mark_is b c bs e = let both = and_parts (eqb b 47) (begins_with c bs) e in let first = eqb-true b 47 both.0 in let second = begins_is c bs both.1 in cc

mark_found : (b : ℕ) (bs : List ℕ) → is_space b ≡ false → is_word_byte b ≡ false → eqb b 34 ≡ false → eqb b 35 ≡ false → Finds (b ∷ bs) (mark_head b bs)
mark_found b bs s w q h = chosen (b ∷ bs) (eqb b 47 && begins_with 47 bs) _ _
    (λ t. let is = mark_is b 47 bs t in
    let rest : bs ≡ 47 ∷ drop 1 bs = ap (drop 1) is in
    let P : List ℕ → Type 0 = λ xs. First xs (head part.Comment (length (take_while (has class.Line) (drop 1 xs)) + 1)) in
    subst P (sym is) (line_sound (drop 1 bs)))
    (λ f. chosen (b ∷ bs) (eqb b 47 && begins_with 42 bs) _ _
    (λ t. let is = mark_is b 42 bs t in
    let P : List ℕ → Type 0 = λ xs. Finds xs (block_head (close_at (drop 2 xs))) in
    subst P (sym is) (block_sound (drop 1 bs)))
    (λ g. sign_sound b bs s w q h f g))

pub sound : (b : ℕ) (bs : List ℕ) → Finds (b ∷ bs) (head_of (b ∷ bs))
unfolding head_of head_at
sound b bs = chosen (b ∷ bs) (is_space b) _ _
    (λ t. record { piece = Space b; rest = bs; is = refl; stands = t; head = refl })
    (λ s. chosen (b ∷ bs) (begins_word b) _ _ (λ t. word_sound b bs t)
    (λ w. chosen (b ∷ bs) (is_digit b) _ _ (λ t. number_at b bs t)
    (λ d. chosen (b ∷ bs) (eqb b 34) _ _ (λ t. let is = eqb-true b 34 t in subst (λ b. Finds (b ∷ bs) (text_head bs)) (sym is) (text_sound bs))
    (λ q. chosen (b ∷ bs) (eqb b 35) _ _ (λ t. let is = eqb-true b 35 t in subst (λ b. Finds (b ∷ bs) (directive_head bs)) (sym is) (directive_sound bs))
    (λ h. mark_found b bs s (or_from (begins_word b) (is_digit b) w d) q h)))))

-- ---- what stands there is what the code finds

word_complete : (bs rest : List ℕ) → IsWord bs → StopsBefore is_word_byte rest → head_of (bs ++ rest) ≡ Ok (head (part.Token kind.Word) (length bs))
unfolding head_of head_at
word_complete [] rest is stops = absurd is
word_complete (b ∷ bs) rest is stops =
    let goes = word_begins b is.0 in
    let front = run_front is_word_byte (b ∷ bs) rest (and_from (is_word_byte b) (list_all is_word_byte bs) goes is.1) stops in
    cond-false (is_space b) _ _ (word_is_no_space b goes) ∙ cond-true (begins_word b) _ _ is.0 ∙ ap (λ r. Ok (head (part.Token kind.Word) (length r))) front

-- what begins with a digit is a number or none by its word bytes
digits_at : (b : ℕ) (bs rest : List ℕ) → is_digit b ≡ true → list_all is_word_byte (b ∷ bs) ≡ true → StopsBefore is_word_byte rest → head_of ((b ∷ bs) ++ rest) ≡ head_of_number (length (b ∷ bs)) (number_of (b ∷ bs))
unfolding head_of head_at
digits_at b bs rest digit all stops =
    let front = run_front is_word_byte (b ∷ bs) rest all stops in
    cond-false (is_space b) _ _ (word_is_no_space b (digit_goes_on b digit)) ∙ cond-false (begins_word b) _ _ (digit_begins_no_word b digit) ∙ cond-true (is_digit b) _ _ digit
    ∙ ap (λ r. head_of_number (length r) (number_of r)) front

numeral_at : (bs rest : List ℕ) (b : Base) (ds : List ℕ) (s : Suffix) → IsNumeral bs b ds s → StopsBefore is_word_byte rest → head_of (bs ++ rest) ≡ head_of_number (length bs) (number_of bs)
numeral_at bs rest b ds s is stops =
    let begins = numeral_begins bs b ds s is in
    let P : List ℕ → Type 0 = λ bs. head_of (bs ++ rest) ≡ head_of_number (length bs) (number_of bs) in
    let all = subst (λ bs. list_all is_word_byte bs ≡ true) begins.2 (numeral_is_word bs b ds s is) in
    subst P (sym begins.2) (digits_at begins.0 begins.1 rest begins.3 all stops)

number_complete_at : (bs rest : List ℕ) → IsNumber bs → StopsBefore is_word_byte rest → head_of (bs ++ rest) ≡ Ok (head (part.Token kind.Number) (length bs))
number_complete_at bs rest is stops = numeral_at bs rest is.1.base is.1.digits is.1.suffix is.1.numeral stops ∙ ap (head_of_number (length bs)) (number_complete bs is.0 is.1)

text_complete_at : (bs rest : List ℕ) → IsText bs → head_of (bs ++ rest) ≡ Ok (head (part.Token kind.Text) (length bs))
unfolding head_of head_at
text_complete_at bs rest is =
    let P : List ℕ → Type 0 = λ bs. head_of (bs ++ rest) ≡ Ok (head (part.Token kind.Text) (length bs)) in
    let n : length (written is.parts) + 2 ≡ suc (length (written is.parts ++ 34 ∷ [])) = omega (arith, length-append (written is.parts) (34 ∷ [])) in
    subst P (sym is.is) (ap text_head (append_assoc (written is.parts) (34 ∷ []) rest) ∙ text_complete is.parts rest is.stand is.clean ∙ ap (λ n. Ok (head (part.Token kind.Text) n)) n)

-- a sign's first byte begins no other piece
sign_complete_at : (bs rest : List ℕ) → IsSign bs → IsLongestSign bs rest → head_of (bs ++ rest) ≡ Ok (head (part.Token kind.Sign) (length bs))
unfolding head_of head_at
sign_complete_at [] rest is longest = absurd (omega (arith, sign_has_bytes [] is))
sign_complete_at (b ∷ cs) rest is longest =
    let first = sign_first b cs is in
    cond-false (is_space b) _ _ first.0 ∙ cond-false (begins_word b) _ _ first.1.0 ∙ cond-false (is_digit b) _ _ first.1.1.0 ∙ cond-false (eqb b 34) _ _ first.1.1.1.0 ∙ cond-false (eqb b 35) _ _ first.1.1.1.1
    ∙ sign_complete b cs rest is longest

token_complete : (k : TokenKind) (bs rest : List ℕ) → IsOfKind k bs → IsLongest k bs rest → head_of (bs ++ rest) ≡ Ok (head (part.Token k) (length bs))
token_complete kind.Word bs rest is longest = word_complete bs rest is longest
token_complete kind.Number bs rest is longest = number_complete_at bs rest is longest
token_complete kind.Text bs rest is longest = text_complete_at bs rest is
token_complete kind.Sign bs rest is longest = sign_complete_at bs rest is longest

directive_complete_at : (bs rest : List ℕ) → IsDirective bs → StopsBefore is_line_byte rest → head_of (bs ++ rest) ≡ Ok (head part.Directive (length bs))
unfolding head_of head_at
directive_complete_at bs rest is stops =
    let line = is.before ++ (codes "include" ++ (is.between ++ (is.header ++ (is.after ++ is.note)))) in
    let P : List ℕ → Type 0 = λ bs. head_of (bs ++ rest) ≡ Ok (head part.Directive (length bs)) in
    let n : length line + 1 ≡ suc (length line) = omega arith in
    subst P (sym is.is) (directive_complete line rest (subst IsDirective is.is is) stops ∙ ap (λ n. Ok (head part.Directive n)) n)

line_complete_at : (bs rest : List ℕ) → IsLineComment bs → StopsBefore is_line_byte rest → head_of (bs ++ rest) ≡ Ok (head part.Comment (length bs))
unfolding head_of head_at
line_complete_at bs rest is stops =
    let P : List ℕ → Type 0 = λ bs. head_of (bs ++ rest) ≡ Ok (head part.Comment (length bs)) in
    let n : length is.inside + 2 ≡ suc (suc (length is.inside)) = omega arith in
    subst P (sym is.is) (line_complete is.inside rest is.on_line stops ∙ ap (λ n. Ok (head part.Comment n)) n)

block_complete_at : (bs rest : List ℕ) → IsBlockComment bs → head_of (bs ++ rest) ≡ Ok (head part.Comment (length bs))
unfolding head_of head_at
block_complete_at bs rest is =
    let P : List ℕ → Type 0 = λ bs. head_of (bs ++ rest) ≡ Ok (head part.Comment (length bs)) in
    let n : length is.inside + 4 ≡ suc (suc (length (is.inside ++ codes "*/"))) = omega (arith, length-append is.inside (codes "*/")) in
    subst P (sym is.is) (ap (λ r. mark_head 47 (42 ∷ r)) (append_assoc is.inside (codes "*/") rest) ∙ block_complete is.inside rest is.first ∙ ap (λ n. Ok (head part.Comment n)) n)

pub complete : (p : Piece) (rest : List ℕ) → StandsBefore p rest → head_of (bytes_of p ++ rest) ≡ Ok (head_from p)
unfolding head_of head_at
complete (Space b) rest stands = cond-true (is_space b) _ _ stands
complete (Comment bs) rest (inl line) = line_complete_at bs rest line.0 line.1
complete (Comment bs) rest (inr block) = block_complete_at bs rest block
complete (Directive bs) rest stands = directive_complete_at bs rest stands.0 stands.1
complete (Kept l) rest stands = token_complete l.kind l.bytes rest stands.0 stands.1

-- ---- a breach that stands there is the code's flaw

-- the code finds this same breach, after these same bytes
pub record Flawed (rest : List ℕ) (b : LexBreach) (before : List ℕ) : Type 0 where
  pub flaw : Flaw
  pub head : head_of rest ≡ Err flaw
  pub same : b ≡ flaw.breach
  pub taken : before ≡ take flaw.before rest

flawed_here : (rest before : List ℕ) (b k : LexBreach) → head_of rest ≡ Err (flaw k 0) → b ≡ k → before ≡ [] → Flawed rest b before
flawed_here rest before b k head same none = record { flaw = flaw k 0; head = head; same = same; taken = none }

nothing_at : (b : ℕ) (bs : List ℕ) → BeginsNothing (b ∷ bs) → head_of (b ∷ bs) ≡ Err (flaw breach.BadByte 0)
unfolding head_of head_at
nothing_at b bs is =
    let same : b ≡ is.byte = cc in
    let at : (f : ℕ → Bool) → f b ≡ f is.byte = λ f. ap f same in
    let parts = or_parts (begins_word b) (is_digit b) (at is_word_byte ∙ is.no_word) in
    cond-false (is_space b) _ _ (at is_space ∙ is.no_space) ∙ cond-false (begins_word b) _ _ parts.0 ∙ cond-false (is_digit b) _ _ parts.1
    ∙ cond-false (eqb b 34) _ _ (at (λ b. eqb b 34) ∙ ne_eqb is.byte 34 is.no_text) ∙ cond-false (eqb b 35) _ _ (at (λ b. eqb b 35) ∙ ne_eqb is.byte 35 is.no_directive)
    ∙ nothing_complete b bs is

written_append : (ps qs : List Part) → written (ps ++ qs) ≡ written ps ++ written qs
written_append [] qs = refl
written_append (p ∷ ps) qs = ap (λ r. written_part p ++ r) (written_append ps qs) ∙ sym (append_assoc (written_part p) (written ps) (written qs))

stray_at : (parts later : List Part) (after before : List ℕ) (b : LexBreach) → AreParts (parts ++ Stray ∷ later) (34 ∷ after) → HasNoStray parts
    → b ≡ breach.BadByte → before ≡ 34 ∷ written parts → Flawed (34 ∷ (written (parts ++ Stray ∷ later) ++ 34 ∷ after)) b before
unfolding head_of head_at
stray_at parts later after before b are clean same prefix =
    let tail = written (Stray ∷ later) ++ 34 ∷ after in
    let rest = 34 ∷ (written (parts ++ Stray ∷ later) ++ 34 ∷ after) in
    let whole : rest ≡ (34 ∷ written parts) ++ tail = ap (λ r. 34 ∷ (r ++ 34 ∷ after)) (written_append parts (Stray ∷ later)) ∙ ap (λ r. 34 ∷ r) (append_assoc (written parts) (written (Stray ∷ later)) (34 ∷ after)) in
    let n : length (written parts) + 1 ≡ length (34 ∷ written parts) = omega arith in
    let taken : take (length (written parts) + 1) rest ≡ 34 ∷ written parts = ap (take (length (written parts) + 1)) whole ∙ take_at (34 ∷ written parts) tail (length (written parts) + 1) (sym n) in
    record {
      flaw = flaw breach.BadByte (length (written parts) + 1);
      head = stray_complete parts later after are clean;
      same = same;
      taken = prefix ∙ sym taken;
    }

text_flawed : (parts : List Part) (after before : List ℕ) (b : LexBreach) → AreParts parts after → EndsLine after → b ≡ breach.TextNotClosed → before ≡ [] → Flawed (34 ∷ (written parts ++ after)) b before
unfolding head_of head_at
text_flawed parts after before b are ends same none = flawed_here (34 ∷ (written parts ++ after)) before b breach.TextNotClosed (open_complete parts after are ends) same none

comment_flawed : (after before : List ℕ) (b : LexBreach) → HasNoEnd after → b ≡ breach.CommentNotClosed → before ≡ [] → Flawed (codes "/*" ++ after) b before
unfolding head_of head_at
comment_flawed after before b no_end same none = flawed_here (codes "/*" ++ after) before b breach.CommentNotClosed (block_open after no_end) same none

directive_flawed : (line after before : List ℕ) (b : LexBreach) → list_all is_line_byte line ≡ true → StopsBefore is_line_byte after → (IsDirective (35 ∷ line) → ⊥) → b ≡ breach.Directive → before ≡ []
    → Flawed (35 ∷ (line ++ after)) b before
unfolding head_of head_at
directive_flawed line after before b on stops bad same none = flawed_here (35 ∷ (line ++ after)) before b breach.Directive (directive_bad line after on stops bad) same none

number_flawed : (bs after before : List ℕ) (b : LexBreach) → IsBadNumber bs → StopsBefore is_word_byte after → b ≡ breach.BadNumber → before ≡ [] → Flawed (bs ++ after) b before
number_flawed [] after before b is stops same none = absurd is
number_flawed (x ∷ bs) after before b is stops same none =
    let all = and_from (is_word_byte x) (list_all is_word_byte bs) (digit_goes_on x is.0) is.1.0 in
    flawed_here ((x ∷ bs) ++ after) before b breach.BadNumber (digits_at x bs after is.0 all stops ∙ ap (head_of_number (length (x ∷ bs))) (bad_complete (x ∷ bs) is.1.1)) same none

begins_flawed : (rest before : List ℕ) (b : LexBreach) → BeginsNothing rest → b ≡ breach.BadByte → before ≡ [] → Flawed rest b before
begins_flawed [] before b is same none = absurd (let P : ⊥ = cc (is.is) in P)
begins_flawed (x ∷ bs) before b is same none = flawed_here (x ∷ bs) before b breach.BadByte (nothing_at x bs is) same none

pub flawed : (rest : List ℕ) (b : LexBreach) (before : List ℕ) → IsBreach rest b before → Flawed rest b before
flawed rest b before (bad_byte is same none) = begins_flawed rest before b is same none
flawed rest b before (bad_escape parts later after are clean is same none) = subst (λ r. Flawed r b before) (sym is) (stray_at parts later after before b are clean same none)
flawed rest b before (text_not_closed parts after are ends is same none) = subst (λ r. Flawed r b before) (sym is) (text_flawed parts after before b are ends same none)
flawed rest b before (number_too_wide bs after wide stops is same none) = subst (λ r. Flawed r b before) (sym is)
    (flawed_here (bs ++ after) before b breach.NumberTooWide (numeral_at bs after wide.base wide.digits wide.suffix wide.numeral stops ∙ ap (head_of_number (length bs)) (wide_complete bs wide)) same none)
flawed rest b before (bad_number bs after bad stops is same none) = subst (λ r. Flawed r b before) (sym is) (number_flawed bs after before b bad stops same none)
flawed rest b before (comment_not_closed after no_end is same none) = subst (λ r. Flawed r b before) (sym is) (comment_flawed after before b no_end same none)
flawed rest b before (directive line after on stops bad is same none) = subst (λ r. Flawed r b before) (sym is) (directive_flawed line after before b on stops bad same none)
