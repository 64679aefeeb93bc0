-- What the code finds where a text begins.
use Rattle.std.proofs.Common.{◌≡◌, ℕ, ◌+◌, Bool, true, false, cond, eqb, List, [], ◌∷◌, ◌++◌, length, take, drop, Ok, Err, Result, ◌⊎◌, inl, inr, ⊎_elim, refl, sym, ap, ◌∙◌, subst, arith, append_assoc, length-append, add-one}
use Rattle.std.proofs.lemmas.Bool.{eqb-true, ne_eqb, eq-eqb, cond-true, cond-false}
use Rattle.std.proofs.lemmas.Bool.Decides.{nat_tests}
use Rattle.std.proofs.lemmas.List.{take_at, drop_at}
use Rattle.ooo_lexer.specs.declared.breach.LexBreach.TheVariants as breach
use Rattle.ooo_lexer.specs.declared.flaw.Flaw.{Flaw}
use Rattle.ooo_lexer.specs.declared.heads.Head.{Head}
use Rattle.ooo_lexer.specs.declared.heads.PieceKind.TheVariants as piece
use Rattle.ooo_lexer.specs.declared.token.TokenKind.TheVariants as kind
use Rattle.ooo_lexer.specs.Bytes.{is_text_byte, is_escape, ends_line}
use Rattle.ooo_lexer.specs.Breaches.{text_not_closed, bad_escape}
use Rattle.ooo_lexer.specs.Heads.{flaw, head, parts_length, text_head}
use Rattle.ooo_lexer.specs.Pieces.{Kept}
use Rattle.ooo_lexer.specs.Runs.{begins_with}
use Rattle.ooo_lexer.specs.Texts.{Part, Byte, Escape, Stray, written, HasNoStray, MayStand, AreParts, EndsLine}
use Rattle.ooo_lexer.proofs.Finds.{Finds, First, IsFlaw, by_test}
use Rattle.ooo_lexer.proofs.Parts.{other_size, parts_stop, parts_taken, clean_stand, clean_taken, stray_stops, written_append, written_apart, front_stands, back_stands}

-- ---- what is found is what stands there

-- a text's head, by how many bytes its parts take
abbrev head_by : ℕ → ℕ → List ℕ → Result Head Flaw
head_by n m after = cond (begins_with 34 after) (cond (eqb m n) (Ok (head (piece.Token kind.Text) (n + 2))) (Err (flaw breach.BadByte (m + 1)))) (Err (flaw breach.TextNotClosed 0))

text_head_by : (front after : List ℕ) (n m : ℕ) → parts_length true (front ++ after) ≡ n → parts_length false (front ++ after) ≡ m → n ≡ length front → text_head (front ++ after) ≡ head_by n m after
text_head_by front after n m all clean whole =
    ap (λ n. head_by n (parts_length false (front ++ after)) (drop n (front ++ after))) all
    ∙ ap (λ m. head_by n m (drop n (front ++ after))) clean
    ∙ ap (head_by n m) (drop_at front after n (sym whole))

-- no part begins with a double quote
quote_stops : (s : Bool) (rest : List ℕ) → parts_length s (34 ∷ rest) ≡ 0
quote_stops s rest = parts_stop s (34 ∷ rest) refl

line_end_is_no_part : (b : ℕ) → ends_line b ≡ true → (eqb b 92 ≡ false) × ((is_text_byte b ≡ false) × (eqb b 34 ≡ false))
line_end_is_no_part b h = (grind (arith, nat_tests), (grind (arith, nat_tests), grind (arith, nat_tests)))

line_end_stops : (s : Bool) (after : List ℕ) → EndsLine after → parts_length s after ≡ 0
line_end_stops s [] ends = refl
line_end_stops s (b ∷ bs) ends = let no = line_end_is_no_part b ends in parts_stop s (b ∷ bs) (other_size s b bs no.0 no.1.0)

line_end_is_no_quote : (after : List ℕ) → EndsLine after → begins_with 34 after ≡ false
line_end_is_no_quote [] ends = refl
line_end_is_no_quote (b ∷ bs) ends = (line_end_is_no_part b ends).1.1

pub text_complete : (parts : List Part) (rest : List ℕ) → AreParts parts (34 ∷ []) → HasNoStray parts → text_head (written parts ++ 34 ∷ rest) ≡ Ok (head (piece.Token kind.Text) (length (written parts) + 2))
text_complete parts rest stand clean =
    let n = length (written parts) in
    let taken : (s : Bool) → parts_length s (written parts ++ 34 ∷ rest) ≡ length (written parts) = λ s. omega (arith, clean_taken s parts (34 ∷ []) (34 ∷ rest) stand clean, quote_stops s rest) in
    text_head_by (written parts) (34 ∷ rest) n n (taken true) (taken false) refl ∙ cond-true (eqb n n) _ _ (eq-eqb n n refl)

pub open_complete : (parts : List Part) (after : List ℕ) → AreParts parts after → EndsLine after → text_head (written parts ++ after) ≡ Err (flaw breach.TextNotClosed 0)
open_complete parts after stand ends =
    let n = length (written parts) in
    let taken : parts_length true (written parts ++ after) ≡ length (written parts) = omega (arith, parts_taken parts after stand, line_end_stops true after ends) in
    text_head_by (written parts) after n (parts_length false (written parts ++ after)) taken refl refl ∙ cond-false (begins_with 34 after) _ _ (line_end_is_no_quote after ends)

pub stray_complete : (parts later : List Part) (after : List ℕ) → AreParts (parts ++ Stray ∷ later) (34 ∷ after) → HasNoStray parts → text_head (written (parts ++ Stray ∷ later) ++ 34 ∷ after) ≡ Err (flaw breach.BadByte (length (written parts) + 1))
stray_complete parts later after stand clean =
    let all = parts ++ Stray ∷ later in
    let rest = written (Stray ∷ later) ++ 34 ∷ after in
    let n = length (written all) in
    let m = length (written parts) in
    let taken : parts_length true (written all ++ 34 ∷ after) ≡ n = omega (arith, parts_taken all (34 ∷ after) stand, quote_stops true after) in
    let e : written all ++ 34 ∷ after ≡ written parts ++ rest = written_apart parts (Stray ∷ later) (34 ∷ after) in
    let passed : parts_length false (written parts ++ rest) ≡ m = omega (arith, clean_taken false parts rest rest (front_stands parts (Stray ∷ later) (34 ∷ after) stand) clean, stray_stops (written later ++ 34 ∷ after) (back_stands parts (Stray ∷ later) (34 ∷ after) stand).0) in
    let l : n ≡ m + (1 + length (written later)) = ap length (written_append parts (Stray ∷ later)) ∙ omega (arith, length-append (written parts) (written (Stray ∷ later))) in
    let differ : eqb m n ≡ false = ne_eqb m n (λ i. omega arith) in
    text_head_by (written all) (34 ∷ after) n m taken (ap (parts_length false) e ∙ passed) refl ∙ cond-false (eqb m n) _ _ differ

-- ---- what the code finds

-- what ends a text's parts: its quote, or the line's end
abbrev EndsParts : List ℕ → Type 0
EndsParts [] = Unit {0}
EndsParts (b ∷ bs) = (b ≡ 34) ⊎ (ends_line b ≡ true)

-- the parts at the front of a list of bytes, and what follows them
record Read (bs : List ℕ) : Type 0 where
  parts : List Part
  after : List ℕ
  is : bs ≡ written parts ++ after
  stand : AreParts parts after
  ends : EndsParts after

no_part_ends : (b : ℕ) → eqb b 92 ≡ false → is_text_byte b ≡ false → (b ≡ 34) ⊎ (ends_line b ≡ true)
no_part_ends b t u = grind (arith, nat_tests)

read_none : (b : ℕ) (bs : List ℕ) → eqb b 92 ≡ false → is_text_byte b ≡ false → Read (b ∷ bs)
read_none b bs t u = record { parts = []; after = b ∷ bs; is = refl; stand = tt; ends = no_part_ends b t u }

read_byte : (b : ℕ) (bs : List ℕ) → is_text_byte b ≡ true → Read bs → Read (b ∷ bs)
read_byte b bs t r = record { parts = Byte b ∷ r.parts; after = r.after; is = ap (λ bs. b ∷ bs) r.is; stand = (t, r.stand); ends = r.ends }

read_escape : (b c : ℕ) (bs : List ℕ) → eqb b 92 ≡ true → is_escape c ≡ true → Read bs → Read (b ∷ c ∷ bs)
read_escape b c bs t u r =
    let i = eqb-true b 92 t in let j = r.is in
    record { parts = Escape c ∷ r.parts; after = r.after; is = cc; stand = (u, r.stand); ends = r.ends }

read_stray : (b : ℕ) (bs : List ℕ) → eqb b 92 ≡ true → MayStand Stray bs → Read bs → Read (b ∷ bs)
read_stray b bs t u r =
    let i = eqb-true b 92 t in let j = r.is in
    record { parts = Stray ∷ r.parts; after = r.after; is = cc; stand = (subst (MayStand Stray) r.is u, r.stand); ends = r.ends }

read_end : Read []
read_end = record { parts = []; after = []; is = refl; stand = tt; ends = tt }

read : (bs : List ℕ) → Read bs
read [] = read_end
read (b ∷ []) = by_test (eqb b 92) (λ t. read_stray b [] t tt read_end) (λ t. by_test (is_text_byte b) (λ u. read_byte b [] u read_end) (λ u. read_none b [] t u))
read (b ∷ c ∷ bs) = by_test (eqb b 92)
    (λ t. by_test (is_escape c) (λ u. read_escape b c bs t u (read bs)) (λ u. read_stray b (c ∷ bs) t u (read (c ∷ bs))))
    (λ t. by_test (is_text_byte b) (λ u. read_byte b (c ∷ bs) u (read (c ∷ bs))) (λ u. read_none b (c ∷ bs) t u))

-- the first stray backslash among parts
record HasStray (parts : List Part) : Type 0 where
  front : List Part
  later : List Part
  is : parts ≡ front ++ Stray ∷ later
  clean : HasNoStray front

first_stray : (parts : List Part) → HasNoStray parts ⊎ HasStray parts
first_stray [] = inl refl
first_stray (Stray ∷ ps) = inr (record { front = []; later = ps; is = refl; clean = refl })
first_stray (Byte b ∷ ps) = ⊎_elim inl (λ s. inr (record { front = Byte b ∷ s.front; later = s.later; is = ap (λ ps. Byte b ∷ ps) s.is; clean = s.clean })) (first_stray ps)
first_stray (Escape b ∷ ps) = ⊎_elim inl (λ s. inr (record { front = Escape b ∷ s.front; later = s.later; is = ap (λ ps. Escape b ∷ ps) s.is; clean = s.clean })) (first_stray ps)

found_closed : (parts : List Part) (rest : List ℕ) → AreParts parts (34 ∷ rest) → HasNoStray parts → First (34 ∷ (written parts ++ 34 ∷ rest)) (head (piece.Token kind.Text) (length (written parts) + 2))
found_closed parts rest stand clean = record {
  piece = Kept (record { kind = kind.Text; bytes = 34 ∷ (written parts ++ 34 ∷ []) });
  rest = rest;
  is = ap (λ bs. 34 ∷ bs) (sym (append_assoc (written parts) (34 ∷ []) rest));
  stands = (record { parts = parts; stand = clean_stand parts (34 ∷ rest) (34 ∷ []) stand clean; clean = clean; is = refl }, tt);
  head = ap (head (piece.Token kind.Text)) (omega (arith, length-append (written parts) (34 ∷ [])));
}

found_open : (parts : List Part) (after : List ℕ) → AreParts parts after → EndsLine after → IsFlaw (34 ∷ (written parts ++ after)) (flaw breach.TextNotClosed 0)
found_open parts after stand ends = record {
  breach = text_not_closed parts after stand ends refl refl refl;
  within = omega arith;
}

found_stray : (parts later : List Part) (after : List ℕ) → AreParts (parts ++ Stray ∷ later) (34 ∷ after) → HasNoStray parts → IsFlaw (34 ∷ (written (parts ++ Stray ∷ later) ++ 34 ∷ after)) (flaw breach.BadByte (length (written parts) + 1))
found_stray parts later after stand clean =
    let bs = written (parts ++ Stray ∷ later) ++ 34 ∷ after in
    let rest = written (Stray ∷ later) ++ 34 ∷ after in
    let n = length (written parts) in
    let e : bs ≡ written parts ++ rest = written_apart parts (Stray ∷ later) (34 ∷ after) in
    let front : take (n + 1) (34 ∷ bs) ≡ 34 ∷ written parts = rw add-one (ap (λ r. 34 ∷ r) (ap (take n) e ∙ take_at (written parts) rest n refl)) in
    record {
      breach = bad_escape parts later after stand clean refl refl front;
      within = omega (arith, ap length e, length-append (written parts) rest);
    }

-- a text, or a breach, by its parts
found_line_end : (parts : List Part) (after : List ℕ) → AreParts parts after → EndsLine after → Finds (34 ∷ (written parts ++ after)) (text_head (written parts ++ after))
found_line_end parts after stand ends = subst (Finds (34 ∷ (written parts ++ after))) (sym (open_complete parts after stand ends)) (found_open parts after stand ends)

found_quote : (parts : List Part) (rest : List ℕ) → AreParts parts (34 ∷ rest) → Finds (34 ∷ (written parts ++ 34 ∷ rest)) (text_head (written parts ++ 34 ∷ rest))
found_quote parts rest stand = ⊎_elim
    (λ clean. subst (Finds (34 ∷ (written parts ++ 34 ∷ rest))) (sym (text_complete parts rest (clean_stand parts (34 ∷ rest) (34 ∷ []) stand clean) clean)) (found_closed parts rest stand clean))
    (λ s. let there = subst (λ ps. AreParts ps (34 ∷ rest)) s.is stand in
    subst (λ ps. Finds (34 ∷ (written ps ++ 34 ∷ rest)) (text_head (written ps ++ 34 ∷ rest))) (sym s.is)
    (subst (Finds (34 ∷ (written (s.front ++ Stray ∷ s.later) ++ 34 ∷ rest))) (sym (stray_complete s.front s.later rest there s.clean)) (found_stray s.front s.later rest there s.clean)))
    (first_stray parts)

found : (parts : List Part) (after : List ℕ) → AreParts parts after → EndsParts after → Finds (34 ∷ (written parts ++ after)) (text_head (written parts ++ after))
found parts [] stand ends = found_line_end parts [] stand tt
found parts (b ∷ bs) stand (inl quote) =
    subst (λ b. Finds (34 ∷ (written parts ++ b ∷ bs)) (text_head (written parts ++ b ∷ bs))) (sym quote) (found_quote parts bs (subst (λ b. AreParts parts (b ∷ bs)) quote stand))
found parts (b ∷ bs) stand (inr ends) = found_line_end parts (b ∷ bs) stand ends

pub text_sound : (bs : List ℕ) → Finds (34 ∷ bs) (text_head bs)
text_sound bs = let r = read bs in subst (λ bs. Finds (34 ∷ bs) (text_head bs)) (sym r.is) (found r.parts r.after r.stand r.ends)
