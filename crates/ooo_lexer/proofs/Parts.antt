-- How many bytes of a text the code takes for its parts.
use Rattle.std.proofs.Common.{◌≡◌, ℕ, ◌+◌, ◌≤◌, Bool, true, false, cond, not, eqb, List, [], ◌∷◌, ◌++◌, length, drop, ◌⊎◌, inl, inr, ⊎_elim, refl, sym, ap, ◌∙◌, subst, arith, append_assoc, length-append, length-drop}
use Rattle.std.specs.List.{list_all}
use Rattle.std.proofs.lemmas.Bool.{and_parts, not-true, false≢true, cond-true, cond-false}
use Rattle.std.proofs.lemmas.Bool.Decides.{nat_tests}
use Rattle.std.proofs.lemmas.List.{drop_at}
use Rattle.ooo_lexer.specs.Bytes.{is_text_byte}
use Rattle.ooo_lexer.specs.Heads.{begins_escape, part_length, first_part, parts_length}
use Rattle.ooo_lexer.specs.Texts.{Part, Byte, Escape, Stray, written_part, written, is_stray, HasNoStray, MayStand, AreParts}
use Rattle.ooo_lexer.proofs.Finds.{by_test}

-- ---- one part

pub text_byte_is_no_backslash : (b : ℕ) → is_text_byte b ≡ true → eqb b 92 ≡ false
text_byte_is_no_backslash b h = grind (arith, nat_tests)

escape_size : (s : Bool) (b : ℕ) (bs : List ℕ) → eqb b 92 ≡ true → begins_escape bs ≡ true → part_length s b bs ≡ 2
escape_size s b bs t u = cond-true (eqb b 92) _ _ t ∙ cond-true (begins_escape bs) _ _ u

stray_size : (s : Bool) (b : ℕ) (bs : List ℕ) → eqb b 92 ≡ true → begins_escape bs ≡ false → part_length s b bs ≡ cond s 1 0
stray_size s b bs t u = cond-true (eqb b 92) _ _ t ∙ cond-false (begins_escape bs) _ _ u

byte_size : (s : Bool) (b : ℕ) (bs : List ℕ) → is_text_byte b ≡ true → part_length s b bs ≡ 1
byte_size s b bs t = cond-false (eqb b 92) _ _ (text_byte_is_no_backslash b t) ∙ cond-true (is_text_byte b) _ _ t

pub other_size : (s : Bool) (b : ℕ) (bs : List ℕ) → eqb b 92 ≡ false → is_text_byte b ≡ false → part_length s b bs ≡ 0
other_size s b bs t u = cond-false (eqb b 92) _ _ t ∙ cond-false (is_text_byte b) _ _ u

abbrev IsOneOrNone : ℕ → Type 0
IsOneOrNone n = (n ≡ 0) ⊎ (n ≡ 1)

one_or_none : (s : Bool) → IsOneOrNone (cond s 1 0)
one_or_none true = inr refl
one_or_none false = inl refl

-- a part takes two bytes where an escape begins, and otherwise one or none
part_sizes : (s : Bool) (b : ℕ) (bs : List ℕ) → IsOneOrNone (part_length s b bs) ⊎ ((part_length s b bs ≡ 2) × (begins_escape bs ≡ true))
part_sizes s b bs = by_test (eqb b 92)
    (λ t. by_test (begins_escape bs)
    (λ u. inr (escape_size s b bs t u, u))
    (λ u. inl (subst IsOneOrNone (sym (stray_size s b bs t u)) (one_or_none s))))
    (λ t. by_test (is_text_byte b) (λ u. inl (inr (byte_size s b bs u))) (λ u. inl (inl (other_size s b bs t u))))

-- no part is taken where none is first
pub parts_stop : (s : Bool) (bs : List ℕ) → first_part s bs ≡ 0 → parts_length s bs ≡ 0
parts_stop s [] e = refl
parts_stop s (b ∷ []) e = e
parts_stop s (b ∷ c ∷ bs) e = rw e refl

no_step : (s : Bool) (bs : List ℕ) (n : ℕ) → n ≡ 0 → parts_length s bs ≡ n + parts_length s (drop n bs)
no_step s bs n e = subst (λ n. parts_length s bs ≡ n + parts_length s (drop n bs)) (sym e) (omega arith)

-- the first part, and then the others
pub parts_step : (s : Bool) (bs : List ℕ) → parts_length s bs ≡ first_part s bs + parts_length s (drop (first_part s bs) bs)
parts_step s [] = refl
parts_step s (b ∷ []) = ⊎_elim (⊎_elim (no_step s (b ∷ []) (part_length s b [])) (λ e. rw e refl)) (λ e. absurd (false≢true e.1)) (part_sizes s b [])
parts_step s (b ∷ c ∷ bs) = ⊎_elim (⊎_elim (no_step s (b ∷ c ∷ bs) (part_length s b (c ∷ bs))) (λ e. rw e refl)) (λ e. rw e.0 refl) (part_sizes s b (c ∷ bs))

-- the parts that were passed are what is missing from the rest, also after one more
pub parts_more : (s : Bool) (whole rest more : List ℕ) (n : ℕ) → length rest + parts_length s whole ≡ length whole + parts_length s rest → n ≡ first_part s rest → n ≤ length rest → more ≡ drop n rest
    → length more + parts_length s whole ≡ length whole + parts_length s more
parts_more s whole rest more n passed here within is =
    let m = parts_step s rest in
    let l = length-drop n rest in
    let k = ap (parts_length s) is in
    let j = ap length is in
    let i = ap (λ n. parts_length s (drop n rest)) here in
    omega arith

-- a part that may stand is the first
part_found : (s : Bool) (p : Part) (xs : List ℕ) → MayStand p xs → (is_stray p ≡ true → s ≡ true) → first_part s (written_part p ++ xs) ≡ length (written_part p)
part_found s (Byte b) xs stands passed = byte_size s b xs stands
part_found s (Escape b) xs stands passed = escape_size s 92 (b ∷ xs) refl stands
part_found s Stray [] stands passed = stray_size s 92 [] refl refl ∙ ap (λ s. cond s 1 0) (passed refl)
part_found s Stray (b ∷ xs) stands passed = stray_size s 92 (b ∷ xs) refl stands ∙ ap (λ s. cond s 1 0) (passed refl)

part_taken : (s : Bool) (p : Part) (xs : List ℕ) → MayStand p xs → (is_stray p ≡ true → s ≡ true) → parts_length s (written_part p ++ xs) ≡ length (written_part p) + parts_length s xs
part_taken s p xs stands passed =
    let n = part_found s p xs stands passed in
    parts_step s (written_part p ++ xs) ∙ ap (λ n. n + parts_length s (drop n (written_part p ++ xs))) n
    ∙ ap (λ xs. length (written_part p) + parts_length s xs) (drop_at (written_part p) xs (length (written_part p)) refl)

-- ---- parts

-- where strays are passed all parts are taken
pub parts_taken : (parts : List Part) (after : List ℕ) → AreParts parts after → parts_length true (written parts ++ after) ≡ length (written parts) + parts_length true after
parts_taken [] after stand = omega arith
parts_taken (p ∷ ps) after stand =
    let here = part_taken true p (written ps ++ after) stand.0 (λ _. refl) in
    let ih = parts_taken ps after stand.1 in
    ap (parts_length true) (append_assoc (written_part p) (written ps) after) ∙ omega (arith, here, ih, length-append (written_part p) (written ps))

-- a part that is no stray backslash may stand anywhere
clean_stands : (p : Part) (xs ys : List ℕ) → is_stray p ≡ false → MayStand p xs → MayStand p ys
clean_stands (Byte b) xs ys clean stands = stands
clean_stands (Escape b) xs ys clean stands = stands
clean_stands Stray xs ys clean stands = absurd (false≢true (sym clean))

pub clean_stand : (parts : List Part) (x y : List ℕ) → AreParts parts x → HasNoStray parts → AreParts parts y
clean_stand [] x y stand clean = tt
clean_stand (p ∷ ps) x y stand clean =
    let parts = and_parts (not (is_stray p)) (list_all (λ p. not (is_stray p)) ps) clean in
    (clean_stands p (written ps ++ x) (written ps ++ y) (not-true (is_stray p) parts.0) stand.0, clean_stand ps x y stand.1 parts.1)

-- parts without a stray backslash are taken, whatever follows
pub clean_taken : (s : Bool) (parts : List Part) (x after : List ℕ) → AreParts parts x → HasNoStray parts → parts_length s (written parts ++ after) ≡ length (written parts) + parts_length s after
clean_taken s [] x after stand clean = omega arith
clean_taken s (p ∷ ps) x after stand clean =
    let parts = and_parts (not (is_stray p)) (list_all (λ p. not (is_stray p)) ps) clean in
    let no = not-true (is_stray p) parts.0 in
    let here = part_taken s p (written ps ++ after) (clean_stands p (written ps ++ x) (written ps ++ after) no stand.0) (λ is. absurd (false≢true (sym no ∙ is))) in
    let ih = clean_taken s ps x after stand.1 parts.1 in
    ap (parts_length s) (append_assoc (written_part p) (written ps) after) ∙ omega (arith, here, ih, length-append (written_part p) (written ps))

-- a stray backslash is none where strays aren't passed
pub stray_stops : (xs : List ℕ) → MayStand Stray xs → parts_length false (92 ∷ xs) ≡ 0
stray_stops [] stands = refl
stray_stops (b ∷ xs) stands = rw stands refl

pub written_append : (ps qs : List Part) → written (ps ++ qs) ≡ written ps ++ written qs
written_append [] qs = refl
written_append (p ∷ ps) qs = ap (λ r. written_part p ++ r) (written_append ps qs) ∙ sym (append_assoc (written_part p) (written ps) (written qs))

pub written_apart : (ps qs : List Part) (after : List ℕ) → written (ps ++ qs) ++ after ≡ written ps ++ (written qs ++ after)
written_apart ps qs after = ap (λ r. r ++ after) (written_append ps qs) ∙ append_assoc (written ps) (written qs) after

-- parts of two lists, one after the other
pub front_stands : (ps qs : List Part) (after : List ℕ) → AreParts (ps ++ qs) after → AreParts ps (written qs ++ after)
front_stands [] qs after stand = tt
front_stands (p ∷ ps) qs after stand = (subst (MayStand p) (written_apart ps qs after) stand.0, front_stands ps qs after stand.1)

pub back_stands : (ps qs : List Part) (after : List ℕ) → AreParts (ps ++ qs) after → AreParts qs after
back_stands [] qs after stand = stand
back_stands (p ∷ ps) qs after stand = back_stands ps qs after stand.1
