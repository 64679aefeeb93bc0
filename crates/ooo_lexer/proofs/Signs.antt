-- Signs: what the code finds is the longest that stands first, and it finds each that does.
use Rattle.std.proofs.Common.{◌≡◌, ℕ, ◌<◌, ◌≤◌, Bool, true, false, cond, not, eqb, leb, ◌&&◌, ◌||◌, List, [], ◌∷◌, ◌++◌, length, drop, Ok, Err, Result, ⊎_elim, refl, sym, ap, ◌∙◌, subst, arith, append_assoc, codes, zero, suc}
use Rattle.std.specs.List.{list_all, list_any, starts_with, Contains}
use Rattle.std.specs.Str.{bytes_eq}
use Rattle.std.proofs.lemmas.Bool.{and_parts, and_from, or_cases, eqb-true, eqb-false, ne_eqb, not-true, false≢true, false_from_ne_true, leb-true, cond-false}
use Rattle.std.proofs.lemmas.Bool.Decides.{Decides-eqb}
use Rattle.std.proofs.Math.Bool.{or-true}
use Rattle.std.proofs.lemmas.List.Elements.{All-contains, Contains-append_cases, Contains-append_right}
use Rattle.std.proofs.lemmas.List.Sums.{AllPass-from_list_all}
use Rattle.std.proofs.lemmas.Map.Views.{Contains-from_any}
use Rattle.std.proofs.lemmas.Slice.Eq.{starts_is}
use Rattle.ooo_lexer.specs.declared.breach.LexBreach.TheVariants as breach
use Rattle.ooo_lexer.specs.declared.flaw.Flaw.{Flaw}
use Rattle.ooo_lexer.specs.declared.heads.Head.{Head}
use Rattle.ooo_lexer.specs.declared.heads.PieceKind.TheVariants as piece
use Rattle.ooo_lexer.specs.declared.token.TokenKind.TheVariants as kind
use Rattle.ooo_lexer.specs.Breaches.{BeginsNothing, bad_byte}
use Rattle.ooo_lexer.specs.Bytes.{is_space, is_digit, begins_word, is_word_byte}
use Rattle.ooo_lexer.specs.Forms.{signs, IsSign, comment_marks}
use Rattle.ooo_lexer.specs.Heads.{flaw, head, begins_triple, takes_equals, may_be_doubled, is_pair, begins_pair, stands_alone, is_lone_sign, sign, sign_head, mark_head}
use Rattle.ooo_lexer.specs.Pieces.{Kept, IsLongestSign}
use Rattle.ooo_lexer.specs.Runs.{begins_with}
use Rattle.ooo_lexer.proofs.Finds.{First, Finds, passes_each, same_bytes, begins_is}

-- ---- facts of each sign

pub sign_has_bytes : (bs : List ℕ) → IsSign bs → 0 < length bs
sign_has_bytes bs known = leb-true 1 (length bs) (passes_each (λ s. leb 1 (length s)) signs bs refl known)

-- the first byte is no space, no letter, digit or `_`, no double quote and no `#`
abbrev begins_sign : List ℕ → Bool
begins_sign [] = false
begins_sign (b ∷ bs) = not (is_space b) && (not (begins_word b) && (not (is_digit b) && (not (eqb b 34) && not (eqb b 35))))

pub sign_first : (b : ℕ) (cs : List ℕ) → IsSign (b ∷ cs) → (is_space b ≡ false) × ((begins_word b ≡ false) × ((is_digit b ≡ false) × ((eqb b 34 ≡ false) × (eqb b 35 ≡ false))))
sign_first b cs known =
    let a = and_parts (not (is_space b)) (not (begins_word b) && (not (is_digit b) && (not (eqb b 34) && not (eqb b 35)))) (passes_each begins_sign signs (b ∷ cs) refl known) in
    let c = and_parts (not (begins_word b)) (not (is_digit b) && (not (eqb b 34) && not (eqb b 35))) a.1 in
    let d = and_parts (not (is_digit b)) (not (eqb b 34) && not (eqb b 35)) c.1 in
    let e = and_parts (not (eqb b 34)) (not (eqb b 35)) d.1 in
    (not-true (is_space b) a.0, (not-true (begins_word b) c.0, (not-true (is_digit b) d.0, (not-true (eqb b 34) e.0, not-true (eqb b 35) e.1))))

-- ---- how long the sign is that stands first

abbrev pub sign_length : List ℕ → ℕ
sign_length [] = 0
sign_length (b ∷ bs) = cond (begins_triple (b ∷ bs)) 3 (cond (begins_pair b bs) 2 (cond (is_lone_sign b) 1 0))

abbrev pub sign_of : ℕ → Result Head Flaw
sign_of n = cond (eqb n 0) (Err (flaw breach.BadByte 0)) (sign n)

head_of_length : (b : ℕ) (bs : List ℕ) → sign_head b bs ≡ sign_of (sign_length (b ∷ bs))
head_of_length b bs = at (begins_triple (b ∷ bs)) (begins_pair b bs) (is_lone_sign b)
  where
    at : (t p l : Bool) → cond t (sign 3) (cond p (sign 2) (cond l (sign 1) (Err (flaw breach.BadByte 0)))) ≡ sign_of (cond t 3 (cond p 2 (cond l 1 0)))
    at true p l = refl
    at false true l = refl
    at false false true = refl
    at false false false = refl

starts : (s p : List ℕ) → starts_with eqb s p ≡ true → s ≡ p ++ drop (length p) s
starts s p e = (starts_is Decides-eqb s p _ refl).0 e

starts_append : (s p after : List ℕ) → starts_with eqb s p ≡ true → starts_with eqb (s ++ after) p ≡ true
starts_append s p after e = (starts_is Decides-eqb (s ++ after) p _ refl).1 (drop (length p) s ++ after) (ap (λ s. s ++ after) (starts s p e) ∙ append_assoc p (drop (length p) s) after)

triple_append : (s after : List ℕ) → begins_triple s ≡ true → begins_triple (s ++ after) ≡ true
triple_append s after e = ⊎_elim
    (λ e. ap (λ t. t || starts_with eqb (s ++ after) (codes ">>=")) (starts_append s (codes "<<=") after e))
    (λ e. ap (λ t. starts_with eqb (s ++ after) (codes "<<=") || t) (starts_append s (codes ">>=") after e) ∙ or-true _)
    (or_cases (starts_with eqb s (codes "<<=")) (starts_with eqb s (codes ">>=")) e)

pair_append : (b : ℕ) (bs after : List ℕ) → begins_pair b bs ≡ true → begins_pair b (bs ++ after) ≡ true
pair_append b [] after e = absurd (false≢true e)
pair_append b (c ∷ bs) after e = e

-- the sign gets no shorter by bytes that follow
length_grows : (s after : List ℕ) → sign_length s ≤ sign_length (s ++ after)
length_grows [] after = omega arith
length_grows (b ∷ bs) after = at (begins_triple (b ∷ bs)) (begins_triple (b ∷ (bs ++ after))) (begins_pair b bs) (begins_pair b (bs ++ after)) (is_lone_sign b) (triple_append (b ∷ bs) after) (pair_append b bs after)
  where
    at : (t u p q l : Bool) → (t ≡ true → u ≡ true) → (p ≡ true → q ≡ true) → cond t 3 (cond p 2 (cond l 1 0)) ≤ cond u 3 (cond q 2 (cond l 1 0))
    at true true p q l f g = omega arith
    at true false p q l f g = absurd (false≢true (f refl))
    at false true true q l f g = omega arith
    at false true false q true f g = omega arith
    at false true false q false f g = omega arith
    at false false true true l f g = omega arith
    at false false true false l f g = absurd (false≢true (g refl))
    at false false false true true f g = omega arith
    at false false false true false f g = omega arith
    at false false false false l f g = omega arith

-- a sign that stands first is no longer than the code finds
at_most : (s after : List ℕ) → IsSign s → length s ≤ sign_length (s ++ after)
at_most s after known =
    let e = eqb-true (sign_length s) (length s) (passes_each (λ s. eqb (sign_length s) (length s)) signs s refl known) in
    omega (arith, length_grows s after)

-- ---- what the code finds is a sign

-- where each of these bytes makes a sign, so does one that the test finds among them
makes_sign : (make : ℕ → List ℕ) (bs : List ℕ) → list_all (λ c. list_any (bytes_eq (make c)) signs) bs ≡ true → (b : ℕ) → list_any (eqb b) bs ≡ true → IsSign (make b)
makes_sign make bs all b e =
    let test = λ (c : ℕ). list_any (bytes_eq (make c)) signs in
    Contains-from_any same_bytes (make b) signs (All-contains (λ c. test c ≡ true) bs b (AllPass-from_list_all test bs all) (Contains-from_any eqb-true b bs e))

pair_is_sign : (a b : ℕ) → is_pair a b ≡ true → IsSign (a ∷ b ∷ [])
pair_is_sign a b e = ⊎_elim
    (λ e. let both = and_parts (eqb b 61) (takes_equals a) e in
    subst (λ b. IsSign (a ∷ b ∷ [])) (sym (eqb-true b 61 both.0)) (makes_sign (λ a. a ∷ 61 ∷ []) (codes "<>=!+-*/%&|^") refl a both.1))
    (λ e. let both = and_parts (eqb a b) (may_be_doubled a) e in
    subst (λ b. IsSign (a ∷ b ∷ [])) (eqb-true a b both.0) (makes_sign (λ a. a ∷ a ∷ []) (codes "<>&|+-:") refl a both.1))
    (or_cases (eqb b 61 && takes_equals a) (eqb a b && may_be_doubled a) e)

-- a sign of this length stands first
record Front (xs : List ℕ) (n : ℕ) : Type 0 where
  pub sign : List ℕ
  pub rest : List ℕ
  pub is : xs ≡ sign ++ rest
  pub known : IsSign sign
  pub size : length sign ≡ n

triple_front : (xs : List ℕ) → begins_triple xs ≡ true → Front xs 3
triple_front xs e = ⊎_elim
    (λ e. record { sign = codes "<<="; rest = drop 3 xs; is = starts xs (codes "<<=") e; known = Contains-from_any same_bytes (codes "<<=") signs refl; size = refl })
    (λ e. record { sign = codes ">>="; rest = drop 3 xs; is = starts xs (codes ">>=") e; known = Contains-from_any same_bytes (codes ">>=") signs refl; size = refl })
    (or_cases (starts_with eqb xs (codes "<<=")) (starts_with eqb xs (codes ">>=")) e)

pair_front : (b : ℕ) (bs : List ℕ) → begins_pair b bs ≡ true → Front (b ∷ bs) 2
pair_front b [] e = absurd (false≢true e)
pair_front b (c ∷ bs) e = record { sign = b ∷ c ∷ []; rest = bs; is = refl; known = pair_is_sign b c e; size = refl }

lone_is_sign : (b : ℕ) → is_lone_sign b ≡ true → IsSign (b ∷ [])
lone_is_sign b e = ⊎_elim (λ e. makes_sign (λ b. b ∷ []) (codes "<>=!+-*/%&|^") refl b e) (λ e. makes_sign (λ b. b ∷ []) (codes "~?:;,.(){}[]") refl b e) (or_cases (takes_equals b) (stands_alone b) e)

lone_front : (b : ℕ) (bs : List ℕ) → is_lone_sign b ≡ true → Front (b ∷ bs) 1
lone_front b bs e = record { sign = b ∷ []; rest = bs; is = refl; known = lone_is_sign b e; size = refl }

front_of : (xs : List ℕ) → 0 < sign_length xs → Front xs (sign_length xs)
front_of [] some = absurd (omega arith)
front_of (b ∷ bs) some = at (begins_triple (b ∷ bs)) (begins_pair b bs) (is_lone_sign b) (triple_front (b ∷ bs)) (pair_front b bs) (lone_front b bs) some
  where
    at : (t p l : Bool) → (t ≡ true → Front (b ∷ bs) 3) → (p ≡ true → Front (b ∷ bs) 2) → (l ≡ true → Front (b ∷ bs) 1) → 0 < cond t 3 (cond p 2 (cond l 1 0)) → Front (b ∷ bs) (cond t 3 (cond p 2 (cond l 1 0)))
    at true p l f g h some = f refl
    at false true l f g h some = g refl
    at false false true f g h some = h refl
    at false false false f g h some = absurd (omega arith)

-- ---- no comment begins

-- `/`, and then this byte
comment_is : (x b : ℕ) (bs : List ℕ) → (eqb b 47 && begins_with x bs) ≡ true → b ∷ bs ≡ 47 ∷ x ∷ drop 1 bs
comment_is x b bs e =
    let both = and_parts (eqb b 47) (begins_with x bs) e in
    let i = eqb-true b 47 both.0 in
    let j = begins_is x bs both.1 in
    cc

no_comment : (x b : ℕ) (bs after : List ℕ) → (eqb b 47 && begins_with x bs) ≡ false → b ∷ bs ≡ 47 ∷ x ∷ after → ⊥
no_comment x b bs after none is =
    let i : b ≡ 47 = cc in
    let j : bs ≡ x ∷ after = cc in
    let begins = ap (begins_with x) j ∙ (Decides-eqb x x).1 refl in
    false≢true (sym none ∙ and_from (eqb b 47) (begins_with x bs) (ap (λ b. eqb b 47) i) begins)

mark_is_none : (b : ℕ) (bs mark after : List ℕ) → (eqb b 47 && begins_with 47 bs) ≡ false → (eqb b 47 && begins_with 42 bs) ≡ false → Contains comment_marks mark → b ∷ bs ≡ mark ++ after → ⊥
mark_is_none b bs mark after line block known is = ⊎_elim
    (λ e. no_comment 47 b bs after line (is ∙ ap (λ m. m ++ after) (same_bytes mark (codes "//") e)))
    (λ e. no_comment 42 b bs after block (is ∙ ap (λ m. m ++ after) (same_bytes mark (codes "/*") e)))
    (or_cases (bytes_eq mark (codes "//")) (bytes_eq mark (codes "/*")) (passes_each (λ m. bytes_eq m (codes "//") || bytes_eq m (codes "/*")) comment_marks mark refl known))

-- ---- what the code finds

if_test : (P : Result Head Flaw → Type 0) (t : Bool) (x y : Result Head Flaw) → (t ≡ true → P x) → (t ≡ false → P y) → P (cond t x y)
if_test P true x y f g = f refl
if_test P false x y f g = g refl

some_length : (n : ℕ) → eqb n 0 ≡ false → 0 < n
some_length n e = let i = eqb-false n 0 e in omega arith

sign_found : (b : ℕ) (bs : List ℕ) → (eqb b 47 && begins_with 47 bs) ≡ false → (eqb b 47 && begins_with 42 bs) ≡ false → 0 < sign_length (b ∷ bs) → First (b ∷ bs) (head (piece.Token kind.Sign) (sign_length (b ∷ bs)))
sign_found b bs line block some =
    let front = front_of (b ∷ bs) some in
    record {
      piece = Kept (record { kind = kind.Sign; bytes = front.sign });
      rest = front.rest;
      is = front.is;
      stands = (
        front.known,
        λ longer after known is. ⊎_elim
            (λ mark. absurd (mark_is_none b bs longer after line block mark (front.is ∙ is)))
            (λ known. let n = ap sign_length (front.is ∙ is) in let m = front.size in omega (arith, at_most longer after known))
            (Contains-append_cases comment_marks signs longer known),
      );
      head = ap (head (piece.Token kind.Sign)) (sym front.size);
    }

pub sign_sound : (b : ℕ) (bs : List ℕ) → is_space b ≡ false → is_word_byte b ≡ false → eqb b 34 ≡ false → eqb b 35 ≡ false → (eqb b 47 && begins_with 47 bs) ≡ false → (eqb b 47 && begins_with 42 bs) ≡ false → Finds (b ∷ bs) (sign_head b bs)
sign_sound b bs space word text directive line block = subst (Finds (b ∷ bs)) (sym (head_of_length b bs)) (if_test (Finds (b ∷ bs)) (eqb (sign_length (b ∷ bs)) 0) (Err (flaw breach.BadByte 0)) (sign (sign_length (b ∷ bs)))
    (λ none. record {
      breach = bad_byte (record {
        byte = b;
        others = bs;
        is = refl;
        no_space = space;
        no_word = word;
        no_text = eqb-false b 34 text;
        no_directive = eqb-false b 35 directive;
        no_sign = λ s after known is. let n = ap sign_length is in let z = eqb-true (sign_length (b ∷ bs)) 0 none in let some = sign_has_bytes s known in omega (arith, at_most s after known);
      }) refl refl;
      within = omega arith;
    })
    (λ some. sign_found b bs line block (some_length (sign_length (b ∷ bs)) some)))

-- ---- what the code finds is what stands there

head_of_sign : (b : ℕ) (bs : List ℕ) → (eqb b 47 && begins_with 47 bs) ≡ false → (eqb b 47 && begins_with 42 bs) ≡ false → mark_head b bs ≡ sign_of (sign_length (b ∷ bs))
head_of_sign b bs line block = cond-false (eqb b 47 && begins_with 47 bs) _ _ line ∙ cond-false (eqb b 47 && begins_with 42 bs) _ _ block ∙ head_of_length b bs

-- no comment begins where the longest sign does: it would be longer than `/`, which is the sign that the code finds there
no_longer : (x b : ℕ) (cs rest : List ℕ) → ((after : List ℕ) → sign_length (47 ∷ x ∷ after) ≡ 1) → Contains (comment_marks ++ signs) (47 ∷ x ∷ []) → IsSign (b ∷ cs) → IsLongestSign (b ∷ cs) rest → (eqb b 47 && begins_with x (cs ++ rest)) ≡ false
no_longer x b cs rest one mark known longest = false_from_ne_true (eqb b 47 && begins_with x (cs ++ rest)) (λ e.
    let after = drop 1 (cs ++ rest) in
    let is = comment_is x b (cs ++ rest) e in
    let size = ap sign_length is ∙ one after in
    let least = at_most (b ∷ cs) rest known in
    let two : 2 ≤ length (b ∷ cs) = longest (47 ∷ x ∷ []) after mark is in
    omega arith)

pub sign_complete : (b : ℕ) (cs rest : List ℕ) → IsSign (b ∷ cs) → IsLongestSign (b ∷ cs) rest → mark_head b (cs ++ rest) ≡ Ok (head (piece.Token kind.Sign) (length (b ∷ cs)))
sign_complete b cs rest known longest =
    let xs = b ∷ (cs ++ rest) in
    let least : length (b ∷ cs) ≤ sign_length xs = at_most (b ∷ cs) rest known in
    let some = sign_has_bytes (b ∷ cs) known in
    let front = front_of xs (omega arith) in
    let most = longest front.sign front.rest (Contains-append_right comment_marks signs front.sign front.known) front.is in
    let size = front.size in
    let same : sign_length xs ≡ length (b ∷ cs) = omega arith in
    let line = no_longer 47 b cs rest (λ after. refl) (Contains-from_any same_bytes (codes "//") (comment_marks ++ signs) refl) known longest in
    let block = no_longer 42 b cs rest (λ after. refl) (Contains-from_any same_bytes (codes "/*") (comment_marks ++ signs) refl) known longest in
    head_of_sign b (cs ++ rest) line block ∙ ap sign_of same ∙ cond-false (eqb (length (b ∷ cs)) 0) _ _ (ne_eqb (length (b ∷ cs)) 0 (λ z. omega arith))

-- no comment begins where the code finds no sign
nothing_longer : (x b : ℕ) (bs : List ℕ) → ((after : List ℕ) → sign_length (47 ∷ x ∷ after) ≡ 1) → sign_length (b ∷ bs) ≡ 0 → (eqb b 47 && begins_with x bs) ≡ false
nothing_longer x b bs one none = false_from_ne_true (eqb b 47 && begins_with x bs) (λ e.
    let size = ap sign_length (comment_is x b bs e) ∙ one (drop 1 bs) in
    omega arith)

pub nothing_complete : (b : ℕ) (bs : List ℕ) → BeginsNothing (b ∷ bs) → mark_head b bs ≡ Err (flaw breach.BadByte 0)
nothing_complete b bs nothing =
    let none : sign_length (b ∷ bs) ≡ 0 = at (sign_length (b ∷ bs)) (front_of (b ∷ bs)) in
    head_of_sign b bs (nothing_longer 47 b bs (λ after. refl) none) (nothing_longer 42 b bs (λ after. refl) none) ∙ ap sign_of none
  where
    at : (n : ℕ) → (0 < n → Front (b ∷ bs) n) → n ≡ 0
    at zero front = refl
    at (suc n) front = let f = front (omega arith) in absurd (nothing.no_sign f.sign f.rest f.known f.is)
