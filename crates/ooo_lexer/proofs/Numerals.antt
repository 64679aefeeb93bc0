-- What the code computes of a number's bytes is what they are.
use Rattle.std.proofs.Common.{◌≡◌, ℕ, Bool, true, false, cond, not, eqb, List, [], ◌∷◌, ◌++◌, drop, Option, Some, None, Result, Ok, Err, ◌⊎◌, inl, inr, ⊎_elim, refl, sym, ap, ◌∙◌, subst, arith, codes}
use Rattle.std.specs.List.{list_all, list_any, take_while, starts_with, Contains, AllByRecursion}
use Rattle.std.specs.Option.{MatchOption}
use Rattle.std.specs.Result.{result_ok}
use Rattle.std.specs.Str.{bytes_eq}
use Rattle.std.proofs.lemmas.Bool.{and_parts, or_cases, eqb-true, eqb-false, ne_eqb, false≢true, cond-true, cond-false}
use Rattle.std.proofs.lemmas.Bool.Decides.{Decides-eqb, nat_tests}
use Rattle.std.proofs.lemmas.List.Elements.{All-contains, All-from_recursion}
use Rattle.std.proofs.lemmas.Map.Views.{Contains-from_any}
use Rattle.std.proofs.lemmas.Slice.Eq.{starts_is}
use Rattle.ooo_lexer.specs.declared.breach.LexBreach.{LexBreach}
use Rattle.ooo_lexer.specs.declared.breach.LexBreach.TheVariants as breach
use Rattle.ooo_lexer.specs.declared.numbers.Base.{Base}
use Rattle.ooo_lexer.specs.declared.numbers.Base.TheVariants as base
use Rattle.ooo_lexer.specs.declared.numbers.Suffix.{Suffix}
use Rattle.ooo_lexer.specs.declared.numbers.Suffix.TheVariants as suffix
use Rattle.ooo_lexer.specs.declared.numbers.NumberKind.{NumberKind}
use Rattle.ooo_lexer.specs.declared.numbers.Number.{Number}
use Rattle.ooo_lexer.specs.Bytes.{is_digit, is_hex_digit, is_word_byte, StopsBefore}
use Rattle.ooo_lexer.specs.Numbers.{AreDigits, prefixes, endings, IsNumeral, value_of, kinds_of, first_holding, IsNumberOf, IsTooWide, IsNoNumeral}
use Rattle.ooo_lexer.specs.Numerals.{has_hex_prefix, class_of, are_digits, is_ending, suffix_of, sized, number_with, number_after, number_of}
use Rattle.ooo_lexer.specs.Runs.{has, after_run, is_nothing}
use Rattle.ooo_lexer.proofs.Classes.{digit_goes_on}
use Rattle.ooo_lexer.proofs.Finds.{by_test, passes_each, nothing_is, same_bytes}
use Rattle.ooo_lexer.proofs.Runs.{run_front, run_rest, run_passes, run_joins, all_wider, all_append}

-- what the code computes of bytes is what they are
abbrev pub IsOutcome : List ℕ → Result Number LexBreach → Type 0
IsOutcome bs (Ok n) = IsNumberOf bs n
IsOutcome bs (Err breach.BadByte) = ⊥
IsOutcome bs (Err breach.NumberTooWide) = IsTooWide bs
IsOutcome bs (Err breach.TextNotClosed) = ⊥
IsOutcome bs (Err breach.CommentNotClosed) = ⊥
IsOutcome bs (Err breach.Directive) = ⊥
IsOutcome bs (Err breach.BadNumber) = IsNoNumeral bs

-- ---- a numeral's parts, as tests

-- what holds of each of a few
each : (P : List ℕ → Type 0) (es : List (List ℕ)) (e : List ℕ) → AllByRecursion P es → Contains es e → P e
each P es e all c = All-contains P es e (All-from_recursion P es all) c

digits_pass : (b : Base) (ds : List ℕ) → AreDigits b ds → list_all (has (class_of b)) ds ≡ true
digits_pass base.Decimal ds (inl zero) = ap (list_all is_digit) zero
digits_pass base.Decimal [] (inr decimal) = absurd decimal
digits_pass base.Decimal (d ∷ ds) (inr decimal) = decimal.1
digits_pass base.Hexadecimal ds are = are.1

digits_test : (b : Base) (ds : List ℕ) → AreDigits b ds → are_digits b ds ≡ true
digits_test base.Decimal ds (inl zero) = ap (are_digits base.Decimal) zero
digits_test base.Decimal [] (inr decimal) = absurd decimal
digits_test base.Decimal (d ∷ ds) (inr decimal) = rw (ne_eqb d 48 decimal.0) refl
digits_test base.Hexadecimal [] are = absurd (are.0 refl)
digits_test base.Hexadecimal (d ∷ ds) are = refl

digits_are : (b : Base) (ds : List ℕ) → are_digits b ds ≡ true → list_all (has (class_of b)) ds ≡ true → AreDigits b ds
digits_are b [] e all = absurd (false≢true e)
digits_are base.Decimal (d ∷ ds) e all = by_test (eqb d 48)
    (λ t. let i = eqb-true d 48 t in
    let n = or_cases (not (eqb d 48)) (is_nothing ds) e in
    let j : is_nothing ds ≡ true = ⊎_elim (λ no. absurd cc) (λ yes. yes) n in
    let k = nothing_is ds j in
    inl cc)
    (λ t. inr (eqb-false d 48 t, all))
digits_are base.Hexadecimal (d ∷ ds) e all = (λ i. let P : ⊥ = cc in P, all)

-- no ending begins with a digit of its base
ending_stops : (b : Base) (s : Suffix) (e : List ℕ) → Contains (endings s) e → StopsBefore (has (class_of b)) e
ending_stops b s e c = each (λ e. StopsBefore (has (class_of b)) e) (endings s) e (all b s) c
  where
    all : (b : Base) (s : Suffix) → AllByRecursion (λ e. StopsBefore (has (class_of b)) e) (endings s)
    all base.Decimal suffix.Bare = (tt, tt)
    all base.Decimal suffix.Unsigned = (refl, (refl, tt))
    all base.Decimal suffix.Long = (refl, (refl, tt))
    all base.Decimal suffix.UnsignedLong = (refl, (refl, tt))
    all base.Hexadecimal suffix.Bare = (tt, tt)
    all base.Hexadecimal suffix.Unsigned = (refl, (refl, tt))
    all base.Hexadecimal suffix.Long = (refl, (refl, tt))
    all base.Hexadecimal suffix.UnsignedLong = (refl, (refl, tt))

ending_known : (s : Suffix) (e : List ℕ) → Contains (endings s) e → suffix_of e ≡ Some s
ending_known s e c = each (λ e. suffix_of e ≡ Some s) (endings s) e (all s) c
  where
    all : (s : Suffix) → AllByRecursion (λ e. suffix_of e ≡ Some s) (endings s)
    all suffix.Bare = (refl, tt)
    all suffix.Unsigned = (refl, (refl, tt))
    all suffix.Long = (refl, (refl, tt))
    all suffix.UnsignedLong = (refl, (refl, tt))

ending_is : (s : Suffix) (e : List ℕ) → is_ending s e ≡ true → Contains (endings s) e
ending_is s e t = Contains-from_any same_bytes e (endings s) t

-- a choice by a test, whichever it was
chosen : (P : Suffix → Type 0) (t : Bool) (a s : Suffix) (others : Option Suffix) → (t ≡ true → P a) → (others ≡ Some s → P s) → cond t (Some a) others ≡ Some s → P s
chosen P true a s others f g i = let j : a ≡ s = cc in subst P j (f refl)
chosen P false a s others f g i = g i

suffix_is : (s : Suffix) (e : List ℕ) → suffix_of e ≡ Some s → Contains (endings s) e
suffix_is s e i =
    let P : Suffix → Type 0 = λ s. Contains (endings s) e in
    chosen P (is_ending suffix.Bare e) suffix.Bare s _ (ending_is suffix.Bare e)
    (chosen P (is_ending suffix.Unsigned e) suffix.Unsigned s _ (ending_is suffix.Unsigned e)
    (chosen P (is_ending suffix.Long e) suffix.Long s _ (ending_is suffix.Long e)
    (chosen P (is_ending suffix.UnsignedLong e) suffix.UnsignedLong s _ (ending_is suffix.UnsignedLong e) (λ no. absurd cc)))) i

-- ---- a numeral is what the code reads

after_complete : (b : Base) (ds e : List ℕ) (s : Suffix) → AreDigits b ds → Contains (endings s) e → number_after b (ds ++ e) ≡ number_with b ds (Some s)
after_complete b ds e s are ends =
    let pass = digits_pass b ds are in
    let stops = ending_stops b s e ends in
    let front = run_front (has (class_of b)) ds e pass stops in
    let back = run_rest (has (class_of b)) ds e pass stops in
    let known = ap suffix_of back ∙ ending_known s e ends in
    let test = ap (are_digits b) front ∙ digits_test b ds are in
    cond-true (are_digits b (take_while (has (class_of b)) (ds ++ e))) _ _ test ∙ ap (λ r. number_with b r (suffix_of (after_run (class_of b) (ds ++ e)))) front ∙ ap (number_with b ds) known

-- no decimal numeral begins as a hexadecimal one does
decimal_begins : (ds e : List ℕ) (s : Suffix) → AreDigits base.Decimal ds → Contains (endings s) e → has_hex_prefix (ds ++ e) ≡ false
decimal_begins ds e s (inl zero) ends = ap (λ ds. has_hex_prefix (ds ++ e)) zero ∙ each (λ e. has_hex_prefix (codes "0" ++ e) ≡ false) (endings s) e (all s) ends
  where
    all : (s : Suffix) → AllByRecursion (λ e. has_hex_prefix (codes "0" ++ e) ≡ false) (endings s)
    all suffix.Bare = (refl, tt)
    all suffix.Unsigned = (refl, (refl, tt))
    all suffix.Long = (refl, (refl, tt))
    all suffix.UnsignedLong = (refl, (refl, tt))
decimal_begins [] e s (inr decimal) ends = absurd decimal
decimal_begins (d ∷ ds) e s (inr decimal) ends = rw (ne_eqb 48 d (λ i. decimal.0 (sym i))) refl

numeral_at : (b : Base) (p ds e : List ℕ) (s : Suffix) → Contains (prefixes b) p → AreDigits b ds → Contains (endings s) e → number_of (p ++ (ds ++ e)) ≡ number_with b ds (Some s)
unfolding number_of
numeral_at base.Decimal p ds e s begins are ends = each (λ p. number_of (p ++ (ds ++ e)) ≡ number_with base.Decimal ds (Some s)) (prefixes base.Decimal) p
    (cond-false (has_hex_prefix (ds ++ e)) _ _ (decimal_begins ds e s are ends) ∙ after_complete base.Decimal ds e s are ends, tt) begins
numeral_at base.Hexadecimal p ds e s begins are ends = each (λ p. number_of (p ++ (ds ++ e)) ≡ number_with base.Hexadecimal ds (Some s)) (prefixes base.Hexadecimal) p
    (after_complete base.Hexadecimal ds e s are ends, (after_complete base.Hexadecimal ds e s are ends, tt)) begins

numeral_read : (bs : List ℕ) (b : Base) (ds : List ℕ) (s : Suffix) → IsNumeral bs b ds s → number_of bs ≡ number_with b ds (Some s)
numeral_read bs b ds s n = ap number_of n.is ∙ numeral_at b n.prefix ds n.ending s n.begins n.are_digits n.ends

-- ---- what the code reads is a numeral

-- the code's answer is that of a numeral, or there is none
pub record Reads (bs : List ℕ) (r : Result Number LexBreach) : Type 0 where
  pub base : Base
  pub digits : List ℕ
  pub suffix : Suffix
  pub numeral : IsNumeral bs base digits suffix
  pub is : r ≡ number_with base digits (Some suffix)

abbrev Found : List ℕ → Result Number LexBreach → Type 0
Found bs r = Reads bs r ⊎ (r ≡ Err breach.BadNumber)

after_found : (b : Base) (bs p rest : List ℕ) → Contains (prefixes b) p → bs ≡ p ++ rest → Found bs (number_after b rest)
after_found b bs p rest begins is = by_test (are_digits b ds)
    (λ t. at t (suffix_of e) refl)
    (λ f. inr (cond-false (are_digits b ds) _ _ f))
  where
    ds : List ℕ
    ds = take_while (has (class_of b)) rest

    e : List ℕ
    e = after_run (class_of b) rest

    at : are_digits b (take_while (has (class_of b)) rest) ≡ true → (o : Option Suffix) → suffix_of (after_run (class_of b) rest) ≡ o → Found bs (number_after b rest)
    at t None i = inr (cond-true (are_digits b (take_while (has (class_of b)) rest)) _ _ t ∙ ap (number_with b (take_while (has (class_of b)) rest)) i)
    at t (Some s) i = inl (record {
      base = b;
      digits = take_while (has (class_of b)) rest;
      suffix = s;
      numeral = record {
        prefix = p;
        ending = after_run (class_of b) rest;
        begins = begins;
        are_digits = digits_are b (take_while (has (class_of b)) rest) t (run_passes (has (class_of b)) rest);
        ends = suffix_is s (after_run (class_of b) rest) i;
        is = is ∙ ap (λ r. p ++ r) (sym (run_joins (has (class_of b)) rest));
      };
      is = cond-true (are_digits b (take_while (has (class_of b)) rest)) _ _ t ∙ ap (number_with b (take_while (has (class_of b)) rest)) i;
    })

hex_found : (bs : List ℕ) → has_hex_prefix bs ≡ true → Found bs (number_after base.Hexadecimal (drop 2 bs))
hex_found bs t = ⊎_elim
    (λ small. begun (codes "0x") refl ((starts_is Decides-eqb bs (codes "0x") _ refl).0 small))
    (λ big. begun (codes "0X") refl ((starts_is Decides-eqb bs (codes "0X") _ refl).0 big))
    (or_cases (starts_with eqb bs (codes "0x")) (starts_with eqb bs (codes "0X")) t)
  where
    begun : (p : List ℕ) → list_any (λ q. bytes_eq p q) (prefixes base.Hexadecimal) ≡ true → bs ≡ p ++ drop 2 bs → Found bs (number_after base.Hexadecimal (drop 2 bs))
    begun p known e = after_found base.Hexadecimal bs p (drop 2 bs) (Contains-from_any same_bytes p (prefixes base.Hexadecimal) known) e

found : (bs : List ℕ) → Found bs (number_of bs)
unfolding number_of
found bs = by_test (has_hex_prefix bs)
    (λ t. subst (Found bs) (sym (cond-true (has_hex_prefix bs) _ _ t)) (hex_found bs t))
    (λ f. subst (Found bs) (sym (cond-false (has_hex_prefix bs) _ _ f)) (after_found base.Decimal bs [] bs (Contains-from_any same_bytes [] (prefixes base.Decimal) refl) refl))

-- ---- what the code computes is right

-- the number of a value and a kind, whichever kind there is
outcome : (bs : List ℕ) (b : Base) (ds : List ℕ) (s : Suffix) → IsNumeral bs b ds s → (o : Option NumberKind) → first_holding (kinds_of b s) (value_of b ds) ≡ o → IsOutcome bs (sized (value_of b ds) o)
outcome bs b ds s n None e = record { base = b; digits = ds; suffix = s; numeral = n; none = e }
outcome bs b ds s n (Some k) e = record { base = b; digits = ds; suffix = s; numeral = n; value = refl; kind = e }

-- no numeral is read as a bad number
sized_is_good : (v : ℕ) (o : Option NumberKind) → sized v o ≡ Err breach.BadNumber → ⊥
sized_is_good v None e = cc
sized_is_good v (Some k) e = cc

pub number_sound : (bs : List ℕ) → IsOutcome bs (number_of bs)
number_sound bs = ⊎_elim
    (λ r. subst (IsOutcome bs) (sym r.is) (outcome bs r.base r.digits r.suffix r.numeral (first_holding (kinds_of r.base r.suffix) (value_of r.base r.digits)) refl))
    (λ bad. subst (IsOutcome bs) (sym bad) (λ b ds s n. sized_is_good (value_of b ds) (first_holding (kinds_of b s) (value_of b ds)) (sym (numeral_read bs b ds s n) ∙ bad)))
    (found bs)

pub number_complete : (bs : List ℕ) (n : Number) → IsNumberOf bs n → number_of bs ≡ Ok n
number_complete bs n is =
    let kind = subst (λ v. first_holding (kinds_of is.base is.suffix) v ≡ Some n.kind) is.value is.kind in
    let v = is.value in
    numeral_read bs is.base is.digits is.suffix is.numeral ∙ ap (sized (value_of is.base is.digits)) kind ∙ ap (λ v. Ok (record { kind = n.kind; value = v })) (sym is.value)

pub wide_complete : (bs : List ℕ) → IsTooWide bs → number_of bs ≡ Err breach.NumberTooWide
wide_complete bs is = numeral_read bs is.base is.digits is.suffix is.numeral ∙ ap (sized (value_of is.base is.digits)) is.none

pub bad_complete : (bs : List ℕ) → IsNoNumeral bs → number_of bs ≡ Err breach.BadNumber
bad_complete bs none = ⊎_elim (λ r. absurd (none r.base r.digits r.suffix r.numeral)) (λ bad. bad) (found bs)

pub one_number : (bs : List ℕ) (n o : Number) → IsNumberOf bs n → IsNumberOf bs o → n ≡ o
one_number bs n o i j = let e : Ok n ≡ Ok o = sym (number_complete bs n i) ∙ number_complete bs o j in cc

-- ---- a numeral's bytes

hex_digit_goes_on : (d : ℕ) → is_hex_digit d ≡ true → is_word_byte d ≡ true
hex_digit_goes_on d h = grind (arith, nat_tests)

digits_are_word : (b : Base) (ds : List ℕ) → list_all (has (class_of b)) ds ≡ true → list_all is_word_byte ds ≡ true
digits_are_word base.Decimal ds all = all_wider is_digit is_word_byte digit_goes_on ds all
digits_are_word base.Hexadecimal ds all = all_wider is_hex_digit is_word_byte hex_digit_goes_on ds all

prefix_is_word : (b : Base) (p : List ℕ) → Contains (prefixes b) p → list_all is_word_byte p ≡ true
prefix_is_word base.Decimal p c = passes_each (list_all is_word_byte) (prefixes base.Decimal) p refl c
prefix_is_word base.Hexadecimal p c = passes_each (list_all is_word_byte) (prefixes base.Hexadecimal) p refl c

ending_is_word : (s : Suffix) (e : List ℕ) → Contains (endings s) e → list_all is_word_byte e ≡ true
ending_is_word suffix.Bare e c = passes_each (list_all is_word_byte) (endings suffix.Bare) e refl c
ending_is_word suffix.Unsigned e c = passes_each (list_all is_word_byte) (endings suffix.Unsigned) e refl c
ending_is_word suffix.Long e c = passes_each (list_all is_word_byte) (endings suffix.Long) e refl c
ending_is_word suffix.UnsignedLong e c = passes_each (list_all is_word_byte) (endings suffix.UnsignedLong) e refl c

pub numeral_is_word : (bs : List ℕ) (b : Base) (ds : List ℕ) (s : Suffix) → IsNumeral bs b ds s → list_all is_word_byte bs ≡ true
numeral_is_word bs b ds s n =
    let digits = digits_are_word b ds (digits_pass b ds n.are_digits) in
    let after = all_append is_word_byte ds n.ending digits (ending_is_word s n.ending n.ends) in
    ap (list_all is_word_byte) n.is ∙ all_append is_word_byte n.prefix (ds ++ n.ending) (prefix_is_word b n.prefix n.begins) after

abbrev BeginsWithDigit : List ℕ → Type 0
BeginsWithDigit bs = (d : ℕ) × (others : List ℕ) × (bs ≡ d ∷ others) × (is_digit d ≡ true)

decimal_begins_with_digit : (ds e : List ℕ) → AreDigits base.Decimal ds → BeginsWithDigit (ds ++ e)
decimal_begins_with_digit ds e (inl zero) = (48, e, ap (λ ds. ds ++ e) zero, refl)
decimal_begins_with_digit [] e (inr decimal) = absurd decimal
decimal_begins_with_digit (d ∷ ds) e (inr decimal) = (d, ds ++ e, refl, (and_parts (is_digit d) (list_all is_digit ds) decimal.1).0)

begins_with_digit : (b : Base) (p ds e : List ℕ) → Contains (prefixes b) p → AreDigits b ds → BeginsWithDigit (p ++ (ds ++ e))
begins_with_digit base.Decimal p ds e c are = each (λ p. BeginsWithDigit (p ++ (ds ++ e))) (prefixes base.Decimal) p (decimal_begins_with_digit ds e are, tt) c
begins_with_digit base.Hexadecimal p ds e c are = each (λ p. BeginsWithDigit (p ++ (ds ++ e))) (prefixes base.Hexadecimal) p ((48, 120 ∷ (ds ++ e), refl, refl), ((48, 88 ∷ (ds ++ e), refl, refl), tt)) c

pub numeral_begins : (bs : List ℕ) (b : Base) (ds : List ℕ) (s : Suffix) → IsNumeral bs b ds s → (d : ℕ) × (others : List ℕ) × (bs ≡ d ∷ others) × (is_digit d ≡ true)
numeral_begins bs b ds s n = subst BeginsWithDigit (sym n.is) (begins_with_digit b n.prefix ds n.ending n.begins n.are_digits)

-- what the answer without the reason says
abbrev pub IsAnswer : List ℕ → Option Number → Type 0
IsAnswer bs answer = MatchOption answer ((n : Number) → IsNumberOf bs n → ⊥) (λ n. IsNumberOf bs n)

pub answer_sound : (bs : List ℕ) → IsAnswer bs (result_ok (number_of bs))
answer_sound bs = at (number_of bs) refl (number_sound bs)
  where
    at : (r : Result Number LexBreach) → number_of bs ≡ r → IsOutcome bs r → IsAnswer bs (result_ok r)
    at (Ok n) i o = o
    at (Err breach) i o = λ n is. let j : Ok n ≡ Err breach = sym (number_complete bs n is) ∙ i in absurd cc
