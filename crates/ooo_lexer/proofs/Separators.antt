-- The signs that are looked for before the others.
use Rattle.std.proofs.Common.{◌≡◌, ℕ, Bool, true, false, not, eqb, ◌&&◌, ◌||◌, List, [], ◌∷◌, refl, ap, ◌∙◌, codes}
use Rattle.std.specs.List.{list_all, starts_with}
use Rattle.std.proofs.lemmas.Bool.{not-true, eqb-true, cond-true, cond-false}
use Rattle.std.proofs.lemmas.List.Elements.{All-contains}
use Rattle.std.proofs.lemmas.List.Sums.{AllPass-from_list_all}
use Rattle.std.proofs.lemmas.Map.Views.{Contains-from_any}
use Rattle.ooo_lexer.specs.Bytes.{is_space, is_digit, begins_word}
use Rattle.ooo_lexer.specs.Heads.{begins_triple, takes_equals, may_be_doubled, begins_pair, is_separator, is_lone_sign, sign, sign_head, mark_head, head_at}
use Rattle.ooo_lexer.specs.Runs.{begins_with}

-- what holds of each of them holds of one
each : (test : ℕ → Bool) (b : ℕ) → list_all test (codes "{}()[];,.") ≡ true → is_separator b ≡ true → test b ≡ true
each test b all is =
    All-contains (λ x. test x ≡ true) (codes "{}()[];,.") b (AllPass-from_list_all test (codes "{}()[];,.") all)
    (Contains-from_any eqb-true b (codes "{}()[];,.") is)

fails : (test : ℕ → Bool) (b : ℕ) → list_all (λ x. not (test x)) (codes "{}()[];,.") ≡ true → is_separator b ≡ true → test b ≡ false
fails test b all is = not-true (test b) (each (λ x. not (test x)) b all is)

no_triple : (b : ℕ) (bs : List ℕ) → is_separator b ≡ true → begins_triple (b ∷ bs) ≡ false
no_triple b bs is =
    ap (λ t. t && starts_with eqb bs (codes "<=") || starts_with eqb (b ∷ bs) (codes ">>=")) (fails (eqb 60) b refl is)
    ∙ ap (λ t. t && starts_with eqb bs (codes ">=")) (fails (eqb 62) b refl is)

no_pair : (b : ℕ) (bs : List ℕ) → is_separator b ≡ true → begins_pair b bs ≡ false
no_pair b [] is = refl
no_pair b (c ∷ bs) is =
    ap (λ t. (eqb c 61 && t) || (eqb b c && may_be_doubled b)) (fails takes_equals b refl is)
    ∙ ap (λ t. (eqb c 61 && false) || (eqb b c && t)) (fails may_be_doubled b refl is)
    ∙ neither (eqb c 61) (eqb b c)
  where
    neither : (s t : Bool) → (s && false) || (t && false) ≡ false
    neither true true = refl
    neither true false = refl
    neither false true = refl
    neither false false = refl

sign_is : (b : ℕ) (bs : List ℕ) → is_separator b ≡ true → sign_head b bs ≡ sign 1
sign_is b bs is =
    cond-false (begins_triple (b ∷ bs)) _ _ (no_triple b bs is)
    ∙ cond-false (begins_pair b bs) _ _ (no_pair b bs is)
    ∙ cond-true (is_lone_sign b) _ _ (each is_lone_sign b refl is)

mark_is : (b : ℕ) (bs : List ℕ) → is_separator b ≡ true → mark_head b bs ≡ sign 1
mark_is b bs is =
    let slash = fails (λ x. eqb x 47) b refl is in
    cond-false (eqb b 47 && begins_with 47 bs) _ _ (ap (λ t. t && begins_with 47 bs) slash)
    ∙ cond-false (eqb b 47 && begins_with 42 bs) _ _ (ap (λ t. t && begins_with 42 bs) slash)
    ∙ sign_is b bs is

-- one of them is what stands first
pub head_of_separator : (b : ℕ) (bs : List ℕ) → is_separator b ≡ true → head_at b bs ≡ sign 1
unfolding head_at
head_of_separator b bs is =
    cond-false (is_space b) _ _ (fails is_space b refl is)
    ∙ cond-false (begins_word b) _ _ (fails begins_word b refl is)
    ∙ cond-false (is_digit b) _ _ (fails is_digit b refl is)
    ∙ cond-false (eqb b 34) _ _ (fails (λ x. eqb x 34) b refl is)
    ∙ cond-false (eqb b 35) _ _ (fails (λ x. eqb x 35) b refl is)
    ∙ mark_is b bs is
