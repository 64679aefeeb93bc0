-- What holds of every grammar that is written as a code.
use Rattle.std.proofs.Common.{◌≡◌, ℕ, zero, suc, Bool, true, false, not, ◌||◌, ◌==◌, List, [], ◌∷◌, ◌++◌, refl, sym, ap, ◌∙◌, subst, ◌+◌}
use Rattle.std.proofs.lemmas.Bool.{eqb-true, eq-eqb, and_parts, not-true}
use Rattle.std.proofs.Math.Bool.{or_assoc}
use Rattle.std.specs.Option.{option_map}
use Rattle.ooo_syntax.specs.declared.symbol.Symbol.{Symbol}
use Rattle.ooo_grammar.specs.Numbers.{number}
use Rattle.ooo_grammar.specs.Sets.{Terminals, has, in_set, disjoint, subset, join}
use Rattle.ooo_grammar.specs.Names.{begins, goes}
use Rattle.ooo_grammar.specs.Codes.{Code, after_maybe, nothing, token_of, pair, link, choice, maybe, many, mapped, within, deeper, outermost, refer}
use Rattle.ooo_grammar.specs.Rules.{rules}
use Rattle.ooo_grammar.specs.Readings.{Room, enter, fits, form, reader}
use Rattle.ooo_grammar.proofs.Good.{Good, Apart, SameHead, or_if, nothing_good, bottom_good, one_good, then_good, mapped_good, either_good, maybe_good, repeats_good, wider, headed_good}

-- ---- sets

or_cases : (a b : Bool) {X : Type 0} → (a || b) ≡ true → (a ≡ true → X) → (b ≡ true → X) → X
or_cases true b e f g = f refl
or_cases false b e f g = g e

has_none : (ms ns : Terminals) (n : ℕ) → disjoint ms ns ≡ true → has ms n ≡ true → has ns n ≡ false
has_none [] ns n d h = absurd cc
has_none (m ∷ ms) ns n d h =
    let b = and_parts (not (has ns (number m))) (disjoint ms ns) d in
    or_cases (number m == n) (has ms n) h
    (λ e. ap (has ns) (sym (eqb-true (number m) n e)) ∙ not-true (has ns (number m)) b.0)
    (λ e. has_none ms ns n b.1 e)

pub false_back : (a b : Bool) → (a ≡ true → b ≡ true) → b ≡ false → a ≡ false
false_back true b h e = let f = h refl in absurd cc
false_back false b h e = refl

pub apart : (ms ns : Terminals) → disjoint ms ns ≡ true → Apart (in_set ms) (in_set ns)
apart ms ns d = record { apart = λ k h. has_none ms ns (number k.terminal) d h }

pub apart_back : (ms ns : Terminals) → disjoint ms ns ≡ true → Apart (in_set ns) (in_set ms)
apart_back ms ns d = record { apart = λ k h. flip k h (in_set ms k) refl }
  where
    flip : (k : Symbol) → in_set ns k ≡ true → (b : Bool) → in_set ms k ≡ b → in_set ms k ≡ false
    flip k h true e = let f = has_none ms ns (number k.terminal) d e in absurd cc
    flip k h false e = e

pub has_too : (ms ns : Terminals) (n : ℕ) → subset ms ns ≡ true → has ms n ≡ true → has ns n ≡ true
has_too [] ns n d h = absurd cc
has_too (m ∷ ms) ns n d h =
    let b = and_parts (has ns (number m)) (subset ms ns) d in
    or_cases (number m == n) (has ms n) h
    (λ e. ap (has ns) (sym (eqb-true (number m) n e)) ∙ b.0)
    (λ e. has_too ms ns n b.1 e)

pub has_append : (ms ns : Terminals) (n : ℕ) → has (ms ++ ns) n ≡ (has ms n || has ns n)
has_append [] ns n = refl
has_append (m ∷ ms) ns n = ap (λ b. (number m == n) || b) (has_append ms ns n) ∙ sym (or_assoc (number m == n) (has ms n) (has ns n))

or_parts : (a b : Bool) → (a || b) ≡ false → (a ≡ false) × (b ≡ false)
or_parts true b e = absurd cc
or_parts false b e = (refl, e)

or_left : (a b : Bool) → a ≡ true → (a || b) ≡ true
or_left true b e = refl
or_left false b e = absurd cc

or_right : (a b : Bool) → b ≡ true → (a || b) ≡ true
or_right true b e = refl
or_right false b e = e

-- what isn't in a join is in neither part
pub outside : (e : Bool) (g f : Terminals) (k : Symbol) → in_set (join e g f) k ≡ false → (in_set f k ≡ false) × (e ≡ true → in_set g k ≡ false)
outside true g f k h = let b = or_parts (has f (number k.terminal)) (has g (number k.terminal)) (sym (has_append f g (number k.terminal)) ∙ h) in (b.0, λ e. b.1)
outside false g f k h = (h, λ e. absurd cc)

pub in_left : (e : Bool) (g f : Terminals) (k : Symbol) → in_set f k ≡ true → in_set (join e g f) k ≡ true
in_left true g f k h = has_append f g (number k.terminal) ∙ or_left (has f (number k.terminal)) (has g (number k.terminal)) h
in_left false g f k h = h

pub in_right : (e : Bool) (g f : Terminals) (k : Symbol) → e ≡ true → in_set g k ≡ true → in_set (join e g f) k ≡ true
in_right true g f k e h = has_append f g (number k.terminal) ∙ or_right (has f (number k.terminal)) (has g (number k.terminal)) h
in_right false g f k e h = absurd cc

has_join : (e : Bool) (g f : Terminals) (k : Symbol) → in_set (join e g f) k ≡ or_if e (in_set g) (in_set f) k
has_join true g f k = has_append f g (number k.terminal)
has_join false g f k = refl

-- ---- the room of an expression hangs on its first token

pub enter_same : (room : Room) (ts us : List Symbol) → SameHead ts us → enter room ts ≡ enter room us
enter_same room [] [] h = refl
enter_same room [] (k ∷ us) h = let e : false ≡ true = h.same (λ k. true) in absurd cc
enter_same room (k ∷ ts) [] h = let e : true ≡ false = h.same (λ k. true) in absurd cc
enter_same room (k ∷ ts) (j ∷ us) h =
    let e : (k.before == j.before) ≡ (j.before == j.before) = h.same (λ i. i.before == j.before) in
    let i : k.before ≡ j.before = eqb-true k.before j.before (e ∙ eq-eqb j.before j.before refl) in
    ap (λ n. record { limit = room.limit; bound = option_map (λ l. n + l) room.limit }) i

-- ---- every code

pub code_good : (n : ℕ) {A : Type 0} {f : Terminals} {g : A → Terminals} {e : Bool} (room : Room) (c : Code A f g e) → Good (form n room c) (reader n room c) (in_set f) (λ a. in_set (g a)) e
code_good n room (nothing a) = nothing_good a
code_good n room (token_of test ms of k x is) = wider (in_set ms) (λ _. in_set []) (one_good (fits n room) test) (λ k j. sym (of.same k) ∙ j) (λ a k j. refl)
code_good n room (pair {f1 = f1} {g1 = g1} {f2 = f2} {g2 = g2} {e1 = e1} {e2 = e2} c d far) =
    then_good (code_good n room c) (λ a. code_good n room (d a)) (λ a. apart_back g1 f2 far) (in_set (join e1 f2 f1)) (λ b. in_set (join e2 g1 (g2 b)))
    (λ k h. in_left e1 f2 f1 k h) (λ e a k h. in_right e1 f2 f1 k e h) (λ a ts rest b h k i. outside e2 g1 (g2 b) k i)
code_good n room (link {A = A} {B = B} {f1 = f1} {g1 = g1} {f2 = f2} {g2 = g2} {e2 = e2} c d far) =
    then_good (code_good n room c) (λ a. mapped_good (λ b. (a, b)) (linked a) (code_good n room (d a)) (λ b k h. h)) (λ a. apart_back (g1 a) (f2 a) (far a)) (in_set f1) (λ ab. in_set (join e2 (g1 ab.0) (g2 ab.0 ab.1)))
    (λ k h. h) (λ e a k h. absurd cc)
    (λ a ts rest ab h k i. covers a ab k h.0 h.1 i)
  where
    linked : A → (A × B) → Symbol → Bool
    linked a ab = in_set (g2 a ab.1)

    covers : (a : A) (ab : A × B) (k : Symbol) (b : B) → ab ≡ (a, b) → in_set (join e2 (g1 ab.0) (g2 ab.0 ab.1)) k ≡ false → (linked a ab k ≡ false) × (e2 ≡ true → in_set (g1 a) k ≡ false)
    covers a ab k b e i =
        let j = subst (λ x. in_set (join e2 (g1 x.0) (g2 x.0 x.1)) k ≡ false) e i in
        subst (λ x. (linked a x k ≡ false) × (e2 ≡ true → in_set (g1 a) k ≡ false)) (sym e) (outside e2 (g1 a) (g2 a b) k j)
code_good n room (choice {f1 = f1} {f2 = f2} {g1 = g1} {g2 = g2} {e2 = e2} c d far) =
    wider (in_set (join true f2 f1)) (λ a. in_set (join true (join e2 f1 (g2 a)) (g1 a)))
    (either_good (code_good n room c) (code_good n room d) (apart f1 f2 far) (λ a. in_set (join true (join e2 f1 (g2 a)) (g1 a))) (λ a k i.
    let x = outside true (join e2 f1 (g2 a)) (g1 a) k i in let y = outside e2 f1 (g2 a) k (x.1 refl) in (x.0, y.0, y.1)))
    (λ k h. has_join true f2 f1 k ∙ h) (λ a k h. h)
code_good n room (maybe {f = f} {g = g} c) = maybe_good (code_good n room c) (λ o. in_set (after_maybe f g o)) (λ k h. h) (λ a k h. h)
code_good n room (many {f1 = f1} {g1 = g1} c far a) =
    wider (in_set f1) (λ _. in_set (join true g1 f1)) (repeats_good (λ a. code_good n room (c a)) (apart_back g1 f1 far) a) (λ k h. h) (λ a k h. sym (has_join true g1 f1 k) ∙ h)
code_good n room (mapped {g = g} g' h c i) = mapped_good h (λ b. in_set (g' b)) (code_good n room c) (λ a k j. false_back (in_set (g a) k) (in_set (g' (h a)) k) (has_too (g a) (g' (h a)) (number k.terminal) (i a)) j)
code_good n room (within {f = f} {g = g} f' g' c h i) =
    wider (in_set f') (λ a. in_set (g' a)) (code_good n room c) (λ k j. has_too f f' (number k.terminal) (and_parts (subset f f') (subset f' f) h).0 j) (λ a k j. false_back (in_set (g a) k) (in_set (g' a) k) (has_too (g a) (g' a) (number k.terminal) (i a)) j)
code_good zero room (deeper c) = code_good zero room c
code_good (suc n) room (deeper c) = code_good n room c
code_good n room (outermost c) = headed_good (enter room) (λ room. code_good n room c) (enter_same room)
code_good zero room (refer x) = bottom_good (in_set (begins x)) (λ a. in_set (goes x a))
code_good (suc n) room (refer x) = code_good n room (rules x)
