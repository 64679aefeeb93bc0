-- Two readers of one grammar: the one with the lesser limits says too deep, or both say the same.
use Rattle.std.proofs.Common.{◌≡◌, ℕ, zero, suc, ◌≤◌, Bool, true, false, if◌then◌else◌, List, [], ◌∷◌, ◌++◌, Option, Some, None, ◌⊎◌, inl, inr, ⊎_elim, length, refl, sym, ap, ◌∙◌, subst, arith}
use Rattle.ooo_syntax.specs.declared.symbol.Symbol.{Symbol}
use Rattle.ooo_grammar.specs.Sets.{Terminals, in_set}
use Rattle.ooo_grammar.specs.Names.{begins}
use Rattle.ooo_grammar.specs.Forms.{Outcome, Got, Bad, Deep, Reader, nothing_r, one_r, one_at, after, mapped_r, begins_with, repeats_in}
use Rattle.ooo_grammar.specs.Codes.{Code, nothing, token_of, pair, link, choice, maybe, many, mapped, within, deeper, outermost, refer}
use Rattle.ooo_grammar.specs.Rules.{rules}
use Rattle.ooo_grammar.specs.Readings.{Room, free, enter, fits, reader}
use Rattle.ooo_grammar.proofs.Codes.{code_good}
use Rattle.ooo_grammar.proofs.Any.{any, gather, Looser, enter_looser, fits_grows}
use Rattle.ooo_grammar.proofs.Ends.{code_ends}

abbrev pub Agrees : {A : Type 0} → Outcome A → Outcome A → Type 0
Agrees o p = ((rest : List Symbol) × (o ≡ Deep rest)) ⊎ (o ≡ p)

-- a reader refuses at once a token that can't begin its form
pub idle : (n : ℕ) {A : Type 0} {f : Terminals} {g : A → Terminals} (room : Room) (c : Code A f g false) (ts : List Symbol) → begins_with (in_set f) ts ≡ false → reader n room c ts ≡ Bad ts
idle n {A = A} {f = f} room c ts e = at (reader n room c ts) refl
  where
    spelled : (xs : List Symbol) (a : A) → any c xs a [] → begins_with (in_set f) xs ≡ true
    spelled xs a h =
        let i = gather c xs a [] h in
        ⊎_elim (λ s. s) (λ n. let c = n.0 in absurd cc) ((code_good i.0 free c).starts i.1)

    bad : (read rest more : List Symbol) (a : A) → ts ≡ read ++ rest → any c (read ++ (more ++ [])) a [] → rest ≡ ts
    bad [] rest more a i h = sym i
    bad (k ∷ read) rest more a i h =
        let s = spelled (k ∷ (read ++ (more ++ []))) a h in
        let b : begins_with (in_set f) (k ∷ read) ≡ false = sym (ap (begins_with (in_set f)) i) ∙ e in
        absurd cc

    deep : (read later more : List Symbol) (k : Symbol) (a : A) → ts ≡ read ++ k ∷ later → any c (read ++ k ∷ (more ++ [])) a [] → ⊥
    deep [] later more k a i h =
        let s = spelled (k ∷ (more ++ [])) a h in
        let b : begins_with (in_set f) (k ∷ later) ≡ false = sym (ap (begins_with (in_set f)) i) ∙ e in
        cc
    deep (j ∷ read) later more k a i h =
        let s = spelled (j ∷ (read ++ k ∷ (more ++ []))) a h in
        let b : begins_with (in_set f) (j ∷ read) ≡ false = sym (ap (begins_with (in_set f)) i) ∙ e in
        cc

    at : (o : Outcome A) → reader n room c ts ≡ o → reader n room c ts ≡ Bad ts
    at (Got a rest) i = ⊎_elim (λ s. absurd cc) (λ n. let c = n.0 in absurd cc) ((code_good n room c).starts ((code_good n room c).sound i))
    at (Bad rest) i = let j = (code_ends n room c).completes i in i ∙ ap Bad (bad j.read rest j.more j.value j.is (j.whole []))
    at (Deep rest) i = let j = (code_ends n room c).reaches i in absurd (deep j.read j.later j.more j.token j.value j.is (j.whole []))

after_agrees : {A B : Type 0} (o p : Outcome A) (q r : A → Reader B) → Agrees o p → ((a : A) (mid : List Symbol) → Agrees (q a mid) (r a mid)) → Agrees (after o q) (after p r)
after_agrees o p q r h k = ⊎_elim (λ d. inl (d.0, ap (λ o. after o q) d.1)) (λ e. subst (λ p. Agrees (after o q) (after p r)) e (same o)) h
  where
    same : (o : Outcome _) → Agrees (after o q) (after o r)
    same (Got a mid) = k a mid
    same (Bad rest) = inr refl
    same (Deep rest) = inr refl

if_agrees : {A : Type 0} (b : Bool) (o p o' p' : Outcome A) → Agrees o o' → Agrees p p' → Agrees (if b then o else p) (if b then o' else p')
if_agrees true o p o' p' h k = h
if_agrees false o p o' p' h k = k

one_agrees : {X : Type 0} (fits fits' : Symbol → Bool) (test : Symbol → Option X) → ((k : Symbol) → fits k ≡ true → fits' k ≡ true) → (ts : List Symbol) → Agrees (one_r fits test ts) (one_r fits' test ts)
one_agrees fits fits' test h [] = inr refl
one_agrees {X} fits fits' test h (k ∷ ts) = at (fits k) (fits' k) (test k) (h k)
  where
    at : (b b' : Bool) (o : Option X) → (b ≡ true → b' ≡ true) → Agrees (one_at b o k ts) (one_at b' o k ts)
    at b b' None i = inr refl
    at true true (Some x) i = inr refl
    at true false (Some x) i = let c = i refl in absurd cc
    at false b' (Some x) i = inl (k ∷ ts, refl)

repeats_agrees : {A : Type 0} (first : Symbol → Bool) (p q : A → Reader A) → ((a : A) (ts : List Symbol) → Agrees (p a ts) (q a ts)) → (n : ℕ) (a : A) (ts : List Symbol) → Agrees (repeats_in first p n a ts) (repeats_in first q n a ts)
repeats_agrees first p q h zero a ts = inr refl
repeats_agrees first p q h (suc n) a ts =
    if_agrees (begins_with first ts) (after (p a ts) (repeats_in first p n)) (Got a ts) (after (q a ts) (repeats_in first q n)) (Got a ts)
    (after_agrees (p a ts) (q a ts) (repeats_in first p n) (repeats_in first q n) (h a ts) (λ a mid. repeats_agrees first p q h n a mid)) (inr refl)

mapped_agrees : {A B : Type 0} (h : A → B) (o p : Outcome A) → Agrees o p → Agrees (after o (λ a. nothing_r (h a))) (after p (λ a. nothing_r (h a)))
mapped_agrees h o p k = after_agrees o p (λ a. nothing_r (h a)) (λ a. nothing_r (h a)) k (λ a mid. inr refl)

bottom_agrees : {A : Type 0} (b : Bool) (ts : List Symbol) (o : Outcome A) → (b ≡ false → o ≡ Bad ts) → Agrees (if b then Deep ts else Bad ts) o
bottom_agrees true ts o h = inl (ts, refl)
bottom_agrees false ts o h = inr (sym (h refl))

pub agree : (n : ℕ) {A : Type 0} {f : Terminals} {g : A → Terminals} {e : Bool} (m : ℕ) (r s : Room) (c : Code A f g e) (ts : List Symbol) → n ≤ m → Looser r s → Agrees (reader n r c ts) (reader m s c ts)
agree n m r s (nothing a) ts le l = inr refl
agree n m r s (token_of test ms of k x is) ts le l = one_agrees (fits n r) (fits m s) test (λ k. fits_grows n m r s k le l) ts
agree n m r s (pair c d far) ts le l = after_agrees (reader n r c ts) (reader m s c ts) (λ a. reader n r (d a)) (λ a. reader m s (d a)) (agree n m r s c ts le l) (λ a mid. agree n m r s (d a) mid le l)
agree n m r s (link c d far) ts le l =
    after_agrees (reader n r c ts) (reader m s c ts) (λ a. mapped_r (λ b. (a, b)) (reader n r (d a))) (λ a. mapped_r (λ b. (a, b)) (reader m s (d a))) (agree n m r s c ts le l)
    (λ a mid. mapped_agrees (λ b. (a, b)) (reader n r (d a) mid) (reader m s (d a) mid) (agree n m r s (d a) mid le l))
agree n m r s (choice {f1 = f1} c d far) ts le l = if_agrees (begins_with (in_set f1) ts) (reader n r c ts) (reader n r d ts) (reader m s c ts) (reader m s d ts) (agree n m r s c ts le l) (agree n m r s d ts le l)
agree n m r s (maybe {f = f} c) ts le l =
    if_agrees (begins_with (in_set f) ts) (mapped_r Some (reader n r c) ts) (Got None ts) (mapped_r Some (reader m s c) ts) (Got None ts) (mapped_agrees Some (reader n r c ts) (reader m s c ts) (agree n m r s c ts le l)) (inr refl)
agree n m r s (many {f1 = f1} c far a) ts le l = repeats_agrees (in_set f1) (λ a. reader n r (c a)) (λ a. reader m s (c a)) (λ a ts. agree n m r s (c a) ts le l) (length ts) a ts
agree n m r s (mapped g' h c i) ts le l = mapped_agrees h (reader n r c ts) (reader m s c ts) (agree n m r s c ts le l)
agree n m r s (within f' g' c h i) ts le l = agree n m r s c ts le l
agree zero zero r s (deeper c) ts le l = agree zero zero r s c ts le l
agree zero (suc m) r s (deeper c) ts le l = agree zero m r s c ts (omega arith) l
agree (suc n) zero r s (deeper c) ts le l = absurd (omega arith)
agree (suc n) (suc m) r s (deeper c) ts le l = agree n m r s c ts (omega arith) l
agree n m r s (outermost c) ts le l = agree n m (enter r ts) (enter s ts) c ts le (enter_looser r s ts l)
agree zero zero r s (refer x) ts le l = inr refl
agree zero (suc m) r s (refer x) ts le l = bottom_agrees (begins_with (in_set (begins x)) ts) ts (reader m s (rules x) ts) (λ e. idle m s (rules x) ts e)
agree (suc n) zero r s (refer x) ts le l = absurd (omega arith)
agree (suc n) (suc m) r s (refer x) ts le l = agree n m r s (rules x) ts (omega arith) l
