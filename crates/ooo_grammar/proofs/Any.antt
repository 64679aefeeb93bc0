-- Spellings with as many levels and operators as they like, and what stands between these and the limited ones.
use Rattle.std.proofs.Common.{◌≡◌, ℕ, zero, suc, ◌+◌, ◌≤◌, Bool, true, false, not, ◌||◌, List, [], ◌∷◌, Option, Some, None, ◌⊎◌, inl, inr, ⊎_elim, refl, sym, ap, ◌∙◌, subst, arith}
use Rattle.std.proofs.lemmas.Bool.{and_parts, and_from}
use Rattle.ooo_syntax.specs.declared.symbol.Symbol.{Symbol}
use Rattle.ooo_grammar.specs.Sets.{Terminals}
use Rattle.ooo_grammar.specs.Forms.{Form, Nothing, One, Then, Mapped, Either, Maybe, Repeats, stop, go}
use Rattle.ooo_grammar.specs.Codes.{Code, nothing, token_of, pair, link, choice, maybe, many, mapped, within, deeper, outermost, refer}
use Rattle.ooo_grammar.specs.Rules.{rules}
use Rattle.ooo_grammar.specs.Readings.{Room, free, below, has_level, enter, fits, form}

abbrev pub any : {A : Type 0} {f : Terminals} {g : A → Terminals} {e : Bool} → Code A f g e → Form A
any (nothing a) = Nothing a
any (token_of test ms of k x is) = One (λ _. true) test
any (pair c d far) = Then (any c) (λ a. any (d a))
any (link c d far) = Then (any c) (λ a. Mapped (λ b. (a, b)) (any (d a)))
any (choice c d far) = Either (any c) (any d)
any (maybe c) = Maybe (any c)
any (many c far a) = Repeats (λ a. any (c a)) a
any (mapped g' h c i) = Mapped h (any c)
any (within f' g' c h i) = any c
any (deeper c) = any c
any (outermost c) = any c
any (refer x) = λ ts a rest. (n : ℕ) × form n free (rules x) ts a rest

-- ---- rooms

-- the same room, or one without limits
abbrev pub Looser : Room → Room → Type 0
Looser r s = (r ≡ s) ⊎ (s ≡ free)

pub enter_free : (ts : List Symbol) → enter free ts ≡ free
enter_free [] = refl
enter_free (k ∷ ts) = refl

pub enter_looser : (r s : Room) (ts : List Symbol) → Looser r s → Looser (enter r ts) (enter s ts)
enter_looser r s ts l = ⊎_elim (λ e. inl (ap (λ r. enter r ts) e)) (λ e. inr (ap (λ r. enter r ts) e ∙ enter_free ts)) l

level_grows : (n m : ℕ) → n ≤ m → has_level n ≡ true → has_level m ≡ true
level_grows zero m le e = absurd cc
level_grows (suc n) zero le e = absurd (omega arith)
level_grows (suc n) (suc m) le e = refl

or_true : (a b : Bool) → b ≡ true → (a || b) ≡ true
or_true true b e = refl
or_true false b e = e

pub fits_grows : (n m : ℕ) (r s : Room) (k : Symbol) → n ≤ m → Looser r s → fits n r k ≡ true → fits m s k ≡ true
fits_grows n m r s k le l h =
    let b = and_parts (has_level n) (not k.counts || below r.bound k.before) h in
    and_from (has_level m) (not k.counts || below s.bound k.before) (level_grows n m le b.0)
    (⊎_elim (λ e. subst (λ r. (not k.counts || below r.bound k.before) ≡ true) e b.1)
    (λ e. subst (λ r. (not k.counts || below r.bound k.before) ≡ true) (sym e) (or_true (not k.counts) true refl)) l)

fits_free : (k : Symbol) → fits 1 free k ≡ true
fits_free k = or_true (not k.counts) true refl

pub repeats_map : {A : Type 0} {step step' : A → Form A} → ((a : A) (ts : List Symbol) (b : A) (rest : List Symbol) → step a ts b rest → step' a ts b rest)
    → {a c : A} {ts rest : List Symbol} → Repeats step a ts c rest → Repeats step' a ts c rest
repeats_map f stop = stop
repeats_map f (go {a = a} {b = b} {ts = ts} {mid = mid} s r) = go (f a ts b mid s) (repeats_map f r)

one_grows : {X : Type 0} (fits fits' : Symbol → Bool) (test : Symbol → Option X) → ((k : Symbol) → fits k ≡ true → fits' k ≡ true) → (ts : List Symbol) (x : X) (rest : List Symbol) → One fits test ts x rest → One fits' test ts x rest
one_grows fits fits' test f [] x rest h = h
one_grows fits fits' test f (k ∷ ts) x rest h = (f k h.0, h.1, h.2)

-- with more levels, or without limits, what is spelled is spelled
pub grows : (n : ℕ) {A : Type 0} {f : Terminals} {g : A → Terminals} {e : Bool} (m : ℕ) (r s : Room) (c : Code A f g e) (ts : List Symbol) (a : A) (rest : List Symbol) → n ≤ m → Looser r s → form n r c ts a rest → form m s c ts a rest
grows n m r s (nothing b) ts a rest le l h = h
grows n m r s (token_of test ms of k x is) ts a rest le l h = one_grows (fits n r) (fits m s) test (λ k. fits_grows n m r s k le l) ts a rest h
grows n m r s (pair c d far) ts a rest le l h = (h.0, h.1, grows n m r s c ts h.0 h.1 le l h.2, grows n m r s (d h.0) h.1 a rest le l h.3)
grows n m r s (link c d far) ts a rest le l h = (h.0, h.1, grows n m r s c ts h.0 h.1 le l h.2, (h.3.0, h.3.1, grows n m r s (d h.0) h.1 h.3.0 rest le l h.3.2))
grows n m r s (choice c d far) ts a rest le l h = ⊎_elim (λ h. inl (grows n m r s c ts a rest le l h)) (λ h. inr (grows n m r s d ts a rest le l h)) h
grows n m r s (maybe c) ts None rest le l h = h
grows n m r s (maybe c) ts (Some a) rest le l h = grows n m r s c ts a rest le l h
grows n m r s (many c far b) ts a rest le l h = repeats_map (λ a ts b rest h. grows n m r s (c a) ts b rest le l h) h
grows n m r s (mapped g' p c i) ts a rest le l h = (h.0, h.1, grows n m r s c ts h.0 rest le l h.2)
grows n m r s (within f' g' c p i) ts a rest le l h = grows n m r s c ts a rest le l h
grows zero zero r s (deeper c) ts a rest le l h = grows zero zero r s c ts a rest le l h
grows zero (suc m) r s (deeper c) ts a rest le l h = grows zero m r s c ts a rest (omega arith) l h
grows (suc n) zero r s (deeper c) ts a rest le l h = absurd (omega arith)
grows (suc n) (suc m) r s (deeper c) ts a rest le l h = grows n m r s c ts a rest (omega arith) l h
grows n m r s (outermost c) ts a rest le l h = grows n m (enter r ts) (enter s ts) c ts a rest le (enter_looser r s ts l) h
grows zero m r s (refer x) ts a rest le l h = absurd h
grows (suc n) zero r s (refer x) ts a rest le l h = absurd (omega arith)
grows (suc n) (suc m) r s (refer x) ts a rest le l h = grows n m r s (rules x) ts a rest (omega arith) l h

-- what is spelled within limits is spelled
pub lifts : {A : Type 0} {f : Terminals} {g : A → Terminals} {e : Bool} (c : Code A f g e) (n : ℕ) (r : Room) (ts : List Symbol) (a : A) (rest : List Symbol) → form n r c ts a rest → any c ts a rest
lifts (nothing b) n r ts a rest h = h
lifts (token_of test ms of k x is) n r ts a rest h = one_grows (fits n r) (λ _. true) test (λ k e. refl) ts a rest h
lifts (pair c d far) n r ts a rest h = (h.0, h.1, lifts c n r ts h.0 h.1 h.2, lifts (d h.0) n r h.1 a rest h.3)
lifts (link c d far) n r ts a rest h = (h.0, h.1, lifts c n r ts h.0 h.1 h.2, (h.3.0, h.3.1, lifts (d h.0) n r h.1 h.3.0 rest h.3.2))
lifts (choice c d far) n r ts a rest h = ⊎_elim (λ h. inl (lifts c n r ts a rest h)) (λ h. inr (lifts d n r ts a rest h)) h
lifts (maybe c) n r ts None rest h = h
lifts (maybe c) n r ts (Some a) rest h = lifts c n r ts a rest h
lifts (many c far b) n r ts a rest h = repeats_map (λ a ts b rest h. lifts (c a) n r ts b rest h) h
lifts (mapped g' p c i) n r ts a rest h = (h.0, h.1, lifts c n r ts h.0 rest h.2)
lifts (within f' g' c p i) n r ts a rest h = lifts c n r ts a rest h
lifts (deeper c) zero r ts a rest h = lifts c zero r ts a rest h
lifts (deeper c) (suc n) r ts a rest h = lifts c n r ts a rest h
lifts (outermost c) n r ts a rest h = lifts c n (enter r ts) ts a rest h
lifts (refer x) zero r ts a rest h = absurd h
lifts (refer x) (suc n) r ts a rest h = (n, grows n n r free (rules x) ts a rest (omega arith) (inr refl) h)

-- what is spelled is spelled on some number of levels
abbrev pub Some_levels : {A : Type 0} {f : Terminals} {g : A → Terminals} {e : Bool} → Code A f g e → Form A
Some_levels c ts a rest = (n : ℕ) × form n free c ts a rest

module _ {A : Type 0} {f1 g1 : Terminals} (c : (a : A) → Code A f1 (λ _. g1) false) (gathers : (a : A) (ts : List Symbol) (b : A) (rest : List Symbol) → any (c a) ts b rest → Some_levels (c a) ts b rest) where
  more_levels : (n m : ℕ) → n ≤ m → {a b : A} {ts rest : List Symbol} → Repeats (λ a. form n free (c a)) a ts b rest → Repeats (λ a. form m free (c a)) a ts b rest
  more_levels n m le h = repeats_map (λ a ts b rest h. grows n m free free (c a) ts b rest le (inl refl) h) h

  pub gather_many : {a b : A} {ts rest : List Symbol} → Repeats (λ a. any (c a)) a ts b rest → (n : ℕ) × Repeats (λ a. form n free (c a)) a ts b rest
  gather_many stop = (0, stop)
  gather_many (go {a = a} {b = b} {ts = ts} {mid = mid} s r) =
      let i = gathers a ts b mid s in let j = gather_many r in
      (i.0 + j.0, go (grows i.0 (i.0 + j.0) free free (c a) ts b mid (omega arith) (inl refl) i.1) (more_levels j.0 (i.0 + j.0) (omega arith) j.1))

pub gather : {A : Type 0} {f : Terminals} {g : A → Terminals} {e : Bool} (c : Code A f g e) (ts : List Symbol) (a : A) (rest : List Symbol) → any c ts a rest → Some_levels c ts a rest
gather (nothing b) ts a rest h = (0, h)
gather (token_of test ms of k x is) ts a rest h = (1, one_grows (λ _. true) (fits 1 free) test (λ k e. fits_free k) ts a rest h)
gather (pair c d far) ts a rest h =
    let i = gather c ts h.0 h.1 h.2 in let j = gather (d h.0) h.1 a rest h.3 in
    (i.0 + j.0, (h.0, h.1, grows i.0 (i.0 + j.0) free free c ts h.0 h.1 (omega arith) (inl refl) i.1, grows j.0 (i.0 + j.0) free free (d h.0) h.1 a rest (omega arith) (inl refl) j.1))
gather (link c d far) ts a rest h =
    let i = gather c ts h.0 h.1 h.2 in let j = gather (d h.0) h.1 h.3.0 rest h.3.2 in
    (i.0 + j.0, (h.0, h.1, grows i.0 (i.0 + j.0) free free c ts h.0 h.1 (omega arith) (inl refl) i.1, (h.3.0, h.3.1, grows j.0 (i.0 + j.0) free free (d h.0) h.1 h.3.0 rest (omega arith) (inl refl) j.1)))
gather (choice c d far) ts a rest h = ⊎_elim (λ h. let i = gather c ts a rest h in (i.0, inl i.1)) (λ h. let i = gather d ts a rest h in (i.0, inr i.1)) h
gather (maybe c) ts None rest h = (0, h)
gather (maybe c) ts (Some a) rest h = let i = gather c ts a rest h in (i.0, i.1)
gather (many c far b) ts a rest h = gather_many c (λ a ts b rest h. gather (c a) ts b rest h) h
gather (mapped g' p c i) ts a rest h = let i = gather c ts h.0 rest h.2 in (i.0, (h.0, h.1, i.1))
gather (within f' g' c p i) ts a rest h = gather c ts a rest h
gather (deeper c) ts a rest h = let i = gather c ts a rest h in (suc i.0, i.1)
gather (outermost c) ts a rest h = let i = gather c ts a rest h in (i.0, subst (λ r. form i.0 r c ts a rest) (sym (enter_free ts)) i.1)
gather (refer x) ts a rest h = (suc h.0, h.1)
