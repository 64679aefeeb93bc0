-- What makes a reader the reader of a form, and how readers are put together.
use Rattle.std.proofs.Common.{◌≡◌, ℕ, zero, suc, ◌+◌, ◌<◌, ◌≤◌, Bool, true, false, ◌||◌, ◌&&◌, if◌then◌else◌, List, [], ◌∷◌, ◌++◌, Option, Some, None, is_some, ◌⊎◌, inl, inr, ⊎_elim, length, refl, sym, ap, ◌∙◌, subst, arith, append_assoc, length-append}
use Rattle.std.proofs.lemmas.Bool.{cond-true, cond-false}
use Rattle.ooo_syntax.specs.declared.symbol.Symbol.{Symbol}
use Rattle.ooo_grammar.specs.Forms.{Outcome, Got, Bad, Deep, Form, Reader, Never, Nothing, nothing_r, One, one_at, one_r, Then, after, then_r, Mapped, mapped_r, Either, begins_with, either_r, Maybe, maybe_r, Repeats, stop, go, repeats_in, repeats_r, bottom_r}

abbrev pub none : Symbol → Bool
none k = false

-- f, or where a test holds also g
abbrev pub or_if : Bool → (Symbol → Bool) → (Symbol → Bool) → Symbol → Bool
or_if false g f = f
or_if true g f = λ k. f k || g k

-- no token both goes on with one and begins the other
pub record Apart (first goes : Symbol → Bool) : Type 0 where
  pub apart : (k : Symbol) → first k ≡ true → goes k ≡ false

-- two rests that no test of the first token tells apart
pub record SameHead (ts us : List Symbol) : Type 0 where
  pub same : (f : Symbol → Bool) → begins_with f ts ≡ begins_with f us

pub head_append : (xs : List Symbol) {ts us : List Symbol} → SameHead ts us → SameHead (xs ++ ts) (xs ++ us)
head_append [] h = h
head_append (k ∷ xs) h = record { same = λ f. refl }

-- what stands before a rest, and a fact of it that holds before other rests
pub record Moved (ts rest : List Symbol) (P : List Symbol → List Symbol → Type 0) : Type 0 where
  pub read : List Symbol
  pub is : ts ≡ read ++ rest
  pub moves : (us : List Symbol) → P (read ++ us) us

-- `first` may begin the form, `goes` may continue it after a value, and `empty` says whether nothing may spell it
pub record Good {A : Type 0} (P : Form A) (p : Reader A) (first : Symbol → Bool) (goes : A → Symbol → Bool) (empty : Bool) : Type 0 where
  pub sound : {ts rest : List Symbol} {a : A} → p ts ≡ Got a rest → P ts a rest
  pub starts : {ts rest : List Symbol} {a : A} → P ts a rest → (begins_with first ts ≡ true) ⊎ ((empty ≡ true) × (ts ≡ rest))
  pub eats : {ts rest : List Symbol} {a : A} → empty ≡ false → P ts a rest → length rest < length ts
  pub only : {ts rest : List Symbol} {a : A} → P ts a rest → begins_with (goes a) rest ≡ false → p ts ≡ Got a rest
  pub moves : {ts rest : List Symbol} {a : A} → P ts a rest → Moved ts rest (λ xs us. P xs a us)
  pub got : {ts rest : List Symbol} {a : A} → p ts ≡ Got a rest → Moved ts rest (λ xs us. SameHead rest us → p xs ≡ Got a us)
  pub bad : {ts rest : List Symbol} → p ts ≡ Bad rest → Moved ts rest (λ xs us. SameHead rest us → p xs ≡ Bad us)

pub nothing_good : {A : Type 0} (a : A) → Good (Nothing a) (nothing_r a) none (λ _. none) true
nothing_good a = record {
  sound = λ e. (cc, cc);
  starts = λ h. inr (refl, h.1);
  eats = λ e h. absurd cc;
  only = λ h _. let i = h.0 in let j = h.1 in cc;
  moves = λ h. record { read = []; is = h.1; moves = λ us. (h.0, refl) };
  got = λ e. record { read = []; is = cc; moves = λ us h. let b : _ ≡ a = cc in ap (λ b. Got b us) (sym b) };
  bad = λ e. absurd cc;
}

-- ---- choices by a test

pub if_is : {A : Type 0} (b : Bool) (x y z : A) → (if b then x else y) ≡ z → ((b ≡ true) × (x ≡ z)) ⊎ ((b ≡ false) × (y ≡ z))
if_is true x y z e = inl (refl, e)
if_is false x y z e = inr (refl, e)

-- a test of the first token, before another rest
pub same_begin : (f : Symbol → Bool) (b : Bool) (ts read rest us : List Symbol) → ts ≡ read ++ rest → SameHead rest us → begins_with f ts ≡ b → begins_with f (read ++ us) ≡ b
same_begin f b ts read rest us e h i = sym ((head_append read h).same f) ∙ ap (begins_with f) (sym e) ∙ i

-- ---- no level left

pub bottom_good : {A : Type 0} (first : Symbol → Bool) (goes : A → Symbol → Bool) → Good (Never {A = A}) (bottom_r first) first goes false
bottom_good {A} first goes = record {
  sound = λ {ts} {rest} {a} e. absurd (not_got (begins_with first ts) ts rest a e);
  starts = λ h. absurd h;
  eats = λ e h. absurd h;
  only = λ h e. absurd h;
  moves = λ h. absurd h;
  got = λ {ts} {rest} {a} e. absurd (not_got (begins_with first ts) ts rest a e);
  bad = λ {ts} {rest} e. let b = is_bad (begins_with first ts) ts rest refl e in record { read = []; is = b.1; moves = λ us h. cond-false _ _ _ (sym (h.same first) ∙ ap (begins_with first) (sym b.1) ∙ b.0) };
}
  where
    not_got : (b : Bool) (ts rest : List Symbol) (a : A) → (if b then Deep ts else Bad ts) ≡ Got a rest → ⊥
    not_got true ts rest a e = cc
    not_got false ts rest a e = cc

    is_bad : (b : Bool) (ts rest : List Symbol) → begins_with first ts ≡ b → ◌≡◌ {A = Outcome A} (if b then Deep ts else Bad ts) (Bad rest) → (begins_with first ts ≡ false) × (ts ≡ rest)
    is_bad true ts rest f e = absurd cc
    is_bad false ts rest f e = (f, cc)

-- ---- one token, where it fits

module _ {X : Type 0} (fits : Symbol → Bool) (test : Symbol → Option X) where
  abbrev of_class : Symbol → Bool
  of_class k = is_some (test k)

  one_sound : (ts rest : List Symbol) (x : X) → one_r fits test ts ≡ Got x rest → One fits test ts x rest
  one_sound [] rest x e = absurd cc
  one_sound (k ∷ ts) rest x e = at (fits k) (test k) refl refl e
    where
      at : (b : Bool) (o : Option X) → fits k ≡ b → test k ≡ o → one_at b o k ts ≡ Got x rest → (fits k ≡ true) × (test k ≡ Some x) × (ts ≡ rest)
      at b None g f e = absurd cc
      at true (Some y) g f e = let i : y ≡ x = cc in (g, f ∙ ap Some i, cc)
      at false (Some y) g f e = absurd cc

  one_only : (ts rest : List Symbol) (x : X) → One fits test ts x rest → one_r fits test ts ≡ Got x rest
  one_only [] rest x h = absurd h
  one_only (k ∷ ts) rest x h = ap (λ b. one_at b (test k) k ts) h.0 ∙ ap (λ o. one_at true o k ts) h.1 ∙ ap (Got x) h.2

  one_starts : (ts rest : List Symbol) (x : X) → One fits test ts x rest → begins_with of_class ts ≡ true
  one_starts [] rest x h = absurd h
  one_starts (k ∷ ts) rest x h = ap is_some h.1

  one_eats : (ts rest : List Symbol) (x : X) → One fits test ts x rest → length rest < length ts
  one_eats [] rest x h = absurd h
  one_eats (k ∷ ts) rest x h = omega (arith, ap length h.2)

  one_moves : (ts rest : List Symbol) (x : X) → One fits test ts x rest → Moved ts rest (λ xs us. One fits test xs x us)
  one_moves [] rest x h = absurd h
  one_moves (k ∷ ts) rest x h = record { read = k ∷ []; is = ap (λ ts. k ∷ ts) h.2; moves = λ us. (h.0, h.1, refl) }

  pub one_bad : (ts rest : List Symbol) → one_r fits test ts ≡ Bad rest → (ts ≡ rest) × (begins_with of_class ts ≡ false)
  one_bad [] rest e = (cc, refl)
  one_bad (k ∷ ts) rest e = at (fits k) (test k) refl e
    where
      at : (b : Bool) (o : Option X) → test k ≡ o → one_at b o k ts ≡ Bad rest → (◌≡◌ {A = List Symbol} (k ∷ ts) rest) × (is_some (test k) ≡ false)
      at b None f e = (cc, ap is_some f)
      at true (Some y) f e = absurd cc
      at false (Some y) f e = absurd cc

  pub one_refuses : (us : List Symbol) → begins_with of_class us ≡ false → one_r fits test us ≡ Bad us
  one_refuses [] h = refl
  one_refuses (k ∷ us) h = at (fits k) (test k) refl
    where
      at : (b : Bool) (o : Option X) → test k ≡ o → one_at b o k us ≡ Bad (k ∷ us)
      at b None f = refl
      at b (Some y) f = let i : is_some (test k) ≡ true = ap is_some f in absurd cc

  pub one_good : Good (One fits test) (one_r fits test) of_class (λ _. none) false
  one_good = record {
    sound = λ e. one_sound _ _ _ e;
    starts = λ h. inl (one_starts _ _ _ h);
    eats = λ _ h. one_eats _ _ _ h;
    only = λ h _. one_only _ _ _ h;
    moves = λ h. one_moves _ _ _ h;
    got = λ e. let m = one_moves _ _ _ (one_sound _ _ _ e) in record { read = m.read; is = m.is; moves = λ us _. one_only _ _ _ (m.moves us) };
    bad = λ {ts} {rest} e. let b = one_bad _ _ e in record { read = []; is = b.0; moves = λ us h. one_refuses us (sym (h.same of_class) ∙ ap (begins_with of_class) (sym b.0) ∙ b.1) };
  }

-- ---- one form, and then another

pub or_false : (a b : Bool) → (a || b) ≡ false → (a ≡ false) × (b ≡ false)
or_false true b e = absurd cc
or_false false b e = (refl, e)

begins_or : (e : Bool) (g f : Symbol → Bool) (ts : List Symbol) → begins_with (or_if e g f) ts ≡ false → (begins_with f ts ≡ false) × (e ≡ true → begins_with g ts ≡ false)
begins_or false g f ts h = (h, λ e. absurd cc)
begins_or true g f [] h = (refl, λ e. refl)
begins_or true g f (k ∷ ts) h = let b = or_false (f k) (g k) h in (b.0, λ e. b.1)

begins_left : (e : Bool) (g f : Symbol → Bool) (ts : List Symbol) → begins_with f ts ≡ true → begins_with (or_if e g f) ts ≡ true
begins_left false g f ts h = h
begins_left true g f [] h = h
begins_left true g f (k ∷ ts) h = rw h refl

begins_right : (e : Bool) (g f : Symbol → Bool) (ts : List Symbol) → e ≡ true → begins_with g ts ≡ true → begins_with (or_if e g f) ts ≡ true
begins_right false g f ts e h = absurd cc
begins_right true g f [] e h = h
begins_right true g f (k ∷ ts) e h = at (f k) (g k) h
  where
    at : (a b : Bool) → b ≡ true → (a || b) ≡ true
    at true b i = refl
    at false b i = i

pub apart_begins : (first goes : Symbol → Bool) (ts : List Symbol) → Apart first goes → begins_with first ts ≡ true → begins_with goes ts ≡ false
apart_begins first goes [] h e = refl
apart_begins first goes (k ∷ ts) h e = h.apart k e

pub after_got : {A B : Type 0} (o : Outcome A) (q : A → Reader B) (b : B) (rest : List Symbol) → after o q ≡ Got b rest → (a : A) × (mid : List Symbol) × (o ≡ Got a mid) × (q a mid ≡ Got b rest)
after_got (Got a mid) q b rest e = (a, mid, refl, e)
after_got (Bad r) q b rest e = absurd cc
after_got (Deep r) q b rest e = absurd cc

pub after_bad : {A B : Type 0} (o : Outcome A) (q : A → Reader B) (rest : List Symbol) → after o q ≡ Bad rest → ((a : A) × (mid : List Symbol) × (o ≡ Got a mid) × (q a mid ≡ Bad rest)) ⊎ (o ≡ Bad rest)
after_bad (Got a mid) q rest e = inl (a, mid, refl, e)
after_bad (Bad r) q rest e = inr (let i : r ≡ rest = cc in ap Bad i)
after_bad (Deep r) q rest e = absurd cc

-- fewer tokens, at the head of a list
pub fewer : (g' g : Symbol → Bool) → ((k : Symbol) → g' k ≡ false → g k ≡ false) → (ts : List Symbol) → begins_with g' ts ≡ false → begins_with g ts ≡ false
fewer g' g h [] e = refl
fewer g' g h (k ∷ ts) e = h k e

pub more : (f f' : Symbol → Bool) → ((k : Symbol) → f k ≡ true → f' k ≡ true) → (ts : List Symbol) → begins_with f ts ≡ true → begins_with f' ts ≡ true
more f f' h [] e = e
more f f' h (k ∷ ts) e = h k e

module _ {A B : Type 0} {P : Form A} {p : Reader A} {first1 : Symbol → Bool} {goes1 : A → Symbol → Bool} {empty1 : Bool}
    {Q : A → Form B} {q : A → Reader B} {first2 : A → Symbol → Bool} {goes2 : A → B → Symbol → Bool} {empty2 : Bool}
    (good1 : Good P p first1 goes1 empty1) (good2 : (a : A) → Good (Q a) (q a) (first2 a) (goes2 a) empty2) (far : (a : A) → Apart (first2 a) (goes1 a))
    (first : Symbol → Bool) (goes : B → Symbol → Bool)
    (left : (k : Symbol) → first1 k ≡ true → first k ≡ true) (right : empty1 ≡ true → (a : A) (k : Symbol) → first2 a k ≡ true → first k ≡ true)
    (covers : (a : A) (ts rest : List Symbol) (b : B) → Q a ts b rest → (k : Symbol) → goes b k ≡ false → (goes2 a b k ≡ false) × (empty2 ≡ true → goes1 a k ≡ false)) where
  then_ends : (a : A) (mid rest : List Symbol) (b : B) → Q a mid b rest → begins_with (goes b) rest ≡ false → begins_with (goes1 a) mid ≡ false
  then_ends a mid rest b h e =
      ⊎_elim
      (λ s. apart_begins (first2 a) (goes1 a) mid (far a) s)
      (λ n. ap (begins_with (goes1 a)) n.1 ∙ fewer (goes b) (goes1 a) (λ k g. (covers a mid rest b h k g).1 n.0) rest e)
      ((good2 a).starts h)

  then_eats : (a : A) (ts mid rest : List Symbol) (b : B) → (empty1 && empty2) ≡ false → P ts a mid → Q a mid b rest → length rest < length ts
  then_eats a ts mid rest b e h k =
      let i = good1.moves h in let j = (good2 a).moves k in
      let m : length ts ≡ length i.read + length mid = ap length i.is ∙ length-append i.read mid in
      let n : length mid ≡ length j.read + length rest = ap length j.is ∙ length-append j.read rest in
      at empty1 empty2 _ _ refl refl e m n
    where
      at : (x y : Bool) (u v : ℕ) → empty1 ≡ x → empty2 ≡ y → (empty1 && empty2) ≡ false → length ts ≡ u + length mid → length mid ≡ v + length rest → length rest < length ts
      at false y u v f g e m n = let l = good1.eats f h in omega arith
      at true false u v f g e m n = let l = (good2 a).eats g k in omega arith
      at true true u v f g e m n = absurd cc

  then_join : (ts mid rest : List Symbol) (i : List Symbol) (j : List Symbol) → ts ≡ i ++ mid → mid ≡ j ++ rest → ts ≡ (i ++ j) ++ rest
  then_join ts mid rest i j e f = e ∙ ap (λ xs. i ++ xs) f ∙ sym (append_assoc i j rest)

  pub then_good : Good (Then P Q) (then_r p q) first goes (empty1 && empty2)
  then_good = record {
    sound = λ {ts} {rest} {a = b} e. let s = after_got (p ts) q b rest e in (s.0, s.1, good1.sound s.2, (good2 s.0).sound s.3);
    starts = λ {ts} {rest} {a = b} h. ⊎_elim
        (λ s. inl (more first1 first left ts s))
        (λ n. ⊎_elim
        (λ s. inl (more (first2 h.0) first (right n.0 h.0) ts (ap (begins_with (first2 h.0)) n.1 ∙ s)))
        (λ m. inr (rw (n.0, m.0) refl, n.1 ∙ m.1))
        ((good2 h.0).starts h.3))
        (good1.starts h.2);
    eats = λ {ts} {rest} {a = b} e h. then_eats h.0 ts h.1 rest b e h.2 h.3;
    only = λ {ts} {rest} {a = b} h e. ap (λ o. after o q) (good1.only h.2 (then_ends h.0 h.1 rest b h.3 e)) ∙ (good2 h.0).only h.3 (fewer (goes b) (goes2 h.0 b) (λ k g. (covers h.0 h.1 rest b h.3 k g).0) rest e);
    moves = λ {ts} {rest} {a = b} h. let i = good1.moves h.2 in let j = (good2 h.0).moves h.3 in record {
      read = i.read ++ j.read;
      is = then_join ts h.1 rest i.read j.read i.is j.is;
      moves = λ us. subst (λ xs. Then P Q xs b us) (sym (append_assoc i.read j.read us)) (h.0, j.read ++ us, i.moves (j.read ++ us), j.moves us);
    };
    got = λ {ts} {rest} {a = b} e. let s = after_got (p ts) q b rest e in let i = good1.got s.2 in let j = (good2 s.0).got s.3 in record {
      read = i.read ++ j.read;
      is = then_join ts s.1 rest i.read j.read i.is j.is;
      moves = λ us h. ap (then_r p q) (append_assoc i.read j.read us)
          ∙ ap (λ o. after o q) (i.moves (j.read ++ us) (subst (λ m. SameHead m (j.read ++ us)) (sym j.is) (head_append j.read h))) ∙ j.moves us h;
    };
    bad = λ {ts} {rest} e. ⊎_elim
        (λ s. let i = good1.got s.2 in let j = (good2 s.0).bad s.3 in record {
          read = i.read ++ j.read;
          is = then_join ts s.1 rest i.read j.read i.is j.is;
          moves = λ us h. ap (then_r p q) (append_assoc i.read j.read us)
              ∙ ap (λ o. after o q) (i.moves (j.read ++ us) (subst (λ m. SameHead m (j.read ++ us)) (sym j.is) (head_append j.read h))) ∙ j.moves us h;
        })
        (λ s. let i = good1.bad s in record { read = i.read; is = i.is; moves = λ us h. ap (λ o. after o q) (i.moves us h) })
        (after_bad (p ts) q rest e);
  }

-- ---- another value for each

module _ {A B : Type 0} (h : A → B) where
  pub mapped_is : (o : Outcome A) (b : B) (rest : List Symbol) → after o (λ a. nothing_r (h a)) ≡ Got b rest → (a : A) × (b ≡ h a) × (o ≡ Got a rest)
  mapped_is (Got a r) b rest e = let i : h a ≡ b = cc in let j : r ≡ rest = cc in (a, sym i, ap (Got a) j)
  mapped_is (Bad r) b rest e = absurd cc
  mapped_is (Deep r) b rest e = absurd cc

  pub mapped_bad : (o : Outcome A) (rest : List Symbol) → after o (λ a. nothing_r (h a)) ≡ Bad rest → o ≡ Bad rest
  mapped_bad (Got a r) rest e = absurd cc
  mapped_bad (Bad r) rest e = let i : r ≡ rest = cc in ap Bad i
  mapped_bad (Deep r) rest e = absurd cc

module _ {A B : Type 0} {P : Form A} {p : Reader A} {first : Symbol → Bool} {goes : A → Symbol → Bool} {empty : Bool} (h : A → B) (goes' : B → Symbol → Bool) where
  pub mapped_good : Good P p first goes empty → ((a : A) (k : Symbol) → goes' (h a) k ≡ false → goes a k ≡ false) → Good (Mapped h P) (mapped_r h p) first goes' empty
  mapped_good good covers = record {
    sound = λ {ts} {rest} {a = b} e. let s = mapped_is h (p ts) b rest e in (s.0, s.1, good.sound s.2);
    starts = λ s. good.starts s.2;
    eats = λ e s. good.eats e s.2;
    only = λ {ts} {rest} {a = b} s e. ap (λ o. after o (λ a. nothing_r (h a))) (good.only s.2 (fewer (goes' b) (goes s.0) (λ k g. covers s.0 k (ap (λ b. goes' b k) (sym s.1) ∙ g)) rest e)) ∙ ap (λ b. Got b rest) (sym s.1);
    moves = λ s. let i = good.moves s.2 in record { read = i.read; is = i.is; moves = λ us. (s.0, s.1, i.moves us) };
    got = λ {ts} {rest} {a = b} e. let s = mapped_is h (p ts) b rest e in let i = good.got s.2 in
        record { read = i.read; is = i.is; moves = λ us k. ap (λ o. after o (λ a. nothing_r (h a))) (i.moves us k) ∙ ap (λ b. Got b us) (sym s.1) };
    bad = λ {ts} {rest} e. let i = good.bad (mapped_bad h (p ts) rest e) in record { read = i.read; is = i.is; moves = λ us k. ap (λ o. after o (λ a. nothing_r (h a))) (i.moves us k) };
  }

-- ---- one form or another, by the first token

module _ {A : Type 0} {P Q : Form A} {p q : Reader A} {first1 first2 : Symbol → Bool} {goes1 goes2 : A → Symbol → Bool} {empty2 : Bool}
    (good1 : Good P p first1 goes1 false) (good2 : Good Q q first2 goes2 empty2) (far : Apart first1 first2) (goes : A → Symbol → Bool)
    (covers : (a : A) (k : Symbol) → goes a k ≡ false → (goes1 a k ≡ false) × (goes2 a k ≡ false) × (empty2 ≡ true → first1 k ≡ false)) where
  left_starts : (ts rest : List Symbol) (a : A) → P ts a rest → begins_with first1 ts ≡ true
  left_starts ts rest a h = ⊎_elim (λ s. s) (λ n. let c = n.0 in absurd cc) (good1.starts h)

  right_starts : (ts rest : List Symbol) (a : A) → Q ts a rest → begins_with (goes a) rest ≡ false → begins_with first1 ts ≡ false
  right_starts ts rest a h e =
      ⊎_elim
      (λ s. at (begins_with first1 ts) refl s)
      (λ n. ap (begins_with first1) n.1 ∙ fewer (goes a) first1 (λ k g. (covers a k g).2 n.0) rest e)
      (good2.starts h)
    where
      at : (b : Bool) → begins_with first1 ts ≡ b → begins_with first2 ts ≡ true → begins_with first1 ts ≡ false
      at true f s = let c = apart_begins first1 first2 ts far f in absurd cc
      at false f s = f

  pub either_good : Good (Either P Q) (either_r first1 p q) (or_if true first2 first1) goes empty2
  either_good = record {
    sound = λ {ts} {rest} {a} e. ⊎_elim (λ s. inl (good1.sound s.1)) (λ s. inr (good2.sound s.1)) (if_is (begins_with first1 ts) (p ts) (q ts) (Got a rest) e);
    starts = λ {ts} {rest} {a} h. ⊎_elim
        (λ k. inl (begins_left true first2 first1 ts (left_starts ts rest a k)))
        (λ k. ⊎_elim (λ s. inl (begins_right true first2 first1 ts refl s)) (λ n. inr n) (good2.starts k))
        h;
    eats = λ e h. ⊎_elim (λ k. good1.eats refl k) (λ k. good2.eats e k) h;
    only = λ {ts} {rest} {a} h e. ⊎_elim
        (λ k. cond-true (begins_with first1 ts) (p ts) (q ts) (left_starts ts rest a k) ∙ good1.only k (fewer (goes a) (goes1 a) (λ k g. (covers a k g).0) rest e))
        (λ k. cond-false (begins_with first1 ts) (p ts) (q ts) (right_starts ts rest a k e) ∙ good2.only k (fewer (goes a) (goes2 a) (λ k g. (covers a k g).1) rest e))
        h;
    moves = λ h. ⊎_elim
        (λ k. let i = good1.moves k in record { read = i.read; is = i.is; moves = λ us. inl (i.moves us) })
        (λ k. let i = good2.moves k in record { read = i.read; is = i.is; moves = λ us. inr (i.moves us) })
        h;
    got = λ {ts} {rest} {a} e. ⊎_elim
        (λ s. let i = good1.got s.1 in record { read = i.read; is = i.is; moves = λ us h. cond-true _ _ _ (same_begin first1 true ts i.read rest us i.is h s.0) ∙ i.moves us h })
        (λ s. let i = good2.got s.1 in record { read = i.read; is = i.is; moves = λ us h. cond-false _ _ _ (same_begin first1 false ts i.read rest us i.is h s.0) ∙ i.moves us h })
        (if_is (begins_with first1 ts) (p ts) (q ts) (Got a rest) e);
    bad = λ {ts} {rest} e. ⊎_elim
        (λ s. let i = good1.bad s.1 in record { read = i.read; is = i.is; moves = λ us h. cond-true _ _ _ (same_begin first1 true ts i.read rest us i.is h s.0) ∙ i.moves us h })
        (λ s. let i = good2.bad s.1 in record { read = i.read; is = i.is; moves = λ us h. cond-false _ _ _ (same_begin first1 false ts i.read rest us i.is h s.0) ∙ i.moves us h })
        (if_is (begins_with first1 ts) (p ts) (q ts) (Bad rest) e);
  }

-- ---- a form or nothing

module _ {A : Type 0} {P : Form A} {p : Reader A} {first : Symbol → Bool} {goes : A → Symbol → Bool} (good : Good P p first goes false) (goes' : Option A → Symbol → Bool)
    (at_none : (k : Symbol) → goes' None k ≡ false → first k ≡ false) (at_some : (a : A) (k : Symbol) → goes' (Some a) k ≡ false → goes a k ≡ false) where
  maybe_begins : (ts rest : List Symbol) (a : A) → P ts a rest → begins_with first ts ≡ true
  maybe_begins ts rest a h = ⊎_elim (λ s. s) (λ n. let c = n.0 in absurd cc) (good.starts h)

  maybe_sound : (ts rest : List Symbol) (o : Option A) → maybe_r first p ts ≡ Got o rest → Maybe P ts o rest
  maybe_sound ts rest o e = ⊎_elim
      (λ s. let m = mapped_is Some (p ts) o rest s.1 in subst (λ o. Maybe P ts o rest) (sym m.1) (good.sound m.2))
      (λ s. let i : None ≡ o = cc in let j : ts ≡ rest = cc in subst (λ o. Maybe P ts o rest) i j)
      (if_is (begins_with first ts) (mapped_r Some p ts) (Got None ts) (Got o rest) e)

  maybe_starts : (ts rest : List Symbol) (o : Option A) → Maybe P ts o rest → (begins_with first ts ≡ true) ⊎ ((true ≡ true) × (ts ≡ rest))
  maybe_starts ts rest None h = inr (refl, h)
  maybe_starts ts rest (Some a) h = inl (maybe_begins ts rest a h)

  maybe_only : (ts rest : List Symbol) (o : Option A) → Maybe P ts o rest → begins_with (goes' o) rest ≡ false → maybe_r first p ts ≡ Got o rest
  maybe_only ts rest None h e = cond-false _ _ _ (ap (begins_with first) h ∙ fewer (goes' None) first at_none rest e) ∙ ap (Got None) h
  maybe_only ts rest (Some a) h e = cond-true _ _ _ (maybe_begins ts rest a h) ∙ ap (λ o. after o (λ a. nothing_r (Some a))) (good.only h (fewer (goes' (Some a)) (goes a) (at_some a) rest e))

  maybe_moves : (ts rest : List Symbol) (o : Option A) → Maybe P ts o rest → Moved ts rest (λ xs us. Maybe P xs o us)
  maybe_moves ts rest None h = record { read = []; is = h; moves = λ us. refl }
  maybe_moves ts rest (Some a) h = let i = good.moves h in record { read = i.read; is = i.is; moves = λ us. i.moves us }

  pub maybe_good : Good (Maybe P) (maybe_r first p) first goes' true
  maybe_good = record {
    sound = λ {ts} {rest} {a = o} e. maybe_sound ts rest o e;
    starts = λ {ts} {rest} {a = o} h. maybe_starts ts rest o h;
    eats = λ e h. absurd cc;
    only = λ {ts} {rest} {a = o} h e. maybe_only ts rest o h e;
    moves = λ {ts} {rest} {a = o} h. maybe_moves ts rest o h;
    got = λ {ts} {rest} {a = o} e. ⊎_elim
        (λ s. let m = mapped_is Some (p ts) o rest s.1 in let i = good.got m.2 in
        record { read = i.read; is = i.is; moves = λ us h. cond-true _ _ _ (same_begin first true ts i.read rest us i.is h s.0) ∙ ap (λ o. after o (λ a. nothing_r (Some a))) (i.moves us h) ∙ ap (λ o. Got o us) (sym m.1) })
        (λ s. let i : None ≡ o = cc in let j : ts ≡ rest = cc in record { read = []; is = j; moves = λ us h. cond-false _ _ _ (sym (h.same first) ∙ ap (begins_with first) (sym j) ∙ s.0) ∙ ap (λ o. Got o us) i })
        (if_is (begins_with first ts) (mapped_r Some p ts) (Got None ts) (Got o rest) e);
    bad = λ {ts} {rest} e. ⊎_elim
        (λ s. let i = good.bad (mapped_bad Some (p ts) rest s.1) in
        record { read = i.read; is = i.is; moves = λ us h. cond-true _ _ _ (same_begin first true ts i.read rest us i.is h s.0) ∙ ap (λ o. after o (λ a. nothing_r (Some a))) (i.moves us h) })
        (λ s. let c = s.1 in absurd cc)
        (if_is (begins_with first ts) (mapped_r Some p ts) (Got None ts) (Bad rest) e);
  }

-- ---- a form any number of times

module _ {A : Type 0} {step : A → Form A} {step_r : A → Reader A} {first1 goes1 : Symbol → Bool}
    (good : (a : A) → Good (step a) (step_r a) first1 (λ _. goes1) false) (far : Apart first1 goes1) where
  begun : (a b : A) (ts mid : List Symbol) → step a ts b mid → begins_with first1 ts ≡ true
  begun a b ts mid h = ⊎_elim (λ s. s) (λ n. let c = n.0 in absurd cc) ((good a).starts h)

  stops_here : (m : ℕ) (a : A) (us : List Symbol) → begins_with first1 us ≡ false → repeats_in first1 step_r m a us ≡ Got a us
  stops_here zero a us h = refl
  stops_here (suc m) a us h = cond-false _ _ _ h

  goes_on : (m : ℕ) (a b : A) (xs mid : List Symbol) (o : Outcome A) → length xs ≤ m → begins_with first1 xs ≡ true → length mid < length xs → step_r a xs ≡ Got b mid
      → ((n : ℕ) → length mid ≤ n → repeats_in first1 step_r n b mid ≡ o) → repeats_in first1 step_r m a xs ≡ o
  goes_on zero a b xs mid o le f lt e h = absurd (omega arith)
  goes_on (suc m) a b xs mid o le f lt e h = cond-true _ _ _ f ∙ ap (λ x. after x (repeats_in first1 step_r m)) e ∙ h m (omega arith)

  repeats_sound : (n : ℕ) (a c : A) (ts rest : List Symbol) → repeats_in first1 step_r n a ts ≡ Got c rest → Repeats step a ts c rest
  repeats_sound zero a c ts rest e = let i : a ≡ c = cc in let j : ts ≡ rest = cc in subst (λ c. Repeats step a ts c rest) i (subst (λ rest. Repeats step a ts a rest) j stop)
  repeats_sound (suc n) a c ts rest e =
      ⊎_elim
      (λ s. let g = after_got (step_r a ts) (repeats_in first1 step_r n) c rest s.1 in go ((good a).sound g.2) (repeats_sound n g.0 c g.1 rest g.3))
      (λ s. let i : a ≡ c = cc in let j : ts ≡ rest = cc in subst (λ c. Repeats step a ts c rest) i (subst (λ rest. Repeats step a ts a rest) j stop))
      (if_is (begins_with first1 ts) (after (step_r a ts) (repeats_in first1 step_r n)) (Got a ts) (Got c rest) e)

  repeats_starts : {a c : A} {ts rest : List Symbol} → Repeats step a ts c rest → (begins_with first1 ts ≡ true) ⊎ ((true ≡ true) × (ts ≡ rest))
  repeats_starts stop = inr (refl, refl)
  repeats_starts (go {a = a} {b = b} {ts = ts} {mid = mid} s r) = inl (begun a b ts mid s)

  abbrev repeat_goes : Symbol → Bool
  repeat_goes = or_if true goes1 first1

  repeats_only : {a c : A} {ts rest : List Symbol} → Repeats step a ts c rest → begins_with repeat_goes rest ≡ false → (m : ℕ) → length ts ≤ m → repeats_in first1 step_r m a ts ≡ Got c rest
  repeats_only (stop {a = a} {rest = rest}) e m le = stops_here m a rest (begins_or true goes1 first1 rest e).0
  repeats_only (go {a = a} {b = b} {c = c} {ts = ts} {mid = mid} {rest = rest} s r) e m le =
      let g : begins_with goes1 mid ≡ false = ⊎_elim (λ x. apart_begins first1 goes1 mid far x) (λ n. ap (begins_with goes1) n.1 ∙ (begins_or true goes1 first1 rest e).1 refl) (repeats_starts r) in
      goes_on m a b ts mid (Got c rest) le (begun a b ts mid s) ((good a).eats refl s) ((good a).only s g) (λ n l. repeats_only r e n l)

  repeats_moves : {a c : A} {ts rest : List Symbol} → Repeats step a ts c rest → Moved ts rest (λ xs us. Repeats step a xs c us)
  repeats_moves stop = record { read = []; is = refl; moves = λ us. stop }
  repeats_moves (go {a = a} {c = c} {ts = ts} {mid = mid} {rest = rest} s r) =
      let i = (good a).moves s in let j = repeats_moves r in
      record {
        read = i.read ++ j.read;
        is = i.is ∙ ap (λ xs. i.read ++ xs) j.is ∙ sym (append_assoc i.read j.read rest);
        moves = λ us. subst (λ xs. Repeats step a xs c us) (sym (append_assoc i.read j.read us)) (go (i.moves (j.read ++ us)) (j.moves us));
      }

  shorter_by : (i mid us : List Symbol) (ts : List Symbol) → ts ≡ i ++ mid → length mid < length ts → length us < length (i ++ us)
  shorter_by i mid us ts e lt = omega (arith, ap length e, length-append i mid, length-append i us)

  repeats_got : (n : ℕ) (a c : A) (ts rest : List Symbol) → repeats_in first1 step_r n a ts ≡ Got c rest → length ts ≤ n → Moved ts rest (λ xs us. SameHead rest us → (m : ℕ) → length xs ≤ m → repeats_in first1 step_r m a xs ≡ Got c us)
  repeats_got zero a c [] rest e le =
      let i : a ≡ c = cc in let j : [] ≡ rest = cc in
      record { read = []; is = j; moves = λ us h m l. stops_here m a us (sym (h.same first1) ∙ ap (begins_with first1) (sym j)) ∙ ap (λ c. Got c us) i }
  repeats_got zero a c (k ∷ ts) rest e le = absurd (omega arith)
  repeats_got (suc n) a c ts rest e le =
      ⊎_elim
      (λ s. let g = after_got (step_r a ts) (repeats_in first1 step_r n) c rest s.1 in
      let i = (good a).got g.2 in
      let lt : length g.1 < length ts = (good a).eats refl ((good a).sound g.2) in
      let j = repeats_got n g.0 c g.1 rest g.3 (omega arith) in
      record {
        read = i.read ++ j.read;
        is = i.is ∙ ap (λ xs. i.read ++ xs) j.is ∙ sym (append_assoc i.read j.read rest);
        moves = λ us h m l.
            let there = i.moves (j.read ++ us) (subst (λ x. SameHead x (j.read ++ us)) (sym j.is) (head_append j.read h)) in
            let first : begins_with first1 (i.read ++ (j.read ++ us)) ≡ true = same_begin first1 true ts i.read g.1 (j.read ++ us) i.is (subst (λ x. SameHead x (j.read ++ us)) (sym j.is) (head_append j.read h)) s.0 in
            subst (λ xs. repeats_in first1 step_r m a xs ≡ Got c us) (sym (append_assoc i.read j.read us))
            (goes_on m a g.0 (i.read ++ (j.read ++ us)) (j.read ++ us) (Got c us) (subst (λ xs. length xs ≤ m) (append_assoc i.read j.read us) l) first (shorter_by i.read g.1 (j.read ++ us) ts i.is lt) there (λ o k. j.moves us h o k));
      })
      (λ s. let i : a ≡ c = cc in let j : ts ≡ rest = cc in
      record { read = []; is = j; moves = λ us h m l. stops_here m a us (sym (h.same first1) ∙ ap (begins_with first1) (sym j) ∙ s.0) ∙ ap (λ c. Got c us) i })
      (if_is (begins_with first1 ts) (after (step_r a ts) (repeats_in first1 step_r n)) (Got a ts) (Got c rest) e)

  repeats_bad : (n : ℕ) (a : A) (ts rest : List Symbol) → repeats_in first1 step_r n a ts ≡ Bad rest → length ts ≤ n → Moved ts rest (λ xs us. SameHead rest us → (m : ℕ) → length xs ≤ m → repeats_in first1 step_r m a xs ≡ Bad us)
  repeats_bad zero a ts rest e le = absurd cc
  repeats_bad (suc n) a ts rest e le =
      ⊎_elim
      (λ s. ⊎_elim
      (λ g. let i = (good a).got g.2 in
      let lt : length g.1 < length ts = (good a).eats refl ((good a).sound g.2) in
      let j = repeats_bad n g.0 g.1 rest g.3 (omega arith) in
      record {
        read = i.read ++ j.read;
        is = i.is ∙ ap (λ xs. i.read ++ xs) j.is ∙ sym (append_assoc i.read j.read rest);
        moves = λ us h m l.
            let same = subst (λ x. SameHead x (j.read ++ us)) (sym j.is) (head_append j.read h) in
            subst (λ xs. repeats_in first1 step_r m a xs ≡ Bad us) (sym (append_assoc i.read j.read us))
            (goes_on m a g.0 (i.read ++ (j.read ++ us)) (j.read ++ us) (Bad us) (subst (λ xs. length xs ≤ m) (append_assoc i.read j.read us) l) (same_begin first1 true ts i.read g.1 (j.read ++ us) i.is same s.0) (shorter_by i.read g.1 (j.read ++ us) ts i.is lt) (i.moves (j.read ++ us) same) (λ o k. j.moves us h o k));
      })
      (λ g. let i = (good a).bad g in record { read = i.read; is = i.is; moves = λ us h m l. bad_at m (i.read ++ us) us (same_begin first1 true ts i.read rest us i.is h s.0) l (i.moves us h) })
      (after_bad (step_r a ts) (repeats_in first1 step_r n) rest s.1))
      (λ s. let f = s.1 in absurd cc)
      (if_is (begins_with first1 ts) (after (step_r a ts) (repeats_in first1 step_r n)) (Got a ts) (Bad rest) e)
    where
      bad_at : (m : ℕ) (xs us : List Symbol) → begins_with first1 xs ≡ true → length xs ≤ m → step_r a xs ≡ Bad us → repeats_in first1 step_r m a xs ≡ Bad us
      bad_at zero [] us f l e = absurd cc
      bad_at zero (k ∷ xs) us f l e = absurd (omega arith)
      bad_at (suc m) xs us f l e = cond-true _ _ _ f ∙ ap (λ x. after x (repeats_in first1 step_r m)) e

  pub repeats_good : (a : A) → Good (Repeats step a) (repeats_r first1 step_r a) first1 (λ _. repeat_goes) true
  repeats_good a = record {
    sound = λ {ts} {rest} {a = c} e. repeats_sound (length ts) a c ts rest e;
    starts = λ h. repeats_starts h;
    eats = λ e h. absurd cc;
    only = λ {ts} h e. repeats_only h e (length ts) (omega arith);
    moves = λ h. repeats_moves h;
    got = λ {ts} {rest} {a = c} e. let i = repeats_got (length ts) a c ts rest e (omega arith) in record { read = i.read; is = i.is; moves = λ us h. i.moves us h (length (i.read ++ us)) (omega arith) };
    bad = λ {ts} {rest} e. let i = repeats_bad (length ts) a ts rest e (omega arith) in record { read = i.read; is = i.is; moves = λ us h. i.moves us h (length (i.read ++ us)) (omega arith) };
  }

-- other sets of tokens
pub wider : {A : Type 0} {P : Form A} {p : Reader A} {first : Symbol → Bool} {goes : A → Symbol → Bool} {empty : Bool} (first' : Symbol → Bool) (goes' : A → Symbol → Bool) → Good P p first goes empty
    → ((k : Symbol) → first k ≡ true → first' k ≡ true) → ((a : A) (k : Symbol) → goes' a k ≡ false → goes a k ≡ false) → Good P p first' goes' empty
wider {first = first} {goes = goes} first' goes' good f g = record {
  sound = good.sound;
  starts = λ {ts} h. ⊎_elim (λ s. inl (more first first' f ts s)) (λ n. inr n) (good.starts h);
  eats = good.eats;
  only = λ {ts} {rest} {a} h e. good.only h (fewer (goes' a) (goes a) (g a) rest e);
  moves = good.moves;
  got = good.got;
  bad = good.bad;
}

-- ---- what hangs on the first token

pub same_start : (ts rest read us : List Symbol) → ts ≡ read ++ rest → length rest < length ts → SameHead ts (read ++ us)
same_start ts rest [] us e lt = absurd (omega (arith, ap length e))
same_start ts rest (k ∷ read) us e lt = record { same = λ f. ap (begins_with f) e }

pub same_heads : (ts read rest us : List Symbol) → ts ≡ read ++ rest → SameHead rest us → SameHead ts (read ++ us)
same_heads ts read rest us e h = subst (λ ts. SameHead ts (read ++ us)) (sym e) (head_append read h)

module _ {A E : Type 0} {P : E → Form A} {p : E → Reader A} {first : Symbol → Bool} {goes : A → Symbol → Bool} (enters : List Symbol → E) (good : (e : E) → Good (P e) (p e) first goes false)
    (headed : (ts us : List Symbol) → SameHead ts us → enters ts ≡ enters us) where
  pub headed_good : Good (λ ts a rest. P (enters ts) ts a rest) (λ ts. p (enters ts) ts) first goes false
  headed_good = record {
    sound = λ {ts} e. (good (enters ts)).sound e;
    starts = λ {ts} h. (good (enters ts)).starts h;
    eats = λ {ts} e h. (good (enters ts)).eats e h;
    only = λ {ts} h e. (good (enters ts)).only h e;
    moves = λ {ts} {rest} {a} h. let i = (good (enters ts)).moves h in
        record { read = i.read; is = i.is; moves = λ us. subst (λ e. P e (i.read ++ us) a us) (headed ts (i.read ++ us) (same_start ts rest i.read us i.is ((good (enters ts)).eats refl h))) (i.moves us) };
    got = λ {ts} {rest} {a} e. let i = (good (enters ts)).got e in
        record { read = i.read; is = i.is; moves = λ us h. ap (λ e. p e (i.read ++ us)) (sym (headed ts (i.read ++ us) (same_start ts rest i.read us i.is ((good (enters ts)).eats refl ((good (enters ts)).sound e))))) ∙ i.moves us h };
    bad = λ {ts} {rest} e. let i = (good (enters ts)).bad e in
        record { read = i.read; is = i.is; moves = λ us h. ap (λ e. p e (i.read ++ us)) (sym (headed ts (i.read ++ us) (same_heads ts i.read rest us i.is h))) ∙ i.moves us h };
  }
