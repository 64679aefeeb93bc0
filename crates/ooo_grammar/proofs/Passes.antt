-- Where a reader stops: the tokens before that place keep to the limits, and no beginning within the limits goes beyond it.
use Rattle.std.proofs.Common.{◌≡◌, ℕ, zero, suc, ◌+◌, ◌≤◌, Bool, true, false, if◌then◌else◌, List, [], ◌∷◌, ◌++◌, Option, Some, None, ◌⊎◌, inl, inr, ⊎_elim, length, refl, sym, ap, ◌∙◌, subst, arith, append_assoc, append-nil, length-append}
use Rattle.std.proofs.lemmas.Bool.{cond-true, cond-false}
use Rattle.ooo_syntax.specs.declared.symbol.Symbol.{Symbol}
use Rattle.ooo_grammar.specs.Sets.{Terminals, in_set}
use Rattle.ooo_grammar.specs.Names.{begins}
use Rattle.ooo_grammar.specs.Forms.{Outcome, Got, Bad, Deep, Form, Reader, Front, nothing_r, One_b, one_r, one_at, Then_b, after, then_r, mapped_r, begins_with, either_r, maybe_r, Repeats_b, none, begun, gone, repeats_in}
use Rattle.ooo_grammar.specs.Codes.{Code, nothing, token_of, pair, link, choice, maybe, many, mapped, within, deeper, outermost, refer}
use Rattle.ooo_grammar.specs.Rules.{rules}
use Rattle.ooo_grammar.specs.Readings.{Room, free, enter, fits, form, reader, front}
use Rattle.ooo_grammar.proofs.Good.{SameHead, Good, Apart, if_is}
use Rattle.ooo_grammar.proofs.Codes.{code_good, apart_back}
use Rattle.ooo_grammar.proofs.Any.{gather, grows}
use Rattle.ooo_grammar.proofs.Fronts.{cuts, moved, front_nil, code_begins, front_extends, enter_front}
use Rattle.ooo_grammar.proofs.Agree.{agree}

-- a reader refuses a token or finds one too deep
abbrev pub Halts : {A : Type 0} → Outcome A → List Symbol → Type 0
Halts o rest = (o ≡ Bad rest) ⊎ (o ≡ Deep rest)

pub record Begun (S : Front) (ts rest : List Symbol) : Type 0 where
  pub read : List Symbol
  pub is : ts ≡ read ++ rest
  pub begins : S read

after_halts : {A B : Type 0} (o : Outcome A) (q : A → Reader B) (rest : List Symbol) → Halts (after o q) rest → ((a : A) × (mid : List Symbol) × (o ≡ Got a mid) × Halts (q a mid) rest) ⊎ Halts o rest
after_halts (Got a mid) q rest h = inl (a, mid, refl, h)
after_halts (Bad r) q rest h = inr (⊎_elim (λ e. inl (let i : r ≡ rest = cc in ap Bad i)) (λ e. absurd cc) h)
after_halts (Deep r) q rest h = inr (⊎_elim (λ e. absurd cc) (λ e. inr (let i : r ≡ rest = cc in ap Deep i)) h)

mapped_halts : {A B : Type 0} (h : A → B) (o : Outcome A) (rest : List Symbol) → Halts (after o (λ a. nothing_r (h a))) rest → Halts o rest
mapped_halts h o rest k = ⊎_elim (λ s. ⊎_elim (λ e. absurd cc) (λ e. absurd cc) s.3) (λ i. i) (after_halts o (λ a. nothing_r (h a)) rest k)

if_halts : {A : Type 0} (b : Bool) (o p : Outcome A) (rest : List Symbol) → Halts (if b then o else p) rest → Halts o rest ⊎ Halts p rest
if_halts true o p rest h = inl h
if_halts false o p rest h = inr h

got_halts : {A : Type 0} (a : A) (ts rest : List Symbol) {X : Type 0} → Halts (Got a ts) rest → X
got_halts a ts rest h = absurd (⊎_elim {C = ⊥} (λ e. cc) (λ e. cc) h)

one_halts : {X : Type 0} (fits : Symbol → Bool) (test : Symbol → Option X) (ts rest : List Symbol) → Halts (one_r fits test ts) rest → ts ≡ rest
one_halts fits test [] rest h = ⊎_elim (λ e. cc) (λ e. absurd cc) h
one_halts {X} fits test (k ∷ ts) rest h = at (fits k) (test k) h
  where
    at : (b : Bool) (o : Option X) → Halts (one_at b o k ts) rest → ◌≡◌ {A = List Symbol} (k ∷ ts) rest
    at b None h = ⊎_elim (λ e. cc) (λ e. absurd cc) h
    at true (Some x) h = got_halts x ts rest h
    at false (Some x) h = ⊎_elim (λ e. absurd cc) (λ e. cc) h

bottom_halts : {A : Type 0} (b : Bool) (ts rest : List Symbol) → ◌⊎◌ (◌≡◌ {A = Outcome A} (if b then Deep ts else Bad ts) (Bad rest)) (◌≡◌ {A = Outcome A} (if b then Deep ts else Bad ts) (Deep rest)) → ts ≡ rest
bottom_halts true ts rest h = ⊎_elim (λ e. absurd cc) (λ e. cc) h
bottom_halts false ts rest h = ⊎_elim (λ e. cc) (λ e. absurd cc) h

module _ {A : Type 0} {step : A → Form A} {step_r : A → Reader A} {front : A → Front} (first goes : Symbol → Bool) (good : (a : A) → Good (step a) (step_r a) first (λ _. goes) false)
    (reads : (a : A) (ts rest : List Symbol) → Halts (step_r a ts) rest → Begun (front a) ts rest) where
  pub repeats_reads : (n : ℕ) (a : A) (ts rest : List Symbol) → Halts (repeats_in first step_r n a ts) rest → Begun (Repeats_b step front a) ts rest
  repeats_reads zero a ts rest h = got_halts a ts rest h
  repeats_reads (suc n) a ts rest h =
      ⊎_elim
      (λ k. ⊎_elim
      (λ s. let i = (good a).moves ((good a).sound s.2) in let j = repeats_reads n s.0 s.1 rest s.3 in
      record { read = i.read ++ j.read; is = i.is ∙ ap (λ xs. i.read ++ xs) j.is ∙ sym (append_assoc i.read j.read rest); begins = gone (i.moves j.read) j.begins })
      (λ s. let j = reads a ts rest s in record { read = j.read; is = j.is; begins = begun j.begins })
      (after_halts (step_r a ts) (repeats_in first step_r n) rest k))
      (λ k. got_halts a ts rest k)
      (if_halts (begins_with first ts) (after (step_r a ts) (repeats_in first step_r n)) (Got a ts) rest h)

-- what stands before the place keeps to the limits
pub reads : (n : ℕ) {A : Type 0} {f : Terminals} {g : A → Terminals} {e : Bool} (room : Room) (c : Code A f g e) (ts rest : List Symbol) → Halts (reader n room c ts) rest → Begun (front n room c) ts rest
reads n room (nothing a) ts rest h = got_halts a ts rest h
reads n room (token_of test ms of k x is) ts rest h = record { read = []; is = one_halts (fits n room) test ts rest h; begins = tt }
reads n room (pair c d far) ts rest h = ⊎_elim
    (λ s. let i = (code_good n room c).moves ((code_good n room c).sound s.2) in let j = reads n room (d s.0) s.1 rest s.3 in
    record { read = i.read ++ j.read; is = i.is ∙ ap (λ xs. i.read ++ xs) j.is ∙ sym (append_assoc i.read j.read rest); begins = inr (s.0, j.read, i.moves j.read, j.begins) })
    (λ s. let j = reads n room c ts rest s in record { read = j.read; is = j.is; begins = inl j.begins })
    (after_halts (reader n room c ts) (λ a. reader n room (d a)) rest h)
reads n room (link c d far) ts rest h = ⊎_elim
    (λ s. let i = (code_good n room c).moves ((code_good n room c).sound s.2) in let j = reads n room (d s.0) s.1 rest (mapped_halts (λ b. (s.0, b)) (reader n room (d s.0) s.1) rest s.3) in
    record { read = i.read ++ j.read; is = i.is ∙ ap (λ xs. i.read ++ xs) j.is ∙ sym (append_assoc i.read j.read rest); begins = inr (s.0, j.read, i.moves j.read, j.begins) })
    (λ s. let j = reads n room c ts rest s in record { read = j.read; is = j.is; begins = inl j.begins })
    (after_halts (reader n room c ts) (λ a. mapped_r (λ b. (a, b)) (reader n room (d a))) rest h)
reads n room (choice {f1 = f1} c d far) ts rest h = ⊎_elim
    (λ k. let j = reads n room c ts rest k in record { read = j.read; is = j.is; begins = inl j.begins })
    (λ k. let j = reads n room d ts rest k in record { read = j.read; is = j.is; begins = inr j.begins })
    (if_halts (begins_with (in_set f1) ts) (reader n room c ts) (reader n room d ts) rest h)
reads n room (maybe {f = f} c) ts rest h = ⊎_elim
    (λ k. let j = reads n room c ts rest (mapped_halts Some (reader n room c ts) rest k) in record { read = j.read; is = j.is; begins = j.begins })
    (λ k. got_halts None ts rest k)
    (if_halts (begins_with (in_set f) ts) (mapped_r Some (reader n room c) ts) (Got None ts) rest h)
reads n room (many {f1 = f1} {g1 = g1} c far a) ts rest h = repeats_reads (in_set f1) (in_set g1) (λ a. code_good n room (c a)) (λ a. reads n room (c a)) (length ts) a ts rest h
reads n room (mapped g' p c i) ts rest h = let j = reads n room c ts rest (mapped_halts p (reader n room c ts) rest h) in record { read = j.read; is = j.is; begins = j.begins }
reads n room (within f' g' c p i) ts rest h = let j = reads n room c ts rest h in record { read = j.read; is = j.is; begins = j.begins }
reads zero room (deeper c) ts rest h = let j = reads zero room c ts rest h in record { read = j.read; is = j.is; begins = j.begins }
reads (suc n) room (deeper c) ts rest h = let j = reads n room c ts rest h in record { read = j.read; is = j.is; begins = j.begins }
reads n room (outermost c) ts rest h =
    let j = reads n (enter room ts) c ts rest h in
    record { read = j.read; is = j.is; begins = enter_front room j.read rest (λ r xs. front n r c xs) (front_nil n room c) (subst (λ ts. front n (enter room ts) c j.read) j.is j.begins) }
reads zero room (refer x) ts rest h = record { read = []; is = bottom_halts (begins_with (in_set (begins x)) ts) ts rest h; begins = refl }
reads (suc n) room (refer x) ts rest h = let j = reads n room (rules x) ts rest h in record { read = j.read; is = j.is; begins = j.begins }

-- ---- no beginning within the limits goes beyond it

shorter : (ts read rest : List Symbol) → ts ≡ read ++ rest → length rest ≤ length ts
shorter ts read rest e = omega (arith, ap length e, length-append read rest)

module _ (n : ℕ) {A : Type 0} {f : Terminals} {g : A → Terminals} {e : Bool} (room : Room) (c : Code A f g e) where
  rest_shorter : (ts rest : List Symbol) → reader n room c ts ≡ Deep rest → length rest ≤ length ts
  rest_shorter ts rest h = let j = reads n room c ts rest (inr h) in shorter ts j.read rest j.is

  -- what begins a spelling begins with a token that may begin it
  pub front_starts : (k : Symbol) (xs : List Symbol) → front n room c (k ∷ xs) → in_set f k ≡ true
  front_starts k xs s =
      let x = front_extends n room c (k ∷ xs) s in
      let i = gather c (k ∷ (xs ++ (x.more ++ []))) x.value [] (x.whole []) in
      ⊎_elim (λ s. s) (λ m. let c = m.1 in absurd cc) ((code_good i.0 free c).starts i.1)

  -- a reader doesn't stop within a beginning
  stays : (xs us mid : List Symbol) (a : A) → front n room c xs → reader n room c (xs ++ us) ≡ Got a mid → length mid ≤ length us
  stays xs us mid a s h =
      let i = (code_good n room c).got h in
      ⊎_elim (λ l. shorter us l.zs mid l.rest) (λ l. within i.read l.zs l.is l.rest i.moves) (cuts xs us i.read mid i.is)
    where
      same : (o p q : Outcome A) (b : A) (k : Symbol) (ys : List Symbol) → o ≡ Got a (k ∷ ys) → p ≡ Got b [] → ((r : List Symbol) × (o ≡ Deep r)) ⊎ (o ≡ p) → ⊥
      same o p q b k ys e i j = ⊎_elim {C = ⊥} (λ d. let e' = d.1 in cc) (λ e'. cc) j

      within : (read zs : List Symbol) → xs ≡ read ++ zs → mid ≡ zs ++ us → ((ys : List Symbol) → SameHead mid ys → reader n room c (read ++ ys) ≡ Got a ys) → length mid ≤ length us
      within read [] i j m = omega (arith, ap length j)
      within read (z ∷ zs) i j m =
          let x = front_extends n room c xs s in
          let w = gather c (xs ++ (x.more ++ [])) x.value [] (x.whole []) in
          let there : form w.0 free c (read ++ z ∷ (zs ++ (x.more ++ []))) x.value [] = subst (λ ts. form w.0 free c ts x.value []) (ap (λ xs. xs ++ (x.more ++ [])) i ∙ append_assoc read (z ∷ zs) (x.more ++ [])) w.1 in
          let there' = grows w.0 (n + w.0) free free c _ x.value [] (omega arith) (inl refl) there in
          let all : reader (n + w.0) free c (read ++ z ∷ (zs ++ (x.more ++ []))) ≡ Got x.value [] = (code_good (n + w.0) free c).only there' refl in
          let here : reader n room c (read ++ z ∷ (zs ++ (x.more ++ []))) ≡ Got a (z ∷ (zs ++ (x.more ++ []))) = m (z ∷ (zs ++ (x.more ++ []))) (subst (λ m. SameHead m (z ∷ (zs ++ (x.more ++ [])))) (sym j) (record { same = λ f. refl })) in
          absurd (same _ _ (Got a mid) x.value z (zs ++ (x.more ++ [])) here all (agree n (n + w.0) room free c (read ++ z ∷ (zs ++ (x.more ++ []))) (omega arith) (inr refl)))

-- that a Deep place lies outside a beginning
abbrev pub Passes : {A : Type 0} → Front → Reader A → Type 0
Passes S p = (xs us rest : List Symbol) → S xs → p (xs ++ us) ≡ Deep rest → length rest ≤ length us

after_deep : {A B : Type 0} (o : Outcome A) (q : A → Reader B) (rest : List Symbol) → after o q ≡ Deep rest → ((a : A) × (mid : List Symbol) × (o ≡ Got a mid) × (q a mid ≡ Deep rest)) ⊎ (o ≡ Deep rest)
after_deep (Got a mid) q rest e = inl (a, mid, refl, e)
after_deep (Bad r) q rest e = absurd cc
after_deep (Deep r) q rest e = inr (let i : r ≡ rest = cc in ap Deep i)

mapped_deep : {A B : Type 0} (h : A → B) (o : Outcome A) (rest : List Symbol) → after o (λ a. nothing_r (h a)) ≡ Deep rest → o ≡ Deep rest
mapped_deep h (Got a r) rest e = absurd cc
mapped_deep h (Bad r) rest e = absurd cc
mapped_deep h (Deep r) rest e = let i : r ≡ rest = cc in ap Deep i

module _ {A B : Type 0} {P : Form A} {p : Reader A} {first1 : Symbol → Bool} {goes1 : A → Symbol → Bool} {empty1 : Bool} {S : Front} {T : A → Front} {q : A → Reader B}
    (good : Good P p first1 goes1 empty1) (begins : (xs : List Symbol) (a : A) → P xs a [] → S xs) (stays : (xs us mid : List Symbol) (a : A) → S xs → p (xs ++ us) ≡ Got a mid → length mid ≤ length us)
    (far : (a : A) (k : Symbol) (xs : List Symbol) → T a (k ∷ xs) → goes1 a k ≡ false) (short : (a : A) (ts rest : List Symbol) → q a ts ≡ Deep rest → length rest ≤ length ts) (pass1 : Passes S p) (pass2 : (a : A) → Passes (T a) (q a)) where
  from_first : (xs us rest : List Symbol) → S xs → after (p (xs ++ us)) q ≡ Deep rest → length rest ≤ length us
  from_first xs us rest s h = ⊎_elim
      (λ d. let a = stays xs us d.1 d.0 s d.2 in let b = short d.0 d.1 rest d.3 in omega arith)
      (λ d. pass1 xs us rest s d)
      (after_deep (p (xs ++ us)) q rest h)

  from_second : (xs us rest mid : List Symbol) (a : A) → P xs a mid → T a mid → after (p (xs ++ us)) q ≡ Deep rest → length rest ≤ length us
  from_second xs us rest [] a h t d = from_first xs us rest (begins xs a h) d
  from_second xs us rest (k ∷ mid) a h t d =
      let i = good.moves h in
      let there : P (xs ++ us) a (k ∷ (mid ++ us)) = moved i.read (k ∷ mid) us xs (λ ts. P ts a (k ∷ (mid ++ us))) i.is (i.moves (k ∷ (mid ++ us))) in
      let got = good.only there (far a k mid t) in
      pass2 a (k ∷ mid) us rest t (sym (ap (λ o. after o q) got) ∙ d)

  pub then_passes : Passes (Then_b P S T) (then_r p q)
  then_passes xs us rest (inl s) h = from_first xs us rest s h
  then_passes xs us rest (inr s) h = from_second xs us rest s.1 s.0 s.2 s.3 h

either_passes : {A : Type 0} {S T : Front} {p q : Reader A} (first1 first2 : Symbol → Bool) → ((k : Symbol) (xs : List Symbol) → S (k ∷ xs) → first1 k ≡ true) → ((k : Symbol) (xs : List Symbol) → T (k ∷ xs) → first1 k ≡ false)
    → ((ts rest : List Symbol) → p ts ≡ Deep rest → length rest ≤ length ts) → ((ts rest : List Symbol) → q ts ≡ Deep rest → length rest ≤ length ts) → Passes S p → Passes T q → Passes (λ xs. S xs ⊎ T xs) (either_r first1 p q)
either_passes {p = p} {q = q} first1 first2 s1 s2 short1 short2 pass1 pass2 [] us rest h d =
    ⊎_elim (λ i. short1 us rest i.1) (λ i. short2 us rest i.1) (if_is (begins_with first1 us) (p us) (q us) (Deep rest) d)
either_passes {p = p} {q = q} first1 first2 s1 s2 short1 short2 pass1 pass2 (k ∷ xs) us rest (inl s) d =
    pass1 (k ∷ xs) us rest s (sym (cond-true (first1 k) (p (k ∷ (xs ++ us))) (q (k ∷ (xs ++ us))) (s1 k xs s)) ∙ d)
either_passes {p = p} {q = q} first1 first2 s1 s2 short1 short2 pass1 pass2 (k ∷ xs) us rest (inr s) d =
    pass2 (k ∷ xs) us rest s (sym (cond-false (first1 k) (p (k ∷ (xs ++ us))) (q (k ∷ (xs ++ us))) (s2 k xs s)) ∙ d)

maybe_passes : {A : Type 0} {S : Front} {p : Reader A} (first : Symbol → Bool) → ((k : Symbol) (xs : List Symbol) → S (k ∷ xs) → first k ≡ true) → ((ts rest : List Symbol) → p ts ≡ Deep rest → length rest ≤ length ts) → Passes S p → Passes S (maybe_r first p)
maybe_passes {p = p} first s short pass [] us rest h d = ⊎_elim (λ i. short us rest (mapped_deep Some (p us) rest i.1)) (λ i. let c = i.1 in absurd cc) (if_is (begins_with first us) (mapped_r Some p us) (Got None us) (Deep rest) d)
maybe_passes {p = p} first s short pass (k ∷ xs) us rest h d =
    pass (k ∷ xs) us rest h (mapped_deep Some (p (k ∷ (xs ++ us))) rest (sym (cond-true (first k) (mapped_r Some p (k ∷ (xs ++ us))) (Got None (k ∷ (xs ++ us))) (s k xs h)) ∙ d))

one_passes : {X : Type 0} (fits : Symbol → Bool) (test : Symbol → Option X) → Passes (One_b fits test) (one_r fits test)
one_passes fits test [] us rest h d = let e = one_halts fits test us rest (inr d) in omega (arith, ap length e)
one_passes {X} fits test (k ∷ xs) us rest h d = absurd (at (fits k) (test k) h.1 d)
  where
    at : (b : Bool) (o : Option X) → b ≡ true → one_at b o k (xs ++ us) ≡ Deep rest → ⊥
    at b None e d = cc
    at true (Some x) e d = cc
    at false (Some x) e d = cc

module _ {A : Type 0} {step : A → Form A} {step_r : A → Reader A} {front : A → Front} (first goes : Symbol → Bool) (good : (a : A) → Good (step a) (step_r a) first (λ _. goes) false)
    (begins : (a : A) (xs : List Symbol) (b : A) → step a xs b [] → front a xs) (stays : (a : A) (xs us mid : List Symbol) (b : A) → front a xs → step_r a (xs ++ us) ≡ Got b mid → length mid ≤ length us)
    (starts : (a : A) (k : Symbol) (xs : List Symbol) → front a (k ∷ xs) → first k ≡ true) (far : Apart first goes) (reads_step : (a : A) (ts rest : List Symbol) → Halts (step_r a ts) rest → Begun (front a) ts rest) (pass : (a : A) → Passes (front a) (step_r a)) where
  short : (n : ℕ) (a : A) (ts rest : List Symbol) → repeats_in first step_r n a ts ≡ Deep rest → length rest ≤ length ts
  short n a ts rest d = let j = repeats_reads first goes good reads_step n a ts rest (inr d) in shorter ts j.read rest j.is

  begun_starts : {a : A} {xs : List Symbol} → Repeats_b step front a xs → (k : Symbol) (ys : List Symbol) → xs ≡ k ∷ ys → first k ≡ true
  begun_starts none k ys e = absurd cc
  begun_starts (begun {a = a} s) k ys e = starts a k ys (subst (front a) e s)
  begun_starts (gone {a = a} {b = b} {ts = ts} {mid = mid} s r) k ys e =
      ⊎_elim (λ i. sym (ap (begins_with first) e) ∙ i) (λ i. let c = i.0 in absurd cc) ((good a).starts s)

  from_step : (m : ℕ) (a : A) (xs us rest : List Symbol) → front a xs → repeats_in first step_r m a (xs ++ us) ≡ Deep rest → length rest ≤ length us
  from_step m a [] us rest s d = short m a us rest d
  from_step zero a (k ∷ xs) us rest s d = absurd cc
  from_step (suc m) a (k ∷ xs) us rest s d =
      ⊎_elim
      (λ i. let x = stays a (k ∷ xs) us i.1 i.0 s i.2 in let y = short m i.0 i.1 rest i.3 in omega arith)
      (λ i. pass a (k ∷ xs) us rest s i)
      (after_deep (step_r a (k ∷ (xs ++ us))) (repeats_in first step_r m) rest (sym (cond-true (first k) (after (step_r a (k ∷ (xs ++ us))) (repeats_in first step_r m)) (Got a (k ∷ (xs ++ us))) (starts a k xs s)) ∙ d))

  pub repeats_passes : {a : A} {xs : List Symbol} → Repeats_b step front a xs → (m : ℕ) (us rest : List Symbol) → repeats_in first step_r m a (xs ++ us) ≡ Deep rest → length rest ≤ length us
  repeats_passes (none {a = a}) m us rest d = short m a us rest d
  repeats_passes (begun {a = a} {ts = ts} s) m us rest d = from_step m a ts us rest s d
  repeats_passes (gone {a = a} {b = b} {ts = ts} {mid = []} s r) m us rest d = from_step m a ts us rest (begins a ts b s) d
  repeats_passes (gone {a = a} {b = b} {ts = ts} {mid = k ∷ mid} s r) zero us rest d = absurd cc
  repeats_passes (gone {a = a} {b = b} {ts = ts} {mid = k ∷ mid} s r) (suc m) us rest d =
      let i = (good a).moves s in
      let there : step a (ts ++ us) b (k ∷ (mid ++ us)) = moved i.read (k ∷ mid) us ts (λ xs. step a xs b (k ∷ (mid ++ us))) i.is (i.moves (k ∷ (mid ++ us))) in
      let got = (good a).only there (far.apart k (begun_starts r k mid refl)) in
      let first' : begins_with first (ts ++ us) ≡ true = ⊎_elim (λ i. i) (λ i. let c = i.0 in absurd cc) ((good a).starts there) in
      repeats_passes r m us rest (sym (cond-true (begins_with first (ts ++ us)) (after (step_r a (ts ++ us)) (repeats_in first step_r m)) (Got a (ts ++ us)) first' ∙ ap (λ o. after o (repeats_in first step_r m)) got) ∙ d)

-- the room of a beginning serves for the whole
enter_whole : (room : Room) (xs us : List Symbol) (S : Room → Type 0) → S (enter room xs) → (xs ≡ [] → S (enter room us)) → S (enter room (xs ++ us))
enter_whole room [] us S h k = k refl
enter_whole room (x ∷ xs) us S h k = h

whole_begins : (n : ℕ) {A : Type 0} {f : Terminals} {g : A → Terminals} {e : Bool} (room : Room) (c : Code A f g e) (xs : List Symbol) (a : A) → form n room c xs a [] → front n room c xs
whole_begins n room c xs a h = (code_begins n room c).begins xs [] [] a (subst (λ xs. form n room c xs a []) (sym (append-nil xs)) h)

pub passes : (n : ℕ) {A : Type 0} {f : Terminals} {g : A → Terminals} {e : Bool} (room : Room) (c : Code A f g e) → Passes (front n room c) (reader n room c)
passes n room (nothing a) xs us rest s d = absurd cc
passes n room (token_of test ms of k x is) xs us rest s d = one_passes (fits n room) test xs us rest s d
passes n room (pair {f1 = f1} {g1 = g1} {f2 = f2} c d far) xs us rest s h =
    then_passes (code_good n room c) (whole_begins n room c) (stays n room c) (λ a k xs t. (apart_back g1 f2 far).apart k (front_starts n room (d a) k xs t)) (λ a. rest_shorter n room (d a)) (passes n room c) (λ a. passes n room (d a)) xs us rest s h
passes n room (link {g1 = g1} {f2 = f2} c d far) xs us rest s h =
    then_passes {T = λ a. front n room (d a)} (code_good n room c) (whole_begins n room c) (stays n room c) (λ a k xs t. (apart_back (g1 a) (f2 a) (far a)).apart k (front_starts n room (d a) k xs t))
    (λ a ts rest i. rest_shorter n room (d a) ts rest (mapped_deep (λ b. (a, b)) (reader n room (d a) ts) rest i)) (passes n room c)
    (λ a xs us rest t i. passes n room (d a) xs us rest t (mapped_deep (λ b. (a, b)) (reader n room (d a) (xs ++ us)) rest i)) xs us rest s h
passes n room (choice {f1 = f1} {f2 = f2} c d far) xs us rest s h =
    either_passes {S = front n room c} {T = front n room d} (in_set f1) (in_set f2) (front_starts n room c) (λ k xs t. (apart_back f1 f2 far).apart k (front_starts n room d k xs t)) (rest_shorter n room c) (rest_shorter n room d) (passes n room c) (passes n room d) xs us rest s h
passes n room (maybe {f = f} c) xs us rest s h = maybe_passes {S = front n room c} (in_set f) (front_starts n room c) (rest_shorter n room c) (passes n room c) xs us rest s h
passes n room (many {f1 = f1} {g1 = g1} c far a) xs us rest s h =
    repeats_passes (in_set f1) (in_set g1) (λ a. code_good n room (c a)) (λ a. whole_begins n room (c a)) (λ a. stays n room (c a)) (λ a. front_starts n room (c a)) (apart_back g1 f1 far) (λ a. reads n room (c a)) (λ a. passes n room (c a)) s (length (xs ++ us)) us rest h
passes n room (mapped g' p c i) xs us rest s h = passes n room c xs us rest s (mapped_deep p (reader n room c (xs ++ us)) rest h)
passes n room (within f' g' c p i) xs us rest s h = passes n room c xs us rest s h
passes zero room (deeper c) xs us rest s h = passes zero room c xs us rest s h
passes (suc n) room (deeper c) xs us rest s h = passes n room c xs us rest s h
passes n room (outermost c) xs us rest s h =
    passes n (enter room (xs ++ us)) c xs us rest (enter_whole room xs us (λ r. front n r c xs) s (λ e. subst (λ xs. front n (enter room us) c xs) (sym e) (front_nil n (enter room us) c))) h
passes zero room (refer x) xs us rest s h =
    let e = bottom_halts (begins_with (in_set (begins x)) (xs ++ us)) (xs ++ us) rest (inr h) in omega (arith, ap length e, ap length s, length-append xs us)
passes (suc n) room (refer x) xs us rest s h = passes n room (rules x) xs us rest s h
