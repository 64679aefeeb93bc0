-- What a reader refuses, and what it finds too deep, stands behind tokens that can be completed to a spelling.
use Rattle.std.proofs.Common.{◌≡◌, ℕ, zero, suc, Bool, true, false, not, ◌||◌, ◌&&◌, if◌then◌else◌, List, [], ◌∷◌, ◌++◌, Option, Some, None, is_some, ◌⊎◌, inl, inr, ⊎_elim, length, refl, sym, ap, ◌∙◌, subst, append_assoc}
use Rattle.std.proofs.lemmas.Bool.{and_parts}
use Rattle.ooo_syntax.specs.declared.symbol.Symbol.{Symbol}
use Rattle.ooo_syntax.specs.declared.terminal.Terminal.TheVariants as terminal
use Rattle.ooo_syntax.specs.declared.expr.Expr.TheVariants as expr
use Rattle.ooo_syntax.specs.declared.stat.Stat.TheVariants as stat_form
use Rattle.ooo_grammar.specs.Numbers.{number}
use Rattle.ooo_grammar.specs.Sets.{Terminals, has, in_set, join, subset}
use Rattle.ooo_grammar.specs.Names.{Name, expr_name, plain_name, unary_name, stat_name, Value, begins}
use Rattle.ooo_grammar.specs.Forms.{Outcome, Got, Bad, Deep, Form, Reader, nothing_r, One, one_at, one_r, Then, after, then_r, Mapped, mapped_r, Either, begins_with, either_r, Maybe, maybe_r, Repeats, stop, go, repeats_in, repeats_r, bottom_r}
use Rattle.ooo_grammar.specs.Codes.{Code, nothing, token_of, pair, link, choice, maybe, many, mapped, within, deeper, outermost, refer}
use Rattle.ooo_grammar.specs.Combinators.{sample, start}
use Rattle.ooo_grammar.specs.Lexis.{number_of}
use Rattle.ooo_grammar.specs.Lexis.{word, member_word, int_after, long_after, after_unsigned, plain_type, type_name, literal, text}
use Rattle.ooo_grammar.specs.Expressions.{prefixed, prefixed_by, named, numeral, truth, short_type, conversion, chosen, expression, bracketed, after_open, plain_unary, unary, plain_expression, whole_expression}
use Rattle.ooo_grammar.specs.Statements.{local, simple, print, stat, block_stat, empty_stat, break_stat, continue_stat, return_stat, local_stat, simple_stat, if_stat, while_stat, do_stat, for_stat}
use Rattle.ooo_grammar.specs.Rules.{rules}
use Rattle.ooo_grammar.specs.Readings.{Room, free, enter, fits, reader}
use Rattle.ooo_grammar.proofs.Good.{Good, if_is, after_bad, one_bad, mapped_bad}
use Rattle.ooo_grammar.proofs.Codes.{code_good, has_too, has_append}
use Rattle.ooo_grammar.proofs.Any.{any, lifts, gather}

pub record Completed {A : Type 0} (W : Form A) (ts rest : List Symbol) : Type 0 where
  pub read : List Symbol
  pub is : ts ≡ read ++ rest
  pub more : List Symbol
  pub value : A
  pub whole : (us : List Symbol) → W (read ++ (more ++ us)) value us

-- the same with the first token of the rest
pub record Reached {A : Type 0} (W : Form A) (ts rest : List Symbol) : Type 0 where
  pub read : List Symbol
  pub token : Symbol
  pub later : List Symbol
  pub begins : rest ≡ token ∷ later
  pub is : ts ≡ read ++ token ∷ later
  pub more : List Symbol
  pub value : A
  pub whole : (us : List Symbol) → W (read ++ token ∷ (more ++ us)) value us

pub record Sample {A : Type 0} (W : Form A) : Type 0 where
  pub tokens : List Symbol
  pub value : A
  pub whole : (us : List Symbol) → W (tokens ++ us) value us

-- a spelling that begins with a token
pub record Opened {A : Type 0} (W : Form A) (k : Symbol) : Type 0 where
  pub more : List Symbol
  pub value : A
  pub whole : (us : List Symbol) → W (k ∷ (more ++ us)) value us

pub record Ends {A : Type 0} (W : Form A) (p : Reader A) : Type 0 where
  pub completes : {ts rest : List Symbol} → p ts ≡ Bad rest → Completed W ts rest
  pub reaches : {ts rest : List Symbol} → p ts ≡ Deep rest → Reached W ts rest

after_deep : {A B : Type 0} (o : Outcome A) (q : A → Reader B) (rest : List Symbol) → after o q ≡ Deep rest → ((a : A) × (mid : List Symbol) × (o ≡ Got a mid) × (q a mid ≡ Deep rest)) ⊎ (o ≡ Deep rest)
after_deep (Got a mid) q rest e = inl (a, mid, refl, e)
after_deep (Bad r) q rest e = absurd cc
after_deep (Deep r) q rest e = inr (let i : r ≡ rest = cc in ap Deep i)

-- ---- samples

-- a text that the reader reads is a sample
sample_of : (x : Name) (n : ℕ) (ts : List Symbol) (a : Value x) → reader n free (rules x) ts ≡ Got a [] → Sample (any (refer x))
sample_of x n ts a e =
    let i = (code_good n free (rules x)).moves ((code_good n free (rules x)).sound e) in
    record { tokens = i.read; value = a; whole = λ us. (n, i.moves us) }

pub name_sample : (x : Name) → Sample (any (refer x))
unfolding word member_word int_after long_after after_unsigned plain_type type_name literal text prefixed prefixed_by named numeral truth short_type conversion chosen expression bracketed after_open plain_unary unary plain_expression whole_expression local simple print stat block_stat empty_stat break_stat continue_stat return_stat local_stat simple_stat if_stat while_stat do_stat for_stat
name_sample expr_name = sample_of expr_name 1 (sample terminal.Number ∷ []) (expr.Number (number_of (sample terminal.Number))) refl
name_sample plain_name = sample_of plain_name 1 (sample terminal.Number ∷ []) (expr.Number (number_of (sample terminal.Number))) refl
name_sample unary_name = sample_of unary_name 1 (sample terminal.Number ∷ []) (expr.Number (number_of (sample terminal.Number))) refl
name_sample stat_name = sample_of stat_name 1 (sample terminal.Semicolon ∷ []) (stat_form.Empty start) refl

module _ {A B : Type 0} {V : Form A} {W : A → Form B} where
  then_sample : Sample V → ((a : A) → Sample (W a)) → Sample (Then V W)
  then_sample i js = let j = js i.value in record {
    tokens = i.tokens ++ j.tokens;
    value = j.value;
    whole = λ us. (i.value, j.tokens ++ us, subst (λ xs. V xs i.value (j.tokens ++ us)) (sym (append_assoc i.tokens j.tokens us)) (i.whole (j.tokens ++ us)), j.whole us);
  }

  then_opened : (k : Symbol) → Opened V k → ((a : A) → Sample (W a)) → Opened (Then V W) k
  then_opened k i js = let j = js i.value in record {
    more = i.more ++ j.tokens;
    value = j.value;
    whole = λ us. (i.value, j.tokens ++ us, subst (λ xs. V (k ∷ xs) i.value (j.tokens ++ us)) (sym (append_assoc i.more j.tokens us)) (i.whole (j.tokens ++ us)), j.whole us);
  }

  then_completed : {ts rest : List Symbol} → Completed V ts rest → ((a : A) → Sample (W a)) → Completed (Then V W) ts rest
  then_completed i js = let j = js i.value in record {
    read = i.read;
    is = i.is;
    more = i.more ++ j.tokens;
    value = j.value;
    whole = λ us. (i.value, j.tokens ++ us, subst (λ xs. V (i.read ++ xs) i.value (j.tokens ++ us)) (sym (append_assoc i.more j.tokens us)) (i.whole (j.tokens ++ us)), j.whole us);
  }

  then_reached : {ts rest : List Symbol} → Reached V ts rest → ((a : A) → Sample (W a)) → Reached (Then V W) ts rest
  then_reached i js = let j = js i.value in record {
    read = i.read;
    token = i.token;
    later = i.later;
    begins = i.begins;
    is = i.is;
    more = i.more ++ j.tokens;
    value = j.value;
    whole = λ us. (i.value, j.tokens ++ us, subst (λ xs. V (i.read ++ i.token ∷ xs) i.value (j.tokens ++ us)) (sym (append_assoc i.more j.tokens us)) (i.whole (j.tokens ++ us)), j.whole us);
  }

mapped_sample : {A B : Type 0} {W : Form A} (h : A → B) → Sample W → Sample (Mapped h W)
mapped_sample h i = record { tokens = i.tokens; value = h i.value; whole = λ us. (i.value, refl, i.whole us) }

mapped_opened : {A B : Type 0} {W : Form A} (h : A → B) (k : Symbol) → Opened W k → Opened (Mapped h W) k
mapped_opened h k i = record { more = i.more; value = h i.value; whole = λ us. (i.value, refl, i.whole us) }

pub code_sample : {A : Type 0} {f : Terminals} {g : A → Terminals} {e : Bool} (c : Code A f g e) → Sample (any c)
code_sample (nothing a) = record { tokens = []; value = a; whole = λ us. (refl, refl) }
code_sample (token_of test ms of k x is) = record { tokens = k ∷ []; value = x; whole = λ us. (refl, is, refl) }
code_sample (pair c d far) = then_sample (code_sample c) (λ a. code_sample (d a))
code_sample (link c d far) = then_sample (code_sample c) (λ a. mapped_sample (λ b. (a, b)) (code_sample (d a)))
code_sample (choice c d far) = let i = code_sample c in record { tokens = i.tokens; value = i.value; whole = λ us. inl (i.whole us) }
code_sample (maybe c) = record { tokens = []; value = None; whole = λ us. refl }
code_sample (many c far a) = record { tokens = []; value = a; whole = λ us. stop }
code_sample (mapped g' h c i) = mapped_sample h (code_sample c)
code_sample (within f' g' c h i) = code_sample c
code_sample (deeper c) = code_sample c
code_sample (outermost c) = code_sample c
code_sample (refer x) = name_sample x

-- ---- each token that may begin a form begins a spelling of it

-- a token stands before any form that is named
abbrev pub heads : {A : Type 0} {f : Terminals} {g : A → Terminals} {e : Bool} → Code A f g e → Bool
heads (nothing a) = false
heads (token_of test ms of k x is) = true
heads (pair {e1 = e1} c d far) = not e1 && heads c
heads (link c d far) = heads c
heads (choice c d far) = heads c && heads d
heads (maybe c) = heads c
heads (many c far a) = false
heads (mapped g' h c i) = heads c
heads (within f' g' c h i) = heads c
heads (deeper c) = heads c
heads (outermost c) = heads c
heads (refer x) = false

or_cases : (a b : Bool) {X : Type 0} → (a || b) ≡ true → (a ≡ true → X) → (b ≡ true → X) → X
or_cases true b e f g = f refl
or_cases false b e f g = g e

some_value : {X : Type 0} (test : Symbol → Option X) (k : Symbol) → is_some (test k) ≡ true → (x : X) × (test k ≡ Some x)
some_value test k e = at (test k) refl
  where
    at : (o : Option _) → test k ≡ o → (x : _) × (test k ≡ Some x)
    at None f = let i : is_some (test k) ≡ false = ap is_some f in absurd cc
    at (Some x) f = (x, f)

not_empty : (e1 : Bool) (g f : Terminals) (k : Symbol) → not e1 ≡ true → in_set (join e1 g f) k ≡ true → in_set f k ≡ true
not_empty true g f k e h = absurd cc
not_empty false g f k e h = h

pub opens : {A : Type 0} {f : Terminals} {g : A → Terminals} {e : Bool} (c : Code A f g e) (k : Symbol) → heads c ≡ true → in_set f k ≡ true → Opened (any c) k
opens (nothing a) k h i = absurd cc
opens (token_of test ms of j x is) k h i = let s = some_value test k (of.same k ∙ i) in record { more = []; value = s.0; whole = λ us. (refl, s.1, refl) }
opens (pair {f1 = f1} {f2 = f2} {e1 = e1} c d far) k h i = let b = and_parts (not e1) (heads c) h in then_opened k (opens c k b.1 (not_empty e1 f2 f1 k b.0 i)) (λ a. code_sample (d a))
opens (link c d far) k h i = then_opened k (opens c k h i) (λ a. mapped_sample (λ b. (a, b)) (code_sample (d a)))
opens (choice {f1 = f1} {f2 = f2} c d far) k h i =
    let b = and_parts (heads c) (heads d) h in
    or_cases (has f1 (number k.terminal)) (has f2 (number k.terminal)) (sym (has_append f1 f2 (number k.terminal)) ∙ i)
    (λ i. let o = opens c k b.0 i in record { more = o.more; value = o.value; whole = λ us. inl (o.whole us) })
    (λ i. let o = opens d k b.1 i in record { more = o.more; value = o.value; whole = λ us. inr (o.whole us) })
opens (maybe c) k h i = let o = opens c k h i in record { more = o.more; value = Some o.value; whole = λ us. o.whole us }
opens (many c far a) k h i = absurd cc
opens (mapped g' p c j) k h i = mapped_opened p k (opens c k h i)
opens (within {f = f} f' g' c p j) k h i = opens c k h (has_too f' f (number k.terminal) (and_parts (subset f f') (subset f' f) p).1 i)
opens (deeper c) k h i = opens c k h i
opens (outermost c) k h i = opens c k h i
opens (refer x) k h i = absurd cc

rule_heads : (x : Name) → heads (rules x) ≡ true
unfolding word member_word int_after long_after after_unsigned plain_type type_name literal text prefixed prefixed_by named numeral truth short_type conversion chosen expression bracketed after_open plain_unary unary plain_expression whole_expression local simple print stat block_stat empty_stat break_stat continue_stat return_stat local_stat simple_stat if_stat while_stat do_stat for_stat
rule_heads expr_name = refl
rule_heads plain_name = refl
rule_heads unary_name = refl
rule_heads stat_name = refl

pub name_opens : (x : Name) (k : Symbol) → in_set (begins x) k ≡ true → Opened (any (refer x)) k
name_opens x k i = let o = opens (rules x) k (rule_heads x) i in
    record { more = o.more; value = o.value; whole = λ us. gather (rules x) (k ∷ (o.more ++ us)) o.value us (o.whole us) }

-- ---- one token

module _ {X : Type 0} (fits : Symbol → Bool) (test : Symbol → Option X) (k : Symbol) (x : X) (is : test k ≡ Some x) where
  one_deep : (ts rest : List Symbol) → one_r fits test ts ≡ Deep rest → Reached (One (λ _. true) test) ts rest
  one_deep [] rest e = absurd cc
  one_deep (j ∷ ts) rest e = at (fits j) (test j) refl e
    where
      at : (b : Bool) (o : Option X) → test j ≡ o → one_at b o j ts ≡ Deep rest → Reached (One (λ _. true) test) (j ∷ ts) rest
      at b None f e = absurd cc
      at true (Some y) f e = absurd cc
      at false (Some y) f e = record { read = []; token = j; later = ts; begins = cc; is = refl; more = []; value = y; whole = λ us. (refl, f, refl) }

  pub one_ends : Ends (One (λ _. true) test) (one_r fits test)
  one_ends = record {
    completes = λ {ts} {rest} e. let b = one_bad fits test ts rest e in record { read = []; is = b.0; more = k ∷ []; value = x; whole = λ us. (refl, is, refl) };
    reaches = λ {ts} {rest} e. one_deep ts rest e;
  }

-- ---- one form, and then another

module _ {A B : Type 0} {P V : Form A} {p : Reader A} {first : Symbol → Bool} {goes : A → Symbol → Bool} {empty : Bool} {W : A → Form B} {q : A → Reader B}
    (good : Good P p first goes empty) (up : (ts : List Symbol) (a : A) (rest : List Symbol) → P ts a rest → V ts a rest) (ends1 : Ends V p) (ends2 : (a : A) → Ends (W a) (q a)) (samples : (a : A) → Sample (W a)) where
  pub then_ends : Ends (Then V W) (then_r p q)
  then_ends = record {
    completes = λ {ts} {rest} e. ⊎_elim
        (λ s. let i = good.moves (good.sound s.2) in let j = (ends2 s.0).completes s.3 in record {
          read = i.read ++ j.read;
          is = i.is ∙ ap (λ xs. i.read ++ xs) j.is ∙ sym (append_assoc i.read j.read rest);
          more = j.more;
          value = j.value;
          whole = λ us. subst (λ xs. Then V W xs j.value us) (sym (append_assoc i.read j.read (j.more ++ us))) (s.0, j.read ++ (j.more ++ us), up _ _ _ (i.moves (j.read ++ (j.more ++ us))), j.whole us);
        })
        (λ s. then_completed (ends1.completes s) samples)
        (after_bad (p ts) q rest e);
    reaches = λ {ts} {rest} e. ⊎_elim
        (λ s. let i = good.moves (good.sound s.2) in let j = (ends2 s.0).reaches s.3 in record {
          read = i.read ++ j.read;
          token = j.token;
          later = j.later;
          begins = j.begins;
          is = i.is ∙ ap (λ xs. i.read ++ xs) j.is ∙ sym (append_assoc i.read j.read (j.token ∷ j.later));
          more = j.more;
          value = j.value;
          whole = λ us. subst (λ xs. Then V W xs j.value us) (sym (append_assoc i.read j.read (j.token ∷ (j.more ++ us)))) (s.0, j.read ++ j.token ∷ (j.more ++ us), up _ _ _ (i.moves (j.read ++ j.token ∷ (j.more ++ us))), j.whole us);
        })
        (λ s. then_reached (ends1.reaches s) samples)
        (after_deep (p ts) q rest e);
  }

-- ---- another value for each

mapped_deep : {A B : Type 0} (h : A → B) (o : Outcome A) (rest : List Symbol) → after o (λ a. nothing_r (h a)) ≡ Deep rest → o ≡ Deep rest
mapped_deep h (Got a r) rest e = absurd cc
mapped_deep h (Bad r) rest e = absurd cc
mapped_deep h (Deep r) rest e = let i : r ≡ rest = cc in ap Deep i

pub mapped_ends : {A B : Type 0} {W : Form A} {p : Reader A} (h : A → B) → Ends W p → Ends (Mapped h W) (mapped_r h p)
mapped_ends {p = p} h ends = record {
  completes = λ {ts} {rest} e. let i = ends.completes (mapped_bad h (p ts) rest e) in record { read = i.read; is = i.is; more = i.more; value = h i.value; whole = λ us. (i.value, refl, i.whole us) };
  reaches = λ {ts} {rest} e. let i = ends.reaches (mapped_deep h (p ts) rest e) in
      record { read = i.read; token = i.token; later = i.later; begins = i.begins; is = i.is; more = i.more; value = h i.value; whole = λ us. (i.value, refl, i.whole us) };
}

-- ---- one form or another, and a form or nothing

pub either_ends : {A : Type 0} {V W : Form A} {p q : Reader A} (first : Symbol → Bool) → Ends V p → Ends W q → Ends (Either V W) (either_r first p q)
either_ends {p = p} {q = q} first ends1 ends2 = record {
  completes = λ {ts} {rest} e. ⊎_elim
      (λ s. let i = ends1.completes s.1 in record { read = i.read; is = i.is; more = i.more; value = i.value; whole = λ us. inl (i.whole us) })
      (λ s. let i = ends2.completes s.1 in record { read = i.read; is = i.is; more = i.more; value = i.value; whole = λ us. inr (i.whole us) })
      (if_is (begins_with first ts) (p ts) (q ts) (Bad rest) e);
  reaches = λ {ts} {rest} e. ⊎_elim
      (λ s. let i = ends1.reaches s.1 in record { read = i.read; token = i.token; later = i.later; begins = i.begins; is = i.is; more = i.more; value = i.value; whole = λ us. inl (i.whole us) })
      (λ s. let i = ends2.reaches s.1 in record { read = i.read; token = i.token; later = i.later; begins = i.begins; is = i.is; more = i.more; value = i.value; whole = λ us. inr (i.whole us) })
      (if_is (begins_with first ts) (p ts) (q ts) (Deep rest) e);
}

pub maybe_ends : {A : Type 0} {W : Form A} {p : Reader A} (first : Symbol → Bool) → Ends W p → Ends (Maybe W) (maybe_r first p)
maybe_ends {p = p} first ends = record {
  completes = λ {ts} {rest} e. ⊎_elim
      (λ s. let i = ends.completes (mapped_bad Some (p ts) rest s.1) in record { read = i.read; is = i.is; more = i.more; value = Some i.value; whole = λ us. i.whole us })
      (λ s. let c = s.1 in absurd cc)
      (if_is (begins_with first ts) (mapped_r Some p ts) (Got None ts) (Bad rest) e);
  reaches = λ {ts} {rest} e. ⊎_elim
      (λ s. let i = ends.reaches (mapped_deep Some (p ts) rest s.1) in record { read = i.read; token = i.token; later = i.later; begins = i.begins; is = i.is; more = i.more; value = Some i.value; whole = λ us. i.whole us })
      (λ s. let c = s.1 in absurd cc)
      (if_is (begins_with first ts) (mapped_r Some p ts) (Got None ts) (Deep rest) e);
}

-- ---- a form any number of times

module _ {A : Type 0} {step step_w : A → Form A} {step_r : A → Reader A} {first goes : Symbol → Bool} (good : (a : A) → Good (step a) (step_r a) first (λ _. goes) false)
    (up : (a : A) (ts : List Symbol) (b : A) (rest : List Symbol) → step a ts b rest → step_w a ts b rest) (ends : (a : A) → Ends (step_w a) (step_r a)) where
  repeats_completes : (n : ℕ) (a : A) (ts rest : List Symbol) → repeats_in first step_r n a ts ≡ Bad rest → Completed (Repeats step_w a) ts rest
  repeats_completes zero a ts rest e = absurd cc
  repeats_completes (suc n) a ts rest e =
      ⊎_elim
      (λ s. ⊎_elim
      (λ g. let i = (good a).moves ((good a).sound g.2) in let j = repeats_completes n g.0 g.1 rest g.3 in
      record {
        read = i.read ++ j.read;
        is = i.is ∙ ap (λ xs. i.read ++ xs) j.is ∙ sym (append_assoc i.read j.read rest);
        more = j.more;
        value = j.value;
        whole = λ us. subst (λ xs. Repeats step_w a xs j.value us) (sym (append_assoc i.read j.read (j.more ++ us))) (go (up _ _ _ _ (i.moves (j.read ++ (j.more ++ us)))) (j.whole us));
      })
      (λ g. let i = (ends a).completes g in record { read = i.read; is = i.is; more = i.more; value = i.value; whole = λ us. go (i.whole us) stop })
      (after_bad (step_r a ts) (repeats_in first step_r n) rest s.1))
      (λ s. let f = s.1 in absurd cc)
      (if_is (begins_with first ts) (after (step_r a ts) (repeats_in first step_r n)) (Got a ts) (Bad rest) e)

  repeats_reaches : (n : ℕ) (a : A) (ts rest : List Symbol) → repeats_in first step_r n a ts ≡ Deep rest → Reached (Repeats step_w a) ts rest
  repeats_reaches zero a ts rest e = absurd cc
  repeats_reaches (suc n) a ts rest e =
      ⊎_elim
      (λ s. ⊎_elim
      (λ g. let i = (good a).moves ((good a).sound g.2) in let j = repeats_reaches n g.0 g.1 rest g.3 in
      record {
        read = i.read ++ j.read;
        token = j.token;
        later = j.later;
        begins = j.begins;
        is = i.is ∙ ap (λ xs. i.read ++ xs) j.is ∙ sym (append_assoc i.read j.read (j.token ∷ j.later));
        more = j.more;
        value = j.value;
        whole = λ us. subst (λ xs. Repeats step_w a xs j.value us) (sym (append_assoc i.read j.read (j.token ∷ (j.more ++ us)))) (go (up _ _ _ _ (i.moves (j.read ++ j.token ∷ (j.more ++ us)))) (j.whole us));
      })
      (λ g. let i = (ends a).reaches g in record { read = i.read; token = i.token; later = i.later; begins = i.begins; is = i.is; more = i.more; value = i.value; whole = λ us. go (i.whole us) stop })
      (after_deep (step_r a ts) (repeats_in first step_r n) rest s.1))
      (λ s. let f = s.1 in absurd cc)
      (if_is (begins_with first ts) (after (step_r a ts) (repeats_in first step_r n)) (Got a ts) (Deep rest) e)

  pub repeats_ends : (a : A) → Ends (Repeats step_w a) (repeats_r first step_r a)
  repeats_ends a = record { completes = λ {ts} {rest} e. repeats_completes (length ts) a ts rest e; reaches = λ {ts} {rest} e. repeats_reaches (length ts) a ts rest e }

-- ---- where no level is left

bottom_bad : {A : Type 0} (b : Bool) (ts rest : List Symbol) → ◌≡◌ {A = Outcome A} (if b then Deep ts else Bad ts) (Bad rest) → ts ≡ rest
bottom_bad true ts rest e = absurd cc
bottom_bad false ts rest e = cc

bottom_deep : (x : Name) (ts rest : List Symbol) → bottom_r {A = Value x} (in_set (begins x)) ts ≡ Deep rest → Reached (any (refer x)) ts rest
bottom_deep x [] rest e = absurd cc
bottom_deep x (k ∷ ts) rest e = at (in_set (begins x) k) refl e
  where
    at : (b : Bool) → in_set (begins x) k ≡ b → ◌≡◌ {A = Outcome (Value x)} (if b then Deep (k ∷ ts) else Bad (k ∷ ts)) (Deep rest) → Reached (any (refer x)) (k ∷ ts) rest
    at true f e = let o = name_opens x k f in record { read = []; token = k; later = ts; begins = cc; is = refl; more = o.more; value = o.value; whole = o.whole }
    at false f e = absurd cc

-- ---- every code

pub code_ends : (n : ℕ) {A : Type 0} {f : Terminals} {g : A → Terminals} {e : Bool} (room : Room) (c : Code A f g e) → Ends (any c) (reader n room c)
code_ends n room (nothing a) = record { completes = λ e. absurd cc; reaches = λ e. absurd cc }
code_ends n room (token_of test ms of k x is) = one_ends (fits n room) test k x is
code_ends n room (pair c d far) = then_ends (code_good n room c) (lifts c n room) (code_ends n room c) (λ a. code_ends n room (d a)) (λ a. code_sample (d a))
code_ends n room (link c d far) = then_ends (code_good n room c) (lifts c n room) (code_ends n room c) (λ a. mapped_ends (λ b. (a, b)) (code_ends n room (d a))) (λ a. mapped_sample (λ b. (a, b)) (code_sample (d a)))
code_ends n room (choice {f1 = f1} c d far) = either_ends (in_set f1) (code_ends n room c) (code_ends n room d)
code_ends n room (maybe {f = f} c) = maybe_ends (in_set f) (code_ends n room c)
code_ends n room (many c far a) = repeats_ends (λ a. code_good n room (c a)) (λ a. lifts (c a) n room) (λ a. code_ends n room (c a)) a
code_ends n room (mapped g' h c i) = mapped_ends h (code_ends n room c)
code_ends n room (within f' g' c h i) = code_ends n room c
code_ends zero room (deeper c) = code_ends zero room c
code_ends (suc n) room (deeper c) = code_ends n room c
code_ends n room (outermost c) = record { completes = λ {ts} e. (code_ends n (enter room ts) c).completes e; reaches = λ {ts} e. (code_ends n (enter room ts) c).reaches e }
code_ends zero room (refer x) = record {
  completes = λ {ts} {rest} e. let s = name_sample x in record { read = []; is = bottom_bad (begins_with (in_set (begins x)) ts) ts rest e; more = s.tokens; value = s.value; whole = s.whole };
  reaches = λ {ts} {rest} e. bottom_deep x ts rest e;
}
code_ends (suc n) room (refer x) = record {
  completes = λ e. let i = (code_ends n room (rules x)).completes e in record { read = i.read; is = i.is; more = i.more; value = i.value; whole = λ us. gather (rules x) _ _ _ (i.whole us) };
  reaches = λ e. let i = (code_ends n room (rules x)).reaches e in
      record { read = i.read; token = i.token; later = i.later; begins = i.begins; is = i.is; more = i.more; value = i.value; whole = λ us. gather (rules x) _ _ _ (i.whole us) };
}
