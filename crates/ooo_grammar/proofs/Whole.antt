-- Whole texts of a grammar that is written as a code.
use Rattle.std.proofs.Common.{◌≡◌, ℕ, ◌+◌, Bool, List, [], ◌∷◌, ◌++◌, ◌⊎◌, inl, inr, ⊎_elim, length, refl, sym, ap, ◌∙◌, subst, arith, append_assoc, append-nil}
use Rattle.std.proofs.lemmas.List.{append_cancel_right}
use Rattle.ooo_syntax.specs.declared.symbol.Symbol.{Symbol}
use Rattle.ooo_grammar.specs.Forms.{Outcome, Got, Bad, Deep}
use Rattle.ooo_grammar.specs.Sets.{Terminals}
use Rattle.ooo_grammar.specs.Codes.{Code}
use Rattle.ooo_grammar.specs.Readings.{Room, free, form, reader, front}
use Rattle.ooo_grammar.specs.Laws.{Derives, Begins, Refuses, Keeps, ExceedsAt, whole}
use Rattle.ooo_grammar.proofs.Good.{SameHead}
use Rattle.ooo_grammar.proofs.Codes.{code_good}
use Rattle.ooo_grammar.proofs.Any.{any, gather, grows}
use Rattle.ooo_grammar.proofs.Ends.{code_ends}
use Rattle.ooo_grammar.proofs.Fronts.{code_begins, front_extends}
use Rattle.ooo_grammar.proofs.Agree.{agree}
use Rattle.ooo_grammar.proofs.Passes.{reads, passes}

same_head : (k : Symbol) (us vs : List Symbol) → SameHead (k ∷ us) (k ∷ vs)
same_head k us vs = record { same = λ f. refl }

got_same : {A : Type 0} (o : Outcome A) (a b : A) → o ≡ Got a [] → o ≡ Got b [] → a ≡ b
got_same o a b e f = cc

module _ {A : Type 0} {f : Terminals} {g : A → Terminals} {e : Bool} (c : Code A f g e) where
  pub completes : (ts : List Symbol) → Begins c ts → (more : List Symbol) × (a : A) × Derives c (ts ++ more) a
  completes ts s =
      let x = front_extends s.0 free c ts s.1 in
      (x.more, x.value, gather c (ts ++ x.more) x.value [] (subst (λ more. any c (ts ++ more) x.value []) (append-nil x.more) (x.whole [])))

  pub begins : (ts more : List Symbol) (a : A) → Derives c (ts ++ more) a → Begins c ts
  begins ts more a d = (d.0, (code_begins d.0 free c).begins ts more [] a (subst (λ more. form d.0 free c (ts ++ more) a []) (sym (append-nil more)) d.1))

  -- what stands before a completion
  any_begins : (ts more : List Symbol) (a : A) → any c (ts ++ more) a [] → Begins c ts
  any_begins ts more a h = begins ts more a (gather c (ts ++ more) a [] h)

  -- a reader without limits reads what is spelled
  reads_all : (n m : ℕ) (ts : List Symbol) (a : A) → form m free c ts a [] → reader (n + m) free c ts ≡ Got a []
  reads_all n m ts a h = (code_good (n + m) free c).only (grows m (n + m) free free c ts a [] (omega arith) (inl refl) h) refl

  module _ (n : ℕ) (room : Room) where
    pub finds : (ts : List Symbol) (a : A) → form n room c ts a [] → reader n room c ts ≡ Got a []
    finds ts a h = (code_good n room c).only h refl

    pub one : (ts : List Symbol) (a b : A) → reader n room c ts ≡ Got a [] → Derives c ts b → a ≡ b
    one ts a b h d =
        let i = grows n (n + d.0) room free c ts a [] (omega arith) (inr refl) ((code_good n room c).sound h) in
        got_same (reader (n + d.0) free c ts) a b ((code_good (n + d.0) free c).only i refl) (reads_all n d.0 ts b d.1)

    -- a reader that refuses a token doesn't read what begins with it
    refuses_beyond : (ts read rest : List Symbol) (k : Symbol) (us more : List Symbol) (b : A) → ts ≡ read ++ rest → reader n room c ts ≡ Bad rest → rest ≡ k ∷ us → Derives c (read ++ k ∷ more) b → ⊥
    refuses_beyond ts read rest k us more b is h i d =
        let m = (code_good n room c).bad h in
        let same : m.read ≡ read = append_cancel_right m.read read rest (sym m.is ∙ is) in
        let stops : reader n room c (m.read ++ k ∷ more) ≡ Bad (k ∷ more) = m.moves (k ∷ more) (subst (λ r. SameHead r (k ∷ more)) (sym i) (same_head k us more)) in
        let stops' : reader n room c (read ++ k ∷ more) ≡ Bad (k ∷ more) = subst (λ xs. reader n room c (xs ++ k ∷ more) ≡ Bad (k ∷ more)) same stops in
        differ _ _ stops' (reads_all n d.0 (read ++ k ∷ more) b d.1) (agree n (n + d.0) room free c (read ++ k ∷ more) (omega arith) (inr refl))
      where
        differ : (o p : Outcome A) → o ≡ Bad (k ∷ more) → p ≡ Got b [] → ((r : List Symbol) × (o ≡ Deep r)) ⊎ (o ≡ p) → ⊥
        differ o p e f j = ⊎_elim {C = ⊥} (λ d. let x = d.1 in cc) (λ x. cc) j

    pub refuses : (ts rest : List Symbol) → reader n room c ts ≡ Bad rest → Refuses c ts rest
    refuses ts rest h =
        let x = (code_ends n room c).completes h in
        record {
          read = x.read;
          is = x.is;
          begins = any_begins x.read (x.more ++ []) x.value (x.whole []);
          refused = λ k us i s.
              let y = completes (x.read ++ k ∷ []) s in
              refuses_beyond ts x.read rest k us y.0 y.1 x.is h i (subst (λ ts. Derives c ts y.1) (append_assoc x.read (k ∷ []) y.0) y.2);
          unfinished = λ i a d. differ _ _ a h (reads_all n d.0 ts a d.1) (agree n (n + d.0) room free c ts (omega arith) (inr refl));
        }
      where
        differ : (o p : Outcome A) (a : A) → o ≡ Bad rest → p ≡ Got a [] → ((r : List Symbol) × (o ≡ Deep r)) ⊎ (o ≡ p) → ⊥
        differ o p a e f j = ⊎_elim {C = ⊥} (λ d. let x = d.1 in cc) (λ x. cc) j

    -- what follows a spelling is refused
    pub refuses_after : (ts us : List Symbol) (k : Symbol) (a : A) → reader n room c ts ≡ Got a (k ∷ us) → Refuses c ts (k ∷ us)
    refuses_after ts us k a h =
        let m = (code_good n room c).got h in
        let i = (code_good n room c).moves ((code_good n room c).sound h) in
        let d : Derives c m.read a = (n, grows n n room free c m.read a [] (omega arith) (inr refl) (subst (λ ts. form n room c ts a []) (append-nil i.read ∙ append_cancel_right i.read m.read (k ∷ us) (sym i.is ∙ m.is)) (i.moves []))) in
        record {
          read = m.read;
          is = m.is;
          begins = begins m.read [] a (subst (λ ts. Derives c ts a) (sym (append-nil m.read)) d);
          refused = λ j vs e s.
              let y = completes (m.read ++ j ∷ []) s in
              let there : Derives c (m.read ++ j ∷ y.0) y.1 = subst (λ ts. Derives c ts y.1) (append_assoc m.read (j ∷ []) y.0) y.2 in
              let here : reader n room c (m.read ++ j ∷ y.0) ≡ Got a (j ∷ y.0) = m.moves (j ∷ y.0) (subst (λ r. SameHead r (j ∷ y.0)) (sym e) (same_head j vs y.0)) in
              differ _ _ y.1 j y.0 here (reads_all n there.0 (m.read ++ j ∷ y.0) y.1 there.1) (agree n (n + there.0) room free c (m.read ++ j ∷ y.0) (omega arith) (inr refl));
          unfinished = λ e b d. absurd cc;
        }
      where
        differ : (o p : Outcome A) (b : A) (j : Symbol) (ys : List Symbol) → o ≡ Got a (j ∷ ys) → p ≡ Got b [] → ((r : List Symbol) × (o ≡ Deep r)) ⊎ (o ≡ p) → ⊥
        differ o p b j ys e f x = ⊎_elim {C = ⊥} (λ d. let y = d.1 in cc) (λ y. cc) x

    pub keeps_bad : (ts rest : List Symbol) → reader n room c ts ≡ Bad rest → Keeps n room c ts rest
    keeps_bad ts rest h = let j = reads n room c ts rest (inl h) in record { read = j.read; is = j.is; within = j.begins }

    pub keeps_got : (ts rest : List Symbol) (a : A) → reader n room c ts ≡ Got a rest → Keeps n room c ts rest
    keeps_got ts rest a h =
        let i = (code_good n room c).moves ((code_good n room c).sound h) in
        record { read = i.read; is = i.is; within = (code_begins n room c).begins i.read [] [] a (i.moves []) }

    pub exceeds : (ts rest : List Symbol) → reader n room c ts ≡ Deep rest → ExceedsAt n room c ts rest
    exceeds ts rest h =
        let x = (code_ends n room c).reaches h in
        let j = reads n room c ts rest (inr h) in
        let same : j.read ≡ x.read = append_cancel_right j.read x.read rest (sym j.is ∙ x.is ∙ ap (λ r. x.read ++ r) (sym x.begins)) in
        record {
          read = x.read;
          token = x.token;
          later = x.later;
          starts = x.begins;
          is = x.is;
          begins = any_begins (x.read ++ x.token ∷ []) (x.more ++ []) x.value (subst (λ ts. any c ts x.value []) (sym (append_assoc x.read (x.token ∷ []) (x.more ++ []))) (x.whole []));
          within = subst (λ xs. front n room c xs) same j.begins;
          beyond = λ s.
              let whole : ts ≡ (x.read ++ x.token ∷ []) ++ x.later = x.is ∙ sym (append_assoc x.read (x.token ∷ []) x.later) in
              let le = passes n room c (x.read ++ x.token ∷ []) x.later rest s (ap (λ ts. reader n room c ts) (sym whole) ∙ h) in
              omega (arith, ap length x.begins);
        }

    -- ---- the reader of whole texts

    pub whole_found : (ts : List Symbol) (a : A) → whole (reader n room c ts) ≡ Got a [] → reader n room c ts ≡ Got a []
    whole_found ts a h = at (reader n room c ts) h
      where
        at : (o : Outcome A) → whole o ≡ Got a [] → o ≡ Got a []
        at (Got b []) i = i
        at (Got b (k ∷ us)) i = absurd cc
        at (Bad r) i = absurd cc
        at (Deep r) i = absurd cc

    pub whole_refused : (ts rest : List Symbol) → whole (reader n room c ts) ≡ Bad rest → Refuses c ts rest × Keeps n room c ts rest
    whole_refused ts rest h = at (reader n room c ts) refl h
      where
        at : (o : Outcome A) → reader n room c ts ≡ o → whole o ≡ Bad rest → Refuses c ts rest × Keeps n room c ts rest
        at (Got b []) j i = absurd cc
        at (Got b (k ∷ us)) j i = let e : k ∷ us ≡ rest = cc in (subst (λ r. Refuses c ts r) e (refuses_after ts us k b j), subst (λ r. Keeps n room c ts r) e (keeps_got ts (k ∷ us) b j))
        at (Bad r) j i = let e : r ≡ rest = cc in (subst (λ r. Refuses c ts r) e (refuses ts r j), subst (λ r. Keeps n room c ts r) e (keeps_bad ts r j))
        at (Deep r) j i = absurd cc

    pub whole_exceeded : (ts rest : List Symbol) → whole (reader n room c ts) ≡ Deep rest → ExceedsAt n room c ts rest
    whole_exceeded ts rest h = at (reader n room c ts) refl h
      where
        at : (o : Outcome A) → reader n room c ts ≡ o → whole o ≡ Deep rest → ExceedsAt n room c ts rest
        at (Got b []) j i = absurd cc
        at (Got b (k ∷ us)) j i = absurd cc
        at (Bad r) j i = absurd cc
        at (Deep r) j i = let e : r ≡ rest = cc in subst (λ r. ExceedsAt n room c ts r) e (exceeds ts r j)
