-- The beginnings of spellings: of those within limits, and what they can be completed to.
use Rattle.std.proofs.Common.{◌≡◌, ℕ, zero, suc, Bool, true, List, [], ◌∷◌, ◌++◌, Option, Some, None, ◌⊎◌, inl, inr, ⊎_elim, length, refl, sym, ap, ◌∙◌, subst, arith, append_assoc, length-append}
use Rattle.ooo_syntax.specs.declared.symbol.Symbol.{Symbol}
use Rattle.ooo_grammar.specs.Sets.{Terminals}
use Rattle.ooo_grammar.specs.Forms.{Form, Front, One, One_b, Then, Then_b, Mapped, Maybe, Repeats, stop, go, Repeats_b, none, begun, gone}
use Rattle.ooo_grammar.specs.Codes.{Code, nothing, token_of, pair, link, choice, maybe, many, mapped, within, deeper, outermost, refer}
use Rattle.ooo_grammar.specs.Rules.{rules}
use Rattle.ooo_grammar.specs.Readings.{Room, enter, fits, form, front}
use Rattle.ooo_grammar.proofs.Good.{Moved}
use Rattle.ooo_grammar.proofs.Codes.{code_good}
use Rattle.ooo_grammar.proofs.Any.{any, lifts, gather}
use Rattle.ooo_grammar.proofs.Ends.{Sample, code_sample}

-- a completion to a spelling
pub record Extends {A : Type 0} (W : Form A) (xs : List Symbol) : Type 0 where
  pub more : List Symbol
  pub value : A
  pub whole : (us : List Symbol) → W (xs ++ (more ++ us)) value us

-- two ways to cut a list
pub record Longer (xs ys us vs : List Symbol) : Type 0 where
  pub zs : List Symbol
  pub is : us ≡ xs ++ zs
  pub rest : ys ≡ zs ++ vs

pub cuts : (xs ys us vs : List Symbol) → xs ++ ys ≡ us ++ vs → Longer xs ys us vs ⊎ Longer us vs xs ys
cuts [] ys us vs e = inl (record { zs = us; is = refl; rest = e })
cuts (x ∷ xs) ys [] vs e = inr (record { zs = x ∷ xs; is = refl; rest = sym e })
cuts (x ∷ xs) ys (u ∷ us) vs e =
    let i : x ≡ u = cc in
    let j : xs ++ ys ≡ us ++ vs = cc in
    ⊎_elim
    (λ l. inl (record { zs = l.zs; is = ap (λ x. x ∷ us) (sym i) ∙ ap (λ us. x ∷ us) l.is; rest = l.rest }))
    (λ l. inr (record { zs = l.zs; is = ap (λ x. x ∷ xs) i ∙ ap (λ xs. u ∷ xs) l.is; rest = l.rest }))
    (cuts xs ys us vs j)

pub no_more : (xs ys rest : List Symbol) → xs ++ (ys ++ rest) ≡ rest → xs ≡ []
no_more [] ys rest e = refl
no_more (x ∷ xs) ys rest e = absurd (omega (arith, ap length e, length-append xs (ys ++ rest), length-append ys rest))

pub moved : (read mid us xs : List Symbol) (P : List Symbol → Type 0) → xs ≡ read ++ mid → P (read ++ (mid ++ us)) → P (xs ++ us)
moved read mid us xs P e h = subst P (sym (append_assoc read mid us) ∙ ap (λ xs. xs ++ us) (sym e)) h

-- ---- nothing begins every form

pub front_nil : (n : ℕ) {A : Type 0} {f : Terminals} {g : A → Terminals} {e : Bool} (room : Room) (c : Code A f g e) → front n room c []
front_nil n room (nothing a) = refl
front_nil n room (token_of test ms of k x is) = tt
front_nil n room (pair c d far) = inl (front_nil n room c)
front_nil n room (link c d far) = inl (front_nil n room c)
front_nil n room (choice c d far) = inl (front_nil n room c)
front_nil n room (maybe c) = front_nil n room c
front_nil n room (many c far a) = none
front_nil n room (mapped g' h c i) = front_nil n room c
front_nil n room (within f' g' c h i) = front_nil n room c
front_nil zero room (deeper c) = front_nil zero room c
front_nil (suc n) room (deeper c) = front_nil n room c
front_nil n room (outermost c) = front_nil n room c
front_nil zero room (refer x) = refl
front_nil (suc n) room (refer x) = front_nil n room (rules x)

-- ---- what can be completed is a beginning

one_begins : {X : Type 0} (fits : Symbol → Bool) (test : Symbol → Option X) (xs ys rest : List Symbol) (y : X) → One fits test (xs ++ (ys ++ rest)) y rest → One_b fits test xs
one_begins fits test [] ys rest y h = tt
one_begins fits test (t ∷ xs) ys rest y h = (y, h.0, h.1, no_more xs ys rest h.2)

pub record Begins {A : Type 0} (P : Form A) (S : Front) : Type 0 where
  pub moves : {ts rest : List Symbol} {a : A} → P ts a rest → Moved ts rest (λ xs us. P xs a us)
  pub begins : (xs ys rest : List Symbol) (a : A) → P (xs ++ (ys ++ rest)) a rest → S xs

then_begins : {A B : Type 0} {P : Form A} {Q : A → Form B} {S : Front} {T : A → Front} → Begins P S → ((a : A) → Begins (Q a) (T a)) → (xs ys rest mid : List Symbol) (a : A) (b : B) → P (xs ++ (ys ++ rest)) a mid → Q a mid b rest → Then_b P S T xs
then_begins {P = P} {Q = Q} b1 b2 xs ys rest mid a b h k =
    let i = b1.moves h in
    ⊎_elim
    (λ l. inl (b1.begins xs l.zs mid a (subst (λ ts. P (xs ++ ts) a mid) l.rest h)))
    (λ l. inr (a, l.zs, subst (λ ts. P ts a l.zs) (sym l.is) (i.moves l.zs), (b2 a).begins l.zs ys rest b (subst (λ ts. Q a ts b rest) l.rest k)))
    (cuts xs (ys ++ rest) i.read mid i.is)

module _ {A : Type 0} {step : A → Form A} {front : A → Front} (b : (a : A) → Begins (step a) (front a)) where
  repeats_begins : {a c : A} {ts rest : List Symbol} → Repeats step a ts c rest → (xs ys : List Symbol) → ts ≡ xs ++ (ys ++ rest) → Repeats_b step front a xs
  repeats_begins (stop {a = a} {rest = rest}) xs ys e = subst (λ xs. Repeats_b step front a xs) (sym (no_more xs ys rest (sym e))) none
  repeats_begins (go {a = a} {b = c} {mid = mid} {rest = rest} s r) xs ys e =
      let i = (b a).moves s in
      ⊎_elim
      (λ l. begun ((b a).begins xs l.zs mid c (subst (λ ts. step a ts c mid) (e ∙ ap (λ ts. xs ++ ts) l.rest) s)))
      (λ l. gone (subst (λ ts. step a ts c l.zs) (sym l.is) (i.moves l.zs)) (repeats_begins r l.zs ys l.rest))
      (cuts xs (ys ++ rest) i.read mid (sym e ∙ i.is))

maybe_begins : {A : Type 0} {P : Form A} {S : Front} → Begins P S → S [] → (xs ys rest : List Symbol) (o : Option A) → Maybe P (xs ++ (ys ++ rest)) o rest → S xs
maybe_begins {S = S} b at_nil xs ys rest None h = subst S (sym (no_more xs ys rest h)) at_nil
maybe_begins b at_nil xs ys rest (Some a) h = b.begins xs ys rest a h

-- the room of a beginning is that of the whole
pub enter_front : (room : Room) (xs zs : List Symbol) (S : Room → List Symbol → Type 0) → S room [] → S (enter room (xs ++ zs)) xs → S (enter room xs) xs
enter_front room [] zs S at_nil h = at_nil
enter_front room (k ∷ xs) zs S at_nil h = h

pub code_begins : (n : ℕ) {A : Type 0} {f : Terminals} {g : A → Terminals} {e : Bool} (room : Room) (c : Code A f g e) → Begins (form n room c) (front n room c)
code_begins n room (nothing a) = record { moves = λ h. (code_good n room (nothing a)).moves h; begins = λ xs ys rest b h. no_more xs ys rest h.1 }
code_begins n room (token_of test ms of k x is) = record { moves = λ h. (code_good n room (token_of test ms of k x is)).moves h; begins = λ xs ys rest y h. one_begins (fits n room) test xs ys rest y h }
code_begins n room (pair c d far) = record { moves = λ h. (code_good n room (pair c d far)).moves h; begins = λ xs ys rest b h. then_begins (code_begins n room c) (λ a. code_begins n room (d a)) xs ys rest h.1 h.0 b h.2 h.3 }
code_begins n room (link c d far) = record { moves = λ h. (code_good n room (link c d far)).moves h; begins = λ xs ys rest b h. then_begins (code_begins n room c) (λ a. code_begins n room (d a)) xs ys rest h.1 h.0 h.3.0 h.2 h.3.2 }
code_begins n room (choice c d far) = record { moves = λ h. (code_good n room (choice c d far)).moves h; begins = λ xs ys rest a h. ⊎_elim (λ k. inl ((code_begins n room c).begins xs ys rest a k)) (λ k. inr ((code_begins n room d).begins xs ys rest a k)) h }
code_begins n room (maybe c) = record { moves = λ h. (code_good n room (maybe c)).moves h; begins = λ xs ys rest o h. maybe_begins (code_begins n room c) (front_nil n room c) xs ys rest o h }
code_begins n room (many c far a) = record { moves = λ h. (code_good n room (many c far a)).moves h; begins = λ xs ys rest b h. repeats_begins (λ a. code_begins n room (c a)) h xs ys refl }
code_begins n room (mapped g' p c i) = record { moves = λ h. (code_good n room (mapped g' p c i)).moves h; begins = λ xs ys rest b h. (code_begins n room c).begins xs ys rest h.0 h.2 }
code_begins n room (within f' g' c p i) = record { moves = λ h. (code_good n room c).moves h; begins = λ xs ys rest b h. (code_begins n room c).begins xs ys rest b h }
code_begins zero room (deeper c) = record { moves = λ h. (code_good zero room c).moves h; begins = λ xs ys rest b h. (code_begins zero room c).begins xs ys rest b h }
code_begins (suc n) room (deeper c) = record { moves = λ h. (code_good n room c).moves h; begins = λ xs ys rest b h. (code_begins n room c).begins xs ys rest b h }
code_begins n room (outermost c) = record {
  moves = λ h. (code_good n room (outermost c)).moves h;
  begins = λ xs ys rest b h. enter_front room xs (ys ++ rest) (λ r xs. front n r c xs) (front_nil n room c) ((code_begins n (enter room (xs ++ (ys ++ rest))) c).begins xs ys rest b h);
}
code_begins zero room (refer x) = record { moves = λ h. absurd h; begins = λ xs ys rest b h. absurd h }
code_begins (suc n) room (refer x) = record { moves = λ h. (code_good n room (rules x)).moves h; begins = λ xs ys rest b h. (code_begins n room (rules x)).begins xs ys rest b h }

-- ---- a beginning can be completed

one_extends : {X : Type 0} (fits : Symbol → Bool) (test : Symbol → Option X) (k : Symbol) (x : X) → test k ≡ Some x → (xs : List Symbol) → One_b fits test xs → Extends (One (λ _. true) test) xs
one_extends fits test k x is [] h = record { more = k ∷ []; value = x; whole = λ us. (refl, is, refl) }
one_extends fits test k x is (t ∷ xs) h = record { more = []; value = h.0; whole = λ us. (refl, h.2, ap (λ xs. xs ++ us) h.3) }

sample_extends : {A : Type 0} {W : Form A} → Sample W → (xs : List Symbol) → xs ≡ [] → Extends W xs
sample_extends {W = W} s xs e = record { more = s.tokens; value = s.value; whole = λ us. subst (λ xs. W (xs ++ (s.tokens ++ us)) s.value us) (sym e) (s.whole us) }

module _ {A B : Type 0} {P V : Form A} {W : A → Form B} {S : Front} {T : A → Front} (moves : (ts rest : List Symbol) (a : A) → P ts a rest → Moved ts rest (λ xs us. P xs a us))
    (up : (ts : List Symbol) (a : A) (rest : List Symbol) → P ts a rest → V ts a rest) (extends1 : (xs : List Symbol) → S xs → Extends V xs) (extends2 : (a : A) (xs : List Symbol) → T a xs → Extends (W a) xs) (samples : (a : A) → Sample (W a)) where
  then_extends : (xs : List Symbol) → Then_b P S T xs → Extends (Then V W) xs
  then_extends xs (inl s) =
      let e = extends1 xs s in let j = samples e.value in
      record {
        more = e.more ++ j.tokens;
        value = j.value;
        whole = λ us. (e.value, j.tokens ++ us, subst (λ ts. V (xs ++ ts) e.value (j.tokens ++ us)) (sym (append_assoc e.more j.tokens us)) (e.whole (j.tokens ++ us)), j.whole us);
      }
  then_extends xs (inr h) =
      let i = moves xs h.1 h.0 h.2 in let e = extends2 h.0 h.1 h.3 in
      record {
        more = e.more;
        value = e.value;
        whole = λ us. (h.0, h.1 ++ (e.more ++ us), up _ _ _ (moved i.read h.1 (e.more ++ us) xs (λ ts. P ts h.0 (h.1 ++ (e.more ++ us))) i.is (i.moves (h.1 ++ (e.more ++ us)))), e.whole us);
      }

mapped_extends : {A B : Type 0} {W : Form A} (h : A → B) (xs : List Symbol) → Extends W xs → Extends (Mapped h W) xs
mapped_extends h xs e = record { more = e.more; value = h e.value; whole = λ us. (e.value, refl, e.whole us) }

module _ {A : Type 0} {step step_w : A → Form A} {front : A → Front} (moves : (a : A) (ts rest : List Symbol) (b : A) → step a ts b rest → Moved ts rest (λ xs us. step a xs b us))
    (up : (a : A) (ts : List Symbol) (b : A) (rest : List Symbol) → step a ts b rest → step_w a ts b rest) (extends : (a : A) (xs : List Symbol) → front a xs → Extends (step_w a) xs) where
  repeats_extends : {a : A} {xs : List Symbol} → Repeats_b step front a xs → Extends (Repeats step_w a) xs
  repeats_extends (none {a = a}) = record { more = []; value = a; whole = λ us. stop }
  repeats_extends (begun {a = a} {ts = ts} s) = let e = extends a ts s in record { more = e.more; value = e.value; whole = λ us. go (e.whole us) stop }
  repeats_extends (gone {a = a} {b = b} {ts = ts} {mid = mid} s r) =
      let i = moves a ts mid b s in let e = repeats_extends r in
      record {
        more = e.more;
        value = e.value;
        whole = λ us. go (up _ _ _ _ (moved i.read mid (e.more ++ us) ts (λ xs. step a xs b (mid ++ (e.more ++ us))) i.is (i.moves (mid ++ (e.more ++ us))))) (e.whole us);
      }

pub front_extends : (n : ℕ) {A : Type 0} {f : Terminals} {g : A → Terminals} {e : Bool} (room : Room) (c : Code A f g e) (xs : List Symbol) → front n room c xs → Extends (any c) xs
front_extends n room (nothing a) xs s = sample_extends (code_sample (nothing a)) xs s
front_extends n room (token_of test ms of k x is) xs s = one_extends (fits n room) test k x is xs s
front_extends n room (pair c d far) xs s = then_extends (λ ts rest a h. (code_good n room c).moves h) (lifts c n room) (front_extends n room c) (λ a. front_extends n room (d a)) (λ a. code_sample (d a)) xs s
front_extends n room (link c d far) xs s =
    then_extends (λ ts rest a h. (code_good n room c).moves h) (lifts c n room) (front_extends n room c) (λ a xs s. mapped_extends (λ b. (a, b)) xs (front_extends n room (d a) xs s))
    (λ a. let j = code_sample (d a) in record { tokens = j.tokens; value = (a, j.value); whole = λ us. (j.value, refl, j.whole us) }) xs s
front_extends n room (choice c d far) xs s = ⊎_elim
    (λ s. let e = front_extends n room c xs s in record { more = e.more; value = e.value; whole = λ us. inl (e.whole us) })
    (λ s. let e = front_extends n room d xs s in record { more = e.more; value = e.value; whole = λ us. inr (e.whole us) }) s
front_extends n room (maybe c) xs s = let e = front_extends n room c xs s in record { more = e.more; value = Some e.value; whole = λ us. e.whole us }
front_extends n room (many c far a) xs s = repeats_extends (λ a ts rest b h. (code_good n room (c a)).moves h) (λ a. lifts (c a) n room) (λ a. front_extends n room (c a)) s
front_extends n room (mapped g' h c i) xs s = mapped_extends h xs (front_extends n room c xs s)
front_extends n room (within f' g' c h i) xs s = front_extends n room c xs s
front_extends zero room (deeper c) xs s = front_extends zero room c xs s
front_extends (suc n) room (deeper c) xs s = front_extends n room c xs s
front_extends n room (outermost c) xs s = front_extends n (enter room xs) c xs s
front_extends zero room (refer x) xs s = sample_extends (code_sample (refer x)) xs s
front_extends (suc n) room (refer x) xs s = let e = front_extends n room (rules x) xs s in record { more = e.more; value = e.value; whole = λ us. gather (rules x) _ _ _ (e.whole us) }
