-- The beginnings of a beginning within limits.
use Rattle.std.proofs.Common.{◌≡◌, ℕ, zero, suc, Bool, List, [], ◌∷◌, ◌++◌, Option, inl, inr, ⊎_elim, refl, sym, ap, ◌∙◌, subst, arith, append_assoc, append-nil}
use Rattle.ooo_syntax.specs.declared.symbol.Symbol.{Symbol}
use Rattle.ooo_grammar.specs.Sets.{Terminals}
use Rattle.ooo_grammar.specs.Forms.{Got, Form, Front, One_b, Then_b, Repeats_b, none, begun, gone}
use Rattle.ooo_grammar.specs.Codes.{Code, nothing, token_of, pair, link, choice, maybe, many, mapped, within, deeper, outermost, refer}
use Rattle.ooo_grammar.specs.Rules.{rules}
use Rattle.ooo_grammar.specs.Readings.{Room, free, enter, fits, form, reader, front}
use Rattle.ooo_grammar.specs.Laws.{Begins as HasBeginning, Derives}
use Rattle.ooo_grammar.proofs.Codes.{code_good}
use Rattle.ooo_grammar.proofs.Any.{gather, grows}
use Rattle.ooo_grammar.proofs.Fronts.{Begins, cuts, front_nil, code_begins, front_extends, enter_front}
use Rattle.ooo_grammar.proofs.Whole.{begins as begins_so}

nothing_before : (xs ys : List Symbol) → xs ++ ys ≡ [] → xs ≡ []
nothing_before [] ys e = refl
nothing_before (x ∷ xs) ys e = absurd cc

then_prefix : {A : Type 0} {P : Form A} {S : Front} {T : A → Front} → Begins P S → ((xs ys : List Symbol) → S (xs ++ ys) → S xs) → ((a : A) (xs ys : List Symbol) → T a (xs ++ ys) → T a xs) → (xs ys : List Symbol) → Then_b P S T (xs ++ ys) → Then_b P S T xs
then_prefix b p1 p2 xs ys (inl s) = inl (p1 xs ys s)
then_prefix {P = P} {S = S} {T = T} b p1 p2 xs ys (inr h) =
    let i = b.moves h.2 in
    ⊎_elim
    (λ l. inl (b.begins xs l.zs [] h.0 (subst (λ ts. P ts h.0 []) (ap (λ r. r ++ []) l.is ∙ append_assoc xs l.zs []) (i.moves []))))
    (λ l. inr (h.0, l.zs, subst (λ ts. P ts h.0 l.zs) (sym l.is) (i.moves l.zs), p2 h.0 l.zs ys (subst (T h.0) l.rest h.3)))
    (cuts xs ys i.read h.1 i.is)

module _ {A : Type 0} {step : A → Form A} {front : A → Front} (b : (a : A) → Begins (step a) (front a)) (p : (a : A) (xs ys : List Symbol) → front a (xs ++ ys) → front a xs) where
  repeats_prefix : {a : A} {ts : List Symbol} → Repeats_b step front a ts → (xs ys : List Symbol) → ts ≡ xs ++ ys → Repeats_b step front a xs
  repeats_prefix (none {a = a}) xs ys e = subst (λ xs. Repeats_b step front a xs) (sym (nothing_before xs ys (sym e))) none
  repeats_prefix (begun {a = a} s) xs ys e = begun (p a xs ys (subst (front a) e s))
  repeats_prefix (gone {a = a} {b = c} {ts = ts} {mid = mid} s r) xs ys e =
      let i = (b a).moves s in
      ⊎_elim
      (λ l. begun ((b a).begins xs l.zs [] c (subst (λ ts. step a ts c []) (ap (λ r. r ++ []) l.is ∙ append_assoc xs l.zs []) (i.moves []))))
      (λ l. gone (subst (λ ts. step a ts c l.zs) (sym l.is) (i.moves l.zs)) (repeats_prefix r l.zs ys l.rest))
      (cuts xs ys i.read mid (sym e ∙ i.is))

one_prefix : {X : Type 0} (fits : Symbol → Bool) (test : Symbol → Option X) (xs ys : List Symbol) → One_b fits test (xs ++ ys) → One_b fits test xs
one_prefix fits test [] ys h = tt
one_prefix fits test (k ∷ xs) ys h = (h.0, h.1, h.2, nothing_before xs ys h.3)

pub front_prefix : (n : ℕ) {A : Type 0} {f : Terminals} {g : A → Terminals} {e : Bool} (room : Room) (c : Code A f g e) (xs ys : List Symbol) → front n room c (xs ++ ys) → front n room c xs
front_prefix n room (nothing a) xs ys h = nothing_before xs ys h
front_prefix n room (token_of test ms of k x is) xs ys h = one_prefix (fits n room) test xs ys h
front_prefix n room (pair c d far) xs ys h = then_prefix (code_begins n room c) (front_prefix n room c) (λ a. front_prefix n room (d a)) xs ys h
front_prefix n room (link c d far) xs ys h = then_prefix {T = λ a. front n room (d a)} (code_begins n room c) (front_prefix n room c) (λ a. front_prefix n room (d a)) xs ys h
front_prefix n room (choice c d far) xs ys h = ⊎_elim (λ h. inl (front_prefix n room c xs ys h)) (λ h. inr (front_prefix n room d xs ys h)) h
front_prefix n room (maybe c) xs ys h = front_prefix n room c xs ys h
front_prefix n room (many c far a) xs ys h = repeats_prefix (λ a. code_begins n room (c a)) (λ a. front_prefix n room (c a)) h xs ys refl
front_prefix n room (mapped g' h c i) xs ys s = front_prefix n room c xs ys s
front_prefix n room (within f' g' c h i) xs ys s = front_prefix n room c xs ys s
front_prefix zero room (deeper c) xs ys h = front_prefix zero room c xs ys h
front_prefix (suc n) room (deeper c) xs ys h = front_prefix n room c xs ys h
front_prefix n room (outermost c) xs ys h =
    enter_front room xs ys (λ r xs. front n r c xs) (front_nil n room c) (front_prefix n (enter room (xs ++ ys)) c xs ys h)
front_prefix zero room (refer x) xs ys h = nothing_before xs ys h
front_prefix (suc n) room (refer x) xs ys h = front_prefix n room (rules x) xs ys h

module _ {A : Type 0} {f : Terminals} {g : A → Terminals} {e : Bool} (c : Code A f g e) (n : ℕ) (room : Room) where
  pub spelled : (ts : List Symbol) (a : A) → form n room c ts a [] → Derives c ts a
  spelled ts a h = (n, grows n n room free c ts a [] (omega arith) (inr refl) h)

  pub spelled_begins : (ts : List Symbol) (a : A) → form n room c ts a [] → front n room c ts
  spelled_begins ts a h = (code_begins n room c).begins ts [] [] a (subst (λ ts. form n room c ts a []) (sym (append-nil ts)) h)

  pub begins_free : (ts : List Symbol) → front n room c ts → HasBeginning c ts
  begins_free ts s = let x = front_extends n room c ts s in begins_so c ts (x.more ++ []) x.value (gather c (ts ++ (x.more ++ [])) x.value [] (x.whole []))

  pub found : (ts rest : List Symbol) (a : A) → reader n room c ts ≡ Got a rest → (read : List Symbol) × (ts ≡ read ++ rest) × form n room c read a []
  found ts rest a e =
      let i = (code_good n room c).moves ((code_good n room c).sound e) in
      (i.read, i.is, subst (λ ts. form n room c ts a []) (append-nil i.read) (i.moves []))
