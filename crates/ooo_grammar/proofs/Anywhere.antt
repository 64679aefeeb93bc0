-- What is spelled and begun is so wherever the bytes of the symbols stand in memory.
use Rattle.std.proofs.Common.{◌≡◌, ℕ, zero, suc, Bool, true, List, [], ◌∷◌, Option, Some, None, ◌⊎◌, inl, inr, ⊎_elim, refl, sym, ap, ◌∙◌, subst, map}
use Rattle.ooo_syntax.specs.declared.symbol.Symbol.{Symbol}
use Rattle.ooo_grammar.specs.Sets.{Terminals, OfTerminals, anywhere}
use Rattle.ooo_grammar.specs.Forms.{Form, Front, One, One_b, Repeats, Repeats_b, stop, go, none, begun, gone}
use Rattle.ooo_grammar.specs.Codes.{Code, nothing, token_of, pair, link, choice, maybe, many, mapped, within, deeper, outermost, refer}
use Rattle.ooo_grammar.specs.Rules.{rules}
use Rattle.ooo_grammar.specs.Readings.{Room, enter, fits, form, front}

abbrev on : List Symbol → List Symbol
on ts = map anywhere ts

-- the rest of what is spelled stands behind it
abbrev Off : {A : Type 0} → Form A → List Symbol → A → List Symbol → Type 0
Off P ts a rest = (own : List Symbol) × (rest ≡ on own) × P ts a own

is_nothing : (ts : List Symbol) → on ts ≡ [] → ts ≡ []
is_nothing [] e = refl
is_nothing (k ∷ ts) e = absurd cc

enter_on : (room : Room) (ts : List Symbol) → enter room (on ts) ≡ enter room ts
enter_on room [] = refl
enter_on room (k ∷ ts) = refl

-- ---- one token

one_on : {X : Type 0} (n : ℕ) (room : Room) (test : Symbol → Option X) (ms : Terminals) → OfTerminals test ms → (ts : List Symbol) (x : X) (rest : List Symbol) → One (fits n room) test ts x rest → One (fits n room) test (on ts) x (on rest)
one_on n room test ms of [] x rest h = absurd h
one_on n room test ms of (k ∷ ts) x rest h = (h.0, of.anywhere k ∙ h.1, ap on h.2)

one_off : {X : Type 0} (n : ℕ) (room : Room) (test : Symbol → Option X) (ms : Terminals) → OfTerminals test ms → (ts : List Symbol) (x : X) (rest : List Symbol) → One (fits n room) test (on ts) x rest → Off (One (fits n room) test) ts x rest
one_off n room test ms of [] x rest h = absurd h
one_off n room test ms of (k ∷ ts) x rest h = (ts, sym h.2, (h.0, sym (of.anywhere k) ∙ h.1, refl))

one_front_on : {X : Type 0} (n : ℕ) (room : Room) (test : Symbol → Option X) (ms : Terminals) → OfTerminals test ms → (ts : List Symbol) → One_b (fits n room) test ts → One_b (fits n room) test (on ts)
one_front_on n room test ms of [] h = h
one_front_on n room test ms of (k ∷ ts) h = (h.0, h.1, of.anywhere k ∙ h.2, ap on h.3)

one_front_off : {X : Type 0} (n : ℕ) (room : Room) (test : Symbol → Option X) (ms : Terminals) → OfTerminals test ms → (ts : List Symbol) → One_b (fits n room) test (on ts) → One_b (fits n room) test ts
one_front_off n room test ms of [] h = h
one_front_off n room test ms of (k ∷ ts) h = (h.0, h.1, sym (of.anywhere k) ∙ h.2, is_nothing ts h.3)

-- ---- repetitions

repeats_on : {A : Type 0} {step : A → Form A} → ((a : A) (ts : List Symbol) (b : A) (rest : List Symbol) → step a ts b rest → step a (on ts) b (on rest)) → {a c : A} {ts rest : List Symbol} → Repeats step a ts c rest → Repeats step a (on ts) c (on rest)
repeats_on f stop = stop
repeats_on f (go {a = a} {b = b} {ts = ts} {mid = mid} s r) = go (f a ts b mid s) (repeats_on f r)

repeats_off : {A : Type 0} {step : A → Form A} → ((a : A) (ts : List Symbol) (b : A) (rest : List Symbol) → step a (on ts) b rest → Off (step a) ts b rest) → {a c : A} {us rest : List Symbol} → Repeats step a us c rest → (ts : List Symbol) → us ≡ on ts
    → Off (λ ts b rest. Repeats step a ts b rest) ts c rest
repeats_off f stop ts e = (ts, e, stop)
repeats_off {step = step} f (go {a = a} {b = b} {ts = us} {mid = mid} s r) ts e =
    let i = f a ts b mid (subst (λ us. step a us b mid) e s) in
    let j = repeats_off f r i.0 i.1 in
    (j.0, j.1, go i.2 j.2)

repeats_front_on : {A : Type 0} {step : A → Form A} {front : A → Front} → ((a : A) (ts : List Symbol) (b : A) (rest : List Symbol) → step a ts b rest → step a (on ts) b (on rest)) → ((a : A) (ts : List Symbol) → front a ts → front a (on ts))
    → {a : A} {ts : List Symbol} → Repeats_b step front a ts → Repeats_b step front a (on ts)
repeats_front_on f g none = none
repeats_front_on f g (begun {a = a} {ts = ts} s) = begun (g a ts s)
repeats_front_on f g (gone {a = a} {b = b} {ts = ts} {mid = mid} s r) = gone (f a ts b mid s) (repeats_front_on f g r)

repeats_front_off : {A : Type 0} {step : A → Form A} {front : A → Front} → ((a : A) (ts : List Symbol) (b : A) (rest : List Symbol) → step a (on ts) b rest → Off (step a) ts b rest) → ((a : A) (ts : List Symbol) → front a (on ts) → front a ts)
    → {a : A} {us : List Symbol} → Repeats_b step front a us → (ts : List Symbol) → us ≡ on ts → Repeats_b step front a ts
repeats_front_off {step = step} {front = front} f g (none {a = a}) ts e = subst (λ ts. Repeats_b step front a ts) (sym (is_nothing ts (sym e))) none
repeats_front_off {front = front} f g (begun {a = a} {ts = us} s) ts e = begun (g a ts (subst (front a) e s))
repeats_front_off {step = step} f g (gone {a = a} {b = b} {ts = us} {mid = mid} s r) ts e =
    let i = f a ts b mid (subst (λ us. step a us b mid) e s) in
    gone i.2 (repeats_front_off f g r i.0 i.1)

-- ---- codes

pub form_on : (n : ℕ) {A : Type 0} {f : Terminals} {g : A → Terminals} {e : Bool} (room : Room) (c : Code A f g e) (ts : List Symbol) (a : A) (rest : List Symbol) → form n room c ts a rest → form n room c (on ts) a (on rest)
form_on n room (nothing b) ts a rest h = (h.0, ap on h.1)
form_on n room (token_of test ms of k x is) ts a rest h = one_on n room test ms of ts a rest h
form_on n room (pair c d far) ts a rest h = (h.0, on h.1, form_on n room c ts h.0 h.1 h.2, form_on n room (d h.0) h.1 a rest h.3)
form_on n room (link c d far) ts a rest h = (h.0, on h.1, form_on n room c ts h.0 h.1 h.2, (h.3.0, h.3.1, form_on n room (d h.0) h.1 h.3.0 rest h.3.2))
form_on n room (choice c d far) ts a rest h = ⊎_elim (λ h. inl (form_on n room c ts a rest h)) (λ h. inr (form_on n room d ts a rest h)) h
form_on n room (maybe c) ts None rest h = ap on h
form_on n room (maybe c) ts (Some a) rest h = form_on n room c ts a rest h
form_on n room (many c far b) ts a rest h = repeats_on (λ a ts b rest h. form_on n room (c a) ts b rest h) h
form_on n room (mapped g' p c i) ts a rest h = (h.0, h.1, form_on n room c ts h.0 rest h.2)
form_on n room (within f' g' c p i) ts a rest h = form_on n room c ts a rest h
form_on zero room (deeper c) ts a rest h = form_on zero room c ts a rest h
form_on (suc n) room (deeper c) ts a rest h = form_on n room c ts a rest h
form_on n room (outermost c) ts a rest h = subst (λ r. form n r c (on ts) a (on rest)) (sym (enter_on room ts)) (form_on n (enter room ts) c ts a rest h)
form_on zero room (refer x) ts a rest h = absurd h
form_on (suc n) room (refer x) ts a rest h = form_on n room (rules x) ts a rest h

pub form_off : (n : ℕ) {A : Type 0} {f : Terminals} {g : A → Terminals} {e : Bool} (room : Room) (c : Code A f g e) (ts : List Symbol) (a : A) (rest : List Symbol) → form n room c (on ts) a rest → Off (form n room c) ts a rest
form_off n room (nothing b) ts a rest h = (ts, sym h.1, (h.0, refl))
form_off n room (token_of test ms of k x is) ts a rest h = one_off n room test ms of ts a rest h
form_off n room (pair c d far) ts a rest h =
    let i = form_off n room c ts h.0 h.1 h.2 in
    let j = form_off n room (d h.0) i.0 a rest (subst (λ us. form n room (d h.0) us a rest) i.1 h.3) in
    (j.0, j.1, (h.0, i.0, i.2, j.2))
form_off n room (link c d far) ts a rest h =
    let i = form_off n room c ts h.0 h.1 h.2 in
    let j = form_off n room (d h.0) i.0 h.3.0 rest (subst (λ us. form n room (d h.0) us h.3.0 rest) i.1 h.3.2) in
    (j.0, j.1, (h.0, i.0, i.2, (h.3.0, h.3.1, j.2)))
form_off n room (choice c d far) ts a rest h = ⊎_elim (λ h. let i = form_off n room c ts a rest h in (i.0, i.1, inl i.2)) (λ h. let i = form_off n room d ts a rest h in (i.0, i.1, inr i.2)) h
form_off n room (maybe c) ts None rest h = (ts, sym h, refl)
form_off n room (maybe c) ts (Some a) rest h = form_off n room c ts a rest h
form_off n room (many c far b) ts a rest h = repeats_off (λ a ts b rest h. form_off n room (c a) ts b rest h) h ts refl
form_off n room (mapped g' p c i) ts a rest h = let j = form_off n room c ts h.0 rest h.2 in (j.0, j.1, (h.0, h.1, j.2))
form_off n room (within f' g' c p i) ts a rest h = form_off n room c ts a rest h
form_off zero room (deeper c) ts a rest h = form_off zero room c ts a rest h
form_off (suc n) room (deeper c) ts a rest h = form_off n room c ts a rest h
form_off n room (outermost c) ts a rest h = form_off n (enter room ts) c ts a rest (subst (λ r. form n r c (on ts) a rest) (enter_on room ts) h)
form_off zero room (refer x) ts a rest h = absurd h
form_off (suc n) room (refer x) ts a rest h = form_off n room (rules x) ts a rest h

pub front_on : (n : ℕ) {A : Type 0} {f : Terminals} {g : A → Terminals} {e : Bool} (room : Room) (c : Code A f g e) (ts : List Symbol) → front n room c ts → front n room c (on ts)
front_on n room (nothing b) ts h = ap on h
front_on n room (token_of test ms of k x is) ts h = one_front_on n room test ms of ts h
front_on n room (pair c d far) ts h = ⊎_elim (λ h. inl (front_on n room c ts h)) (λ h. inr (h.0, on h.1, form_on n room c ts h.0 h.1 h.2, front_on n room (d h.0) h.1 h.3)) h
front_on n room (link c d far) ts h = ⊎_elim (λ h. inl (front_on n room c ts h)) (λ h. inr (h.0, on h.1, form_on n room c ts h.0 h.1 h.2, front_on n room (d h.0) h.1 h.3)) h
front_on n room (choice c d far) ts h = ⊎_elim (λ h. inl (front_on n room c ts h)) (λ h. inr (front_on n room d ts h)) h
front_on n room (maybe c) ts h = front_on n room c ts h
front_on n room (many c far b) ts h = repeats_front_on (λ a ts b rest h. form_on n room (c a) ts b rest h) (λ a ts h. front_on n room (c a) ts h) h
front_on n room (mapped g' p c i) ts h = front_on n room c ts h
front_on n room (within f' g' c p i) ts h = front_on n room c ts h
front_on zero room (deeper c) ts h = front_on zero room c ts h
front_on (suc n) room (deeper c) ts h = front_on n room c ts h
front_on n room (outermost c) ts h = subst (λ r. front n r c (on ts)) (sym (enter_on room ts)) (front_on n (enter room ts) c ts h)
front_on zero room (refer x) ts h = ap on h
front_on (suc n) room (refer x) ts h = front_on n room (rules x) ts h

pub front_off : (n : ℕ) {A : Type 0} {f : Terminals} {g : A → Terminals} {e : Bool} (room : Room) (c : Code A f g e) (ts : List Symbol) → front n room c (on ts) → front n room c ts
front_off n room (nothing b) ts h = is_nothing ts h
front_off n room (token_of test ms of k x is) ts h = one_front_off n room test ms of ts h
front_off n room (pair c d far) ts h =
    ⊎_elim (λ h. inl (front_off n room c ts h))
    (λ h. let i = form_off n room c ts h.0 h.1 h.2 in inr (h.0, i.0, i.2, front_off n room (d h.0) i.0 (subst (λ us. front n room (d h.0) us) i.1 h.3))) h
front_off n room (link c d far) ts h =
    ⊎_elim (λ h. inl (front_off n room c ts h))
    (λ h. let i = form_off n room c ts h.0 h.1 h.2 in inr (h.0, i.0, i.2, front_off n room (d h.0) i.0 (subst (λ us. front n room (d h.0) us) i.1 h.3))) h
front_off n room (choice c d far) ts h = ⊎_elim (λ h. inl (front_off n room c ts h)) (λ h. inr (front_off n room d ts h)) h
front_off n room (maybe c) ts h = front_off n room c ts h
front_off n room (many c far b) ts h = repeats_front_off (λ a ts b rest h. form_off n room (c a) ts b rest h) (λ a ts h. front_off n room (c a) ts h) h ts refl
front_off n room (mapped g' p c i) ts h = front_off n room c ts h
front_off n room (within f' g' c p i) ts h = front_off n room c ts h
front_off zero room (deeper c) ts h = front_off zero room c ts h
front_off (suc n) room (deeper c) ts h = front_off n room c ts h
front_off n room (outermost c) ts h = front_off n (enter room ts) c ts (subst (λ r. front n r c (on ts)) (enter_on room ts) h)
front_off zero room (refer x) ts h = is_nothing ts h
front_off (suc n) room (refer x) ts h = front_off n room (rules x) ts h

-- ---- whole texts

pub spells : (n : ℕ) {A : Type 0} {f : Terminals} {g : A → Terminals} {e : Bool} (room : Room) (c : Code A f g e) (ts : List Symbol) (a : A) → form n room c (on ts) a [] → form n room c ts a []
spells n room c ts a h = let i = form_off n room c ts a [] h in subst (λ rest. form n room c ts a rest) (is_nothing i.0 (sym i.1)) i.2
