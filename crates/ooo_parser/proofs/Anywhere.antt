-- A refusal of symbols is one wherever their bytes stand in memory. The grammar's own laws on this are premises.
use Rattle.std.proofs.Common.{◌≡◌, ℕ, ◌-◌, Bool, true, false, not, ◌&&◌, List, [], ◌∷◌, ◌++◌, Option, Some, None, length, map, slice_get, ◌⊎◌, inl, inr, ⊎_elim, Any, refl, sym, ap, ◌∙◌, subst}
use Rattle.std.proofs.lemmas.List.{map-append, length-map}
use Rattle.std.proofs.lemmas.Option.{slice_get-map}
use Rattle.std.specs.Option.{option_map}
use Rattle.ooo_lexer.specs.declared.position.Position.{Position}
use Rattle.ooo_syntax.specs.declared.error.ParseBreach.{ParseBreach}
use Rattle.ooo_syntax.specs.declared.terminal.Terminal.{Terminal}
use Rattle.ooo_syntax.specs.declared.symbol.Symbol.{Symbol}
use Rattle.ooo_grammar.specs.Numbers.{number}
use Rattle.ooo_grammar.specs.Names.{type_words}
use Rattle.ooo_grammar.specs.Sets.{Terminals, anywhere, has, in_set}
use Rattle.ooo_grammar.specs.Readings.{Room, free, form, front}
use Rattle.ooo_grammar.specs.Roots.{Root, Tree, roots}
use Rattle.ooo_grammar.specs.Gives.{level_limit, room_at}
use Rattle.ooo_grammar.specs.Laws.{IsAnywhere, TypesStay, Derives, Begins, Refuses, Keeps, ExceedsAt}
use Rattle.ooo_parser.specs.Words.{words, opens_word, is_type_word, ends_in_type_word, in_place}
use Rattle.ooo_parser.specs.Refusals.{IsTreeOf, IsWithin, AWordMayFollow, AWordIsWithin, IsType, IsSignalOfType, EndsInSignalOfType, IsForeign, BreachOf, IsAtFirst, StopsAt, IsToldOf, itself, no_word, other_word, word_missing, word_too_deep, IsRefused, ends_early, refused, too_deep}
use Rattle.ooo_parser.specs.Anywhere.{IsTreeAnywhere, IsRefusedAnywhere}

abbrev on : List Symbol → List Symbol
on ts = map anywhere ts

-- ---- lists

on_append : (xs ys : List Symbol) → on (xs ++ ys) ≡ on xs ++ on ys
on_append xs ys = map-append anywhere xs ys

is_nothing : (ts : List Symbol) → on ts ≡ [] → ts ≡ []
is_nothing [] e = refl
is_nothing (k ∷ ts) e = absurd cc

record Parts (ts xs ys : List Symbol) : Type 0 where
  before : List Symbol
  after : List Symbol
  is : ts ≡ before ++ after
  first : xs ≡ on before
  second : ys ≡ on after

parts : (ts xs ys : List Symbol) → on ts ≡ xs ++ ys → Parts ts xs ys
parts ts [] ys e = record { before = []; after = ts; is = refl; first = refl; second = sym e }
parts [] (x ∷ xs) ys e = absurd cc
parts (k ∷ ts) (x ∷ xs) ys e =
    let head : x ≡ anywhere k = cc in
    let tail : on ts ≡ xs ++ ys = cc in
    let i = parts ts xs ys tail in
    record { before = k ∷ i.before; after = i.after; is = ap (λ ts. k ∷ ts) i.is; first = ap (λ x. x ∷ xs) head ∙ ap (λ xs. anywhere k ∷ xs) i.first; second = i.second }

-- ---- the word in a place

type_word_on : (o : Option Symbol) → is_type_word (option_map anywhere o) ≡ is_type_word o
type_word_on None = refl
type_word_on (Some k) = refl

ends_on : (read : List Symbol) → ends_in_type_word (on read) ≡ ends_in_type_word read
ends_on read =
    ap (λ n. is_type_word (slice_get (on read) (n - 1))) (length-map read anywhere)
    ∙ ap is_type_word (slice_get-map anywhere read (length read - 1))
    ∙ type_word_on (slice_get read (length read - 1))

placed_on : (read : List Symbol) (k : Symbol) (t : Terminal) → in_place (on read) (anywhere k) t ≡ anywhere (in_place read k t)
placed_on read k t = ap (λ b. record (anywhere k) { terminal = t; counts = has type_words (number t) && not b }) (ends_on read)

with_place : (read : List Symbol) (k : Symbol) (t : Terminal) → on (read ++ in_place read k t ∷ []) ≡ on read ++ in_place (on read) (anywhere k) t ∷ []
with_place read k t = on_append read (in_place read k t ∷ []) ∙ ap (λ x. on read ++ x ∷ []) (sym (placed_on read k t))

any_as : {X : Type 0} {P Q : X → Type 0} → ((x : X) → P x → Q x) → (xs : List X) → Any P xs → Any Q xs
any_as f xs a = (a.0, a.1, a.2, a.3, f a.1 a.4)

-- ---- types

module _ (types : TypesStay) where
  type_on : (ts : List Symbol) → IsType ts → IsType (on ts)
  type_on ts h = (h.0, (types level_limit (room_at None)).spelled ts h.0 h.1)

  type_off : (ts : List Symbol) → IsType (on ts) → IsType ts
  type_off ts h = (h.0, (types level_limit (room_at None)).spells ts h.0 h.1)

  signal_on : (ts : List Symbol) → IsSignalOfType ts → IsSignalOfType (on ts)
  signal_on [] h = h
  signal_on (s ∷ []) h = h
  signal_on (s ∷ l ∷ ts) h = (h.0, h.1, type_on ts h.2)

  signal_off : (ts : List Symbol) → IsSignalOfType (on ts) → IsSignalOfType ts
  signal_off [] h = h
  signal_off (s ∷ []) h = h
  signal_off (s ∷ l ∷ ts) h = (h.0, h.1, type_off ts h.2)

  ends_signal_on : (read : List Symbol) → EndsInSignalOfType read → EndsInSignalOfType (on read)
  ends_signal_on read h = (on h.0, on h.1, ap on h.2 ∙ on_append h.0 h.1, signal_on h.1 h.3)

  ends_signal_off : (read : List Symbol) → EndsInSignalOfType (on read) → EndsInSignalOfType read
  ends_signal_off read h = let i = parts read h.0 h.1 h.2 in (i.before, i.after, i.is, signal_off i.after (subst IsSignalOfType i.second h.3))

  foreign_on : (read : List Symbol) (k : Symbol) → IsForeign read k → IsForeign (on read) (anywhere k)
  foreign_on read k h = ⊎_elim (λ w. inl w) (λ c. inr (c.0, ends_signal_on read c.1)) h

  foreign_off : (read : List Symbol) (k : Symbol) → IsForeign (on read) (anywhere k) → IsForeign read k
  foreign_off read k h = ⊎_elim (λ w. inl w) (λ c. inr (c.0, ends_signal_off read c.1)) h

  breach_on : (read : List Symbol) (k : Symbol) (b : ParseBreach) → BreachOf read k b → BreachOf (on read) (anywhere k) b
  breach_on read k b h = ⊎_elim (λ f. inl (foreign_on read k f.0, f.1)) (λ f. inr ((λ g. f.0 (foreign_off read k g)), f.1)) h

first_on : (ts : List Symbol) (end : Position) (b : ParseBreach) (p : Position) → IsAtFirst ts end b p → IsAtFirst (on ts) end b p
first_on [] end b p h = h
first_on (k ∷ ts) end b p h = h

-- ---- beginnings

module _ (stay : IsAnywhere) (x : Root) where
  begins_on : (ts : List Symbol) → Begins (roots x) ts → Begins (roots x) (on ts)
  begins_on ts h = (h.0, (stay x h.0 free).begun ts h.1)

  begins_off : (ts : List Symbol) → Begins (roots x) (on ts) → Begins (roots x) ts
  begins_off ts h = (h.0, (stay x h.0 free).begins ts h.1)

  derives_off : (ts : List Symbol) (a : Tree x) → Derives (roots x) (on ts) a → Derives (roots x) ts a
  derives_off ts a h = (h.0, (stay x h.0 free).spells ts a h.1)

  within_on : (ts : List Symbol) → IsWithin x ts → IsWithin x (on ts)
  within_on ts h = (stay x level_limit (room_at None)).begun ts h

  within_off : (ts : List Symbol) → IsWithin x (on ts) → IsWithin x ts
  within_off ts h = (stay x level_limit (room_at None)).begins ts h

  may_on : (read : List Symbol) (k : Symbol) → AWordMayFollow x read k → AWordMayFollow x (on read) (anywhere k)
  may_on read k h = any_as (λ t b. subst (Begins (roots x)) (with_place read k t) (begins_on (read ++ in_place read k t ∷ []) b)) words h

  may_off : (read : List Symbol) (k : Symbol) → AWordMayFollow x (on read) (anywhere k) → AWordMayFollow x read k
  may_off read k h = any_as (λ t b. begins_off (read ++ in_place read k t ∷ []) (subst (Begins (roots x)) (sym (with_place read k t)) b)) words h

  is_within_on : (read : List Symbol) (k : Symbol) → AWordIsWithin x read k → AWordIsWithin x (on read) (anywhere k)
  is_within_on read k h = any_as (λ t b. subst (IsWithin x) (with_place read k t) (within_on (read ++ in_place read k t ∷ []) b)) words h

  is_within_off : (read : List Symbol) (k : Symbol) → AWordIsWithin x (on read) (anywhere k) → AWordIsWithin x read k
  is_within_off read k h = any_as (λ t b. within_off (read ++ in_place read k t ∷ []) (subst (IsWithin x) (sym (with_place read k t)) b)) words h

  -- ---- what is refused

  not_refused : (read rest : List Symbol) → ((k : Symbol) (us : List Symbol) → rest ≡ k ∷ us → Begins (roots x) (read ++ k ∷ []) → ⊥)
      → (k : Symbol) (us : List Symbol) → on rest ≡ k ∷ us → Begins (roots x) (on read ++ k ∷ []) → ⊥
  not_refused read [] h k us e b = absurd cc
  not_refused read (j ∷ rest) h k us e b =
      let head : k ≡ anywhere j = cc in
      h j rest refl (begins_off (read ++ j ∷ []) (subst (Begins (roots x)) (ap (λ k. on read ++ k ∷ []) head ∙ sym (on_append read (j ∷ []))) b))

  refuses_on : (ts rest : List Symbol) → Refuses (roots x) ts rest → Refuses (roots x) (on ts) (on rest)
  refuses_on ts rest r = record {
    read = on r.read;
    is = ap on r.is ∙ on_append r.read rest;
    begins = begins_on r.read r.begins;
    refused = not_refused r.read rest r.refused;
    unfinished = λ e a d. r.unfinished (is_nothing rest e) a (derives_off ts a d);
  }

  keeps_on : (ts rest : List Symbol) → Keeps level_limit (room_at None) (roots x) ts rest → Keeps level_limit (room_at None) (roots x) (on ts) (on rest)
  keeps_on ts rest r = record { read = on r.read; is = ap on r.is ∙ on_append r.read rest; within = within_on r.read r.within }

  one_more : (read : List Symbol) (k : Symbol) → on (read ++ k ∷ []) ≡ on read ++ anywhere k ∷ []
  one_more read k = on_append read (k ∷ [])

  exceeds_on : (ts rest : List Symbol) → ExceedsAt level_limit (room_at None) (roots x) ts rest → ExceedsAt level_limit (room_at None) (roots x) (on ts) (on rest)
  exceeds_on ts rest r = record {
    read = on r.read;
    token = anywhere r.token;
    later = on r.later;
    starts = ap on r.starts;
    is = ap on r.is ∙ on_append r.read (r.token ∷ r.later);
    begins = subst (Begins (roots x)) (one_more r.read r.token) (begins_on (r.read ++ r.token ∷ []) r.begins);
    within = within_on r.read r.within;
    beyond = λ w. r.beyond (within_off (r.read ++ r.token ∷ []) (subst (IsWithin x) (sym (one_more r.read r.token)) w));
  }

  stops_on : (read rest : List Symbol) → StopsAt x read rest → StopsAt x (on read) (on rest)
  stops_on read rest s = record {
    refuses = subst (λ ts. Refuses (roots x) ts (on rest)) (on_append read rest) (refuses_on (read ++ rest) rest s.refuses);
    keeps = subst (λ ts. Keeps level_limit (room_at None) (roots x) ts (on rest)) (on_append read rest) (keeps_on (read ++ rest) rest s.keeps);
  }

  module _ (types : TypesStay) where
    told_on : (read : List Symbol) (k : Symbol) (later : List Symbol) (end : Position) (b : ParseBreach) (p : Position) → IsToldOf x read k later end b p → IsToldOf x (on read) (anywhere k) (on later) end b p
    told_on read k later end b p (itself o f i) = itself o (breach_on types read k b f) i
    told_on read k later end b p (no_word o f i j) = no_word o (λ m. f (may_off read k m)) i j
    told_on read k later end b p (other_word o w l f i) = other_word o (is_within_on read k w) l (breach_on types read k b f) i
    told_on read k later end b p (word_missing o w l f) = word_missing o (is_within_on read k w) l (first_on later end b p f)
    told_on read k later end b p (word_too_deep o m f i j) = word_too_deep o (may_on read k m) (λ w. f (is_within_off read k w)) i j

    refused_on : (ts : List Symbol) (end : Position) (b : ParseBreach) (p : Position) → IsRefused x ts end b p → IsRefused x (on ts) end b p
    refused_on ts end b p (ends_early s i j) = ends_early (stops_on ts [] s) i j
    refused_on ts end b p (refused read k later e s t) = refused (on read) (anywhere k) (on later) (ap on e ∙ on_append read (k ∷ later)) (stops_on read (k ∷ later) s) (told_on read k later end b p t)
    refused_on ts end b p (too_deep k later e i j) = too_deep (anywhere k) (on later) (exceeds_on ts (k ∷ later) e) i j

  tree_on : (ts : List Symbol) (tree : Tree x) → IsTreeOf x ts tree → IsTreeOf x (on ts) tree
  tree_on ts tree t = record { spelled = (stay x level_limit (room_at None)).spelled ts tree t.spelled; only = λ other d. t.only other (derives_off ts other d) }

pub refused_anywhere : IsAnywhere → TypesStay → IsRefusedAnywhere
refused_anywhere stay types x ts end b p r = refused_on stay x types ts end b p r

pub tree_anywhere : IsAnywhere → IsTreeAnywhere
tree_anywhere stay x ts tree t = tree_on stay x ts tree t
