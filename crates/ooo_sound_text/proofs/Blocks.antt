-- Where names are declared one after the other and none of them twice, each has the number of its place.
use Rattle.std.proofs.Common.{◌≡◌, ◌∙◌, refl, sym, subst, arith, ℕ, ◌+◌, ◌-◌, List, [], ◌∷◌, ◌++◌, append_assoc, length, length-append, Bool, true, false, Option, Some, None, inl, inr}
use Rattle.std.specs.Prelude.{slice_get, is_some, if◌then◌else◌, ⊤}
use Rattle.std.specs.Cmp.Lexicographic.{bytes_decides, nat_list_eq_equiv}
use Rattle.std.specs.Str.{bytes_eq}
use Rattle.std.proofs.lemmas.Bool.{cond-true, cond-false}
use Rattle.std.proofs.lemmas.List.{append-nil}
use Rattle.ooo_lemmas.proofs.Placed.{kept_at, at_end, at_push}
use Rattle.ooo_lemmas.proofs.Each.{first_part, then_part}
use Rattle.ooo_syntax.specs.declared.leaves.Word.{Word}
use Rattle.ooo_checked.specs.declared.breach.TypeBreach.TheVariants as what
use Rattle.ooo_checked.specs.declared.denotation.Denotation.{Denotation}
use Rattle.ooo_checked.specs.declared.denotation.Resolved.{Resolved}
use Rattle.ooo_checked.specs.declared.denotation.Thing.{Thing}
use Rattle.ooo_checked.specs.declared.denotation.Thing.TheVariants as thing
use Rattle.ooo_checked.specs.Notes.{breach_when}
use Rattle.ooo_checked.specs.Scopes.{Binding, Scope, entered, found_in, size_of}
use Rattle.ooo_checked.specs.Stats.{Stepped, in_order}
use Rattle.ooo_members.specs.Declarations.{denotation_of, name_of}
use Rattle.ooo_sound_text.specs.Right.{AreRight, IsRight}
use Rattle.ooo_sound_text.proofs.Entries.{Entry, entries_by, entry}

-- a name of a module's member is declared as a thing that stands so among its members' things: what a function gives is
-- left out, and an instance stands for any
abbrev pub IsAs : Thing → Thing → Type 0
IsAs (thing.Variable k) t = thing.Variable k ≡ t
IsAs (thing.Fixed k is_static) t = thing.Fixed k is_static ≡ t
IsAs (thing.Array k) t = thing.Array k ≡ t
IsAs (thing.FixedArray k) t = thing.FixedArray k ≡ t
IsAs (thing.Signal k) t = thing.Signal k ≡ t
IsAs (thing.Fifo k) t = thing.Fifo k ≡ t
IsAs (thing.SignalPort d k) t = thing.SignalPort d k ≡ t
IsAs (thing.FifoIn k) t = thing.FifoIn k ≡ t
IsAs (thing.FifoOut k) t = thing.FifoOut k ≡ t
IsAs thing.Event t = thing.Event ≡ t
IsAs (thing.Instance n) t = ⊤
IsAs (thing.Function gives params) t = thing.Function None params ≡ t
IsAs _ t = ⊥

-- a name stands among entries where it says
pub record StandsAmong (es : List Entry) (d : Denotation) : Type 0 where
  pub found : Entry
  pub at : slice_get es d.number ≡ Some found
  pub is : IsAs d.thing found.thing

-- a block declares a name with this number
pub record IsNumbered (block : List Binding) (name : List ℕ) (x : ℕ) : Type 0 where
  pub denotes : Denotation
  pub found : found_in block name ≡ Some denotes
  pub number : denotes.number ≡ x

-- a scope is a block behind those of the file, and its names are these
pub record IsOn (file s : Scope) (es : List Entry) : Type 0 where
  pub block : List Binding
  pub is : s ≡ block ∷ file
  pub size : length block ≡ length es
  pub stands : (name : List ℕ) (d : Denotation) → found_in block name ≡ Some d → StandsAmong es d
  pub numbered : (x : ℕ) (e : Entry) → slice_get es x ≡ Some e → IsNumbered block e.name x

pub none_yet : (file : Scope) → IsOn file (entered file) []
none_yet file = record {
  block = [];
  is = refl;
  size = refl;
  stands = λ name d h. absurd cc;
  numbered = λ x e h. absurd cc;
}

-- ---- one name more

abbrev bound : List ℕ → Denotation → Binding
bound name d = record { name = name; denotes = d }

module _ (block : List Binding) (es : List Entry) (name : List ℕ) (d : Denotation) (t : Thing) (is : IsAs d.thing t)
    (number : d.number ≡ length es) where
  abbrev last : Entry
  last = record { name = name; thing = t }

  later_stands : ((q : List ℕ) (c : Denotation) → found_in block q ≡ Some c → StandsAmong es c) →
      (q : List ℕ) (c : Denotation) → found_in (bound name d ∷ block) q ≡ Some c → StandsAmong (es ++ last ∷ []) c
  later_stands before q c h = by (bytes_eq q name) h
    where
      by : (b : Bool) → (if b then Some d else found_in block q) ≡ Some c → StandsAmong (es ++ last ∷ []) c
      by true h =
          let same : d ≡ c = cc in
          subst (StandsAmong (es ++ last ∷ [])) same
          (record {
            found = last;
            at = subst (λ n. slice_get (es ++ last ∷ []) n ≡ Some last) (sym number) (at_end es last);
            is = is;
          })
      by false h =
          let r = before q c h in record { found = r.found; at = kept_at es (last ∷ []) c.number r.found r.at; is = r.is }

  -- a name that is declared before is another
  other_numbered : found_in block name ≡ None → (q : List ℕ) (x : ℕ) → IsNumbered block q x →
      IsNumbered (bound name d ∷ block) q x
  other_numbered new q x r = by (bytes_eq q name) refl
    where
      by : (b : Bool) → bytes_eq q name ≡ b → IsNumbered (bound name d ∷ block) q x
      by true e =
          let same : q ≡ name = (bytes_decides q name).0 e in
          let both : found_in block name ≡ Some r.denotes = subst (λ n. found_in block n ≡ Some r.denotes) same r.found in
          let clash : None ≡ Some r.denotes = sym new ∙ both in
          absurd cc
      by false e = record {
        denotes = r.denotes;
        found = cond-false (bytes_eq q name) (Some d) (found_in block q) e ∙ r.found;
        number = r.number;
      }

  later_numbered : found_in block name ≡ None → ((x : ℕ) (e : Entry) → slice_get es x ≡ Some e → IsNumbered block e.name x) →
      (x : ℕ) (e : Entry) → slice_get (es ++ last ∷ []) x ≡ Some e → IsNumbered (bound name d ∷ block) e.name x
  later_numbered new before x e h = elim (at_push es last e x h) [
    | inl at ↦ other_numbered new e.name x (before x e at)
    | inr same ↦
        subst (λ (f : Entry). IsNumbered (bound name d ∷ block) f.name x) same.1 (record {
          denotes = d;
          found = cond-true (bytes_eq name name) (Some d) (found_in block name) (nat_list_eq_equiv.refl name);
          number = number ∙ sym same.0;
        })
  ]

  one_more : (file : Scope) → found_in block name ≡ None → length block ≡ length es →
      ((q : List ℕ) (c : Denotation) → found_in block q ≡ Some c → StandsAmong es c) →
      ((x : ℕ) (e : Entry) → slice_get es x ≡ Some e → IsNumbered block e.name x) →
      IsOn file ((bound name d ∷ block) ∷ file) (es ++ last ∷ [])
  one_more file new size stands numbered = record {
    block = bound name d ∷ block;
    is = refl;
    size = omega (arith, length-append es (last ∷ []), size);
    stands = later_stands stands;
    numbered = later_numbered new numbered;
  }

module _ (file : Scope) (t u : Thing) (w : Word) (is : IsAs t u) where
  block_step : (block : List Binding) (es : List Entry) → length block ≡ length es →
      ((q : List ℕ) (c : Denotation) → found_in block q ≡ Some c → StandsAmong es c) →
      ((x : ℕ) (e : Entry) → slice_get es x ≡ Some e → IsNumbered block e.name x) →
      AreRight (name_of (size_of file) t w (block ∷ file)).notes →
      IsOn file (name_of (size_of file) t w (block ∷ file)).scope (es ++ entry w u ∷ [])
  block_step block es size stands numbered right = by (found_in block w.name) refl right
    where
      by : (o : Option Denotation) → found_in block w.name ≡ o →
          AreRight (breach_when (is_some o) what.DeclaredTwice w.position) →
          IsOn file (
          if is_some o then block ∷ file else (bound w.name (denotation_of (size_of file) t (block ∷ file)) ∷ block) ∷ file
          ) (es ++ entry w u ∷ [])
      by None new r =
          let number : length block + size_of file - size_of file ≡ length es = omega (arith, size) in
          one_more block es w.name (denotation_of (size_of file) t (block ∷ file)) u is number file new size stands numbered
      by (Some c) new r = absurd r.0

  -- a name that is not declared twice stands behind those before it
  pub name_step : (s : Scope) (es : List Entry) → IsOn file s es → AreRight (name_of (size_of file) t w s).notes →
      IsOn file (name_of (size_of file) t w s).scope (es ++ entry w u ∷ [])
  name_step s es on right =
      subst (
      λ (z : Scope).
      AreRight (name_of (size_of file) t w z).notes → IsOn file (name_of (size_of file) t w z).scope (es ++ entry w u ∷ [])
      )
      (sym on.is) (block_step on.block es on.size on.stands on.numbered) right

-- names one after the other
module _ (file : Scope) {X : Type 0} (word : X → Word) (t u : X → Thing) (is : (x : X) → IsAs (t x) (u x)) where
  abbrev name_at : X → Scope → Stepped Resolved
  name_at x s = name_of (size_of file) (t x) (word x) s

  pub names_step : (xs : List X) (s : Scope) (es : List Entry) → IsOn file s es → AreRight (in_order name_at xs s).notes →
      IsOn file (in_order name_at xs s).scope (es ++ entries_by word u xs)
  names_step [] s es on right = subst (IsOn file s) (sym (append-nil es)) on
  names_step (x ∷ xs) s es on right =
      let first = name_at x s in
      let others = in_order name_at xs first.scope in
      let e = entry (word x) (u x) in
      subst (IsOn file others.scope) (append_assoc es (e ∷ []) (entries_by word u xs))
      (names_step xs first.scope (es ++ e ∷ [])
      (name_step file (t x) (u x) (word x) (is x) s es on (first_part IsRight first.notes others.notes right))
      (then_part IsRight first.notes others.notes right))
