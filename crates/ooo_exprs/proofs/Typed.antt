-- What follows `(`, where a type stands there and where none does.
use Rattle.std.proofs.Common.{if◌then◌else◌, ◌≡◌, ◌||◌, ◌==◌, ℕ, zero, suc, ◌-◌, Bool, true, false, List, [], ◌∷◌, Some, None, Result, refl, sym, ap, ◌∙◌, subst}
use Rattle.std.specs.Borrow.{Bor}
use Rattle.std.proofs.lemmas.Bool.{eqb-true, false≢true}
use Rattle.ooo_syntax.specs.declared.symbol.Symbol.{Symbol}
use Rattle.ooo_syntax.specs.declared.symbol.Mark.{Mark}
use Rattle.ooo_syntax.specs.declared.terminal.Terminal.TheVariants as terminal
use Rattle.ooo_syntax.specs.declared.expr.Expr.{Expr}
use Rattle.ooo_syntax.specs.declared.leaves.TypeForm.{TypeForm}
use Rattle.ooo_syntax.specs.declared.leaves.TypeForm.TheVariants as form
use Rattle.ooo_syntax.specs.declared.leaves.TypeName.{TypeName}
use Rattle.ooo_grammar.specs.declared.limits.ReadError.{ReadError}
use Rattle.ooo_grammar.specs.declared.limits.Limits.{Limits}
use Rattle.ooo_grammar.specs.Forms.{Outcome, Got, Bad, Deep, Reader, after, begins_with, nothing_r}
use Rattle.ooo_grammar.specs.Sets.{in_set}
use Rattle.ooo_grammar.specs.Numbers.{number}
use Rattle.ooo_grammar.specs.Names.{type_words}
use Rattle.ooo_grammar.specs.Codes.{deeper}
use Rattle.ooo_grammar.specs.Combinators.{quoted}
use Rattle.ooo_grammar.specs.Lexis.{named_type, with_int, int_after, long_after, after_unsigned, plain_type, type_name}
use Rattle.ooo_grammar.specs.Expressions.{after_open, after_short_type, after_unsigned_cast, long_cast, cast_to, conversion_first, parenthesis}
use Rattle.ooo_grammar.specs.Readings.{Room, reader}
use Rattle.ooo_grammar.specs.Gives.{Gives, Stops, reads_at, room_at}
use Rattle.ooo_grammar.specs.Steps.{stops_first, deeper_is}
use Rattle.ooo_exprs.specs.Levels.{is_cast}
use Rattle.ooo_exprs.specs.Steps.{gives_second}

abbrev closes : List Symbol → Bool
closes ts = begins_with (in_set (terminal.Close ∷ [])) ts

-- after `(` and a type
abbrev typed : ℕ → Room → Mark → TypeName → Reader Expr
typed n room k t ts = if is_cast t.form (closes ts) then reader n room (cast_to k t) ts else reader n room (conversion_first k t) ts

-- ---- which of the type's words stands there

one_of_four : (a b c d : Bool) → (a || (b || (c || (d || false)))) ≡ ((a || (b || false)) || ((c || false) || (d || false)))
one_of_four true b c d = refl
one_of_four false true c d = refl
one_of_four false false true d = refl
one_of_four false false false d = refl

words : (ts : List Symbol) → begins_with (in_set type_words) ts ≡ (begins_with (in_set (terminal.Bool ∷ terminal.Int ∷ [])) ts || (begins_with (in_set (terminal.Unsigned ∷ [])) ts || begins_with (in_set (terminal.Long ∷ [])) ts))
words [] = refl
words (s ∷ ts) = one_of_four (14 == number s.terminal) (15 == number s.terminal) (16 == number s.terminal) (17 == number s.terminal)

pick : (p u w : Bool) (A B C D : Outcome Expr) (A' B' C' : Outcome TypeName) (q : TypeName → Reader Expr) → (p || (u || w)) ≡ true → A ≡ after A' q → B ≡ after B' q → C ≡ after C' q
    → (if p then A else if u then B else if w then C else D) ≡ after (if p then A' else if u then B' else C') q
pick true u w A B C D A' B' C' q h a b c = a
pick false true w A B C D A' B' C' q h a b c = b
pick false false true A B C D A' B' C' q h a b c = c
pick false false false A B C D A' B' C' q h a b c = absurd cc

none_of : (p u w : Bool) (A B C D : Outcome Expr) → (p || (u || w)) ≡ false → (if p then A else if u then B else if w then C else D) ≡ D
none_of true u w A B C D h = absurd cc
none_of false true w A B C D h = absurd cc
none_of false false true A B C D h = absurd cc
none_of false false false A B C D h = refl

-- ---- a type's first word, and what follows it

made : (o : Outcome Mark) (h : Mark → TypeName) (q q' : TypeName → Reader Expr) → ((k : Mark) (ts : List Symbol) → q (h k) ts ≡ q' (h k) ts) → after (after o (λ k. nothing_r (h k))) q ≡ after (after o (λ k. nothing_r (h k))) q'
made (Got k rest) h q q' i = i k rest
made (Bad rest) h q q' i = refl
made (Deep rest) h q q' i = refl

either_made : (b : Bool) (o o' : Outcome Mark) (h h' : Mark → TypeName) (q q' : TypeName → Reader Expr) → ((k : Mark) (ts : List Symbol) → q (h k) ts ≡ q' (h k) ts) → ((k : Mark) (ts : List Symbol) → q (h' k) ts ≡ q' (h' k) ts)
    → after (if b then after o (λ k. nothing_r (h k)) else after o' (λ k. nothing_r (h' k))) q ≡ after (if b then after o (λ k. nothing_r (h k)) else after o' (λ k. nothing_r (h' k))) q'
either_made true o o' h h' q q' i j = made o h q q' i
either_made false o o' h h' q q' i j = made o' h' q q' j

-- two readers one after the other, seen from either end
grouped : {A B C : Type 0} (o : Outcome A) (p : A → Reader B) (q : B → Reader C) → after (after o p) q ≡ after o (λ a ts. after (p a ts) q)
grouped (Got a rest) p q = refl
grouped (Bad rest) p q = refl
grouped (Deep rest) p q = refl

same_after : {A B : Type 0} (o : Outcome A) (p q : A → Reader B) → ((a : A) (ts : List Symbol) → p a ts ≡ q a ts) → after o p ≡ after o q
same_after (Got a rest) p q h = h a rest
same_after (Bad rest) p q h = refl
same_after (Deep rest) p q h = refl

module _ (n m : ℕ) (room : Room) (k : Mark) where
  -- `int` or nothing, where a cast follows after both
  int_typed : (b : Bool) (o : Outcome Mark) (ts : List Symbol) (u : Mark) (bare full : TypeForm) → ((c : Bool) → is_cast bare c ≡ true) → ((c : Bool) → is_cast full c ≡ true)
      → after (after (if b then after o (λ k. nothing_r (Some k)) else Got None ts) (λ i. nothing_r (with_int bare full i))) (λ f. reader n room (cast_to k (named_type u f)))
      ≡ after (after (after (if b then after o (λ k. nothing_r (Some k)) else Got None ts) (λ i. nothing_r (with_int bare full i))) (λ f. nothing_r (named_type u f))) (typed n room k)
  int_typed true (Got i rest) ts u bare full h h' = ap (λ c. if c then reader n room (cast_to k (named_type u full)) rest else reader n room (conversion_first k (named_type u full)) rest) (sym (h' (closes rest)))
  int_typed true (Bad rest) ts u bare full h h' = refl
  int_typed true (Deep rest) ts u bare full h h' = refl
  int_typed false o ts u bare full h h' = ap (λ c. if c then reader n room (cast_to k (named_type u bare)) ts else reader n room (conversion_first k (named_type u bare)) ts) (sym (h (closes ts)))

  -- what follows the first `long`
  long_typed : (ts : List Symbol) (u : Mark) (bare full : TypeForm) → ((c : Bool) → is_cast bare c ≡ true) → ((c : Bool) → is_cast full c ≡ true)
      → after (reader m room (long_after bare full) ts) (λ f. reader n room (cast_to k (named_type u f))) ≡ after (after (reader m room (long_after bare full) ts) (λ f. nothing_r (named_type u f))) (typed n room k)
  unfolding long_after int_after
  long_typed ts u bare full h h' = at (reader m room (quoted terminal.Long) ts)
    where
      at : (o : Outcome Mark) → after (after o (λ _. reader m room (int_after bare full))) (λ f. reader n room (cast_to k (named_type u f))) ≡ after (after (after o (λ _. reader m room (int_after bare full))) (λ f. nothing_r (named_type u f))) (typed n room k)
      at (Got l rest) = int_typed (begins_with (in_set (terminal.Int ∷ [])) rest) (reader m room (quoted terminal.Int) rest) rest u bare full h h'
      at (Bad rest) = refl
      at (Deep rest) = refl

  -- what follows `unsigned`
  unsigned_pick : (i w : Bool) (int long : Outcome Mark) (ts : List Symbol) (u : Mark) → (i ≡ true → w ≡ true → ⊥)
      → (if i then after int (λ _. reader n room (cast_to k (named_type u form.UnsignedInt)))
      else if w then after long (λ _ ts. after (reader m room (long_after form.UnsignedLongLong form.UnsignedLongLongInt) ts) (λ f. reader n room (cast_to k (named_type u f))))
      else typed n room k (named_type u form.Unsigned) ts)
      ≡ after (after (if w then after long (λ _. reader m room (long_after form.UnsignedLongLong form.UnsignedLongLongInt))
      else after (if i then after int (λ k. nothing_r (Some k)) else Got None ts) (λ i. nothing_r (with_int form.Unsigned form.UnsignedInt i))) (λ f. nothing_r (named_type u f))) (typed n room k)
  unsigned_pick true true int long ts u apart = absurd (apart refl refl)
  unsigned_pick true false (Got i rest) long ts u apart = refl
  unsigned_pick true false (Bad rest) long ts u apart = refl
  unsigned_pick true false (Deep rest) long ts u apart = refl
  unsigned_pick false true int (Got l rest) ts u apart = long_typed rest u form.UnsignedLongLong form.UnsignedLongLongInt (λ c. refl) (λ c. refl)
  unsigned_pick false true int (Bad rest) ts u apart = refl
  unsigned_pick false true int (Deep rest) ts u apart = refl
  unsigned_pick false false int long ts u apart = refl

  or_false : (b : Bool) → (b || false) ≡ true → b ≡ true
  or_false true h = refl
  or_false false h = absurd cc

  int_not_long : (ts : List Symbol) → begins_with (in_set (terminal.Int ∷ [])) ts ≡ true → begins_with (in_set (terminal.Long ∷ [])) ts ≡ true → ⊥
  int_not_long [] h i = absurd (false≢true h)
  int_not_long (s ∷ ts) h i =
      let j : 15 ≡ number s.terminal = eqb-true 15 (number s.terminal) (or_false (15 == number s.terminal) h) in
      absurd (false≢true (ap (λ n. 17 == n) j ∙ or_false (17 == number s.terminal) i))

  unsigned_typed : (ts : List Symbol) (u : Mark)
      → (if begins_with (in_set (terminal.Int ∷ [])) ts then after (reader m room (quoted terminal.Int) ts) (λ _. reader n room (cast_to k (named_type u form.UnsignedInt)))
      else if begins_with (in_set (terminal.Long ∷ [])) ts then after (reader m room (quoted terminal.Long) ts) (λ _ ts. after (reader m room (long_after form.UnsignedLongLong form.UnsignedLongLongInt) ts) (λ f. reader n room (cast_to k (named_type u f))))
      else reader n room (after_short_type k (named_type u form.Unsigned)) ts)
      ≡ after (after (reader m room after_unsigned ts) (λ f. nothing_r (named_type u f))) (typed n room k)
  unfolding after_short_type after_unsigned int_after
  unsigned_typed ts u =
      unsigned_pick (begins_with (in_set (terminal.Int ∷ [])) ts) (begins_with (in_set (terminal.Long ∷ [])) ts) (reader m room (quoted terminal.Int) ts) (reader m room (quoted terminal.Long) ts) ts u (int_not_long ts)

  -- what follows `(` where a type stands, whose words stand on m levels
  type_stands : (ts : List Symbol) → begins_with (in_set type_words) ts ≡ true
      → (if begins_with (in_set (terminal.Bool ∷ terminal.Int ∷ [])) ts then after (reader m room plain_type ts) (λ t. reader n room (after_short_type k t))
      else if begins_with (in_set (terminal.Unsigned ∷ [])) ts then after (reader m room (quoted terminal.Unsigned) ts) (λ u ts. if begins_with (in_set (terminal.Int ∷ [])) ts then after (reader m room (quoted terminal.Int) ts) (λ _. reader n room (cast_to k (named_type u form.UnsignedInt)))
      else if begins_with (in_set (terminal.Long ∷ [])) ts then after (reader m room (quoted terminal.Long) ts) (λ _ ts. after (reader m room (long_after form.UnsignedLongLong form.UnsignedLongLongInt) ts) (λ f. reader n room (cast_to k (named_type u f))))
      else reader n room (after_short_type k (named_type u form.Unsigned)) ts)
      else if begins_with (in_set (terminal.Long ∷ [])) ts then after (reader m room (quoted terminal.Long) ts) (λ u ts. after (reader m room (long_after form.LongLong form.LongLongInt) ts) (λ f. reader n room (cast_to k (named_type u f))))
      else reader n room (parenthesis k) ts)
      ≡ after (reader m room type_name ts) (typed n room k)
  unfolding plain_type after_short_type type_name
  type_stands ts h =
      pick (begins_with (in_set (terminal.Bool ∷ terminal.Int ∷ [])) ts) (begins_with (in_set (terminal.Unsigned ∷ [])) ts) (begins_with (in_set (terminal.Long ∷ [])) ts) _ _ _ _ _ _ _ (typed n room k) (sym (words ts) ∙ h)
      (either_made (begins_with (in_set (terminal.Bool ∷ [])) ts) (reader m room (quoted terminal.Bool) ts) (reader m room (quoted terminal.Int) ts) (λ u. named_type u form.Bool) (λ u. named_type u form.Int) (λ t. reader n room (after_short_type k t)) (typed n room k) (λ u ts. refl) (λ u ts. refl))
      (same_after (reader m room (quoted terminal.Unsigned) ts) _ _ (λ u rest. unsigned_typed rest u) ∙ sym (grouped (reader m room (quoted terminal.Unsigned) ts) (λ u ts. after (reader m room after_unsigned ts) (λ f. nothing_r (named_type u f))) (typed n room k)))
      (same_after (reader m room (quoted terminal.Long) ts) _ _ (λ u rest. long_typed rest u form.LongLong form.LongLongInt (λ c. refl) (λ c. refl)) ∙ sym (grouped (reader m room (quoted terminal.Long) ts) (λ u ts. after (reader m room (long_after form.LongLong form.LongLongInt) ts) (λ f. nothing_r (named_type u f))) (typed n room k)))

open_at : (n : ℕ) (room : Room) (k : Mark) (ts : List Symbol) → begins_with (in_set type_words) ts ≡ true → reader n room (after_open k) ts ≡ after (reader n room (deeper type_name) ts) (typed n room k)
unfolding after_open after_unsigned_cast long_cast
open_at zero room k ts h = type_stands zero zero room k ts h
open_at (suc n) room k ts h = type_stands (suc n) n room k ts h

-- ---- what the code reads after `(`

pub plain_opens : (l : Limits) (k : Mark) (ts : List Symbol) (b : Bool) (r : Result (Expr × Bor (List Symbol)) ReadError) → b ≡ begins_with (in_set type_words) ts → b ≡ false → Gives (reads_at l (parenthesis k) ts) r → Gives (reads_at l (after_open k) ts) r
unfolding after_open
plain_opens l k ts b r h i g =
    subst (λ o. Gives o r)
    (sym (none_of (begins_with (in_set (terminal.Bool ∷ terminal.Int ∷ [])) ts) (begins_with (in_set (terminal.Unsigned ∷ [])) ts) (begins_with (in_set (terminal.Long ∷ [])) ts) _ _ _ (reads_at l (parenthesis k) ts) (sym (words ts) ∙ sym h ∙ i))) g

module _ (l m : Limits) (k : Mark) (ts : List Symbol) (b : Bool) (h : b ≡ begins_with (in_set type_words) ts) (i : b ≡ true) (s : m.levels ≡ l.levels - 1) (u : m.bound ≡ l.bound) where
  opens : reads_at l (after_open k) ts ≡ after (reads_at m type_name ts) (typed l.levels (room_at l.bound) k)
  opens = open_at l.levels (room_at l.bound) k ts (sym h ∙ i) ∙ ap (λ o. after o (typed l.levels (room_at l.bound) k)) (deeper_is l m type_name ts s u)

  pub type_stops : (e : ReadError) → Stops (reads_at m type_name ts) e → Stops (reads_at l (after_open k) ts) e
  type_stops e g = subst (λ o. Stops o e) (sym opens) (stops_first (reads_at m type_name ts) (typed l.levels (room_at l.bound) k) e g)

  module _ (t : TypeName) (rest : List Symbol) (c : Bool) (j : reads_at m type_name ts ≡ Got t rest) (p : c ≡ is_cast t.form (closes rest)) where
    typed_gives : (r : Result (Expr × Bor (List Symbol)) ReadError) → Gives (if c then reads_at l (cast_to k t) rest else reads_at l (conversion_first k t) rest) r → Gives (reads_at l (after_open k) ts) r
    typed_gives r g =
        subst (λ o. Gives o r) (sym opens) (gives_second (typed l.levels (room_at l.bound) k) r j (subst (λ c. Gives (if c then reads_at l (cast_to k t) rest else reads_at l (conversion_first k t) rest) r) p g))

    pub cast_opens : (r : Result (Expr × Bor (List Symbol)) ReadError) → c ≡ true → Gives (reads_at l (cast_to k t) rest) r → Gives (reads_at l (after_open k) ts) r
    cast_opens r e g = typed_gives r (subst (λ c. Gives (if c then reads_at l (cast_to k t) rest else reads_at l (conversion_first k t) rest) r) (sym e) g)

    pub conversion_opens : (r : Result (Expr × Bor (List Symbol)) ReadError) → c ≡ false → Gives (reads_at l (conversion_first k t) rest) r → Gives (reads_at l (after_open k) ts) r
    conversion_opens r e g = typed_gives r (subst (λ c. Gives (if c then reads_at l (cast_to k t) rest else reads_at l (conversion_first k t) rest) r) (sym e) g)
