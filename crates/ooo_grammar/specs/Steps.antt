-- How the answer of a part is an answer of the whole.
use Rattle.std.proofs.Common.{◌≡◌, arith, if◌then◌else◌, Bool, true, false, ℕ, zero, suc, ◌-◌, List, Result, refl, sym, ap, ◌∙◌, subst}
use Rattle.ooo_syntax.specs.declared.symbol.Symbol.{Symbol}
use Rattle.ooo_grammar.specs.declared.limits.ReadError.{ReadError}
use Rattle.ooo_grammar.specs.declared.limits.ReadError.TheVariants as error
use Rattle.ooo_grammar.specs.Forms.{Outcome, Got, Bad, Deep, Reader, after, begins_with, repeats_in}
use Rattle.ooo_grammar.specs.Gives.{Stops, Gives, reads_at, room_at}
use Rattle.ooo_grammar.specs.declared.limits.Limits.{Limits}
use Rattle.ooo_grammar.specs.Readings.{Room, enter, reader}
use Rattle.ooo_grammar.specs.Sets.{Terminals}
use Rattle.ooo_grammar.specs.Codes.{Code, deeper, outermost}
use Rattle.std.specs.Borrow.{Bor}

if_true : {A : Type 0} (b : Bool) (x y : A) → b ≡ true → (if b then x else y) ≡ x
if_true b x y e = rw e refl

if_false : {A : Type 0} (b : Bool) (x y : A) → b ≡ false → (if b then x else y) ≡ y
if_false b x y e = rw e refl

-- an error of the first part
pub stops_first : {A B : Type 0} (o : Outcome A) (q : A → Reader B) (e : ReadError) → Stops o e → Stops (after o q) e
stops_first o q error.OutOfMemory h = tt
stops_first (Got a mid) q (error.Syntax n) h = absurd cc
stops_first (Bad rest) q (error.Syntax n) h = cc
stops_first (Deep rest) q (error.Syntax n) h = absurd cc
stops_first (Got a mid) q (error.TooDeep n) h = absurd cc
stops_first (Bad rest) q (error.TooDeep n) h = absurd cc
stops_first (Deep rest) q (error.TooDeep n) h = cc

-- an error after the first part
pub stops_second : {A B : Type 0} {o : Outcome A} (q : A → Reader B) (e : ReadError) {a : A} {mid : List Symbol} → o ≡ Got a mid → Stops (q a mid) e → Stops (after o q) e
stops_second q e i h = subst (λ o. Stops (after o q) e) (sym i) h

-- a value after the first part
pub got_second : {A B : Type 0} {o : Outcome A} (q : A → Reader B) {x : Outcome B} {a : A} {mid : List Symbol} → o ≡ Got a mid → q a mid ≡ x → after o q ≡ x
got_second q i h = ap (λ o. after o q) i ∙ h

-- ---- a loop over a repetition, whose body is a function with the step as its contract

module _ {A : Type 0} (first : Symbol → Bool) (step : A → Reader A) where
  pub loop_turn : (o : Outcome A) (n m : ℕ) (a b : A) (rest more : List Symbol) → o ≡ repeats_in first step n a rest → n ≡ suc m → begins_with first rest ≡ true → step a rest ≡ Got b more → o ≡ repeats_in first step m b more
  loop_turn o n m a b rest more h i f e = h ∙ ap (λ n. repeats_in first step n a rest) i ∙ if_true (begins_with first rest) (after (step a rest) (repeats_in first step m)) (Got a rest) f ∙ ap (λ o. after o (repeats_in first step m)) e

  pub loop_stops : (o : Outcome A) (n m : ℕ) (a : A) (rest : List Symbol) (e : ReadError) → o ≡ repeats_in first step n a rest → n ≡ suc m → begins_with first rest ≡ true → Stops (step a rest) e → Stops o e
  loop_stops o n m a rest e h i f s =
      subst (λ o. Stops o e) (sym (h ∙ ap (λ n. repeats_in first step n a rest) i ∙ if_true (begins_with first rest) (after (step a rest) (repeats_in first step m)) (Got a rest) f)) (stops_first (step a rest) (repeats_in first step m) e s)

  pub loop_ends : (o : Outcome A) (n : ℕ) (a : A) (rest : List Symbol) → o ≡ repeats_in first step n a rest → begins_with first rest ≡ false → o ≡ Got a rest
  loop_ends o zero a rest h f = h
  loop_ends o (suc n) a rest h f = h ∙ if_false (begins_with first rest) (after (step a rest) (repeats_in first step n)) (Got a rest) f

-- one level deeper
deeper_reads : (n : ℕ) {A : Type 0} {f : Terminals} {g : A → Terminals} {e : Bool} (room : Room) (c : Code A f g e) (ts : List Symbol) → reader n room (deeper c) ts ≡ reader (n - 1) room c ts
deeper_reads zero room c ts = refl
deeper_reads (suc n) room c ts = let e : n ≡ suc n - 1 = omega arith in ap (λ n. reader n room c ts) e

pub deeper_is : {A : Type 0} {f : Terminals} {g : A → Terminals} {e : Bool} (l m : Limits) (c : Code A f g e) (ts : List Symbol) → m.levels ≡ l.levels - 1 → m.bound ≡ l.bound → reads_at l (deeper c) ts ≡ reads_at m c ts
deeper_is l m c ts i j = deeper_reads l.levels (room_at l.bound) c ts ∙ ap (λ n. reader n (room_at l.bound) c ts) (sym i) ∙ ap (λ b. reader m.levels (room_at b) c ts) (sym j)

pub deeper_gives : {A : Type 0} {f : Terminals} {g : A → Terminals} {e : Bool} (l m : Limits) (c : Code A f g e) (ts : List Symbol) (r : Result (A × Bor (List Symbol)) ReadError) → m.levels ≡ l.levels - 1 → m.bound ≡ l.bound → Gives (reads_at m c ts) r → Gives (reads_at l (deeper c) ts) r
deeper_gives l m c ts r i j h = subst (λ o. Gives o r) (sym (deeper_is l m c ts i j)) h

-- an expression of its own
pub outermost_gives : {A : Type 0} {f : Terminals} {g : A → Terminals} (l m : Limits) (c : Code A f g false) (ts : List Symbol) (r : Result (A × Bor (List Symbol)) ReadError)
    → m.levels ≡ l.levels → room_at m.bound ≡ enter (room_at l.bound) ts → Gives (reads_at m c ts) r → Gives (reads_at l (outermost c) ts) r
outermost_gives l m c ts r i j h =
    subst (λ o. Gives o r) (ap (λ n. reader n (room_at m.bound) c ts) i ∙ ap (λ room. reader l.levels room c ts) j) h

pub ruleset steps = (stops_first, stops_second, got_second)
