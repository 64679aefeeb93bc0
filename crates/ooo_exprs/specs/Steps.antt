-- How the answer of a part is an answer of the whole, beyond what the grammar's own steps say.
use Rattle.std.proofs.Common.{◌≡◌, arith, Bool, true, ℕ, suc, ◌+◌, ◌-◌, ◌<◌, List, length, Result, sym, ap, ◌∙◌, subst}
use Rattle.std.specs.Borrow.{Bor}
use Rattle.ooo_syntax.specs.declared.symbol.Symbol.{Symbol}
use Rattle.ooo_grammar.specs.declared.limits.ReadError.{ReadError}
use Rattle.ooo_grammar.specs.Forms.{Outcome, Got, Bad, Deep, Reader, after, begins_with, nothing_r, repeats_r, repeats_in}
use Rattle.ooo_grammar.specs.Gives.{Gives, Stops}
use Rattle.ooo_grammar.specs.Steps.{loop_turn, loop_stops}

-- what the last part of a form gives, the whole gives
pub gives_second : {A B : Type 0} {o : Outcome A} (q : A → Reader B) (r : Result (B × Bor (List Symbol)) ReadError) {a : A} {mid : List Symbol} → o ≡ Got a mid → Gives (q a mid) r → Gives (after o q) r
gives_second q r i h = subst (λ o. Gives (after o q) r) (sym i) h

-- where the sign that ends a form is read last, after what the form makes is made already
made_last : {A B C : Type 0} (x : Outcome C) (a : A) (h : A → B) (r : Result (B × Bor (List Symbol)) ReadError) → Gives (after x (λ _. nothing_r (h a))) r → Gives (after (after x (λ _. nothing_r a)) (λ a. nothing_r (h a))) r
made_last (Got k rest) a h r g = g
made_last (Bad rest) a h r g = g
made_last (Deep rest) a h r g = g

pub gives_made : {A B C : Type 0} {o : Outcome A} (x : Outcome C) (a : A) (b : B) (h : A → B) (r : Result (B × Bor (List Symbol)) ReadError) → o ≡ after x (λ _. nothing_r a) → b ≡ h a → Gives (after x (λ _. nothing_r b)) r → Gives (after o (λ a. nothing_r (h a))) r
gives_made x a b h r i j g =
    subst (λ o. Gives (after o (λ a. nothing_r (h a))) r) (sym i) (made_last x a h r (subst (λ b. Gives (after x (λ _. nothing_r b)) r) j g))

-- how a loop over a repetition begins, after its first part
pub loop_begins : {A B : Type 0} (first : Symbol → Bool) (step : A → Reader A) (start : B → A) (o : Outcome B) (n : ℕ) (b : B) (a : A) (rest : List Symbol) → o ≡ Got b rest → a ≡ start b → n ≡ length rest → after o (λ b. repeats_r first step (start b)) ≡ repeats_in first step n a rest
loop_begins first step start o n b a rest i j k =
    ap (λ o. after o (λ b. repeats_r first step (start b))) i ∙ ap (λ a. repeats_in first step (length rest) a rest) (sym j) ∙ ap (λ n. repeats_in first step n a rest) (sym k)

-- ---- a turn of a loop that counts its turns up

module _ {A : Type 0} (first : Symbol → Bool) (step : A → Reader A) where
  pub turn_made : (o : Outcome A) (n t : ℕ) (a b : A) (rest more : List Symbol) → o ≡ repeats_in first step (n - t) a rest → t < n → begins_with first rest ≡ true → step a rest ≡ Got b more → o ≡ repeats_in first step (n - (t + 1)) b more
  turn_made o n t a b rest more h lt f e =
      let i : n - t ≡ suc (n - (t + 1)) = omega arith in
      loop_turn first step o (n - t) (n - (t + 1)) a b rest more h i f e

  pub turn_refused : (o : Outcome A) (n t : ℕ) (a : A) (rest : List Symbol) (e : ReadError) → o ≡ repeats_in first step (n - t) a rest → t < n → begins_with first rest ≡ true → Stops (step a rest) e → Stops o e
  turn_refused o n t a rest e h lt f s =
      let i : n - t ≡ suc (n - (t + 1)) = omega arith in
      loop_stops first step o (n - t) (n - (t + 1)) a rest e h i f s
