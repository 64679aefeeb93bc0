-- Codes: a grammar as data.
use Rattle.std.specs.Prelude.{◌≡◌, Bool, true, false, ◌&&◌, [], Option, Some, None}
use Rattle.ooo_syntax.specs.declared.symbol.Symbol.{Symbol}
use Rattle.ooo_grammar.specs.Sets.{Terminals, disjoint, subset, join, OfTerminals}
use Rattle.ooo_grammar.specs.Names.{Name, Value, begins, goes}

-- what may go on with an optional part that these terminals begin
abbrev pub after_maybe : {A : Type 0} → Terminals → (A → Terminals) → Option A → Terminals
after_maybe f g None = f
after_maybe f g (Some a) = g a

-- a form of values A that these terminals may begin, that these may go on with after a value, and that may be empty
pub data Code : (A : Type 0) → (first : Terminals) → (goes : A → Terminals) → (empty : Bool) → Type 1 where
  nothing : {A : Type 0} → A → Code A [] (λ _. []) true
  token_of : {X : Type 0} (test : Symbol → Option X) (terminals : Terminals) → OfTerminals test terminals → (k : Symbol) (x : X) → test k ≡ Some x → Code X terminals (λ _. []) false
  pair : {A B : Type 0} {f1 g1 f2 : Terminals} {g2 : B → Terminals} {e1 e2 : Bool} → Code A f1 (λ _. g1) e1 → ((a : A) → Code B f2 g2 e2) → disjoint g1 f2 ≡ true → Code B (join e1 f2 f1) (λ b. join e2 g1 (g2 b)) (e1 && e2)
  -- what may follow hangs on the first value
  link : {A B : Type 0} {f1 : Terminals} {g1 f2 : A → Terminals} {g2 : A → B → Terminals} {e2 : Bool} → Code A f1 g1 false → ((a : A) → Code B (f2 a) (g2 a) e2) → ((a : A) → disjoint (g1 a) (f2 a) ≡ true)
      → Code (A × B) f1 (λ ab. join e2 (g1 ab.0) (g2 ab.0 ab.1)) false
  choice : {A : Type 0} {f1 f2 : Terminals} {g1 g2 : A → Terminals} {e2 : Bool} → Code A f1 g1 false → Code A f2 g2 e2 → disjoint f1 f2 ≡ true → Code A (join true f2 f1) (λ a. join true (join e2 f1 (g2 a)) (g1 a)) e2
  maybe : {A : Type 0} {f : Terminals} {g : A → Terminals} → Code A f g false → Code (Option A) f (after_maybe f g) true
  many : {A : Type 0} {f1 g1 : Terminals} → ((a : A) → Code A f1 (λ _. g1) false) → disjoint g1 f1 ≡ true → A → Code A f1 (λ _. join true g1 f1) true
  mapped : {A B : Type 0} {f : Terminals} {g : A → Terminals} {e : Bool} (g' : B → Terminals) (h : A → B) → Code A f g e → ((a : A) → subset (g a) (g' (h a)) ≡ true) → Code B f g' e
  -- the same sets in other words, or more that may go on
  within : {A : Type 0} {f : Terminals} {g : A → Terminals} {e : Bool} (f' : Terminals) (g' : A → Terminals) → Code A f g e → (subset f f' && subset f' f) ≡ true → ((a : A) → subset (g a) (g' a) ≡ true) → Code A f' g' e
  -- its tokens stand one level deeper
  deeper : {A : Type 0} {f : Terminals} {g : A → Terminals} {e : Bool} → Code A f g e → Code A f g e
  -- an outermost expression: its operators are counted from here
  outermost : {A : Type 0} {f : Terminals} {g : A → Terminals} → Code A f g false → Code A f g false
  -- the form of this name, one level deeper
  refer : (x : Name) → Code (Value x) (begins x) (goes x) false
