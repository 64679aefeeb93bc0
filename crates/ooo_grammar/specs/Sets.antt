-- Sets of tokens, as lists of terminals.
use Rattle.std.specs.Prelude.{◌≡◌, ℕ, Bool, true, false, not, ◌||◌, ◌&&◌, ◌==◌, List, [], ◌∷◌, ◌++◌, Option, Some, None, is_some, if◌then◌else◌, refl}
use Rattle.std.proofs.Common.{ap, ◌∙◌}
use Rattle.std.proofs.lemmas.Bool.{eq-eqb}
use Rattle.ooo_syntax.specs.declared.terminal.Terminal.{Terminal}
use Rattle.ooo_syntax.specs.declared.symbol.Symbol.{Symbol}
use Rattle.ooo_grammar.specs.Numbers.{number}

abbrev pub Terminals : Type 0
Terminals = List Terminal

abbrev pub has : Terminals → ℕ → Bool
has [] n = false
has (m ∷ ms) n = (number m == n) || has ms n

abbrev pub in_set : Terminals → Symbol → Bool
in_set ms k = has ms (number k.terminal)

abbrev pub disjoint : Terminals → Terminals → Bool
disjoint [] ns = true
disjoint (m ∷ ms) ns = not (has ns (number m)) && disjoint ms ns

abbrev pub subset : Terminals → Terminals → Bool
subset [] ns = true
subset (m ∷ ms) ns = has ns (number m) && subset ms ns

-- f, or where a test holds also g
abbrev pub join : Bool → Terminals → Terminals → Terminals
join false g f = f
join true g f = f ++ g

-- the symbol, wherever its bytes stand in memory
abbrev pub anywhere : Symbol → Symbol
anywhere k = record k { text = record { ref_ptr = (0, 0); now = k.text.now } }

-- a test that holds of these terminals alone, and doesn't ask where a symbol's bytes stand in memory
pub record OfTerminals {X : Type 0} (test : Symbol → Option X) (terminals : Terminals) : Type 0 where
  pub same : (k : Symbol) → is_some (test k) ≡ in_set terminals k
  pub anywhere : (k : Symbol) → test (anywhere k) ≡ test k

-- ---- a token of these terminals

abbrev pub some_if : {X : Type 0} → Bool → X → Option X
some_if b x = if b then Some x else None

abbrev pub of : {X : Type 0} → (Symbol → X) → Terminals → Symbol → Option X
of h ms k = some_if (in_set ms k) (h k)

some_same : {X : Type 0} (b : Bool) (x : X) → is_some (some_if b x) ≡ b
some_same true x = refl
some_same false x = refl

pub of_terminals : {X : Type 0} (h : Symbol → X) (ms : Terminals) → ((k : Symbol) → h (anywhere k) ≡ h k) → OfTerminals (of h ms) ms
of_terminals h ms i = record { same = λ k. some_same (in_set ms k) (h k); anywhere = λ k. ap (λ x. some_if (in_set ms k) x) (i k) }

-- ---- a table from terminals to values

pub record Row (X : Type 0) : Type 0 where
  pub terminal : Terminal
  pub value : X

abbrev pub in_table : {X : Type 0} → List (Row X) → ℕ → Option X
in_table [] n = None
in_table (r ∷ rs) n = if number r.terminal == n then Some r.value else in_table rs n

abbrev pub table_test : {X : Type 0} → List (Row X) → Symbol → Option X
table_test rs k = in_table rs (number k.terminal)

abbrev pub table_terminals : {X : Type 0} → List (Row X) → Terminals
table_terminals [] = []
table_terminals (r ∷ rs) = r.terminal ∷ table_terminals rs

table_same : {X : Type 0} (rs : List (Row X)) (n : ℕ) → is_some (in_table rs n) ≡ has (table_terminals rs) n
table_same [] n = refl
table_same (r ∷ rs) n = at (number r.terminal == n) ∙ ap (λ b. (number r.terminal == n) || b) (table_same rs n)
  where
    at : (b : Bool) → is_some (if b then Some r.value else in_table rs n) ≡ (b || is_some (in_table rs n))
    at true = refl
    at false = refl

pub table_of : {X : Type 0} (rs : List (Row X)) → OfTerminals (table_test rs) (table_terminals rs)
table_of rs = record { same = λ k. table_same rs (number k.terminal); anywhere = λ k. refl }

-- ---- sets within sets

both_true : (a b : Bool) → a ≡ true → b ≡ true → (a && b) ≡ true
both_true true b e f = f
both_true false b e f = absurd cc

or_left : (a b : Bool) → a ≡ true → (a || b) ≡ true
or_left true b e = refl
or_left false b e = absurd cc

or_right : (a b : Bool) → b ≡ true → (a || b) ≡ true
or_right true b e = refl
or_right false b e = e

eqb_self : (n : ℕ) → (n == n) ≡ true
eqb_self n = eq-eqb n n refl

pub all_in : (ms ns : Terminals) → ((n : ℕ) → has ms n ≡ true → has ns n ≡ true) → subset ms ns ≡ true
all_in [] ns h = refl
all_in (m ∷ ms) ns h =
    both_true (has ns (number m)) (subset ms ns) (h (number m) (or_left (number m == number m) (has ms (number m)) (eqb_self (number m)))) (all_in ms ns (λ n i. h n (or_right (number m == n) (has ms n) i)))

or_cases : (a b : Bool) {X : Type 0} → (a || b) ≡ true → (a ≡ true → X) → (b ≡ true → X) → X
or_cases true b e f g = f refl
or_cases false b e f g = g e

pub has_left : (ms ns : Terminals) (n : ℕ) → has ms n ≡ true → has (ms ++ ns) n ≡ true
has_left [] ns n e = absurd cc
has_left (m ∷ ms) ns n e = or_cases (number m == n) (has ms n) e (λ h. or_left (number m == n) (has (ms ++ ns) n) h) (λ h. or_right (number m == n) (has (ms ++ ns) n) (has_left ms ns n h))

pub has_right : (ms ns : Terminals) (n : ℕ) → has ns n ≡ true → has (ms ++ ns) n ≡ true
has_right [] ns n e = e
has_right (m ∷ ms) ns n e = or_right (number m == n) (has (ms ++ ns) n) (has_right ms ns n e)

pub has_either : (ms ns : Terminals) (n : ℕ) {X : Type 0} → has (ms ++ ns) n ≡ true → (has ms n ≡ true → X) → (has ns n ≡ true → X) → X
has_either [] ns n e f g = g e
has_either (m ∷ ms) ns n e f g = or_cases (number m == n) (has (ms ++ ns) n) e (λ h. f (or_left (number m == n) (has ms n) h)) (λ h. has_either ms ns n h (λ i. f (or_right (number m == n) (has ms n) i)) g)

pub subset_self : (ms : Terminals) → subset ms ms ≡ true
subset_self ms = all_in ms ms (λ n h. h)

pub same_self : (ms : Terminals) → (subset ms ms && subset ms ms) ≡ true
same_self ms = both_true (subset ms ms) (subset ms ms) (subset_self ms) (subset_self ms)

pub subset_left : (ms ns : Terminals) → subset ms (ms ++ ns) ≡ true
subset_left ms ns = all_in ms (ms ++ ns) (has_left ms ns)

pub subset_right : (ms ns : Terminals) → subset ns (ms ++ ns) ≡ true
subset_right ms ns = all_in ns (ms ++ ns) (has_right ms ns)

-- what a level's parts put together is one sign or what may follow an operand
pub subset_level : (ops g : Terminals) → subset ((ops ++ g) ++ g) (ops ++ g) ≡ true
subset_level ops g = all_in ((ops ++ g) ++ g) (ops ++ g) (λ n h. has_either (ops ++ g) g n h (λ i. i) (has_right ops g n))

-- the first of a set is in it
pub has_first : (K : Terminal) (Ks : Terminals) → has (K ∷ Ks) (number K) ≡ true
has_first K Ks = or_left (number K == number K) (has Ks (number K)) (eqb_self (number K))

-- the first row of a table is found
pub first_row : {X : Type 0} (r : Row X) (rs : List (Row X)) → in_table (r ∷ rs) (number r.terminal) ≡ Some r.value
first_row r rs = at (number r.terminal == number r.terminal) (eqb_self (number r.terminal))
  where
    at : (b : Bool) → b ≡ true → (if b then Some r.value else in_table rs (number r.terminal)) ≡ Some r.value
    at true e = refl
    at false e = absurd cc

pub subset_twice : (g : Terminals) → subset (g ++ g) g ≡ true
subset_twice g = all_in (g ++ g) g (λ n h. has_either g g n h (λ i. i) (λ i. i))
