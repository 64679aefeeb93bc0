-- The loops of the code: the levels of an expression, and lists.
use Rattle.std.proofs.Common.{if◌then◌else◌, ◌≡◌, arith, ℕ, zero, suc, ◌+◌, ◌-◌, ◌<◌, ◌≤◌, Bool, true, false, List, [], ◌∷◌, length, Option, Some, None, is_some, refl, sym, ap, ◌∙◌, subst}
use Rattle.std.specs.Prelude.{drop, Result}
use Rattle.std.specs.Borrow.{Bor}
use Rattle.ooo_syntax.specs.declared.symbol.Symbol.{Symbol}
use Rattle.ooo_syntax.specs.declared.expr.Expr.{Expr}
use Rattle.ooo_syntax.specs.declared.expr.Expr.TheVariants as expr
use Rattle.ooo_syntax.specs.declared.expr.BinaryOp.{BinaryOp}
use Rattle.ooo_syntax.specs.declared.leaves.TypeName.{TypeName}
use Rattle.ooo_grammar.specs.declared.limits.ReadError.{ReadError}
use Rattle.ooo_exprs.specs.declared.expressions.First.{First}
use Rattle.ooo_exprs.specs.declared.expressions.First.TheVariants as first
use Rattle.ooo_grammar.specs.declared.limits.Limits.{Limits}
use Rattle.ooo_grammar.specs.Forms.{Outcome, Got, Bad, Deep, Reader, after, begins_with, bottom_r, one_at, one_r, then_r, mapped_r, nothing_r, repeats_in, repeats_r}
use Rattle.ooo_grammar.specs.Sets.{disjoint, Terminals, in_set, table_test, table_of}
use Rattle.ooo_grammar.specs.Codes.{Code, deeper, within}
use Rattle.ooo_syntax.specs.declared.terminal.Terminal.TheVariants as terminal
use Rattle.ooo_grammar.specs.Names.{word_tails, begins_expr}
use Rattle.ooo_grammar.specs.Combinators.{or_none, signs_of, Table, rows, terminals_of, always, op_of, levels, are_apart}
use Rattle.ooo_grammar.specs.Expressions.{binary_levels, sum_levels, counted_sum, inner, inner_plain, whole_expression, plain_expression, inside_expression, expression, unary, plain_unary, operand, converted, chosen, expressions, some_expressions}
use Rattle.ooo_grammar.specs.Readings.{Room, fits, reader}
use Rattle.ooo_grammar.specs.Gives.{Gives, Stops, reads_at, room_at}
use Rattle.ooo_exprs.specs.Levels.{turn, op_levels, levels_r, level_r, op_in, op_at, kinds_in, kinds_at, first_r, level_at, others_of, is_inside, chosen_r, expression_r, refused, turn_at}
use Rattle.ooo_exprs.specs.Steps.{gives_second}
use Rattle.std.proofs.lemmas.Bool.{and_parts}
use Rattle.ooo_grammar.specs.Steps.{stops_first, got_second, deeper_is}

if_true : {A : Type 0} (b : Bool) (x y : A) → b ≡ true → (if b then x else y) ≡ x
if_true b x y e = rw e refl

if_false : {A : Type 0} (b : Bool) (x y : A) → b ≡ false → (if b then x else y) ≡ y
if_false b x y e = rw e refl

-- ---- one turn of a level

module _ (first may : Symbol → Bool) (test : Symbol → Option BinaryOp) (same : (t : Symbol) → is_some (test t) ≡ first t) (q : Reader Expr) where
  begins : (t : Symbol) (o : BinaryOp) → test t ≡ Some o → first t ≡ true
  begins t o e = sym (same t) ∙ ap is_some e

  goes_on : (m : ℕ) (a : Expr) (t : Symbol) (later : List Symbol) (o : BinaryOp) → test t ≡ Some o → may t ≡ true
      → repeats_in first (turn (one_r may test) q) (suc m) a (t ∷ later) ≡ after (after (q later) (λ b. nothing_r (expr.Binary o a b))) (repeats_in first (turn (one_r may test) q) m)
  goes_on m a t later o e f = if_true (first t) _ _ (begins t o e) ∙ ap (λ b. after (after (one_at b (test t) t later) (λ o. mapped_r (λ b. expr.Binary o a b) q)) (repeats_in first (turn (one_r may test) q) m)) f
      ∙ ap (λ x. after (after (one_at true x t later) (λ o. mapped_r (λ b. expr.Binary o a b) q)) (repeats_in first (turn (one_r may test) q) m)) e

  pub one_turn : (n m : ℕ) (a b : Expr) (t : Symbol) (rest later more : List Symbol) (o : BinaryOp) → n ≡ suc m → rest ≡ t ∷ later → test t ≡ Some o → may t ≡ true → q later ≡ Got b more
      → repeats_in first (turn (one_r may test) q) n a rest ≡ repeats_in first (turn (one_r may test) q) m (expr.Binary o a b) more
  one_turn n m a b t rest later more o i j e f g =
      ap (λ n. repeats_in first (turn (one_r may test) q) n a rest) i ∙ ap (repeats_in first (turn (one_r may test) q) (suc m) a) j ∙ goes_on m a t later o e f
      ∙ ap (λ x. after (after x (λ b. nothing_r (expr.Binary o a b))) (repeats_in first (turn (one_r may test) q) m)) g

  pub stops_turn : (n m : ℕ) (a : Expr) (t : Symbol) (rest later : List Symbol) (o : BinaryOp) (e : ReadError) → n ≡ suc m → rest ≡ t ∷ later → test t ≡ Some o → may t ≡ true → Stops (q later) e
      → Stops (repeats_in first (turn (one_r may test) q) n a rest) e
  stops_turn n m a t rest later o e i j k f s =
      subst (λ x. Stops x e) (sym (ap (λ n. repeats_in first (turn (one_r may test) q) n a rest) i ∙ ap (repeats_in first (turn (one_r may test) q) (suc m) a) j ∙ goes_on m a t later o k f))
      (stops_first (after (q later) (λ b. nothing_r (expr.Binary o a b))) (repeats_in first (turn (one_r may test) q) m) e (stops_first (q later) (λ b. nothing_r (expr.Binary o a b)) e s))

  pub deep_turn : (n m : ℕ) (a : Expr) (t : Symbol) (rest later : List Symbol) (o : BinaryOp) → n ≡ suc m → rest ≡ t ∷ later → test t ≡ Some o → may t ≡ false
      → repeats_in first (turn (one_r may test) q) n a rest ≡ Deep rest
  deep_turn n m a t rest later o i j e f =
      ap (λ n. repeats_in first (turn (one_r may test) q) n a rest) i ∙ ap (repeats_in first (turn (one_r may test) q) (suc m) a) j ∙ if_true (first t) _ _ (begins t o e)
      ∙ ap (λ b. after (after (one_at b (test t) t later) (λ o. mapped_r (λ b. expr.Binary o a b) q)) (repeats_in first (turn (one_r may test) q) m)) f
      ∙ ap (λ x. after (after (one_at false x t later) (λ o. mapped_r (λ b. expr.Binary o a b) q)) (repeats_in first (turn (one_r may test) q) m)) e ∙ ap Deep (sym j)

  pub no_turn : (n : ℕ) (a : Expr) (rest : List Symbol) → begins_with first rest ≡ false → repeats_in first (turn (one_r may test) q) n a rest ≡ Got a rest
  no_turn zero a rest e = refl
  no_turn (suc n) a rest e = if_false _ _ _ e

  pub ends_turn : (n : ℕ) (a : Expr) (t : Symbol) (rest later : List Symbol) → rest ≡ t ∷ later → test t ≡ None → repeats_in first (turn (one_r may test) q) n a rest ≡ Got a rest
  ends_turn n a t rest later j e = no_turn n a rest (ap (begins_with first) j ∙ sym (same t) ∙ ap is_some e)

-- ---- the levels by number

op_in_same : (ls : List (Table BinaryOp)) (t : Symbol) → is_some (op_in ls t) ≡ in_set (kinds_in ls) t
op_in_same [] t = refl
op_in_same (l ∷ ls) t = (table_of (rows l)).same t

pub op_same : (k : ℕ) (t : Symbol) → is_some (op_at k t) ≡ in_set (kinds_at k) t
unfolding op_at kinds_at
op_same k t = op_in_same (drop k binary_levels) t

levels_step : (n : ℕ) (room : Room) (inside : Bool) (ls : List (Table BinaryOp)) (k : ℕ) (p q : Reader Expr) → k < length ls
    → levels_r n room inside (drop k ls) p q ≡ then_r (levels_r n room inside (drop (k + 1) ls) p q) (repeats_r (in_set (kinds_in (drop k ls))) (turn (one_r (fits (op_levels inside n) room) (op_in (drop k ls))) (levels_r n room inside (drop (k + 1) ls) q q)))
levels_step n room inside [] k p q lt = absurd (omega arith)
levels_step n room inside (l ∷ ls) zero p q lt = refl
levels_step n room inside (l ∷ ls) (suc k) p q lt =
    let e : suc (k + 1) ≡ suc k + 1 = omega arith in
    levels_step n room inside ls k p q (omega arith)
    ∙ ap (λ j. then_r (levels_r n room inside (drop j (l ∷ ls)) p q) (repeats_r (in_set (kinds_in (drop k ls))) (turn (one_r (fits (op_levels inside n) room) (op_in (drop k ls))) (levels_r n room inside (drop j (l ∷ ls)) q q)))) e

pub level_step : (l : Limits) (x : First) (k : ℕ) (ts : List Symbol) → k < 10
    → level_at l x k ts ≡ after (level_at l x (k + 1) ts) (repeats_r (in_set (kinds_at k)) (turn (one_r (fits (op_levels (is_inside x) l.levels) (room_at l.bound)) (op_at k)) (level_r l.levels (room_at l.bound) (is_inside x) (k + 1) (first_r l (others_of x)) (first_r l (others_of x)))))
unfolding level_r op_at kinds_at
level_step l x k ts lt = ap (λ p. p ts) (levels_step l.levels (room_at l.bound) (is_inside x) binary_levels k (first_r l x) (first_r l (others_of x)) lt)

pub level_last : (l : Limits) (x : First) (k : ℕ) (ts : List Symbol) → k ≡ 10 → level_at l x k ts ≡ first_r l x ts
unfolding level_r
level_last l x k ts e = ap (λ k. levels_r l.levels (room_at l.bound) (is_inside x) (drop k binary_levels) (first_r l x) (first_r l (others_of x)) ts) e

-- ---- the levels as codes

op_is : (n : ℕ) (room : Room) (inside : Bool) (l : Table BinaryOp) → reader n room (op_of inside l) ≡ one_r (fits (op_levels inside n) room) (table_test (rows l))
op_is zero room true l = refl
op_is (suc n) room true l = let e : n ≡ suc n - 1 = omega arith in ap (λ n. one_r (fits n room) (table_test (rows l))) e
op_is n room false l = refl

levels_are : (n : ℕ) (room : Room) (inside : Bool) (ls : List (Table BinaryOp)) {f f' g : Terminals} (c : Code Expr f (always g) false) (d : Code Expr f' (always g) false) (h : are_apart ls g ≡ true)
    → reader n room (levels inside ls c d h) ≡ levels_r n room inside ls (reader n room c) (reader n room d)
levels_are n room inside [] c d h = refl
levels_are n room inside (l ∷ ls) {g = g} c d h =
    let b = and_parts (disjoint (signs_of ls g) (terminals_of l)) (are_apart ls g) h in
    ap (λ p. then_r p (repeats_r (in_set (terminals_of l)) (turn (reader n room (op_of inside l)) (reader n room (levels inside ls d d b.1))))) (levels_are n room inside ls c d b.1)
    ∙ ap (λ q. then_r (levels_r n room inside ls (reader n room c) (reader n room d)) (repeats_r (in_set (terminals_of l)) (turn (reader n room (op_of inside l)) q))) (levels_are n room inside ls d d b.1)
    ∙ ap (λ o. then_r (levels_r n room inside ls (reader n room c) (reader n room d)) (repeats_r (in_set (terminals_of l)) (turn o (levels_r n room inside ls (reader n room d) (reader n room d))))) (op_is n room inside l)

pub whole_is : (l : Limits) (ts : List Symbol) → reads_at l whole_expression ts ≡ expression_r l first.Any ts
unfolding whole_expression expression level_r first_r
whole_is l ts = ap (λ p. after (p ts) (λ a. reads_at l (chosen a))) (levels_are l.levels (room_at l.bound) false binary_levels unary unary refl)

pub plain_is : (l : Limits) (ts : List Symbol) → reads_at l plain_expression ts ≡ expression_r l first.Plain ts
unfolding plain_expression expression level_r first_r
plain_is l ts = ap (λ p. after (p ts) (λ a. reads_at l (chosen a))) (levels_are l.levels (room_at l.bound) false binary_levels plain_unary unary refl)

pub whole_gives : (l : Limits) (ts : List Symbol) (r : Result (Expr × Bor (List Symbol)) ReadError) → Gives (expression_r l first.Any ts) r → Gives (reads_at l whole_expression ts) r
whole_gives l ts r h = subst (λ o. Gives o r) (sym (whole_is l ts)) h

pub plain_gives : (l : Limits) (ts : List Symbol) (r : Result (Expr × Bor (List Symbol)) ReadError) → Gives (expression_r l first.Plain ts) r → Gives (reads_at l plain_expression ts) r
plain_gives l ts r h = subst (λ o. Gives o r) (sym (plain_is l ts)) h

-- where no level is left
pub refused_stops : {f : Terminals} {g : Expr → Terminals} (c : Code Expr f g false) (l : Limits) (first : Symbol → Bool) (b : Bool) (ts : List Symbol) (e : ReadError) → ((room : Room) → reader 0 room c ts ≡ bottom_r first ts)
    → b ≡ begins_with first ts → (l.levels ≡ 0) × Stops (refused b ts) e → Stops (reads_at l c ts) e
refused_stops c l first b ts e h i (j, s) =
    subst (λ o. Stops o e) (ap (λ b. refused b ts) i ∙ sym (h (room_at l.bound)) ∙ ap (λ n. reader n (room_at l.bound) c ts) (sym j)) s

-- the same, one level deeper
pub inner_gives : (l m : Limits) (ts : List Symbol) (r : Result (Expr × Bor (List Symbol)) ReadError) → 0 < l.levels → m.levels ≡ l.levels - 1 → m.bound ≡ l.bound → Gives (expression_r m first.Any ts) r → Gives (reads_at l inner ts) r
unfolding inner
inner_gives l m ts r lt i j h =
    let e : l.levels ≡ suc m.levels = omega arith in
    subst (λ o. Gives o r)
    (ap (λ b. reader m.levels (room_at b) whole_expression ts) j ∙ ap (λ n. reader n (room_at l.bound) inner ts) (sym e))
    (whole_gives m ts r h)

pub inner_plain_gives : (l m : Limits) (ts : List Symbol) (r : Result (Expr × Bor (List Symbol)) ReadError) → 0 < l.levels → m.levels ≡ l.levels - 1 → m.bound ≡ l.bound → Gives (expression_r m first.Plain ts) r → Gives (reads_at l inner_plain ts) r
unfolding inner_plain
inner_plain_gives l m ts r lt i j h =
    let e : l.levels ≡ suc m.levels = omega arith in
    subst (λ o. Gives o r)
    (ap (λ b. reader m.levels (room_at b) plain_expression ts) j ∙ ap (λ n. reader n (room_at l.bound) inner_plain ts) (sym e))
    (plain_gives m ts r h)

pub operand_gives : (l m : Limits) (ts : List Symbol) (r : Result (Expr × Bor (List Symbol)) ReadError) → 0 < l.levels → m.levels ≡ l.levels - 1 → m.bound ≡ l.bound → Gives (reads_at m unary ts) r → Gives (reads_at l operand ts) r
unfolding operand
operand_gives l m ts r lt i j h =
    let e : l.levels ≡ suc m.levels = omega arith in
    subst (λ o. Gives o r) (ap (λ b. reader m.levels (room_at b) unary ts) j ∙ ap (λ n. reader n (room_at l.bound) operand ts) (sym e)) h

pub inside_is : (l : Limits) (t : TypeName) (ts : List Symbol) → reads_at l (inside_expression t) ts ≡ expression_r l (first.Converted t) ts
unfolding inside_expression level_r first_r
inside_is l t ts = ap (λ p. after (p ts) (λ a. reads_at l (deeper (chosen a)))) (levels_are l.levels (room_at l.bound) true binary_levels (within (terminal.Open ∷ []) (always word_tails) (deeper (converted t)) refl (λ _. refl)) operand refl)

pub inside_gives : (l : Limits) (t : TypeName) (ts : List Symbol) (r : Result (Expr × Bor (List Symbol)) ReadError) → Gives (expression_r l (first.Converted t) ts) r → Gives (reads_at l (inside_expression t) ts) r
inside_gives l t ts r h = subst (λ o. Gives o r) (sym (inside_is l t ts)) h

pub sum_is : (l : Limits) (ts : List Symbol) → reads_at l counted_sum ts ≡ level_at l first.Any 8 ts
unfolding counted_sum level_r first_r
sum_is l ts = ap (λ p. p ts) (levels_are l.levels (room_at l.bound) false sum_levels unary unary refl)

pub sum_gives : (l : Limits) (ts : List Symbol) (r : Result (Expr × Bor (List Symbol)) ReadError) → Gives (level_at l first.Any 8 ts) r → Gives (reads_at l counted_sum ts) r
sum_gives l ts r h = subst (λ o. Gives o r) (sym (sum_is l ts)) h

-- ---- limits

same_limits : {A : Type 0} {f : Terminals} {g : A → Terminals} {e : Bool} (l m : Limits) (c : Code A f g e) (ts : List Symbol) → m.levels ≡ l.levels → m.bound ≡ l.bound → reads_at l c ts ≡ reads_at m c ts
same_limits l m c ts i j = ap (λ n. reader n (room_at l.bound) c ts) (sym i) ∙ ap (λ b. reader m.levels (room_at b) c ts) (sym j)

-- ---- the loop over one level

others_level : (l : Limits) (x : First) (k : ℕ) → level_at l (others_of x) k ≡ level_r l.levels (room_at l.bound) (is_inside x) k (first_r l (others_of x)) (first_r l (others_of x))
others_level l first.Any k = refl
others_level l first.Plain k = refl
others_level l (first.Converted t) k = refl
others_level l first.Operand k = refl

pub level_gives_last : (l : Limits) (x : First) (k : ℕ) (ts : List Symbol) (r : Result (Expr × Bor (List Symbol)) ReadError) → 10 ≤ k → k ≤ 10 → Gives (first_r l x ts) r → Gives (level_at l x k ts) r
level_gives_last l x k ts r i j h = subst (λ o. Gives o r) (sym (level_last l x k ts (omega arith))) h

pub level_stops : (l : Limits) (x : First) (k : ℕ) (ts : List Symbol) (e : ReadError) → k < 10 → Stops (level_at l x (k + 1) ts) e → Stops (level_at l x k ts) e
level_stops l x k ts e lt h = subst (λ o. Stops o e) (sym (level_step l x k ts lt)) (stops_first (level_at l x (k + 1) ts) _ e h)

pub level_init : (l : Limits) (x : First) (k : ℕ) (ts rest : List Symbol) (a : Expr) (n : ℕ) → k < 10 → n ≡ length rest → level_at l x (k + 1) ts ≡ Got a rest → level_at l x k ts ≡ repeats_in (in_set (kinds_at k)) (turn_at l x k) n a rest
level_init l x k ts rest a n lt i h =
    level_step l x k ts lt ∙ ap (λ o. after o (repeats_r (in_set (kinds_at k)) (turn_at l x k))) h ∙ ap (λ n. repeats_in (in_set (kinds_at k)) (turn_at l x k) n a rest) (sym i)

pub level_ends : (l : Limits) (x : First) (k : ℕ) (o : Outcome Expr) (n : ℕ) (a : Expr) (rest : List Symbol) → o ≡ repeats_in (in_set (kinds_at k)) (turn_at l x k) n a rest → rest ≡ [] → o ≡ Got a rest
level_ends l x k o n a rest h j =
    h ∙ no_turn (in_set (kinds_at k)) (fits (op_levels (is_inside x) l.levels) (room_at l.bound)) (op_at k) (op_same k) _ n a rest (ap (begins_with (in_set (kinds_at k))) j)

pub level_leaves : (l : Limits) (x : First) (k : ℕ) (o : Outcome Expr) (n : ℕ) (a : Expr) (t : Symbol) (rest later : List Symbol) → o ≡ repeats_in (in_set (kinds_at k)) (turn_at l x k) n a rest → rest ≡ t ∷ later → op_at k t ≡ None → o ≡ Got a rest
level_leaves l x k o n a t rest later h j e =
    h ∙ ends_turn (in_set (kinds_at k)) (fits (op_levels (is_inside x) l.levels) (room_at l.bound)) (op_at k) (op_same k) _ n a t rest later j e

may_is : (l m : Limits) (x : First) (t : Symbol) (b : Bool) → m.levels ≡ op_levels (is_inside x) l.levels → m.bound ≡ l.bound → b ≡ fits m.levels (room_at m.bound) t → fits (op_levels (is_inside x) l.levels) (room_at l.bound) t ≡ b
may_is l m x t b i j h = ap (λ n. fits n (room_at l.bound) t) (sym i) ∙ ap (λ c. fits m.levels (room_at c) t) (sym j) ∙ sym h

pub level_deep : (l m : Limits) (x : First) (k : ℕ) (o : Outcome Expr) (n i : ℕ) (a : Expr) (t : Symbol) (rest later : List Symbol) (p : BinaryOp) → o ≡ repeats_in (in_set (kinds_at k)) (turn_at l x k) n a rest → n ≡ suc i → rest ≡ t ∷ later → op_at k t ≡ Some p
    → m.levels ≡ op_levels (is_inside x) l.levels → m.bound ≡ l.bound → false ≡ fits m.levels (room_at m.bound) t → o ≡ Deep rest
level_deep l m x k o n i a t rest later p h e j s u v w =
    h ∙ deep_turn (in_set (kinds_at k)) (fits (op_levels (is_inside x) l.levels) (room_at l.bound)) (op_at k) (op_same k) _ n i a t rest later p e j s (may_is l m x t false u v w)

pub level_right : (l m : Limits) (x : First) (k : ℕ) (o : Outcome Expr) (n i : ℕ) (a : Expr) (t : Symbol) (rest later : List Symbol) (p : BinaryOp) (e : ReadError) → o ≡ repeats_in (in_set (kinds_at k)) (turn_at l x k) n a rest → n ≡ suc i → rest ≡ t ∷ later → op_at k t ≡ Some p
    → m.levels ≡ op_levels (is_inside x) l.levels → m.bound ≡ l.bound → true ≡ fits m.levels (room_at m.bound) t → Stops (level_at l (others_of x) (k + 1) later) e → Stops o e
level_right l m x k o n i a t rest later p e h q j s u v w d =
    subst (λ o. Stops o e) (sym h)
    (stops_turn (in_set (kinds_at k)) (fits (op_levels (is_inside x) l.levels) (room_at l.bound)) (op_at k) (op_same k) _ n i a t rest later p e q j s (may_is l m x t true u v w) (subst (λ r. Stops (r later) e) (others_level l x (k + 1)) d))

pub level_goes_on : (l m : Limits) (x : First) (k : ℕ) (o : Outcome Expr) (n i : ℕ) (a b : Expr) (t : Symbol) (rest later more : List Symbol) (p : BinaryOp) → o ≡ repeats_in (in_set (kinds_at k)) (turn_at l x k) n a rest → n ≡ suc i → rest ≡ t ∷ later → op_at k t ≡ Some p
    → m.levels ≡ op_levels (is_inside x) l.levels → m.bound ≡ l.bound → true ≡ fits m.levels (room_at m.bound) t → level_at l (others_of x) (k + 1) later ≡ Got b more → o ≡ repeats_in (in_set (kinds_at k)) (turn_at l x k) i (expr.Binary p a b) more
level_goes_on l m x k o n i a b t rest later more p h q j s u v w d =
    h ∙ one_turn (in_set (kinds_at k)) (fits (op_levels (is_inside x) l.levels) (room_at l.bound)) (op_at k) (op_same k) _ n i a b t rest later more p q j s (may_is l m x t true u v w) (ap (λ r. r later) (sym (others_level l x (k + 1))) ∙ d)

-- what follows a condition, which inside a bracket stands one level deeper
pub chosen_is : (l m : Limits) (x : First) (a : Expr) (ts : List Symbol) → m.levels ≡ op_levels (is_inside x) l.levels → m.bound ≡ l.bound → chosen_r l x a ts ≡ reads_at m (chosen a) ts
chosen_is l m first.Any a ts i j = same_limits l m (chosen a) ts i j
chosen_is l m first.Plain a ts i j = same_limits l m (chosen a) ts i j
chosen_is l m (first.Converted t) a ts i j = deeper_is l m (chosen a) ts i j
chosen_is l m first.Operand a ts i j = deeper_is l m (chosen a) ts i j

-- an expression whose condition was read
pub chosen_gives : (l m : Limits) (x : First) (a : Expr) (ts mid : List Symbol) (r : Result (Expr × Bor (List Symbol)) ReadError) → m.levels ≡ op_levels (is_inside x) l.levels → m.bound ≡ l.bound → level_at l x 0 ts ≡ Got a mid → Gives (reads_at m (chosen a) mid) r → Gives (expression_r l x ts) r
chosen_gives l m x a ts mid r i j h g = gives_second (chosen_r l x) r h (subst (λ o. Gives o r) (sym (chosen_is l m x a mid i j)) g)

pub chosen_got : (l m : Limits) (x : First) (a : Expr) (ts mid : List Symbol) (o : Outcome Expr) → m.levels ≡ op_levels (is_inside x) l.levels → m.bound ≡ l.bound → level_at l x 0 ts ≡ Got a mid → reads_at m (chosen a) mid ≡ o → expression_r l x ts ≡ o
chosen_got l m x a ts mid o i j h g = got_second (chosen_r l x) h (chosen_is l m x a mid i j ∙ g)

-- and where none follows
pub chosen_not : (l : Limits) (x : First) (a : Expr) (ts : List Symbol) → begins_with (in_set (terminal.Question ∷ [])) ts ≡ false → chosen_r l x a ts ≡ Got a ts
unfolding chosen
chosen_not l x a ts h = chosen_is l (limits_of l x) x a ts refl refl ∙ none_chosen (limits_of l x) a ts h
  where
    none_chosen : (l : Limits) (a : Expr) (ts : List Symbol) → begins_with (in_set (terminal.Question ∷ [])) ts ≡ false → reads_at l (chosen a) ts ≡ Got a ts
    none_chosen l a ts h = rw h refl

    limits_of : Limits → First → Limits
    limits_of l x = record { levels = op_levels (is_inside x) l.levels; bound = l.bound }

-- ---- expressions and commas, or nothing

listed_some : (b : Bool) (o : Outcome (List Expr)) (ts : List Symbol) → b ≡ true → after (if b then after o (λ a. nothing_r (Some a)) else Got None ts) (λ o. nothing_r (or_none o)) ≡ o
listed_some true (Got a rest) ts h = refl
listed_some true (Bad rest) ts h = refl
listed_some true (Deep rest) ts h = refl
listed_some false o ts h = absurd cc

pub some_listed : (l : Limits) (ts : List Symbol) → begins_with (in_set begins_expr) ts ≡ true → reads_at l expressions ts ≡ reads_at l some_expressions ts
unfolding expressions
some_listed l ts h = listed_some (begins_with (in_set begins_expr) ts) (reads_at l some_expressions ts) ts h

listed_none : (b : Bool) (o : Outcome (List Expr)) (ts : List Symbol) → b ≡ false → after (if b then after o (λ a. nothing_r (Some a)) else Got None ts) (λ o. nothing_r (or_none o)) ≡ Got [] ts
listed_none true o ts h = absurd cc
listed_none false o ts h = refl

pub none_listed : (l : Limits) (ts : List Symbol) → begins_with (in_set begins_expr) ts ≡ false → reads_at l expressions ts ≡ Got [] ts
unfolding expressions
none_listed l ts h = listed_none (begins_with (in_set begins_expr) ts) (reads_at l some_expressions ts) ts h
