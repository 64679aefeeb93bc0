-- Arguments and commas between them, or nothing.
use Rattle.std.proofs.Common.{if◌then◌else◌, ◌≡◌, Bool, true, false, List, [], Some, None, refl}
use Rattle.ooo_syntax.specs.declared.symbol.Symbol.{Symbol}
use Rattle.ooo_syntax.specs.declared.terminal.Terminal.TheVariants as terminal
use Rattle.ooo_syntax.specs.declared.expr.Expr.{Expr}
use Rattle.ooo_grammar.specs.declared.limits.Limits.{Limits}
use Rattle.ooo_grammar.specs.Forms.{Outcome, Got, Bad, Deep, after, begins_with, nothing_r}
use Rattle.ooo_grammar.specs.Sets.{in_set}
use Rattle.ooo_grammar.specs.Names.{begins_expr}
use Rattle.ooo_grammar.specs.Combinators.{optional, or_none, separated_inside, to}
use Rattle.ooo_grammar.specs.Expressions.{inner_value}
use Rattle.ooo_grammar.specs.Gives.{reads_at}

some : (b : Bool) (o : Outcome (List Expr)) (ts : List Symbol) → b ≡ true → after (if b then after o (λ a. nothing_r (Some a)) else Got None ts) (λ o. nothing_r (or_none o)) ≡ o
some true (Got a rest) ts h = refl
some true (Bad rest) ts h = refl
some true (Deep rest) ts h = refl
some false o ts h = absurd cc

none : (b : Bool) (o : Outcome (List Expr)) (ts : List Symbol) → b ≡ false → after (if b then after o (λ a. nothing_r (Some a)) else Got None ts) (λ o. nothing_r (or_none o)) ≡ Got [] ts
none true o ts h = absurd cc
none false o ts h = refl

pub some_listed : (l : Limits) (ts : List Symbol) → begins_with (in_set begins_expr) ts ≡ true → reads_at l (to or_none (optional (separated_inside terminal.Comma inner_value refl))) ts ≡ reads_at l (separated_inside terminal.Comma inner_value refl) ts
some_listed l ts h = some (begins_with (in_set begins_expr) ts) (reads_at l (separated_inside terminal.Comma inner_value refl) ts) ts h

pub none_listed : (l : Limits) (ts : List Symbol) → begins_with (in_set begins_expr) ts ≡ false → reads_at l (to or_none (optional (separated_inside terminal.Comma inner_value refl))) ts ≡ Got [] ts
none_listed l ts h = none (begins_with (in_set begins_expr) ts) (reads_at l (separated_inside terminal.Comma inner_value refl) ts) ts h
