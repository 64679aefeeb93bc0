-- What `wait` waits for, after an expression.
use Rattle.std.proofs.Common.{Option, Some, None, ◌≡◌, List, Result, refl, sym, ap, ◌∙◌, subst}
use Rattle.std.specs.Borrow.{Bor}
use Rattle.ooo_syntax.specs.declared.symbol.Symbol.{Symbol}
use Rattle.ooo_syntax.specs.declared.terminal.Terminal.TheVariants as terminal
use Rattle.ooo_syntax.specs.declared.expr.Expr.{Expr}
use Rattle.ooo_syntax.specs.declared.stat.Event.{Event}
use Rattle.ooo_syntax.specs.declared.stat.Awaited.{Awaited}
use Rattle.ooo_grammar.specs.declared.limits.Limits.{Limits}
use Rattle.ooo_grammar.specs.declared.limits.ReadError.{ReadError}
use Rattle.ooo_grammar.specs.Forms.{Outcome, Got, Bad, Deep, Reader, after, nothing_r, mapped_r}
use Rattle.ooo_grammar.specs.Codes.{deeper}
use Rattle.ooo_grammar.specs.Combinators.{quoted}
use Rattle.ooo_grammar.specs.Expressions.{inner_value}
use Rattle.ooo_grammar.specs.Times.{after_amount, after_awaited, awaited_expression, events_of}
use Rattle.ooo_grammar.specs.Gives.{Gives, Stops, reads_at}
use Rattle.ooo_grammar.specs.Steps.{stops_first}

-- an error at the comma after an amount
pub amount_stops : (l : Limits) (a : Expr) (ts : List Symbol) (e : ReadError) → Stops (reads_at l (deeper (quoted terminal.Comma)) ts) e → Stops (reads_at l (after_amount a) ts) e
unfolding after_amount
amount_stops l a ts e h = stops_first (reads_at l (deeper (quoted terminal.Comma)) ts) _ e h

pub no_events : (l : Limits) (o : Option (List Event)) (e : Expr) (ts : List Symbol) (r : Result (Awaited × Bor (List Symbol)) ReadError) → o ≡ None → Gives (reads_at l (after_amount e) ts) r → Gives (reads_at l (after_awaited o e) ts) r
unfolding after_awaited
no_events l None e ts r i h = h
no_events l (Some es) e ts r i h = absurd cc

pub some_events : (l : Limits) (o : Option (List Event)) (es : List Event) (e : Expr) (ts : List Symbol) (r : Result (Awaited × Bor (List Symbol)) ReadError) → o ≡ Some es → Gives (reads_at l (after_awaited (Some es) e) ts) r → Gives (reads_at l (after_awaited o e) ts) r
some_events l o es e ts r i h = subst (λ o. Gives (reads_at l (after_awaited o e) ts) r) (sym i) h

-- a pair's second part alone
second_of : (e : Expr) (o : Outcome Awaited) → after {A = Expr × Awaited} (after o (λ b. nothing_r (e, b))) (λ x. nothing_r (x.1)) ≡ o
second_of e (Got a rest) = refl
second_of e (Bad rest) = refl
second_of e (Deep rest) = refl

-- what follows the first expression is what the whole answers
pub awaited_tail : (l : Limits) (e : Expr) (o : Option (List Event)) (ts mid : List Symbol) (r : Result (Awaited × Bor (List Symbol)) ReadError) → reads_at l inner_value ts ≡ Got e mid → o ≡ events_of e → Gives (reads_at l (after_awaited o e) mid) r → Gives (reads_at l awaited_expression ts) r
unfolding awaited_expression
awaited_tail l e o ts mid r i j h =
    let h' : Gives (reads_at l (after_awaited (events_of e) e) mid) r = subst (λ o. Gives (reads_at l (after_awaited o e) mid) r) j h in
    let tail : Expr → Reader (Expr × Awaited) = λ e. mapped_r (λ b. (e, b)) (reads_at l (after_awaited (events_of e) e)) in
    subst (λ o. Gives o r) (sym (ap (λ x. after {A = Expr × Awaited} (after x tail) (λ x. nothing_r (x.1))) i ∙ second_of e (reads_at l (after_awaited (events_of e) e) mid))) h'
