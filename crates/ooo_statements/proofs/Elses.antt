-- What follows the first statement of an `if`.
use Rattle.std.proofs.Common.{Option, None, ◌≡◌, Bool, true, false, List, Result, refl, ap, ◌∙◌, subst}
use Rattle.std.specs.Borrow.{Bor}
use Rattle.ooo_lexer.specs.declared.position.Position.{Position}
use Rattle.ooo_syntax.specs.declared.symbol.Symbol.{Symbol}
use Rattle.ooo_syntax.specs.declared.expr.Expr.{Expr}
use Rattle.ooo_syntax.specs.declared.stat.Stat.{Stat}
use Rattle.ooo_syntax.specs.declared.stat.Stat.TheVariants as stat_form
use Rattle.ooo_grammar.specs.declared.limits.Limits.{Limits}
use Rattle.ooo_grammar.specs.declared.limits.ReadError.{ReadError}
use Rattle.ooo_grammar.specs.Forms.{Got, Reader, after, nothing_r, mapped_r}
use Rattle.ooo_grammar.specs.Names.{ends_open}
use Rattle.ooo_grammar.specs.Gives.{Gives, reads_at}
use Rattle.ooo_grammar.specs.Statements.{else_part, maybe_other, inner_stat, after_condition, closing}

-- nothing is read where the first statement is open
pub closing_is : (l : Limits) (b : Bool) (ts : List Symbol) (o : Option Stat) (rest : List Symbol) → reads_at l (else_part b) ts ≡ Got o rest → closing b o ≡ o
unfolding else_part
closing_is l true ts o rest h = cc
closing_is l false ts o rest h = refl

pub else_open : (l : Limits) (b : Bool) (ts : List Symbol) → b ≡ true → reads_at l (else_part b) ts ≡ Got None ts
unfolding else_part
else_open l true ts e = refl
else_open l false ts e = absurd cc

pub else_gives : (l : Limits) (b : Bool) (ts : List Symbol) (r : Result (Option Stat × Bor (List Symbol)) ReadError) → b ≡ false → Gives (reads_at l maybe_other ts) r → Gives (reads_at l (else_part b) ts) r
unfolding else_part
else_gives l true ts r e h = absurd cc
else_gives l false ts r e h = h

pub if_tail : (l : Limits) (p : Position) (e : Expr) (s : Stat) (o : Option Stat) (b : Bool) (ts mid rest : List Symbol) → b ≡ ends_open s → reads_at l inner_stat ts ≡ Got s mid → reads_at l (else_part b) mid ≡ Got o rest
    → reads_at l (after_condition p e) ts ≡ Got (stat_form.If p e s o) rest
unfolding after_condition
if_tail l p e s o b ts mid rest i h k =
    let k' : reads_at l (else_part (ends_open s)) mid ≡ Got o rest = subst (λ b. reads_at l (else_part b) mid ≡ Got o rest) i k in
    let join : Stat × Option Stat → Stat = λ so. stat_form.If p e so.0 (closing (ends_open so.0) so.1) in
    let tail : Stat → Reader (Stat × Option Stat) = λ s. mapped_r (λ b. (s, b)) (reads_at l (else_part (ends_open s))) in
    ap (λ x. after {A = Stat × Option Stat} (after x tail) (λ so. nothing_r (join so))) h
    ∙ ap (λ x. after {A = Stat × Option Stat} (after x (λ b. nothing_r (s, b))) (λ so. nothing_r (join so))) k'
    ∙ ap (λ o. Got (stat_form.If p e s o) rest) (closing_is l (ends_open s) mid o rest k')
