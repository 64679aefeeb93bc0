-- How the loop over statements begins.
use Rattle.std.proofs.Common.{◌≡◌, ℕ, List, [], length, sym, ap, ◌∙◌}
use Rattle.ooo_syntax.specs.declared.symbol.Symbol.{Symbol}
use Rattle.ooo_syntax.specs.declared.stat.Stat.{Stat}
use Rattle.ooo_grammar.specs.declared.limits.Limits.{Limits}
use Rattle.ooo_grammar.specs.declared.limits.ReadError.{ReadError}
use Rattle.ooo_grammar.specs.declared.limits.ReadError.TheVariants as error
use Rattle.ooo_grammar.specs.Forms.{Got, repeats_in}
use Rattle.ooo_grammar.specs.Sets.{in_set}
use Rattle.ooo_grammar.specs.Names.{begins_stat}
use Rattle.ooo_grammar.specs.Codes.{nothing}
use Rattle.ooo_grammar.specs.Statements.{stats}
use Rattle.ooo_grammar.specs.Gives.{Stops, reads_at}
use Rattle.ooo_statements.specs.Loops.{next_stat}

-- the loop begins with no statement
pub stats_init : (l : Limits) (ts rest : List Symbol) (ss : List Stat) (n : ℕ) → reads_at l (nothing {A = List Stat} []) ts ≡ Got ss rest → n ≡ length rest → reads_at l stats ts ≡ repeats_in (in_set begins_stat) (next_stat l) n ss rest
unfolding stats
stats_init l ts rest ss n h j =
    let a : ts ≡ rest = cc in
    let none : List Stat = [] in
    let b : none ≡ ss = cc in
    ap (λ ts. repeats_in (in_set begins_stat) (next_stat l) (length ts) [] ts) a ∙ ap (λ ss. repeats_in (in_set begins_stat) (next_stat l) (length rest) ss rest) b
    ∙ ap (λ n. repeats_in (in_set begins_stat) (next_stat l) n ss rest) (sym j)

-- reading nothing stops only where memory runs out
pub none_stops : (l : Limits) (ts : List Symbol) (e : ReadError) → Stops (reads_at l (nothing {A = List Stat} []) ts) e → Stops (reads_at l stats ts) e
none_stops l ts error.OutOfMemory h = tt
none_stops l ts (error.Syntax n) h = absurd cc
none_stops l ts (error.TooDeep n) h = absurd cc
