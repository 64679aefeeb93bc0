-- One turn of a reader's loop.
use Rattle.std.specs.Prelude.{List, [], ◌∷◌, ◌++◌}
use Rattle.ooo_syntax.specs.declared.stat.Stat.{Stat}
use Rattle.ooo_grammar.specs.Forms.{Reader, mapped_r}
use Rattle.ooo_grammar.specs.declared.limits.Limits.{Limits}
use Rattle.ooo_grammar.specs.Gives.{reads_at}
use Rattle.ooo_grammar.specs.Statements.{inner_stat}

-- one more statement
abbrev pub next_stat : Limits → List Stat → Reader (List Stat)
next_stat l ss = mapped_r (λ s. ss ++ s ∷ []) (reads_at l inner_stat)
