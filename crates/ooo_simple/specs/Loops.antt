-- One turn of a reader's loop.
use Rattle.std.specs.Prelude.{Bool, List, [], ◌∷◌, ◌++◌}
use Rattle.ooo_syntax.specs.declared.terminal.Terminal.{Terminal}
use Rattle.ooo_grammar.specs.Forms.{Reader, then_r, mapped_r}
use Rattle.ooo_grammar.specs.Sets.{Terminals}
use Rattle.ooo_grammar.specs.Codes.{Code, deeper}
use Rattle.ooo_grammar.specs.Combinators.{quoted}
use Rattle.ooo_grammar.specs.declared.limits.Limits.{Limits}
use Rattle.ooo_grammar.specs.Gives.{reads_at}

-- a sign and one more item
abbrev pub next_item : {A : Type 0} {f : Terminals} {g : A → Terminals} {e : Bool} → Limits → Terminal → Code A f g e → List A → Reader (List A)
next_item l K c xs = then_r (reads_at l (quoted K)) (λ _. mapped_r (λ x. xs ++ x ∷ []) (reads_at l c))

-- a sign one level deeper and one more item
abbrev pub next_inside : {A : Type 0} {f : Terminals} {g : A → Terminals} {e : Bool} → Limits → Terminal → Code A f g e → List A → Reader (List A)
next_inside l K c xs = then_r (reads_at l (deeper (quoted K))) (λ _. mapped_r (λ x. xs ++ x ∷ []) (reads_at l c))
