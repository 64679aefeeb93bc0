-- One turn of a reader's loop.
use Rattle.std.specs.Prelude.{Bool, List, [], ◌∷◌, ◌++◌}
use Rattle.ooo_syntax.specs.declared.module.Arg.{Arg}
use Rattle.ooo_grammar.specs.Forms.{Reader, mapped_r}
use Rattle.ooo_grammar.specs.Sets.{Terminals}
use Rattle.ooo_grammar.specs.Codes.{Code}
use Rattle.ooo_grammar.specs.Members.{ends_in_value, next_arg}
use Rattle.ooo_grammar.specs.declared.limits.Limits.{Limits}
use Rattle.ooo_grammar.specs.Gives.{reads_at}

-- one more item
abbrev pub one_more : {A : Type 0} {f : Terminals} {g : A → Terminals} {e : Bool} → Limits → Code A f g e → List A → Reader (List A)
one_more l c xs = mapped_r (λ x. xs ++ x ∷ []) (reads_at l c)

-- more items, as a list
abbrev pub more_of : {A : Type 0} {f : Terminals} {g : List A → Terminals} {e : Bool} → Limits → Code (List A) f g e → List A → Reader (List A)
more_of l c xs = mapped_r (λ ys. xs ++ ys) (reads_at l c)

-- a comma and one more argument
abbrev pub arg_step : Limits → List Arg → Reader (List Arg)
arg_step l xs = reads_at l (next_arg (ends_in_value xs) xs)
