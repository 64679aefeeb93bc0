-- What is known of the functions among members, one member after the other.
use Rattle.std.proofs.Common.{◌≡◌, subst, List, [], ◌∷◌, ◌++◌, append_assoc, reverse}
use Rattle.ooo_syntax.specs.declared.module.Member.{Member}
use Rattle.ooo_checked.specs.Scopes.{Scope}
use Rattle.ooo_members.specs.declared.known.FunctionFacts.{FunctionFacts}
use Rattle.ooo_members.specs.Members.{functions_in, functions_of}
use Rattle.ooo_members.specs.Turns.{taken}

-- an invariant of a loop that takes members from the end of a list, which is turned round, holds after one more
pub functions_step : (s : Scope) (fs gs whole : List FunctionFacts) (rest rest' : List Member) (x : Member) →
    rest ≡ rest' ++ x ∷ [] → gs ≡ fs ++ functions_in x s → fs ++ functions_of (reverse rest) s ≡ whole →
    gs ++ functions_of (reverse rest') s ≡ whole
functions_step s fs gs whole rest rest' x last more so_far =
    rw (more, append_assoc fs (functions_in x s) (functions_of (reverse rest') s))
    (subst (λ ys. fs ++ functions_of ys s ≡ whole) (taken rest rest' x last) so_far)
