use Rattle.std.proofs.Common.{◌≡◌, ◌++◌, drop, map}
use Rattle.ooo_syntax.specs.declared.leaves.Word.{Word}
use Rattle.ooo_checked.specs.declared.denotation.Resolved.{Resolved}
use Rattle.ooo_checked.specs.Exprs.{resolved}
use Rattle.ooo_members.proofs.members.names.Given as goal

abbrev pub invariant-parts : goal.invariant-parts
invariant-parts l =
    let f : Word → Resolved = λ w. resolved l.scopes w in
    l.all ++ map f (drop l.e-index l.e-items) ≡ map f l.e-items
