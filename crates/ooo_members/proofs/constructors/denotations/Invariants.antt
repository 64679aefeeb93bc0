use Rattle.std.proofs.Common.{◌≡◌, ◌++◌, drop, map}
use Rattle.ooo_syntax.specs.declared.module.Init.{Init}
use Rattle.ooo_checked.specs.declared.denotation.Denotation.{Denotation}
use Rattle.ooo_checked.specs.Scopes.{meaning_of}
use Rattle.ooo_members.proofs.constructors.denotations.Given as goal

abbrev pub invariant-parts : goal.invariant-parts
invariant-parts l =
    let f : Init → Denotation = λ i. meaning_of l.scopes i.name.name in
    l.all ++ map f (drop l.e-index l.e-items) ≡ map f l.e-items
