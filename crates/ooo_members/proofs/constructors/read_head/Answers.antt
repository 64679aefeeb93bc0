use Rattle.std.proofs.Common.{◌∙◌, ap, List}
use Rattle.ooo_checked.specs.declared.denotation.Resolved.{Resolved}
use Rattle.ooo_checked.specs.declared.denotation.Thing.TheVariants as thing
use Rattle.ooo_checked.specs.Scopes.{Scope, entered, left, size_of}
use Rattle.ooo_checked.specs.Stats.{Stepped}
use Rattle.ooo_bodies.specs.Parts.{noted_two}
use Rattle.ooo_members.specs.Bodies.{params_of}
use Rattle.ooo_members.specs.Declarations.{name_of}
use Rattle.ooo_members.proofs.constructors.read_head.Goals as goal

pub returns-clause-notes : goal.returns-clause-notes
returns-clause-notes c =
    let s : Scope = c.args.scopes.now in
    let first : Stepped Resolved = name_of (size_of s) thing.ModuleName c.args.all.own_name.now (entered s) in
    (rw (c.in_ok-own_name.ensures.scope, c.in_ok-enter.ensures.ok, c.size-outside.ensures) at c.in-Ok.ensures.notes)
    ∙ noted_two c.args.notes.now c.name.new.notes first.notes (params_of (size_of s) c.args.all.others.now first.scope).notes
    (rw c.in_ok-enter.ensures.ok at c.in_ok-own_name.ensures.notes)

pub returns-clause-outer : goal.returns-clause-outer
returns-clause-outer c =
    c.in-Ok.ensures.outer ∙ c.in_ok-own_name.ensures.outer ∙ ap left c.in_ok-enter.ensures.ok
