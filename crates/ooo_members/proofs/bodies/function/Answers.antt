use Rattle.std.proofs.Common.{◌∙◌, ap, List}
use Rattle.ooo_syntax.specs.declared.module.Function.{Function}
use Rattle.ooo_checked.specs.declared.module.CheckedParam.{CheckedParam}
use Rattle.ooo_checked.specs.Scopes.{Scope, entered, left, size_of}
use Rattle.ooo_checked.specs.Stats.{Stepped, stats_of}
use Rattle.ooo_bodies.specs.Parts.{noted_two}
use Rattle.ooo_members.specs.Bodies.{function_context, params_of}
use Rattle.ooo_members.proofs.bodies.function.Goals as goal

pub returns-clause-scope : goal.returns-clause-scope
returns-clause-scope c =
    c.leave-2.ensures
    ∙ ap left (c.leave.ensures ∙ c.in-Ok-stats.ensures.outer ∙ ap left c.in-Ok-enter.ensures.ok)
    ∙ c.in-Ok-params.ensures.outer ∙ ap left c.in-Ok.ensures.ok

pub returns-clause-notes : goal.returns-clause-notes
returns-clause-notes c =
    let f : Function = c.args.function.now in
    let s : Scope = c.args.scopes.now in
    let params : Stepped (List CheckedParam) = params_of (size_of s) f.params (entered s) in
    (rw (c.in-Ok-enter.ensures.ok, c.in-Ok-params.ensures.scope, c.in-Ok.ensures.ok, c.function_context-context.ensures) at c.in-Ok-stats.ensures.notes)
    ∙ noted_two c.args.notes.now c.params.new.notes params.notes (stats_of f.body (function_context f s) (entered params.scope)).notes
    (rw (c.in-Ok.ensures.ok, c.function_context-context.ensures) at c.in-Ok-params.ensures.notes)
