use Rattle.std.proofs.Common.{◌∙◌, ap, ◌∷◌, ◌++◌, []}
use Rattle.ooo_checked.specs.Scopes.{meaning_of}
use Rattle.ooo_members.proofs.FunctionNotes.{facts_known}
use Rattle.ooo_members.proofs.bodies.known_function.Goals as goal

pub returns-clause-facts : goal.returns-clause-facts
returns-clause-facts c =
    c.in-Ok-push.ensures.ok ∙ ap (λ f. c.args.functions.now ++ f ∷ [])
    (facts_known c.args.declared.now c.args.scopes.now c.args.notes.now c.function.new.notes c.denotes-number.result.number
    c.len-calls.result c.len-waits.result c.len-triggers.result c.in-Ok.made
    (ap (λ d. d.number) (c.denotes-number.ensures) ∙ ap (λ n. (meaning_of c.args.scopes.now n).number) c.as_bytes.ensures) c.len-calls.ensures c.len-waits.ensures c.len-triggers.ensures
    c.in_ok-tree.ensures.notes c.in-Ok.ensures)
