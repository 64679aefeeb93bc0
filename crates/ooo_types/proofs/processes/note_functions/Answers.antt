use Rattle.std.proofs.Common.{◌≡◌, ◌∙◌, ap, List}
use Rattle.ooo_members.specs.declared.known.FunctionFacts.{FunctionFacts}
use Rattle.ooo_bodies.specs.Noting.{noted}
use Rattle.ooo_types.specs.Processes.{all_edges}
use Rattle.ooo_types.specs.Running.{functions_from}
use Rattle.ooo_types.proofs.RunningLemmas.{from_the_first}
use Rattle.ooo_types.proofs.processes.note_functions.Goals as goal

pub returns : goal.returns
returns c =
    let fs : List FunctionFacts = c.args.functions.now in
    let calls : c.in-Ok.made ≡ all_edges fs = c.in-Ok.ensures ∙ c.as_slice.ensures ∙ c.in_ok-edges.ensures in
    c.note_each.ensures
    ∙ ap (λ es. noted c.args.notes.now (functions_from es c.args.sofar.now.registered 0 fs)) calls
    ∙ ap (λ ns. noted c.args.notes.now ns) (from_the_first c.args.sofar.now.registered fs)
