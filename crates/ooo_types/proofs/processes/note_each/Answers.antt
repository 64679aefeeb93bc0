use Rattle.std.proofs.Common.{◌≡◌, ◌∙◌, ap, sym, ◌+◌, List, drop, length, add_assoc}
use Rattle.ooo_members.specs.declared.known.FunctionFacts.{FunctionFacts}
use Rattle.ooo_bodies.specs.Noting.{noted}
use Rattle.ooo_types.specs.Processes.{all_edges}
use Rattle.ooo_types.specs.Running.{functions_from}
use Rattle.ooo_types.proofs.RunningLemmas.{functions_step, places_left}
use Rattle.ooo_types.proofs.processes.note_each.Goals as goal

pub parts-preserved : goal.parts-preserved
parts-preserved c =
    let xs : List FunctionFacts = c.as_slice-e-items.result.now in
    let left : length (all_edges (drop c.parts.e-index xs))
    ≡ length c.e-item.result.calls + length (all_edges (drop (c.parts.e-index + 1) xs)) =
    places_left xs c.parts.e-index c.e-item.result c.parts-test.true c.e-item.is in
    let behind : c.note_function-place.result ≡ c.parts.place + length c.e-item.result.calls =
    c.note_function-place.ensures.behind in record {
      notes = rw behind (functions_step c.args.calls.now c.args.sofar.now.registered c.parts.place c.parts.notes
          c.note_function-place.new.notes
          (noted c.args.notes.now (functions_from c.args.calls.now c.args.sofar.now.registered 0 xs)) xs c.parts.e-index
          c.e-item.result c.parts-test.true c.e-item.is c.note_function-place.ensures.notes c.parts.invariant.notes);
      rest = ap (λ n. n + length (all_edges (drop (c.parts.e-index + 1) xs))) behind
          ∙ add_assoc c.parts.place (length c.e-item.result.calls) (length (all_edges (drop (c.parts.e-index + 1) xs)))
          ∙ ap (λ n. c.parts.place + n) (sym left) ∙ c.parts.invariant.rest;
    }
