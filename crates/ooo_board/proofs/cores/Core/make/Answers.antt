use Rattle.std.proofs.Common.{◌≡◌, ap, arith, length, map, refl, replicate, subst, sym, ◌∙◌}
use Rattle.ooo_dispatch.specs.Least.{rules_of}
use Rattle.ooo_dispatch.specs.Steps.{nothing_done}
use Rattle.ooo_fronts.specs.declared.choice.State.TheVariants.{Waiting}
use Rattle.ooo_fronts.specs.Fronts.{AreFit, AreFrontsOf}
use Rattle.ooo_board.specs.Starting.{first_cells, first_front}
use Rattle.ooo_board.proofs.Beginning.{few_processes, first_fronts_are, first_fronts_fit, first_states_are, first_variables_are, has_bank_first}
use Rattle.ooo_board.proofs.cores.Core.make.Goals as goal

pub make-requires-clause-few : goal.make-requires-clause-few
make-requires-clause-few c =
    let r = rules_of c.args.design.now c.args.limits.now c.args.tables.now in
    let processes = c.in_ok-processes.processes.items in
    let are = c.in_ok-processes.ensures c.args.limits.now in
    let fronts_are : c.in-Ok.made.items ≡ map first_front processes = c.in-Ok.ensures ∙ ap (map first_front) c.as_slice.ensures.value in
    let count = ap length fronts_are ∙ (first_fronts_are r processes are).count in
    let few = few_processes c.args.design.now c.args.tables.now.graph.segments c.requires.tables.segments in
    let most = c.requires.tables.few in
    omega arith

pub make-requires-clause-fit : goal.make-requires-clause-fit
make-requires-clause-fit c =
    let r = rules_of c.args.design.now c.args.limits.now c.args.tables.now in
    let processes = c.in_ok-processes.processes.items in
    let fronts_are : c.in-Ok.made.items ≡ map first_front processes = c.in-Ok.ensures ∙ ap (map first_front) c.as_slice.ensures.value in
    subst (AreFit c.args.tables.now) (sym fronts_are) (first_fronts_fit r processes (c.in_ok-processes.ensures c.args.limits.now) c.args.tables.now refl c.requires.tables.segments)

pub returns : goal.returns
returns c =
    let r = rules_of c.args.design.now c.args.limits.now c.args.tables.now in
    let processes = c.in_ok-processes.processes.items in
    let are = c.in_ok-processes.ensures c.args.limits.now in
    let fronts = c.in-Ok-make.made in
    let count : c.len.result ≡ length processes = omega (arith, c.len.ensures, c.in_ok-processes.processes.ok) in
    let states_are : c.in-Ok-states.made.items ≡ replicate (length processes) Waiting = c.in-Ok-states.ensures.items_if_clones_equal (λ y h. h) ∙ ap (λ n. replicate n Waiting) count in
    let fronts_are : fronts.fronts ≡ map first_front processes = c.in-Ok-make.ensures.fronts ∙ c.in-Ok.ensures ∙ ap (map first_front) c.as_slice.ensures.value in
    record {
      has_bank = has_bank_first r c.in-Ok-make-2.made c.default.result c.default.ensures c.in-Ok-make-2.ensures;
      has_variables = first_variables_are r c.in-Ok-variables.made.items (c.in-Ok-variables.ensures ∙ ap first_cells c.as_slice-2.ensures);
      has_processes = are;
      has_states = first_states_are r (length processes) c.in-Ok-states.made.items are.counted states_are;
      has_fronts = subst (AreFrontsOf r (nothing_done r).board) (sym fronts_are) (first_fronts_are r processes are);
      has_kept = c.in-Ok-make.ensures.kept;
      fit = subst (AreFit c.args.tables.now) (sym fronts_are) (first_fronts_fit r processes are c.args.tables.now refl c.requires.tables.segments);
      has_cut = c.new.ensures r refl;
      has_pieces = c.new-2.ensures.items;
      has_places = c.new-3.ensures.items;
    }
