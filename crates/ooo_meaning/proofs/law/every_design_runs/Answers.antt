use Rattle.ooo_code.specs.Nodes.{by_nodes}
use Rattle.ooo_meaning.specs.Runs.{ascending, start_of}
use Rattle.ooo_meaning.proofs.Ends.{ends}
use Rattle.ooo_meaning.proofs.Starts.{start_between, start_left}
use Rattle.ooo_meaning.proofs.law.every_design_runs.Goals as goal

pub returns : goal.returns
returns c = λ design limits some.
    ends _ (by_nodes design limits.statements) (ascending design) limits _ (start_of design) (start_between design limits some) (start_left design limits)
