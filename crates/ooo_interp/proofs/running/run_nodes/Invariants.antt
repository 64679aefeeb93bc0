-- From the node at which it stands the activation comes to what it comes to from the first.
use Rattle.std.proofs.Common.{◌≡◌, None}
use Rattle.ooo_code.specs.Nodes.{steps}
use Rattle.ooo_interp.specs.Acting.{doing_of, running_of}
use Rattle.ooo_interp.specs.Running.{from_node, turns_of}
use Rattle.ooo_interp.proofs.running.run_nodes.Given as goal

abbrev pub invariant-turns : goal.invariant-turns
invariant-turns g l = record {
  does : steps l.nodes (running_of l.activation) l.statements l.first (doing_of (g.L.Lent.sight l.fn.lent) l.fn.emitted None)
      ≡ from_node l.nodes (running_of l.activation) l.left l.number (doing_of (g.L.Lent.sight l.lent) l.emitted l.trigger);
  kept : g.L.Lent.kept l.lent ≡ g.L.Lent.kept l.fn.lent;
}

abbrev pub decreases-turns : goal.decreases-turns
decreases-turns g l = turns_of l.nodes l.left
