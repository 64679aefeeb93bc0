-- At the start as many statements may count as the limit says. Each turn comes to what the loop comes to.
use Rattle.std.proofs.Common.{refl, subst, ◌∙◌}
use Rattle.ooo_interp.specs.Acting.{doing_of, running_of}
use Rattle.ooo_interp.specs.Running.{Comes, Shortens, from_node}
use Rattle.ooo_interp.proofs.Turned.{steps_from}
use Rattle.ooo_interp.proofs.running.run_nodes.Goals as goal

pub turns-init : goal.turns-init
turns-init g c = record { does = steps_from _ _ _ _ _ _ c.new-left.ensures.statements c.new-left.ensures.room; kept = refl }

pub turns-smaller : goal.turns-smaller
turns-smaller g c = subst (λ t. Shortens c.args.nodes.now c.turns.left c.go_on.new.left t) c.in-Goes.is c.in_ok-to.ensures.shortens

pub turns-preserved : goal.turns-preserved
turns-preserved g c = record {
  does = c.turns.invariant.does
      ∙ subst (λ t. Comes c.args.nodes.now (running_of c.args.activation.now) c.go_on.new.left t (doing_of (g.L.Lent.sight c.go_on.new.lent) c.go_on.new.emitted c.go_on.new.trigger)
      (from_node c.args.nodes.now (running_of c.args.activation.now) c.turns.left c.turns.number (doing_of (g.L.Lent.sight c.turns.lent) c.turns.emitted c.turns.trigger))) c.in-Goes.is c.in_ok-to.ensures.comes;
  kept = c.go_on.ensures.kept ∙ c.turns.invariant.kept;
}

pub returns-in-Over-clause-does : goal.returns-in-Over-clause-does
returns-in-Over-clause-does g c =
    c.turns.invariant.does
    ∙ subst (λ t. Comes c.args.nodes.now (running_of c.args.activation.now) c.go_on.new.left t (doing_of (g.L.Lent.sight c.go_on.new.lent) c.go_on.new.emitted c.go_on.new.trigger)
    (from_node c.args.nodes.now (running_of c.args.activation.now) c.turns.left c.turns.number (doing_of (g.L.Lent.sight c.turns.lent) c.turns.emitted c.turns.trigger))) c.in-Over.is c.in_ok-to.ensures.comes
