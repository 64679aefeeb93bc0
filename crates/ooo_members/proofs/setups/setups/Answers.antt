use Rattle.std.proofs.Common.{List}
use Rattle.ooo_syntax.specs.declared.module.Setup.{Setup}
use Rattle.ooo_checked.specs.declared.module.CheckedSetup.{CheckedSetup}
use Rattle.ooo_bodies.specs.Noting.{noted}
use Rattle.ooo_members.specs.declared.known.Sofar.{Sofar}
use Rattle.ooo_members.specs.Constructors.{setup_of, setups_of}
use Rattle.ooo_members.specs.Turns.{Turn, turn_trees, turn_behind, turn_notes}
use Rattle.ooo_members.proofs.setups.setups.Goals as goal

pub parts-preserved : goal.parts-preserved
parts-preserved c =
    let xs : List Setup = c.as_slice-e-items.result.now in
    let f : Setup → Sofar → Turn Sofar CheckedSetup = λ x before. setup_of c.args.modules.now c.args.scopes.now x before in
    let whole : Turn Sofar (List CheckedSetup) = setups_of c.args.modules.now c.args.scopes.now xs c.args.sofar.now in record {
      trees = turn_trees f c.parts.all c.push.new.self xs c.parts.e-index c.e-item.result c.in-Ok.made
          c.parts.sofar c.setup.new.sofar whole.tree c.parts-test.true c.e-item.is c.in-Ok.ensures.tree
          c.in-Ok.ensures.behind c.in-Ok-push.ensures.ok c.parts.invariant.trees;
      behind = turn_behind f xs c.parts.e-index c.e-item.result c.parts.sofar c.setup.new.sofar whole.behind
          c.parts-test.true c.e-item.is c.in-Ok.ensures.behind c.parts.invariant.behind;
      notes = turn_notes f c.parts.notes c.setup.new.notes (noted c.args.notes.now whole.notes) xs c.parts.e-index
          c.e-item.result c.parts.sofar c.setup.new.sofar c.parts-test.true c.e-item.is
          c.in-Ok.ensures.behind c.in-Ok.ensures.notes c.parts.invariant.notes;
    }
