use Rattle.std.proofs.Common.{List}
use Rattle.ooo_syntax.specs.declared.stat.Event.{Event}
use Rattle.ooo_checked.specs.Stats.{event_of}
use Rattle.ooo_bodies.specs.Parts.{trees_step, notes_step}
use Rattle.ooo_bodies.proofs.events.events.Goals as goal

pub parts-preserved : goal.parts-preserved
parts-preserved c =
    let xs : List Event = c.as_slice-e-items.result.now in record {
      trees = trees_step (λ e. event_of c.args.in_sensitive e c.args.scopes.now) c.parts.all c.push.new.self xs c.parts.e-index
          c.e-item.result c.in-Ok.made c.parts-test.true c.e-item.is c.in-Ok.ensures.tree c.in-Ok-push.ensures.ok
          c.parts.invariant.trees;
      notes = notes_step (λ e. event_of c.args.in_sensitive e c.args.scopes.now) c.args.notes.now c.parts.notes c.event.new.notes
          xs c.parts.e-index c.e-item.result c.parts-test.true c.e-item.is c.in-Ok.ensures.notes c.parts.invariant.notes;
    }
