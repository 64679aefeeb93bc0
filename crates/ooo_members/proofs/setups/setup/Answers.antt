-- What a statement is by its form: of each arm what was made of its parts.
use Rattle.std.proofs.Common.{◌∙◌, refl, true}
use Rattle.ooo_checked.specs.Notes.{all_notes}
use Rattle.ooo_checked.specs.Stats.{events_of}
use Rattle.ooo_bodies.specs.Parts.{noted_two}
use Rattle.ooo_members.specs.Constructors.{after_process}
use Rattle.ooo_members.proofs.setups.setup.Goals as goal

pub returns-in-Ok : goal.returns-in-Ok
returns-in-Ok c = rw (c.in-Thread.is) (record {
  tree = rw (c.in-Ok.ensures.tree) refl;
  behind = c.in-Ok.ensures.behind;
  notes = c.in-Ok.ensures.notes;
})

pub returns-in-Ok-process : goal.returns-in-Ok-process
returns-in-Ok-process c = rw (c.in-Method.is) (record {
  tree = rw (c.in-Ok-process.ensures.tree) refl;
  behind = c.in-Ok-process.ensures.behind;
  notes = c.in-Ok-process.ensures.notes;
})

pub returns-in-Ok-events : goal.returns-in-Ok-events
returns-in-Ok-events c = rw (c.in-Sensitive.is) (record {
  tree = rw (c.in-Ok-events.ensures.trees) refl;
  behind = refl;
  notes = c.in-Ok-events.ensures.notes
      ∙ noted_two c.args.notes.now c.note_after_process.new.notes (after_process c.args.sofar.now c.in-Sensitive.at)
      (all_notes (events_of true c.in-Sensitive.on c.args.scopes.now)) c.note_after_process.ensures;
})

pub returns-in-Ok-binding : goal.returns-in-Ok-binding
returns-in-Ok-binding c = rw (c.in-Bind.is) (record {
  tree = rw (c.in-Ok-binding.ensures.tree) refl;
  behind = refl;
  notes = c.in-Ok-binding.ensures.notes;
})
