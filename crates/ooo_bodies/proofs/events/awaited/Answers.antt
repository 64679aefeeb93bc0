use Rattle.std.proofs.Common.{◌∙◌, ap, false, refl}
use Rattle.ooo_checked.specs.declared.stat.CheckedAwaited.TheVariants as awaited
use Rattle.ooo_checked.specs.Notes.{all_notes}
use Rattle.ooo_checked.specs.Stats.{events_of, time_of}
use Rattle.ooo_bodies.specs.Parts.{noted_two}
use Rattle.ooo_bodies.proofs.events.awaited.Goals as goal

pub returns-in-Sensitive-clause-tree : goal.returns-in-Sensitive-clause-tree
returns-in-Sensitive-clause-tree c = rw c.in-Sensitive.is refl

pub returns-in-Sensitive-clause-notes : goal.returns-in-Sensitive-clause-notes
returns-in-Sensitive-clause-notes c = rw c.in-Sensitive.is refl

pub returns-in-Ok-clause-tree : goal.returns-in-Ok-clause-tree
returns-in-Ok-clause-tree c = rw c.in-Delay.is (ap awaited.Delay c.in-Ok.ensures.tree)

pub returns-in-Ok-clause-notes : goal.returns-in-Ok-clause-notes
returns-in-Ok-clause-notes c = rw c.in-Delay.is c.in-Ok.ensures.notes

pub returns-in-Ok-events-clause-tree : goal.returns-in-Ok-events-clause-tree
returns-in-Ok-events-clause-tree c = rw (c.in-Until.is, c.in-Ok-time.ensures.tree, c.in-Ok-events.ensures.trees) refl

pub returns-in-Ok-events-clause-notes : goal.returns-in-Ok-events-clause-notes
returns-in-Ok-events-clause-notes c =
    rw c.in-Until.is
    (c.in-Ok-events.ensures.notes
    ∙ noted_two c.args.notes.now c.time-in-Until.new.notes (time_of c.in-Until.most c.args.scopes.now).notes
    (all_notes (events_of false c.in-Until.es c.args.scopes.now)) c.in-Ok-time.ensures.notes)

pub returns-in-Ok-events-2-clause-tree : goal.returns-in-Ok-events-2-clause-tree
returns-in-Ok-events-2-clause-tree c = rw c.in-Events.is (ap awaited.Events c.in-Ok-events-2.ensures.trees)

pub returns-in-Ok-events-2-clause-notes : goal.returns-in-Ok-events-2-clause-notes
returns-in-Ok-events-2-clause-notes c = rw c.in-Events.is c.in-Ok-events-2.ensures.notes
