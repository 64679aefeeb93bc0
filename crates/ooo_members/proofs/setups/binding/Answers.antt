use Rattle.std.proofs.Common.{◌∙◌, not}
use Rattle.ooo_syntax.specs.declared.module.Binding.{Binding}
use Rattle.ooo_checked.specs.declared.breach.TypeBreach.TheVariants as what
use Rattle.ooo_checked.specs.declared.denotation.Resolved.{Resolved}
use Rattle.ooo_checked.specs.Exprs.{resolved}
use Rattle.ooo_checked.specs.Notes.{breach_when}
use Rattle.ooo_checked.specs.Scopes.{Scope}
use Rattle.ooo_checked.specs.Things.{is_known}
use Rattle.ooo_bodies.specs.Parts.{noted_three}
use Rattle.ooo_members.specs.Constructors.{module_of, port_notes}
use Rattle.ooo_members.specs.Known.{port_of}
use Rattle.ooo_members.proofs.setups.binding.Goals as goal

pub returns-clause-notes : goal.returns-clause-notes
returns-clause-notes c =
    let b : Binding = c.args.binding.now in
    let s : Scope = c.args.scopes.now in
    let instance : Resolved = resolved s b.instance in
    let port : Resolved = record { word = b.port; denotes = port_of (module_of c.args.modules.now instance.denotes.thing) b.port.name } in
    (rw (c.is_known-is_channel_known.ensures, c.in-Ok-resolve.ensures) at c.breaks_when-2.ensures)
    ∙ noted_three c.args.notes.now c.breaks_when.new.self c.note_port.new.notes
    (breach_when (not (is_known instance.denotes.thing)) what.UnknownName b.instance.position)
    (port_notes c.args.modules.now instance.denotes.thing port)
    (breach_when (not (is_known (resolved s b.channel).denotes.thing)) what.UnknownName b.channel.position)
    (rw (c.is_known-is_known.ensures, c.in_ok-instance.ensures) at c.breaks_when.ensures)
    (rw (c.in-Ok.ensures, c.in_ok-instance.ensures) at c.note_port.ensures)
