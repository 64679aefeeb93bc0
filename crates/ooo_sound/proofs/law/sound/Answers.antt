use Rattle.ooo_sound.proofs.Modules.{Laws}
use Rattle.ooo_sound.proofs.Units.{models_sound, texts_fit}
use Rattle.ooo_sound.proofs.law.sound.Goals as goal

pub returns : goal.returns
returns c =
    let laws : Laws = record {
      calls = c.calls.ensures;
      names = c.names.ensures;
      members = c.members.ensures;
      functions = c.functions.ensures;
      noted = c.noted.ensures;
      least = c.least.ensures;
      edges = c.edges.ensures;
      no_cycle = c.no_cycle.ensures;
      called = c.called.ensures;
      methods = c.methods.ensures;
      bodies = c.bodies.ensures;
      events = c.events.ensures;
    } in models_sound (texts_fit laws c.children.ensures c.modules.ensures c.instances.ensures) c.sound_by_parts.ensures
