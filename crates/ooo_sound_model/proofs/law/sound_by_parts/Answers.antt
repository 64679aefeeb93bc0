use Rattle.ooo_sound_model.proofs.Whole.{Laws, sound}
use Rattle.ooo_sound_model.proofs.law.sound_by_parts.Goals as goal

pub returns : goal.returns
returns c =
    let laws : Laws = record {
      walks = c.parts.ensures;
      names = c.names.ensures;
      clocks = c.clocks.ensures;
      closes = c.closed.ensures;
      leasts = c.least.ensures;
    } in sound laws
