use Rattle.ooo_types.specs.Units.{unit_of}
use Rattle.ooo_sim.proofs.law.accepted_are_ready.Goals as goal

pub returns : goal.returns
returns c text accepted is =
    let e = is.elaborated in record {
      sound = c.sound.ensures e.tree accepted.bound e.right e.is;
      design = is.lowered.design;
      segments = is.segments;
      few = is.few;
      names = c.named.ensures (unit_of e.tree).tree accepted.bound e.is;
      stop = c.stops.ensures (unit_of e.tree).tree accepted.bound e.is;
    }
