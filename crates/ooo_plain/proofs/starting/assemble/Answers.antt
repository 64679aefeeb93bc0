use Rattle.std.proofs.Common.{refl}
use Rattle.ooo_plain.proofs.Beginning.{engine_starts}
use Rattle.ooo_plain.proofs.starting.assemble.Goals as goal

pub returns : goal.returns
returns c = engine_starts c.laws.ensures c.args.design.now c.requires.sound _ c.requires.begun c.requires.bank c.requires.processes c.requires.shown c.requires.channel_events c.requires.variables c.new-2.ensures.items refl refl refl refl
