use Rattle.std.proofs.Common.{refl}
use Rattle.ooo_interp.specs.Ports.{all_shown}
use Rattle.ooo_plain.specs.Opening.{readable_by}
use Rattle.ooo_plain.proofs.Acting.{acts, known}
use Rattle.ooo_plain.proofs.engine.Engine.act.Goals as goal

pub open_ports-requires-clause-ascending : goal.open_ports-requires-clause-ascending
open_ports-requires-clause-ascending c = let m = c.requires.may in (known c.laws.ensures c.args.design.now c.requires.sound c.args.statements c.args.p c.args.self.now m.within m.world m.ops m.mirrors c.index-channels.result.now c.index-channels.ensures).ascending

pub open_ports-requires-clause-within : goal.open_ports-requires-clause-within
open_ports-requires-clause-within c = let m = c.requires.may in (known c.laws.ensures c.args.design.now c.requires.sound c.args.statements c.args.p c.args.self.now m.within m.world m.ops m.mirrors c.index-channels.result.now c.index-channels.ensures).within

pub returns : goal.returns
returns c =
    acts c.laws.ensures c.args.design.now c.requires.sound c.args.statements c.args.p c.args.self.now c.requires.may.within
    c.index_mut-process.result.now _ c.index_mut-process.ensures.value c.index-channels.result.now c.index-channels.ensures c.open_ports.new.ports c.in_ok-open_ports.ensures
    c.replace.result c.replace.ensures.value c.replace-2.result c.replace-2.ensures.value c.replace-3.result c.replace-3.ensures.value c.new-4.result c.new-4.ensures
    c.run_process.new.lent.slots c.run_process.new.lent.variables (all_shown (readable_by c.run_process.new.lent.fifos.bank c.run_process.new.lent.fifos.at) c.run_process.new.lent.ports) c.run_process.new.emitted c.in-Ok.found c.entry_after-process.result c.entry_after-process.ensures
    c.in-Ok.ensures.does _ refl refl refl
