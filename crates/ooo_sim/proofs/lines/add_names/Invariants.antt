use Rattle.std.proofs.Common.{◌≡◌, ◌++◌, drop}
use Rattle.ooo_sim.specs.Lines.{names_text}
use Rattle.ooo_sim.proofs.lines.add_names.Given as goal

abbrev pub invariant-parts : goal.invariant-parts
invariant-parts l = l.line.items ++ names_text (drop l.e-index l.names) ≡ l.initial.line.items ++ names_text l.names
