use Rattle.ooo_sound_text.proofs.ReadModules.{calls_are_edges}
use Rattle.ooo_sound_text.proofs.law.edges.Goals as goal

pub returns : goal.returns
returns c = calls_are_edges
