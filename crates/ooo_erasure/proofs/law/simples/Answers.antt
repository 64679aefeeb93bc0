use Rattle.ooo_erasure.proofs.Simples.{time_same, events_same, awaited_same, simple_same}
use Rattle.ooo_erasure.proofs.law.simples.Goals as goal

pub returns : goal.returns
returns c = record { time = time_same; events = events_same; awaited = awaited_same; simple = simple_same }
