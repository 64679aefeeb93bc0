use Rattle.ooo_erasure.proofs.Stats.{stat_same, stats_same}
use Rattle.ooo_erasure.proofs.law.stats.Goals as goal

pub returns : goal.returns
returns c = record { stat = stat_same; stats = stats_same }
