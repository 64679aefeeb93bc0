use Rattle.ooo_code.proofs.Sights as sights
use Rattle.ooo_code.proofs.law.own_steps_are_seen.Goals as goal

pub returns : goal.returns
returns c = record {
  signal_after_take = λ xs b c. sights.signal_after_take xs b c;
  signal_after_put = λ xs b c. sights.signal_after_put xs b c;
  values_after_take = λ xs b c. sights.values_after_take xs b c;
  values_after_put = λ xs b c. sights.values_after_put xs b c;
  free_after_take = λ xs b c. sights.free_after_take xs b c;
  free_after_put = λ xs b c. sights.free_after_put xs b c;
}
