use Rattle.ooo_sound_model.proofs.Stops.{stops_in_time}
use Rattle.ooo_sound_model.proofs.law.stops.Goals as goal

pub returns : goal.returns
returns c = stops_in_time
