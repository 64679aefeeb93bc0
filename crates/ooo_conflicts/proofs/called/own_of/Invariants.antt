-- The set has those of the events so far that are of type sc_event.
use Rattle.std.proofs.Common.{take}
use Rattle.std.specs.Prelude.{slice_get}
use Rattle.ooo_code.specs.Sound.{IsOwn}
use Rattle.ooo_conflicts.proofs.SetLemmas.{HasThose}
use Rattle.ooo_conflicts.proofs.called.own_of.Given as goal

abbrev pub invariant-loop-e : goal.invariant-loop-e
invariant-loop-e l = HasThose (λ e. IsOwn (slice_get l.events e)) (take l.e-index l.called) l.own
