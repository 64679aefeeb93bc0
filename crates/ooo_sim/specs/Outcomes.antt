-- How calls end, and the number of each status.
use Rattle.std.specs.Prelude.{ℕ, Bool, true, false}
use Rattle.ooo_sim.specs.declared.outcome.Failure.{Failure}
use Rattle.ooo_sim.specs.declared.outcome.Failure.TheVariants as failure
use Rattle.ooo_sim.specs.declared.outcome.Outcome.{Outcome}
use Rattle.ooo_sim.specs.declared.outcome.Outcome.TheVariants as outcome
use Rattle.ooo_sim.specs.declared.outcome.Refusal.{Refusal}
use Rattle.ooo_sim.specs.declared.outcome.Refusal.TheVariants as refusal
use Rattle.ooo_sim.specs.declared.outcome.Verdict.{Verdict}
use Rattle.ooo_sim.specs.declared.outcome.Verdict.TheVariants as verdict

-- the words are refused, or the text is, or it is too long
abbrev pub refusal_number : Refusal → ℕ
refusal_number (refusal.Words e) = 2
refusal_number refusal.StopMissing = 2
refusal_number (refusal.Text why) = 3
refusal_number refusal.TooLong = 8

abbrev pub verdict_number : Verdict → ℕ
verdict_number verdict.Done = 0
verdict_number verdict.Faulted = 1
verdict_number verdict.LimitReached = 7
verdict_number (verdict.Refused why) = refusal_number why

abbrev pub failure_number : Failure → ℕ
failure_number failure.Source = 4
failure_number failure.Sink = 5
failure_number failure.OutOfMemory = 6

-- the number with which the program ends
abbrev pub number_of : Outcome → ℕ
number_of (outcome.Replied v) = verdict_number v
number_of (outcome.Failed f) = failure_number f

-- what was asked for isn't refused
abbrev pub is_granted : Verdict → Bool
is_granted (verdict.Refused why) = false
is_granted _ = true
