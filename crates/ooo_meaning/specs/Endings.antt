-- What a report needs of the sequential run of a design: each history is that of a channel, and its ending speaks of a process
-- of the design, if of any.
use Rattle.std.specs.Prelude.{◌≡◌, ℕ, List, length}
use Rattle.ooo_code.specs.declared.design.Design.{Design}
use Rattle.ooo_code.specs.declared.limits.Limits.{Limits}
use Rattle.ooo_history.specs.Reporting.{IsNamed}
use Rattle.ooo_meaning.specs.Runs.{IsSequentialRun}
use Rattle.ooo_meaning.specs.Sequence.{Result}

-- there are as many histories as channels
abbrev pub RunsHaveHistories : Type 0
RunsHaveHistories = (design : Design) (limits : Limits) (r : Result) → IsSequentialRun design limits r →
    length r.histories ≡ length design.channels

-- where each process has a name, an ending names one
abbrev pub EndingsAreNamed : Type 0
EndingsAreNamed = (design : Design) (limits : Limits) (r : Result) (names : List (List ℕ)) → IsSequentialRun design limits r →
    length names ≡ length design.processes → IsNamed r.end names
