-- The summary of a run.
use Rattle.std.specs.Prelude.{ℕ, ◌%◌, ◌^◌, List, ◌++◌, codes, decimal, length}
use Rattle.std.specs.List.{sum, sum_by}
use Rattle.ooo_value.specs.declared.naming.Names.{Names}
use Rattle.ooo_history.specs.declared.run.Run.{Run}
use Rattle.ooo_history.specs.declared.run.Entry.{Entry}
use Rattle.ooo_history.specs.Reporting.{end_text, output_text}
use Rattle.ooo_meaning.specs.Sequence.{Result, output_of}

-- how many entries the histories of the channels have
abbrev pub entry_count : List (List Entry) → ℕ
entry_count channels = sum_by (λ entries. length entries) channels

-- the sum of these bytes, modulo 2^32
abbrev pub byte_sum : List ℕ → ℕ
byte_sum bytes = sum bytes % 2 ^ 32

-- the two lines: the numbers, and how the run ended
abbrev pub summary_lines : (activations entries printed : ℕ) → (ending : List ℕ) → List ℕ
summary_lines activations entries printed ending =
    codes "activations " ++ decimal activations ++ codes " entries " ++ decimal entries
    ++ codes " sum " ++ decimal printed ++ codes "\n" ++ ending ++ codes "\n"

-- the summary of a run
abbrev pub summary_text : Run → Names → List ℕ
summary_text run names =
    summary_lines run.activations (entry_count run.channels) (byte_sum (output_text run.pieces)) (end_text names.processes run.end)

-- the summary of what a run gives
abbrev pub summary_of : Names → Result → List ℕ
summary_of names r =
    summary_lines (length r.made) (entry_count r.histories) (byte_sum (output_of r)) (end_text names.processes r.end)
