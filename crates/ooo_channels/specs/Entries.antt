-- Entries of the history of a channel.
use Rattle.std.specs.Prelude.{Bool, true, List, filter, Option, Some, None}
use Rattle.ooo_time.specs.declared.stamp.Stamp.{Stamp}
use Rattle.ooo_time.specs.Stamps.{is_before}
use Rattle.ooo_value.specs.declared.values.Value.{Value}
use Rattle.ooo_history.specs.declared.run.Entry.{Entry}
use Rattle.ooo_history.specs.declared.run.What.TheVariants.{Took, Put}

-- the entry of a value that is read
abbrev pub took_entry : Stamp → Value → Entry
took_entry s v = record { stamp = s; what = Took; value = v }

-- the entry of a value that is written
abbrev pub put_entry : Stamp → Value → Entry
put_entry s v = record { stamp = s; what = Put; value = v }

-- a stamp is before another one, if there is one
abbrev pub is_within : (before : Option Stamp) → Stamp → Bool
is_within None s = true
is_within (Some end) s = is_before s end

-- the entries of a history that are before a stamp, or all where there is none
abbrev pub entries_before : (before : Option Stamp) → List Entry → List Entry
entries_before before es = filter (λ e. is_within before e.stamp) es
