-- The limits of the words, and what every command keeps of them.
use Rattle.std.specs.Prelude.{ℕ, ◌≤◌, Option, None, IfSome}
use Rattle.ooo_time.specs.Scales.{greatest_time}
use Rattle.ooo_time.specs.declared.time.Time.{Time}
use Rattle.ooo_words.specs.declared.command.Command.{Command}
use Rattle.ooo_words.specs.declared.command.RunOptions.{RunOptions}
use Rattle.ooo_words.specs.declared.command.Command.TheVariants.{Run, Plain, Check, Tables, Bench}

-- ---- how many digits a number of the words may have, and one of a time

abbrev pub number_digits : ℕ
number_digits = 10

abbrev pub time_digits : ℕ
time_digits = 19

-- ---- the greatest number of each option

abbrev pub most_workers : ℕ
most_workers = 64

-- delta cycles at one time
abbrev pub most_deltas : ℕ
most_deltas = 1_000_000

-- statements in one activation
abbrev pub most_statements : ℕ
most_statements = 1_000_000_000

abbrev pub most_stages : ℕ
most_stages = 200

abbrev pub most_items : ℕ
most_items = 10_000

abbrev pub most_seed : ℕ
most_seed = 4_294_967_295

-- ---- the number of each option where the words don't say

abbrev pub default_workers : ℕ
default_workers = 1

abbrev pub default_deltas : ℕ
default_deltas = 10_000

abbrev pub default_statements : ℕ
default_statements = 1_000_000

abbrev pub default_stages : ℕ
default_stages = 4

abbrev pub default_items : ℕ
default_items = 16

abbrev pub default_seed : ℕ
default_seed = 1

-- what is asked of a run where the words say nothing of it
abbrev pub by_default : RunOptions
by_default = record { stop = None; deltas = default_deltas; statements = default_statements }

-- ---- what every command keeps

-- a number of this range
pub record IsBetween (least greatest n : ℕ) : Type 0 where
  pub from : least ≤ n
  pub to : n ≤ greatest

-- the stop time is one that a model may name
abbrev pub StopsInTime : Option Time → Type 0
StopsInTime stop = IfSome stop (λ time. time.0 ≤ greatest_time)

-- what is asked of a run is in the range of each option
pub record AreWithinLimits (options : RunOptions) : Type 0 where
  pub stop : StopsInTime options.stop
  pub deltas : IsBetween 1 most_deltas options.deltas
  pub statements : IsBetween 1 most_statements options.statements

-- each number of the command is in the range of its option
abbrev pub IsWithinLimits : Command → Type 0
IsWithinLimits (Run options workers) = AreWithinLimits options × IsBetween 1 most_workers workers
IsWithinLimits (Plain options) = AreWithinLimits options
IsWithinLimits Check = Unit {0}
IsWithinLimits Tables = Unit {0}
IsWithinLimits (Bench stages items seed workers) =
    IsBetween 1 most_stages stages × IsBetween 1 most_items items
    × IsBetween 0 most_seed seed × IsBetween 1 most_workers workers
