-- What the words ask for.
use Rattle.std.specs.Prelude.{ℕ, ◌+◌, Bool, true, false, List, Result, Ok, Err, map, string_bytes, String}
use Rattle.ooo_words.specs.declared.command.Command.{Command}
use Rattle.ooo_words.specs.declared.command.Command.TheVariants as command
use Rattle.ooo_words.specs.declared.refused.WordsError.{WordsError}
use Rattle.ooo_words.specs.Limits.{AreWithinLimits, IsBetween, most_items, most_seed, most_stages, most_workers}
use Rattle.ooo_words.specs.Reading.{reading}
use Rattle.ooo_sim.specs.declared.outcome.Refusal.TheVariants as refusal
use Rattle.ooo_sim.specs.declared.request.Request.{Request}
use Rattle.ooo_sim.specs.declared.request.Request.TheVariants as request
use Rattle.ooo_sim.specs.declared.request.Told.TheVariants as tell
use Rattle.ooo_sim.specs.declared.request.Wanted.{Wanted}
use Rattle.ooo_sim.specs.declared.request.Wanted.TheVariants as wanted
use Rattle.ooo_lexer.specs.declared.position.TheConstants.{MOST_BYTES}

-- the words as their bytes
abbrev pub words_of : {A : Type 0} → List (String A) → List (List ℕ)
words_of words = map string_bytes words

-- what a command asks for
abbrev pub request_for : Result Command WordsError → Request
request_for (Err e) = request.Refused (refusal.Words e)
request_for (Ok (command.Plain options)) = request.OfText (wanted.Run tell.Report options)
request_for (Ok (command.Run options workers)) = request.Run options workers
request_for (Ok command.Check) = request.OfText wanted.Counts
request_for (Ok command.Tables) = request.OfText wanted.Tables
request_for (Ok (command.Bench stages items seed workers)) = request.Bench stages items seed workers

-- what the words ask for, read from left to right
abbrev pub request_of : List (List ℕ) → Request
request_of words = request_for (reading words)

-- how many bytes of its source a request reads: one more than a source may have, or none
abbrev pub bytes_wanted : Request → ℕ
bytes_wanted (request.OfText w) = MOST_BYTES + 1
bytes_wanted (request.Run options workers) = MOST_BYTES + 1
bytes_wanted (request.Bench stages items seed workers) = 0
bytes_wanted (request.Refused why) = 0

-- a command that takes the option workers
abbrev pub takes_workers : Result Command WordsError → Bool
takes_workers (Ok (command.Run options workers)) = true
takes_workers (Ok (command.Bench stages items seed workers)) = true
takes_workers _ = false

-- what only such a command asks for
abbrev pub needs_workers : Request → Bool
needs_workers (request.Run options workers) = true
needs_workers (request.Bench stages items seed workers) = true
needs_workers _ = false

-- what is asked of a text is in range
abbrev pub IsInRange : Wanted → Type 0
IsInRange (wanted.Run told options) = AreWithinLimits options
IsInRange _ = Unit {0}

abbrev pub AsksInRange : Request → Type 0
AsksInRange (request.OfText w) = IsInRange w
AsksInRange (request.Run options workers) = AreWithinLimits options × IsBetween 1 most_workers workers
AsksInRange (request.Bench stages items seed workers) =
    IsBetween 1 most_stages stages × IsBetween 1 most_items items
    × IsBetween 0 most_seed seed × IsBetween 1 most_workers workers
AsksInRange (request.Refused why) = Unit {0}
