-- What the words hold is the first breach of what is left, after the options met.
use Rattle.std.proofs.Common.{◌≡◌, [], map, length}
use Rattle.std.specs.String.{string_bytes}
use Rattle.ooo_words.specs.Options.{option_word}
use Rattle.ooo_words.specs.Reading.{first_breach, settings_of}
use Rattle.ooo_words.proofs.breach.check_settings.Given as goal

abbrev pub invariant-loop-setting : goal.invariant-loop-setting
invariant-loop-setting l = first_breach l.command [] (settings_of (map string_bytes l.words))
    ≡ first_breach l.command (map option_word l.met.items) (settings_of (map string_bytes l.rest))

abbrev pub decreases-loop-setting : goal.decreases-loop-setting
decreases-loop-setting l = length l.rest
