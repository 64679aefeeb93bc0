use Rattle.std.proofs.Common.{sym, subst, drop, map}
use Rattle.std.specs.String.{string_bytes}
use Rattle.ooo_words.proofs.CommandLimits.{command_of-limits}
use Rattle.ooo_words.specs.Limits.{IsWithinLimits}
use Rattle.ooo_words.specs.Reading.{settings_of}
use Rattle.ooo_words.proofs.reader.read.Goals as goal

pub returns-clause-limits : goal.returns-clause-limits
returns-clause-limits c =
    let settings = settings_of (drop 1 (map string_bytes c.args.words.now)) in
    subst IsWithinLimits (sym (c.command_given.ensures settings c.in_ok-matches.ensures.ok)) (command_of-limits c.in-Some-named.command settings)
