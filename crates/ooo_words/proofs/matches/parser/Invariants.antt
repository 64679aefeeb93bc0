-- The parser has the options up to this one.
use Rattle.std.proofs.Common.{◌≡◌, map, take}
use Rattle.clap.specs.Simple.{app_of}
use Rattle.ooo_words.specs.Options.{options_of}
use Rattle.ooo_words.specs.Parser.{argument_of, parser_with}
use Rattle.ooo_words.proofs.matches.parser.Given as goal

abbrev pub invariant-loop-option : goal.invariant-loop-option
invariant-loop-option l =
    (l.option-items ≡ options_of l.fn.command) × (app_of l.parser ≡ parser_with l.fn.command (map argument_of (take l.option-index l.option-items)))
