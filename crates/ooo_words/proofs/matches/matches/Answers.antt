-- The parser is simple and takes the words, so that what it finds is what its definition says.
use Rattle.std.proofs.Common.{◌∙◌, ap, map}
use Rattle.std.specs.String.{string_bytes}
use Rattle.clap.proofs.WalkLemmas.{first_value-rows}
use Rattle.clap.specs.Matches.{found_of}
use Rattle.clap.specs.Simple.{App, is_simple, matches_of}
use Rattle.clap.specs.Takes.{takes}
use Rattle.clap.specs.Walk.{first_of}
use Rattle.ooo_words.proofs.Parses.{simple_is, takes_words, finds_given}
use Rattle.ooo_words.specs.Options.{option_text}
use Rattle.ooo_words.proofs.matches.matches.Goals as goal

pub unreachable-requires : goal.unreachable-requires
unreachable-requires c =
    let words = map string_bytes c.args.words.now in
    let taken = ap (λ (a : App). takes a words) c.in_ok-parser.ensures ∙ takes_words c.args.command words c.requires in
    c.in_default.not-OutOfMemory (c.kind.ensures ∙ c.in-Err.ensures.passes taken)

pub returns-in-Ok-clause-ok : goal.returns-in-Ok-clause-ok
returns-in-Ok-clause-ok c option =
    let words = map string_bytes c.args.words.now in
    let found = (c.in-Ok.ensures.matches (ap is_simple c.in_ok-parser.ensures ∙ simple_is c.args.command)).0 in
    first_value-rows (found_of c.in-Ok.matches) (option_text option)
    ∙ ap (first_of (option_text option)) found
    ∙ ap (λ (a : App). first_of (option_text option) (matches_of a words)) c.in_ok-parser.ensures
    ∙ finds_given c.args.command words option c.requires
