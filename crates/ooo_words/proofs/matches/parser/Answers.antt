use Rattle.std.proofs.Common.{rules, ◌≡◌, ◌∙◌, ◌+◌, ◌<◌, ◌∷◌, ◌++◌, [], ℕ, List, length, sym, ap, ap₂, take, get_or, map}
use Rattle.std.proofs.lemmas.List.{map-append, take_more}
use Rattle.clap.specs.Simple.{app_of, with_rule}
use Rattle.clap.specs.Walk.{rule_of}
use Rattle.ooo_words.specs.declared.options.OptionName.{OptionName}
use Rattle.ooo_words.specs.declared.options.OptionName.TheVariants.{Stop}
use Rattle.ooo_words.specs.Parser.{argument_of, parser_with}
use Rattle.ooo_words.proofs.matches.parser.Goals as goal

arguments_more : (options : List OptionName) (i : ℕ) (d : OptionName) → i < length options
    → map argument_of (take i options) ++ argument_of (get_or options i d) ∷ [] ≡ map argument_of (take (i + 1) options)
arguments_more options i d below =
    sym (ap (map argument_of) (take_more options i d below) ∙ map-append argument_of (take i options) (get_or options i d ∷ []))

pub loop-option-preserved : goal.loop-option-preserved
loop-option-preserved c =
    let options = c.options-option-items.result.now in
    let option = get_or options c.loop-option.option-index Stop in
    let rule_is : rule_of c.long.result ≡ argument_of option = search rules in
    let one_more : app_of c.in_ok-parser.parser ≡ parser_with c.args.command (map argument_of (take c.loop-option.option-index options) ++ argument_of option ∷ [])
    = c.in_ok-parser.ensures.shape (search rules) ∙ ap₂ with_rule c.loop-option.invariant.1 rule_is in
    (c.loop-option.invariant.0, one_more ∙ ap (parser_with c.args.command) (arguments_more options c.loop-option.option-index Stop c.loop-option-test.true))
