-- The loop compares the options as they are written.
use Rattle.std.proofs.Common.{◌≡◌, ◌∙◌, ◌||◌, Bool, List, [], ◌∷◌, map, refl, ap, rules, tests}
use Rattle.std.proofs.lemmas.Iterator.{YieldsList-from_slice}
use Rattle.std.proofs.lemmas.Iterator.Search.{any_from_yields_List}
use Rattle.std.specs.List.{list_any}
use Rattle.std.specs.Str.{bytes_eq}
use Rattle.ooo_words.specs.Options.{Text, option_word}
use Rattle.ooo_words.specs.declared.options.OptionName.{OptionName}
use Rattle.ooo_words.proofs.breach.is_among.Goals as goal

list_any-map : (test : Text → Bool) (met : List OptionName)
    → list_any (λ other. test (option_word other)) met ≡ list_any test (map option_word met)
list_any-map test [] = refl
list_any-map test (other ∷ met) = ap (λ rest. test (option_word other) || rest) (list_any-map test met)

pub returns : goal.returns
returns c =
    let word = option_word c.args.option in
    let found = any_from_yields_List (λ other. bytes_eq (option_word other) word) _ _ c.any.result c.any.ensures.ran (YieldsList-from_slice c.args.met.now cc) (λ x b q k. search (rules, tests)) in
    found ∙ list_any-map (λ other. bytes_eq other word) c.args.met.now
