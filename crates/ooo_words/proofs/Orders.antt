-- Words that write settings are read xs those settings, in any order.
use Rattle.std.proofs.Common.{◌≡◌, ◌+◌, ◌≤◌, ◌<◌, ◌||◌, ℕ, suc, zero, Bool, true, false, cond, List, [], ◌∷◌, ◌++◌, map, sym, refl, ap, ap₂, subst, inl, inr, ◌∙◌, Option, Some, None, option_and_then, unwrap_or, Ok, Err, arith}
use Rattle.std.specs.Prelude.{All, IsPermutation, find, codes}
use Rattle.std.specs.List.{list_any, sum_by}
use Rattle.std.specs.Str.{bytes_eq}
use Rattle.std.proofs.lemmas.Bool.{false≢true}
use Rattle.std.proofs.lemmas.List.Elements.{All-nil, All-cons, All-head, All-tail}
use Rattle.std.proofs.lemmas.List.Folds.{list_any-append}
use Rattle.std.proofs.lemmas.List.Sorted.{All-permutation, sum_by-IsPermutation}
use Rattle.std.proofs.lemmas.List.Sums.{sum_by-cons}
use Rattle.std.proofs.lemmas.Slice.Eq.{bytes_eq-Decides}
use Rattle.ooo_words.specs.declared.command.Command.{Command}
use Rattle.ooo_words.specs.declared.command.RunOptions.{RunOptions}
use Rattle.ooo_words.specs.declared.command.Command.TheVariants as command
use Rattle.ooo_words.specs.declared.options.CommandName.{CommandName}
use Rattle.ooo_words.specs.declared.options.CommandName.TheVariants as name
use Rattle.ooo_words.specs.declared.options.OptionName.{OptionName}
use Rattle.ooo_words.specs.declared.options.OptionName.TheVariants.{Stop, Workers, Deltas, Statements, Stages, Items, Seed}
use Rattle.ooo_words.specs.declared.refused.WordsBreach.TheVariants.{BadValue, Twice}
use Rattle.ooo_words.specs.declared.refused.WordsError.{WordsError}
use Rattle.ooo_words.specs.Laws.{Begins, Given, IsReadInAnyOrder, IsReadOneWay, Writes}
use Rattle.ooo_words.specs.Limits.{default_workers, default_deltas, default_statements, default_stages, default_items, default_seed}
use Rattle.ooo_words.specs.Numbers.{number_of, time_of}
use Rattle.ooo_words.specs.Options.{Text, command_named, option_word}
use Rattle.ooo_words.specs.Reading.{Setting, breach_of, breach_or, command_of, first_breach, given, is_equals, is_met, joined_setting, option_breach, reading, reading_of, refused_with, run_options, settings_of, unless_breached, value_breach}
use Rattle.ooo_words.proofs.Parses.{Fine, breaches_of, fine, same_bytes, setting_for}

-- ---- the words of settings

apart : (option : OptionName) (value : Text) (rest : List Text)
    → settings_of (option_word option ∷ value ∷ rest) ≡ setting_for (option, value) ∷ settings_of rest
apart Stop value rest = refl
apart Workers value rest = refl
apart Deltas value rest = refl
apart Statements value rest = refl
apart Stages value rest = refl
apart Items value rest = refl
apart Seed value rest = refl

has_equals : (option : OptionName) (value : Text) → list_any is_equals (option_word option ++ codes "=" ++ value) ≡ true
has_equals Stop value = refl
has_equals Workers value = refl
has_equals Deltas value = refl
has_equals Statements value = refl
has_equals Stages value = refl
has_equals Items value = refl
has_equals Seed value = refl

splits : (option : OptionName) (value : Text) → joined_setting (option_word option ++ codes "=" ++ value) ≡ setting_for (option, value)
splits Stop value = refl
splits Workers value = refl
splits Deltas value = refl
splits Statements value = refl
splits Stages value = refl
splits Items value = refl
splits Seed value = refl

first_joined : (word : Text) (rest : List Text) → list_any is_equals word ≡ true
    → settings_of (word ∷ rest) ≡ joined_setting word ∷ settings_of rest
first_joined word [] has = ap (λ b. cond b (joined_setting word) (record { option = word; value = None }) ∷ []) has
first_joined word (next ∷ rest) has =
    ap (λ b. cond b (joined_setting word ∷ settings_of (next ∷ rest)) (record { option = word; value = Some next } ∷ settings_of rest)) has

begun : (a : Given) (rest words : List Text) → Begins a rest words → settings_of words ≡ setting_for a ∷ settings_of rest
begun a rest words begins = elim begins as (λ _. settings_of words ≡ setting_for a ∷ settings_of rest) [
  | inl e ↦ ap settings_of e ∙ apart a.0 a.1 rest
  | inr e ↦ ap settings_of e ∙ first_joined (option_word a.0 ++ codes "=" ++ a.1) rest (has_equals a.0 a.1) ∙ ap (λ s. s ∷ settings_of rest) (splits a.0 a.1)
]

written : (settings : List Given) (words : List Text) → Writes settings words → settings_of words ≡ map setting_for settings
written [] words w = ap settings_of w
written (a ∷ settings) words w = begun a w.0 words w.1 ∙ ap (λ ss. setting_for a ∷ ss) (written settings w.0 w.2)

pub one_writing : IsReadOneWay
one_writing command settings words others w o =
    ap (reading_of command (command_named command)) (written settings words w ∙ sym (written settings others o))

-- ---- how often an option is given

same : OptionName → Given → ℕ
same o a = cond (bytes_eq (option_word a.0) (option_word o)) 1 0

abbrev count : OptionName → List Given → ℕ
count o = sum_by (same o)

count_more : (o : OptionName) (a : Given) (xs : List Given) (b : Bool) → bytes_eq (option_word a.0) (option_word o) ≡ b
    → count o (a ∷ xs) ≡ cond b 1 0 + count o xs
unfolding same
count_more o a xs b is = sum_by-cons (same o) a xs ∙ ap (λ t. cond t 1 0 + count o xs) is

met_more : (o : OptionName) (earlier : List Text) (word : Text)
    → is_met (option_word o) (earlier ++ word ∷ []) ≡ (is_met (option_word o) earlier || (bytes_eq word (option_word o) || false))
met_more o earlier word = list_any-append (λ w. bytes_eq w (option_word o)) earlier (word ∷ [])

-- ---- settings without a breach, one by one

abbrev Good : CommandName → Given → Type 0
Good c a = breach_of c [] (setting_for a) ≡ None

none_of : (c : CommandName) (earlier : List Text) (s : Setting) → Fine c earlier s → breach_of c earlier s ≡ None
none_of c earlier s f =
    ap (option_breach earlier s) f.named
    ∙ ap (λ b. cond b (Some (refused_with Twice s.option)) (value_breach f.name s.option s.value)) f.fresh
    ∙ ap (value_breach f.name s.option) f.has
    ∙ ap (λ b. cond b None (Some (refused_with BadValue s.option))) f.takes

moved : (c : CommandName) (earlier later : List Text) (s : Setting) → breach_of c earlier s ≡ None
    → is_met s.option later ≡ false → breach_of c later s ≡ None
moved c earlier later s none fresh =
    let f = fine c earlier s none in
    none_of c later s (record { name = f.name; text = f.text; named = f.named; fresh = fresh; has = f.has; takes = f.takes })

none_left : (c : CommandName) (xs : List Given) (earlier : List Text) (o : OptionName)
    → first_breach c earlier (map setting_for xs) ≡ None → is_met (option_word o) earlier ≡ true → count o xs ≡ 0
none_left c [] earlier o none met = refl
none_left c (a ∷ xs) earlier o none met =
    by_same (λ still. none_left c xs (earlier ++ option_word a.0 ∷ []) o (breaches_of _ _ none).1 still) (bytes_eq (option_word a.0) (option_word o)) refl where
      by_same : (is_met (option_word o) (earlier ++ option_word a.0 ∷ []) ≡ true → count o xs ≡ 0)
          → (b : Bool) → bytes_eq (option_word a.0) (option_word o) ≡ b → count o (a ∷ xs) ≡ 0
      by_same more true is =
          let one : option_word a.0 ≡ option_word o = (bytes_eq-Decides _ _).0 is in
          let fresh = (fine c earlier (setting_for a) (breaches_of _ _ none).0).fresh in
          absurd (false≢true (sym fresh ∙ ap (λ w. is_met w earlier) one ∙ met))
      by_same more false is =
          let rest = more
          (met_more o earlier (option_word a.0) ∙ ap (λ b. b || (bytes_eq (option_word a.0) (option_word o) || false)) met) in
          let counts = count_more o a xs false is in
          omega arith

once : (c : CommandName) (xs : List Given) (earlier : List Text) (o : OptionName)
    → first_breach c earlier (map setting_for xs) ≡ None → count o xs ≤ 1
once c [] earlier o none = omega arith
once c (a ∷ xs) earlier o none =
    by_same (once c xs (earlier ++ option_word a.0 ∷ []) o (breaches_of _ _ none).1) (bytes_eq (option_word a.0) (option_word o)) refl where
      or_true : (b : Bool) → (b || true) ≡ true
      or_true true = refl
      or_true false = refl

      by_same : count o xs ≤ 1 → (b : Bool) → bytes_eq (option_word a.0) (option_word o) ≡ b → count o (a ∷ xs) ≤ 1
      by_same rest true is =
          let none_more = none_left c xs (earlier ++ option_word a.0 ∷ []) o (breaches_of _ _ none).1
          (met_more o earlier (option_word a.0) ∙ ap (λ b. is_met (option_word o) earlier || (b || false)) is ∙ or_true _) in
          let more = count_more o a xs true is in
          omega arith
      by_same rest false is =
          let more = count_more o a xs false is in
          omega arith

all_good : (c : CommandName) (xs : List Given) (earlier : List Text)
    → first_breach c earlier (map setting_for xs) ≡ None → All (Good c) xs
all_good c [] earlier none = All-nil (Good c)
all_good c (a ∷ xs) earlier none =
    let parts = breaches_of _ _ none in
    All-cons (Good c) a xs (moved c earlier [] (setting_for a) parts.0 refl) (all_good c xs _ parts.1)

no_breach : (c : CommandName) (xs : List Given) (earlier : List Text) → All (Good c) xs
    → ((o : OptionName) → is_met (option_word o) earlier ≡ true → count o xs ≡ 0)
    → ((o : OptionName) → count o xs ≤ 1)
    → first_breach c earlier (map setting_for xs) ≡ None
no_breach c [] earlier good absent single = refl
no_breach c (a ∷ xs) earlier good absent single =
    ap₂ breach_or (moved c [] earlier (setting_for a) (All-head (Good c) a xs good) (fresh (is_met (option_word a.0) earlier) refl))
    (no_breach c xs (earlier ++ option_word a.0 ∷ []) (All-tail (Good c) a xs good) absent_more single_more) where
      fresh : (b : Bool) → is_met (option_word a.0) earlier ≡ b → is_met (option_word a.0) earlier ≡ false
      fresh false is = is
      fresh true is =
          let none = absent a.0 is in
          let more = count_more a.0 a xs true (same_bytes (option_word a.0)) in
          absurd (omega arith)

      by_same : (o : OptionName) (b : Bool) → bytes_eq (option_word a.0) (option_word o) ≡ b → (m : Bool) → is_met (option_word o) earlier ≡ m
          → (m || (b || false)) ≡ true → count o xs ≡ 0
      by_same o true is m met either =
          let more = count_more o a xs true is in
          let one = single o in
          omega arith
      by_same o false is true met either =
          let more = count_more o a xs false is in
          let none = absent o met in
          omega arith
      by_same o false is false met either = absurd (false≢true either)

      absent_more : (o : OptionName) → is_met (option_word o) (earlier ++ option_word a.0 ∷ []) ≡ true → count o xs ≡ 0
      absent_more o met = by_same o _ refl _ refl (sym (met_more o earlier (option_word a.0)) ∙ met)

      single_more : (o : OptionName) → count o xs ≤ 1
      single_more o = by_test _ refl where
        by_test : (b : Bool) → bytes_eq (option_word a.0) (option_word o) ≡ b → count o xs ≤ 1
        by_test true is =
            let more = count_more o a xs true is in
            let one = single o in
            omega arith
        by_test false is =
            let more = count_more o a xs false is in
            let one = single o in
            omega arith

-- ---- what is given for an option

-- a setting of this option gives that value
abbrev Gives : OptionName → Option Text → Given → Type 0
Gives o value a = bytes_eq (option_word a.0) (option_word o) ≡ true → value ≡ Some a.1

given_more : (o : OptionName) (a : Given) (xs : List Given) (b : Bool) → bytes_eq (option_word a.0) (option_word o) ≡ b
    → given (map setting_for (a ∷ xs)) o ≡ cond b (Some a.1) (given (map setting_for xs) o)
given_more o a xs true is =
    ap (λ b. option_and_then (λ (s : Setting). s.value) (cond b (Some (setting_for a)) (find (λ s. bytes_eq s.option (option_word o)) (map setting_for xs)))) is
given_more o a xs false is =
    ap (λ b. option_and_then (λ (s : Setting). s.value) (cond b (Some (setting_for a)) (find (λ s. bytes_eq s.option (option_word o)) (map setting_for xs)))) is

none_gives : (o : OptionName) (value : Option Text) (xs : List Given) → count o xs ≡ 0 → All (Gives o value) xs
none_gives o value [] none = All-nil (Gives o value)
none_gives o value (a ∷ xs) none = by_same (none_gives o value xs) (bytes_eq (option_word a.0) (option_word o)) refl where
  by_same : (count o xs ≡ 0 → All (Gives o value) xs)
      → (b : Bool) → bytes_eq (option_word a.0) (option_word o) ≡ b → All (Gives o value) (a ∷ xs)
  by_same go true is =
      let more = count_more o a xs true is in
      absurd (omega arith)
  by_same go false is =
      let more = count_more o a xs false is in
      let rest : count o xs ≡ 0 = omega arith in
      All-cons (Gives o value) a xs (λ yes. absurd (false≢true (sym is ∙ yes))) (go rest)

all_give : (o : OptionName) (xs : List Given) → count o xs ≤ 1 → All (Gives o (given (map setting_for xs) o)) xs
all_give o [] single = All-nil (Gives o None)
all_give o (a ∷ xs) single = by_same (all_give o xs) (bytes_eq (option_word a.0) (option_word o)) refl where
  at : (value : Option Text) → given (map setting_for (a ∷ xs)) o ≡ value → Gives o value a → All (Gives o value) xs
      → All (Gives o (given (map setting_for (a ∷ xs)) o)) (a ∷ xs)
  at value is here rest = subst (λ v. All (Gives o v) (a ∷ xs)) (sym is) (All-cons (Gives o value) a xs here rest)

  by_same : (count o xs ≤ 1 → All (Gives o (given (map setting_for xs) o)) xs)
      → (b : Bool) → bytes_eq (option_word a.0) (option_word o) ≡ b → All (Gives o (given (map setting_for (a ∷ xs)) o)) (a ∷ xs)
  by_same go true is =
      let more = count_more o a xs true is in
      let rest : count o xs ≡ 0 = omega arith in
      at (Some a.1) (given_more o a xs true is) (λ _. refl) (none_gives o (Some a.1) xs rest)
  by_same go false is =
      let more = count_more o a xs false is in
      let rest : count o xs ≤ 1 = omega arith in
      at (given (map setting_for xs) o) (given_more o a xs false is) (λ yes. absurd (false≢true (sym is ∙ yes))) (go rest)

given_is : (o : OptionName) (value : Option Text) (xs : List Given) → All (Gives o value) xs → (count o xs ≡ 0 → value ≡ None)
    → given (map setting_for xs) o ≡ value
given_is o value [] all nothing = sym (nothing refl)
given_is o value (a ∷ xs) all nothing =
    by_same (given_is o value xs (All-tail (Gives o value) a xs all)) (bytes_eq (option_word a.0) (option_word o)) refl where
      by_same : ((count o xs ≡ 0 → value ≡ None) → given (map setting_for xs) o ≡ value)
          → (b : Bool) → bytes_eq (option_word a.0) (option_word o) ≡ b → given (map setting_for (a ∷ xs)) o ≡ value
      by_same go true is = given_more o a xs true is ∙ sym (All-head (Gives o value) a xs all is)
      by_same go false is =
          let more = count_more o a xs false is in
          given_more o a xs false is ∙ go (λ none. nothing (omega arith))

none_given : (o : OptionName) (xs : List Given) → count o xs ≡ 0 → given (map setting_for xs) o ≡ None
none_given o xs none = given_is o None xs (none_gives o None xs none) (λ _. refl)

same_given : (o : OptionName) (xs ys : List Given) → IsPermutation xs ys → count o xs ≤ 1
    → given (map setting_for xs) o ≡ given (map setting_for ys) o
same_given o xs ys permuted single =
    let counts = sum_by-IsPermutation (same o) xs ys permuted in
    let all = All-permutation (Gives o (given (map setting_for xs) o)) xs ys permuted (all_give o xs single) in
    sym (given_is o (given (map setting_for xs) o) ys all (λ none. none_given o xs (sym counts ∙ none)))

-- ---- the command

abbrev options_by : Option Text → Option Text → Option Text → RunOptions
options_by stop deltas statements = record {
  stop = option_and_then time_of stop;
  deltas = unwrap_or (option_and_then (number_of Deltas) deltas) default_deltas;
  statements = unwrap_or (option_and_then (number_of Statements) statements) default_statements;
}

same_options : (xs ys : List Setting) → ((o : OptionName) → given xs o ≡ given ys o) → run_options xs ≡ run_options ys
same_options xs ys same =
    ap₂ (λ s d. options_by s d (given xs Statements)) (same Stop) (same Deltas) ∙ ap (options_by (given ys Stop) (given ys Deltas)) (same Statements)

same_command : (c : CommandName) (xs ys : List Setting) → ((o : OptionName) → given xs o ≡ given ys o)
    → command_of c xs ≡ command_of c ys
same_command name.Run xs ys same =
    ap₂ (λ o w. command.Run o (unwrap_or (option_and_then (number_of Workers) w) default_workers)) (same_options xs ys same) (same Workers)
same_command name.Plain xs ys same = ap command.Plain (same_options xs ys same)
same_command name.Check xs ys same = refl
same_command name.Tables xs ys same = refl
same_command name.Bench xs ys same =
    let number : ℕ → OptionName → Option Text → ℕ = λ default o text. unwrap_or (option_and_then (number_of o) text) default in
    ap₂ (λ s i. command.Bench (number default_stages Stages s) (number default_items Items i) (number default_seed Seed (given xs Seed)) (number default_workers Workers (given xs Workers))) (same Stages) (same Items)
    ∙ ap₂ (λ s w. command.Bench (number default_stages Stages (given ys Stages)) (number default_items Items (given ys Items)) (number default_seed Seed s) (number default_workers Workers w)) (same Seed) (same Workers)

reordered_reading : (c : Text) (xs ys : List Given) → IsPermutation xs ys → (found : Option CommandName) (asked : Command)
    → reading_of c found (map setting_for xs) ≡ Ok asked → reading_of c found (map setting_for ys) ≡ Ok asked
reordered_reading c xs ys permuted None asked is = absurd (cc is)
reordered_reading c xs ys permuted (Some n) asked is = by_breach (first_breach n [] (map setting_for xs)) refl is where
  by_breach : (breach : Option WordsError) → first_breach n [] (map setting_for xs) ≡ breach
      → unless_breached breach (command_of n (map setting_for xs)) ≡ Ok asked
      → unless_breached (first_breach n [] (map setting_for ys)) (command_of n (map setting_for ys)) ≡ Ok asked
  by_breach (Some e) none is = absurd (cc is)
  by_breach None none is =
      let single : (o : OptionName) → count o xs ≤ 1 = λ o. once n xs [] o none in
      let fewer : (o : OptionName) → count o ys ≤ 1 = λ o. fits o in
      let still = no_breach n ys [] (All-permutation (Good n) xs ys permuted (all_good n xs [] none)) (λ o met. absurd (false≢true met)) fewer in
      ap₂ unless_breached still (sym (same_command n (map setting_for xs) (map setting_for ys) (λ o. same_given o xs ys permuted (single o)))) ∙ is where
        fits : (o : OptionName) → count o ys ≤ 1
        fits o =
            let counts = sum_by-IsPermutation (same o) xs ys permuted in
            let few = once n xs [] o none in
            omega arith

pub any_order : IsReadInAnyOrder
any_order command settings reordered words others permuted w v asked is =
    ap (reading_of command (command_named command)) (written reordered others v)
    ∙ reordered_reading command settings reordered permuted (command_named command) asked
    (ap (reading_of command (command_named command)) (sym (written settings words w)) ∙ is)
