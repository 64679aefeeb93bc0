-- What `clap` makes of the words of a command whose settings have no breach.
use Rattle.std.proofs.Common.{◌≡◌, ◌+◌, ◌||◌, ◌&&◌, ◌==◌, ℕ, suc, Bool, true, false, not, cond, List, [], ◌∷◌, ◌++◌, map, length, take, drop, sym, refl, ap, ap₂, ◌∙◌, append_assoc, subst, Option, Some, None, option_and_then, find, is_some, arith}
use Rattle.std.specs.Prelude.{fold, nat_le, nat_lt, slice_get, slice_index}
use Rattle.std.proofs.lemmas.Bool.{false≢true, and_right}
use Rattle.std.proofs.lemmas.Bool.Decides.{Decides-eqb}
use Rattle.std.proofs.lemmas.List.{map-append, append-nil}
use Rattle.std.proofs.lemmas.Slice.Eq.{bytes_eq-Decides}
use Rattle.std.specs.List.{list_all, list_any, before_first, after_first}
use Rattle.std.specs.Option.{option_map_or}
use Rattle.std.specs.Str.{bytes_eq}
use Rattle.std.specs.Str.Parse.{digits_value}
use Rattle.clap.specs.Lexer.{long_of, long_of_rest, short_of_rest, strip_byte}
use Rattle.clap.specs.Simple.{App, Shape, built, entered, is_simple, matches_of, names_of, new_shape}
use Rattle.clap.specs.Takes.{built_takes, bundle_passes, default_passes, entered_passes, is_valid, flag_word_passes, long_passes, settle_passes, step_passes, takes, turn_passes, use_passes, walk_passes, word_passes}
use Rattle.clap.specs.Walk.{Held, Row, Rule, Walk, after_flag, after_step, arg_by_id, arg_by_long, at_row, finished, first_of, has_row}
use Rattle.clap.specs.Walk.{Step, idle, long_met, long_or_other, more_values, next, nothing_held, option, option_word as taken_word, reacted, reading_by, rows_after, settled, settled_rows, short_or_plain, trailing, used, used_by_id, walk_from, walked, with_default, word_met}
use Rattle.clap.specs.declared.builder.action.ArgAction.TheVariants.{Set}
use Rattle.clap.specs.declared.builder.value_parser.ValueParser.TheVariants as vp
use Rattle.clap.specs.declared.parser.matches.ValueSource.TheVariants.{CommandLine}
use Rattle.ooo_words.specs.declared.refused.WordsError.{WordsError}
use Rattle.ooo_words.specs.declared.refused.WordsBreach.TheVariants.{BadValue, Twice}
use Rattle.ooo_words.specs.declared.options.CommandName.{CommandName}
use Rattle.ooo_words.specs.declared.options.CommandName.TheVariants.{Run, Plain, Check, Tables, Bench}
use Rattle.ooo_words.specs.declared.options.OptionName.{OptionName}
use Rattle.ooo_words.specs.declared.options.OptionName.TheVariants.{Stop, Workers, Deltas, Statements, Stages, Items, Seed}
use Rattle.ooo_words.specs.Numbers.{number_within, takes_value, within}
use Rattle.ooo_words.specs.Options.{Text, command_text, option_named, option_text, option_word, options_of}
use Rattle.ooo_words.specs.Parser.{argument_of, parser_of}
use Rattle.ooo_words.specs.Reading.{Setting, breach_of, breach_or, first_breach, given, is_equals, is_met, joined_setting, option_breach, refused_with, settings_of, value_breach}

-- ---- the parser as it is built

-- an option with what building adds: it sets one value, which is any text
abbrev pub rule : OptionName → Rule
rule o = record (argument_of o) {
  action = Some Set;
  parser = Some vp.String;
  range = Some (record { start_inclusive = 1; end_inclusive = 1 });
}

abbrev pub shape : CommandName → Shape
shape command = record (new_shape (command_text command)) {
  rules = map rule (options_of command);
  disable_help_flag = true;
  disable_help_subcommand = true;
  is_built = true;
}

abbrev pub app : CommandName → App
app command = record { top = shape command; subs = [] }

built_is : (command : CommandName) → built (parser_of command) ≡ app command
built_is Run = refl
built_is Plain = refl
built_is Check = refl
built_is Tables = refl
built_is Bench = refl

pub simple_is : (command : CommandName) → is_simple (parser_of command) ≡ true
simple_is Run = refl
simple_is Plain = refl
simple_is Check = refl
simple_is Tables = refl
simple_is Bench = refl

-- ---- an option and its value, as a setting and as a row of the matches

abbrev pub Answer : Type 0
Answer = OptionName × Text

abbrev pub setting_for : Answer → Setting
setting_for a = record { option = option_word a.0; value = Some a.1 }

abbrev pub row_for : Answer → Row
row_for a = record {
  id = option_text a.0;
  values = a.1 ∷ [];
  count = None;
  source = Some CommandLine;
  reading = reading_by (rule a.0);
}

abbrev pub words_for : List Answer → List Text
words_for = map (λ a. option_word a.0)

pub same_bytes : (text : Text) → bytes_eq text text ≡ true
same_bytes text = (bytes_eq-Decides text text).1 refl

-- an option is met just where it has a row
has_row-met : (o : OptionName) (answers : List Answer)
    → is_met (option_word o) (words_for answers) ≡ has_row (option_text o) (map row_for answers)
has_row-met o [] = refl
has_row-met o (a ∷ answers) =
    ap (λ rest. bytes_eq (option_text a.0) (option_text o) || rest) (has_row-met o answers)

-- the value that is given is the one in the first row
pub given-rows : (o : OptionName) (answers : List Answer)
    → first_of (option_text o) (map row_for answers) ≡ given (map setting_for answers) o
given-rows o [] = refl
given-rows o (a ∷ answers) = step (bytes_eq (option_text a.0) (option_text o)) (given-rows o answers) where
  step : (b : Bool) → first_of (option_text o) (map row_for answers) ≡ given (map setting_for answers) o
      → option_and_then (λ (r : Row). slice_get r.values 0) (cond b (Some (row_for a)) (find (λ r. bytes_eq r.id (option_text o)) (map row_for answers)))
      ≡ option_and_then (λ (s : Setting). s.value) (cond b (Some (setting_for a)) (find (λ s. bytes_eq s.option (option_word o)) (map setting_for answers)))
  step true rest = refl
  step false rest = rest

-- ---- rows

at_step : (r : Row) (here there : Bool) (found rest out : List Row) → (here || there) ≡ false → (there ≡ false → rest ≡ out)
    → cond here found (r ∷ rest) ≡ r ∷ out
at_step r true there found rest out absent more = absurd (cc absent)
at_step r false there found rest out absent more = ap (λ rows. r ∷ rows) (more absent)

-- without a row of this id the new ones come at the end
at_row-missing : (id : Text) (change : Row → List Row) (missing rows : List Row) → has_row id rows ≡ false
    → at_row id change missing rows ≡ rows ++ missing
at_row-missing id change missing [] absent = refl
at_row-missing id change missing (r ∷ rows) absent =
    at_step r (bytes_eq r.id id) (has_row id rows) _ _ _ absent (at_row-missing id change missing rows)

used-new : (a : Answer) (rows : List Row) → has_row (option_text a.0) rows ≡ false
    → used (rule a.0) (a.1 ∷ []) rows ≡ rows ++ row_for a ∷ []
used-new a rows absent =
    ap (at_row (option_text a.0) (more_values CommandLine (a.1 ∷ [])) (row_for a ∷ []))
    (at_row-missing (option_text a.0) (λ _. []) [] rows absent ∙ append-nil rows)
    ∙ at_row-missing (option_text a.0) (more_values CommandLine (a.1 ∷ [])) (row_for a ∷ []) rows absent

use_passes-new : (a : Answer) (rows : List Row) → has_row (option_text a.0) rows ≡ false
    → use_passes false (rule a.0) (a.1 ∷ []) rows ≡ true
use_passes-new a rows absent = ap (λ b. (not b || false) && true) absent

with_defaults : (os : List OptionName) (rows : List Row) → fold with_default rows (map rule os) ≡ rows
with_defaults [] rows = refl
with_defaults (o ∷ os) rows = step (has_row (option_text o) rows) ∙ with_defaults os rows where
  step : (b : Bool) → fold with_default (cond b rows rows) (map rule os) ≡ fold with_default rows (map rule os)
  step true = refl
  step false = refl

-- ---- between two settings

-- the parse holds the rows of these answers, of which the last may be pending
pub record Holds (rs : List Rule) (answers : List Answer) (h : Held) : Type 0 where
  pub rows : settled_rows rs h.pending h.rows ≡ map row_for answers
  pub passes : settle_passes rs false h ≡ true

-- the parser has the option
pub record Knows (rs : List Rule) (o : OptionName) : Type 0 where
  pub by_long : arg_by_long rs (option_text o) ≡ Some (rule o)
  pub by_id : arg_by_id rs (option_text o) ≡ Some (rule o)

-- what has no breach: its option, of the command and not met before, and its value, which the option takes
pub record Fine (command : CommandName) (earlier : List Text) (s : Setting) : Type 0 where
  pub name : OptionName
  pub text : Text
  pub named : option_named command s.option ≡ Some name
  pub fresh : is_met s.option earlier ≡ false
  pub has : s.value ≡ Some text
  pub takes : takes_value name text ≡ true

pub fine : (command : CommandName) (earlier : List Text) (s : Setting) → breach_of command earlier s ≡ None → Fine command earlier s
fine command earlier s none = by_name (option_named command s.option) refl none where
  by_value : (o : OptionName) → option_named command s.option ≡ Some o → is_met s.option earlier ≡ false
      → (value : Option Text) → s.value ≡ value → value_breach o s.option value ≡ None → Fine command earlier s
  by_value o named fresh None has none = absurd (cc none)
  by_value o named fresh (Some text) has none = by_test (takes_value o text) refl none where
    by_test : (b : Bool) → takes_value o text ≡ b → cond b None (Some (refused_with BadValue s.option)) ≡ None → Fine command earlier s
    by_test true takes none = record { name = o; text = text; named = named; fresh = fresh; has = has; takes = takes }
    by_test false takes none = absurd (cc none)

  by_met : (o : OptionName) → option_named command s.option ≡ Some o → (b : Bool) → is_met s.option earlier ≡ b
      → cond b (Some (refused_with Twice s.option)) (value_breach o s.option s.value) ≡ None → Fine command earlier s
  by_met o named true fresh none = absurd (cc none)
  by_met o named false fresh none = by_value o named fresh s.value refl none

  by_name : (found : Option OptionName) → option_named command s.option ≡ found → option_breach earlier s found ≡ None
      → Fine command earlier s
  by_name None named none = absurd (cc none)
  by_name (Some o) named none = by_met o named (is_met s.option earlier) refl none

-- ---- the option that a word names

-- the words of two options are equal just where their names are
name_word : (p o : OptionName) (word : Text) → word ≡ option_word o → bytes_eq word (option_word p) ≡ false
    → bytes_eq (option_text p) (option_text o) ≡ false
name_word p o word is other = by_test (bytes_eq (option_text p) (option_text o)) refl where
  by_test : (b : Bool) → bytes_eq (option_text p) (option_text o) ≡ b → b ≡ false
  by_test false e = refl
  by_test true e =
      let names : option_text p ≡ option_text o = (bytes_eq-Decides _ _).0 e in
      let words : word ≡ option_word p = is ∙ ap (λ (name : Text). 45 ∷ 45 ∷ name) (sym names) in
      absurd (false≢true (sym other ∙ (bytes_eq-Decides word (option_word p)).1 words))

pub record Named (os : List OptionName) (word : Text) (o : OptionName) : Type 0 where
  pub is : word ≡ option_word o
  pub knows : Knows (map rule os) o

named : (os : List OptionName) (word : Text) (o : OptionName)
    → find (λ p. bytes_eq word (option_word p)) os ≡ Some o → Named os word o
named [] word o found = absurd (cc found)
named (p ∷ os) word o found = by_test (bytes_eq word (option_word p)) refl (named os word o) found where
  here : p ≡ o → bytes_eq word (option_word p) ≡ true → Named (p ∷ os) word o
  here same test = subst (λ q. Named (p ∷ os) word q) same (record {
    is = (bytes_eq-Decides word (option_word p)).0 test;
    knows = record {
      by_long = ap (λ b. cond (b || false) (Some (rule p)) (arg_by_long (map rule os) (option_text p))) (same_bytes (option_text p));
      by_id = ap (λ b. cond b (Some (rule p)) (arg_by_id (map rule os) (option_text p))) (same_bytes (option_text p));
    };
  })

  there : bytes_eq word (option_word p) ≡ false → Named os word o → Named (p ∷ os) word o
  there test n =
      let other = name_word p o word n.is test in
      record {
        is = n.is;
        knows = record {
          by_long = ap (λ b. cond (b || false) (Some (rule p)) (arg_by_long (map rule os) (option_text o))) other ∙ n.knows.by_long;
          by_id = ap (λ b. cond b (Some (rule p)) (arg_by_id (map rule os) (option_text o))) other ∙ n.knows.by_id;
        };
      }

  by_test : (b : Bool) → bytes_eq word (option_word p) ≡ b
      → (find (λ q. bytes_eq word (option_word q)) os ≡ Some o → Named os word o)
      → cond b (Some p) (find (λ q. bytes_eq word (option_word q)) os) ≡ Some o → Named (p ∷ os) word o
  by_test true test rest found = here (cc found) test
  by_test false test rest found = there test (rest found)

-- ---- the forms of words

-- `--name` is an option by itself
long_of-word : (o : OptionName) → long_of (option_word o) ≡ Some (option_text o, None)
long_of-word Stop = refl
long_of-word Workers = refl
long_of-word Deltas = refl
long_of-word Statements = refl
long_of-word Stages = refl
long_of-word Items = refl
long_of-word Seed = refl

no_dashes-word : (o : OptionName) → bytes_eq (option_word o) (45 ∷ 45 ∷ []) ≡ false
no_dashes-word Stop = refl
no_dashes-word Workers = refl
no_dashes-word Deltas = refl
no_dashes-word Statements = refl
no_dashes-word Stages = refl
no_dashes-word Items = refl
no_dashes-word Seed = refl

-- `--name=value` is an option and its value
long_of-joined : (o : OptionName) (value : Text) → long_of (option_word o ++ 61 ∷ value) ≡ Some (option_text o, Some value)
long_of-joined Stop value = refl
long_of-joined Workers value = refl
long_of-joined Deltas value = refl
long_of-joined Statements value = refl
long_of-joined Stages value = refl
long_of-joined Items value = refl
long_of-joined Seed value = refl

no_dashes-joined : (o : OptionName) (value : Text) → bytes_eq (option_word o ++ 61 ∷ value) (45 ∷ 45 ∷ []) ≡ false
no_dashes-joined Stop value = refl
no_dashes-joined Workers value = refl
no_dashes-joined Deltas value = refl
no_dashes-joined Statements value = refl
no_dashes-joined Stages value = refl
no_dashes-joined Items value = refl
no_dashes-joined Seed value = refl

-- a word with a `=` is what stands before it, the `=`, and what stands after it
joined_step : (x : ℕ) (word : Text) (here there : Bool) (n : ℕ) → (here ≡ true → x ≡ 61)
    → (there ≡ true → word ≡ take n word ++ 61 ∷ drop (n + 1) word) → (here || there) ≡ true
    → x ∷ word ≡ take (cond (not here) (1 + n) 0) (x ∷ word) ++ 61 ∷ drop (cond (not here) (1 + n) 0 + 1) (x ∷ word)
joined_step x word true there n is rest has = ap (λ y. y ∷ word) (is refl)
joined_step x word false there n is rest has =
    let one : suc n ≡ 1 + n = omega arith in
    let two : suc (n + 1) ≡ (1 + n) + 1 = omega arith in
    ap (λ xs. x ∷ xs) (rest has) ∙ ap₂ (λ k m. take k (x ∷ word) ++ 61 ∷ drop m (x ∷ word)) one two

joined_is : (word : Text) → list_any is_equals word ≡ true
    → word ≡ before_first is_equals word ++ 61 ∷ after_first is_equals word
joined_is [] has = absurd (false≢true has)
joined_is (x ∷ word) has =
    joined_step x word (is_equals x) (list_any is_equals word) _ ((Decides-eqb x 61).0) (joined_is word) has

-- a value that an option takes begins with no hyphen
number-hyphen : (least greatest : ℕ) (text : Text) → is_some (number_within least greatest (45 ∷ text)) ≡ false
number-hyphen least greatest text =
    let size = length (45 ∷ text) in
    let leads = not (slice_index (45 ∷ text) 0 == 48) || (size == 1) in
    ap (λ b. is_some (option_and_then (within least greatest) (cond (b && leads) (Some (digits_value 10 (45 ∷ text))) None)))
    (and_right (nat_le 1 size && nat_le size 10) false refl)

takes_value-hyphen : (o : OptionName) (text : Text) → takes_value o (45 ∷ text) ≡ false
takes_value-hyphen Stop text = refl
takes_value-hyphen Workers text = number-hyphen _ _ text
takes_value-hyphen Deltas text = number-hyphen _ _ text
takes_value-hyphen Statements text = number-hyphen _ _ text
takes_value-hyphen Stages text = number-hyphen _ _ text
takes_value-hyphen Items text = number-hyphen _ _ text
takes_value-hyphen Seed text = number-hyphen _ _ text

value_is_plain : (o : OptionName) (text : Text) → takes_value o text ≡ true → strip_byte 45 text ≡ None
value_is_plain o [] takes = refl
value_is_plain o (x ∷ text) takes = by_test (x == 45) refl where
  by_test : (b : Bool) → (x == 45) ≡ b → cond b (Some text) None ≡ None
  by_test false test = refl
  by_test true test =
      let hyphen = ap (λ y. takes_value o (y ∷ text)) ((Decides-eqb x 45).0 test) in
      absurd (false≢true (sym (takes_value-hyphen o text) ∙ sym hyphen ∙ takes))

no_dashes-plain : (text : Text) → strip_byte 45 text ≡ None → bytes_eq text (45 ∷ 45 ∷ []) ≡ false
no_dashes-plain [] plain = refl
no_dashes-plain (x ∷ text) plain = by_test (x == 45) plain where
  by_test : (b : Bool) → cond b (Some text) None ≡ None → (b && bytes_eq text (45 ∷ [])) ≡ false
  by_test true plain = absurd (cc plain)
  by_test false plain = refl

-- ---- one word of the walk

abbrev rules_of : CommandName → List Rule
rules_of command = map rule (options_of command)

abbrev walk_on : CommandName → Walk → List Text → Walk
walk_on command w words = fold (walked (rules_of command) []) w words

abbrev walk_fine : CommandName → Walk → List Text → Bool
walk_fine command w words = walk_passes (shape command) [] w words

-- the words lead from one place of the walk to another
record Leads (command : CommandName) (w after : Walk) (words rest : List Text) : Type 0 where
  walks : walk_on command w words ≡ walk_on command after rest
  passes : walk_fine command w words ≡ walk_fine command after rest

one_word : (command : CommandName) (w after : Walk) (word : Text) (rest : List Text)
    → walked (rules_of command) [] w word ≡ after → turn_passes (shape command) [] w word ≡ true
    → Leads command w after (word ∷ rest) rest
unfolding walk_passes
one_word command w after word rest goes passes = record {
  walks = ap (λ next. walk_on command next rest) goes;
  passes = ap₂ (λ here next. here && walk_fine command next rest) passes goes;
}

then_on : (command : CommandName) (a b d : Walk) (words more rest : List Text)
    → Leads command a b words more → Leads command b d more rest → Leads command a d words rest
then_on command a b d words more rest first second =
    record { walks = first.walks ∙ second.walks; passes = first.passes ∙ second.passes }

-- the walk where an option waits for its value
abbrev waiting_for : Text → Held → Walk
waiting_for id h = record (walk_from h) { waiting = option id }

-- a new option, where the parse holds the earlier answers
module _ (command : CommandName) (answers : List Answer) (h : Held) (o : OptionName) (v : Text)
    (knows : Knows (rules_of command) o) (fresh : has_row (option_text o) (map row_for answers) ≡ false)
    (holds : Holds (rules_of command) answers h) where
  still_fresh : has_row (option_text o) (settled (rules_of command) h).rows ≡ false
  still_fresh = ap (has_row (option_text o)) holds.rows ∙ fresh

  used_rows : used (rule o) (v ∷ []) (settled (rules_of command) h).rows ≡ map row_for (answers ++ (o, v) ∷ [])
  used_rows = used-new (o, v) (settled (rules_of command) h).rows still_fresh
      ∙ ap (λ rows. rows ++ row_for (o, v) ∷ []) holds.rows
      ∙ sym (map-append row_for answers ((o, v) ∷ []))

  -- `--name=value`
  abbrev joined_word : Text
  joined_word = option_word o ++ 61 ∷ v

  abbrev after_joined : Held
  after_joined = reacted (rules_of command) (rule o) (v ∷ []) h

  holds-joined : Holds (rules_of command) (answers ++ (o, v) ∷ []) after_joined
  holds-joined = record { rows = used_rows; passes = refl }

  met-joined : word_met (rules_of command) [] false idle 1 joined_word h ≡ (after_joined, next idle)
  met-joined =
      ap (λ b. cond b (h, trailing 1) (long_or_other (rules_of command) idle joined_word (long_of joined_word) h)) (no_dashes-joined o v)
      ∙ ap (λ p. long_or_other (rules_of command) idle joined_word p h) (long_of-joined o v)
      ∙ ap (λ found. after_flag (rules_of command) idle joined_word (long_met (rules_of command) found (Some v) h).0 (long_met (rules_of command) found (Some v) h).1) knows.by_long

  word_passes-joined : word_passes (shape command) [] false idle joined_word h ≡ true
  word_passes-joined =
      ap (λ b. b || flag_word_passes (rules_of command) false (long_of joined_word) joined_word h) (no_dashes-joined o v)
      ∙ ap (λ p. flag_word_passes (rules_of command) false p joined_word h) (long_of-joined o v)
      ∙ ap (λ found. long_passes (rules_of command) false found (Some v) h) knows.by_long
      ∙ ap₂ (λ a b. a && b) holds.passes (use_passes-new (o, v) (settled (rules_of command) h).rows still_fresh)

  walked-joined : walked (rules_of command) [] (walk_from h) joined_word ≡ walk_from after_joined
  unfolding walked
  walked-joined = ap (λ (met : Held × Step). after_step (rules_of command) joined_word (walk_from h) met.0 met.1) met-joined

  turn-joined : turn_passes (shape command) [] (walk_from h) joined_word ≡ true
  turn-joined =
      ap (λ (met : Held × Step). word_passes (shape command) [] false idle joined_word h && step_passes (shape command) 1 met.0 met.1) met-joined
      ∙ ap (λ b. b && true) word_passes-joined

  joined-leads : (rest : List Text) → Leads command (walk_from h) (walk_from after_joined) (joined_word ∷ rest) rest
  joined-leads rest = one_word command (walk_from h) (walk_from after_joined) joined_word rest walked-joined turn-joined

  -- `--name value`
  abbrev after_option : Held
  after_option = record (settled (rules_of command) h) { pending = Some (option_text o, []) }

  abbrev after_value : Held
  after_value = record (settled (rules_of command) h) { pending = Some (option_text o, v ∷ []) }

  holds-value : Holds (rules_of command) (answers ++ (o, v) ∷ []) after_value
  holds-value = record {
    rows = ap (λ found. used_by_id found (v ∷ []) (settled (rules_of command) h).rows) knows.by_id ∙ used_rows;
    passes = ap (λ found. option_map_or (λ a. use_passes false a (v ∷ []) (settled (rules_of command) h).rows) found true) knows.by_id
        ∙ use_passes-new (o, v) (settled (rules_of command) h).rows still_fresh;
  }

  met-option : word_met (rules_of command) [] false idle 1 (option_word o) h ≡ (after_option, next (option (option_text o)))
  met-option =
      ap (λ b. cond b (h, trailing 1) (long_or_other (rules_of command) idle (option_word o) (long_of (option_word o)) h)) (no_dashes-word o)
      ∙ ap (λ p. long_or_other (rules_of command) idle (option_word o) p h) (long_of-word o)
      ∙ ap (λ found. after_flag (rules_of command) idle (option_word o) (long_met (rules_of command) found None h).0 (long_met (rules_of command) found None h).1) knows.by_long

  word_passes-option : word_passes (shape command) [] false idle (option_word o) h ≡ true
  word_passes-option =
      ap (λ b. b || flag_word_passes (rules_of command) false (long_of (option_word o)) (option_word o) h) (no_dashes-word o)
      ∙ ap (λ p. flag_word_passes (rules_of command) false p (option_word o) h) (long_of-word o)
      ∙ ap (λ found. long_passes (rules_of command) false found None h) knows.by_long
      ∙ holds.passes

  walked-option : walked (rules_of command) [] (walk_from h) (option_word o) ≡ waiting_for (option_text o) after_option
  unfolding walked
  walked-option = ap (λ (met : Held × Step). after_step (rules_of command) (option_word o) (walk_from h) met.0 met.1) met-option

  turn-option : turn_passes (shape command) [] (walk_from h) (option_word o) ≡ true
  turn-option =
      ap (λ (met : Held × Step). word_passes (shape command) [] false idle (option_word o) h && step_passes (shape command) 1 met.0 met.1) met-option
      ∙ ap (λ b. b && true) word_passes-option

  met-value : strip_byte 45 v ≡ None
      → word_met (rules_of command) [] false (option (option_text o)) 1 v after_option ≡ (after_value, next idle)
  met-value plain =
      ap (λ b. cond b (after_option, trailing 1) (long_or_other (rules_of command) (option (option_text o)) v (long_of v) after_option)) (no_dashes-plain v plain)
      ∙ ap (λ s. long_or_other (rules_of command) (option (option_text o)) v (option_and_then long_of_rest (option_and_then (strip_byte 45) s)) after_option) plain
      ∙ ap (λ s. short_or_plain (rules_of command) (option (option_text o)) v (option_and_then short_of_rest s) after_option) plain
      ∙ ap (λ (found : Option Rule). ((taken_word found (option_text o) v after_option).0, next (taken_word found (option_text o) v after_option).1)) knows.by_id
      ∙ ap (λ b. (after_value, next (cond (nat_lt (cond b 1 0) 1) (option (option_text o)) idle))) (same_bytes (option_text o))

  word_passes-value : strip_byte 45 v ≡ None
      → word_passes (shape command) [] false (option (option_text o)) v after_option ≡ true
  word_passes-value plain =
      ap (λ b. b || flag_word_passes (rules_of command) false (long_of v) v after_option) (no_dashes-plain v plain)
      ∙ ap (λ s. flag_word_passes (rules_of command) false (option_and_then long_of_rest (option_and_then (strip_byte 45) s)) v after_option) plain
      ∙ ap (λ s. option_map_or (λ flags. bundle_passes (rules_of command) false flags after_option) (option_and_then short_of_rest s) true) plain

  walked-value : strip_byte 45 v ≡ None
      → walked (rules_of command) [] (waiting_for (option_text o) after_option) v ≡ walk_from after_value
  unfolding walked
  walked-value plain =
      ap (λ (met : Held × Step). after_step (rules_of command) v (waiting_for (option_text o) after_option) met.0 met.1) (met-value plain)

  turn-value : strip_byte 45 v ≡ None
      → turn_passes (shape command) [] (waiting_for (option_text o) after_option) v ≡ true
  turn-value plain =
      ap (λ (met : Held × Step). word_passes (shape command) [] false (option (option_text o)) v after_option && step_passes (shape command) 1 met.0 met.1) (met-value plain)
      ∙ ap (λ b. b && true) (word_passes-value plain)

  spaced-leads : strip_byte 45 v ≡ None → (rest : List Text)
      → Leads command (walk_from h) (walk_from after_value) (option_word o ∷ v ∷ rest) rest
  spaced-leads plain rest = then_on command _ _ _ _ _ rest
      (one_word command (walk_from h) (waiting_for (option_text o) after_option) (option_word o) (v ∷ rest) walked-option turn-option)
      (one_word command (waiting_for (option_text o) after_option) (walk_from after_value) v rest (walked-value plain) (turn-value plain))

-- ---- the walk over all the words

-- a setting without a breach is a new answer, and so is each one after it
record Follows (command : CommandName) (answers : List Answer) (s : Setting) (rest : List Setting) : Type 0 where
  answer : Answer
  is : s ≡ setting_for answer
  knows : Knows (rules_of command) answer.0
  fresh : has_row (option_text answer.0) (map row_for answers) ≡ false
  plain : strip_byte 45 answer.1 ≡ None
  none : first_breach command (words_for (answers ++ answer ∷ [])) rest ≡ None

pub breaches_of : (here there : Option WordsError) → breach_or here there ≡ None → (here ≡ None) × (there ≡ None)
breaches_of None there none = (refl, none)
breaches_of (Some e) there none = absurd (cc none)

follows : (command : CommandName) (answers : List Answer) (s : Setting) (rest : List Setting)
    → first_breach command (words_for answers) (s ∷ rest) ≡ None → Follows command answers s rest
follows command answers s rest none =
    let parts = breaches_of _ _ none in
    let f = fine command (words_for answers) s parts.0 in
    let n = named (options_of command) s.option f.name f.named in
    let a : Answer = (f.name, f.text) in
    record {
      answer = a;
      is = ap₂ (λ (name : Text) (value : Option Text). record { option = name; value = value }) n.is f.has;
      knows = n.knows;
      fresh = sym (has_row-met f.name answers) ∙ ap (λ (name : Text). is_met name (words_for answers)) (sym n.is) ∙ f.fresh;
      plain = value_is_plain f.name f.text f.takes;
      none = ap (λ earlier. first_breach command earlier rest)
          (map-append (λ (b : Answer). option_word b.0) answers (a ∷ []) ∙ ap (λ (name : Text). words_for answers ++ name ∷ []) (sym n.is))
          ∙ parts.1;
    }

-- the words are settings that the parse holds at the end
record Walked (command : CommandName) (answers : List Answer) (h : Held) (words : List Text) : Type 0 where
  more : List Answer
  after : Held
  settings : settings_of words ≡ map setting_for more
  holds : Holds (rules_of command) (answers ++ more) after
  leads : Leads command (walk_from h) (walk_from after) words []

extended : (command : CommandName) (answers : List Answer) (a : Answer) (h reached : Held) (words rest : List Text)
    → settings_of words ≡ setting_for a ∷ settings_of rest
    → Leads command (walk_from h) (walk_from reached) words rest
    → Walked command (answers ++ a ∷ []) reached rest → Walked command answers h words
extended command answers a h reached words rest settings leads w = record {
  more = a ∷ w.more;
  after = w.after;
  settings = settings ∙ ap (λ ss. setting_for a ∷ ss) w.settings;
  holds = subst (λ all. Holds (rules_of command) all w.after) (append_assoc answers (a ∷ []) w.more) w.holds;
  leads = then_on command _ _ _ words rest [] leads w.leads;
}

nothing : (command : CommandName) (answers : List Answer) (h : Held) → Holds (rules_of command) answers h
    → Walked command answers h []
nothing command answers h holds = record {
  more = [];
  after = h;
  settings = refl;
  holds = subst (λ all. Holds (rules_of command) all h) (sym (append-nil answers)) holds;
  leads = record { walks = refl; passes = refl };
}

walk_joined : (command : CommandName) (word : Text) (rest : List Text) → list_any is_equals word ≡ true
    → settings_of (word ∷ rest) ≡ joined_setting word ∷ settings_of rest
    → ((answers : List Answer) (h : Held) → Holds (rules_of command) answers h
    → first_breach command (words_for answers) (settings_of rest) ≡ None → Walked command answers h rest)
    → (answers : List Answer) (h : Held) → Holds (rules_of command) answers h
    → first_breach command (words_for answers) (settings_of (word ∷ rest)) ≡ None → Walked command answers h (word ∷ rest)
walk_joined command word rest has settings go answers h holds none =
    let f = follows command answers (joined_setting word) (settings_of rest) (ap (first_breach command (words_for answers)) (sym settings) ∙ none) in
    let o = f.answer.0 in
    let v = f.answer.1 in
    let name : before_first is_equals word ≡ option_word o = ap (λ (s : Setting). s.option) f.is in
    let value : Some (after_first is_equals word) ≡ Some v = ap (λ (s : Setting). s.value) f.is in
    let text : after_first is_equals word ≡ v = cc in
    let is : word ≡ option_word o ++ 61 ∷ v = joined_is word has ∙ ap₂ (λ (a b : Text). a ++ 61 ∷ b) name text in
    let leads = subst (λ w. Leads command (walk_from h) (walk_from (after_joined command answers h o v f.knows f.fresh holds)) (w ∷ rest) rest) (sym is)
    (joined-leads command answers h o v f.knows f.fresh holds rest) in
    extended command answers f.answer h _ (word ∷ rest) rest (settings ∙ ap (λ s. s ∷ settings_of rest) f.is) leads
    (go (answers ++ f.answer ∷ []) _ (holds-joined command answers h o v f.knows f.fresh holds) f.none)

walk_spaced : (command : CommandName) (word text : Text) (rest : List Text)
    → settings_of (word ∷ text ∷ rest) ≡ record { option = word; value = Some text } ∷ settings_of rest
    → ((answers : List Answer) (h : Held) → Holds (rules_of command) answers h
    → first_breach command (words_for answers) (settings_of rest) ≡ None → Walked command answers h rest)
    → (answers : List Answer) (h : Held) → Holds (rules_of command) answers h
    → first_breach command (words_for answers) (settings_of (word ∷ text ∷ rest)) ≡ None
    → Walked command answers h (word ∷ text ∷ rest)
walk_spaced command word text rest settings go answers h holds none =
    let s : Setting = record { option = word; value = Some text } in
    let f = follows command answers s (settings_of rest) (ap (first_breach command (words_for answers)) (sym settings) ∙ none) in
    let o = f.answer.0 in
    let v = f.answer.1 in
    let name : word ≡ option_word o = ap (λ (t : Setting). t.option) f.is in
    let found : Some text ≡ Some v = ap (λ (t : Setting). t.value) f.is in
    let given : text ≡ v = cc in
    let words : option_word o ∷ v ∷ rest ≡ word ∷ text ∷ rest = ap₂ (λ (a b : Text). a ∷ b ∷ rest) (sym name) (sym given) in
    let leads = subst (λ ws. Leads command (walk_from h) (walk_from (after_value command answers h o v f.knows f.fresh holds)) ws rest) words
    (spaced-leads command answers h o v f.knows f.fresh holds f.plain rest) in
    extended command answers f.answer h _ (word ∷ text ∷ rest) rest (settings ∙ ap (λ t. t ∷ settings_of rest) f.is) leads
    (go (answers ++ f.answer ∷ []) _ (holds-value command answers h o v f.knows f.fresh holds) f.none)

walk_last : (command : CommandName) (word : Text) (answers : List Answer) (h : Held)
    → Holds (rules_of command) answers h → first_breach command (words_for answers) (settings_of (word ∷ [])) ≡ None
    → (b : Bool) → list_any is_equals word ≡ b → Walked command answers h (word ∷ [])
walk_last command word answers h holds none true has =
    walk_joined command word [] has (ap (λ b. cond b (joined_setting word) (record { option = word; value = None }) ∷ []) has)
    (λ earlier held held_holds _. nothing command earlier held held_holds) answers h holds none
walk_last command word answers h holds none false has =
    let s : Setting = record { option = word; value = None } in
    let settings : settings_of (word ∷ []) ≡ s ∷ [] = ap (λ b. cond b (joined_setting word) s ∷ []) has in
    let f = follows command answers s [] (ap (first_breach command (words_for answers)) (sym settings) ∙ none) in
    let found : None ≡ Some f.answer.1 = ap (λ (t : Setting). t.value) f.is in
    absurd (cc found)

walk_two : (command : CommandName) (word text : Text) (rest : List Text)
    → ((answers : List Answer) (h : Held) → Holds (rules_of command) answers h
    → first_breach command (words_for answers) (settings_of (text ∷ rest)) ≡ None → Walked command answers h (text ∷ rest))
    → ((answers : List Answer) (h : Held) → Holds (rules_of command) answers h
    → first_breach command (words_for answers) (settings_of rest) ≡ None → Walked command answers h rest)
    → (answers : List Answer) (h : Held) → Holds (rules_of command) answers h
    → first_breach command (words_for answers) (settings_of (word ∷ text ∷ rest)) ≡ None
    → (b : Bool) → list_any is_equals word ≡ b → Walked command answers h (word ∷ text ∷ rest)
walk_two command word text rest joined spaced answers h holds none true has =
    let s : Setting = record { option = word; value = Some text } in
    walk_joined command word (text ∷ rest) has
    (ap (λ b. cond b (joined_setting word ∷ settings_of (text ∷ rest)) (s ∷ settings_of rest)) has) joined answers h holds none
walk_two command word text rest joined spaced answers h holds none false has =
    let s : Setting = record { option = word; value = Some text } in
    walk_spaced command word text rest
    (ap (λ b. cond b (joined_setting word ∷ settings_of (text ∷ rest)) (s ∷ settings_of rest)) has) spaced answers h holds none

walk_all : (command : CommandName) (words : List Text) (answers : List Answer) (h : Held)
    → Holds (rules_of command) answers h → first_breach command (words_for answers) (settings_of words) ≡ None
    → Walked command answers h words
walk_all command [] answers h holds none = nothing command answers h holds
walk_all command (word ∷ []) answers h holds none =
    walk_last command word answers h holds none (list_any is_equals word) refl
walk_all command (word ∷ text ∷ rest) answers h holds none =
    walk_two command word text rest (walk_all command (text ∷ rest)) (walk_all command rest) answers h holds none
    (list_any is_equals word) refl

-- ---- the whole parse

holds_nothing : (command : CommandName) → Holds (rules_of command) [] nothing_held
holds_nothing command = record { rows = refl; passes = refl }

-- no option has a default or is required
all_valid : (command : CommandName) (rows : List Row)
    → (list_all default_passes (rules_of command) && is_valid (shape command) rows false) ≡ true
all_valid Run rows = refl
all_valid Plain rows = refl
all_valid Check rows = refl
all_valid Tables rows = refl
all_valid Bench rows = refl

-- a walk that ended so, and was fine or not, passes
abbrev end_passes : CommandName → Walk → Bool → Bool
end_passes command w is_fine = entered_passes (app command) w.stopped
    && (is_fine && (settle_passes (rules_of command) false w.held
    && (list_all default_passes (rules_of command)
    && is_valid (shape command) (finished (rules_of command) w.held) (is_some (entered (app command) w.stopped)))))

end_is_fine : (command : CommandName) (after : Held) → settle_passes (rules_of command) false after ≡ true
    → end_passes command (walk_from after) (walk_fine command (walk_from after) []) ≡ true
unfolding walk_passes
end_is_fine command after passes =
    ap₂ (λ a b. a && b) passes (all_valid command (finished (rules_of command) after))

-- the parser takes words without a breach
pub takes_words : (command : CommandName) (words : List Text) → first_breach command [] (settings_of (drop 1 words)) ≡ None
    → takes (parser_of command) words ≡ true
takes_words command words none =
    let w = walk_all command (drop 1 words) [] nothing_held (holds_nothing command) none in
    ap₂ (λ a b. a && b) (simple_is command)
    (ap (λ a. built_takes a nothing_held (drop 1 words)) (built_is command)
    ∙ ap₂ (end_passes command) w.leads.walks w.leads.passes
    ∙ end_is_fine command w.after w.holds.passes)

-- and finds the values that they give
pub finds_given : (command : CommandName) (words : List Text) (o : OptionName)
    → first_breach command [] (settings_of (drop 1 words)) ≡ None
    → first_of (option_text o) (matches_of (parser_of command) words) ≡ given (settings_of (drop 1 words)) o
finds_given command words o none =
    let w = walk_all command (drop 1 words) [] nothing_held (holds_nothing command) none in
    ap (λ (a : App). first_of (option_text o) (rows_after a.top.rules (names_of a) (drop 1 words))) (built_is command)
    ∙ ap (λ (walk : Walk). first_of (option_text o) (finished (rules_of command) walk.held)) w.leads.walks
    ∙ ap (first_of (option_text o)) (with_defaults (options_of command) (settled (rules_of command) w.after).rows ∙ w.holds.rows)
    ∙ given-rows o w.more
    ∙ ap (λ ss. given ss o) (sym w.settings)
