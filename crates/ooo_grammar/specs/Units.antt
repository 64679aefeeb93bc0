-- `sc_main` and whole texts.
use Rattle.std.specs.Prelude.{true, false, List, [], ◌∷◌, Option, refl}
use Rattle.ooo_syntax.specs.declared.terminal.Terminal.TheVariants as terminal
use Rattle.ooo_syntax.specs.declared.symbol.Mark.{Mark}
use Rattle.ooo_syntax.specs.declared.leaves.Word.{Word}
use Rattle.ooo_syntax.specs.declared.leaves.Number.{Number}
use Rattle.ooo_syntax.specs.declared.unit.Library.{Library}
use Rattle.ooo_syntax.specs.declared.unit.Library.TheVariants as library
use Rattle.ooo_syntax.specs.declared.unit.UnitItem.{UnitItem}
use Rattle.ooo_syntax.specs.declared.unit.UnitItem.TheVariants as unit_form
use Rattle.ooo_syntax.specs.declared.leaves.TypeName.{TypeName}
use Rattle.ooo_syntax.specs.declared.module.ChannelWord.{ChannelWord}
use Rattle.ooo_syntax.specs.declared.unit.MainItem.{MainItem}
use Rattle.ooo_syntax.specs.declared.unit.MainItem.TheVariants as main_form
use Rattle.ooo_syntax.specs.declared.unit.MainValues.{MainValues}
use Rattle.ooo_syntax.specs.declared.unit.MainValues.TheVariants as values_form
use Rattle.ooo_syntax.specs.declared.unit.StartForm.{StartForm}
use Rattle.ooo_syntax.specs.declared.unit.StartForm.TheVariants as start_form
use Rattle.ooo_syntax.specs.declared.unit.Main.{Main}
use Rattle.ooo_syntax.specs.declared.unit.Unit.{Unit as UnitSpec}
use Rattle.ooo_grammar.specs.Sets.{Terminals}
use Rattle.ooo_grammar.specs.Names.{names, begins_expr}
use Rattle.ooo_grammar.specs.Codes.{Code, pair, choice, within, deeper}
use Rattle.ooo_grammar.specs.Combinators.{none, always, quoted, Table, terminals_of, table, skip, skip_inside, led, ended, in_parens, in_braces, to, optional, separated, repeated, gathered}
use Rattle.ooo_grammar.specs.Lexis.{word, literal, text}
use Rattle.ooo_grammar.specs.Expressions.{row}
use Rattle.ooo_grammar.specs.Times.{timed}
use Rattle.ooo_grammar.specs.Members.{some_args, constant, of_type, channel_table, binding, module_form}

-- ---- the parameters of `sc_main`

-- "*" [word] ")" | [word] "[" "]" ")", after `char *`
unfoldable pub main_values : Code MainValues (terminal.Star ∷ terminal.OpenBracket ∷ names) none false
main_values = within _ _ (choice (pair (deeper (quoted terminal.Star)) (λ _. to (λ w. values_form.Pointer w) (ended terminal.Close (deeper (optional word)) refl)) refl)
    (pair (deeper (optional word)) (λ w. skip_inside terminal.OpenBracket (skip_inside terminal.CloseBracket (to (λ _. values_form.Array w) (quoted terminal.Close)))) refl) refl) refl (λ _. refl)

-- "(" "int" [word] "," "char" "*" …, before the values
unfoldable pub main_count : Code (Option Word) (terminal.Open ∷ []) none false
main_count = skip terminal.Open (deeper (skip terminal.Int (pair (optional word) (λ w. skip terminal.Comma (skip terminal.Char (to (λ _. w) (quoted terminal.Star)))) refl)))

-- ---- the declarations of `sc_main`

-- word ["(" args ")"], after what the channel is and its type
unfoldable pub main_channel : ChannelWord → TypeName → Code MainItem names (always (terminal.Open ∷ [])) false
main_channel c t = pair word (λ w. to (λ xs. main_form.Channel (record { channel = c; form = t; name = w; args = xs })) (optional some_args)) refl

-- ("sc_signal" | "sc_fifo") "<" type ">" word ["(" args ")"] {"," word ["(" args ")"]} ";"
unfoldable pub main_channels : Code (List MainItem) (terminals_of channel_table) none false
main_channels = pair (table channel_table) (λ c. pair of_type (λ t. ended terminal.Semicolon (separated terminal.Comma (main_channel c t) refl) refl) refl) refl

-- "(" text "," time ")", after the clock's word
unfoldable pub clock_tail : Mark → Word → Code MainItem (terminal.Open ∷ []) none false
clock_tail k w = in_parens (deeper (pair text (λ x. skip terminal.Comma (to (λ t. main_form.Clock k.position w x t) timed)) refl)) refl

-- word "(" text "," time ")", after `sc_clock`
unfoldable pub clock : Mark → Code MainItem names none false
clock k = pair word (clock_tail k) refl

-- "sc_clock" word "(" text "," time ")" {"," word "(" text "," time ")"} ";"
unfoldable pub clocks : Code (List MainItem) (terminal.ScClock ∷ []) none false
clocks = led terminal.ScClock (λ k. ended terminal.Semicolon (separated terminal.Comma (clock k) refl) refl)

-- word "(" args ")", after the module's word
unfoldable pub instance_of : Word → Code MainItem names none false
instance_of m = pair word (λ w. to (λ xs. main_form.Instance m w xs) some_args) refl

-- word "(" args ")" {"," word "(" args ")"} ";", after the module's word
unfoldable pub instances_of : Word → Code (List MainItem) names none false
instances_of m = ended terminal.Semicolon (separated terminal.Comma (instance_of m) refl) refl

-- decl = constant | ("sc_signal" | "sc_fifo") "<" type ">" word ["(" args ")"] {"," word ["(" args ")"]} ";"
--     | "sc_clock" word "(" text "," time ")" {"," word "(" text "," time ")"} ";" | word word "(" args ")" {"," word "(" args ")"} ";", and bind
unfoldable pub main_entry : Code (List MainItem) (terminal.Static ∷ terminal.Const ∷ terminal.ScSignal ∷ terminal.ScFifo ∷ terminal.ScClock ∷ names) none false
main_entry = choice (to (λ c. main_form.Constant c ∷ []) constant) (choice main_channels (choice clocks
    (pair word (λ w. choice (instances_of w) (to (λ b. main_form.Bind b ∷ []) (binding w)) refl) refl) refl) refl) refl

-- [time] ")", after `sc_start (`
unfoldable pub start_tail : Mark → Code StartForm (terminal.Close ∷ terminal.ScZeroTime ∷ terminal.ScTime ∷ begins_expr) none false
start_tail k = choice (to (λ _. start_form.Open k.position) (quoted terminal.Close)) (to (λ t. start_form.Limited k.position t) (ended terminal.Close (deeper timed) refl)) refl

-- "sc_start" "(" [time] ")" ";"
unfoldable pub start : Code StartForm (terminal.ScStart ∷ []) none false
start = led terminal.ScStart (λ k. skip terminal.Open (ended terminal.Semicolon (start_tail k) refl))

-- "return" number ";"
unfoldable pub returned : Code Number (terminal.Return ∷ []) none false
returned = skip terminal.Return (ended terminal.Semicolon literal refl)

-- ---- `sc_main` and the file

-- {decl | bind} ["sc_start" "(" [time] ")" ";"] ["return" number ";"]
unfoldable pub main_parts : Option Word → MainValues → Code Main (terminal.Static ∷ terminal.Const ∷ terminal.ScSignal ∷ terminal.ScFifo ∷ terminal.ScClock ∷ terminal.ScStart ∷ terminal.Return ∷ names)
    (always (terminal.Static ∷ terminal.Const ∷ terminal.ScSignal ∷ terminal.ScFifo ∷ terminal.ScClock ∷ terminal.ScStart ∷ terminal.Return ∷ names)) true
main_parts c v = within _ _ (pair (gathered main_entry refl) (λ xs. pair (optional start) (λ s. to (λ r. record { count = c; values = v; items = xs; start = s; returned = r }) (optional returned)) refl) refl) refl (λ _. refl)

-- mbody = "{" {decl | bind} ["sc_start" "(" [time] ")" ";"] ["return" number ";"] "}"
unfoldable pub main_body : Option Word → MainValues → Code Main (terminal.OpenBrace ∷ []) none false
main_body c v = in_braces (deeper (main_parts c v)) refl

-- main = "int" "sc_main" "(" "int" [word] "," "char" "*" [word] "[" "]" ")" mbody | "int" "sc_main" "(" "int" [word] "," "char" "*" "*" [word] ")" mbody
unfoldable pub main : Code Main (terminal.Int ∷ []) none false
main = skip terminal.Int (skip terminal.ScMain (pair main_count (λ c. pair main_values (main_body c) refl) refl))

-- "sc_core" | "sc_dt" | "std"
abbrev pub library_table : Table Library
library_table = record { first = row terminal.ScCore library.ScCore; others = row terminal.ScDt library.ScDt ∷ row terminal.Std library.Std ∷ [] }

-- using = "using" "namespace" ("sc_core" | "sc_dt" | "std") ";"
unfoldable pub using_form : Code Library (terminal.Using ∷ []) none false
using_form = skip terminal.Using (skip terminal.Namespace (ended terminal.Semicolon (table library_table) refl))

-- using | constant | module
unfoldable pub unit_item : Code UnitItem (terminal.Using ∷ terminal.ScModule ∷ terminal.Static ∷ terminal.Const ∷ []) none false
unit_item = choice (to (λ l. unit_form.Using l) using_form) (choice (to (λ m. unit_form.Module m) module_form) (to (λ c. unit_form.Constant c) constant) refl) refl

abbrev pub begins_unit : Terminals
begins_unit = terminal.Using ∷ terminal.ScModule ∷ terminal.Static ∷ terminal.Const ∷ terminal.Int ∷ []

-- unit = { using | constant | module } main
unfoldable pub unit : Code UnitSpec begins_unit none false
unit = within _ _ (pair (repeated unit_item refl) (λ xs. to (λ m. record { items = xs; main = m }) main) refl) refl (λ _. refl)
