-- Parts of productions that the grammar writes in one line with what stands around them.
use Rattle.std.specs.Prelude.{true, false, List, [], ◌∷◌, ◌++◌, Option, refl}
use Rattle.ooo_syntax.specs.declared.terminal.Terminal.TheVariants as terminal
use Rattle.ooo_syntax.specs.declared.symbol.Mark.{Mark}
use Rattle.ooo_syntax.specs.declared.leaves.TypeName.{TypeName}
use Rattle.ooo_syntax.specs.declared.leaves.Word.{Word}
use Rattle.ooo_syntax.specs.declared.stat.Event.{Event}
use Rattle.ooo_syntax.specs.declared.module.Arg.{Arg}
use Rattle.ooo_syntax.specs.declared.module.ChannelWord.{ChannelWord}
use Rattle.ooo_syntax.specs.declared.module.Param.{Param}
use Rattle.ooo_syntax.specs.declared.module.Init.{Init}
use Rattle.ooo_syntax.specs.declared.module.Setup.{Setup}
use Rattle.ooo_syntax.specs.declared.module.Setup.TheVariants as setup_form
use Rattle.ooo_syntax.specs.declared.unit.MainItem.{MainItem}
use Rattle.ooo_syntax.specs.declared.unit.MainItem.TheVariants as main_form
use Rattle.ooo_grammar.specs.Sets.{Terminals}
use Rattle.ooo_grammar.specs.Names.{names, type_words}
use Rattle.ooo_grammar.specs.Codes.{Code, pair, many, within, deeper}
use Rattle.ooo_grammar.specs.Combinators.{none, always, quoted, skip, led, in_parens, in_braces, to, optional, separated, listed, or_none, repeated, gathered}
use Rattle.ooo_grammar.specs.Lexis.{word, text}
use Rattle.ooo_grammar.specs.Times.{event, timed}
use Rattle.ooo_grammar.specs.Members.{args, args, events_listed, init, inits, param, setup, some_args, word_in_parens}
use Rattle.ooo_grammar.specs.Units.{clock, instance_of, main_channel, main_entry}

-- "(" word ")"
abbrev pub parens_word : Code Word (terminal.Open ∷ []) none false
parens_word = in_parens (deeper word) refl

-- word {"," word}
abbrev pub some_words : Code (List Word) names (always (terminal.Comma ∷ [])) false
some_words = separated terminal.Comma word refl

-- param {"," param}
abbrev pub some_params : Code (List Param) type_words (always (terminal.Comma ∷ [])) false
some_params = separated terminal.Comma param refl

-- [param {"," param}]
abbrev pub listed_params : Code (List Param) type_words (always (type_words ++ terminal.Comma ∷ [])) true
listed_params = listed terminal.Comma param refl

-- ---- constructors
-- init {"," init}
abbrev pub some_inits : Code (List Init) names (always (terminal.Comma ∷ [])) false
some_inits = separated terminal.Comma init refl

-- [":" init {"," init}]
abbrev pub maybe_inits : Code (List Init) (terminal.Colon ∷ []) (always (terminal.Colon ∷ terminal.Comma ∷ [])) true
maybe_inits = to or_none (optional inits)

-- event {"<<" event}
abbrev pub some_events : Code (List Event) names (always (terminal.ShiftLeft ∷ terminal.Dot ∷ [])) false
some_events = separated terminal.ShiftLeft event refl

-- "SC_THREAD" "(" word ")" ";"
abbrev pub thread_setup : Code Setup (terminal.ScThread ∷ []) none false
thread_setup = led terminal.ScThread (λ k. to (λ w. setup_form.Thread k.position w) word_in_parens)

-- "SC_METHOD" "(" word ")" ";"
abbrev pub method_setup : Code Setup (terminal.ScMethod ∷ []) none false
method_setup = led terminal.ScMethod (λ k. to (λ w. setup_form.Method k.position w) word_in_parens)

-- "sensitive" "<<" event {"<<" event} ";"
abbrev pub sensitive_setup : Code Setup (terminal.Sensitive ∷ []) none false
sensitive_setup = led terminal.Sensitive (λ k. skip terminal.ShiftLeft (to (λ es. setup_form.Sensitive k.position es) events_listed))

-- "dont_initialize" "(" ")" ";"
abbrev pub quiet_setup : Code Setup (terminal.DontInitialize ∷ []) none false
quiet_setup = led terminal.DontInitialize (λ k. skip terminal.Open (skip terminal.Close (to (λ _. setup_form.DontInitialize k.position) (quoted terminal.Semicolon))))

abbrev pub begins_setup : Terminals
begins_setup = terminal.ScThread ∷ terminal.ScMethod ∷ terminal.Sensitive ∷ terminal.DontInitialize ∷ names

-- {setup}
abbrev pub all_setups : Code (List Setup) begins_setup (always (begins_setup ++ [])) true
all_setups = repeated setup refl

-- "{" {setup} "}"
abbrev pub braced_setups : Code (List Setup) (terminal.OpenBrace ∷ []) none false
braced_setups = in_braces (deeper all_setups) refl

-- {"," param}
abbrev pub further_params : Code (List Param) (terminal.Comma ∷ []) (always (terminal.Comma ∷ [])) true
further_params = many (λ ps. skip terminal.Comma (to (λ p. ps ++ p ∷ []) param)) refl []

-- word {"," param}
abbrev pub named_params : Code (Word × List Param) names (always (terminal.Comma ∷ [])) false
named_params = pair word (λ n. to (λ ps. (n, ps)) further_params) refl

-- "(" [args] ")"
abbrev pub listed_args : Code (List Arg) (terminal.Open ∷ []) none false
listed_args = in_parens (to or_none (optional (deeper args))) refl

-- ["(" args ")"]
abbrev pub maybe_args : Code (Option (List Arg)) (terminal.Open ∷ []) (always (terminal.Open ∷ [])) true
maybe_args = within _ _ (optional some_args) refl (λ _. refl)

-- text "," time
abbrev pub clock_parts : Mark → Word → Code MainItem (terminal.Text ∷ []) none false
clock_parts k w = pair text (λ x. skip terminal.Comma (to (λ t. main_form.Clock k.position w x t) timed)) refl

abbrev pub begins_main_entry : Terminals
begins_main_entry = terminal.Static ∷ terminal.Const ∷ terminal.ScSignal ∷ terminal.ScFifo ∷ terminal.ScClock ∷ names

-- {decl | bind}
abbrev pub main_entries : Code (List MainItem) begins_main_entry (always (begins_main_entry ++ [])) true
main_entries = gathered main_entry refl

-- word ["(" args ")"] {"," word ["(" args ")"]}
abbrev pub some_main_channels : ChannelWord → TypeName → Code (List MainItem) names (always (terminal.Comma ∷ terminal.Open ∷ [])) false
some_main_channels c t = separated terminal.Comma (main_channel c t) refl

-- word "(" text "," time ")" {"," word "(" text "," time ")"}
abbrev pub some_clocks : Mark → Code (List MainItem) names (always (terminal.Comma ∷ [])) false
some_clocks k = separated terminal.Comma (clock k) refl

-- word "(" args ")" {"," word "(" args ")"}
abbrev pub some_instances : Word → Code (List MainItem) names (always (terminal.Comma ∷ [])) false
some_instances m = separated terminal.Comma (instance_of m) refl
