-- Parts of productions that the grammar writes in one line with what stands around them.
use Rattle.std.specs.Prelude.{true, false, List, [], ◌∷◌, ◌++◌, Option, refl}
use Rattle.ooo_syntax.specs.declared.terminal.Terminal.TheVariants as terminal
use Rattle.ooo_syntax.specs.declared.leaves.Word.{Word}
use Rattle.ooo_syntax.specs.declared.leaves.Number.{Number}
use Rattle.ooo_syntax.specs.declared.module.Field.{Field}
use Rattle.ooo_syntax.specs.declared.module.Part.{Part}
use Rattle.ooo_syntax.specs.declared.module.ResultForm.TheVariants as gives
use Rattle.ooo_syntax.specs.declared.module.Member.{Member}
use Rattle.ooo_syntax.specs.declared.module.Member.TheVariants as member_form
use Rattle.ooo_syntax.specs.declared.unit.MainValues.{MainValues}
use Rattle.ooo_syntax.specs.declared.unit.MainValues.TheVariants as values_form
use Rattle.ooo_syntax.specs.declared.unit.StartForm.{StartForm}
use Rattle.ooo_syntax.specs.declared.unit.UnitItem.{UnitItem}
use Rattle.ooo_grammar.specs.Sets.{Terminals}
use Rattle.ooo_grammar.specs.Names.{names, type_words, after_expr}
use Rattle.ooo_grammar.specs.Codes.{Code, pair, choice, many, within, deeper}
use Rattle.ooo_grammar.specs.Combinators.{none, always, quoted, terminals_of, skip, skip_inside, ended, in_braces, to, optional, separated, repeated}
use Rattle.ooo_grammar.specs.Lexis.{word}
use Rattle.ooo_grammar.specs.Members.{begins_member, channel_table, channels, constant_tail, field, function_tail, member, named_constructor, param, part, port_table, ports, typed_member, word_in_parens, worded_tail, words}
use Rattle.ooo_grammar.specs.Units.{returned, start, unit_item}

-- [word]
abbrev pub maybe_word : Code (Option Word) names (always (names ++ [])) true
maybe_word = optional word

-- ---- members
-- {"," field}, after the first field
abbrev pub further_fields : Field → Code (List Field) (terminal.Comma ∷ []) (always (terminal.Comma ∷ terminal.Assign ∷ after_expr)) true
further_fields x = within _ _ (many (λ xs. skip terminal.Comma (to (λ y. xs ++ y ∷ []) field)) refl (x ∷ [])) refl (λ _. refl)

-- part {"," part}
abbrev pub some_parts : Code (List Part) names (always (terminal.Comma ∷ terminal.OpenBrace ∷ [])) false
some_parts = separated terminal.Comma part refl

-- "public" ":"
abbrev pub public_member : Code Member (terminal.Public ∷ []) none false
public_member = skip terminal.Public (to (λ _. member_form.Public) (quoted terminal.Colon))

-- "static" "const" type word "=" expr ";"
abbrev pub static_member : Code Member (terminal.Static ∷ []) none false
static_member = skip terminal.Static (skip terminal.Const (to (λ c. member_form.Constant c) (constant_tail true)))

-- "SC_HAS_PROCESS" "(" word ")" ";"
abbrev pub process_member : Code Member (terminal.ScHasProcess ∷ []) none false
process_member = skip terminal.ScHasProcess (to (λ w. member_form.HasProcess w) word_in_parens)

-- "sc_in_clk" word {"," word} ";"
abbrev pub clocks_member : Code Member (terminal.ScInClk ∷ []) none false
clocks_member = skip terminal.ScInClk (to (λ ws. member_form.Clocks ws) words)

-- "sc_event" word {"," word} ";"
abbrev pub events_member : Code Member (terminal.ScEvent ∷ []) none false
events_member = skip terminal.ScEvent (to (λ ws. member_form.Events ws) words)

-- "void" word "(" [param {"," param}] ")" block
abbrev pub void_member : Code Member (terminal.Void ∷ []) none false
void_member = skip terminal.Void (pair word (function_tail gives.Nothing) refl)

-- ports, channels, children, or a constructor that begins with the module's name
abbrev pub placed_member : Code Member (terminals_of port_table ++ terminals_of channel_table ++ names) (always (terminal.Semicolon ∷ [])) false
placed_member = within _ _
    (choice (to (λ p. member_form.Ports p) ports)
    (choice (to (λ c. member_form.Channels c) channels)
    (pair word worded_tail refl) refl) refl) refl (λ _. refl)

-- a member that begins with no word of its own but those of ports, of channels and of types
abbrev pub other_member : Code Member (terminal.ScCtor ∷ (type_words ++ terminals_of port_table ++ terminals_of channel_table ++ names)) (always (terminal.Semicolon ∷ [])) false
other_member = within _ _ (choice named_constructor (choice typed_member placed_member refl) refl) refl (λ _. refl)

-- {member}
abbrev pub members : Code (List Member) begins_member (always (begins_member ++ terminal.Semicolon ∷ [])) true
members = repeated member refl

-- "{" {member} "}"
abbrev pub braced_members : Code (List Member) (terminal.OpenBrace ∷ []) none false
braced_members = in_braces (deeper members) refl

-- ---- `sc_main` and the file
-- "*" [word] ")"
abbrev pub pointer_values : Code MainValues (terminal.Star ∷ []) none false
pointer_values = pair (deeper (quoted terminal.Star)) (λ _. to (λ w. values_form.Pointer w) (ended terminal.Close (deeper (optional word)) refl)) refl

-- "[" "]" ")", after a word or none
abbrev pub array_end : Option Word → Code MainValues (terminal.OpenBracket ∷ []) none false
array_end w = skip_inside terminal.OpenBracket (skip_inside terminal.CloseBracket (to (λ _. values_form.Array w) (quoted terminal.Close)))

-- [word] "[" "]" ")"
abbrev pub array_values : Code MainValues (names ++ terminal.OpenBracket ∷ []) none false
array_values = pair (deeper (optional word)) array_end refl

-- "int" [word] "," "char" "*"
abbrev pub count_word : Code (Option Word) (terminal.Int ∷ []) none false
count_word = skip terminal.Int (pair (optional word) (λ w. skip terminal.Comma (skip terminal.Char (to (λ _. w) (quoted terminal.Star)))) refl)

-- ["sc_start" "(" [time] ")" ";"]
abbrev pub maybe_start : Code (Option StartForm) (terminal.ScStart ∷ []) (always (terminal.ScStart ∷ [])) true
maybe_start = within _ _ (optional start) refl (λ _. refl)

-- ["return" number ";"]
abbrev pub maybe_returned : Code (Option Number) (terminal.Return ∷ []) (always (terminal.Return ∷ [])) true
maybe_returned = within _ _ (optional returned) refl (λ _. refl)

abbrev pub begins_unit_item : Terminals
begins_unit_item = terminal.Using ∷ terminal.ScModule ∷ terminal.Static ∷ terminal.Const ∷ []

-- { using | constant | module }
abbrev pub unit_items : Code (List UnitItem) begins_unit_item (always (begins_unit_item ++ [])) true
unit_items = repeated unit_item refl
