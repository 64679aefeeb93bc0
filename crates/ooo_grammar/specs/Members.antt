-- Constants, arguments and the members of modules.
use Rattle.std.specs.Prelude.{Bool, true, false, List, [], ◌∷◌, ◌++◌, is_some, refl}
use Rattle.ooo_syntax.specs.declared.terminal.Terminal.TheVariants as terminal
use Rattle.ooo_syntax.specs.declared.leaves.Word.{Word}
use Rattle.ooo_syntax.specs.declared.leaves.TypeName.{TypeName}
use Rattle.ooo_syntax.specs.declared.stat.TimeForm.TheVariants as time
use Rattle.ooo_syntax.specs.declared.stat.Event.{Event}
use Rattle.ooo_syntax.specs.declared.module.Arg.{Arg}
use Rattle.ooo_syntax.specs.declared.module.Arg.TheVariants as arg
use Rattle.ooo_syntax.specs.declared.module.Constant.{Constant}
use Rattle.ooo_syntax.specs.declared.module.FieldForm.{FieldForm}
use Rattle.ooo_syntax.specs.declared.module.FieldForm.TheVariants as form
use Rattle.ooo_syntax.specs.declared.module.Field.{Field}
use Rattle.ooo_syntax.specs.declared.module.PortWord.{PortWord}
use Rattle.ooo_syntax.specs.declared.module.PortWord.TheVariants as port
use Rattle.ooo_syntax.specs.declared.module.Ports.{Ports}
use Rattle.ooo_syntax.specs.declared.module.ChannelWord.{ChannelWord}
use Rattle.ooo_syntax.specs.declared.module.ChannelWord.TheVariants as channel
use Rattle.ooo_syntax.specs.declared.module.Part.{Part}
use Rattle.ooo_syntax.specs.declared.module.Channels.{Channels}
use Rattle.ooo_syntax.specs.declared.module.Param.{Param}
use Rattle.ooo_syntax.specs.declared.module.ResultForm.{ResultForm}
use Rattle.ooo_syntax.specs.declared.module.ResultForm.TheVariants as gives
use Rattle.ooo_syntax.specs.declared.module.Init.{Init}
use Rattle.ooo_syntax.specs.declared.module.Binding.{Binding}
use Rattle.ooo_syntax.specs.declared.module.Setup.{Setup}
use Rattle.ooo_syntax.specs.declared.module.Setup.TheVariants as setup_form
use Rattle.ooo_syntax.specs.declared.module.Constructor.TheVariants as made
use Rattle.ooo_syntax.specs.declared.module.Member.{Member}
use Rattle.ooo_syntax.specs.declared.module.Member.TheVariants as member_form
use Rattle.ooo_syntax.specs.declared.module.Module.{Module}
use Rattle.ooo_time.specs.declared.time.Scale.{Scale}
use Rattle.ooo_grammar.specs.Sets.{Terminals}
use Rattle.ooo_grammar.specs.Names.{names, type_words, begins_expr, after_expr}
use Rattle.ooo_grammar.specs.Codes.{Code, nothing, pair, choice, many, within, deeper}
use Rattle.ooo_grammar.specs.Combinators.{none, always, quoted, Table, terminals_of, table, skip, led, ended, in_parens, in_braces, in_brackets, to, optional, separated, listed, or_none, repeated}
use Rattle.ooo_grammar.specs.Lexis.{word, member_word, event_word, text, type_name}
use Rattle.ooo_grammar.specs.Expressions.{row, value, inner_value}
use Rattle.ooo_grammar.specs.Times.{scale_table, unit_of_time, named_time, event}
use Rattle.ooo_grammar.specs.Statements.{body}

-- ---- arguments

abbrev pub ends_in_value : List Arg → Bool
ends_in_value [] = false
ends_in_value (arg.Value e ∷ []) = true
ends_in_value (_ ∷ []) = false
ends_in_value (a ∷ b ∷ xs) = ends_in_value (b ∷ xs)

-- the last value with a unit is a time
abbrev pub with_unit : Scale → List Arg → List Arg
with_unit u [] = []
with_unit u (arg.Value e ∷ []) = arg.Time (time.Amount e u) ∷ []
with_unit u (a ∷ []) = a ∷ []
with_unit u (a ∷ b ∷ xs) = a ∷ with_unit u (b ∷ xs)

abbrev pub begins_arg : Terminals
begins_arg = terminal.Text ∷ terminal.ScZeroTime ∷ terminal.ScTime ∷ begins_expr

-- text | "SC_ZERO_TIME" | "sc_time" "(" expr "," scale ")" | expr
unfoldable pub arg_part : Code Arg begins_arg (always after_expr) false
arg_part = within _ _ (choice (to (λ t. arg.Text t) text) (choice (to (λ t. arg.Time t) named_time) (to (λ e. arg.Value e) value) refl) refl) refl (λ _. refl)

-- scale | arg, after a comma behind a value, with which a scale makes a time
unfoldable pub scale_or_arg : List Arg → Code (List Arg) (terminals_of scale_table ++ begins_arg) (always after_expr) false
scale_or_arg xs = within _ _ (choice (to (λ u. with_unit u xs) unit_of_time) (to (λ a. xs ++ a ∷ []) arg_part) refl) refl (λ _. refl)

-- "," arg, where `expr "," scale` is one argument
unfoldable pub next_arg : (ends_in_value : Bool) → List Arg → Code (List Arg) (terminal.Comma ∷ []) (always after_expr) false
next_arg true xs = skip terminal.Comma (scale_or_arg xs)
next_arg false xs = skip terminal.Comma (to (λ a. xs ++ a ∷ []) arg_part)

-- args = arg {"," arg}          arg = text | time | expr
unfoldable pub args : Code (List Arg) begins_arg (always (terminal.Comma ∷ after_expr)) false
args = within _ _ (pair arg_part (λ a. many (λ xs. next_arg (ends_in_value xs) xs) refl (a ∷ [])) refl) refl (λ _. refl)

-- "(" args ")"
unfoldable pub some_args : Code (List Arg) (terminal.Open ∷ []) none false
some_args = in_parens (deeper args) refl

-- ---- constants and fields

-- type word "=" expr ";"
unfoldable pub constant_tail : (is_static : Bool) → Code Constant type_words none false
constant_tail s = within _ _ (pair type_name (λ t. pair word (λ w. skip terminal.Assign (to (λ e. record { is_static = s; form = t; name = w; value = e }) (ended terminal.Semicolon value refl))) refl) refl) refl (λ _. refl)

-- constant = ["static"] "const" type word "=" expr ";"
unfoldable pub constant : Code Constant (terminal.Static ∷ terminal.Const ∷ []) none false
constant = within _ _ (pair (optional (quoted terminal.Static)) (λ s. skip terminal.Const (constant_tail (is_some s))) refl) refl (λ _. refl)

-- ["[" expr "]"] | "=" expr, after the name
unfoldable pub field_form : Code FieldForm (terminal.OpenBracket ∷ terminal.Assign ∷ []) (always (terminal.OpenBracket ∷ terminal.Assign ∷ after_expr)) true
field_form = within _ _ (choice (to (λ e. form.Length e) (in_brackets inner_value refl)) (choice (skip terminal.Assign (to (λ e. form.Value e) value)) (nothing form.Plain) refl) refl) refl (λ _. refl)

-- field = word ["[" expr "]"] | word "=" expr
unfoldable pub field : Code Field names (always (terminal.Assign ∷ after_expr)) false
field = within _ _ (pair word (λ w. to (λ f. record { name = w; form = f }) field_form) refl) refl (λ _. refl)

abbrev pub field_of : Word → FieldForm → Field
field_of w f = record { name = w; form = f }

-- {"," field} ";", after the first field
unfoldable pub more_fields : Field → Code (List Field) (terminal.Comma ∷ terminal.Semicolon ∷ []) none false
more_fields x = within _ _ (ended terminal.Semicolon (many (λ xs. skip terminal.Comma (to (λ y. xs ++ y ∷ []) field)) refl (x ∷ [])) refl) refl (λ _. refl)

abbrev pub fields_of : Bool → TypeName → List Field → Member
fields_of c t xs = member_form.Fields (record { is_const = c; form = t; fields = xs })

-- a `const` declaration of one word with `=` is a constant
abbrev pub const_field : TypeName → Field → FieldForm → Member
const_field t x (form.Value e) = member_form.Constant (record { is_static = false; form = t; name = x.name; value = e })
const_field t x _ = fields_of true t (x ∷ [])

abbrev pub const_member : TypeName → List Field → Member
const_member t (x ∷ []) = const_field t x x.form
const_member t xs = fields_of true t xs

-- type field {"," field} ";", after `const`
unfoldable pub const_fields : Code Member type_words none false
const_fields = within _ _ (pair type_name (λ t. pair field (λ x. to (const_member t) (more_fields x)) refl) refl) refl (λ _. refl)

-- ---- ports, channels, events and children

-- word {"," word} ";"
unfoldable pub words : Code (List Word) names none false
words = ended terminal.Semicolon (separated terminal.Comma word refl) refl

-- "<" type ">"
unfoldable pub of_type : Code TypeName (terminal.Less ∷ []) none false
of_type = skip terminal.Less (ended terminal.Greater type_name refl)

-- port = "sc_in" | "sc_out" | "sc_inout" | "sc_fifo_in" | "sc_fifo_out"
abbrev pub port_table : Table PortWord
port_table = record { first = row terminal.ScIn port.In; others = row terminal.ScOut port.Out ∷ row terminal.ScInout port.Inout ∷ row terminal.ScFifoIn port.FifoIn ∷ row terminal.ScFifoOut port.FifoOut ∷ [] }

-- port "<" type ">" word {"," word} ";"
unfoldable pub ports : Code Ports (terminals_of port_table) none false
ports = pair (table port_table) (λ p. pair of_type (λ t. to (λ ws. record { port = p; form = t; names = ws }) words) refl) refl

-- "sc_signal" | "sc_fifo"
abbrev pub channel_table : Table ChannelWord
channel_table = record { first = row terminal.ScSignal channel.Signal; others = row terminal.ScFifo channel.Fifo ∷ [] }

-- part = word ["{" args "}"]
unfoldable pub part : Code Part names (always (terminal.OpenBrace ∷ [])) false
part = pair word (λ w. to (λ xs. record { name = w; args = xs }) (optional (in_braces (deeper args) refl))) refl

-- part {"," part} ";"
unfoldable pub parts : Code (List Part) names none false
parts = ended terminal.Semicolon (separated terminal.Comma part refl) refl

-- ("sc_signal" | "sc_fifo") "<" type ">" part {"," part} ";"
unfoldable pub channels : Code Channels (terminals_of channel_table) none false
channels = pair (table channel_table) (λ c. pair of_type (λ t. to (λ ps. record { channel = c; form = t; parts = ps }) parts) refl) refl

-- ---- functions

-- param = type word
unfoldable pub param : Code Param type_words none false
param = pair type_name (λ t. to (λ w. record { form = t; name = w }) word) refl

-- "(" [param {"," param}] ")"
unfoldable pub params : Code (List Param) (terminal.Open ∷ []) none false
params = in_parens (deeper (listed terminal.Comma param refl)) refl

-- function = ("void" | type) word "(" [param {"," param}] ")" block, after the word
unfoldable pub function_tail : ResultForm → Word → Code Member (terminal.Open ∷ []) none false
function_tail r w = pair params (λ ps. to (λ ss. member_form.Function (record { result = r; name = w; params = ps; body = ss })) body) refl

-- a function or variables, after a type and a word
unfoldable pub typed_tail : TypeName → Word → Code Member (terminal.Open ∷ terminal.OpenBracket ∷ terminal.Assign ∷ terminal.Comma ∷ terminal.Semicolon ∷ []) none false
typed_tail t w = within _ _ (choice (function_tail (gives.Value t) w) (pair field_form (λ f. to (fields_of false t) (more_fields (field_of w f))) refl) refl) refl (λ _. refl)

unfoldable pub typed_member : Code Member type_words none false
typed_member = within _ _ (pair type_name (λ t. pair word (typed_tail t) refl) refl) refl (λ _. refl)

-- ---- constructors

-- init = word "(" [args] ")"
unfoldable pub init : Code Init names none false
init = pair word (λ w. to (λ xs. record { name = w; args = xs }) (in_parens (to or_none (optional (deeper args))) refl)) refl

-- ":" init {"," init}
unfoldable pub inits : Code (List Init) (terminal.Colon ∷ []) (always (terminal.Comma ∷ [])) false
inits = skip terminal.Colon (separated terminal.Comma init refl)

-- "(" word ")" ";", after the two words before it
unfoldable pub bound_to : Word → Word → Bool → Code Binding (terminal.Open ∷ []) none false
bound_to i p b = to (λ c. record { instance = i; port = p; is_by_bind = b; channel = c }) (ended terminal.Semicolon (in_parens (deeper word) refl) refl)

-- "." "bind" "(" word ")" ";"
unfoldable pub by_bind : Word → Word → Code Binding (terminal.Dot ∷ []) none false
by_bind i p = skip terminal.Dot (skip terminal.Bind (bound_to i p true))

-- ["." "bind"] "(" word ")" ";"
unfoldable pub after_port : Word → Word → Code Binding (terminal.Dot ∷ terminal.Open ∷ []) none false
after_port i p = choice (by_bind i p) (bound_to i p false) refl

-- bind = word "." word ["." "bind"] "(" word ")" ";", after the first word; `notify` and `cancel` are ports only before `bind`
unfoldable pub binding : Word → Code Binding (terminal.Dot ∷ []) none false
binding i = skip terminal.Dot (choice (pair member_word (after_port i) refl) (pair event_word (by_bind i) refl) refl)

-- "(" word ")" ";"
unfoldable pub word_in_parens : Code Word (terminal.Open ∷ []) none false
word_in_parens = ended terminal.Semicolon (in_parens (deeper word) refl) refl

-- bind | word "=" expr ";", after the word
unfoldable pub setup_tail : Word → Code Setup (terminal.Dot ∷ terminal.Assign ∷ []) none false
setup_tail w = choice (to (λ b. setup_form.Bind b) (binding w)) (skip terminal.Assign (to (λ e. setup_form.Set w e) (ended terminal.Semicolon value refl))) refl

-- event {"<<" event} ";"
unfoldable pub events_listed : Code (List Event) names none false
events_listed = ended terminal.Semicolon (separated terminal.ShiftLeft event refl) refl

-- setup = ("SC_THREAD" | "SC_METHOD") "(" word ")" ";" | "sensitive" "<<" event {"<<" event} ";" | "dont_initialize" "(" ")" ";" | bind | word "=" expr ";"
unfoldable pub setup : Code Setup (terminal.ScThread ∷ terminal.ScMethod ∷ terminal.Sensitive ∷ terminal.DontInitialize ∷ names) none false
setup =
    choice (led terminal.ScThread (λ k. to (λ w. setup_form.Thread k.position w) word_in_parens))
    (choice (led terminal.ScMethod (λ k. to (λ w. setup_form.Method k.position w) word_in_parens))
    (choice (led terminal.Sensitive (λ k. skip terminal.ShiftLeft (to (λ es. setup_form.Sensitive k.position es) events_listed)))
    (choice (led terminal.DontInitialize (λ k. skip terminal.Open (skip terminal.Close (to (λ _. setup_form.DontInitialize k.position) (quoted terminal.Semicolon)))))
    (pair word setup_tail refl) refl) refl) refl) refl

-- "{" {setup} "}" [";"]
unfoldable pub setups : Code (List Setup) (terminal.OpenBrace ∷ []) (always (terminal.Semicolon ∷ [])) false
setups = within _ _ (pair (in_braces (deeper (repeated setup refl)) refl) (λ ss. to (λ _. ss) (optional (quoted terminal.Semicolon))) refl) refl (λ _. refl)

-- "SC_CTOR" "(" word ")" [":" init {"," init}] "{" {setup} "}" [";"]
unfoldable pub named_constructor : Code Member (terminal.ScCtor ∷ []) (always (terminal.Semicolon ∷ [])) false
named_constructor = skip terminal.ScCtor (pair (in_parens (deeper word) refl) (λ w. pair (to or_none (optional inits)) (λ is. to (λ ss. member_form.Constructor (made.Named w is ss)) setups) refl) refl)

-- word {"," param} ")", after `sc_module_name`
unfoldable pub name_and_params : Code (Word × List Param) names none false
name_and_params = ended terminal.Close (deeper (pair word (λ n. to (λ ps. (n, ps)) (many (λ ps. skip terminal.Comma (to (λ p. ps ++ p ∷ []) param)) refl [])) refl)) refl

-- "(" "sc_module_name" word {"," param} ")" [":" init {"," init}] "{" {setup} "}" [";"], after the word
unfoldable pub written_constructor : Word → Code Member (terminal.Open ∷ []) (always (terminal.Semicolon ∷ [])) false
written_constructor w = skip terminal.Open (pair (deeper (quoted terminal.ScModuleName)) (λ _. pair name_and_params (λ np. pair (to or_none (optional inits)) (λ is. to (λ ss. member_form.Constructor (made.Written w np.0 np.1 is ss)) setups) refl) refl) refl)

-- ---- members

-- a constructor, or children, after the word
unfoldable pub worded_tail : Word → Code Member (terminal.Open ∷ names) (always (terminal.Semicolon ∷ [])) false
worded_tail w = within _ _ (choice (written_constructor w) (to (λ ps. member_form.Children (record { module_name = w; parts = ps })) parts) refl) refl (λ _. refl)

abbrev pub begins_member : Terminals
begins_member = terminal.Public ∷ terminal.Static ∷ terminal.Const ∷ terminal.ScHasProcess ∷ terminal.ScInClk ∷ terminal.ScEvent ∷ terminal.Void ∷ terminal.ScCtor ∷ (type_words ++ terminals_of port_table ++ terminals_of channel_table ++ names)

-- member = "public" ":" | constant | "SC_HAS_PROCESS" "(" word ")" ";" | ["const"] type field {"," field} ";" | port "<" type ">" word {"," word} ";" | "sc_in_clk" word {"," word} ";"
--     | ("sc_signal" | "sc_fifo") "<" type ">" part {"," part} ";" | "sc_event" word {"," word} ";" | word part {"," part} ";" | function | ctor
unfoldable pub member : Code Member begins_member (always (terminal.Semicolon ∷ [])) false
member = within _ _
    (choice (skip terminal.Public (to (λ _. member_form.Public) (quoted terminal.Colon)))
    (choice (skip terminal.Static (skip terminal.Const (to (λ c. member_form.Constant c) (constant_tail true))))
    (choice (skip terminal.Const const_fields)
    (choice (skip terminal.ScHasProcess (to (λ w. member_form.HasProcess w) word_in_parens))
    (choice (skip terminal.ScInClk (to (λ ws. member_form.Clocks ws) words))
    (choice (skip terminal.ScEvent (to (λ ws. member_form.Events ws) words))
    (choice (skip terminal.Void (pair word (function_tail gives.Nothing) refl))
    (choice named_constructor
    (choice typed_member
    (choice (to (λ p. member_form.Ports p) ports)
    (choice (to (λ c. member_form.Channels c) channels)
    (pair word worded_tail refl) refl) refl) refl) refl) refl) refl) refl) refl) refl) refl) refl) refl (λ _. refl)

-- module = "SC_MODULE" "(" word ")" "{" {member} "}" ";"
unfoldable pub module_form : Code Module (terminal.ScModule ∷ []) none false
module_form = skip terminal.ScModule (pair (in_parens (deeper word) refl) (λ w. to (λ ms. record { name = w; members = ms }) (ended terminal.Semicolon (in_braces (deeper (repeated member refl)) refl) refl)) refl)
