-- The lines of EBNF of modules, written by hand, each beside the code that prints as it.
use Rattle.std.specs.Prelude.{◌≡◌, Bool, true, false, List, [], ◌∷◌}
use Rattle.ooo_syntax.specs.declared.terminal.Terminal.TheVariants as terminal
use Rattle.ooo_syntax.specs.declared.leaves.Word.{Word}
use Rattle.ooo_syntax.specs.declared.leaves.TypeName.{TypeName}
use Rattle.ooo_syntax.specs.declared.module.Arg.{Arg}
use Rattle.ooo_syntax.specs.declared.module.Field.{Field}
use Rattle.ooo_syntax.specs.declared.module.ResultForm.{ResultForm}
use Rattle.ooo_syntax.specs.declared.module.ResultForm.TheVariants as gives
use Rattle.ooo_grammar.specs.Names.{names, expr_name}
use Rattle.ooo_grammar.specs.Shapes.{Nothing, Token, Form, Many, value_of, shape, t, line, one_of_these, opt, rep}
use Rattle.ooo_grammar.specs.Expressions.{value}
use Rattle.ooo_grammar.specs.Lexis.{event_word, member_word, text, type_name, word}
use Rattle.ooo_grammar.specs.Members.{arg_part, args, binding, bound_to, by_bind, channels, const_fields, constant, constant_tail, ends_in_value, events_listed, field, field_form, field_of, function_tail, init, inits, member, module_form, more_fields, name_and_params, named_constructor, next_arg, of_type, param, params, part, parts, ports, setup, setup_tail, setups, some_args, typed_member, typed_tail, word_in_parens, worded_tail, words, written_constructor}
use Rattle.ooo_grammar.specs.Statements.{body}
use Rattle.ooo_grammar.specs.Times.{event, named_time, unit_of_time}

abbrev pub ArgPartLine : Type 0
ArgPartLine = shape arg_part ≡ one_of_these (shape text ∷ shape named_time ∷ shape value ∷ [])

abbrev pub NextValueLine : Type 0
NextValueLine = (xs : List Arg) → shape (next_arg true xs) ≡ line (t terminal.Comma ∷ one_of_these (shape unit_of_time ∷ shape arg_part ∷ []) ∷ [])

abbrev pub NextOtherLine : Type 0
NextOtherLine = (xs : List Arg) → shape (next_arg false xs) ≡ line (t terminal.Comma ∷ shape arg_part ∷ [])

abbrev pub SomeArgsLine : Type 0
SomeArgsLine = shape some_args ≡ line (t terminal.Open ∷ line (shape args ∷ t terminal.Close ∷ []) ∷ [])

abbrev pub ArgsLine : Type 0
ArgsLine = shape args ≡ line (shape arg_part ∷ Many (shape (next_arg (ends_in_value (value_of arg_part ∷ [])) (value_of arg_part ∷ []))) ∷ [])

abbrev pub ConstantTailLine : Type 0
ConstantTailLine = (b : Bool) → shape (constant_tail b) ≡ line (shape type_name ∷ Token names ∷ t terminal.Assign ∷ shape value ∷ t terminal.Semicolon ∷ [])

abbrev pub ConstantLine : Type 0
ConstantLine = shape constant ≡ line (opt (t terminal.Static ∷ []) ∷ t terminal.Const ∷ shape (constant_tail false) ∷ [])

abbrev pub FieldFormLine : Type 0
FieldFormLine = shape field_form ≡ one_of_these (line (t terminal.OpenBracket ∷ Form expr_name ∷ t terminal.CloseBracket ∷ []) ∷ line (t terminal.Assign ∷ shape value ∷ []) ∷ Nothing ∷ [])

abbrev pub FieldLine : Type 0
FieldLine = shape field ≡ line (Token names ∷ shape field_form ∷ [])

abbrev pub MoreFieldsLine : Type 0
MoreFieldsLine = (x : Field) → shape (more_fields x) ≡ line (rep (t terminal.Comma ∷ shape field ∷ []) ∷ t terminal.Semicolon ∷ [])

abbrev pub ConstFieldsLine : Type 0
ConstFieldsLine = shape const_fields ≡ line (shape type_name ∷ shape field ∷ shape (more_fields (value_of field)) ∷ [])

abbrev pub WordsLine : Type 0
WordsLine = shape words ≡ line (Token names ∷ rep (t terminal.Comma ∷ Token names ∷ []) ∷ t terminal.Semicolon ∷ [])

abbrev pub OfTypeLine : Type 0
OfTypeLine = shape of_type ≡ line (t terminal.Less ∷ shape type_name ∷ t terminal.Greater ∷ [])

abbrev pub PortsLine : Type 0
PortsLine = shape ports ≡ line (Token (terminal.ScIn ∷ terminal.ScOut ∷ terminal.ScInout ∷ terminal.ScFifoIn ∷ terminal.ScFifoOut ∷ []) ∷ shape of_type ∷ shape words ∷ [])

abbrev pub PartLine : Type 0
PartLine = shape part ≡ line (Token names ∷ opt (t terminal.OpenBrace ∷ line (shape args ∷ t terminal.CloseBrace ∷ []) ∷ []) ∷ [])

abbrev pub PartsLine : Type 0
PartsLine = shape parts ≡ line (shape part ∷ line (rep (t terminal.Comma ∷ shape part ∷ []) ∷ t terminal.Semicolon ∷ []) ∷ [])

abbrev pub ChannelsLine : Type 0
ChannelsLine = shape channels ≡ line (Token (terminal.ScSignal ∷ terminal.ScFifo ∷ []) ∷ shape of_type ∷ shape parts ∷ [])

abbrev pub ParamLine : Type 0
ParamLine = shape param ≡ line (shape type_name ∷ Token names ∷ [])

abbrev pub ParamsLine : Type 0
ParamsLine = shape params ≡ line (t terminal.Open ∷ opt (shape param ∷ rep (t terminal.Comma ∷ shape param ∷ []) ∷ []) ∷ t terminal.Close ∷ [])

abbrev pub FunctionTailLine : Type 0
FunctionTailLine = (r : ResultForm) (w : Word) → shape (function_tail r w) ≡ line (shape params ∷ shape body ∷ [])

abbrev pub TypedTailLine : Type 0
TypedTailLine = (n : TypeName) (w : Word) → shape (typed_tail n w) ≡ one_of_these (shape (function_tail (gives.Value n) w) ∷ line (shape field_form ∷ shape (more_fields (field_of w (value_of field_form))) ∷ []) ∷ [])

abbrev pub TypedMemberLine : Type 0
TypedMemberLine = shape typed_member ≡ line (shape type_name ∷ shape word ∷ shape (typed_tail (value_of type_name) (value_of word)) ∷ [])

abbrev pub InitLine : Type 0
InitLine = shape init ≡ line (Token names ∷ t terminal.Open ∷ opt (shape args ∷ []) ∷ t terminal.Close ∷ [])

abbrev pub InitsLine : Type 0
InitsLine = shape inits ≡ line (t terminal.Colon ∷ shape init ∷ rep (t terminal.Comma ∷ shape init ∷ []) ∷ [])

abbrev pub BoundToLine : Type 0
BoundToLine = (i p : Word) (b : Bool) → shape (bound_to i p b) ≡ line (t terminal.Open ∷ Token names ∷ t terminal.Close ∷ t terminal.Semicolon ∷ [])

abbrev pub ByBindLine : Type 0
ByBindLine = (i p : Word) → shape (by_bind i p) ≡ line (t terminal.Dot ∷ t terminal.Bind ∷ shape (bound_to i p true) ∷ [])

abbrev pub BindingLine : Type 0
BindingLine = (i : Word) → shape (binding i) ≡ line (t terminal.Dot ∷ one_of_these (line (Token (terminal.Word ∷ terminal.Bind ∷ []) ∷ one_of_these (shape (by_bind i (value_of member_word)) ∷ shape (bound_to i (value_of member_word) false) ∷ []) ∷ []) ∷ line (Token (terminal.Notify ∷ terminal.Cancel ∷ []) ∷ shape (by_bind i (value_of event_word)) ∷ []) ∷ []) ∷ [])

abbrev pub WordInParensLine : Type 0
WordInParensLine = shape word_in_parens ≡ line (t terminal.Open ∷ Token names ∷ t terminal.Close ∷ t terminal.Semicolon ∷ [])

abbrev pub SetupTailLine : Type 0
SetupTailLine = (w : Word) → shape (setup_tail w) ≡ one_of_these (shape (binding w) ∷ line (t terminal.Assign ∷ shape value ∷ t terminal.Semicolon ∷ []) ∷ [])

abbrev pub EventsListedLine : Type 0
EventsListedLine = shape events_listed ≡ line (shape event ∷ line (rep (t terminal.ShiftLeft ∷ shape event ∷ []) ∷ t terminal.Semicolon ∷ []) ∷ [])

abbrev pub SetupLine : Type 0
SetupLine = shape setup ≡ one_of_these (line (t terminal.ScThread ∷ shape word_in_parens ∷ []) ∷ line (t terminal.ScMethod ∷ shape word_in_parens ∷ []) ∷ line (t terminal.Sensitive ∷ t terminal.ShiftLeft ∷ shape events_listed ∷ []) ∷ line (t terminal.DontInitialize ∷ t terminal.Open ∷ t terminal.Close ∷ t terminal.Semicolon ∷ []) ∷ line (Token names ∷ shape (setup_tail (value_of word)) ∷ []) ∷ [])

abbrev pub SetupsLine : Type 0
SetupsLine = shape setups ≡ line (t terminal.OpenBrace ∷ rep (shape setup ∷ []) ∷ t terminal.CloseBrace ∷ opt (t terminal.Semicolon ∷ []) ∷ [])

abbrev pub NamedConstructorLine : Type 0
NamedConstructorLine = shape named_constructor ≡ line (t terminal.ScCtor ∷ line (t terminal.Open ∷ Token names ∷ t terminal.Close ∷ []) ∷ opt (shape inits ∷ []) ∷ shape setups ∷ [])

abbrev pub NameAndParamsLine : Type 0
NameAndParamsLine = shape name_and_params ≡ line (Token names ∷ rep (t terminal.Comma ∷ shape param ∷ []) ∷ t terminal.Close ∷ [])

abbrev pub WrittenConstructorLine : Type 0
WrittenConstructorLine = (w : Word) → shape (written_constructor w) ≡ line (t terminal.Open ∷ t terminal.ScModuleName ∷ shape name_and_params ∷ opt (shape inits ∷ []) ∷ shape setups ∷ [])

abbrev pub WordedTailLine : Type 0
WordedTailLine = (w : Word) → shape (worded_tail w) ≡ one_of_these (shape (written_constructor w) ∷ shape parts ∷ [])

abbrev pub MemberLine : Type 0
MemberLine = shape member ≡ one_of_these (line (t terminal.Public ∷ t terminal.Colon ∷ []) ∷ line (t terminal.Static ∷ t terminal.Const ∷ shape (constant_tail true) ∷ []) ∷ line (t terminal.Const ∷ shape const_fields ∷ []) ∷ line (t terminal.ScHasProcess ∷ shape word_in_parens ∷ []) ∷ line (t terminal.ScInClk ∷ shape words ∷ []) ∷ line (t terminal.ScEvent ∷ shape words ∷ []) ∷ line (t terminal.Void ∷ Token names ∷ shape (function_tail gives.Nothing (value_of word)) ∷ []) ∷ shape named_constructor ∷ shape typed_member ∷ shape ports ∷ shape channels ∷ line (Token names ∷ shape (worded_tail (value_of word)) ∷ []) ∷ [])

abbrev pub ModuleFormLine : Type 0
ModuleFormLine = shape module_form ≡ line (t terminal.ScModule ∷ t terminal.Open ∷ Token names ∷ t terminal.Close ∷ t terminal.OpenBrace ∷ rep (shape member ∷ []) ∷ t terminal.CloseBrace ∷ t terminal.Semicolon ∷ [])

-- each code is the line that stands beside it here
abbrev pub MembersLines : Type 0
MembersLines = ArgPartLine × NextValueLine × NextOtherLine × SomeArgsLine × ArgsLine × ConstantTailLine × ConstantLine × FieldFormLine × FieldLine × MoreFieldsLine × ConstFieldsLine × WordsLine × OfTypeLine × PortsLine × PartLine × PartsLine × ChannelsLine × ParamLine × ParamsLine × FunctionTailLine × TypedTailLine × TypedMemberLine × InitLine × InitsLine × BoundToLine × ByBindLine × BindingLine × WordInParensLine × SetupTailLine × EventsListedLine × SetupLine × SetupsLine × NamedConstructorLine × NameAndParamsLine × WrittenConstructorLine × WordedTailLine × MemberLine × ModuleFormLine
