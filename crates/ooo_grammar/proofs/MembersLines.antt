-- The lines of modules are what their codes print.
use Rattle.std.proofs.Common.{refl}
use Rattle.ooo_grammar.specs.MembersLines.{ArgPartLine, NextValueLine, NextOtherLine, SomeArgsLine, ArgsLine, ConstantTailLine, ConstantLine, FieldFormLine, FieldLine, MoreFieldsLine, ConstFieldsLine, WordsLine, OfTypeLine, PortsLine, PartLine, PartsLine, ChannelsLine, ParamLine, ParamsLine, FunctionTailLine, TypedTailLine, TypedMemberLine, InitLine, InitsLine, BoundToLine, ByBindLine, BindingLine, WordInParensLine, SetupTailLine, EventsListedLine, SetupLine, SetupsLine, NamedConstructorLine, NameAndParamsLine, WrittenConstructorLine, WordedTailLine, MemberLine, ModuleFormLine, MembersLines}
use Rattle.ooo_grammar.specs.Expressions.{inner, inner_value}
use Rattle.ooo_grammar.specs.Lexis.{event_word, member_word, word}
use Rattle.ooo_grammar.specs.Members.{after_port, arg_part, args, binding, bound_to, by_bind, channels, const_fields, constant, constant_tail, events_listed, field, field_form, function_tail, init, inits, member, module_form, more_fields, name_and_params, named_constructor, next_arg, of_type, param, params, part, parts, ports, scale_or_arg, setup, setup_tail, setups, some_args, typed_member, typed_tail, word_in_parens, worded_tail, words, written_constructor}
use Rattle.ooo_grammar.specs.Times.{event, event_call}

arg_part_line : ArgPartLine
unfolding arg_part
arg_part_line = refl

next_value_line : NextValueLine
unfolding next_arg scale_or_arg
next_value_line = λ a. refl

next_other_line : NextOtherLine
unfolding next_arg
next_other_line = λ a. refl

some_args_line : SomeArgsLine
unfolding some_args
some_args_line = refl

args_line : ArgsLine
unfolding args
args_line = refl

constant_tail_line : ConstantTailLine
unfolding constant_tail word
constant_tail_line = λ a. refl

constant_line : ConstantLine
unfolding constant
constant_line = refl

field_form_line : FieldFormLine
unfolding field_form inner_value inner
field_form_line = refl

field_line : FieldLine
unfolding field word
field_line = refl

more_fields_line : MoreFieldsLine
unfolding more_fields
more_fields_line = λ a. refl

const_fields_line : ConstFieldsLine
unfolding const_fields
const_fields_line = refl

words_line : WordsLine
unfolding words word
words_line = refl

of_type_line : OfTypeLine
unfolding of_type
of_type_line = refl

ports_line : PortsLine
unfolding ports
ports_line = refl

part_line : PartLine
unfolding part word
part_line = refl

parts_line : PartsLine
unfolding parts part word
parts_line = refl

channels_line : ChannelsLine
unfolding channels
channels_line = refl

param_line : ParamLine
unfolding param word
param_line = refl

params_line : ParamsLine
unfolding params
params_line = refl

function_tail_line : FunctionTailLine
unfolding function_tail
function_tail_line = λ a b. refl

typed_tail_line : TypedTailLine
unfolding typed_tail
typed_tail_line = λ a b. refl

typed_member_line : TypedMemberLine
unfolding typed_member
typed_member_line = refl

init_line : InitLine
unfolding init word
init_line = refl

inits_line : InitsLine
unfolding inits
inits_line = refl

bound_to_line : BoundToLine
unfolding bound_to word
bound_to_line = λ a b c. refl

by_bind_line : ByBindLine
unfolding by_bind
by_bind_line = λ a b. refl

binding_line : BindingLine
unfolding binding after_port member_word event_word
binding_line = λ a. refl

word_in_parens_line : WordInParensLine
unfolding word_in_parens word
word_in_parens_line = refl

setup_tail_line : SetupTailLine
unfolding setup_tail
setup_tail_line = λ a. refl

events_listed_line : EventsListedLine
unfolding events_listed event event_call word member_word
events_listed_line = refl

setup_line : SetupLine
unfolding setup word
setup_line = refl

setups_line : SetupsLine
unfolding setups
setups_line = refl

named_constructor_line : NamedConstructorLine
unfolding named_constructor word
named_constructor_line = refl

name_and_params_line : NameAndParamsLine
unfolding name_and_params word
name_and_params_line = refl

written_constructor_line : WrittenConstructorLine
unfolding written_constructor
written_constructor_line = λ a. refl

worded_tail_line : WordedTailLine
unfolding worded_tail
worded_tail_line = λ a. refl

member_line : MemberLine
unfolding member word
member_line = refl

module_form_line : ModuleFormLine
unfolding module_form word
module_form_line = refl

pub members_lines : MembersLines
members_lines = (arg_part_line, next_value_line, next_other_line, some_args_line, args_line, constant_tail_line, constant_line, field_form_line, field_line, more_fields_line, const_fields_line, words_line, of_type_line, ports_line, part_line, parts_line, channels_line, param_line, params_line, function_tail_line, typed_tail_line, typed_member_line, init_line, inits_line, bound_to_line, by_bind_line, binding_line, word_in_parens_line, setup_tail_line, events_listed_line, setup_line, setups_line, named_constructor_line, name_and_params_line, written_constructor_line, worded_tail_line, member_line, module_form_line)
