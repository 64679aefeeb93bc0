-- The lines of EBNF of `sc_main` and the file, written by hand, each beside the code that prints as it.
use Rattle.std.specs.Prelude.{◌≡◌, [], ◌∷◌, Option}
use Rattle.ooo_syntax.specs.declared.terminal.Terminal.TheVariants as terminal
use Rattle.ooo_syntax.specs.declared.leaves.TypeName.{TypeName}
use Rattle.ooo_syntax.specs.declared.leaves.Word.{Word}
use Rattle.ooo_syntax.specs.declared.module.ChannelWord.{ChannelWord}
use Rattle.ooo_syntax.specs.declared.symbol.Mark.{Mark}
use Rattle.ooo_syntax.specs.declared.unit.MainValues.{MainValues}
use Rattle.ooo_grammar.specs.Names.{names}
use Rattle.ooo_grammar.specs.Shapes.{Shape, Token, value_of, shape, t, line, one_of_these, opt, rep}
use Rattle.ooo_grammar.specs.Combinators.{quoted, table}
use Rattle.ooo_grammar.specs.Lexis.{word}
use Rattle.ooo_grammar.specs.Members.{binding, channel_table, constant, module_form, of_type, some_args}
use Rattle.ooo_grammar.specs.Times.{timed}
use Rattle.ooo_grammar.specs.Units.{clock, clock_tail, clocks, instance_of, instances_of, main, main_body, main_channel, main_channels, main_count, main_entry, main_values, returned, start, unit, unit_item, using_form}

abbrev pub MainCountLine : Type 0
MainCountLine = shape main_count ≡ line (t terminal.Open ∷ t terminal.Int ∷ opt (Token names ∷ []) ∷ t terminal.Comma ∷ t terminal.Char ∷ t terminal.Star ∷ [])

abbrev pub MainValuesLine : Type 0
MainValuesLine = shape main_values ≡ one_of_these (line (t terminal.Star ∷ opt (Token names ∷ []) ∷ t terminal.Close ∷ []) ∷ line (opt (Token names ∷ []) ∷ t terminal.OpenBracket ∷ t terminal.CloseBracket ∷ t terminal.Close ∷ []) ∷ [])

abbrev pub MainChannelLine : Type 0
MainChannelLine = (c : ChannelWord) (f : TypeName) → shape (main_channel c f) ≡ line (Token names ∷ opt (shape some_args ∷ []) ∷ [])

-- a channel of `sc_main`, whatever stands before it
abbrev pub a_main_channel : Shape
a_main_channel = shape (main_channel (value_of (table channel_table)) (value_of of_type))

abbrev pub MainChannelsLine : Type 0
MainChannelsLine = shape main_channels ≡ line (Token (terminal.ScSignal ∷ terminal.ScFifo ∷ []) ∷ shape of_type ∷ line (line (a_main_channel ∷ rep (t terminal.Comma ∷ a_main_channel ∷ []) ∷ []) ∷ t terminal.Semicolon ∷ []) ∷ [])

abbrev pub ClockTailLine : Type 0
ClockTailLine = (k : Mark) (w : Word) → shape (clock_tail k w) ≡ line (t terminal.Open ∷ line (line (t terminal.Text ∷ t terminal.Comma ∷ shape timed ∷ []) ∷ t terminal.Close ∷ []) ∷ [])

abbrev pub ClockLine : Type 0
ClockLine = (k : Mark) → shape (clock k) ≡ line (Token names ∷ shape (clock_tail k (value_of word)) ∷ [])

-- a clock, whatever stands before it
abbrev pub a_clock : Shape
a_clock = shape (clock (value_of (quoted terminal.ScClock)))

abbrev pub ClocksLine : Type 0
ClocksLine = shape clocks ≡ line (t terminal.ScClock ∷ line (line (a_clock ∷ rep (t terminal.Comma ∷ a_clock ∷ []) ∷ []) ∷ t terminal.Semicolon ∷ []) ∷ [])

abbrev pub InstanceOfLine : Type 0
InstanceOfLine = (m : Word) → shape (instance_of m) ≡ line (Token names ∷ shape some_args ∷ [])

abbrev pub InstancesOfLine : Type 0
InstancesOfLine = (m : Word) → shape (instances_of m) ≡ line (line (shape (instance_of m) ∷ rep (t terminal.Comma ∷ shape (instance_of m) ∷ []) ∷ []) ∷ t terminal.Semicolon ∷ [])

abbrev pub MainEntryLine : Type 0
MainEntryLine = shape main_entry ≡ one_of_these (shape constant ∷ shape main_channels ∷ shape clocks ∷ line (Token names ∷ one_of_these (shape (instances_of (value_of word)) ∷ shape (binding (value_of word)) ∷ []) ∷ []) ∷ [])

abbrev pub StartLine : Type 0
StartLine = shape start ≡ line (t terminal.ScStart ∷ t terminal.Open ∷ one_of_these (t terminal.Close ∷ line (shape timed ∷ t terminal.Close ∷ []) ∷ []) ∷ t terminal.Semicolon ∷ [])

abbrev pub ReturnedLine : Type 0
ReturnedLine = shape returned ≡ line (t terminal.Return ∷ t terminal.Number ∷ t terminal.Semicolon ∷ [])

abbrev pub MainBodyLine : Type 0
MainBodyLine = (c : Option Word) (v : MainValues) → shape (main_body c v) ≡ line (t terminal.OpenBrace ∷ rep (shape main_entry ∷ []) ∷ opt (shape start ∷ []) ∷ opt (shape returned ∷ []) ∷ t terminal.CloseBrace ∷ [])

abbrev pub MainLine : Type 0
MainLine = shape main ≡ line (t terminal.Int ∷ t terminal.ScMain ∷ shape main_count ∷ shape main_values ∷ shape (main_body (value_of main_count) (value_of main_values)) ∷ [])

abbrev pub UsingFormLine : Type 0
UsingFormLine = shape using_form ≡ line (t terminal.Using ∷ t terminal.Namespace ∷ Token (terminal.ScCore ∷ terminal.ScDt ∷ terminal.Std ∷ []) ∷ t terminal.Semicolon ∷ [])

abbrev pub UnitItemLine : Type 0
UnitItemLine = shape unit_item ≡ one_of_these (shape using_form ∷ shape module_form ∷ shape constant ∷ [])

abbrev pub UnitLine : Type 0
UnitLine = shape unit ≡ line (rep (shape unit_item ∷ []) ∷ shape main ∷ [])

-- each code is the line that stands beside it here
abbrev pub UnitsLines : Type 0
UnitsLines = MainCountLine × MainValuesLine × MainChannelLine × MainChannelsLine × ClockTailLine × ClockLine × ClocksLine × InstanceOfLine × InstancesOfLine × MainEntryLine × StartLine × ReturnedLine × MainBodyLine × MainLine × UsingFormLine × UnitItemLine × UnitLine
