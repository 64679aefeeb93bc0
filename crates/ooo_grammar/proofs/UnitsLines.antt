-- The lines of `sc_main` and the file are what their codes print.
use Rattle.std.proofs.Common.{refl}
use Rattle.ooo_grammar.specs.UnitsLines.{MainCountLine, MainValuesLine, MainChannelLine, MainChannelsLine, ClockTailLine, ClockLine, ClocksLine, InstanceOfLine, InstancesOfLine, MainEntryLine, StartLine, ReturnedLine, MainBodyLine, MainLine, UsingFormLine, UnitItemLine, UnitLine, UnitsLines}
use Rattle.ooo_grammar.specs.Lexis.{literal, text, word}
use Rattle.ooo_grammar.specs.Units.{clock, clock_tail, clocks, instance_of, instances_of, main, main_body, main_channel, main_channels, main_count, main_entry, main_parts, main_values, returned, start, start_tail, unit, unit_item, using_form}

main_count_line : MainCountLine
unfolding main_count word
main_count_line = refl

main_values_line : MainValuesLine
unfolding main_values word
main_values_line = refl

main_channel_line : MainChannelLine
unfolding main_channel word
main_channel_line = λ c f. refl

main_channels_line : MainChannelsLine
unfolding main_channels
main_channels_line = refl

clock_tail_line : ClockTailLine
unfolding clock_tail text
clock_tail_line = λ k w. refl

clock_line : ClockLine
unfolding clock word
clock_line = λ k. refl

clocks_line : ClocksLine
unfolding clocks
clocks_line = refl

instance_of_line : InstanceOfLine
unfolding instance_of word
instance_of_line = λ a. refl

instances_of_line : InstancesOfLine
unfolding instances_of
instances_of_line = λ a. refl

main_entry_line : MainEntryLine
unfolding main_entry word
main_entry_line = refl

start_line : StartLine
unfolding start start_tail
start_line = refl

returned_line : ReturnedLine
unfolding returned literal
returned_line = refl

main_body_line : MainBodyLine
unfolding main_body main_parts
main_body_line = λ a b. refl

main_line : MainLine
unfolding main
main_line = refl

using_form_line : UsingFormLine
unfolding using_form
using_form_line = refl

unit_item_line : UnitItemLine
unfolding unit_item
unit_item_line = refl

unit_line : UnitLine
unfolding unit
unit_line = refl

pub units_lines : UnitsLines
units_lines = (main_count_line, main_values_line, main_channel_line, main_channels_line, clock_tail_line, clock_line, clocks_line, instance_of_line, instances_of_line, main_entry_line, start_line, returned_line, main_body_line, main_line, using_form_line, unit_item_line, unit_line)
