-- The lines of times and events are what their codes print.
use Rattle.std.proofs.Common.{refl}
use Rattle.ooo_grammar.specs.TimesLines.{UnitOfTimeLine, NamedTimeLine, TimedLine, EventLine, EventsLine, AfterTimeLine, AfterAmountLine, AfterAwaitedLine, AwaitingLine, TimesLines}
use Rattle.ooo_grammar.specs.Expressions.{inner, inner_value}
use Rattle.ooo_grammar.specs.Lexis.{member_word, word}
use Rattle.ooo_grammar.specs.Times.{after_amount, after_awaited, after_time, awaiting, event, event_call, events, inner_amount, named_time, timed, unit_of_time}

unit_of_time_line : UnitOfTimeLine
unfolding unit_of_time
unit_of_time_line = refl

named_time_line : NamedTimeLine
unfolding named_time inner_amount inner_value inner unit_of_time
named_time_line = refl

timed_line : TimedLine
unfolding timed
timed_line = refl

event_line : EventLine
unfolding event event_call word member_word
event_line = refl

events_line : EventsLine
unfolding events
events_line = refl

after_time_line : AfterTimeLine
unfolding after_time events event event_call word member_word
after_time_line = λ a. refl

after_amount_line : AfterAmountLine
unfolding after_amount unit_of_time
after_amount_line = λ a. refl

after_awaited_line : AfterAwaitedLine
unfolding after_awaited
after_awaited_line = λ a b. refl

awaiting_line : AwaitingLine
unfolding awaiting
awaiting_line = refl

pub times_lines : TimesLines
times_lines = (unit_of_time_line, named_time_line, timed_line, event_line, events_line, after_time_line, after_amount_line, after_awaited_line, awaiting_line)
