-- A word that an earlier table has is found there; else it is that of the tables behind.
use Rattle.std.proofs.Common.{◌++◌, ◌∙◌, sym}
use Rattle.ooo_syntax.specs.Words.{long_words, middle_words, short_words}
use Rattle.ooo_syntax.proofs.Groups.{behind, in_front}
use Rattle.ooo_syntax.proofs.words.word.Goals as goal

pub returns-in-Some : goal.returns-in-Some
unfolding short_words middle_words long_words
returns-in-Some c =
    sym (in_front short_words (middle_words ++ long_words) c.args.bytes.now c.in-Some.terminal (sym c.short_word.ensures ∙ c.in-Some.is))

pub returns-in-Some-middle_word : goal.returns-in-Some-middle_word
unfolding short_words middle_words long_words
returns-in-Some-middle_word c =
    sym (behind short_words (middle_words ++ long_words) c.args.bytes.now (sym c.short_word.ensures ∙ c.in_default.is)
    ∙ in_front middle_words long_words c.args.bytes.now c.in-Some-middle_word.terminal (sym c.middle_word.ensures ∙ c.in-Some-middle_word.is))

pub returns : goal.returns
unfolding short_words middle_words long_words
returns c =
    c.long_word.ensures
    ∙ sym (behind short_words (middle_words ++ long_words) c.args.bytes.now (sym c.short_word.ensures ∙ c.in_default.is)
    ∙ behind middle_words long_words c.args.bytes.now (sym c.middle_word.ensures ∙ c.in_default-middle_word.is))
