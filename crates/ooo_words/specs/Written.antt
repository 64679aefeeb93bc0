-- What the parts of the reader answer.
use Rattle.std.specs.Prelude.{◌≡◌, ◌⊎◌, ℕ, List, Option, Some, option_map}
use Rattle.std.specs.Borrow.{Bor}
use Rattle.ooo_words.specs.declared.refused.WordsError.{WordsError}
use Rattle.ooo_words.specs.declared.refused.WordsError.TheVariants.{OutOfMemory}
use Rattle.ooo_words.specs.declared.setting.Written.{Written}
use Rattle.ooo_words.specs.Reading.{Setting}

-- the setting behind the references
abbrev pub setting_of : Written → Setting
setting_of written = record {
  option = written.option.now;
  value = option_map (λ (value : Bor (List ℕ)). value.now) written.value;
}

-- the error is out of memory or that breach
abbrev pub IsBreach : Option WordsError → WordsError → Type 0
IsBreach breach e = (e ≡ OutOfMemory) ⊎ (breach ≡ Some e)
