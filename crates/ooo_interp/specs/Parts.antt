-- The parts that a job lends.
use Rattle.std.specs.Prelude.{◌≡◌, ℕ, List}
use Rattle.ooo_value.specs.declared.values.Value.{Value}
use Rattle.ooo_code.specs.declared.activation.Seen.{Seen}
use Rattle.ooo_interp.specs.declared.job_parts.JobParts.{JobParts}
use Rattle.ooo_interp.specs.Carrying.{Carried}
use Rattle.ooo_interp.specs.Ports.{all_shown, values_in}

-- parts of a job that lend these locals, variables and channels, of a design with so many variables
pub record AreLent (count : ℕ) (slots : List Value) (owned copied : List Carried) (seen : List Seen) (parts : JobParts) : Type 0 where
  pub counted : parts.count ≡ count
  pub same_slots : parts.slots ≡ slots
  pub same_owned : parts.owned.items ≡ owned
  pub same_copied : parts.copied.items ≡ copied
  pub shows : all_shown (values_in parts.fifos.seen.items) parts.ports ≡ seen
