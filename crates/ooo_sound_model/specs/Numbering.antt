-- What the names of functions mean in each instance, once they have numbers.
use Rattle.std.specs.Prelude.{◌≡◌, ℕ, ◌<◌, List, length, true, false, Some, slice_get}
use Rattle.ooo_constants.specs.declared.meaning.Meaning.TheVariants as meaning
use Rattle.ooo_walk.specs.declared.state.WalkedInstance.{WalkedInstance}
use Rattle.ooo_walk.specs.Plans.{Filed, view_at}
use Rattle.ooo_walk.specs.Reach.{has}
use Rattle.ooo_elaborate.specs.declared.functions.Numbered.{Numbered}
use Rattle.ooo_elaborate.specs.Functions.{functions_in, numbered}

-- a name of an instance means a function of the model, which is that name's in that instance
pub record IsNumbered (n : Numbered) (instance name : ℕ) (numbered : WalkedInstance) : Type 0 where
  pub number : ℕ
  pub means : slice_get numbered.members name ≡ Some (meaning.Function number)
  pub is : slice_get n.functions number ≡ Some (record { instance = instance; function = name })

-- an instance whose functions have numbers: those that its processes reach mean functions of the model, and all other names
-- what they meant
pub record HasNumbers (f : Filed) (n : Numbered) (place : ℕ) (i : WalkedInstance) : Type 0 where
  pub instance : WalkedInstance
  pub there : slice_get n.instances place ≡ Some instance
  pub module_number : instance.module_number ≡ i.module_number
  pub reached : (x : ℕ) → has (functions_in (view_at f i.module_number)) x ≡ true → x < length i.members → IsNumbered n place x instance
  pub others : (x : ℕ) → has (functions_in (view_at f i.module_number)) x ≡ false → slice_get instance.members x ≡ slice_get i.members x

abbrev pub FunctionsAreNumbered : Type 0
FunctionsAreNumbered = (f : Filed) (is : List WalkedInstance) (place : ℕ) (i : WalkedInstance) → slice_get is place ≡ Some i →
    HasNumbers f (numbered f is) place i
