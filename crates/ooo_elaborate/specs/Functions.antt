-- Which functions of an instance are part of the model, and their numbers.
use Rattle.std.specs.Prelude.{ℕ, ◌+◌, List, [], ◌∷◌, ◌++◌, length, Option, Some, None, slice_set}
use Rattle.ooo_checked.specs.declared.module.CheckedSetup.{CheckedSetup}
use Rattle.ooo_checked.specs.declared.module.CheckedSetup.TheVariants as setup
use Rattle.ooo_constants.specs.declared.meaning.Meaning.{Meaning}
use Rattle.ooo_constants.specs.declared.meaning.Meaning.TheVariants as meaning
use Rattle.ooo_walk.specs.declared.state.WalkedInstance.{WalkedInstance}
use Rattle.ooo_walk.specs.Plans.{Filed, Viewed, function_at, view_at}
use Rattle.ooo_walk.specs.Reach.{reached_by}
use Rattle.ooo_walk.specs.Reach.{calls_in}
use Rattle.ooo_elaborate.specs.declared.functions.Numbered.{Numbered}
use Rattle.ooo_elaborate.specs.declared.functions.WalkedFunction.{WalkedFunction}

-- the calls of the processes that a constructor registers
abbrev pub setup_calls : Viewed → CheckedSetup → List ℕ
setup_calls v (setup.Thread at r) = calls_in (function_at v r.denotes.number)
setup_calls v (setup.Method at r) = calls_in (function_at v r.denotes.number)
setup_calls v _ = []

abbrev pub setups_calls : Viewed → List CheckedSetup → List ℕ
setups_calls v [] = []
setups_calls v (x ∷ xs) = setup_calls v x ++ setups_calls v xs

-- the functions of a module that a process of an instance reaches by calls, each once
abbrev pub functions_in : Viewed → List ℕ
functions_in v = reached_by v (setups_calls v v.setups)

-- functions of an instance get numbers one after the other
abbrev pub meanings_with : (number : ℕ) → List ℕ → List Meaning → List Meaning
meanings_with number [] ms = ms
meanings_with number (f ∷ fs) ms = meanings_with (number + 1) fs (slice_set ms f (meaning.Function number))

-- a list of an instance's functions, each with the instance's number
abbrev pub of_instance : (instance : ℕ) → List ℕ → List WalkedFunction
of_instance i [] = []
of_instance i (f ∷ fs) = record { instance = i; function = f } ∷ of_instance i fs

-- an instance whose functions get the next numbers
abbrev pub numbered_with : List ℕ → WalkedInstance → Numbered → Numbered
numbered_with fs i n = record {
  functions = n.functions ++ of_instance (length n.instances) fs;
  instances = n.instances ++ record i { members = meanings_with (length n.functions) fs i.members } ∷ [];
}

abbrev pub numbered_by : Filed → List WalkedInstance → Numbered → Numbered
numbered_by f [] n = n
numbered_by f (i ∷ is) n = numbered_by f is (numbered_with (functions_in (view_at f i.module_number)) i n)

-- instances whose functions have numbers, and the functions in the order of their numbers
abbrev pub numbered : Filed → List WalkedInstance → Numbered
numbered f is = numbered_by f is (record { functions = []; instances = [] })
