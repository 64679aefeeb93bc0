-- What elaboration makes a bound model of, and what holds of its variables, channels, events and processes.
use Rattle.std.specs.Prelude.{◌≡◌, ℕ, ◌<◌, List, length, All, Ok, None}
use Rattle.ooo_code.specs.Sound.{FitsChannel, FitsEvent, FitsVariable}
use Rattle.ooo_bound.specs.declared.model.Bound.{Bound}
use Rattle.ooo_checked.specs.declared.unit.CheckedUnit.{CheckedUnit}
use Rattle.ooo_constants.specs.declared.meaning.Meaning.{Meaning}
use Rattle.ooo_walk.specs.Texts.{file_of, walk_of}
use Rattle.ooo_elaborate.specs.Bindings.{links_of, unbound_from}
use Rattle.ooo_elaborate.specs.Elaborated.{assembled, bound_of, held_in, model_of}
use Rattle.ooo_elaborate.specs.Functions.{numbered}
use Rattle.ooo_elaborate.specs.Holders.{holders_refusal}
use Rattle.ooo_elaborate.specs.Processes.{numbering_in}
use Rattle.ooo_sound_model.specs.Naming.{HasEvents}
use Rattle.ooo_sound_model.specs.Ends.{AreClosed, EndsOfOne}

-- nothing is refused, and the model is what is made of the walk, the bindings and the numbered functions
pub record IsPassed (u : CheckedUnit) (b : Bound) : Type 0 where
  pub walked : (walk_of u).refusal ≡ None
  pub linked : (links_of (walk_of u)).refusal ≡ None
  pub all_bound : unbound_from 0 (walk_of u).ports (links_of (walk_of u)).ends ≡ None
  pub held : let w = walk_of u in let n = numbered (file_of u) w.instances in
      holders_refusal w.processes 0 w.channels (held_in (file_of u) w n (assembled (file_of u) w (links_of w) n)) ≡ None
  pub is : let w = walk_of u in assembled (file_of u) w (links_of w) (numbered (file_of u) w.instances) ≡ b

abbrev pub ArePassed : Type 0
ArePassed = (u : CheckedUnit) (b : Bound) → bound_of u ≡ Ok b → IsPassed u b

-- what is declared in a model is right, and the bodies of each instance find the events of each channel
pub record FitsParts (u : CheckedUnit) (b : Bound) : Type 0 where
  pub variables : All FitsVariable b.variables
  pub channels : All FitsChannel b.channels
  pub events : All (FitsEvent b.channels) b.events
  pub found : let w = walk_of u in (members : List Meaning) → HasEvents b (numbering_in (model_of w (links_of w)) members)

abbrev pub AreRightParts : Type 0
AreRightParts = (u : CheckedUnit) (b : Bound) → bound_of u ≡ Ok b → FitsParts u b

-- the ends of each channel have one holder, where the names that each process reaches are all that its code calls
abbrev pub HaveOneHolder : Type 0
HaveOneHolder = (u : CheckedUnit) (b : Bound) → bound_of u ≡ Ok b →
    let w = walk_of u in AreClosed (file_of u) (numbered (file_of u) w.instances).instances w.processes b →
    (c : ℕ) → c < length b.channels → EndsOfOne b c
