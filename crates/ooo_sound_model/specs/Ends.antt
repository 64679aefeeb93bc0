-- One writer of each signal, and one holder of each end of a fifo, where no channel is refused.
use Rattle.std.specs.Prelude.{◌≡◌, ℕ, ◌<◌, List, length, Some, None, All, slice_get}
use Rattle.ooo_code.specs.Touches.{WritesSignal, HoldsReading, HoldsWriting}
use Rattle.ooo_bound.specs.declared.model.Bound.{Bound}
use Rattle.ooo_bound.specs.declared.model.BoundFunction.{BoundFunction}
use Rattle.ooo_bound.specs.declared.model.BoundProcess.{BoundProcess}
use Rattle.ooo_bound.specs.declared.stat.BoundStat.{BoundStat}
use Rattle.ooo_constants.specs.declared.meaning.Meaning.{Meaning}
use Rattle.ooo_constants.specs.declared.meaning.Meaning.TheVariants as meaning
use Rattle.ooo_walk.specs.declared.state.Walk.{Walk}
use Rattle.ooo_walk.specs.declared.state.WalkedInstance.{WalkedInstance}
use Rattle.ooo_walk.specs.declared.state.WalkedProcess.{WalkedProcess}
use Rattle.ooo_walk.specs.Plans.{Filed}
use Rattle.ooo_elaborate.specs.declared.functions.Numbered.{Numbered}
use Rattle.ooo_elaborate.specs.Elaborated.{held_in, process_functions, process_members}
use Rattle.ooo_elaborate.specs.Holders.{holders_refusal}
use Rattle.ooo_activation.specs.Kinds.{simples_in, calls_of}
use Rattle.ooo_activation.specs.Sound.{FitsFunction, FitsProcess, IsOfOne}

-- a function of the model is meant by one of these names of an instance
pub record IsMeant (members : List Meaning) (names : List ℕ) (g : ℕ) : Type 0 where
  pub place : ℕ
  pub name : ℕ
  pub listed : slice_get names place ≡ Some name
  pub means : slice_get members name ≡ Some (meaning.Function g)

-- a body calls functions that these names mean, and nothing else
abbrev pub CallsMeant : List Meaning → List ℕ → List BoundStat → Type 0
CallsMeant members names body = All (IsMeant members names) (calls_of (simples_in body))

-- the names of the functions that a process reaches by calls are all that its code calls
pub record IsClosed (b : Bound) (members : List Meaning) (names : List ℕ) (process : BoundProcess) : Type 0 where
  pub own : CallsMeant members names process.body
  pub others : (g : ℕ) (f : BoundFunction) → IsMeant members names g → slice_get b.functions g ≡ Some f → CallsMeant members names f.body

-- of each process of a model
abbrev pub AreClosed : Filed → List WalkedInstance → List WalkedProcess → Bound → Type 0
AreClosed f is ps b = (p : ℕ) (x : WalkedProcess) (process : BoundProcess) → slice_get ps p ≡ Some x →
    slice_get b.processes p ≡ Some process → IsClosed b (process_members is x.form) (process_functions f is x.form) process

-- what two processes may not both do with a channel
pub record EndsOfOne (b : Bound) (c : ℕ) : Type 0 where
  pub writer : IsOfOne b (WritesSignal c)
  pub reading : IsOfOne b (HoldsReading c)
  pub writing : IsOfOne b (HoldsWriting c)

-- where no channel is refused
abbrev pub EndsAreOfOne : Type 0
EndsAreOfOne = (f : Filed) (w : Walk) (n : Numbered) (b : Bound) → length b.processes ≡ length w.processes →
    AreClosed f n.instances w.processes b → holders_refusal w.processes 0 w.channels (held_in f w n b) ≡ None →
    (c : ℕ) → c < length w.channels → EndsOfOne b c

-- where all functions and processes of a model fit, no process touches a channel that isn't there: so what holds of the ends
-- of each channel holds of all numbers
abbrev pub EndsAreThere : Type 0
EndsAreThere = (b : Bound) → All (FitsFunction b) b.functions → All (FitsProcess b) b.processes →
    ((c : ℕ) → c < length b.channels → EndsOfOne b c) → (c : ℕ) → EndsOfOne b c
