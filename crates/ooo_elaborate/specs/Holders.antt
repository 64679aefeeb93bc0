-- Who holds the ends of channels behind the code of all processes, and which channels have two that hold one end.
use Rattle.std.specs.Prelude.{ℕ, ◌+◌, List, [], ◌∷◌, Option, Some, None, slice_get}
use Rattle.ooo_bound.specs.declared.model.BoundFunction.{BoundFunction}
use Rattle.ooo_constants.specs.declared.meaning.Meaning.{Meaning}
use Rattle.ooo_constants.specs.declared.meaning.Meaning.TheVariants as meaning
use Rattle.ooo_walk.specs.declared.refusal.ElabBreach.{ElabBreach}
use Rattle.ooo_walk.specs.declared.refusal.ElabBreach.TheVariants as what
use Rattle.ooo_walk.specs.declared.refusal.Refusal.{Refusal}
use Rattle.ooo_walk.specs.declared.state.Walk.{Walk}
use Rattle.ooo_walk.specs.declared.state.WalkedChannel.{WalkedChannel}
use Rattle.ooo_walk.specs.declared.state.WalkedProcess.{WalkedProcess}
use Rattle.ooo_elaborate.specs.declared.holders.Held.{Held}
use Rattle.ooo_elaborate.specs.declared.holders.Holders.{Holders}
use Rattle.ooo_elaborate.specs.Ends.{Holding, body_holds}

-- ---- the code of a process

-- behind the functions that process p reaches, by what their names mean in its instance
abbrev pub found_holds : (p : ℕ) → Option BoundFunction → Holding
found_holds p None hs = hs
found_holds p (Some f) hs = body_holds p f.body hs

abbrev pub meant_holds : (p : ℕ) → List BoundFunction → Option Meaning → Holding
meant_holds p functions (Some (meaning.Function n)) hs = found_holds p (slice_get functions n) hs
meant_holds p functions _ hs = hs

abbrev pub functions_hold : (p : ℕ) → List BoundFunction → List Meaning → List ℕ → Holding
functions_hold p functions ms [] hs = hs
functions_hold p functions ms (f ∷ fs) hs = functions_hold p functions ms fs (meant_holds p functions (slice_get ms f) hs)

-- ---- refusals

-- the full name of a process
abbrev pub name_in : Option WalkedProcess → List ℕ
name_in None = []
name_in (Some p) = p.name

-- two processes hold one end of a channel
abbrev pub refusal_by : ElabBreach → List WalkedProcess → WalkedChannel → Holders → Option Refusal
refusal_by what ps c h = elim h.first [
  | None ↦ None
  | Some p ↦ elim h.second [
    | None ↦ None
    | Some q ↦ Some (record {
      what = what;
      at = c.at;
      names = c.name ∷ name_in (slice_get ps p) ∷ name_in (slice_get ps q) ∷ [];
    })
  ]
]

-- the first of two refusals
abbrev pub first_of : Option Refusal → Option Refusal → Option Refusal
first_of None other = other
first_of (Some r) other = Some r

-- two processes that write a channel, or else that read it
abbrev pub channel_refusal : List WalkedProcess → WalkedChannel → Held → Option Refusal
channel_refusal ps c h =
    first_of (refusal_by what.TwoWriters ps c h.writers) (refusal_by what.TwoReaders ps c h.readers)

-- a channel that is held like this, if it is one
abbrev pub refusal_at : List WalkedProcess → WalkedChannel → Option Held → Option Refusal
refusal_at ps c None = None
refusal_at ps c (Some h) = channel_refusal ps c h

-- the first of channels that is refused, where the first of them has this place
abbrev pub holders_refusal : List WalkedProcess → (place : ℕ) → List WalkedChannel → List Held → Option Refusal
holders_refusal ps place [] hs = None
holders_refusal ps place (c ∷ cs) hs =
    first_of (refusal_at ps c (slice_get hs place)) (holders_refusal ps (place + 1) cs hs)
