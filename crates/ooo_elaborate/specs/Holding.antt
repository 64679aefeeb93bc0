-- Which processes hold each end of each channel.
use Rattle.std.specs.Prelude.{ℕ, ◌==◌, List, Option, Some, None, slice_get, slice_set, if◌then◌else◌}
use Rattle.ooo_elaborate.specs.declared.holders.End.{End}
use Rattle.ooo_elaborate.specs.declared.holders.End.TheVariants.{Reading, Writing}
use Rattle.ooo_elaborate.specs.declared.holders.Held.{Held}
use Rattle.ooo_elaborate.specs.declared.holders.Holders.{Holders}

-- no process
abbrev pub nobody : Holders
nobody = record { first = None; second = None }

abbrev pub not_held : Held
not_held = record { writers = nobody; readers = nobody }

-- a process more, where no lower one comes after it: the first two are kept
abbrev pub with_second : (first p : ℕ) → Holders → Holders
with_second first p h = if first == p then h else elim h.second [ None ↦ record h { second = Some p } | Some q ↦ h ]

abbrev pub with_holder : ℕ → Holders → Holders
with_holder p h = elim h.first [ None ↦ record h { first = Some p } | Some first ↦ with_second first p h ]

-- process p holds an end
abbrev pub holds_writing : ℕ → (c : ℕ) → Option Held → List Held → List Held
holds_writing p c None hs = hs
holds_writing p c (Some h) hs = slice_set hs c (record h { writers = with_holder p h.writers })

abbrev pub holds_reading : ℕ → (c : ℕ) → Option Held → List Held → List Held
holds_reading p c None hs = hs
holds_reading p c (Some h) hs = slice_set hs c (record h { readers = with_holder p h.readers })

abbrev pub holds : ℕ → End → List Held → List Held
holds p (Writing c) hs = holds_writing p c (slice_get hs c) hs
holds p (Reading c) hs = holds_reading p c (slice_get hs c) hs
