-- The versions of a signal that a bank keeps, and what is seen of them.
use Rattle.std.specs.Prelude.{◌≡◌, ⊤, List, [], ◌∷◌, ◌++◌, if◌then◌else◌}
use Rattle.ooo_time.specs.declared.stamp.Stamp.{Stamp}
use Rattle.ooo_time.specs.Stamps.{IsBefore, is_before}
use Rattle.ooo_code.specs.Channels.{Channel, Signal, IsSignal}
use Rattle.ooo_channels.specs.declared.version.Version.{Version}
use Rattle.ooo_channels.specs.Cycles.{Cycle, cycle_at, ShowsAs}

-- the signal in a version's cycle
abbrev pub signal_of : Version → Signal
signal_of v = record { current = v.current; requested = v.requested; changed = v.changed }

-- a version is the signal in its cycle
pub record IsVersionIn (v : Version) (x : Cycle) : Type 0 where
  pub stamp : v.stamp ≡ x.stamp
  pub channel : IsSignal (signal_of v) ≡ x.channel

-- the signal in a version's cycle, with nothing of its history
abbrev pub cycle_from : Version → Cycle
cycle_from v = record { stamp = v.stamp; channel = IsSignal (signal_of v); history = [] }

-- the signal in the cycle of a stamp, going on from a version
abbrev pub version_at : Stamp → Version → Channel
version_at at v = (cycle_at at (cycle_from v)).channel

-- a version's cycle is before another's
abbrev pub IsEarlier : Version → Version → Type 0
IsEarlier v w = IsBefore v.stamp w.stamp

-- a stamp is before the first of these versions, if there is one
abbrev pub IsBeforeFirst : Stamp → List Version → Type 0
IsBeforeFirst at [] = ⊤
IsBeforeFirst at (v ∷ vs) = IsBefore at v.stamp

-- what was seen of a signal, stamp by stamp, is seen of a version from its cycle on, up to the first of those that follow
abbrev pub IsVersionOf : (Stamp → Channel) → Version → List Version → Type 0
IsVersionOf was v vs = (at : Stamp) → ¬ IsBefore at v.stamp → IsBeforeFirst at vs → ShowsAs at.time (version_at at v) (was at)

-- these are versions of a signal of which that was seen, in the order of their cycles
abbrev pub AreVersionsOf : (Stamp → Channel) → List Version → Type 0
AreVersionsOf was [] = ⊤
AreVersionsOf was (v ∷ vs) = IsBeforeFirst v.stamp vs × IsVersionOf was v vs × AreVersionsOf was vs

-- the first of these versions isn't after a stamp
abbrev pub StartsBy : Stamp → List Version → Type 0
StartsBy at [] = ⊥
StartsBy at (v ∷ vs) = ¬ IsBefore at v.stamp

-- what was seen of a signal is seen of these versions at each stamp that isn't before this one
pub record AreVersionsSince (below : Stamp) (was : Stamp → Channel) (vs : List Version) : Type 0 where
  pub start : StartsBy below vs
  pub each : AreVersionsOf was vs

-- the versions once there is a new one, which replaces the newest where that is of its own cycle
abbrev pub versions_with : List Version → (newest new : Version) → List Version
versions_with past newest new = past ++ (if is_before newest.stamp new.stamp then newest ∷ new ∷ [] else new ∷ [])

-- what is seen of a channel after an operation at a stamp: up to its cycle what was seen before, later the channel after it
pub record IsContinued (at : Stamp) (x : Cycle) (was next : Stamp → Channel) : Type 0 where
  pub before : (t : Stamp) → ¬ IsBefore at t → next t ≡ was t
  pub later : (t : Stamp) → IsBefore at t → next t ≡ (cycle_at t x).channel
