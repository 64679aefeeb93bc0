-- What a source and a sink in memory are.
use Rattle.std.specs.Prelude.{◌≡◌, ℕ, ◌+◌, ◌-◌, ◌^◌, ◌⊎◌, ◌++◌, min, List, [], Contains, take, drop, length}

-- the next value of a 64-bit counter, which stands still at its end
abbrev pub counted : ℕ → ℕ
counted n = min (n + 1) (2 ^ 64 - 1)

-- a source: the bytes not yet given, the most that one call gives, the numbers of the calls that fail, and how many
-- calls and faults there were
pub record SourceState : Type 0 where
  pub rest : List ℕ
  pub most : ℕ
  pub failing : List ℕ
  pub calls : ℕ
  pub faults : ℕ

-- a sink: the bytes taken, for how many more there is room, and the rest as for a source
pub record SinkState : Type 0 where
  pub held : List ℕ
  pub room : ℕ
  pub most : ℕ
  pub failing : List ℕ
  pub calls : ℕ
  pub faults : ℕ

-- a source of these bytes on which no call was made
abbrev pub source_made : List ℕ → ℕ → List ℕ → SourceState
source_made bytes most failing = record { rest = bytes; most = most; failing = failing; calls = 0; faults = 0 }

-- the next call of the source is one of those that are to fail
abbrev pub SourceFails : SourceState → Type 0
SourceFails s = Contains s.failing (counted s.calls)

-- how many bytes a call gives that has this room
abbrev pub given_count : SourceState → List ℕ → ℕ
given_count s into = min s.most (min (length into) (length s.rest))

-- an empty sink with this room on which no call was made
abbrev pub sink_made : ℕ → ℕ → List ℕ → SinkState
sink_made room most failing = record { held = []; room = room; most = most; failing = failing; calls = 0; faults = 0 }

-- the sink is full, or its next call is one of those that are to fail
abbrev pub SinkFails : SinkState → Type 0
SinkFails s = (s.room ≡ 0) ⊎ Contains s.failing (counted s.calls)

-- how many bytes of a piece a call takes
abbrev pub taken_count : SinkState → List ℕ → ℕ
taken_count s piece = min s.most (min (length piece) s.room)

-- a call of the source that fails changes the counts alone
abbrev pub source_failed : SourceState → SourceState
source_failed s = record s { calls = counted s.calls; faults = counted s.faults }

-- a call that gives the first n bytes
abbrev pub source_given : SourceState → ℕ → SourceState
source_given s n = record s { rest = drop n s.rest; calls = counted s.calls }

-- a call of the sink that fails changes the counts alone
abbrev pub sink_failed : SinkState → SinkState
sink_failed s = record s { calls = counted s.calls; faults = counted s.faults }

-- a call that takes the first n bytes of the piece
abbrev pub sink_taken : SinkState → List ℕ → ℕ → SinkState
sink_taken s piece n = record s { held = s.held ++ take n piece; room = s.room - n; calls = counted s.calls }
