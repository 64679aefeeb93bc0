-- Notifications in order.
use Rattle.std.specs.Prelude.{◌≡◌, ℕ, suc, ◌<◌, ◌≤◌, List, Option, None, Some, AllPairs}
use Rattle.ooo_time.specs.declared.time.Time.{Time}

-- a notification: of an event, for the next delta cycle or after a constant time
abbrev pub Notice : Type 0
Notice = ℕ × Option Time

-- the next delta cycle comes first, and then each time in its order
abbrev pub rank_of : Option Time → ℕ
rank_of None = 0
rank_of (Some t) = suc t.0

-- of a lower event, or of the same event and sooner
pub record IsNoticeBefore (a b : Notice) : Type 0 where
  pub event : a.0 ≤ b.0
  pub sooner : a.0 ≡ b.0 → rank_of a.1 < rank_of b.1

-- notifications in order, none of them twice
abbrev pub AreInOrder : List Notice → Type 0
AreInOrder notices = AllPairs IsNoticeBefore notices
