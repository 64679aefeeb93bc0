-- What a source over a reader of std, and a sink over a writer of std, are.
use Rattle.std.specs.Prelude.{ℕ}

-- the reader or writer, and how many faults there were
pub record Adapter (T : Type 0) : Type 0 where
  pub inner : T
  pub faults : ℕ
