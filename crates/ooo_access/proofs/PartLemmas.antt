-- The parts of an access: what is told in a part is what is meant in it.
use Rattle.std.proofs.Common.{◌≡◌, ℕ, List, [], ◌∷◌, subst, ◌↔◌, Some}
use Rattle.std.specs.Prelude.{Contains}
use Rattle.ooo_lemmas.proofs.Contained.{one_is, in_first}
use Rattle.ooo_value.specs.declared.bound.BoundEvent.{BoundEvent}
use Rattle.ooo_code.specs.Touches as touch
use Rattle.ooo_access.specs.declared.told.Told.{Told}
use Rattle.ooo_access.specs.declared.told.Told.TheVariants as tells
use Rattle.ooo_access.specs.declared.told.Part.TheVariants as part
use Rattle.ooo_access.specs.Told.{meant, all_meant, number_of, IsTold}
use Rattle.ooo_access.proofs.Meanings.{meant_by, in_meant, next_from}

read_from : (events : List BoundEvent) (x : ℕ) (u : Told) → Contains (meant events u) (touch.Reads x) → number_of part.Read u ≡ Some x
read_from events x (tells.Reads y) m = let q = one_is (touch.Reads y) (touch.Reads x) m in cc
read_from events x (tells.Changes c) m = let r = next_from (touch.is_of_signal c) events (touch.Reads x) m in let q = r.1 in absurd cc
read_from events x (tells.DataRead c) m = let r = next_from (touch.is_data_read c) events (touch.Reads x) m in let q = r.1 in absurd cc
read_from events x (tells.DataWritten c) m = let r = next_from (touch.is_data_written c) events (touch.Reads x) m in let q = r.1 in absurd cc
read_from events x u m = let q = one_is _ _ m in absurd cc

read_in : (events : List BoundEvent) (x : ℕ) (u : Told) → number_of part.Read u ≡ Some x → Contains (meant events u) (touch.Reads x)
read_in events x (tells.Reads y) e = let q : y ≡ x = cc in subst (λ z. Contains (touch.Reads y ∷ []) (touch.Reads z)) q (in_first (touch.Reads y) [])
read_in events x u e = absurd cc

pub read_part : (events : List BoundEvent) (told : List Told) (x : ℕ) → IsTold part.Read x told ↔ Contains (all_meant events told) (touch.Reads x)
read_part events told x = (
  λ h. in_meant events told h.one (touch.Reads x) h.among (read_in events x h.one h.is),
  λ w. let m = meant_by events told (touch.Reads x) w in record { one = m.one; among = m.among; is = read_from events x m.one m.meant_is },
)

written_from : (events : List BoundEvent) (x : ℕ) (u : Told) → Contains (meant events u) (touch.Writes x) → number_of part.Written u ≡ Some x
written_from events x (tells.Writes y) m = let q = one_is (touch.Writes y) (touch.Writes x) m in cc
written_from events x (tells.Changes c) m = let r = next_from (touch.is_of_signal c) events (touch.Writes x) m in let q = r.1 in absurd cc
written_from events x (tells.DataRead c) m = let r = next_from (touch.is_data_read c) events (touch.Writes x) m in let q = r.1 in absurd cc
written_from events x (tells.DataWritten c) m = let r = next_from (touch.is_data_written c) events (touch.Writes x) m in let q = r.1 in absurd cc
written_from events x u m = let q = one_is _ _ m in absurd cc

written_in : (events : List BoundEvent) (x : ℕ) (u : Told) → number_of part.Written u ≡ Some x → Contains (meant events u) (touch.Writes x)
written_in events x (tells.Writes y) e = let q : y ≡ x = cc in subst (λ z. Contains (touch.Writes y ∷ []) (touch.Writes z)) q (in_first (touch.Writes y) [])
written_in events x u e = absurd cc

pub written_part : (events : List BoundEvent) (told : List Told) (x : ℕ) → IsTold part.Written x told ↔ Contains (all_meant events told) (touch.Writes x)
written_part events told x = (
  λ h. in_meant events told h.one (touch.Writes x) h.among (written_in events x h.one h.is),
  λ w. let m = meant_by events told (touch.Writes x) w in record { one = m.one; among = m.among; is = written_from events x m.one m.meant_is },
)

signal_read_from : (events : List BoundEvent) (x : ℕ) (u : Told) → Contains (meant events u) (touch.ReadsSignal x) → number_of part.SignalsRead u ≡ Some x
signal_read_from events x (tells.ReadsSignal y) m = let q = one_is (touch.ReadsSignal y) (touch.ReadsSignal x) m in cc
signal_read_from events x (tells.Changes c) m = let r = next_from (touch.is_of_signal c) events (touch.ReadsSignal x) m in let q = r.1 in absurd cc
signal_read_from events x (tells.DataRead c) m = let r = next_from (touch.is_data_read c) events (touch.ReadsSignal x) m in let q = r.1 in absurd cc
signal_read_from events x (tells.DataWritten c) m = let r = next_from (touch.is_data_written c) events (touch.ReadsSignal x) m in let q = r.1 in absurd cc
signal_read_from events x u m = let q = one_is _ _ m in absurd cc

signal_read_in : (events : List BoundEvent) (x : ℕ) (u : Told) → number_of part.SignalsRead u ≡ Some x → Contains (meant events u) (touch.ReadsSignal x)
signal_read_in events x (tells.ReadsSignal y) e = let q : y ≡ x = cc in subst (λ z. Contains (touch.ReadsSignal y ∷ []) (touch.ReadsSignal z)) q (in_first (touch.ReadsSignal y) [])
signal_read_in events x u e = absurd cc

pub signal_read_part : (events : List BoundEvent) (told : List Told) (x : ℕ) → IsTold part.SignalsRead x told ↔ Contains (all_meant events told) (touch.ReadsSignal x)
signal_read_part events told x = (
  λ h. in_meant events told h.one (touch.ReadsSignal x) h.among (signal_read_in events x h.one h.is),
  λ w. let m = meant_by events told (touch.ReadsSignal x) w in record { one = m.one; among = m.among; is = signal_read_from events x m.one m.meant_is },
)

signal_written_from : (events : List BoundEvent) (x : ℕ) (u : Told) → Contains (meant events u) (touch.WritesSignal x) → number_of part.SignalsWritten u ≡ Some x
signal_written_from events x (tells.WritesSignal y) m = let q = one_is (touch.WritesSignal y) (touch.WritesSignal x) m in cc
signal_written_from events x (tells.Changes c) m = let r = next_from (touch.is_of_signal c) events (touch.WritesSignal x) m in let q = r.1 in absurd cc
signal_written_from events x (tells.DataRead c) m = let r = next_from (touch.is_data_read c) events (touch.WritesSignal x) m in let q = r.1 in absurd cc
signal_written_from events x (tells.DataWritten c) m = let r = next_from (touch.is_data_written c) events (touch.WritesSignal x) m in let q = r.1 in absurd cc
signal_written_from events x u m = let q = one_is _ _ m in absurd cc

signal_written_in : (events : List BoundEvent) (x : ℕ) (u : Told) → number_of part.SignalsWritten u ≡ Some x → Contains (meant events u) (touch.WritesSignal x)
signal_written_in events x (tells.WritesSignal y) e = let q : y ≡ x = cc in subst (λ z. Contains (touch.WritesSignal y ∷ []) (touch.WritesSignal z)) q (in_first (touch.WritesSignal y) [])
signal_written_in events x u e = absurd cc

pub signal_written_part : (events : List BoundEvent) (told : List Told) (x : ℕ) → IsTold part.SignalsWritten x told ↔ Contains (all_meant events told) (touch.WritesSignal x)
signal_written_part events told x = (
  λ h. in_meant events told h.one (touch.WritesSignal x) h.among (signal_written_in events x h.one h.is),
  λ w. let m = meant_by events told (touch.WritesSignal x) w in record { one = m.one; among = m.among; is = signal_written_from events x m.one m.meant_is },
)

taken_from : (events : List BoundEvent) (x : ℕ) (u : Told) → Contains (meant events u) (touch.HoldsReading x) → number_of part.Takes u ≡ Some x
taken_from events x (tells.HoldsReading y) m = let q = one_is (touch.HoldsReading y) (touch.HoldsReading x) m in cc
taken_from events x (tells.Changes c) m = let r = next_from (touch.is_of_signal c) events (touch.HoldsReading x) m in let q = r.1 in absurd cc
taken_from events x (tells.DataRead c) m = let r = next_from (touch.is_data_read c) events (touch.HoldsReading x) m in let q = r.1 in absurd cc
taken_from events x (tells.DataWritten c) m = let r = next_from (touch.is_data_written c) events (touch.HoldsReading x) m in let q = r.1 in absurd cc
taken_from events x u m = let q = one_is _ _ m in absurd cc

taken_in : (events : List BoundEvent) (x : ℕ) (u : Told) → number_of part.Takes u ≡ Some x → Contains (meant events u) (touch.HoldsReading x)
taken_in events x (tells.HoldsReading y) e = let q : y ≡ x = cc in subst (λ z. Contains (touch.HoldsReading y ∷ []) (touch.HoldsReading z)) q (in_first (touch.HoldsReading y) [])
taken_in events x u e = absurd cc

pub taken_part : (events : List BoundEvent) (told : List Told) (x : ℕ) → IsTold part.Takes x told ↔ Contains (all_meant events told) (touch.HoldsReading x)
taken_part events told x = (
  λ h. in_meant events told h.one (touch.HoldsReading x) h.among (taken_in events x h.one h.is),
  λ w. let m = meant_by events told (touch.HoldsReading x) w in record { one = m.one; among = m.among; is = taken_from events x m.one m.meant_is },
)

put_from : (events : List BoundEvent) (x : ℕ) (u : Told) → Contains (meant events u) (touch.HoldsWriting x) → number_of part.Puts u ≡ Some x
put_from events x (tells.HoldsWriting y) m = let q = one_is (touch.HoldsWriting y) (touch.HoldsWriting x) m in cc
put_from events x (tells.Changes c) m = let r = next_from (touch.is_of_signal c) events (touch.HoldsWriting x) m in let q = r.1 in absurd cc
put_from events x (tells.DataRead c) m = let r = next_from (touch.is_data_read c) events (touch.HoldsWriting x) m in let q = r.1 in absurd cc
put_from events x (tells.DataWritten c) m = let r = next_from (touch.is_data_written c) events (touch.HoldsWriting x) m in let q = r.1 in absurd cc
put_from events x u m = let q = one_is _ _ m in absurd cc

put_in : (events : List BoundEvent) (x : ℕ) (u : Told) → number_of part.Puts u ≡ Some x → Contains (meant events u) (touch.HoldsWriting x)
put_in events x (tells.HoldsWriting y) e = let q : y ≡ x = cc in subst (λ z. Contains (touch.HoldsWriting y ∷ []) (touch.HoldsWriting z)) q (in_first (touch.HoldsWriting y) [])
put_in events x u e = absurd cc

pub put_part : (events : List BoundEvent) (told : List Told) (x : ℕ) → IsTold part.Puts x told ↔ Contains (all_meant events told) (touch.HoldsWriting x)
put_part events told x = (
  λ h. in_meant events told h.one (touch.HoldsWriting x) h.among (put_in events x h.one h.is),
  λ w. let m = meant_by events told (touch.HoldsWriting x) w in record { one = m.one; among = m.among; is = put_from events x m.one m.meant_is },
)

cancelled_from : (events : List BoundEvent) (x : ℕ) (u : Told) → Contains (meant events u) (touch.Cancels x) → number_of part.Cancelled u ≡ Some x
cancelled_from events x (tells.Cancels y) m = let q = one_is (touch.Cancels y) (touch.Cancels x) m in cc
cancelled_from events x (tells.Changes c) m = let r = next_from (touch.is_of_signal c) events (touch.Cancels x) m in let q = r.1 in absurd cc
cancelled_from events x (tells.DataRead c) m = let r = next_from (touch.is_data_read c) events (touch.Cancels x) m in let q = r.1 in absurd cc
cancelled_from events x (tells.DataWritten c) m = let r = next_from (touch.is_data_written c) events (touch.Cancels x) m in let q = r.1 in absurd cc
cancelled_from events x u m = let q = one_is _ _ m in absurd cc

cancelled_in : (events : List BoundEvent) (x : ℕ) (u : Told) → number_of part.Cancelled u ≡ Some x → Contains (meant events u) (touch.Cancels x)
cancelled_in events x (tells.Cancels y) e = let q : y ≡ x = cc in subst (λ z. Contains (touch.Cancels y ∷ []) (touch.Cancels z)) q (in_first (touch.Cancels y) [])
cancelled_in events x u e = absurd cc

pub cancelled_part : (events : List BoundEvent) (told : List Told) (x : ℕ) → IsTold part.Cancelled x told ↔ Contains (all_meant events told) (touch.Cancels x)
cancelled_part events told x = (
  λ h. in_meant events told h.one (touch.Cancels x) h.among (cancelled_in events x h.one h.is),
  λ w. let m = meant_by events told (touch.Cancels x) w in record { one = m.one; among = m.among; is = cancelled_from events x m.one m.meant_is },
)
