-- The sequential run by cycles: at a stamp each process in ascending number whose front is there, then the least stamp of a front.
use Rattle.std.specs.Prelude.{◌≡◌, ℕ, suc, ◌≤◌, ◌⊎◌, ◌∷◌, Some}
use Rattle.ooo_schedules.specs.Model.{Front, count, Model, ActOf, Log}

abbrev pub act_at : (m : Model) → Log m → ℕ → Front m.Stamp → ActOf m
act_at m xs p f = record { process = p; number = count p xs; segment = f.segment; stamp = f.stamp; reads = m.reads xs p f.segment f.stamp }

-- a process's turn in the evaluation at a stamp
pub data Turn (m : Model) (s : m.Stamp) (p : ℕ) (xs : Log m) : Log m → Type 0 where
  runs : (f : Front m.Stamp) → m.front xs p ≡ Some f → f.stamp ≡ s → Turn m s p xs (act_at m xs p f ∷ xs)
  waits : ((f : Front m.Stamp) → m.front xs p ≡ Some f → f.stamp ≡ s → ⊥) → Turn m s p xs xs

-- the turns from one process on, up to another: all of them, or up to an activation that ends the run
pub data Turns (m : Model) (s : m.Stamp) : ℕ → ℕ → Log m → Log m → Type 0 where
  no_more : {p : ℕ} {xs : Log m} → Turns m s p p xs xs
  one : {p q : ℕ} {xs zs : Log m} (ys : Log m) → Turn m s p xs ys → Turns m s (suc p) q ys zs → Turns m s p q xs zs

-- no front stands before a place
abbrev pub FromPlace : (m : Model) → m.Stamp → ℕ → Log m → Type 0
FromPlace m s p xs = (r : ℕ) (f : Front m.Stamp) → m.front xs r ≡ Some f → m.before s f.stamp ⊎ (s ≡ f.stamp) × (p ≤ r)
