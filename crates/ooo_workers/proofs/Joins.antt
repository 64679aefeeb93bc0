-- The passes after every worker has ended.
use Rattle.std.proofs.Common.{◌≡◌, ℕ, zero, suc, ◌<◌, List, [], ◌∷◌, ◌++◌, length, take, drop, refl, ap, ◌∙◌, subst, arith, None, append-nil, take_all, drop_of_length-le, slice_index_or, ⊎_elim}
use Rattle.atomic_table.specs.Seated.{TableId}
use Rattle.ooo_board.specs.Boards.{Shown}
use Rattle.ooo_workers.specs.declared.turn.Worked.{Worked}
use Rattle.ooo_workers.specs.declared.turn.Worked.TheVariants as worked
use Rattle.ooo_workers.specs.Boards.{Begins}
use Rattle.ooo_workers.specs.Passes.{PassIs, Ranged, IsIdle, WorksTo, EachWorks, EndedBy, Closes, fresh, fresh_from}
use Rattle.ooo_workers.proofs.Begun.{begins_trans}

pub record Kept (p q : PassIs) : Type 0 where
  pub yard : q.yard ≡ p.yard
  pub number : q.number ≡ p.number
  pub out : q.out ≡ None
  pub begins : Begins p.known q.known

ended_kept : (p q : PassIs) (w : Worked) → q.out ≡ None → EndedBy p q w → Kept p q
ended_kept p q worked.Over out h = let g = h.0 in record { yard = g.yard; number = g.number; out = out; begins = g.begins }
ended_kept p q worked.Lost out h = let g = h.0 in record { yard = g.yard; number = g.number; out = out; begins = g.begins }
ended_kept p q worked.NoMemory out h =
    ⊎_elim (λ g. record { yard = g.yard; number = g.number; out = out; begins = g.begins }) (λ g. record { yard = g.yard; number = g.number; out = out; begins = g.begins }) h

kept : (p q : PassIs) → WorksTo p q → Kept p q
kept p q h = ended_kept p q h.0 h.1.idle h.1.ended

abbrev pub AllWork : List PassIs → List PassIs → Type 0
AllWork old new = (i : ℕ) (d : PassIs) → i < length old → WorksTo (slice_index_or old i d) (slice_index_or new i d)

pub each_works : (old new : List PassIs) → length new ≡ length old → AllWork old new → EachWorks old new
each_works [] [] len h = tt
each_works [] (y ∷ ys) len h = absurd (omega arith)
each_works (x ∷ xs) [] len h = absurd (omega arith)
each_works (x ∷ xs) (y ∷ ys) len h = (h 0 x (omega arith), each_works xs ys (omega arith) (λ i d lt. h (suc i) d (omega arith)))

pub works_at : (p p' q' q : PassIs) → p' ≡ p → q' ≡ q → WorksTo p' q' → WorksTo p q
works_at p p' q' q e f h = subst (λ (x : PassIs). WorksTo x q) e (subst (λ (y : PassIs). WorksTo p' y) f h)

pub each_length : (old new : List PassIs) → EachWorks old new → length new ≡ length old
each_length [] [] h = refl
each_length [] (y ∷ ys) h = absurd h
each_length (x ∷ xs) [] h = absurd h
each_length (x ∷ xs) (y ∷ ys) h = ap suc (each_length xs ys h.1)

pub ranged_after : (id : TableId) (n : ℕ) (old new : List PassIs) → EachWorks old new → Ranged id n old → Ranged id n new
ranged_after id n [] [] h r = tt
ranged_after id n [] (y ∷ ys) h r = absurd h
ranged_after id n (x ∷ xs) [] h r = absurd h
ranged_after id n (x ∷ xs) (y ∷ ys) h r =
    let k = kept x y h.0 in
    (k.yard ∙ r.0, k.number ∙ r.1, k.out, ranged_after id (suc n) xs ys h.1 r.3)

pub ranged_fresh : (id : TableId) (b : Shown) (n m : ℕ) → Ranged id n (fresh_from id b n m)
ranged_fresh id b n zero = tt
ranged_fresh id b n (suc m) = (refl, refl, refl, ranged_fresh id b (suc n) m)

pub length_fresh : (id : TableId) (b : Shown) (n m : ℕ) → length (fresh_from id b n m) ≡ m
length_fresh id b n zero = refl
length_fresh id b n (suc m) = ap suc (length_fresh id b (suc n) m)

pub all_idle : (id : TableId) (n : ℕ) (ps : List PassIs) → Ranged id n ps → (k : ℕ) (d : PassIs) → k < length ps → IsIdle id (slice_index_or ps k d)
all_idle id n [] r k d lt = absurd (omega arith)
all_idle id n (p ∷ ps) r zero d lt = (r.0, r.2)
all_idle id n (p ∷ ps) r (suc k) d lt = all_idle id (suc n) ps r.3 k d (omega arith)

-- the slice that was lent is the whole list
pub overlay : (n : ℕ) (old new : List PassIs) → length old ≡ n → length new ≡ n → take n (new ++ drop (length new) old) ≡ new
overlay n old new a b = rw (drop_of_length-le old {i = length new} (omega arith), append-nil new) (take_all n new (omega arith))

pub board_begins : (id : TableId) (b c : Shown) (m : ℕ) (new : List PassIs) → 0 < m → EachWorks (fresh_from id b 0 m) new → Closes new c → Begins b c
board_begins id b c zero new lt h closes = absurd (omega arith)
board_begins id b c (suc m) [] lt h closes = absurd h
board_begins id b c (suc m) (y ∷ ys) lt h closes = begins_trans b y.known c (kept (fresh id b 0) y h.0).begins (closes.begins 0 y refl)
