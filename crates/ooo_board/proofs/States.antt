-- What processes do, and how many run.
use Rattle.std.proofs.Common.{◌≡◌, ◌≢◌, ◌↔◌, ℕ, zero, suc, ◌<◌, ◌≤◌, ◌==◌, if◌then◌else◌, List, [], ◌∷◌, length, Bool, true, false, Option, Some, None, refl, sym, ap, subst, ◌∙◌, ◌⊎◌, inl, inr, ⊎_elim, arith}
use Rattle.std.specs.Prelude.{is_some, slice_get, slice_index_or, slice_set, IsSome, IsTrue}
use Rattle.std.proofs.lemmas.Bool.{cases_lt, eqb-true, eq-eqb, ne_eqb}
use Rattle.std.proofs.lemmas.List.{get_or_past}
use Rattle.std.proofs.lemmas.Option.{slice_get-get_or, slice_get_read}
use Rattle.ooo_time.specs.declared.stamp.Stamp.{Stamp}
use Rattle.ooo_schedules.specs.Model.{Act, last}
use Rattle.ooo_dispatch.specs.declared.reads.Reads.{Reads}
use Rattle.ooo_dispatch.specs.Rules.{Rules, has}
use Rattle.ooo_dispatch.specs.Steps.{Replay, job_of}
use Rattle.ooo_fronts.specs.declared.choice.State.{State}
use Rattle.ooo_fronts.specs.declared.choice.State.TheVariants.{Waiting, Running, Abandoned}
use Rattle.ooo_fronts.specs.Choices.{AreStatesOf}
use Rattle.ooo_board.specs.Boards.{is_running, running_in}
use Rattle.ooo_board.specs.Cores.{AreStatesAfter, IsStateOf}

-- ---- what a process does

module _ (r : Rules) (s : Replay r) (p : ℕ) where
  -- a process with a job that wasn't abandoned has one out
  pub job_is_out : (j : Act Stamp Reads) → job_of r s p ≡ Some j → (has s.abandoned p ≡ false) × (last p s.board.out ≡ Some j)
  job_is_out j e = at (has s.abandoned p) refl e
    where
      at : (b : Bool) → has s.abandoned p ≡ b → (if b then None else last p s.board.out) ≡ Some j → (has s.abandoned p ≡ false) × (last p s.board.out ≡ Some j)
      at true f k = absurd cc
      at false f k = (f, k)

  no_job : (o : Option (Act Stamp Reads)) → last p s.board.out ≡ None → job_of r s p ≡ o → IsSome o → ⊥
  no_job None e f k = absurd cc
  no_job (Some j) e f k = let out = (job_is_out j f).1 in absurd cc

  not_lost : has s.abandoned p ≡ true → IsSome (job_of r s p) → ⊥
  not_lost e = at (has s.abandoned p) e
    where
      at : (b : Bool) → b ≡ true → IsSome (if b then None else last p s.board.out) → ⊥
      at true f k = absurd cc
      at false f k = absurd cc

  -- it waits just where no job of it is out
  pub waits : (x : State) → IsStateOf r s p x → (x ≡ Waiting) ↔ (last p s.board.out ≡ None)
  waits Waiting h = (λ e. h, λ e. refl)
  waits Running h = ((λ e. absurd cc), (λ e. absurd (no_job (job_of r s p) e refl h)))
  waits Abandoned h = ((λ e. absurd cc), (λ e. let some : is_some (last p s.board.out) ≡ true = h.1 in let none : is_some (last p s.board.out) ≡ false = ap is_some e in absurd cc))

  -- it runs just where a job of it is out that wasn't abandoned
  pub runs : (x : State) → IsStateOf r s p x → IsTrue (is_running x) ↔ IsSome (job_of r s p)
  runs Waiting h = ((λ e. absurd cc), (λ e. absurd (no_job (job_of r s p) h refl e)))
  runs Running h = (λ e. h, λ e. refl)
  runs Abandoned h = ((λ e. absurd cc), (λ e. absurd (not_lost h.0 e)))

not_running : (x : State) → (x ≡ Running → ⊥) → is_running x ≡ false
not_running Waiting n = refl
not_running Running n = absurd (n refl)
not_running Abandoned n = refl

module _ (r : Rules) (s : Replay r) (states : List State) (h : AreStatesAfter r s states) where
  state_at : (p : ℕ) → p < length states → IsStateOf r s p (slice_index_or states p Waiting)
  state_at p lt = h.each p (slice_index_or states p Waiting) (slice_get-get_or states p Waiting lt)

  pub are_states : AreStatesOf r s.board states
  are_states = record { count = h.counted; each = λ p lt. waits r s p (slice_index_or states p Waiting) (state_at p lt) }

  runs_at : (p : ℕ) → p < length states → IsTrue (is_running (slice_index_or states p Waiting)) ↔ IsSome (job_of r s p)
  runs_at p lt = runs r s p (slice_index_or states p Waiting) (state_at p lt)

  -- what a process does that is looked up
  module _ (p : ℕ) (x : State) (within : p < length r.design.processes) (e : x ≡ slice_index_or states p x) where
    found : IsStateOf r s p x
    found = h.each p x (slice_get_read states (length r.design.processes) p x (sym h.counted) within e)

    pub found_waiting : (x ≡ Waiting) ↔ (last p s.board.out ≡ None)
    found_waiting = waits r s p x found

    pub found_running : x ≡ Running → IsTrue true ↔ IsSome (job_of r s p)
    found_running k = subst (λ b. IsTrue b ↔ IsSome (job_of r s p)) (ap is_running k) (runs r s p x found)

    pub found_else : (x ≡ Running → ⊥) → IsTrue false ↔ IsSome (job_of r s p)
    found_else k = subst (λ b. IsTrue b ↔ IsSome (job_of r s p)) (not_running x k) (runs r s p x found)

-- ---- how many run

abbrev flag : List State → ℕ → Bool
flag xs q = is_running (slice_index_or xs q Waiting)

counted : (x : State) (xs : List State) → running_in (x ∷ xs) ≡ (if is_running x then suc (running_in xs) else running_in xs)
counted Waiting xs = refl
counted Running xs = refl
counted Abandoned xs = refl

same_count : (xs ys : List State) → length xs ≡ length ys → ((q : ℕ) → flag xs q ≡ flag ys q) → running_in xs ≡ running_in ys
same_count [] [] l h = refl
same_count [] (y ∷ ys) l h = absurd (omega arith)
same_count (x ∷ xs) [] l h = absurd (omega arith)
same_count (x ∷ xs) (y ∷ ys) l h =
    let rest = same_count xs ys (omega arith) (λ q. h (suc q)) in
    let first : is_running x ≡ is_running y = h 0 in
    counted x xs ∙ ap (λ n. if is_running x then suc n else n) rest ∙ ap (λ t. if t then suc (running_in ys) else running_in ys) first ∙ sym (counted y ys)

-- where one process more runs
one_runs : (xs ys : List State) (p : ℕ) → length xs ≡ length ys → p < length xs → ((q : ℕ) → q ≢ p → flag xs q ≡ flag ys q) → flag xs p ≡ true → flag ys p ≡ false →
    running_in xs ≡ suc (running_in ys)
one_runs [] ys p l lt h up down = absurd (omega arith)
one_runs (x ∷ xs) [] p l lt h up down = absurd (omega arith)
one_runs (x ∷ xs) (y ∷ ys) zero l lt h up down =
    let rest = same_count xs ys (omega arith) (λ q. h (suc q) (λ e. omega (arith, e))) in
    counted x xs ∙ ap (λ t. if t then suc (running_in xs) else running_in xs) up ∙ ap suc rest ∙ ap suc (sym (ap (λ t. if t then suc (running_in ys) else running_in ys) down) ∙ sym (counted y ys))
one_runs (x ∷ xs) (y ∷ ys) (suc p) l lt h up down =
    let rest = one_runs xs ys p (omega arith) (omega arith) (λ q d. h (suc q) (λ e. d (omega (arith, e)))) up down in
    let first : is_running x ≡ is_running y = h 0 (λ e. omega (arith, e)) in
    let left : running_in (x ∷ xs) ≡ (if is_running y then suc (suc (running_in ys)) else suc (running_in ys)) = counted x xs ∙ ap (λ n. if is_running x then suc n else n) rest ∙ ap (λ t. if t then suc (suc (running_in ys)) else suc (running_in ys)) first in
    left ∙ split (is_running y) (running_in ys) ∙ ap suc (sym (counted y ys))
  where
    split : (t : Bool) (n : ℕ) → (if t then suc (suc n) else suc n) ≡ suc (if t then suc n else n)
    split true n = refl
    split false n = refl

none_runs : (xs : List State) → ((q : ℕ) → flag xs q ≡ true → ⊥) → running_in xs ≡ 0
none_runs [] h = refl
none_runs (x ∷ xs) h = counted x xs ∙ at (is_running x) refl (none_runs xs (λ q. h (suc q)))
  where
    at : (t : Bool) → is_running x ≡ t → running_in xs ≡ 0 → (if t then suc (running_in xs) else running_in xs) ≡ 0
    at true e rest = absurd (h 0 e)
    at false e rest = rest

some_runs : (xs : List State) (p : ℕ) → flag xs p ≡ true → running_in xs ≡ 0 → ⊥
some_runs [] p here none = absurd cc
some_runs (x ∷ xs) zero here none = let e : running_in (x ∷ xs) ≡ suc (running_in xs) = counted x xs ∙ ap (λ t. if t then suc (running_in xs) else running_in xs) here in omega (arith, e, none)
some_runs (x ∷ xs) (suc p) here none = at (is_running x) refl (some_runs xs p here)
  where
    at : (t : Bool) → is_running x ≡ t → (running_in xs ≡ 0 → ⊥) → ⊥
    at true e rest = let f : running_in (x ∷ xs) ≡ suc (running_in xs) = counted x xs ∙ ap (λ t. if t then suc (running_in xs) else running_in xs) e in omega (arith, f, none)
    at false e rest = rest (sym (counted x xs ∙ ap (λ t. if t then suc (running_in xs) else running_in xs) e) ∙ none)

-- ---- jobs out

pub last_process : (p : ℕ) (xs : List (Act Stamp Reads)) (j : Act Stamp Reads) → last p xs ≡ Some j → j.process ≡ p
last_process p [] j e = absurd cc
last_process p (x ∷ xs) j e = at (x.process == p) refl e (last_process p xs j)
  where
    at : (b : Bool) → (x.process == p) ≡ b → (if b then Some x else last p xs) ≡ Some j → (last p xs ≡ Some j → j.process ≡ p) → j.process ≡ p
    at true k f rest = let same : x ≡ j = cc in ap (λ y. y.process) (sym same) ∙ eqb-true x.process p k
    at false k f rest = rest f

module _ (r : Rules) (s : Replay r) (states : List State) (h : AreStatesAfter r s states) where
  flag_is : (q : ℕ) → q < length r.design.processes → flag states q ≡ is_some (job_of r s q)
  flag_is q lt = same (flag states q) (is_some (job_of r s q)) (let n = h.counted in runs_at r s states h q (omega (arith, lt, n)))
    where
      same : (a b : Bool) → (a ≡ true) ↔ (b ≡ true) → a ≡ b
      same true true k = refl
      same true false k = sym (k.0 refl)
      same false true k = k.1 refl
      same false false k = refl

  flag_past : (q : ℕ) → length r.design.processes ≤ q → flag states q ≡ false
  flag_past q past = let n = h.counted in ap is_running (get_or_past states q Waiting (omega (arith, past, n)))

  -- where a job is out that wasn't abandoned, some process runs
  pub busy : (p : ℕ) → p < length r.design.processes → IsSome (job_of r s p) → 1 ≤ running_in states
  busy p lt some = at (running_in states) refl
    where
      at : (n : ℕ) → running_in states ≡ n → 1 ≤ n
      at zero e = absurd (some_runs states p (flag_is p lt ∙ some) e)
      at (suc n) e = omega arith

  job_is : (p : ℕ) → s.abandoned ≡ [] → job_of r s p ≡ last p s.board.out
  job_is p e = ap (λ ps. if has ps p then None else last p s.board.out) e

  -- where none was abandoned and no process runs, no job is out
  pub quiet : s.abandoned ≡ [] → ((q : ℕ) (j : Act Stamp Reads) → last q s.board.out ≡ Some j → q < length r.design.processes) → running_in states ≡ 0 → s.board.out ≡ []
  quiet none within zero_run = at s.board.out refl
    where
      at : (out : List (Act Stamp Reads)) → s.board.out ≡ out → out ≡ []
      at [] e = refl
      at (j ∷ js) e =
          let own : last j.process (j ∷ js) ≡ Some j = rw (eq-eqb j.process j.process refl) refl in
          let is : last j.process s.board.out ≡ Some j = ap (last j.process) e ∙ own in
          absurd (some_runs states j.process (flag_is j.process (within j.process j is) ∙ ap is_some (job_is j.process none ∙ is)) zero_run)

  -- and where no job is out, none runs
  pub still : s.board.out ≡ [] → running_in states ≡ 0
  still e = none_runs states (λ q up. ⊎_elim
      (λ lt. no_job r s q (job_of r s q) (ap (last q) e) refl (sym (flag_is q lt) ∙ up))
      (λ past. let c : true ≡ false = sym up ∙ flag_past q past in absurd cc) (cases_lt q (length r.design.processes)))

-- ---- a step

-- where a job goes out, one process more runs; and where it comes back or is abandoned, one less
pub one_more_runs : (r : Rules) (s s' : Replay r) (p : ℕ) (states states' : List State) → AreStatesAfter r s states → AreStatesAfter r s' states' → p < length r.design.processes →
    ((q : ℕ) → q ≢ p → job_of r s' q ≡ job_of r s q) → job_of r s p ≡ None → IsSome (job_of r s' p) → running_in states' ≡ suc (running_in states)
one_more_runs r s s' p states states' h h' within others none some =
    let n = h.counted in
    let n' = h'.counted in
    one_runs states' states p (omega (arith, n, n')) (omega (arith, n', within)) (λ q d. ⊎_elim
    (λ lt. flag_is r s' states' h' q lt ∙ ap is_some (others q d) ∙ sym (flag_is r s states h q lt))
    (λ past. flag_past r s' states' h' q past ∙ sym (flag_past r s states h q past)) (cases_lt q (length r.design.processes)))
    (flag_is r s' states' h' p within ∙ some) (flag_is r s states h p within ∙ ap is_some none)

-- a job more changes nothing of another process
pub last_past : (q : ℕ) (j : Act Stamp Reads) (xs : List (Act Stamp Reads)) → j.process ≢ q → last q (j ∷ xs) ≡ last q xs
last_past q j xs differs = ap (λ t. if t then Some j else last q xs) (ne_eqb j.process q differs)

pub last_first : (j : Act Stamp Reads) (xs : List (Act Stamp Reads)) → last j.process (j ∷ xs) ≡ Some j
last_first j xs = ap (λ t. if t then Some j else last j.process xs) (eq-eqb j.process j.process refl)

pub idle_job : (r : Rules) (s : Replay r) (p : ℕ) → last p s.board.out ≡ None → job_of r s p ≡ None
idle_job r s p e = at (has s.abandoned p)
  where
    at : (t : Bool) → (if t then None else last p s.board.out) ≡ None
    at true = refl
    at false = e

-- no more run than there are
pub few_run : (xs : List State) → running_in xs ≤ length xs
few_run [] = omega arith
few_run (x ∷ xs) = at (is_running x) (counted x xs) (few_run xs)
  where
    at : (t : Bool) → running_in (x ∷ xs) ≡ (if t then suc (running_in xs) else running_in xs) → running_in xs ≤ length xs → running_in (x ∷ xs) ≤ suc (length xs)
    at true e h = omega (arith, e, h)
    at false e h = omega (arith, e, h)

pub same_runs : (r : Rules) (s : Replay r) (xs ys : List State) → AreStatesAfter r s xs → AreStatesAfter r s ys → running_in xs ≡ running_in ys
same_runs r s xs ys h k = same_count xs ys (h.counted ∙ sym k.counted) (λ q. ⊎_elim
    (λ lt. flag_is r s xs h q lt ∙ sym (flag_is r s ys k q lt))
    (λ past. flag_past r s xs h q past ∙ sym (flag_past r s ys k q past)) (cases_lt q (length r.design.processes)))

-- an item of a list of which one is set is that one, or stands elsewhere
pub set_apart : {A : Type 0} (xs : List A) (i : ℕ) (a : A) (k : ℕ) (x : A) → slice_get (slice_set xs i a) k ≡ Some x → ((k ≢ i) × (slice_get xs k ≡ Some x)) ⊎ ((i ≡ k) × (a ≡ x))
set_apart [] i a k x h = absurd cc
set_apart (y ∷ ys) zero a zero x h = inr (refl, cc)
set_apart (y ∷ ys) zero a (suc k) x h = inl ((λ e. absurd cc), h)
set_apart (y ∷ ys) (suc i) a zero x h = inl ((λ e. absurd cc), h)
set_apart (y ∷ ys) (suc i) a (suc k) x h = elim (set_apart ys i a k x h) [
  | inl other ↦ inl ((λ e. other.0 (let same : k ≡ i = cc in same)), other.1)
  | inr own ↦ inr (ap suc own.0, own.1)
]
