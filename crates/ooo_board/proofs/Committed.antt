-- What holds of a job that is committed, by what holds of all lawful lists of steps.
use Rattle.std.proofs.Common.{◌≡◌, ◌≢◌, ℕ, suc, ◌<◌, ◌≤◌, ◌+◌, ◌*◌, ◌^◌, ◌==◌, ◌⊎◌, inl, inr, ⊎_elim, List, [], ◌∷◌, ◌++◌, Bool, true, false, if◌then◌else◌, Option, Some, None, length, refl, sym, ap, subst, ◌∙◌, arith}
use Rattle.std.specs.Prelude.{Contains}
use Rattle.std.proofs.lemmas.Nat.{row_fits}
use Rattle.std.proofs.lemmas.Bool.{eqb-true, eq-eqb}
use Rattle.std.proofs.lemmas.Option.{slice_get-get_or}
use Rattle.ooo_time.specs.declared.stamp.Stamp.{Stamp}
use Rattle.ooo_time.specs.Scales.{greatest_delta, greatest_time}
use Rattle.ooo_value.specs.declared.bound.BoundVariable.{BoundVariable}
use Rattle.ooo_schedules.specs.Design as order
use Rattle.ooo_schedules.specs.Design.{Wait, front_by, sort}
use Rattle.ooo_schedules.specs.Model.{Act, Dispatched, Front, In, commit, count, dispatch, empty, job, last, without}
use Rattle.ooo_schedules.specs.Program.{Left, Waits, Ended, Sound, design, wait_by, wait_left}
use Rattle.ooo_schedules.specs.Tables.{program}
use Rattle.ooo_dispatch.specs.declared.reads.Reads.{Reads}
use Rattle.ooo_dispatch.specs.declared.step.Step.{Step}
use Rattle.ooo_dispatch.specs.declared.step.Step.TheVariants.{Commit}
use Rattle.ooo_dispatch.specs.Boards.{AreRules, Board, IsLawful, model}
use Rattle.ooo_dispatch.specs.Inside.{AreInside}
use Rattle.ooo_dispatch.specs.Rules.{Rules, access_of, has, process_of, tables, variables_for}
use Rattle.ooo_dispatch.specs.Steps.{Replay, after_step, committed_as, job_of, replayed}
use Rattle.ooo_board.specs.Committing.{IsOwnWait, once_committed}

abbrev Activation : Type 0
Activation = Act Stamp Reads

-- ---- lists of steps

pub replayed_on : (r : Rules) (s : Replay r) (steps : List Step) (step : Step) → replayed r s (steps ++ step ∷ []) ≡ after_step r (replayed r s steps) step
replayed_on r s [] step = refl
replayed_on r s (x ∷ xs) step = replayed_on r (after_step r s x) xs step

pub step_is : (r : Rules) (s : Replay r) (p : ℕ) (j : Activation) → job_of r s p ≡ Some j → after_step r s (Commit p) ≡ once_committed r s j
step_is r s p j out = λ i. record { board = committed_as r s.board (out i); abandoned = s.abandoned }

pub job_out : (r : Rules) (s : Replay r) (p : ℕ) (j : Activation) → job_of r s p ≡ Some j → last p s.board.out ≡ Some j
job_out r s p j out = at (has s.abandoned p) out
  where
    at : (b : Bool) → (if b then None else last p s.board.out) ≡ Some j → last p s.board.out ≡ Some j
    at true e = absurd cc
    at false e = e

-- ---- the last one

pub last_of : (q : ℕ) (xs : List Activation) (x : Activation) → last q xs ≡ Some x → x.process ≡ q
last_of q [] x e = absurd cc
last_of q (y ∷ xs) x e = at (y.process == q) refl e (last_of q xs x)
  where
    at : (b : Bool) → (y.process == q) ≡ b → (if b then Some y else last q xs) ≡ Some x → (last q xs ≡ Some x → x.process ≡ q) → x.process ≡ q
    at true h k rest = let same : y ≡ x = cc in subst (λ z. z.process ≡ q) same (eqb-true y.process q h)
    at false h k rest = rest k

pub last_in : (q : ℕ) (xs : List Activation) (x : Activation) → last q xs ≡ Some x → In x xs
last_in q [] x e = absurd cc
last_in q (y ∷ xs) x e = at (y.process == q) e (last_in q xs x)
  where
    at : (b : Bool) → (if b then Some y else last q xs) ≡ Some x → (last q xs ≡ Some x → In x xs) → (x ≡ y) ⊎ In x xs
    at true k rest = let same : y ≡ x = cc in inl (sym same)
    at false k rest = inr (rest k)

pub in_without : (q : ℕ) (xs : List Activation) (y : Activation) → In y (without q xs) → In y xs
in_without q [] y i = i
in_without q (x ∷ xs) y i = at (x.process == q) i (in_without q xs y)
  where
    at : (b : Bool) → In y (if b then without q xs else x ∷ without q xs) → (In y (without q xs) → In y xs) → In y (x ∷ xs)
    at true j rest = inr (rest j)
    at false (inl e) rest = inl e
    at false (inr j) rest = inr (rest j)

-- a process of which a job is out, and is committed, has none out then; the jobs of others stay
pub last_without : (q : ℕ) (xs : List Activation) → last q (without q xs) ≡ None
last_without q [] = refl
last_without q (x ∷ xs) = at (x.process == q) refl (last_without q xs)
  where
    at : (b : Bool) → (x.process == q) ≡ b → last q (without q xs) ≡ None → last q (if b then without q xs else x ∷ without q xs) ≡ None
    at true e rest = rest
    at false e rest = rw e rest

pub last_other : (p q : ℕ) (xs : List Activation) → q ≢ p → last q (without p xs) ≡ last q xs
last_other p q [] differs = refl
last_other p q (x ∷ xs) differs = at (x.process == p) refl (x.process == q) refl (last_other p q xs differs)
  where
    at : (a : Bool) → (x.process == p) ≡ a → (b : Bool) → (x.process == q) ≡ b → last q (without p xs) ≡ last q xs →
        last q (if a then without p xs else x ∷ without p xs) ≡ (if b then Some x else last q xs)
    at true e true f rest = absurd (differs (sym (eqb-true x.process q f) ∙ eqb-true x.process p e))
    at true e false f rest = rest
    at false e true f rest = rw f refl
    at false e false f rest = rw f rest

-- ---- of which process a segment is

module _ (r : Rules) (sound : Sound (program (tables r))) where
  abbrev IsOwned : Activation → Type 0
  IsOwned y = process_of r y.segment ≡ y.process

  wait_owner : (q : ℕ) (o : Option Activation) (w : Wait Stamp) → ((x : Activation) → o ≡ Some x → process_of r x.segment ≡ q) → wait_by (program (tables r)) q o ≡ Some w → process_of r w.segment ≡ q
  wait_owner q None w own e = sound.start_owner q w e
  wait_owner q (Some z) w own e = at ((tables r).act z).left refl e
    where
      at : (l : Left) → ((tables r).act z).left ≡ l → wait_left z.stamp l ≡ Some w → process_of r w.segment ≡ q
      at Ended k h = absurd cc
      at (Waits n t es) k h = let same : n ≡ w.segment = cc in ap (process_of r) (sym same) ∙ sound.next z n t es k ∙ own z refl

  wait_events : (q : ℕ) (o : Option Activation) (w : Wait Stamp) (e : ℕ) → wait_by (program (tables r)) q o ≡ Some w → In e w.events → (tables r).waits_on w.segment e ≡ true
  wait_events q None w e h i = sound.start_waits q w e h i
  wait_events q (Some z) w e h i = at ((tables r).act z).left refl h
    where
      at : (l : Left) → ((tables r).act z).left ≡ l → wait_left z.stamp l ≡ Some w → (tables r).waits_on w.segment e ≡ true
      at Ended k h = absurd cc
      at (Waits n t es) k h =
          let same : n ≡ w.segment = cc in
          let events : es ≡ w.events = cc in
          subst (λ g. (tables r).waits_on g e ≡ true) same (sound.next_waits z n t es e k (subst (In e) (sym events) i))

  front_owner : (b : Board r) (p : ℕ) (f : Front Stamp) → ((y : Activation) → In y b.log → IsOwned y) → (model r).front b.log p ≡ Some f → process_of r f.segment ≡ p
  front_owner b p f own e = at (wait_by (program (tables r)) p (last p b.log)) refl e
    where
      of_front : (w : Wait Stamp) (o : Option Stamp) → front_by w.segment o ≡ Some f → w.segment ≡ f.segment
      of_front w None h = absurd cc
      of_front w (Some s) h = cc

      at : (o : Option (Wait Stamp)) → wait_by (program (tables r)) p (last p b.log) ≡ o → order.front_when (design (program (tables r))) (sort (design (program (tables r))) b.log) o ≡ Some f → process_of r f.segment ≡ p
      at None k h = absurd cc
      at (Some w) k h =
          ap (process_of r) (sym (of_front w (order.soonest (design (program (tables r))) (order.times (design (program (tables r))) w (sort (design (program (tables r))) b.log))) h))
          ∙ wait_owner p (last p b.log) w (λ x l. own x (last_in p b.log x l) ∙ last_of p b.log x l) k

  -- each activation of a lawful board is of its segment's process
  pub owned : (b : Board r) → IsLawful r b → (y : Activation) → Dispatched (model r) y b → IsOwned y
  owned _ empty y i = ⊎_elim (λ j. absurd j) (λ j. absurd j) i
  owned _ (dispatch {st} p f h a) y i =
      let log : (z : Activation) → In z st.log → IsOwned z = λ z j. owned st h z (inl j) in
      ⊎_elim (λ j. log y j)
      (λ j. ⊎_elim (λ e. subst (λ z. process_of r z.segment ≡ z.process) (sym e) (front_owner st p f log a.front)) (λ k. owned st h y (inr k)) j) i
  owned _ (commit {st} j h i) y k =
      ⊎_elim (λ l. ⊎_elim (λ e. subst (λ z. process_of r z.segment ≡ z.process) (sym e) (owned st h j (inr i))) (λ l. owned st h y (inl l)) l)
      (λ l. owned st h y (inr (in_without j.process st.out y l))) k

  wait_within : (q : ℕ) (o : Option Activation) (w : Wait Stamp) → process_of r w.segment ≡ q → wait_by (program (tables r)) q o ≡ Some w → q < length r.design.processes
  wait_within q None w own h = sound.starting q w h
  wait_within q (Some z) w own h = at ((tables r).act z).left refl h
    where
      at : (l : Left) → ((tables r).act z).left ≡ l → wait_left z.stamp l ≡ Some w → q < length r.design.processes
      at Ended k h = absurd cc
      at (Waits n t es) k h =
          let same : n ≡ w.segment = cc in
          subst (λ x. x < length r.design.processes) (ap (process_of r) same ∙ own) (sound.next_process z n t es k)

  pub own_wait : (b : Board r) → IsLawful r b → (q : ℕ) (w : Wait Stamp) → wait_by (program (tables r)) q (last q b.log) ≡ Some w → IsOwnWait r q w
  own_wait b lawful q w e = let own = wait_owner q (last q b.log) w (λ x l. owned b lawful x (inl (last_in q b.log x l)) ∙ last_of q b.log x l) e in record {
    within = wait_within q (last q b.log) w own e;
    own = own;
    waits = λ v i. wait_events q (last q b.log) w v e i;
  }

-- ---- what a job reads

length_for : (r : Rules) (g x : ℕ) (vs : List BoundVariable) (ys : List Activation) → length (variables_for r g x vs ys) ≡ length vs
length_for r g x [] ys = refl
length_for r g x (v ∷ vs) ys = ap suc (length_for r g (suc x) vs ys)

-- each activation of a lawful board reads all variables
pub sized : (r : Rules) (b : Board r) → IsLawful r b → (y : Activation) → Dispatched (model r) y b → length y.reads.variables ≡ length r.design.variables
sized r _ empty y i = ⊎_elim (λ j. absurd j) (λ j. absurd j) i
sized r _ (dispatch {st} p f h a) y i =
    ⊎_elim (λ j. sized r st h y (inl j))
    (λ j. ⊎_elim
    (λ e. ap (λ (z : Activation). length z.reads.variables) e
    ∙ length_for r f.segment 0 r.design.variables (order.only ((design (program (tables r))).sees p f.segment f.stamp) (sort (design (program (tables r))) st.log)))
    (λ k. sized r st h y (inr k)) j) i
sized r _ (commit {st} j h i) y k =
    ⊎_elim (λ l. ⊎_elim (λ e. ap (λ (z : Activation). length z.reads.variables) e ∙ sized r st h j (inr i)) (λ l. sized r st h y (inl l)) l)
    (λ l. sized r st h y (inr (in_without j.process st.out y l))) k

-- ---- of each process one job at most is out

out_apart : (q : ℕ) (xs : List Activation) (y : Activation) → In y (without q xs) → y.process ≢ q
out_apart q [] y i e = i
out_apart q (x ∷ xs) y i e = at (x.process == q) refl i (λ j. out_apart q xs y j e)
  where
    at : (b : Bool) → (x.process == q) ≡ b → In y (if b then without q xs else x ∷ without q xs) → (In y (without q xs) → ⊥) → ⊥
    at true h j rest = rest j
    at false h (inl same) rest = absurd (grind (arith, h, ap (λ (z : Activation). z.process) same, e))
    at false h (inr j) rest = rest j

pub without_in : (q : ℕ) (xs : List Activation) (y : Activation) → y.process ≢ q → In y xs → In y (without q xs)
without_in q [] y differs i = i
without_in q (x ∷ xs) y differs i = at (x.process == q) refl i (without_in q xs y differs)
  where
    at : (b : Bool) → (x.process == q) ≡ b → (y ≡ x) ⊎ In y xs → (In y xs → In y (without q xs)) → In y (if b then without q xs else x ∷ without q xs)
    at true h (inl e) rest = absurd (differs (ap (λ (z : Activation). z.process) e ∙ eqb-true x.process q h))
    at true h (inr j) rest = rest j
    at false h (inl e) rest = inl e
    at false h (inr j) rest = inr (rest j)

only_out : (r : Rules) (b : Board r) → IsLawful r b → (y : Activation) → In y b.out → last y.process b.out ≡ Some y
only_out r _ empty y i = absurd i
only_out r _ (dispatch {st} p f h a) y (inl e) = rw (e, eq-eqb p p refl) refl
only_out r _ (dispatch {st} p f h a) y (inr i) = at (p == y.process) refl (only_out r st h y i)
  where
    at : (b : Bool) → (p == y.process) ≡ b → last y.process st.out ≡ Some y → (if b then Some (job (model r) st p f) else last y.process st.out) ≡ Some y
    at true e rest = let no : last y.process st.out ≡ None = ap (λ q. last q st.out) (sym (eqb-true p y.process e)) ∙ a.idle in let bad = sym no ∙ rest in absurd cc
    at false e rest = rest
only_out r _ (commit {st} j h k) y i =
    last_other j.process y.process st.out (out_apart j.process st.out y i) ∙ only_out r st h y (in_without j.process st.out y i)

pub alone : (r : Rules) (b : Board r) → IsLawful r b → (p : ℕ) (j k : Activation) → last p b.out ≡ Some j → In k b.out → k.process ≡ p → k ≡ j
alone r b lawful p j k out i e =
    let same : Some k ≡ Some j = sym (only_out r b lawful k i) ∙ ap (λ q. last q b.out) e ∙ out in
    cc

-- ---- numbers

pub few_times : (n stop deltas : ℕ) → stop ≤ greatest_time → deltas ≤ greatest_delta → n ≤ (stop + 1) * deltas → n < 2 ^ 128
few_times n stop deltas stops limit le =
    let fits = row_fits stop deltas (2 ^ 62) greatest_delta (omega arith) limit in
    let same : (stop + 1) * deltas ≡ stop * deltas + deltas = grind arith in
    omega (arith, fits, same)

pub counted_once : (p : ℕ) (j : Activation) (log : List Activation) → j.process ≡ p → count p (j ∷ log) ≡ count p log + 1
counted_once p j log e = rw (eq-eqb j.process p e) (omega arith)

-- ---- where an access is

pub written_inside : (r : Rules) → AreRules r → AreInside r → (g x : ℕ) → g < length r.segments → Contains (access_of r g).written x → x < length r.design.variables
written_inside r rules inside g x lt there =
    let count = rules.access_count in
    (inside g (access_of r g) (slice_get-get_or r.access g _ (omega arith))).written x there
