-- Each activation of a lawful board is of its segment's process.
use Rattle.std.proofs.Common.{◌≡◌, ◌≢◌, ℕ, inl, inr, List, [], ◌∷◌, Bool, true, false, ◌==◌, if◌then◌else◌, Option, Some, None, refl, sym, ap, ◌∙◌, subst}
use Rattle.std.proofs.lemmas.Bool.{eqb-true, eqb-false}
use Rattle.ooo_time.specs.declared.stamp.Stamp.{Stamp}
use Rattle.ooo_schedules.specs.Design as order
use Rattle.ooo_schedules.specs.Design.{Wait, front_by, front_when, soonest, sort, times}
use Rattle.ooo_schedules.specs.Model.{Act, Dispatched, Front, In, commit, dispatch, empty, last, without}
use Rattle.ooo_schedules.specs.Program.{Left, Waits, Ended, Sound, design, wait_by, wait_left}
use Rattle.ooo_schedules.specs.Tables.{program}
use Rattle.ooo_dispatch.specs.declared.reads.Reads.{Reads}
use Rattle.ooo_dispatch.specs.Boards.{Board, IsLawful, model}
use Rattle.ooo_dispatch.specs.Rules.{Rules, deed_of, process_of, tables}
use Rattle.ooo_dispatch.proofs.Allowed.{last_in}

abbrev Activation : Type 0
Activation = Act Stamp Reads

-- the last activation of a process is of it
pub last_of : (q : ℕ) (xs : List Activation) (x : Activation) → last q xs ≡ Some x → x.process ≡ q
last_of q [] x e = absurd cc
last_of q (y ∷ xs) x e = at (y.process == q) refl e (last_of q xs x)
  where
    at : (b : Bool) → (y.process == q) ≡ b → (if b then Some y else last q xs) ≡ Some x → (last q xs ≡ Some x → x.process ≡ q) → x.process ≡ q
    at true k h rest = let same : y ≡ x = cc in ap (λ z. z.process) (sym same) ∙ eqb-true y.process q k
    at false k h rest = rest h

-- what is left without a process is of another one
pub in_without : (q : ℕ) (xs : List Activation) (x : Activation) → In x (without q xs) → In x xs × (x.process ≢ q)
in_without q [] x i = absurd i
in_without q (y ∷ xs) x i = at (y.process == q) refl i (in_without q xs x)
  where
    at : (b : Bool) → (y.process == q) ≡ b → In x (if b then without q xs else y ∷ without q xs) → (In x (without q xs) → In x xs × (x.process ≢ q)) → In x (y ∷ xs) × (x.process ≢ q)
    at true k j rest = let h = rest j in (inr h.0, h.1)
    at false k (inl e) rest = (inl e, λ same. eqb-false y.process q k (ap (λ z. z.process) (sym e) ∙ same))
    at false k (inr j) rest = let h = rest j in (inr h.0, h.1)

module _ (r : Rules) (sound : Sound (program (tables r))) where
  abbrev P : order.Design
  P = design (program (tables r))

  -- the activation is of its segment's process
  abbrev pub IsOwned : Activation → Type 0
  IsOwned y = process_of r y.segment ≡ y.process

  next_owner : (z : Activation) (l : Left) (w : Wait Stamp) → (deed_of r z).left ≡ l → wait_left z.stamp l ≡ Some w → process_of r w.segment ≡ process_of r z.segment
  next_owner z (Waits n t es) w e h =
      let same : n ≡ w.segment = ap (λ o. elim o [ None ↦ n | Some v ↦ v.segment ]) h in
      ap (process_of r) (sym same) ∙ sound.next z n t es e
  next_owner z Ended w e h = absurd cc

  wait_owner : (log : List Activation) → ((y : Activation) → In y log → IsOwned y) → (p : ℕ) (o : Option Activation) (w : Wait Stamp) → last p log ≡ o → wait_by (program (tables r)) p o ≡ Some w → process_of r w.segment ≡ p
  wait_owner log own p None w e h = sound.start_owner p w h
  wait_owner log own p (Some z) w e h = next_owner z (deed_of r z).left w refl h ∙ own z (last_in p log z e) ∙ last_of p log z e

  pub front_owner : (log : List Activation) → ((y : Activation) → In y log → IsOwned y) → (p : ℕ) (f : Front Stamp) → (model r).front log p ≡ Some f → process_of r f.segment ≡ p
  front_owner log own p f front = at (wait_by (program (tables r)) p (last p log)) refl front
    where
      by : (g : ℕ) (o : Option Stamp) → front_by g o ≡ Some f → g ≡ f.segment
      by g None h = absurd cc
      by g (Some s) h = ap (λ o. elim o [ None ↦ g | Some v ↦ v.segment ]) h

      at : (o : Option (Wait Stamp)) → wait_by (program (tables r)) p (last p log) ≡ o → front_when P (sort P log) o ≡ Some f → process_of r f.segment ≡ p
      at None e h = absurd cc
      at (Some w) e h = ap (process_of r) (sym (by w.segment (soonest P (times P w (sort P log))) h)) ∙ wait_owner log own p (last p log) w refl e

  pub owned : {b : Board r} → IsLawful r b → (y : Activation) → Dispatched (model r) y b → IsOwned y
  owned empty y (inl i) = absurd i
  owned empty y (inr i) = absurd i
  owned (dispatch p f lawful a) y (inl i) = owned lawful y (inl i)
  owned (dispatch p f lawful a) y (inr (inl e)) = subst IsOwned (sym e) (front_owner _ (λ z i. owned lawful z (inl i)) p f a.front)
  owned (dispatch p f lawful a) y (inr (inr i)) = owned lawful y (inr i)
  owned (commit j lawful i) y (inl (inl e)) = subst IsOwned (sym e) (owned lawful j (inr i))
  owned (commit j lawful i) y (inl (inr k)) = owned lawful y (inl k)
  owned (commit j lawful i) y (inr k) = owned lawful y (inr (in_without j.process _ y k).0)
