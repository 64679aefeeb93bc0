-- A job that fits, and what its activation does on a view.
use Rattle.std.proofs.Common.{◌≡◌, ℕ, List, length, Option, Some, None, refl, subst}
use Rattle.std.specs.Prelude.{slice_get, IfSome, IsSomeAnd}
use Rattle.ooo_time.specs.declared.stamp.Stamp.{Stamp}
use Rattle.ooo_code.specs.declared.activation.Effect.{Effect}
use Rattle.ooo_code.specs.declared.activation.Frame.{Frame}
use Rattle.ooo_code.specs.declared.activation.JobEnd.{JobEnd}
use Rattle.ooo_code.specs.declared.activation.Seen.{Seen}
use Rattle.ooo_code.specs.declared.design.Design.{Design}
use Rattle.ooo_code.specs.declared.design.Proc.{Proc}
use Rattle.ooo_code.specs.declared.segment.SegmentEntry.{SegmentEntry}
use Rattle.ooo_value.specs.declared.values.Value.{Value}
use Rattle.ooo_code.specs.Nodes.{by_nodes}
use Rattle.ooo_code.specs.Outcomes.{Outcome, View}
use Rattle.ooo_interp.specs.declared.job.Job.{Job}
use Rattle.ooo_interp.specs.Carrying.{Carried, all_cells, numbers_of, put_in}
use Rattle.ooo_interp.specs.Jobs.{CarriesTouched, Fits, IsPartOf, SeeAlike, Touched, job_on}
use Rattle.ooo_interp.proofs.Views.{ReadsTouched, ChangesTouched, whole}

-- the same equation, of the design and the counts that the code had
pub as_carried : (statements p : ℕ) (frame next : Frame) (stamp : Stamp) (owned copied left left_copied : List Carried) (output : List ℕ) (effects : List Effect) (end : JobEnd) (D E : Design) (n m k : ℕ) (S U : List Seen) → D ≡ E → n ≡ k → m ≡ k → S ≡ U → by_nodes D statements p frame (record { stamp = stamp; variables = all_cells n owned copied; seen = S }) ≡ record { deed = record { output = output; variables = all_cells m left left_copied; effects = effects; end = end }; next = next } → by_nodes E statements p frame (record { stamp = stamp; variables = all_cells k owned copied; seen = U }) ≡ record { deed = record { output = output; variables = all_cells k left left_copied; effects = effects; end = end }; next = next }
as_carried statements p frame next stamp owned copied left left_copied output effects end D E n m k S U d a b s h =
    subst (λ (q : Design × ℕ × ℕ × List Seen). let view : View = record { stamp = stamp; variables = all_cells q.1 owned copied; seen = q.3 } in let o : Outcome Frame = record { deed = record { output = output; variables = all_cells q.2 left left_copied; effects = effects; end = end }; next = next } in by_nodes q.0 statements p frame view ≡ o) {x = (D, n, m, S)} {y = (E, k, k, U)} (λ i. (d i, a i, b i, s i)) h

-- the same equation, of the locals and variables that were lent
pub as_lent : (design : Design) (statements p n : ℕ) (entry : SegmentEntry) (stamp : Stamp) (seen : List Seen) (o : Outcome Frame) (slots slots' : List Value) (owned owned' copied copied' : List Carried) → slots ≡ slots' → owned ≡ owned' → copied ≡ copied' → by_nodes design statements p (record { entry = entry; slots = slots }) (record { stamp = stamp; variables = all_cells n owned copied; seen = seen }) ≡ o → by_nodes design statements p (record { entry = entry; slots = slots' }) (record { stamp = stamp; variables = all_cells n owned' copied'; seen = seen }) ≡ o
as_lent design statements p n entry stamp seen o slots slots' owned owned' copied copied' a b c h =
    subst (λ (q : List Value × List Carried × List Carried). by_nodes design statements p (record { entry = entry; slots = q.0 }) (record { stamp = stamp; variables = all_cells n q.1 q.2; seen = seen }) ≡ o) {x = (slots, owned, copied)} {y = (slots', owned', copied')} (λ i. (a i, b i, c i)) h

-- what it did on what it carries, it does on each view that it is part of
pub on_view : ReadsTouched → ChangesTouched → (job : Job) (v : View) (left left_copied : List Carried) (output : List ℕ) (effects : List Effect) (end : JobEnd) (next : Frame) → Fits job → IsPartOf job v → numbers_of left ≡ numbers_of job.owned.items → job_on job (record { stamp = job.stamp; variables = all_cells (length job.design.value.variables) job.owned.items job.copied.items; seen = job.seen.items }) ≡ record { deed = record { output = output; variables = all_cells (length job.design.value.variables) left left_copied; effects = effects; end = end }; next = next } → job_on job v ≡ record { deed = record { output = output; variables = put_in left v.variables; effects = effects; end = end }; next = next }
on_view reads changes job v left left_copied output effects end next fits part numbers did = by (slice_get job.design.value.processes job.process) refl fits.variables part.channels
  where
    by : (o : Option Proc) → slice_get job.design.value.processes job.process ≡ o → IsSomeAnd o (λ process. CarriesTouched (Touched job process) job.owned.items job.copied.items) → IfSome o (λ process. SeeAlike (Touched job process) job.seen.items v.seen) → job_on job v ≡ record { deed = record { output = output; variables = put_in left v.variables; effects = effects; end = end }; next = next }
    by None e f s = absurd f
    by (Some process) e f s =
        let J : View = record { stamp = job.stamp; variables = all_cells (length job.design.value.variables) job.owned.items job.copied.items; seen = job.seen.items } in
        whole reads changes job.design.value job.statements job.process process job.frame J v job.owned.items job.copied.items left left_copied output effects end next e fits.owned fits.copied part.owned part.copied f s part.stamp refl part.count numbers did
