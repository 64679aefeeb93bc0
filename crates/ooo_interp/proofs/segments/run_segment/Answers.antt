-- What the activation of a job does on what it carries it does on each view.
use Rattle.std.proofs.Common.{◌≡◌, ℕ, List, length, refl, ap, ◌∙◌}
use Rattle.ooo_code.specs.declared.design.Design.{Design}
use Rattle.ooo_interp.specs.Carrying.{Carried, numbers_of}
use Rattle.ooo_interp.specs.Acting.{entry_after, job_end}
use Rattle.ooo_interp.proofs.JobLemmas.{as_carried, as_lent, on_view}
use Rattle.ooo_interp.proofs.segments.run_segment.Goals as goal

pub returns : goal.returns
returns c =
    let job = c.args.job in
    let lent = c.in-Ok.ensures in
    let numbers : numbers_of c.run_process.new.lent.owned.items ≡ numbers_of job.owned.items = ap (λ (k : List ℕ × ℕ). k.0) c.in-Ok-run_process.ensures.kept ∙ ap (λ (l : List Carried). numbers_of l) lent.same_owned in
    let len : c.len-count.result ≡ length job.design.value.variables = c.len-count.ensures ∙ ap (λ (d : Design). length d.variables) c.deref.ensures in
    let before : c.in-Ok.found.count ≡ length job.design.value.variables = lent.counted ∙ len in
    let count : c.run_process.new.lent.count ≡ length job.design.value.variables = ap (λ (k : List ℕ × ℕ). k.1) c.in-Ok-run_process.ensures.kept ∙ before in
    record {
      does = λ v part. rw (c.in-Ok-own_end.ensures, c.entry_after-entry.ensures) (on_view c.reads_what_is_touched.ensures c.changes_what_is_touched.ensures job v c.run_process.new.lent.owned.items c.run_process.new.lent.copied.items c.run_process.new.emitted.output.items c.run_process.new.emitted.effects.items (job_end c.in-Ok-run_process.found) (record { entry = entry_after job.frame.entry c.in-Ok-run_process.found; slots = c.run_process.new.lent.slots }) c.requires part numbers
          (as_lent job.design.value job.statements job.process (length job.design.value.variables) job.frame.entry job.stamp job.seen.items _ c.in-Ok.found.slots job.frame.slots c.in-Ok.found.owned.items job.owned.items c.in-Ok.found.copied.items job.copied.items lent.same_slots lent.same_owned lent.same_copied
          (as_carried job.statements job.process (record { entry = job.frame.entry; slots = c.in-Ok.found.slots }) (record { entry = entry_after job.frame.entry c.in-Ok-run_process.found; slots = c.run_process.new.lent.slots }) job.stamp c.in-Ok.found.owned.items c.in-Ok.found.copied.items c.run_process.new.lent.owned.items c.run_process.new.lent.copied.items c.run_process.new.emitted.output.items c.run_process.new.emitted.effects.items (job_end c.in-Ok-run_process.found) _ _ _ _ _ _ _ c.deref-2.ensures before count lent.shows c.in-Ok-run_process.ensures.does)));
      of = record { process = refl; activation = refl; variables = numbers };
    }
