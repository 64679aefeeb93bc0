use Rattle.std.proofs.Common.{true, false, refl, ap, sym, ◌∙◌, append-nil, arith}
use Rattle.ooo_channels.specs.Entries.{entries_before}
use Rattle.ooo_channels.proofs.Copying.{fifo_copied}
use Rattle.ooo_channels.proofs.fifo.FifoState.history.Goals as goal
use Rattle.ooo_channels.proofs.fifo.FifoState.history.Goals.{then-is_within+in_ok-append_written, else-is_within}

pub returns : goal.returns
returns c = λ x h.
    let front = c.in_ok-copied.ensures ∙ ap (entries_before c.args.before) c.as_slice.ensures.value in
    elim c.if-is_within.branch [
      | then-is_within+in_ok-append_written w ↦
          fifo_copied c.args.before c.args.self.now x w.len.result true _ _ h (omega (arith, w.len.ensures, c.args.self.now.values.ok)) w.if-is_within.ensures front
          (ap (λ v. v.items) w.copied-is ∙ w.in_ok-append_written.ensures)
      | else-is_within w ↦
          fifo_copied c.args.before c.args.self.now x _ false _ _ h refl w.if-is_within.ensures front
          (ap (λ v. v.items) w.copied-is ∙ sym (append-nil _))
    ]
