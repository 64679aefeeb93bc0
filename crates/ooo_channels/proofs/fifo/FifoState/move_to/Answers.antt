use Rattle.std.proofs.Common.{◌≡◌, ◌-◌, ◌++◌, length, drop, map, refl, ap, ◌∙◌, arith}
use Rattle.ooo_channels.specs.Entries.{put_entry}
use Rattle.ooo_channels.proofs.Fifos.{moved_fifo}
use Rattle.ooo_channels.proofs.fifo.FifoState.move_to.Goals as goal

pub returns-then-is_before-clause-cycle : goal.returns-then-is_before-clause-cycle
returns-then-is_before-clause-cycle c = λ x h.
    let s = c.args.self.now in
    let len : c.len.result ≡ length s.values.items = omega (arith, c.len.ensures, s.values.ok) in
    moved_fifo s _ x c.args.at (c.if-is_before.ensures.0 refl) h refl refl refl refl refl
    (c.log_written.ensures.items ∙ ap (λ n. s.history.items ++ map (put_entry s.stamp) (drop (n - s.written) s.values.items)) len)
