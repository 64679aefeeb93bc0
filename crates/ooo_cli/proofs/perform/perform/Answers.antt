-- What the call has read and replied.
use Rattle.ooo_cli.proofs.perform.perform.Goals as goal

pub returns : goal.returns
returns g c = (
  c.simulate-outcome.result.0,
  c.number.ensures,
  λ v is.
      let wrote = c.simulate-outcome.ensures.written.0 in
      let whole = wrote.whole v is in
      (wrote.read, whole.0, whole.1, whole.2),
)
