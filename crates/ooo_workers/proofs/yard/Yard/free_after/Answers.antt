use Rattle.std.proofs.Common.{rules, ap, ◌∙◌, ◌∷◌, [], Some}
use mathlib.Core.Option.{none}
use Rattle.atomic_table.specs.Table.{rest, step}
use Rattle.ooo_board.specs.Boards.{Shown}
use Rattle.ooo_workers.proofs.Keeps.{steps}
use Rattle.ooo_workers.proofs.yard.Yard.free_after.Goals as goal

pub store-requires : goal.store-requires
store-requires c =
    let v = c.args.place.now.me.0 in (
      search rules,
      search rules,
      steps _ _ _ _ v c.args._step (step 0 0 0 0 none) _ c.next_even.ensures (search rules)
          (c.exchange.ensures.3 ∙ ap (λ l. (v, (0, Some c.closed-board.result) ∷ rest l)) c.requires.held.0 ∙ ap (λ (b : Shown). (v, (0, Some b) ∷ [])) (c.closed-board.ensures ∙ c.requires.step.0))
          c.requires.held.1
          c.requires.held.2
          c.requires.step.1,
    )
