use Rattle.std.proofs.Common.{rules, sym, ap, ◌∙◌, ◌∷◌, [], Some}
use mathlib.Core.Option.{none}
use Rattle.atomic_table.specs.Table.{rest, step}
use Rattle.ooo_board.specs.Boards.{Shown}
use Rattle.ooo_workers.proofs.Keeps.{frees}
use Rattle.ooo_workers.proofs.yard.Yard.free.Goals as goal

pub store-requires : goal.store-requires
store-requires c =
    let v = c.args.place.now.me.0 in (
      search rules,
      search rules,
      frees _ _ _ _ v (step 0 0 0 0 none) _ c.requires.even (search rules)
          (c.exchange.ensures.3 ∙ ap (λ l. (v, (0, Some c.closed-board.result) ∷ rest l)) c.requires.held.0 ∙ ap (λ (b : Shown). (v, (0, Some b) ∷ [])) (c.closed-board.ensures ∙ sym c.requires.held.2))
          c.requires.held.1
          c.requires.held.3,
    )
