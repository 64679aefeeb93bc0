use Rattle.std.proofs.Common.{rules, sym, ap, ◌∙◌, ◌∷◌, [], Some}
use mathlib.Core.Option.{none}
use Rattle.atomic_table.specs.Table.{rest, step}
use Rattle.ooo_board.specs.Boards.{Shown, with_step}
use Rattle.ooo_workers.specs.declared.view.View.{View}
use Rattle.ooo_workers.proofs.Keeps.{notes}
use Rattle.ooo_workers.proofs.yard.Yard.note.Goals as goal

pub store-requires : goal.store-requires
store-requires c =
    let v = c.args.place.now.me.0 in (
      search rules,
      search rules,
      notes _ _ _ _ v c.args._step (step 0 0 0 0 none) _ c.odd_of.ensures
          (c.exchange.ensures.3 ∙ ap (λ l. (v, (0, Some c.closed.result) ∷ rest l)) c.requires.held.0 ∙ ap (λ (b : Shown). (v, (0, Some b) ∷ [])) (c.closed.ensures ∙ c.requires.step.0))
          c.requires.held.1
          c.requires.held.2
          c.requires.step.1,
    )

pub exchange-requires-2 : goal.exchange-requires-2
exchange-requires-2 c =
    let v = c.args.place.now.me.0 in
    let x = c.args._step in
    let held = c.exchange.ensures.3 ∙ ap (λ l. (v, (0, Some c.closed.result) ∷ rest l)) c.requires.held.0 ∙ ap (λ (b : Shown). (v, (0, Some b) ∷ [])) (c.closed.ensures ∙ c.requires.step.0) in
    let there = c.store.ensures.2 x (ap (λ m. m.1) held ∙ ap (λ (u : View). (0, Some (with_step u.known x)) ∷ []) (sym (ap (λ m. m.0) held))) in
    let hand = ap (λ m. m.1) there ∙ ap (λ m. m.1) held in
    (search rules, (Some (with_step v.known x), hand ∙ ap (λ l. (0, Some (with_step v.known x)) ∷ rest l) (sym hand)))
