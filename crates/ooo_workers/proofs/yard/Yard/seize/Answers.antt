use Rattle.std.proofs.Common.{refl, rules, subst, sym, ap, ◌∙◌, ◌∷◌, [], Some, ◌<◌, ◌≡◌, false}
use mathlib.Core.Option.{none}
use Rattle.atomic_table.specs.Table.{rest, step}
use Rattle.ooo_workers.specs.Rule.{Sat}
use Rattle.ooo_workers.proofs.Keeps.{tries_at}
use Rattle.ooo_workers.proofs.yard.Yard.seize.Goals as goal

pub compare_exchange-requires : goal.compare_exchange-requires
compare_exchange-requires g c =
    let same = sym c.loop.invariant.1 in (
      search rules,
      search rules,
      tries_at _ _ _ c.loop.place.me (step 0 0 c.peek-word.result 0 none) _ c.if-word-eq0.true refl (subst (λ (m : Sat). m.1 ≡ []) same c.requires.idle.0) (subst (λ (m : Sat). m.0.turn ≡ false) same c.requires.idle.1) (subst (λ (m : Sat). 0 < m.0.parts) same c.requires.idle.2),
    )

pub exchange-requires : goal.exchange-requires
exchange-requires g c =
    let t = c.compare_exchange.ensures.2.0 c.if-compare_exchange-word.true in
    let held = ap (λ m. m.1) t.now in
    (search rules, (Some t.board, held ∙ ap (λ l. (0, Some t.board) ∷ rest l) (sym held)))
