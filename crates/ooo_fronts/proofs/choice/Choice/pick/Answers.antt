-- The best of all, if it is below the cut.
use Rattle.std.proofs.Common.{◌+◌, ◌<◌, Option, None, IfSome, sym, ◌∙◌, subst, arith}
use Rattle.ooo_time.specs.declared.stamp.Place.{Place}
use Rattle.ooo_fronts.specs.Choices.{IsBestBelow, IsPick, IsReadyAt}
use Rattle.ooo_fronts.proofs.Choosing.{below_more, below_none, below_some, front_within, none_taken, one_more, picks, picks_cut_off, picks_none, still_within, unready_limit, unready_none}
use Rattle.ooo_fronts.proofs.choice.Choice.pick.Goals as goal
use Rattle.ooo_fronts.proofs.choice.Choice.pick.Goals.{in-Some+then-is_below_limit, in-Some+else-is_below_limit, in_default}

pub loop-p-preserved : goal.loop-p-preserved
loop-p-preserved c =
    let n = c.loop-p.p in
    let choice = c.args.self.now in
    let known = c.loop-p.invariant in
    record {
      within =
          let P : Option Place → Type 0 = λ x. IfSome x (λ at. at.process < n + 1) in
          elim c.match-self-p.branch [
            | in-Some+then-is_below_limit w ↦ subst P (sym w.best-is) w.better-best.ensures.within
            | in-Some+else-is_below_limit w ↦ subst P (sym w.best-is) (still_within n c.loop-p.best known.within)
            | in_default w ↦ subst P (sym w.best-is) (still_within n c.loop-p.best known.within)
          ];
      best = λ r least b k.
          let stays : IsReadyAt r least b n None → IsBestBelow r least b (n + 1) c.loop-p.best = λ ready. one_more r least b n c.loop-p.best None c.loop-p.best (none_taken c.loop-p.best) (known.best r least b k) ready in
          elim c.match-self-p.branch [
            | in-Some+then-is_below_limit w ↦ subst (IsBestBelow r least b (n + 1)) (sym w.best-is) (w.better-best.ensures.best r least b k (known.best r least b k))
            | in-Some+else-is_below_limit w ↦ subst (IsBestBelow r least b (n + 1)) (sym w.best-is) (stays (unready_limit r least b choice k n w.in-Some.front w.in-Some.is (λ t. let y = w.is_below_limit.ensures.1 t in absurd cc)))
            | in_default w ↦ subst (IsBestBelow r least b (n + 1)) (sym w.best-is) (stays (unready_none r least b choice k n w.in_default.is))
          ];
      limited = λ e. elim c.match-self-p.branch [
        | in-Some+then-is_below_limit w ↦ below_more choice n (known.limited (sym w.limited-is ∙ e)) (below_some choice n w.in-Some.front w.in-Some.is (w.is_below_limit.ensures.0 w.if-is_below_limit.true))
        | in-Some+else-is_below_limit w ↦ absurd cc
        | in_default w ↦ below_more choice n (known.limited (sym w.limited-is ∙ e)) (below_none choice n w.in_default.is)
      ];
    }

pub returns-in_err-place-clause-pick : goal.returns-in_err-place-clause-pick
returns-in_err-place-clause-pick c = λ r least b k.
    subst (IsPick r least b) (sym c.from_residual.ensures)
    (picks_none r least b c.loop-p.p (λ q g i. let x = front_within r b c.args.self.now.fronts.now k.fronts q g i in omega (arith, x))
    (subst (IsBestBelow r least b c.loop-p.p) c.in_err-place.was (c.loop-p.invariant.best r least b k)))

pub returns-then-is_below-clause-pick : goal.returns-then-is_below-clause-pick
returns-then-is_below-clause-pick c = λ r least b k.
    picks r least b c.loop-p.p (λ q g i. let x = front_within r b c.args.self.now.fronts.now k.fronts q g i in omega (arith, x)) c.in_ok-place.place
    (subst (IsBestBelow r least b c.loop-p.p) c.in_ok-place.was (c.loop-p.invariant.best r least b k)) ((c.is_below.ensures r least b k).0 c.if-is_below.true)

pub returns-else-is_below-clause-pick : goal.returns-else-is_below-clause-pick
returns-else-is_below-clause-pick c = λ r least b k.
    picks_cut_off r least b c.loop-p.p (λ q g i. let x = front_within r b c.args.self.now.fronts.now k.fronts q g i in omega (arith, x)) c.in_ok-place.place
    (subst (IsBestBelow r least b c.loop-p.p) c.in_ok-place.was (c.loop-p.invariant.best r least b k)) (λ t. let y = (c.is_below.ensures r least b k).1 t in absurd cc)
