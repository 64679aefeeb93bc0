-- Each thing by whether it is a notification.
use Rattle.std.proofs.Common.{◌≡◌, ap, sym, ◌∙◌, subst, take, ◌++◌, ◌∷◌, []}
use Rattle.std.proofs.lemmas.List.{take_more, take_all}
use Rattle.ooo_access.proofs.Calling.{HasDirect, direct_none, direct_more, direct_other}
use Rattle.ooo_access.proofs.notices.direct_notices.Goals as goal
use Rattle.ooo_access.proofs.notices.direct_notices.Goals.{in-Notifies+in_ok-insert, in_default}

pub loop-one-init : goal.loop-one-init
loop-one-init c = rw c.new-notices.ensures.items direct_none

pub loop-one-preserved : goal.loop-one-preserved
loop-one-preserved c =
    let i = c.loop-one.one-index in
    let told = c.args.told.now in
    elim c.match-one.branch [
      | in-Notifies+in_ok-insert w ↦
          let more = take_more told i _ c.loop-one-test.true ∙ ap (λ u. take i told ++ u ∷ []) w.in-Notifies.is in
          rw w.notices-is (subst (λ xs. HasDirect xs w.insert.new.notices.items) (sym more) (direct_more _ _ _ _ _ c.loop-one.invariant w.in_ok-insert.ensures.members w.in_ok-insert.ensures.in_order))
      | in_default w ↦
          let more = take_more told i _ c.loop-one-test.true in
          rw w.notices-is (subst (λ xs. HasDirect xs c.loop-one.notices.items) (sym more) (direct_other _ _ _ c.loop-one.invariant w.in_default.not-Notifies))
    ]

pub returns-clause-members : goal.returns-clause-members
returns-clause-members c = λ e t.
    let all = take_all _ _ c.loop-one-test.false in
    (rw all at c.loop-one.invariant).has e t
