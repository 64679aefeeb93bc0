use Rattle.std.proofs.Common.{sym, subst}
use Rattle.ooo_interp.specs.Acting.{job_end}
use Rattle.ooo_meaning.specs.World.{World}
use Rattle.ooo_channels.specs.Operations.{Operations}
use Rattle.ooo_plain.specs.Engine.{MayApply, MayRefresh, Applied, Closed, Mirrors, Refreshed, Noted, Turned}
use Rattle.ooo_plain.specs.Tracking.{IsPlannedBut}
use Rattle.std.proofs.lemmas.Result.{IfOk-weaker}
use Rattle.ooo_plain.proofs.Taking.{may_apply, may_refresh, may_close, turned}
use Rattle.ooo_plain.proofs.engine.Engine.turn.Goals as goal

pub apply-requires : goal.apply-requires
apply-requires c = let m = c.requires.may in subst (MayApply c.act.new.self) (sym c.deref.ensures.value)
    (may_apply c.laws.ensures c.args.design.now c.requires.sound c.args.statements c.args.p c.args.self.now c.requires.may.within c.act.new.self c.act.new.emitted c.in-Ok.found c.in-Ok.ensures m.world m.ops m.mirrors)

pub refresh-requires : goal.refresh-requires
refresh-requires c = let m = c.requires.may in subst (MayRefresh c.args.design.now c.apply.new.self) (sym c.deref-2.ensures.value)
    (may_refresh c.laws.ensures c.args.design.now c.requires.sound c.args.statements c.args.p c.args.self.now c.requires.may.within c.act.new.self c.act.new.emitted c.in-Ok.found c.in-Ok.ensures m.world m.ops m.mirrors m.planned c.apply.new.self
    (subst (λ fs. Applied fs c.act.new.self c.apply.new.self) c.deref.ensures.value c.in-Ok-apply.ensures))

pub close-requires : goal.close-requires
close-requires c = let m = c.requires.may in (
  c.args.design.now,
  may_close c.laws.ensures c.args.design.now c.requires.sound c.args.statements c.args.p c.args.self.now c.requires.may.within c.act.new.self c.act.new.emitted c.in-Ok.found c.in-Ok.ensures m.world m.ops m.mirrors m.planned c.apply.new.self
      (subst (λ fs. Applied fs c.act.new.self c.apply.new.self) c.deref.ensures.value c.in-Ok-apply.ensures)
      c.refresh.new.self c.note.new.self
      (subst (λ fs. Refreshed c.args.design.now fs c.apply.new.self c.refresh.new.self) c.deref-2.ensures.value c.in-Ok-refresh.ensures)
      (subst (λ fs. Noted c.act.new.emitted.output.items fs c.refresh.new.self c.note.new.self) c.deref-4.ensures.value (subst (λ out. Noted out c.deref-4.result.now c.refresh.new.self c.note.new.self) c.deref-3.ensures.value c.in-Ok-note.ensures)),
)

pub returns : goal.returns
returns c =
    IfOk-weaker c.close.result (λ o. Closed c.args.p (job_end c.in-Ok.found) o c.note.new.self c.close.new.self)
    (λ o. (w : World) (ops : Operations) → Mirrors c.args.design.now c.args.self.now ops w → IsPlannedBut c.args.p c.args.self.now.schedule w → Turned c.args.design.now c.args.statements c.args.p o c.args.self.now c.close.new.self w)
    (λ o closed w ops m h.
    turned c.laws.ensures c.args.design.now c.requires.sound c.args.statements c.args.p c.args.self.now c.requires.may.within c.act.new.self c.act.new.emitted c.in-Ok.found c.in-Ok.ensures w ops m h c.apply.new.self
    (subst (λ fs. Applied fs c.act.new.self c.apply.new.self) c.deref.ensures.value c.in-Ok-apply.ensures)
    c.refresh.new.self c.note.new.self
    (subst (λ fs. Refreshed c.args.design.now fs c.apply.new.self c.refresh.new.self) c.deref-2.ensures.value c.in-Ok-refresh.ensures)
    (subst (λ fs. Noted c.act.new.emitted.output.items fs c.refresh.new.self c.note.new.self) c.deref-4.ensures.value (subst (λ out. Noted out c.deref-4.result.now c.refresh.new.self c.note.new.self) c.deref-3.ensures.value c.in-Ok-note.ensures))
    o c.close.new.self closed)
    c.close.ensures
