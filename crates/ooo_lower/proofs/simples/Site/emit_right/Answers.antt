use Rattle.std.proofs.Common.{ap, refl}
use Rattle.std.proofs.lemmas.Result.{on_ok_weaker}
use Rattle.ooo_layout.specs.Scenes.{home_at}
use Rattle.ooo_lower.proofs.Emitted.{emits_as, emits_plain}
use Rattle.ooo_shapes.specs.Shapes.{assign_shape}
use Rattle.ooo_lower.proofs.simples.Site.emit_right.Goals as goal

pub returns-in-Value : goal.returns-in-Value
returns-in-Value c = λ callees.
    let home = home_at c.args.self.scene in
    let s = c.args.self.spot in
    on_ok_weaker c.put_value.result
    (λ p. emits_as _ _ s.around s.next _ _ (ap (assign_shape home callees s.line c.args.into.now) c.in-Value.is) (emits_plain 1 _ s.around s.next _ _ refl p))
    c.put_value.ensures

pub returns-in-Read : goal.returns-in-Read
returns-in-Read c = λ callees.
    let home = home_at c.args.self.scene in
    let s = c.args.self.spot in
    on_ok_weaker c.put_read.result
    (λ p. emits_as _ _ s.around s.next _ _ (ap (assign_shape home callees s.line c.args.into.now) c.in-Read.is) (emits_plain 4 _ s.around s.next _ _ refl p))
    c.put_read.ensures

pub returns-in-NbRead : goal.returns-in-NbRead
returns-in-NbRead c = λ callees.
    let home = home_at c.args.self.scene in
    let s = c.args.self.spot in
    on_ok_weaker c.put_nb_read.result
    (λ p. emits_as _ _ s.around s.next _ _ (ap (assign_shape home callees s.line c.args.into.now) c.in-NbRead.is) (emits_plain 6 _ s.around s.next _ _ refl p))
    c.put_nb_read.ensures

pub returns-in-NbWrite : goal.returns-in-NbWrite
returns-in-NbWrite c = λ callees.
    let home = home_at c.args.self.scene in
    let s = c.args.self.spot in
    on_ok_weaker c.put_nb_write.result
    (λ p. emits_as _ _ s.around s.next _ _ (ap (assign_shape home callees s.line c.args.into.now) c.in-NbWrite.is) (emits_plain 5 _ s.around s.next _ _ refl p))
    c.put_nb_write.ensures
