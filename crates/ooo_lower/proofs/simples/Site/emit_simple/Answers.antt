use Rattle.std.proofs.Common.{◌∙◌, ap, refl, sym, length}
use Rattle.std.proofs.lemmas.Result.{on_ok_weaker}
use Rattle.ooo_layout.specs.Scenes.{home_at}
use Rattle.ooo_lower.proofs.Emitted.{emits_as, emits_plain, length_update}
use Rattle.ooo_shapes.specs.Shapes.{print_shape, simple_shape}
use Rattle.ooo_lower.proofs.simples.Site.emit_simple.Goals as goal

pub returns-in-Assign : goal.returns-in-Assign
returns-in-Assign c = λ callees.
    let s = c.args.self.spot in
    on_ok_weaker c.emit_right.result
    (λ p. emits_as _ _ s.around s.next _ _ (ap (simple_shape (home_at c.args.self.scene) callees s.line) c.in-Assign.is) p)
    (c.emit_right.ensures callees)

pub returns-in-Update : goal.returns-in-Update
returns-in-Update c = λ callees.
    let home = home_at c.args.self.scene in
    let s = c.args.self.spot in
    on_ok_weaker c.put_update.result
    (λ p. emits_as _ _ s.around s.next _ _ (ap (simple_shape home callees s.line) c.in-Update.is)
    (emits_plain _ _ s.around s.next _ _ (length_update home s.around c.in-Update.into c.in-Update.op c.in-Update.e s.line (length c.args.code.now.nodes) s.next) p))
    c.put_update.ensures

pub returns-in-Write : goal.returns-in-Write
returns-in-Write c = λ callees.
    let s = c.args.self.spot in
    on_ok_weaker c.put_write.result
    (λ p. emits_as _ _ s.around s.next _ _ (ap (simple_shape (home_at c.args.self.scene) callees s.line) c.in-Write.is) (emits_plain 4 _ s.around s.next _ _ refl p))
    c.put_write.ensures

pub returns-in-Print : goal.returns-in-Print
returns-in-Print c = λ callees.
    let s = c.args.self.spot in
    on_ok_weaker c.emit_print.result
    (λ p. emits_as _ _ s.around s.next _ _ (ap (simple_shape (home_at c.args.self.scene) callees s.line) c.in-Print.is ∙ ap (print_shape s.line) (sym c.as_slice.ensures)) p)
    c.emit_print.ensures
