use Rattle.std.proofs.Common.{◌∙◌, ap, length}
use Rattle.std.proofs.lemmas.Result.{on_ok_weaker}
use Rattle.ooo_shapes.specs.Simples.{begins}
use Rattle.ooo_lower.proofs.Emitted.{emits_print}
use Rattle.ooo_lower.proofs.simples.Site.emit_print.Goals as goal

pub returns : goal.returns
returns c =
    on_ok_weaker c.put_items.result
    (emits_print c.args.self.spot.around c.args.self.spot.line c.args.self.spot.next c.begins-to.result c.args.items.now c.args.code.now c.put_counted.new.self c.put_items.new.code (c.begins-to.ensures ∙ ap (λ n. begins (length c.args.items.now) n c.args.self.spot.next) c.in-Ok.ensures) c.in-Ok-put_counted.ensures)
    c.put_items.ensures
