use Rattle.std.proofs.Common.{None, refl, sym, ◌∙◌, ap, set}
use Rattle.std.proofs.lemmas.List.{set-get_or}
use Rattle.ooo_plain.proofs.agenda.Agenda.set.Goals as goal

pub returns-then-is_same : goal.returns-then-is_same
returns-then-is_same c = sym (ap (set c.args.self.now c.args.p) (sym (c.if-is_same.ensures refl) ∙ c.due.ensures) ∙ set-get_or c.args.self.now c.args.p None)
