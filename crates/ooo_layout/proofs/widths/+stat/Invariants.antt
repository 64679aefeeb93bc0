use Rattle.std.proofs.Common.{◌≡◌, drop}
use Rattle.ooo_shapes.specs.Widths.{both, body_widths}
use Rattle.ooo_layout.proofs.widths.+stat.Given as goal

abbrev pub invariant-of_body-parts : goal.invariant-of_body-parts
invariant-of_body-parts l = both l.all (body_widths (drop l.part-index l.body)) ≡ body_widths l.body
