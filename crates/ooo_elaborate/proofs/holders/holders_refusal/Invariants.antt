use Rattle.std.proofs.Common.{◌≡◌, drop}
use Rattle.ooo_elaborate.specs.Holders.{holders_refusal}
use Rattle.ooo_elaborate.proofs.holders.holders_refusal.Given as goal

abbrev pub invariant-parts : goal.invariant-parts
invariant-parts l =
    holders_refusal l.processes l.place (drop l.place l.channels) l.held ≡ holders_refusal l.processes 0 l.channels l.held
