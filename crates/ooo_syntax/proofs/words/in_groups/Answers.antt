use Rattle.std.proofs.Common.{◌≡◌, ap, ◌∙◌, sym, Some}
use Rattle.std.specs.Option.{option_copied}
use Rattle.ooo_syntax.specs.Rows.{in_group}
use Rattle.ooo_syntax.proofs.Groups.{in_own_group, later}
use Rattle.ooo_syntax.proofs.words.in_groups.Goals as goal

pub returns-then-bytes-shortest : goal.returns-then-bytes-shortest
returns-then-bytes-shortest c =
    sym (later c.args.shortest c.args.groups.now c.args.bytes.now c.requires c.if-bytes-shortest.true)

pub returns-in-None : goal.returns-in-None
returns-in-None c =
    ap (λ g. in_group g c.args.bytes.now) c.in-None.ensures
    ∙ in_own_group c.args.shortest c.args.groups.now c.args.bytes.now c.requires c.if-bytes-shortest.false

pub returns-in-Some : goal.returns-in-Some
returns-in-Some c =
    let found : option_copied c.at.result ≡ Some c.in-Some.rows.now = ap option_copied c.in-Some.is in
    c.in_rows.ensures ∙ ap (λ g. in_group g c.args.bytes.now) (sym found ∙ c.at.ensures)
    ∙ in_own_group c.args.shortest c.args.groups.now c.args.bytes.now c.requires c.if-bytes-shortest.false
