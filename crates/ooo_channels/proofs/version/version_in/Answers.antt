use Rattle.std.proofs.Common.{[], ◌∷◌, arith, sym, subst}
use Rattle.ooo_channels.specs.declared.version.Version.{Version}
use Rattle.ooo_channels.specs.Versions.{version_at}
use Rattle.ooo_channels.specs.Cycles.{ShowsAs}
use Rattle.ooo_channels.proofs.Versions.{ascending_front, some_version, found_version}
use Rattle.ooo_channels.proofs.version.version_in.Goals as goal

pub returns-then-count-eq0 : goal.returns-then-count-eq0
returns-then-count-eq0 c = λ was next since before.
    let vs = c.args.versions.now.items in
    some_version was vs next c.args.at _ before (c.count_reached-count.ensures.point (ascending_front was vs (next ∷ []) since.each)) since.start c.if-count-eq0.true

pub returns-else-count-eq0 : goal.returns-else-count-eq0
returns-else-count-eq0 c = λ was next since before.
    let vs = c.args.versions.now.items in
    subst (λ (v : Version). ShowsAs c.args.at.time (version_at c.args.at v) (was c.args.at)) (sym c.index.ensures)
    (found_version was vs next c.args.at c.count_reached-count.result before (c.count_reached-count.ensures.point (ascending_front was vs (next ∷ []) since.each)) c.index.result.now
    since.each (omega (arith, c.if-count-eq0.false)) (omega (arith, c.count_reached-count.ensures.bound, c.args.versions.now.ok)))
