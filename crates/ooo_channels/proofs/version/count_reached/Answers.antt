use Rattle.std.proofs.Common.{rules, of_calls, not}
use Rattle.std.proofs.lemmas.Fn.{always_returns_same}
use Rattle.ooo_time.specs.Stamps.{is_before}
use Rattle.ooo_channels.specs.declared.version.Version.{Version}
use Rattle.ooo_channels.proofs.Reached.{reached_first, split_by_order}
use Rattle.ooo_channels.proofs.version.count_reached.Goals as goal

pub returns-clause-point : goal.returns-clause-point
returns-clause-point c = λ ascending.
    split_by_order c.args.versions.now.items c.args.at _
    (c.partition_point.ensures.partitioned (λ (v : Version). not (is_before c.args.at v.stamp)) (always_returns_same _ _ _ (λ a r f k. search (rules, of_calls)))
    (reached_first c.args.versions.now.items c.args.at ascending))
