use Rattle.std.proofs.Common.{◌≡◌, ◌+◌, ◌<◌, ◌≤◌, ◌++◌, [], None, false, vec_len, vec_capacity}
use Rattle.ooo_workers.specs.Passes.{fresh_from, made_by}
use Rattle.ooo_workers.proofs.yard.Yard.deal.Given as goal

abbrev pub invariant-passes : goal.invariant-passes
invariant-passes l = record {
  some : 0 < l.left;
  number : l.rest.me.0.number + l.left ≡ l.self.passes;
  parts : l.rest.me.0.parts ≡ l.left;
  known : l.rest.me.0.known ≡ l.fn.first.me.0.known;
  made : l.rest.me.0.made ≡ made_by l.fn.first.me.0.known.schedule l.rest.me.0.number;
  out : l.rest.me.0.out ≡ None;
  turn : l.rest.me.0.turn ≡ false;
  heard : l.rest.me.0.heard ≡ [];
  hand : l.rest.me.1 ≡ [];
  table : l.rest.table_id ≡ l.fn.first.table_id;
  room : vec_len l.all + l.left ≤ vec_capacity l.all;
  dealt : l.all.items ++ fresh_from l.fn.first.table_id l.fn.first.me.0.known l.rest.me.0.number l.left ≡ fresh_from l.fn.first.table_id l.fn.first.me.0.known 0 l.self.passes;
}

abbrev pub decreases-passes : goal.decreases-passes
decreases-passes l = l.left
