use Rattle.std.proofs.Common.{◌≡◌, ◌∙◌, arith, length, get_or, ◌<◌, ap}
use Rattle.ooo_plain.specs.Schedule.{waiting_on}
use Rattle.ooo_plain.proofs.Asking.{read_in, asked_again, asked_alone, touched_all, count_in}
use Rattle.ooo_plain.proofs.schedule.Schedule.touch_waiters.Goals as goal

pub returns-then-asked-count : goal.returns-then-asked-count
returns-then-asked-count c = touched_all c.args.bank.now c.args.now c.args.e c.in_ok-asked.asked c.args.self.now c.touch_others.new.self c.requires.knows
    (let l = c.len-count.ensures in let k = c.index.result.now.ok.0 in let n = count_in (λ v. v.items) c.args.self.now.waiters.items c.args.e c.index.result.now c.requires.event c.index.ensures in let e = c.if-asked-count.true in omega (arith, l, k, n, e)) c.in_ok-asked.ensures.so_far

pub first-first-requires : goal.first-first-requires
first-first-requires c =
    let m = c.in_ok-asked.ensures.known (let l = c.len-count.ensures in let k = c.index.result.now.ok.0 in let n = count_in (λ v. v.items) c.args.self.now.waiters.items c.args.e c.index.result.now c.requires.event c.index.ensures in let e = c.if-asked-count.false in let w = c.in_ok-asked.ensures.within in omega (arith, l, k, n, e, w)) in
    (m.ops, m.bank_is, m.known 0 0 (omega arith))

pub refresh_knowing-requires-clause-first : goal.refresh_knowing-requires-clause-first
refresh_knowing-requires-clause-first c = asked_alone c.args.bank.now c.args.now c.args.e c.first-first.result c.first-first.ensures

pub loop-i-preserved : goal.loop-i-preserved
loop-i-preserved c =
    let lt : c.loop-i.i < length (waiting_on c.args.self.now c.args.e) = (let h = c.loop-i-test.true in let e = c.loop-i.invariant.end in omega (arith, h, e)) in
    let read : c.index-q.result.now ≡ get_or (waiting_on c.args.self.now c.args.e) c.loop-i.i 0 = read_in (λ v. v.items) c.args.self.now.waiters.items c.args.e c.loop-i.i c.index-q.result.now c.index-in-loop-i.result.now c.requires.event (c.index-in-loop-i.ensures ∙ ap (λ x. get_or x.waiters.items c.args.e c.index-in-loop-i.result.now) c.loop-i.invariant.so_far.rest) lt c.index-q.ensures in
    let known : get_or (waiting_on c.args.self.now c.args.e) c.loop-i.i 0 < length c.args.self.now.awaited.items = c.requires.knows.within c.args.e c.loop-i.i 0 lt in
    let count = c.loop-i.invariant.so_far.count in
    record {
      end = c.loop-i.invariant.end;
      within = let h = c.loop-i-test.true in omega (arith, h);
      so_far = asked_again c.args.bank.now c.args.now c.args.e c.loop-i.i c.index-q.result.now c.args.self.now c.loop-i.self c.refresh_knowing.new.self c.loop-i.invariant.so_far lt read (let k = c.requires.knows.count in omega (arith, known, read, count, k)) c.in_ok-refresh_knowing.ensures;
    }

pub returns : goal.returns
returns c = touched_all c.args.bank.now c.args.now c.args.e c.loop-i.i c.args.self.now c.loop-i.self c.requires.knows (let h = c.loop-i-test.false in let e = c.loop-i.invariant.end in omega (arith, h, e)) c.loop-i.invariant.so_far
