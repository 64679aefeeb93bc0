use Rattle.std.proofs.Common.{◌≡◌, ◌∙◌, arith, length, get_or, ◌<◌, ap, refl}
use Rattle.ooo_plain.specs.Schedule.{waiting_on}
use Rattle.ooo_plain.proofs.Asking.{read_in, asked_again, touched_others, touched_every}
use Rattle.ooo_plain.proofs.schedule.Schedule.touch_others.Goals as goal

pub loop-i-preserved : goal.loop-i-preserved
loop-i-preserved c =
    let lt : c.loop-i.i < length (waiting_on c.args.self.now c.args.e) = (let h = c.loop-i-test.true in let e = c.loop-i.invariant.end in omega (arith, h, e)) in
    let read : c.index-q.result.now ≡ get_or (waiting_on c.args.self.now c.args.e) c.loop-i.i 0 = read_in (λ v. v.items) c.args.self.now.waiters.items c.args.e c.loop-i.i c.index-q.result.now c.index-in-loop-i.result.now c.requires.event (c.index-in-loop-i.ensures ∙ ap (λ x. get_or x.waiters.items c.args.e c.index-in-loop-i.result.now) c.loop-i.invariant.so_far.rest) lt c.index-q.ensures in
    let known : get_or (waiting_on c.args.self.now c.args.e) c.loop-i.i 0 < length c.args.self.now.awaited.items = c.requires.knows.within c.args.e c.loop-i.i 0 lt in
    let count = c.loop-i.invariant.so_far.count in
    record {
      end = c.loop-i.invariant.end;
      within = let h = c.loop-i-test.true in omega (arith, h);
      so_far = asked_again c.args.bank.now c.args.now c.args.e c.loop-i.i c.index-q.result.now c.args.self.now c.loop-i.self c.refresh.new.self c.loop-i.invariant.so_far lt read (let k = c.requires.knows.count in omega (arith, known, read, count, k)) c.in_ok-refresh.ensures;
    }

pub returns-then-waits_only : goal.returns-then-waits_only
returns-then-waits_only c =
    let lt : c.loop-i.i < length (waiting_on c.args.self.now c.args.e) = (let h = c.loop-i-test.true in let e = c.loop-i.invariant.end in omega (arith, h, e)) in
    touched_others c.args.bank.now c.args.now c.args.e c.loop-i.i c.index-q.result.now c.args.self.now c.loop-i.self c.loop-i.invariant.so_far lt c.requires.may (c.if-waits_only.ensures refl)

pub returns : goal.returns
returns c = touched_every c.args.bank.now c.args.now c.args.e c.loop-i.i c.len-count.result c.args.self.now c.loop-i.self c.loop-i.invariant.so_far (let h = c.loop-i-test.false in let w = c.loop-i.invariant.within in omega (arith, h, w)) c.loop-i.invariant.end
