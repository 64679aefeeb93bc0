use Rattle.std.proofs.Common.{◌+◌, arith}
use Rattle.ooo_channels.proofs.Applying.{HasNoticeRoom-less}
use Rattle.ooo_channels.proofs.fifo.FifoState.put.Goals as goal

pub returns-clause-room : goal.returns-clause-room
returns-clause-room c = λ n room.
    let mid = c.move_to.ensures.room (n + 1) room in
    record {
      history = omega (arith, mid.history);
      values = omega (arith, mid.values, c.push_back_reserved.ensures.len, c.push_back_reserved.ensures.capacity);
      puts = c.renew.ensures.room n mid.puts;
      takes = HasNoticeRoom-less (n + 1) n _ (omega arith) mid.takes;
    }
