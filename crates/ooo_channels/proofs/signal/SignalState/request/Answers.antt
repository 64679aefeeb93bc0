use Rattle.std.proofs.Common.{◌+◌, ap, sym, subst}
use Rattle.ooo_channels.specs.declared.signal.SignalState.{SignalState}
use Rattle.ooo_channels.specs.Room.{HasNoticeRoom}
use Rattle.ooo_code.specs.Channels.{requested}
use Rattle.ooo_channels.proofs.Versions.{requested_versions}
use Rattle.ooo_channels.proofs.signal.SignalState.request.Goals as goal

pub returns-clause-room : goal.returns-clause-room
returns-clause-room c = λ n room.
    let rest = c.move_to.ensures.rest in
    record {
      past = c.move_to.ensures.past_room n room.past;
      history = c.move_to.ensures.history_room n room.history;
      changes = c.renew.ensures.room n (subst (HasNoticeRoom (n + 1)) (sym (ap (λ (s : SignalState). s.changes) rest)) room.changes);
      rises = c.renew-2.ensures.room n (subst (HasNoticeRoom (n + 1)) (sym (ap (λ (s : SignalState). s.rises) rest)) room.rises);
      falls = c.renew-3.ensures.room n (subst (HasNoticeRoom (n + 1)) (sym (ap (λ (s : SignalState). s.falls) rest)) room.falls);
    }

pub returns-clause-shows : goal.returns-clause-shows
returns-clause-shows c = λ was next x n is continued h.
    let s = c.args.self.now in
    let mid = c.move_to.ensures.cycle x is in
    c.move_to.ensures.since next _ (c.move_to.ensures.stamp c.requires.in_order) h.start
    (requested_versions was next s.newest _ x c.args.at c.args.value n is.stamp is.channel (c.move_to.ensures.stamp c.requires.in_order) mid.stamp (ap (requested c.args.value) mid.channel) s.past.items c.requires.in_order continued h.each)
