-- Room for effects.
use Rattle.std.specs.Prelude.{ℕ, ◌+◌, ◌≤◌, List, length, filter, Bool, vec_len, vec_capacity, ⊤}
use Rattle.std.specs.VecDeque.{deque_len, deque_capacity}
use Rattle.ooo_code.specs.declared.activation.Effect.{Effect}
use Rattle.ooo_channels.specs.declared.notices.Notice.{Notice}
use Rattle.ooo_channels.specs.declared.notices.Notice.TheVariants as notice
use Rattle.ooo_channels.specs.declared.signal.SignalState.{SignalState}
use Rattle.ooo_channels.specs.declared.fifo.FifoState.{FifoState}
use Rattle.ooo_channels.specs.declared.channel.ChannelState.{ChannelState}
use Rattle.ooo_channels.specs.declared.channel.ChannelState.TheVariants as state

-- an event of a channel has room for n calls; one that the design hasn't needs none
abbrev pub HasNoticeRoom : ℕ → Notice → Type 0
HasNoticeRoom n (notice.Kept e) = n ≤ e.spare
HasNoticeRoom n notice.Absent = ⊤

-- room for n requests: for the versions, in the history, and in each of its events
pub record HasSignalRoom (n : ℕ) (s : SignalState) : Type 0 where
  pub past : deque_len s.past + n ≤ deque_capacity s.past
  pub history : vec_len s.history + n ≤ vec_capacity s.history
  pub changes : HasNoticeRoom n s.changes
  pub rises : HasNoticeRoom n s.rises
  pub falls : HasNoticeRoom n s.falls

-- room for n puts and takes: in the history, which has room for what was written in the cycle besides, in the queue, and
-- in each of its events
pub record HasFifoRoom (n : ℕ) (f : FifoState) : Type 0 where
  pub history : vec_len f.history + f.written + n ≤ vec_capacity f.history
  pub values : deque_len f.values + n ≤ deque_capacity f.values
  pub puts : HasNoticeRoom n f.puts
  pub takes : HasNoticeRoom n f.takes

-- a channel has room for n effects
abbrev pub HasRoom : ℕ → ChannelState → Type 0
HasRoom n (state.Signal s) = HasSignalRoom n s
HasRoom n (state.Fifo f) = HasFifoRoom n f

-- how many effects of a list pass a test
abbrev pub count : (test : Effect → Bool) → List Effect → ℕ
count test fs = length (filter test fs)
