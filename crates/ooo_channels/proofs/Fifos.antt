-- A fifo in its cycle.
use Rattle.std.proofs.Common.{◌≡◌, ℕ, zero, suc, add-one, ◌+◌, ◌-◌, ◌≤◌, ◌++◌, Bool, true, false, cond, arith, List, [], ◌∷◌, refl, ap, sym, subst, ◌∙◌, length, take, drop, map, get_or, length-append, length-drop, append-nil, append_assoc}
use Rattle.std.proofs.lemmas.List.{take_more, get_or-drop, map-append, drop-append-le}
use Rattle.std.proofs.Math.Seq.{drop-append_seam}
use Rattle.ooo_time.specs.declared.stamp.Stamp.{Stamp}
use Rattle.ooo_time.specs.Stamps.{IsBefore}
use Rattle.ooo_value.specs.declared.values.Value.{Value}
use Rattle.ooo_code.specs.Channels.{Fifo, IsFifo, available, taken_from, updated}
use Rattle.ooo_meaning.specs.World.{same_stamp, next_delta, entries_of}
use Rattle.ooo_channels.specs.declared.fifo.FifoState.{FifoState}
use Rattle.ooo_channels.specs.Cycles.{Cycle, cycle_at, later_channel, readable}
use Rattle.ooo_channels.specs.Entries.{took_entry, put_entry}
use Rattle.ooo_channels.specs.Kept.{IsFifoIn}
use Rattle.ooo_channels.proofs.Moves.{cycle_at-later}

-- a fifo in a later cycle: all that is left may be read
abbrev pub fifo_later : Fifo → Fifo
fifo_later f = record f { held = available f ++ f.written; read = 0; written = [] }

pub later_channel-fifo : (at : Stamp) (x : Cycle) (f : Fifo) → IsFifo f ≡ x.channel → later_channel at x ≡ IsFifo (fifo_later f)
later_channel-fifo at x f is = ap (λ c. later_channel at (record { stamp = x.stamp; channel = c; history = x.history })) (sym is) ∙ go (same_stamp at (next_delta x.stamp)) where
  go : (b : Bool) → cond b (updated x.stamp.time (IsFifo f)) (updated at.time (updated x.stamp.time (IsFifo f))) ≡ IsFifo (fifo_later f)
  go true = refl
  go false = ap (λ vs. IsFifo (record f { held = vs; read = 0; written = [] })) (append-nil (available f ++ f.written))

pub entries-fifo : (x : Cycle) (f : Fifo) → IsFifo f ≡ x.channel →
    entries_of x.stamp x.channel ≡ map (took_entry x.stamp) (take f.read f.held) ++ map (put_entry x.stamp) f.written
entries-fifo x f is = ap (entries_of x.stamp) (sym is)

-- what was written stands behind what may be read
pub written_last : (s : FifoState) (x : Cycle) (h : IsFifoIn s x) → drop (length s.values.items - s.written) s.values.items ≡ h.fifo.written
written_last s x h =
    ap (λ n. drop n s.values.items) front
    ∙ ap (drop (length (available h.fifo))) (sym h.values)
    ∙ drop-append_seam (available h.fifo) h.fifo.written
  where
    front : length s.values.items - s.written ≡ length (available h.fifo)
    front = omega (arith, ap length h.values, length-append (available h.fifo) h.fifo.written, h.written)

-- the fifo goes on to a later cycle
pub moved_fifo :
    (s t : FifoState) (x : Cycle) (at : Stamp) → IsBefore s.stamp at → IsFifoIn s x →
    t.stamp ≡ at → t.size ≡ s.size → t.values.items ≡ s.values.items → t.read ≡ 0 → t.written ≡ 0 →
    t.history.items ≡ s.history.items ++ map (put_entry s.stamp) (drop (length s.values.items - s.written) s.values.items) →
    IsFifoIn t (cycle_at at x)
moved_fifo s t x at before h stamp size values read written history =
    let lt : IsBefore x.stamp at = subst (λ z. IsBefore z at) h.stamp before in
    subst (IsFifoIn t) (sym (cycle_at-later at x lt)) (record {
      fifo = fifo_later h.fifo;
      channel = sym (later_channel-fifo at x h.fifo h.channel);
      stamp = stamp;
      size = h.size ∙ sym size;
      values = append-nil (available h.fifo ++ h.fifo.written) ∙ h.values ∙ sym values;
      read = sym read;
      written = sym written;
      within = omega arith;
      fits = omega (arith, length-append (available h.fifo) h.fifo.written, length-drop h.fifo.read h.fifo.held, h.fits);
      history = history
          ∙ ap (λ es. es ++ map (put_entry s.stamp) (drop (length s.values.items - s.written) s.values.items)) h.history
          ∙ ap (λ vs. (x.history ++ map (took_entry x.stamp) (take h.fifo.read h.fifo.held)) ++ map (put_entry s.stamp) vs) (written_last s x h)
          ∙ ap (λ z. (x.history ++ map (took_entry x.stamp) (take h.fifo.read h.fifo.held)) ++ map (put_entry z) h.fifo.written) h.stamp
          ∙ append_assoc x.history _ _
          ∙ ap (λ es. x.history ++ es) (sym (entries-fifo x h.fifo h.channel))
          ∙ sym (append-nil _);
    })

drop_next : (n : ℕ) (vs : List Value) → drop 1 (drop n vs) ≡ drop (suc n) vs
drop_next zero vs = refl
drop_next (suc n) [] = refl
drop_next (suc n) (v ∷ vs) = drop_next n vs

get_or-front : (vs ws : List Value) (d : Value) → 1 ≤ length vs → get_or (vs ++ ws) 0 d ≡ get_or vs 0 d
get_or-front [] ws d some = absurd (omega arith)
get_or-front (v ∷ vs) ws d some = refl

-- there is room to count a value that is taken
pub taken_fits : (s : FifoState) (y : Cycle) → IsFifoIn s y → 1 ≤ length (readable y.channel) → s.read + 1 ≤ s.size
taken_fits s y h some =
    let one : 1 ≤ length (available h.fifo) = subst (λ c. 1 ≤ length (readable c)) (sym h.channel) some in
    omega (arith, one, length-drop h.fifo.read h.fifo.held, h.read, h.fits, h.size)

-- a value is taken
pub taken_fifo :
    (s t : FifoState) (y : Cycle) (v : Value) → IsFifoIn s y → 1 ≤ length (readable y.channel) →
    t.stamp ≡ s.stamp → t.size ≡ s.size → t.values.items ≡ drop 1 s.values.items → v ≡ get_or s.values.items 0 v →
    t.read ≡ s.read + 1 → t.written ≡ s.written → t.history.items ≡ s.history.items ++ took_entry y.stamp v ∷ [] →
    IsFifoIn t (record y { channel = taken_from y.channel })
taken_fifo s t y v h some stamp size values first read written history = record {
  fifo = record f { read = f.read + 1 };
  channel = ap taken_from h.channel;
  stamp = stamp ∙ h.stamp;
  size = h.size ∙ sym size;
  values = rest ∙ sym values;
  read = ap (λ n. n + 1) h.read ∙ sym read;
  written = h.written ∙ sym written;
  within = omega (arith, one, length-drop f.read f.held);
  fits = h.fits;
  history = history ∙ ap (λ es. es ++ took_entry y.stamp v ∷ []) h.history ∙ append_assoc y.history _ _ ∙ ap (λ es. y.history ++ es) more;
} where
  f : Fifo
  f = h.fifo

  one : 1 ≤ length (available f)
  one = subst (λ c. 1 ≤ length (readable c)) (sym h.channel) some

  rest : drop (f.read + 1) f.held ++ f.written ≡ drop 1 s.values.items
  rest =
      sym (ap (λ vs. vs ++ f.written) (drop_next f.read f.held ∙ ap (λ n. drop n f.held) (sym (add-one f.read))))
      ∙ sym (drop-append-le 1 (available f) f.written one)
      ∙ ap (drop 1) h.values

  is : v ≡ get_or f.held f.read v
  is =
      first
      ∙ ap (λ vs. get_or vs 0 v) (sym h.values)
      ∙ get_or-front (available f) f.written v one
      ∙ get_or-drop f.read f.held 0 v
      ∙ ap (λ n. get_or f.held n v) (omega arith)

  more : map (took_entry y.stamp) (take f.read f.held) ++ took_entry y.stamp v ∷ [] ≡ map (took_entry y.stamp) (take (f.read + 1) f.held)
  more = sym (map-append (took_entry y.stamp) (take f.read f.held) (v ∷ [])) ∙ ap (map (took_entry y.stamp)) (sym (take_more f.held f.read v (omega (arith, one, length-drop f.read f.held)) ∙ ap (λ z. take f.read f.held ++ z ∷ []) (sym is)))
