-- An activation on what is open to see of channels is the one on what its process sees.
use Rattle.std.proofs.Common.{◌≡◌, ℕ, zero, suc, ◌+◌, ◌≤◌, Bool, true, false, if◌then◌else◌, arith, List, [], ◌∷◌, Option, Some, None, refl, sym, ap, ◌∙◌, length, get_or, eq-eqb, eqb-true}
use Rattle.std.proofs.Math.ListN.{get_or-map}
use Rattle.std.proofs.lemmas.List.{get_or_past}
use Rattle.std.specs.Prelude.{slice_get, pos}
use Rattle.ooo_value.specs.Values.{value_of}
use Rattle.ooo_value.specs.declared.bound.BoundChannel.{BoundChannel}
use Rattle.ooo_value.specs.declared.bound.ChannelKind.{ChannelKind}
use Rattle.ooo_value.specs.declared.bound.ChannelKind.TheVariants as channel
use Rattle.ooo_code.specs.declared.activation.Frame.{Frame}
use Rattle.ooo_code.specs.declared.design.Design.{Design}
use Rattle.ooo_code.specs.declared.design.Proc.{Proc}
use Rattle.ooo_code.specs.Channels.{Channel, Signal, Fifo, IsSignal, IsFifo, is_process, available, free_slots, all_seen}
use Rattle.ooo_code.specs.Expressions.{signal_seen, fifo_seen}
use Rattle.ooo_code.specs.Nodes.{by_nodes, entry_node}
use Rattle.ooo_code.specs.Outcomes.{View}
use Rattle.ooo_code.specs.Segments.{Accesses, IsNodeOf}
use Rattle.ooo_code.specs.Sound.{IsSound, FitsProcess}
use Rattle.ooo_code.specs.Touches.{Touch, Reads, Writes, ReadsSignal, WritesSignal, HoldsReading, HoldsWriting, Notifies, Cancels}
use Rattle.ooo_code.specs.Dependence.{AgreeOn, DidTheSame, TouchesOnly}
use Rattle.ooo_meaning.specs.World.{World, channel_at, no_channel, view_of}
use Rattle.ooo_meaning.specs.Runs.{holds_reading, holds_writing, holder_of, first_channels}
use Rattle.ooo_plain.specs.Seeing.{all_open, Ends, ends_of, HasEnds}
use Rattle.ooo_plain.specs.Shown.{one_of, shown_by}
use Rattle.ooo_plain.proofs.Seen.{as_signal, as_fifo, as_open, signal_of_all, fifo_of_all, is_named, signal_named, fifo_named, signal_unnamed, fifo_unnamed}
use Rattle.ooo_plain.proofs.Holders.{holder_is, reach_own}
use Rattle.ooo_plain.proofs.Deeds.{outcome_same}

-- ---- the ends as they start

reads_same : (c : ℕ) (t : Touch) → holds_reading c t ≡ true → t ≡ HoldsReading c
reads_same c (HoldsReading d) e = ap HoldsReading (sym (eqb-true c d e))
reads_same c (Reads x) e = absurd (let no : false ≡ true = e in cc)
reads_same c (Writes x) e = absurd (let no : false ≡ true = e in cc)
reads_same c (ReadsSignal x) e = absurd (let no : false ≡ true = e in cc)
reads_same c (WritesSignal x) e = absurd (let no : false ≡ true = e in cc)
reads_same c (HoldsWriting x) e = absurd (let no : false ≡ true = e in cc)
reads_same c (Notifies x k) e = absurd (let no : false ≡ true = e in cc)
reads_same c (Cancels x) e = absurd (let no : false ≡ true = e in cc)

writes_same : (c : ℕ) (t : Touch) → holds_writing c t ≡ true → t ≡ HoldsWriting c
writes_same c (HoldsWriting d) e = ap HoldsWriting (sym (eqb-true c d e))
writes_same c (Reads x) e = absurd (let no : false ≡ true = e in cc)
writes_same c (Writes x) e = absurd (let no : false ≡ true = e in cc)
writes_same c (ReadsSignal x) e = absurd (let no : false ≡ true = e in cc)
writes_same c (WritesSignal x) e = absurd (let no : false ≡ true = e in cc)
writes_same c (HoldsReading x) e = absurd (let no : false ≡ true = e in cc)
writes_same c (Notifies x k) e = absurd (let no : false ≡ true = e in cc)
writes_same c (Cancels x) e = absurd (let no : false ≡ true = e in cc)

module _ (design : Design) where
  -- the processes that hold the ends of channel c
  pub record AreHolders (c : ℕ) (e : Ends) : Type 0 where
    pub reader : e.reader ≡ holder_of design (holds_reading c)
    pub writer : e.writer ≡ holder_of design (holds_writing c)

  -- the ends of a channel of a kind
  abbrev ends_by : ChannelKind → (size : ℕ) → (reader writer : Option ℕ) → Option Ends
  ends_by channel.Signal size reader writer = None
  ends_by channel.Fifo size reader writer = Some (record { size = size; reader = reader; writer = writer })

  ends_kind : (b : BoundChannel) (reader writer : Option ℕ) (k : ChannelKind) → ends_of (elim k [
    | channel.Signal ↦ IsSignal (record { current = value_of b.value (pos 0); requested = None; changed = None })
    | channel.Fifo ↦ IsFifo (record { size = b.size; held = []; read = 0; written = []; reader = reader; writer = writer })
  ]) ≡ ends_by k b.size reader writer
  ends_kind b reader writer channel.Signal = refl
  ends_kind b reader writer channel.Fifo = refl

  abbrev pub first_end : List BoundChannel → (k i : ℕ) → Option Ends
  first_end cs k i = ends_of (channel_at (first_channels design k cs) i)

  first_ends : (cs : List BoundChannel) (k i : ℕ) (b : BoundChannel) → slice_get cs i ≡ Some b → first_end cs k i ≡ ends_by b.kind b.size (holder_of design (holds_reading (k + i))) (holder_of design (holds_writing (k + i)))
  first_ends [] k i b is = absurd (let no : None ≡ Some b = is in cc)
  first_ends (x ∷ cs) k zero b is =
      let same : x ≡ b = (let e : Some x ≡ Some b = is in cc) in
      ends_kind x (holder_of design (holds_reading k)) (holder_of design (holds_writing k)) x.kind
      ∙ ap (λ y. ends_by y.kind y.size (holder_of design (holds_reading k)) (holder_of design (holds_writing k))) same
      ∙ ap (λ c. ends_by b.kind b.size (holder_of design (holds_reading c)) (holder_of design (holds_writing c))) (let e : k ≡ k + 0 = omega arith in e)
  first_ends (x ∷ cs) k (suc i) b is = first_ends cs (k + 1) i b is ∙ ap (λ c. ends_by b.kind b.size (holder_of design (holds_reading c)) (holder_of design (holds_writing c))) (let e : k + 1 + i ≡ k + suc i = omega arith in e)

  -- where there is no channel there are no ends
  first_past : (cs : List BoundChannel) (k i : ℕ) → slice_get cs i ≡ None → first_end cs k i ≡ None
  first_past [] k i is = refl
  first_past (x ∷ cs) k zero is = absurd (let no : Some x ≡ None = is in cc)
  first_past (x ∷ cs) k (suc i) is = first_past cs (k + 1) i is

  fifo_ends : (k : ChannelKind) (size : ℕ) (reader writer : Option ℕ) (e : Ends) → ends_by k size reader writer ≡ Some e → (k ≡ channel.Fifo) × (e.size ≡ size) × (e.reader ≡ reader) × (e.writer ≡ writer)
  fifo_ends channel.Signal size reader writer e h = absurd (let no : None ≡ Some e = h in cc)
  fifo_ends channel.Fifo size reader writer e h =
      let x : Ends = record { size = size; reader = reader; writer = writer } in
      let same : x ≡ e = (let g : Some x ≡ Some e = h in cc) in
      (refl, ap (λ y. y.size) (sym same), ap (λ y. y.reader) (sym same), ap (λ y. y.writer) (sym same))

  module _ (w : World) (ends : HasEnds design w) where
    pub ends_at : (c : ℕ) → ends_of (channel_at w.channels c) ≡ ends_of (channel_at (first_channels design 0 design.channels) c)
    ends_at c = sym (get_or-map ends_of w.channels c no_channel) ∙ ap (λ xs. get_or xs c None) ends ∙ get_or-map ends_of (first_channels design 0 design.channels) c no_channel

    ends_of_bound : (c : ℕ) (b : BoundChannel) → slice_get design.channels c ≡ Some b → ends_of (channel_at w.channels c) ≡ ends_by b.kind b.size (holder_of design (holds_reading c)) (holder_of design (holds_writing c))
    ends_of_bound c b is = ends_at c ∙ first_ends design.channels 0 c b is ∙ ap (λ i. ends_by b.kind b.size (holder_of design (holds_reading i)) (holder_of design (holds_writing i))) (let e : 0 + c ≡ c = omega arith in e)

    -- a signal of the design is one of the world
    pub signal_is : (c : ℕ) (b : BoundChannel) → slice_get design.channels c ≡ Some b → b.kind ≡ channel.Signal → (s : Signal) × (channel_at w.channels c ≡ IsSignal s)
    signal_is c b is k = go (channel_at w.channels c) refl
      where
        go : (x : Channel) → channel_at w.channels c ≡ x → (s : Signal) × (x ≡ IsSignal s)
        go (IsSignal s) e = (s, refl)
        go (IsFifo f) e = absurd (let h : Some (record { size = f.size; reader = f.reader; writer = f.writer }) ≡ None = sym (ap ends_of e) ∙ ends_of_bound c b is ∙ ap (λ j. ends_by j b.size (holder_of design (holds_reading c)) (holder_of design (holds_writing c))) k in cc)

    -- a fifo of the design is one of the world, of its size
    pub fifo_is : (c : ℕ) (b : BoundChannel) → slice_get design.channels c ≡ Some b → b.kind ≡ channel.Fifo → (f : Fifo) × (channel_at w.channels c ≡ IsFifo f) × (f.size ≡ b.size)
    fifo_is c b is k = go (channel_at w.channels c) refl
      where
        ends_fifo : ends_of (channel_at w.channels c) ≡ ends_by channel.Fifo b.size (holder_of design (holds_reading c)) (holder_of design (holds_writing c))
        ends_fifo = ends_of_bound c b is ∙ ap (λ j. ends_by j b.size (holder_of design (holds_reading c)) (holder_of design (holds_writing c))) k

        go : (x : Channel) → channel_at w.channels c ≡ x → (f : Fifo) × (x ≡ IsFifo f) × (f.size ≡ b.size)
        go (IsSignal s) e = absurd (let h : None ≡ ends_by channel.Fifo b.size (holder_of design (holds_reading c)) (holder_of design (holds_writing c)) = sym (ap ends_of e) ∙ ends_fifo in cc)
        go (IsFifo f) e = (f, refl, (fifo_ends channel.Fifo b.size _ _ (record { size = f.size; reader = f.reader; writer = f.writer }) (sym ends_fifo ∙ ap ends_of e)).1)

    pub held_by : (c : ℕ) (f : Fifo) → channel_at w.channels c ≡ IsFifo f → AreHolders c (record { size = f.size; reader = f.reader; writer = f.writer })
    held_by c f is = go (slice_get design.channels c) refl
      where
        mine : ends_of (channel_at w.channels c) ≡ Some (record { size = f.size; reader = f.reader; writer = f.writer })
        mine = ap ends_of is

        go : (o : Option BoundChannel) → slice_get design.channels c ≡ o → AreHolders c (record { size = f.size; reader = f.reader; writer = f.writer })
        go None e = absurd (let no : None ≡ Some (record { size = f.size; reader = f.reader; writer = f.writer }) = sym (first_past design.channels 0 c e) ∙ sym (ends_at c) ∙ mine in cc)
        go (Some b) e =
            let h = fifo_ends b.kind b.size (holder_of design (holds_reading c)) (holder_of design (holds_writing c)) (record { size = f.size; reader = f.reader; writer = f.writer }) (sym (ends_of_bound c b e) ∙ mine) in
            record { reader = h.2; writer = h.3 }

-- ---- the two views

holds_self : (p : ℕ) (o : Option ℕ) → o ≡ Some p → is_process p o ≡ true
holds_self p o e = rw e (eq-eqb p p refl)

module _ (design : Design) (sound : IsSound design) (p : ℕ) (process : Proc) (at_p : slice_get design.processes p ≡ Some process) (fits : FitsProcess design process) (frame : Frame) (own : IsNodeOf process (entry_node design process frame.entry))
    (w : World) (ends : HasEnds design w) (names : List ℕ) (missing : (c : ℕ) (t : Touch) → Accesses design process frame.entry t → shown_by (length design.channels) t ≡ one_of (length design.channels) c → is_named w.stamp.time w.channels c names ≡ false → length w.channels ≤ c) where
  abbrev pub T : Touch → Type 0
  T = Accesses design process frame.entry

  abbrev pub opened : View
  opened = record { stamp = w.stamp; variables = w.variables; seen = all_open w names }

  past : (c : ℕ) → length w.channels ≤ c → channel_at w.channels c ≡ no_channel
  past c le = get_or_past w.channels c no_channel le

  signals_agree : (c : ℕ) → T (ReadsSignal c) → signal_seen (all_seen w.stamp.time p 0 w.channels) c ≡ signal_seen (all_open w names) c
  signals_agree c t = signal_of_all w.stamp.time p w.channels c ∙ go (is_named w.stamp.time w.channels c names) refl
    where
      go : (b : Bool) → is_named w.stamp.time w.channels c names ≡ b → as_signal w.stamp.time (channel_at w.channels c) ≡ signal_seen (all_open w names) c
      go true e = sym (signal_named w.stamp.time w.channels c names e)
      go false e = ap (as_signal w.stamp.time) (past c (missing c (ReadsSignal c) t refl e)) ∙ sym (signal_unnamed w.stamp.time w.channels c names e)

  -- what both ends show, where a process holds this one
  values_same : (c : ℕ) → T (HoldsReading c) → (x : Channel) → channel_at w.channels c ≡ x → (as_fifo p x).values ≡ (as_open x).values
  values_same c t (IsSignal s) is = refl
  values_same c t (IsFifo f) is =
      let mine : holder_of design (holds_reading c) ≡ Some p = holder_is design sound.processes (holds_reading c) (HoldsReading c) (reads_same c) (sound.reading_ends c) (eq-eqb c c refl) p process t.number t.node at_p (reach_own design process fits (entry_node design process frame.entry) t.number own t.within) t.is t.touches in
      ap (λ b. if b then available f else []) (holds_self p f.reader ((held_by design w ends c f is).reader ∙ mine))

  free_same : (c : ℕ) → T (HoldsWriting c) → (x : Channel) → channel_at w.channels c ≡ x → (as_fifo p x).free ≡ (as_open x).free
  free_same c t (IsSignal s) is = refl
  free_same c t (IsFifo f) is =
      let mine : holder_of design (holds_writing c) ≡ Some p = holder_is design sound.processes (holds_writing c) (HoldsWriting c) (writes_same c) (sound.writing_ends c) (eq-eqb c c refl) p process t.number t.node at_p (reach_own design process fits (entry_node design process frame.entry) t.number own t.within) t.is t.touches in
      ap (λ b. if b then free_slots f else 0) (holds_self p f.writer ((held_by design w ends c f is).writer ∙ mine))

  open_fifo : (c : ℕ) (t : Touch) → T t → shown_by (length design.channels) t ≡ one_of (length design.channels) c → as_open (channel_at w.channels c) ≡ fifo_seen (all_open w names) c
  open_fifo c t touched shows = go (is_named w.stamp.time w.channels c names) refl
    where
      go : (b : Bool) → is_named w.stamp.time w.channels c names ≡ b → as_open (channel_at w.channels c) ≡ fifo_seen (all_open w names) c
      go true e = sym (fifo_named w.stamp.time w.channels c names e)
      go false e = ap as_open (past c (missing c t touched shows e)) ∙ sym (fifo_unnamed w.stamp.time w.channels c names e)

  pub views_agree : AgreeOn T (view_of p w) opened
  views_agree = record {
    stamp = refl;
    variables = record { count = refl; read = λ x t. refl; written = λ x t. refl };
    signals = λ c t. signals_agree c t;
    readable = λ c t. ap (λ x. x.values) (fifo_of_all w.stamp.time p w.channels c) ∙ values_same c t (channel_at w.channels c) refl ∙ ap (λ x. x.values) (open_fifo c (HoldsReading c) t refl);
    writable = λ c t. ap (λ x. x.free) (fifo_of_all w.stamp.time p w.channels c) ∙ free_same c t (channel_at w.channels c) refl ∙ ap (λ x. x.free) (open_fifo c (HoldsWriting c) t refl);
  }

  -- so the activation is the same
  pub same_activation : (statements : ℕ)
      → ((a b : View) → AgreeOn T a b → DidTheSame T (by_nodes design statements p frame a) (by_nodes design statements p frame b))
      → ((a : View) → TouchesOnly T a (by_nodes design statements p frame a))
      → by_nodes design statements p frame (view_of p w) ≡ by_nodes design statements p frame opened
  same_activation statements reads changes =
      outcome_same T (view_of p w) opened _ _ (reads (view_of p w) opened views_agree) (changes (view_of p w)) (changes opened) refl
