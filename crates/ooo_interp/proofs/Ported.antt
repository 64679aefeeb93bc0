-- Ports that ascend: where a channel's port stands, and another port in its place.
use Rattle.std.proofs.Common.{◌≡◌, ◌≢◌, ℕ, zero, suc, ◌-◌, ◌<◌, ◌==◌, List, [], ◌∷◌, ◌++◌, length, map, true, false, Bool, if◌then◌else◌, get_or, refl, sym, ap, subst, ◌∙◌, arith}
use Rattle.std.specs.Prelude.{All, drop, slice_set}
use Rattle.std.proofs.lemmas.Bool.Decides.{nat_tests}
use Rattle.ooo_code.specs.declared.activation.Seen.{Seen}
use Rattle.ooo_code.specs.declared.activation.Seen.TheVariants as seen
use Rattle.ooo_value.specs.declared.values.Value.{Value}
use Rattle.ooo_code.specs.Expressions.{fifo_seen, signal_seen}
use Rattle.ooo_code.specs.Nodes.{seen_after_put, seen_after_take}
use Rattle.ooo_interp.specs.declared.fifo_port.FifoPort.{FifoPort}
use Rattle.ooo_interp.specs.declared.port.Port.{Port}
use Rattle.ooo_interp.specs.declared.port.Port.TheVariants as port
use Rattle.ooo_interp.specs.Jobs.{SeenAscend, number_seen}
use Rattle.ooo_interp.specs.Ports.{PortsAscend, ShowAlike, ShowsIts, ValuesOf, all_shown, channel_of, fifo_shown, less_one_slot, less_one_value, shown, signal_shown}
use Rattle.ooo_interp.proofs.Searched.{StandsAt, first_differs, later_differ, none_first, none_later, tail_ascends}

-- what is shown by ports where fifos have these values
module _ (values : ValuesOf) where
  -- ---- what is shown

  -- a port of another channel shows nothing of channel number c
  shows_none : (c : ℕ) (p : Port) (ps : List Port) → (c == channel_of p) ≡ false → ShowAlike values c (p ∷ ps) ps
  shows_none c (port.Signal d v changed) ps e = record { signal = rw e refl; fifo = refl }
  shows_none c (port.Fifo f) ps e = record { signal = refl; fifo = rw e refl }

  -- a port of channel number c shows of it what all ports from there on show
  shows_first : (c : ℕ) (p : Port) (ps : List Port) → channel_of p ≡ c → ShowAlike values c ps [] → ShowAlike values c (p ∷ ps) (p ∷ [])
  shows_first c (port.Signal d v changed) ps e rest =
      let t : (c == d) ≡ true = grind (arith, nat_tests) in record { signal = rw t refl; fifo = rest.fifo }
  shows_first c (port.Fifo f) ps e rest =
      let t : (c == f.channel) ≡ true = grind (arith, nat_tests) in record { signal = rest.signal; fifo = rw t refl }

  shows_as : (c : ℕ) (ps qs rs : List Port) → ShowAlike values c ps qs → ShowAlike values c qs rs → ShowAlike values c ps rs
  shows_as c ps qs rs h k = record { signal = h.signal ∙ k.signal; fifo = h.fifo ∙ k.fifo }

  -- ports of other channels show nothing of channel number c
  pub none_shown : (c : ℕ) (ps : List Port) → All (λ p. channel_of p ≢ c) ps → ShowAlike values c ps []
  none_shown c [] h = record { signal = refl; fifo = refl }
  none_shown c (p ∷ ps) h =
      shows_as c (p ∷ ps) ps [] (shows_none c p ps (none_first channel_of p ps c h)) (none_shown c ps (none_later channel_of p ps c h))

  -- the port of channel number c shows of it what all ports show
  pub its_shown : (c at : ℕ) (p : Port) (ps : List Port) → PortsAscend ps → StandsAt channel_of ps c at → p ≡ get_or ps at p → ShowsIts values c ps p
  its_shown c at p [] asc h q = absurd h
  its_shown c zero p (r ∷ ps) asc h q =
      let is : channel_of p ≡ c = ap channel_of q ∙ h in
      record { channel = is; alike = subst (λ x. ShowAlike values c (r ∷ ps) (x ∷ [])) (sym q) (shows_first c r ps h (none_shown c ps (later_differ channel_of r ps c asc h))) }
  its_shown c (suc at) p (r ∷ ps) asc h q =
      let later = its_shown c at p ps (tail_ascends channel_of r ps asc) h q in
      record { channel = later.channel; alike = shows_as c (r ∷ ps) ps (p ∷ []) (shows_none c r ps (first_differs channel_of r ps c at asc h)) later.alike }

  -- what ports show of a channel, by its port
  pub fifo_of : (c : ℕ) (f : FifoPort) (p : Port) (ps : List Port) → p ≡ port.Fifo f → ShowsIts values c ps p → fifo_seen (all_shown values ps) c ≡ fifo_shown values f
  fifo_of c f p ps is h =
      let its : ShowsIts values c ps (port.Fifo f) = subst (ShowsIts values c ps) is h in
      let e = its.channel in
      let t : (c == f.channel) ≡ true = grind (arith, nat_tests) in
      its.alike.fifo ∙ rw t refl

  pub no_fifo_of : (c d : ℕ) (v : Value) (changed : Bool) (p : Port) (ps : List Port) → p ≡ port.Signal d v changed → ShowsIts values c ps p → fifo_seen (all_shown values ps) c ≡ record { values = []; free = 0 }
  no_fifo_of c d v changed p ps is h = let its : ShowsIts values c ps (port.Signal d v changed) = subst (ShowsIts values c ps) is h in its.alike.fifo

  signal_by : (c : ℕ) (p : Port) → channel_of p ≡ c → signal_seen (all_shown values (p ∷ [])) c ≡ signal_shown p
  signal_by c (port.Signal d v changed) e = let t : (c == d) ≡ true = grind (arith, nat_tests) in rw t refl
  signal_by c (port.Fifo f) e = refl

  pub signal_of : (c : ℕ) (p : Port) (ps : List Port) → ShowsIts values c ps p → signal_seen (all_shown values ps) c ≡ signal_shown p
  signal_of c p ps h = h.alike.signal ∙ signal_by c p h.channel

  -- ---- what is seen next

  seen_number : (p : Port) → number_seen (shown values p) ≡ channel_of p
  seen_number (port.Signal c v changed) = refl
  seen_number (port.Fifo f) = refl

  behind : (ps : List Port) (s : Seen) (rest : List Seen) → length ps < length (all_shown values ps ++ s ∷ rest)
  behind [] s rest = omega arith
  behind (p ∷ ps) s rest = let later = behind ps s rest in omega arith

  at_end : (ps : List Port) (s : Seen) (rest : List Seen) → get_or (all_shown values ps ++ s ∷ rest) (length ps) s ≡ s
  at_end [] s rest = refl
  at_end (p ∷ ps) s rest = at_end ps s rest

  -- what is seen next has a greater number than the ports of what was seen before
  pub next_is_above : (ps : List Port) (s : Seen) (rest : List Seen) (p : Port) → SeenAscend (all_shown values ps ++ s ∷ rest) → shown values p ≡ s → All (λ q. channel_of q < channel_of p) ps
  next_is_above [] s rest p asc is k d lt = absurd (omega arith)
  next_is_above (q ∷ qs) s rest p asc is zero d lt =
      let within = behind qs s rest in
      let below : number_seen (shown values q) < number_seen (get_or (all_shown values qs ++ s ∷ rest) (length qs) s) = asc 0 (suc (length qs)) s (omega arith) (omega arith) in
      let e : number_seen (get_or (all_shown values qs ++ s ∷ rest) (length qs) s) ≡ channel_of p = ap number_seen (at_end qs s rest ∙ sym is) ∙ seen_number p in
      omega (arith, seen_number q)
  next_is_above (q ∷ qs) s rest p asc is (suc k) d lt =
      next_is_above qs s rest p (tail_ascends number_seen (shown values q) (all_shown values qs ++ s ∷ rest) asc) is k d (omega arith)

  -- ---- what is shown after a take or a put

  -- what stays of a port, where a change is of another channel
  module _ (change : ℕ → Seen → Seen) (stays : (c : ℕ) (p : Port) → (c == channel_of p) ≡ false → change c (shown values p) ≡ shown values p) where
    -- where no port is of channel number c, nothing changes
    pub none_changed : (c : ℕ) (ps : List Port) → All (λ p. channel_of p ≢ c) ps → map (change c) (all_shown values ps) ≡ all_shown values ps
    none_changed c [] h = refl
    none_changed c (p ∷ ps) h =
        let first = stays c p (none_first channel_of p ps c h) in
        let later = none_changed c ps (none_later channel_of p ps c h) in
        λ i. first i ∷ later i

    -- a port of channel number c that changes shows the change
    pub one_changed : (c at : ℕ) (p q : Port) (ps : List Port) → PortsAscend ps → StandsAt channel_of ps c at → p ≡ get_or ps at p → shown values q ≡ change c (shown values p) → all_shown values (slice_set ps at q) ≡ map (change c) (all_shown values ps)
    one_changed c at p q [] asc h there is = absurd h
    one_changed c zero p q (r ∷ ps) asc h there is =
        let first : shown values q ≡ change c (shown values r) = is ∙ ap (λ x. change c (shown values x)) there in
        let later = none_changed c ps (later_differ channel_of r ps c asc h) in
        λ i. first i ∷ sym later i
    one_changed c (suc at) p q (r ∷ ps) asc h there is =
        let first = stays c r (first_differs channel_of r ps c at asc h) in
        let later = one_changed c at p q ps (tail_ascends channel_of r ps asc) h there is in
        λ i. sym first i ∷ later i

  -- a take of channel number c
  unfoldable take_of : ℕ → Seen → Seen
  take_of c (seen.Signal b v changed) = seen.Signal b v changed
  take_of c (seen.Fifo b values free) = if c == b then seen.Fifo b (drop 1 values) free else seen.Fifo b values free

  taken_each : (c : ℕ) (ss : List Seen) → seen_after_take ss c ≡ map (take_of c) ss
  unfolding take_of
  taken_each c [] = refl
  taken_each c (seen.Signal b v changed ∷ ss) = ap (λ xs. seen.Signal b v changed ∷ xs) (taken_each c ss)
  taken_each c (seen.Fifo b values free ∷ ss) = ap (λ xs. take_of c (seen.Fifo b values free) ∷ xs) (taken_each c ss)

  take_other : (c : ℕ) (p : Port) → (c == channel_of p) ≡ false → take_of c (shown values p) ≡ shown values p
  unfolding take_of
  take_other c (port.Signal d v changed) e = refl
  take_other c (port.Fifo f) e = rw e refl

  take_its : (c : ℕ) (p : Port) → channel_of p ≡ c → take_of c (shown values p) ≡ less_one_value (shown values p)
  unfolding take_of
  take_its c (port.Signal d v changed) e = refl
  take_its c (port.Fifo f) e = let t : (c == f.channel) ≡ true = grind (arith, nat_tests) in rw t refl

  pub none_taken : (c : ℕ) (ps : List Port) → All (λ p. channel_of p ≢ c) ps → all_shown values ps ≡ seen_after_take (all_shown values ps) c
  none_taken c ps h = sym (taken_each c (all_shown values ps) ∙ none_changed take_of take_other c ps h)

  pub one_taken : (c at : ℕ) (p q : Port) (ps : List Port) → PortsAscend ps → StandsAt channel_of ps c at → p ≡ get_or ps at p → shown values q ≡ less_one_value (shown values p) → all_shown values (slice_set ps at q) ≡ seen_after_take (all_shown values ps) c
  one_taken c at p q ps asc h there is =
      let its = its_shown c at p ps asc h there in
      one_changed take_of take_other c at p q ps asc h there (is ∙ sym (take_its c p its.channel)) ∙ sym (taken_each c (all_shown values ps))

  -- a put of channel number c
  unfoldable put_of : ℕ → Seen → Seen
  put_of c (seen.Signal b v changed) = seen.Signal b v changed
  put_of c (seen.Fifo b values free) = if c == b then seen.Fifo b values (free - 1) else seen.Fifo b values free

  put_each : (c : ℕ) (ss : List Seen) → seen_after_put ss c ≡ map (put_of c) ss
  unfolding put_of
  put_each c [] = refl
  put_each c (seen.Signal b v changed ∷ ss) = ap (λ xs. seen.Signal b v changed ∷ xs) (put_each c ss)
  put_each c (seen.Fifo b values free ∷ ss) = ap (λ xs. put_of c (seen.Fifo b values free) ∷ xs) (put_each c ss)

  put_other : (c : ℕ) (p : Port) → (c == channel_of p) ≡ false → put_of c (shown values p) ≡ shown values p
  unfolding put_of
  put_other c (port.Signal d v changed) e = refl
  put_other c (port.Fifo f) e = rw e refl

  put_its : (c : ℕ) (p : Port) → channel_of p ≡ c → put_of c (shown values p) ≡ less_one_slot (shown values p)
  unfolding put_of
  put_its c (port.Signal d v changed) e = refl
  put_its c (port.Fifo f) e = let t : (c == f.channel) ≡ true = grind (arith, nat_tests) in rw t refl

  pub none_put : (c : ℕ) (ps : List Port) → All (λ p. channel_of p ≢ c) ps → all_shown values ps ≡ seen_after_put (all_shown values ps) c
  none_put c ps h = sym (put_each c (all_shown values ps) ∙ none_changed put_of put_other c ps h)

  pub one_put : (c at : ℕ) (p q : Port) (ps : List Port) → PortsAscend ps → StandsAt channel_of ps c at → p ≡ get_or ps at p → shown values q ≡ less_one_slot (shown values p) → all_shown values (slice_set ps at q) ≡ seen_after_put (all_shown values ps) c
  one_put c at p q ps asc h there is =
      let its = its_shown c at p ps asc h there in
      one_changed put_of put_other c at p q ps asc h there (is ∙ sym (put_its c p its.channel)) ∙ sym (put_each c (all_shown values ps))
