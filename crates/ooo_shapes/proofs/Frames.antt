-- The locals of a function in its slots.
use Rattle.std.proofs.Common.{◌≡◌, ℕ, ◌+◌, ◌<◌, ◌≤◌, ◌⊎◌, inl, inr, ⊎_elim, List, length, true, false, if◌then◌else◌, refl, sym, ap, ◌∙◌, arith, get_or}
use Rattle.std.specs.Prelude.{slice_set, ◌==◌, ◌&&◌}
use Rattle.std.proofs.lemmas.Bool.Decides.{eqb_tells}
use Rattle.std.proofs.lemmas.List.{get_or-set_same, get_or-set_other}
use Rattle.ooo_value.specs.declared.kinds.Kind.{Kind}
use Rattle.ooo_value.specs.declared.kinds.Kind.TheVariants as kind
use Rattle.ooo_value.specs.declared.values.Value.{Value}
use Rattle.ooo_code.specs.Expressions.{no_value}
use Rattle.ooo_code.specs.Sound.{same_kind}
use Rattle.ooo_activation.specs.Locals.{Locals, with_local}
use Rattle.ooo_shapes.specs.declared.around.Around.{Around}
use Rattle.ooo_shapes.specs.declared.around.Widths.{Widths}
use Rattle.ooo_shapes.specs.Widths.{width_of, start_of, count_of, both, up_to}
use Rattle.ooo_shapes.specs.Expressions.{first_base, slot_of}

-- ---- widths

-- no more slots of any kind
pub record Within (v w : Widths) : Type 0 where
  pub bools : v.bools ≤ w.bools
  pub ints : v.ints ≤ w.ints
  pub uints : v.uints ≤ w.uints
  pub longs : v.longs ≤ w.longs
  pub ulongs : v.ulongs ≤ w.ulongs

pub within_left : (a b w : Widths) → Within (both a b) w → Within a w
within_left a b w h = record {
  bools = omega (arith, h.bools);
  ints = omega (arith, h.ints);
  uints = omega (arith, h.uints);
  longs = omega (arith, h.longs);
  ulongs = omega (arith, h.ulongs);
}

pub within_right : (a b w : Widths) → Within (both a b) w → Within b w
within_right a b w h = record {
  bools = omega (arith, h.bools);
  ints = omega (arith, h.ints);
  uints = omega (arith, h.uints);
  longs = omega (arith, h.longs);
  ulongs = omega (arith, h.ulongs);
}

pub within_same : (a : Widths) → Within a a
within_same a = record { bools = omega arith; ints = omega arith; uints = omega arith; longs = omega arith; ulongs = omega arith }

-- the slot of a local is there
pub within_local : (k : Kind) (n : ℕ) (w : Widths) → Within (up_to k n) w → n < width_of w k
within_local kind.Bool n w h = omega (arith, h.bools)
within_local kind.Int n w h = omega (arith, h.ints)
within_local kind.Uint n w h = omega (arith, h.uints)
within_local kind.Long n w h = omega (arith, h.longs)
within_local kind.Ulong n w h = omega (arith, h.ulongs)

pub start_below : (w : Widths) (k : Kind) (n : ℕ) → n < width_of w k → start_of w k + n < count_of w
start_below w kind.Bool n lt = omega (arith, lt)
start_below w kind.Int n lt = omega (arith, lt)
start_below w kind.Uint n lt = omega (arith, lt)
start_below w kind.Long n lt = omega (arith, lt)
start_below w kind.Ulong n lt = omega (arith, lt)

-- two locals that are not the same have two slots
pub record Apart (k j : Kind) (n m : ℕ) : Type 0 where
  pub differ : (same_kind k j && (n == m)) ≡ false
  pub slots : (w : Widths) → n < width_of w k → m < width_of w j → (start_of w j + m ≡ start_of w k + n) → ⊥

pub record Alike (k j : Kind) (n m : ℕ) : Type 0 where
  pub agree : (same_kind k j && (n == m)) ≡ true
  pub kind : k ≡ j
  pub slot : n ≡ m

number_Bool : (n m : ℕ) → Alike kind.Bool kind.Bool n m ⊎ Apart kind.Bool kind.Bool n m
number_Bool n m =
    ⊎_elim
    (λ h. inl (record { agree = h.0; kind = refl; slot = h.1 }))
    (λ h. inr (record { differ = h.0; slots = λ w l r e. h.1 (omega (arith, e)) }))
    (eqb_tells n m)

number_Int : (n m : ℕ) → Alike kind.Int kind.Int n m ⊎ Apart kind.Int kind.Int n m
number_Int n m =
    ⊎_elim
    (λ h. inl (record { agree = h.0; kind = refl; slot = h.1 }))
    (λ h. inr (record { differ = h.0; slots = λ w l r e. h.1 (omega (arith, e)) }))
    (eqb_tells n m)

number_Uint : (n m : ℕ) → Alike kind.Uint kind.Uint n m ⊎ Apart kind.Uint kind.Uint n m
number_Uint n m =
    ⊎_elim
    (λ h. inl (record { agree = h.0; kind = refl; slot = h.1 }))
    (λ h. inr (record { differ = h.0; slots = λ w l r e. h.1 (omega (arith, e)) }))
    (eqb_tells n m)

number_Long : (n m : ℕ) → Alike kind.Long kind.Long n m ⊎ Apart kind.Long kind.Long n m
number_Long n m =
    ⊎_elim
    (λ h. inl (record { agree = h.0; kind = refl; slot = h.1 }))
    (λ h. inr (record { differ = h.0; slots = λ w l r e. h.1 (omega (arith, e)) }))
    (eqb_tells n m)

number_Ulong : (n m : ℕ) → Alike kind.Ulong kind.Ulong n m ⊎ Apart kind.Ulong kind.Ulong n m
number_Ulong n m =
    ⊎_elim
    (λ h. inl (record { agree = h.0; kind = refl; slot = h.1 }))
    (λ h. inr (record { differ = h.0; slots = λ w l r e. h.1 (omega (arith, e)) }))
    (eqb_tells n m)

pub alike_or_apart : (k j : Kind) (n m : ℕ) → Alike k j n m ⊎ Apart k j n m
alike_or_apart kind.Bool kind.Bool n m = number_Bool n m
alike_or_apart kind.Bool kind.Int n m = inr (record { differ = refl; slots = λ w l r e. absurd (omega (arith, l, r, e)) })
alike_or_apart kind.Bool kind.Uint n m = inr (record { differ = refl; slots = λ w l r e. absurd (omega (arith, l, r, e)) })
alike_or_apart kind.Bool kind.Long n m = inr (record { differ = refl; slots = λ w l r e. absurd (omega (arith, l, r, e)) })
alike_or_apart kind.Bool kind.Ulong n m = inr (record { differ = refl; slots = λ w l r e. absurd (omega (arith, l, r, e)) })
alike_or_apart kind.Int kind.Bool n m = inr (record { differ = refl; slots = λ w l r e. absurd (omega (arith, l, r, e)) })
alike_or_apart kind.Int kind.Int n m = number_Int n m
alike_or_apart kind.Int kind.Uint n m = inr (record { differ = refl; slots = λ w l r e. absurd (omega (arith, l, r, e)) })
alike_or_apart kind.Int kind.Long n m = inr (record { differ = refl; slots = λ w l r e. absurd (omega (arith, l, r, e)) })
alike_or_apart kind.Int kind.Ulong n m = inr (record { differ = refl; slots = λ w l r e. absurd (omega (arith, l, r, e)) })
alike_or_apart kind.Uint kind.Bool n m = inr (record { differ = refl; slots = λ w l r e. absurd (omega (arith, l, r, e)) })
alike_or_apart kind.Uint kind.Int n m = inr (record { differ = refl; slots = λ w l r e. absurd (omega (arith, l, r, e)) })
alike_or_apart kind.Uint kind.Uint n m = number_Uint n m
alike_or_apart kind.Uint kind.Long n m = inr (record { differ = refl; slots = λ w l r e. absurd (omega (arith, l, r, e)) })
alike_or_apart kind.Uint kind.Ulong n m = inr (record { differ = refl; slots = λ w l r e. absurd (omega (arith, l, r, e)) })
alike_or_apart kind.Long kind.Bool n m = inr (record { differ = refl; slots = λ w l r e. absurd (omega (arith, l, r, e)) })
alike_or_apart kind.Long kind.Int n m = inr (record { differ = refl; slots = λ w l r e. absurd (omega (arith, l, r, e)) })
alike_or_apart kind.Long kind.Uint n m = inr (record { differ = refl; slots = λ w l r e. absurd (omega (arith, l, r, e)) })
alike_or_apart kind.Long kind.Long n m = number_Long n m
alike_or_apart kind.Long kind.Ulong n m = inr (record { differ = refl; slots = λ w l r e. absurd (omega (arith, l, r, e)) })
alike_or_apart kind.Ulong kind.Bool n m = inr (record { differ = refl; slots = λ w l r e. absurd (omega (arith, l, r, e)) })
alike_or_apart kind.Ulong kind.Int n m = inr (record { differ = refl; slots = λ w l r e. absurd (omega (arith, l, r, e)) })
alike_or_apart kind.Ulong kind.Uint n m = inr (record { differ = refl; slots = λ w l r e. absurd (omega (arith, l, r, e)) })
alike_or_apart kind.Ulong kind.Long n m = inr (record { differ = refl; slots = λ w l r e. absurd (omega (arith, l, r, e)) })
alike_or_apart kind.Ulong kind.Ulong n m = number_Ulong n m

-- ---- frames

module _ (total : ℕ) where
  -- the slots from a base on hold the locals
  pub record Frame (t : Around) (locals : Locals) (slots : List Value) : Type 0 where
    pub same : (k : Kind) (n : ℕ) → n < width_of t.widths k → get_or slots (slot_of t k n) no_value ≡ locals k n
    pub within : t.base + count_of t.widths ≤ total
    pub low : first_base ≤ t.base

  -- the slots that stand before this one are as they were, but for the first ones
  abbrev pub Keeps : ℕ → (slots slots' : List Value) → Type 0
  Keeps n slots slots' = (i : ℕ) → first_base ≤ i → i < n → get_or slots' i no_value ≡ get_or slots i no_value

  pub keeps_set : (n x : ℕ) (v : Value) (slots : List Value) → n ≤ x → Keeps n slots (slice_set slots x v)
  keeps_set n x v slots le i low lt = get_or-set_other slots x i v no_value (λ e. absurd (omega (arith, e)))

  pub keeps_first : (n x : ℕ) (v : Value) (slots : List Value) → x < first_base → Keeps n slots (slice_set slots x v)
  keeps_first n x v slots less i low lt = get_or-set_other slots x i v no_value (λ e. absurd (omega (arith, e)))

  -- a frame that stands below what changes stays one
  pub keeps_frame : (t : Around) (n : ℕ) (locals : Locals) (slots slots' : List Value) → t.base + count_of t.widths ≤ n → Keeps n slots slots' → Frame t locals slots → Frame t locals slots'
  keeps_frame t n locals slots slots' le s f = record {
    same = λ k i lt. s (slot_of t k i) (omega (arith, f.low)) (omega (arith, start_below t.widths k i lt)) ∙ f.same k i lt;
    within = f.within;
    low = f.low;
  }

  -- a local gets a value, in its slot
  pub frame_set : (t : Around) (k : Kind) (n : ℕ) (v : Value) (locals : Locals) (slots : List Value) → length slots ≡ total → n < width_of t.widths k → Frame t locals slots → Frame t (with_local k n v locals) (slice_set slots (slot_of t k n) v)
  frame_set t k n v locals slots len lt f = record {
    same = λ j m less. ⊎_elim (λ h. here j m h) (λ h. there j m less h) (alike_or_apart k j n m);
    within = f.within;
    low = f.low;
  }
    where
      room : slot_of t k n < length slots
      room = omega (arith, len, f.within, start_below t.widths k n lt)

      here : (j : Kind) (m : ℕ) → Alike k j n m → get_or (slice_set slots (slot_of t k n) v) (slot_of t j m) no_value ≡ with_local k n v locals j m
      here j m h =
          ap (λ x. get_or (slice_set slots (slot_of t k n) v) x no_value) (sym (ap (λ k. slot_of t k m) h.kind) ∙ sym (ap (λ n. slot_of t k n) h.slot))
          ∙ get_or-set_same slots (slot_of t k n) v no_value room
          ∙ sym (ap (λ b. if b then v else locals j m) h.agree)

      there : (j : Kind) (m : ℕ) → m < width_of t.widths j → Apart k j n m → get_or (slice_set slots (slot_of t k n) v) (slot_of t j m) no_value ≡ with_local k n v locals j m
      there j m less h =
          get_or-set_other slots (slot_of t k n) (slot_of t j m) v no_value (λ e. h.slots t.widths lt less (omega (arith, e)))
          ∙ f.same j m less
          ∙ sym (ap (λ b. if b then v else locals j m) h.differ)
