-- The slots of a function's locals, each at 0.
use Rattle.std.proofs.Common.{◌≡◌, ℕ, zero, suc, ◌+◌, ◌<◌, List, [], ◌∷◌, ◌++◌, length, map, refl, ap, ◌∙◌, arith, get_or, replicate, length-append}
use Rattle.std.specs.Prelude.{pos}
use Rattle.std.proofs.lemmas.List.{get_or-replicate, get_or-append-add, get_or-map}
use Rattle.ooo_value.specs.declared.kinds.Kind.{Kind}
use Rattle.ooo_value.specs.declared.kinds.Kind.TheVariants as kind
use Rattle.ooo_value.specs.declared.values.Value.{Value}
use Rattle.ooo_value.specs.Values.{value_of}
use Rattle.ooo_code.specs.Expressions.{no_value}
use Rattle.ooo_shapes.specs.declared.around.Widths.{Widths}
use Rattle.ooo_shapes.specs.Widths.{width_of, start_of, count_of, kinds_of}
use Rattle.ooo_shapes.proofs.Frames.{start_below}

-- 0 of a kind
abbrev pub zero_of : Kind → Value
zero_of k = value_of k (pos 0)

pub in_left : (xs ys : List Kind) (i : ℕ) (d : Kind) → i < length xs → get_or (xs ++ ys) i d ≡ get_or xs i d
in_left [] ys i d lt = absurd (omega (arith, lt))
in_left (x ∷ xs) ys zero d lt = refl
in_left (x ∷ xs) ys (suc i) d lt = in_left xs ys i d (omega (arith, lt))

pub in_right : (xs ys : List Kind) (i j : ℕ) (d : Kind) → j ≡ length xs + i → get_or (xs ++ ys) j d ≡ get_or ys i d
in_right xs ys i j d e = ap (λ j. get_or (xs ++ ys) j d) e ∙ get_or-append-add xs ys i d

count_replicate : (n : ℕ) (k : Kind) → length (replicate n k) ≡ n
count_replicate zero k = refl
count_replicate (suc n) k = ap suc (count_replicate n k)

module _ (w : Widths) where
  abbrev bools_kinds : List Kind
  bools_kinds = replicate w.bools kind.Bool

  abbrev ints_kinds : List Kind
  ints_kinds = replicate w.ints kind.Int

  abbrev uints_kinds : List Kind
  uints_kinds = replicate w.uints kind.Uint

  abbrev longs_kinds : List Kind
  longs_kinds = replicate w.longs kind.Long

  abbrev ulongs_kinds : List Kind
  ulongs_kinds = replicate w.ulongs kind.Ulong

  count_1 : length bools_kinds ≡ w.bools
  count_1 = count_replicate w.bools kind.Bool

  count_2 : length (bools_kinds ++ ints_kinds) ≡ w.bools + w.ints
  count_2 = omega (arith, length-append bools_kinds ints_kinds, count_1, count_replicate w.ints kind.Int)

  count_3 : length (bools_kinds ++ ints_kinds ++ uints_kinds) ≡ w.bools + w.ints + w.uints
  count_3 = omega (arith, length-append (bools_kinds ++ ints_kinds) uints_kinds, count_2, count_replicate w.uints kind.Uint)

  count_4 : length (bools_kinds ++ ints_kinds ++ uints_kinds ++ longs_kinds) ≡ w.bools + w.ints + w.uints + w.longs
  count_4 = omega (arith, length-append (bools_kinds ++ ints_kinds ++ uints_kinds) longs_kinds, count_3, count_replicate w.longs kind.Long)

  pub count_kinds : length (kinds_of w) ≡ count_of w
  count_kinds = omega (arith, length-append (bools_kinds ++ ints_kinds ++ uints_kinds ++ longs_kinds) ulongs_kinds, count_4, count_replicate w.ulongs kind.Ulong)

  -- the slot of a local is of its kind
  pub kind_at : (k : Kind) (n : ℕ) → n < width_of w k → get_or (kinds_of w) (start_of w k + n) kind.Bool ≡ k
  kind_at kind.Bool n lt =
      in_left (bools_kinds ++ ints_kinds ++ uints_kinds ++ longs_kinds) ulongs_kinds (0 + n) kind.Bool (omega (arith, count_4, lt))
      ∙ in_left (bools_kinds ++ ints_kinds ++ uints_kinds) longs_kinds (0 + n) kind.Bool (omega (arith, count_3, lt))
      ∙ in_left (bools_kinds ++ ints_kinds) uints_kinds (0 + n) kind.Bool (omega (arith, count_2, lt))
      ∙ in_left bools_kinds ints_kinds (0 + n) kind.Bool (omega (arith, count_1, lt))
      ∙ get_or-replicate w.bools (0 + n) kind.Bool kind.Bool (omega (arith, lt))
  kind_at kind.Int n lt =
      in_left (bools_kinds ++ ints_kinds ++ uints_kinds ++ longs_kinds) ulongs_kinds (w.bools + n) kind.Bool (omega (arith, count_4, lt))
      ∙ in_left (bools_kinds ++ ints_kinds ++ uints_kinds) longs_kinds (w.bools + n) kind.Bool (omega (arith, count_3, lt))
      ∙ in_left (bools_kinds ++ ints_kinds) uints_kinds (w.bools + n) kind.Bool (omega (arith, count_2, lt))
      ∙ in_right bools_kinds ints_kinds n (w.bools + n) kind.Bool (omega (arith, count_1))
      ∙ get_or-replicate w.ints n kind.Int kind.Bool lt
  kind_at kind.Uint n lt =
      in_left (bools_kinds ++ ints_kinds ++ uints_kinds ++ longs_kinds) ulongs_kinds (w.bools + w.ints + n) kind.Bool (omega (arith, count_4, lt))
      ∙ in_left (bools_kinds ++ ints_kinds ++ uints_kinds) longs_kinds (w.bools + w.ints + n) kind.Bool (omega (arith, count_3, lt))
      ∙ in_right (bools_kinds ++ ints_kinds) uints_kinds n (w.bools + w.ints + n) kind.Bool (omega (arith, count_2))
      ∙ get_or-replicate w.uints n kind.Uint kind.Bool lt
  kind_at kind.Long n lt =
      in_left (bools_kinds ++ ints_kinds ++ uints_kinds ++ longs_kinds) ulongs_kinds (w.bools + w.ints + w.uints + n) kind.Bool (omega (arith, count_4, lt))
      ∙ in_right (bools_kinds ++ ints_kinds ++ uints_kinds) longs_kinds n (w.bools + w.ints + w.uints + n) kind.Bool (omega (arith, count_3))
      ∙ get_or-replicate w.longs n kind.Long kind.Bool lt
  kind_at kind.Ulong n lt =
      in_right (bools_kinds ++ ints_kinds ++ uints_kinds ++ longs_kinds) ulongs_kinds n (w.bools + w.ints + w.uints + w.longs + n) kind.Bool (omega (arith, count_4))
      ∙ get_or-replicate w.ulongs n kind.Ulong kind.Bool lt

-- behind some slots those of a function's locals are at 0
pub zero_at : (w : Widths) (before after : List Kind) (k : Kind) (n : ℕ) → n < width_of w k → get_or (map zero_of ((before ++ kinds_of w) ++ after)) (length before + (start_of w k + n)) no_value ≡ zero_of k
zero_at w before after k n lt =
    let below = start_below w k n lt in
    let all = (before ++ kinds_of w) ++ after in
    let i = length before + (start_of w k + n) in
    let inside : i < length (before ++ kinds_of w) = omega (arith, length-append before (kinds_of w), count_kinds w, below) in
    let within : i < length all = omega (arith, length-append (before ++ kinds_of w) after, inside) in
    get_or-map zero_of all i kind.Bool no_value within
    ∙ ap zero_of (in_left (before ++ kinds_of w) after i kind.Bool inside ∙ in_right before (kinds_of w) (start_of w k + n) i kind.Bool refl ∙ kind_at w k n lt)

-- the same without more behind them
pub zero_last : (w : Widths) (before : List Kind) (k : Kind) (n : ℕ) → n < width_of w k → get_or (map zero_of (before ++ kinds_of w)) (length before + (start_of w k + n)) no_value ≡ zero_of k
zero_last w before k n lt =
    let below = start_below w k n lt in
    let i = length before + (start_of w k + n) in
    let inside : i < length (before ++ kinds_of w) = omega (arith, length-append before (kinds_of w), count_kinds w, below) in
    get_or-map zero_of (before ++ kinds_of w) i kind.Bool no_value inside
    ∙ ap zero_of (in_right before (kinds_of w) (start_of w k + n) i kind.Bool refl ∙ kind_at w k n lt)
