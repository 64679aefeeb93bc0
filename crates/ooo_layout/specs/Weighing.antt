-- The size of the code, by the size of each body and the calls in it.
use Rattle.std.specs.Prelude.{◌≡◌, ℕ, zero, suc, ◌+◌, ◌<◌, List, [], ◌∷◌, ◌++◌, map, Option, Some, None, slice_get}
use Rattle.ooo_bound.specs.declared.model.BoundFunction.{BoundFunction}
use Rattle.ooo_bound.specs.declared.stat.BoundStat.{BoundStat}
use Rattle.ooo_layout.specs.declared.sizes.Owed.{Owed}
use Rattle.ooo_layout.specs.declared.sizes.Weight.{Weight}
use Rattle.ooo_shapes.specs.Sizes.{Sizes, body_size, stat_size}

-- the sizes of what is called, together
abbrev pub calls_size : Sizes → List ℕ → ℕ
calls_size sizes [] = 0
calls_size sizes (f ∷ fs) = sizes f + calls_size sizes fs

-- a body's size, where called functions have these
abbrev pub weight_by : Sizes → Weight → ℕ
weight_by sizes w = w.own + calls_size sizes w.calls

-- a size more, whatever the sizes of called functions are
abbrev pub Weighs : (Sizes → ℕ) → (old new : Weight) → Type 0
Weighs f old new = (sizes : Sizes) → weight_by sizes new ≡ weight_by sizes old + f sizes

-- the size of a body, whatever the sizes of called functions are
abbrev pub IsWeightOf : Weight → List BoundStat → Type 0
IsWeightOf w body = (sizes : Sizes) → weight_by sizes w ≡ body_size sizes body

-- the same of functions one after the other
abbrev pub AreWeighed : List Weight → List BoundFunction → Type 0
AreWeighed [] [] = Unit {0}
AreWeighed (w ∷ ws) (f ∷ fs) = IsWeightOf w f.body × AreWeighed ws fs
AreWeighed ws fs = ⊥

-- the size of the statement after `else`, if there is one
abbrev pub else_size : Sizes → Option BoundStat → ℕ
else_size sizes None = 0
else_size sizes (Some s) = stat_size sizes s

-- the size of a function by the weights of all, if there is it
abbrev pub found_size : (Weight → ℕ) → Option Weight → ℕ
found_size size None = 0
found_size size (Some w) = size w

-- the sizes of functions whose calls are nested no deeper than this
abbrev pub sizes_by : (depth : ℕ) → List Weight → Sizes
sizes_by zero ws f = 0
sizes_by (suc depth) ws f = found_size (weight_by (sizes_by depth ws)) (slice_get ws f)

-- what is left of a number, where a size is taken off it; nothing, where the size is more
abbrev pub IsLeft : (size left : ℕ) → Option ℕ → Type 0
IsLeft size left None = left < size
IsLeft size left (Some rest) = rest + size ≡ left

-- ---- calls whose sizes are still to be taken off

-- the calls of a body whose own calls are nested no deeper than this
abbrev pub owed_calls : (depth : ℕ) → List ℕ → List Owed
owed_calls depth fs = map (λ f. record { function = f; depth = depth }) fs

-- the sizes of what they call, together
abbrev pub owed_size : List Weight → List Owed → ℕ
owed_size ws [] = 0
owed_size ws (o ∷ os) = sizes_by o.depth ws o.function + owed_size ws os

-- how many calls a call of a function leads to
abbrev pub calls_within : (depth : ℕ) → List Weight → Sizes
calls_within zero ws f = 0
calls_within (suc depth) ws f = found_size (λ w. calls_size (λ g. 1 + calls_within depth ws g) w.calls) (slice_get ws f)

-- how many calls are to be gone through
abbrev pub owed_count : List Weight → List Owed → ℕ
owed_count ws [] = 0
owed_count ws (o ∷ os) = 1 + calls_within o.depth ws o.function + owed_count ws os

-- what is left of a number once the own size of a body is taken off, whose calls are then owed; nothing, where it is more
abbrev pub SpendsOwn : Weight → (depth left : ℕ) → (old new : List Owed) → Option ℕ → Type 0
SpendsOwn w depth left old new None = left < w.own
SpendsOwn w depth left old new (Some rest) = (rest + w.own ≡ left) × (new ≡ old ++ owed_calls depth w.calls)

-- what is left of a number once the own size of a called body is taken off, whose calls are then owed; nothing, where it is
-- more
abbrev pub Spends : List Weight → Owed → (left : ℕ) → (old new : List Owed) → Option ℕ → Type 0
Spends ws call left old new None = left < sizes_by call.depth ws call.function
Spends ws call left old new (Some rest) =
    (rest + sizes_by call.depth ws call.function + owed_size ws old ≡ left + owed_size ws new)
    × (owed_count ws new ≡ calls_within call.depth ws call.function + owed_count ws old)
