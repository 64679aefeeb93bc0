-- What a search claims of functions, and when a claim is right: each function belongs to a group, and each group has a
-- root, to which calls inside the group lead from each of its functions that is called there, and from which calls
-- inside the group lead to each that calls there. Groups have numbers that don't fall along calls.
use Rattle.std.specs.Prelude.{ℕ, ◌==◌, ◌&&◌, ◌||◌, nat_lt, nat_le, List, length, Bool, false, slice_get, slice_index}
use Rattle.std.specs.Option.{option_map_or}
use Rattle.std.specs.List.{list_all}
use Rattle.ooo_calls.specs.declared.call.Call.{Call}
use Rattle.ooo_calls.specs.declared.claim.Claim.{Claim}
use Rattle.ooo_calls.specs.declared.claim.Steps.{Steps}

-- the group of a function
abbrev pub group_of : Claim → ℕ → ℕ
group_of claim f = slice_index claim.groups.items f

-- the root of a function's group
abbrev pub root_of : Claim → ℕ → ℕ
root_of claim f = slice_index claim.roots.items (group_of claim f)

-- how many calls a function is away from the root
abbrev pub depth_of : Steps → ℕ → ℕ
depth_of steps f = slice_index steps.depths.items f

-- one function stands in the group of another, nearer to the root, and the other isn't too far away
abbrev pub is_nearer : Claim → Steps → (limit near far : ℕ) → Bool
is_nearer claim steps limit near far =
    (group_of claim near == group_of claim far)
    && (nat_lt (depth_of steps near) (depth_of steps far) && nat_le (depth_of steps far) limit)

-- a function is the root, or calls one that is nearer to it
abbrev pub has_way_to_root : Claim → List Call → ℕ → Bool
has_way_to_root claim cs f =
    (root_of claim f == f)
    || option_map_or (λ c. (c.from == f) && is_nearer claim claim.to_root (length cs) c.to f)
    (slice_get cs (slice_index claim.to_root.calls.items f)) false

-- a function is the root, or is called by one that is nearer to it
abbrev pub has_way_from_root : Claim → List Call → ℕ → Bool
has_way_from_root claim cs f =
    (root_of claim f == f)
    || option_map_or (λ c. (c.to == f) && is_nearer claim claim.from_root (length cs) c.from f)
    (slice_get cs (slice_index claim.from_root.calls.items f)) false

-- a call goes to a later group, or stays in its group, where calls lead back
abbrev pub is_right_at : Claim → List Call → Call → Bool
is_right_at claim cs c =
    nat_lt (group_of claim c.from) (group_of claim c.to)
    || ((group_of claim c.from == group_of claim c.to)
    && (has_way_to_root claim cs c.to && has_way_from_root claim cs c.from))

-- a claim is right at each call
abbrev pub is_right : Claim → List Call → Bool
is_right claim cs = list_all (is_right_at claim cs) cs
