-- The random numbers of a generated model.
use Rattle.std.specs.Prelude.{ℕ, zero, suc, ◌+◌, ◌*◌, ◌/◌, ◌%◌, ◌^◌}

-- the number after x in a linear congruential sequence
abbrev pub following : (x : ℕ) → ℕ
following x = (x * 1103515245 + 12345) % 2 ^ 31

-- x(k): where the sequence of a seed is after k steps
abbrev pub number_of : (seed k : ℕ) → ℕ
number_of seed zero = seed % 2 ^ 31
number_of seed (suc k) = following (number_of seed k)

-- what the stage of the number x adds to each value
abbrev pub addend_of : (x : ℕ) → ℕ
addend_of x = x % 100

-- how many nanoseconds it takes for each
abbrev pub gap_of : (x : ℕ) → ℕ
gap_of x = 1 + x / 100 % 9
