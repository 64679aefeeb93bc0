-- The line of the command `check`.
use Rattle.std.specs.Prelude.{ℕ, List, ◌++◌, codes, decimal}

-- how many processes and segments there are
abbrev pub counts_line : (processes segments : ℕ) → List ℕ
counts_line processes segments =
    codes "accepted processes " ++ decimal processes ++ codes " segments " ++ decimal segments ++ codes "\n"
