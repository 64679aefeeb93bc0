-- The names of what is wrong with a design's segments.
use Rattle.std.specs.Prelude.{ℕ, List, codes}
use Rattle.ooo_segments.specs.declared.error.GraphError.{GraphError}
use Rattle.ooo_segments.specs.declared.error.GraphError.TheVariants.{TooManySegments, OutOfMemory}

-- the name of each
abbrev pub name_of : GraphError → List ℕ
name_of TooManySegments = codes "TooManySegments"
name_of OutOfMemory = codes "OutOfMemory"
