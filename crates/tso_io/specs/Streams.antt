-- What a call does to a writer: which bytes are appended. A writer that fails has taken a beginning of the answer, and never
-- something else.
use Rattle.std.specs.Prelude.{ℕ, List, take, Option}
use Rattle.std.specs.Io.KnownBytes.{Appends}

-- a beginning of these bytes was appended
abbrev pub AppendsBeginning : Option (List ℕ) → Option (List ℕ) → List ℕ → Type 0
AppendsBeginning old new bytes = (n : ℕ) × Appends old new (take n bytes)
