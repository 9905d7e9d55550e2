-- What a call does to a reader and a writer: which bytes are taken, which are appended. A writer that fails has taken a
-- beginning of the answer, and never something else.
use Rattle.std.specs.Prelude.{ℕ, List, Option}
use Rattle.std.specs.Io.KnownBytes.{Appends}
use Rattle.tso_cli.specs.declared.answer.Status.{Status}
use Rattle.tso_io.specs.Streams.{AppendsBeginning}

-- bytes of which this holds were appended to the writer's contents
abbrev pub Writes : {A : Type 0} → (A → Option (List ℕ)) → A → A → (List ℕ → Type 0) → Type 0
Writes contents old new P = (out : List ℕ) × P out × Appends (contents old) (contents new) out

-- bytes that are such an answer, with a status, were appended
abbrev pub WritesAnswer : {A : Type 0} → (A → Option (List ℕ)) → A → A → (List ℕ → Status → Type 0) → Status → Type 0
WritesAnswer contents old new P status = Writes contents old new (λ out. P out status)

-- a beginning of such an answer was appended
abbrev pub WritesBeginning : {A : Type 0} → (A → Option (List ℕ)) → A → A → (List ℕ → Status → Type 0) → Type 0
WritesBeginning contents old new P =
    (status : Status) × (out : List ℕ) × P out status × AppendsBeginning (contents old) (contents new) out
