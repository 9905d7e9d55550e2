-- Readings that may refuse, and what a function that reads returns.
use Rattle.std.specs.Prelude.{Option, Some, None, Result, Ok, Err, ◌≡◌}
use Rattle.litmus_tokens.specs.declared.fault.Fault.{Fault}
use Rattle.litmus_tokens.specs.declared.fault.ReadError.{ReadError}
use Rattle.litmus_tokens.specs.declared.fault.ReadError.TheVariants as errors

infixl 10 ◌>>=◌
abbrev pub ◌>>=◌ : {A B : Type 0} → Result A Fault → (A → Result B Fault) → Result B Fault
(Ok x) >>= f = f x
(Err e) >>= f = Err e

-- what is there, and else this fault
abbrev pub or_fault : {A : Type 0} → Option A → Fault → Result A Fault
or_fault (Some x) f = Ok x
or_fault None f = Err f

-- what comes of a reading that is there, and else another
abbrev pub there : {A B : Type 0} → Option A → (A → B) → B → B
there (Some x) f other = f x
there None f other = other

abbrev pub Fails : {Y : Type 0} → ReadError → Result Y Fault → Type 0
Fails errors.NoMemory read = Unit {0}
Fails (errors.Fault f) read = read ≡ Err f

-- `view` of what a function returned is what the reading gives, unless memory ran out.
abbrev pub Gives : {X Y : Type 0} → (X → Y) → Result X ReadError → Result Y Fault → Type 0
Gives view (Ok x) read = read ≡ Ok (view x)
Gives view (Err e) read = Fails e read
