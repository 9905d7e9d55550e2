-- What a result gives, as a definition speaks of it: a view of what was found, or the same fault.
use Rattle.std.specs.Prelude.{Result, Ok, Err}

-- a result, with `view` of what was found
abbrev pub mapped : {X Y E : Type 0} → (X → Y) → Result X E → Result Y E
mapped view (Ok x) = Ok (view x)
mapped view (Err e) = Err e
