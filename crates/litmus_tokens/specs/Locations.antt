-- Locations numbered by first appearance, as the reader has them: names that are slices of the text.
use Rattle.std.specs.Prelude.{ℕ, List, map, Result, Ok, Err, nat_lt, if◌then◌else◌}
use denote.Ref.{Bor}
use Rattle.tso_terms.specs.declared.instruction.Loc.{Loc}
use Rattle.tso_terms.specs.Limits.{most_locations}
use Rattle.litmus_tokens.specs.declared.fault.Why.TheVariants.{TooLarge}
use Rattle.litmus_tokens.specs.declared.fault.Fault.{Fault}
use Rattle.litmus_tokens.specs.Places.{fault}
use Rattle.litmus_tokens.specs.GrammarNames.{number_of, with_name, location}

abbrev pub texts : List (Bor (List ℕ)) → List (List ℕ)
texts names = map (λ x. x.now) names

-- the location of a name, and the names with it; one location too many is refused at `remaining`
unfoldable pub located : ℕ → List (List ℕ) → List ℕ → Result (Loc × List (List ℕ)) Fault
located remaining names x =
    if nat_lt (number_of names x) most_locations then Ok (location (number_of names x), with_name names x)
    else Err (fault TooLarge remaining)
