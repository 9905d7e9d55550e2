-- White space and comments, as they are passed over step by step: each step leaves less, so they come to an end.
use Rattle.std.specs.Prelude.{◌≡◌, ◌<◌, ℕ, List, [], ◌∷◌, length, Option, Some, None, Result, Ok, Err, if◌then◌else◌}
use denote.Ref.{Bor}
use Rattle.litmus_tokens.specs.declared.token.Stop.{Stop}
use Rattle.litmus_tokens.specs.Gap.{closes_comment, gap_end}

-- what comes after the first `*)`
unfoldable pub comment_end : List ℕ → Option (List ℕ)
comment_end [] = None
comment_end (b ∷ []) = None
comment_end (b ∷ c ∷ bs) = if closes_comment b c then Some bs else comment_end (c ∷ bs)

-- One step over a gap from some bytes, whose whole gap is total: to a shorter rest with the same end, to nothing more, or to a stop.
abbrev pub Steps : Result (Option (Bor (List ℕ))) Stop → List ℕ → Result (List ℕ) Stop → Type 0
Steps (Ok (Some after)) bytes total = (total ≡ gap_end None after.now) × (length after.now < length bytes)
Steps (Ok None) bytes total = total ≡ Ok bytes
Steps (Err stop) bytes total = total ≡ Err stop
