-- All choices to an end are as many.
use Rattle.tso_laws.proofs.EndsVocabulary.{◌≡◌, ◌<◌, ◌+◌, ℕ, List, length, arith, Litmus, Choice, instructions, stores_of_all}
use Rattle.tso_laws.proofs.EndsVocabulary.{RunsAreCounted, RunsStopWhereTheyEnd, LeadToEnd, ChoicesToAnEndAreCounted}

module _ (count : RunsAreCounted) (stop : RunsStopWhereTheyEnd) where
  buffered : (t : Litmus) (d : ℕ) (cs : List Choice) (r : List (List ℕ)) (m : List ℕ)
      → 0 < d
      → LeadToEnd t d cs r m
      → length cs ≡ instructions t.programs + stores_of_all t.programs
  buffered t d cs r m p h =
      let a = (stop.stops t d cs).count in
      let b = count.buffered t d cs p h.ended in
      let u = h.unused in
      let s = h.stalled in
      omega (arith, a, b, u, s)

  unbuffered : (t : Litmus) (cs : List Choice) (r : List (List ℕ)) (m : List ℕ) → LeadToEnd t 0 cs r m → length cs ≡ instructions t.programs
  unbuffered t cs r m h =
      let a = (stop.stops t 0 cs).count in
      let b = count.unbuffered t cs h.ended in
      let u = h.unused in
      let s = h.stalled in
      omega (arith, a, b, u, s)

  pub counted : ChoicesToAnEndAreCounted
  counted = record { buffered = buffered; unbuffered = unbuffered }
