-- A machine whose choices are told, with the size of its lines: a line's number says something only with it.
use Rattle.std.specs.Prelude.{ℕ, ◌≡◌, ◌<◌}
use Rattle.tso_terms.specs.Litmus.{Litmus}
use Rattle.machine_core.specs.Running.{Running}

-- the machine runs this test, and its lines have so many words, at least one
pub record IsLookedAt (t : Litmus) (words : ℕ) (m : Running) : Type 0 where
  pub test : m.test ≡ t
  pub some : 0 < words
  pub words_are : m.statistics.caches.shape.words ≡ words
