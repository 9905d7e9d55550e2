-- Memory's own words along a run: memory has the words of a line that are seen, but while some core's copy of the line is dirty,
-- or a write access to it is awaited; then it has the words that it had before. (Primer, chapters 6 and 7.)
use Rattle.std.specs.Prelude.{ℕ, zero, suc, ◌+◌, ◌/◌, ◌||◌, Bool, true, false, if◌then◌else◌, List, [], ◌∷◌, length}
use Rattle.trace_report.specs.Vocabulary.{ImD, is_dirty, IsD, line_state, LineState, Running, SmD}
use Rattle.trace_report.specs.declared.step.LineState.TheVariants.{Stable, Transient}

-- whether a line in this state may have newer words than memory: it is dirty, or awaited to be written
abbrev pub is_newer : LineState → Bool
is_newer (Stable state) = is_dirty state
is_newer (Transient IsD) = false
is_newer (Transient ImD) = true
is_newer (Transient SmD) = true

-- whether one of the first so many cores has a line so
abbrev pub is_newer_in : Running → ℕ → ℕ → Bool
is_newer_in m line zero = false
is_newer_in m line (suc core) = is_newer (line_state m core line) || is_newer_in m line core

-- memory's own word at a location of a machine, where it had this one before and this one is seen
abbrev pub own_word : Running → ℕ → ℕ → ℕ → ℕ
own_word m loc before seen =
    if is_newer_in m (loc / m.statistics.caches.shape.words) (length m.test.programs) then before else seen

-- those from this location on
abbrev pub own_words_from : Running → ℕ → List ℕ → List ℕ → List ℕ
own_words_from m loc [] seen = []
own_words_from m loc (b ∷ before) [] = []
own_words_from m loc (b ∷ before) (s ∷ seen) = own_word m loc b s ∷ own_words_from m (loc + 1) before seen

-- memory's own words on a machine after a choice, where it had these before it
abbrev pub own_words : Running → List ℕ → List ℕ
own_words m before = own_words_from m 0 before m.state.flat.memory
