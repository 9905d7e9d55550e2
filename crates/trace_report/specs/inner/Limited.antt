-- What becomes of an observer to which the first choices of a run alone are shown: as many as a trace as JSON may have steps.
use Rattle.std.specs.Prelude.{ℕ, ◌≡◌, ◌≤◌, Bool, false}
use Rattle.tso_terms.specs.declared.choice.Choice.{Choice}
use Rattle.trace_report.specs.Vocabulary.{Running}
use Rattle.trace_report.specs.TracedRun.{most_steps}

-- a choice with a number within the limit is shown, unless one beyond it was made before
abbrev pub ShowsStep : {O : Type 0} → (O → Running → ℕ → Choice → O → Type 0) → Bool → O → Running → ℕ → Choice → Bool → O → Type 0
ShowsStep makes was_passed old m number choice is_passed new = was_passed ≡ false → number ≤ most_steps → (is_passed ≡ false) × makes old m number choice new
