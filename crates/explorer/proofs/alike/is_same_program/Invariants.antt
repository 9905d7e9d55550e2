use Rattle.explorer.proofs.Vocabulary.{◌≡◌, ◌<◌, ℕ, slice_get}
use Rattle.explorer.proofs.alike.is_same_program.Given as goal

abbrev pub invariant-loop-place : goal.invariant-loop-place
invariant-loop-place l = (i : ℕ) → i < l.place → slice_get l.program i ≡ slice_get l.other i
