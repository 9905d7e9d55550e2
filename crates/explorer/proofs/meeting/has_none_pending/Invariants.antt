use Rattle.explorer.proofs.Vocabulary.{◌≡◌, ◌≢◌, ◌<◌, ℕ, Some, slice_get, Entry}
use Rattle.explorer.proofs.meeting.has_none_pending.Given as goal

abbrev pub invariant-loop-entry : goal.invariant-loop-entry
invariant-loop-entry l = (i : ℕ) (e : Entry) → i < l.entry-index → slice_get l.processor.pending.items i ≡ Some e → e.loc.0 ≢ l.loc.0
