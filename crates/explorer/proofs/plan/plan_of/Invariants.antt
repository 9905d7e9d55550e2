use Rattle.explorer.proofs.Vocabulary.{◌≡◌, ℕ, Bool, List, Some, slice_get, length, Vec, Global, program_of, hidden_of, AreDead}
use Rattle.explorer.specs.declared.coming.Accesses.{Accesses}
use Rattle.explorer.specs.inner.Coming.{AreComing}
use Rattle.explorer.proofs.plan.plan_of.Given as goal

abbrev pub invariant-loop-core : goal.invariant-loop-core
invariant-loop-core l = record {
  count : length l.dead.items ≡ l.core;
  coming_count : length l.coming.items ≡ l.core;
  coming : (k : ℕ) (rows : Vec Accesses Global) → slice_get l.coming.items k ≡ Some rows → AreComing (program_of l.test k) rows.items;
  each : (k : ℕ) (rows : Vec (List Bool) Global) → slice_get l.dead.items k ≡ Some rows → AreDead (program_of l.test k) (hidden_of l.hidden k) rows.items;
}
