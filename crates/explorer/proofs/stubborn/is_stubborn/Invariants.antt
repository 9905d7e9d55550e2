use Rattle.explorer.proofs.Vocabulary.{◌≡◌, true, state_of_snapshot, set_of, ArePicksApart}
use Rattle.tso_terms.specs.declared.choice.Choice.{Choice}
use Rattle.tso_laws.specs.Stubborn.{has_choice}
use Rattle.explorer.proofs.stubborn.is_stubborn.Given as goal

abbrev pub invariant-loop-core : goal.invariant-loop-core
invariant-loop-core l = record {
  apart : ArePicksApart l.at.depth l.at.test.now (set_of l.picked) (state_of_snapshot l.at.state.now) l.core;
  one : l.has_one ≡ true → (c : Choice) × (has_choice (set_of l.picked) c ≡ true);
}
