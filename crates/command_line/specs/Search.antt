-- Which final states are searched for, how many states of the machine may be kept meanwhile, and what is shown of the final ones.
use Rattle.std.specs.Prelude.{ℕ, ◌≤◌}
use Rattle.tso_terms.specs.Limits.{most_depth}
use Rattle.tso_report.specs.declared.show.Show.{Show}

-- the depth of the store buffers, how many states may be kept, and what is shown of the final ones
pub record Search : Type 0 where
  pub depth : ℕ
  pub states : ℕ
  pub show : Show

-- maximum number of states that a search may keep
abbrev pub most_states : ℕ
most_states = 10000000

-- the buffers are no deeper than they may be, and there is room for a state, and for no more than there may be
abbrev pub IsSearchWithinLimits : Search → Type 0
IsSearchWithinLimits s = (s.depth ≤ most_depth) × (1 ≤ s.states) × (s.states ≤ most_states)
