-- What becomes of an observer while a machine is driven: one step for each choice that is made, up to the first moment at which the
-- test has ended.
use Rattle.std.specs.Prelude.{ℕ, ◌≡◌, ◌+◌, true, false, List, [], ◌∷◌}
use Rattle.tso_terms.specs.Runs.{has_ended}
use Rattle.tso_terms.specs.declared.choice.Choice.{Choice}
use Rattle.machine_core.specs.Running.{Running, machine_after}

-- by such steps one observer becomes the other, and one machine the other, along these choices, the first of which has this number
pub data Watched {O : Type 0} (makes : O → Running → ℕ → Choice → O → Type 0) : O → Running → ℕ → List Choice → O → Running → Type 0 where
  none_left : (o : O) (m : Running) (number : ℕ) → Watched makes o m number [] o m
  over : (o : O) (m : Running) (number : ℕ) (choices : List Choice) → has_ended m.test m.state.flat ≡ true → Watched makes o m number choices o m
  next : (o mid last : O) (m left : Running) (number : ℕ) (c : Choice) (rest : List Choice) → has_ended m.test m.state.flat ≡ false
      → makes o m number c mid → Watched makes mid (machine_after m c) (number + 1) rest last left → Watched makes o m number (c ∷ rest) last left

-- the same with what it does at the beginning, on a new machine, and at the end
pub record IsWatched {O : Type 0} (begins : O → Running → O → Type 0) (makes : O → Running → ℕ → Choice → O → Type 0) (closes : O → Running → O → Type 0)
    (old : O) (m : Running) (choices : List Choice) (new : O) : Type 0 where
  pub begun : O
  pub driven : O
  pub left : Running
  pub opens : begins old m begun
  pub watched : Watched makes begun m 1 choices driven left
  pub ends : closes driven left new
