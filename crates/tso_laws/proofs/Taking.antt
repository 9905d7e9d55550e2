-- An eager choice takes effect.
use Rattle.tso_laws.proofs.EagerVocabulary.{◌≡◌, ℕ, ap, ◌∙◌, refl, action_of, Litmus, State, core_of, effect_by, effect_of, step_of}
use Rattle.tso_laws.proofs.EagerVocabulary.{stall_count, Action, Store, Fence, Lock, Choice, Step, Drain, IsEagerBy, IsEager}
use Rattle.tso_terms.specs.declared.choice.Stall.TheVariants as stall
use Rattle.tso_laws.proofs.Beside.{acts-when}
use Rattle.tso_laws.proofs.Own.{drain-is, store-room}

takes-by : (d : ℕ) (t : Litmus) (s : State) (a : Action) (k : ℕ) → IsEagerBy d t s k a → stall_count (effect_by d s.memory k a (core_of s k)).outcome ≡ 0
takes-by d t s (Store loc operand) k h = ap (λ f. stall_count f.outcome) (store-room d (core_of s k) _ h)
takes-by d t s Fence k h = ap (λ f. stall_count f.outcome) (acts-when stall.Fence (core_of s k) _ h)
takes-by d t s (Lock loc reg update) k h = ap (λ f. stall_count f.outcome) (acts-when stall.Lock (core_of s k) _ h.0)
takes-by d t s _ k h = refl

pub eager-takes : (d : ℕ) (t : Litmus) (s : State) (c : Choice) → IsEager d t s c → stall_count (effect_of t d s c).outcome ≡ 0
eager-takes d t s (Step k) h =
    ap (λ i. stall_count (step_of d s.memory k.0 i (core_of s k.0)).outcome) h.stands ∙ takes-by d t s (action_of h.next) k.0 h.eager
eager-takes d t s (Drain k) h = ap (λ f. stall_count f.outcome) (drain-is (core_of s k.0) h.oldest h.later h.pending)
