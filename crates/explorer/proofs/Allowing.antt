-- The final states that a search finds are what TSO allows.
use Rattle.explorer.proofs.Vocabulary.{◌≡◌, ℕ, Bool, List, sym, subst, most_depth, Litmus, IsTest, well-formed, Choice, IsEnd, LeadToEnd}
use Rattle.explorer.proofs.Vocabulary.{EndsAreWhatTsoAllows, AreReached, HaveEveryEnd, AreWhatTsoAllows, AreWhatSequentialConsistencyAllows}
use Rattle.explorer.proofs.Vocabulary.{FinalState}

-- what choices lead to is an end
end-of : (t : Litmus) (d : ℕ) (cs : List Choice) (r : List (List ℕ)) (m : List ℕ) → LeadToEnd t d cs r m → IsEnd t d r m
end-of t d cs r m e = record { choices = cs; cores = e.cores; ended = e.ended; registers_are = e.registers_are; memory_is = e.memory_is }

pub finals-tso : EndsAreWhatTsoAllows
    → (t : Litmus) (d : ℕ) (hidden : List (List Bool)) (fs : List FinalState)
    → IsTest t
    → AreReached t d fs
    → HaveEveryEnd t d hidden fs
    → d ≡ most_depth
    → AreWhatTsoAllows t hidden fs
finals-tso law t d hidden fs test h every q = record {
  allowed = λ i f at.
      (law.at_the_greatest t f.registers.items f.memory.items test).0
      (subst (λ z. IsEnd t z f.registers.items f.memory.items) q (end-of t d f.choices.items _ _ (h i f at)));
  complete = λ r m a. every r m (subst (λ z. IsEnd t z r m) (sym q) ((law.at_the_greatest t r m test).1 a));
}

pub finals-sequential : EndsAreWhatTsoAllows
    → (t : Litmus) (d : ℕ) (hidden : List (List Bool)) (fs : List FinalState)
    → IsTest t
    → AreReached t d fs
    → HaveEveryEnd t d hidden fs
    → d ≡ 0
    → AreWhatSequentialConsistencyAllows t hidden fs
finals-sequential law t d hidden fs test h every q = record {
  allowed = λ i f at.
      (law.unbuffered t f.registers.items f.memory.items (well-formed t test)).0
      (subst (λ z. IsEnd t z f.registers.items f.memory.items) q (end-of t d f.choices.items _ _ (h i f at)));
  complete = λ r m a. every r m (subst (λ z. IsEnd t z r m) (sym q) ((law.unbuffered t r m (well-formed t test)).1 a));
}
