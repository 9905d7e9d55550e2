-- An eager choice can be made first: whatever the choices to the end, they lead there after it too, and are one fewer.
use Rattle.tso_laws.proofs.EagerVocabulary.{◌≡◌, ℕ, zero, suc, inl, inr, sym, ◌∙◌, subst, Litmus, State, after_choice, Choice, IsEager}
use Rattle.tso_laws.proofs.EagerVocabulary.{IsDead, Reaches, IsSized}

-- the other choice leaves it eager, and the two may be made in either order
pub record Commutes (d : ℕ) (t : Litmus) (s : State) (e c : Choice) : Type 0 where
  pub eager : IsEager d t (after_choice t d s c) e
  pub same : after_choice t d (after_choice t d s c) e ≡ after_choice t d (after_choice t d s e) c

-- an eager choice beside another
pub data Beside (d : ℕ) (t : Litmus) (s : State) (e c : Choice) : Type 0 where
  itself : c ≡ e → Beside d t s e c
  stalls : after_choice t d s c ≡ s → Beside d t s e c
  commutes : Commutes d t s e c → Beside d t s e c

module _ (d : ℕ) (t : Litmus)
    (beside : (s : State) (e c : Choice) → IsSized t s → IsEager d t s e → Beside d t s e c)
    (alive : (s : State) (e : Choice) → IsSized t s → IsEager d t s e → IsDead d t s → ⊥)
    (sized : (s : State) (c : Choice) → IsSized t s → IsSized t (after_choice t d s c))
    (last : State) (dead : IsDead d t last) where
  not-yet : (s : State) (e : Choice) → IsSized t s → IsEager d t s e → s ≡ last → ⊥
  not-yet s e z h q = alive s e z h (subst (λ z. IsDead d t z) (sym q) dead)

  pub eager-first : (n : ℕ) (s : State) (e : Choice) → IsSized t s → IsEager d t s e → Reaches d t (suc n) s last → Reaches d t n (after_choice t d s e) last
  eager-first zero s e z h (inl q) = absurd (not-yet s e z h q)
  eager-first (suc n) s e z h (inl q) = inl (eager-first n s e z h q)
  eager-first zero s e z h (inr (c, r)) = elim (beside s e c z h) [
    | itself q ↦ subst (λ a. Reaches d t zero (after_choice t d s a) last) q r
    | stalls q ↦ absurd (not-yet s e z h (sym q ∙ r))
    | commutes w ↦ absurd (not-yet (after_choice t d s c) e (sized s c z) w.eager r)
  ]
  eager-first (suc n) s e z h (inr (c, r)) = elim (beside s e c z h) [
    | itself q ↦ subst (λ a. Reaches d t (suc n) (after_choice t d s a) last) q r
    | stalls q ↦ inl (eager-first n s e z h (subst (λ a. Reaches d t (suc n) a last) q r))
    | commutes w ↦ inr (c, subst (λ a. Reaches d t n a last) w.same (eager-first n (after_choice t d s c) e (sized s c z) w.eager r))
  ]
