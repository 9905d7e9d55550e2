-- Final states of which no register is hidden.
use Rattle.promises.proofs.Vocabulary.{◌≡◌, ◌∙◌, ℕ, List, [], ap, sym, subst, ◌↔◌, seen, AreWhat, AreAmong}
use Rattle.explorer.specs.declared.final_states.FinalState.{FinalState}

pub are-exactly : (Allowed : List (List ℕ) → List ℕ → Type 0) (finals : List FinalState)
    → ((registers : List (List ℕ)) → seen [] registers ≡ registers)
    → AreWhat Allowed [] finals
    → (registers : List (List ℕ)) (memory : List ℕ) → AreAmong finals registers memory ↔ Allowed registers memory
are-exactly Allowed finals all are registers memory = (
  λ (i, f, stands, rs, m). subst (λ z. Allowed registers z) m (subst (λ z. Allowed z f.memory.items) rs (are.allowed i f stands)),
  λ allowed.
      let h = are.complete registers memory allowed in
      (h.at, h.final, h.stands, sym (all h.final.registers.items) ∙ h.registers_are ∙ all registers, h.memory_is),
)
