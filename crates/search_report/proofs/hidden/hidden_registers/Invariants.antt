use Rattle.search_report.proofs.Vocabulary.{◌≡◌, ◌<◌, ℕ, Some, slice_get, length, Named, Reg, named_register, IsHidden, IsNotHidden}
use Rattle.search_report.proofs.hidden.hidden_registers.Given as goal

abbrev pub invariant-loop-named : goal.invariant-loop-named
invariant-loop-named l = record {
  count : length l.hidden.items ≡ length l.test.programs;
  shown : (j : ℕ) (n : Named) → j < l.named-index → slice_get l.named-items j ≡ Some n → IsNotHidden l.hidden.items n;
  unnamed : (core : ℕ) (reg : Reg) → core < length l.test.programs
      → ((j : ℕ) (n : Named) → slice_get l.named-items j ≡ Some n → n ≡ named_register core reg → ⊥) → IsHidden l.hidden.items core reg;
}
