-- What a search finds with store buffers, and what it hides.
use Rattle.promises.proofs.Vocabulary.{◌≡◌, ◌∙◌, ◌<◌, ℕ, Bool, false, ◌||◌, List, length, IfOk, Ok, Err, Result, Some, None, Vec, ap}
use Rattle.promises.proofs.Vocabulary.{Litmus, IsTest, well-formed, EndsAreWhatTsoAllows, IsAllowedAtDepth, AreReached, HaveEveryEnd, AreWhat}
use Rattle.std.specs.declared.alloc.Global.{Global}
use Rattle.tso_terms.specs.Condition as conditions
use Rattle.tso_report.specs.declared.show.Show.TheVariants.{Condition}
use Rattle.tso_terms.specs.declared.register.Reg.{Reg}
use Rattle.explorer.specs.declared.final_states.Exploration.{Exploration}
use Rattle.tso_report.specs.Tally.{is_looked_at, named_register, claim_names_register}
use Rattle.search_report.specs.Hidden.{IsHidden, AreAllNotShown}

pub found-allowed : {E : Type 0} (r : Result Exploration E) (t : Litmus) (depth : ℕ) (hidden : List (List Bool)) → EndsAreWhatTsoAllows → IsTest t
    → IfOk r (λ x. AreReached t depth x.final_states.items) → IfOk r (λ x. HaveEveryEnd t depth hidden x.final_states.items)
    → IfOk r (λ x. 0 < depth → AreWhat (IsAllowedAtDepth t depth) hidden x.final_states.items)
found-allowed (Ok x) t depth hidden laws test reached complete = λ some. record {
  allowed = λ i f stands.
      let lead = reached i f stands in
      (laws.by_depth t depth f.registers.items f.memory.items (well-formed t test) some).0
      (record { choices = f.choices.items; cores = lead.cores; ended = lead.ended; registers_are = lead.registers_are; memory_is = lead.memory_is });
  complete = λ registers memory allowed. complete registers memory ((laws.by_depth t depth registers memory (well-formed t test) some).1 allowed);
}
found-allowed (Err e) t depth hidden laws test reached complete = tt

or-false : (b : Bool) → b ≡ false → b || false ≡ false
or-false b is = ap (λ c. c || false) is

pub unnamed-hidden : {E : Type 0} (r : Result (Vec (List Bool) Global) E) (t : Litmus) → IfOk r (λ hidden. AreAllNotShown Condition t hidden.items)
    → IfOk r (λ hidden.
    (c : conditions.Condition) (core : ℕ) (reg : Reg)
    → t.condition ≡ Some c
    → core < length t.programs
    → claim_names_register c.claim core reg ≡ false
    → IsHidden hidden.items core reg)
unnamed-hidden (Ok hidden) t all = λ c core reg is there unnamed.
    all core reg there (or-false (is_looked_at t.condition (named_register core reg)) (ap (λ o. is_looked_at o (named_register core reg)) is ∙ unnamed))
unnamed-hidden (Err e) t all = tt

pub all-hidden : {E : Type 0} (r : Result (Vec (List Bool) Global) E) (t : Litmus) → IfOk r (λ hidden. AreAllNotShown Condition t hidden.items)
    → IfOk r (λ hidden. (core : ℕ) (reg : Reg) → t.condition ≡ None → core < length t.programs → IsHidden hidden.items core reg)
all-hidden (Ok hidden) t all = λ core reg is there.
    all core reg there (or-false (is_looked_at t.condition (named_register core reg)) (ap (λ o. is_looked_at o (named_register core reg)) is))
all-hidden (Err e) t all = tt
