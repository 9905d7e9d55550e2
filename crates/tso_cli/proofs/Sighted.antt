-- What a condition names is there in each final state that a search met.
use Rattle.tso_cli.proofs.Vocabulary.{◌≡◌, ℕ, List, length, slice_index_or, All, Some, sym, subst, Litmus, IsTest, IsCondition, NamesExist}
use Rattle.tso_cli.proofs.Vocabulary.{claim_of, condition_of, AreReached, FinalState}
use Rattle.tso_terms.specs.declared.condition.Cond.{Cond}
use Rattle.search_report.proofs.Printing.{EndedRunsAreExecutions, reached-whole}

pub names-exist : (t : Litmus) (depth : ℕ) (finals : List FinalState) (c : Cond)
    → EndedRunsAreExecutions
    → IsTest t
    → Some (condition_of c) ≡ t.condition
    → AreReached t depth finals
    → All (λ f. NamesExist (length f.registers.items) (length f.memory.items) (claim_of c.prop)) finals
names-exist t depth finals c law test is reached k d l =
    let whole = reached-whole t depth finals law test reached k d l in
    let fits : IsCondition (length t.programs) (length t.locations) (condition_of c) = test.condition_fits (condition_of c) (sym is) in
    subst (λ n. NamesExist n (length (slice_index_or finals k d).memory.items) (claim_of c.prop)) (sym whole.registers)
    (subst (λ n. NamesExist (length t.programs) n (claim_of c.prop)) (sym whole.memory) fits.names_known)
