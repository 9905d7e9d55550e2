-- The states that are printed of a search are states of its test.
use Rattle.printed_laws.proofs.Vocabulary.{ℕ, List, All, subst, All-weaker, All-map, Litmus, IsTest, IsWellFormed, well-formed, IsWord}
use Rattle.printed_laws.proofs.Vocabulary.{AreRegisters, run, Choice}
use Rattle.printed_laws.proofs.Vocabulary.{Named, Outcome, shown_values, Leads, IsStateAt, PrintedStatesFit}
use Rattle.tso_laws.specs.Words.{HoldsWords}
use Rattle.tso_cli.proofs.FittingSweeps.{is-state-at}

one-fits : ((t : Litmus) (depth : ℕ) (choices : List Choice) → IsWellFormed t → HoldsWords (run t depth choices).commits (run t depth choices).state)
    → (t : Litmus) (names : List Named) (depth : ℕ) (o : Outcome) → IsTest t → Leads t depth o → IsStateAt names (shown_values names o)
one-fits words t names depth o test lead =
    let w = words t depth o.choices (well-formed t test) in
    let registers = All-map AreRegisters (λ core. core.registers) (run t depth o.choices).state.cores w.registers in
    is-state-at names o.registers o.memory
    (subst (λ all. All AreRegisters all) lead.registers_are registers)
    (subst (λ all. All IsWord all) lead.memory_is w.memory)

pub states-fit : ((t : Litmus) (depth : ℕ) (choices : List Choice)
    → IsWellFormed t
    → HoldsWords (run t depth choices).commits (run t depth choices).state)
    → PrintedStatesFit
states-fit words t names depth outcomes test are =
    All-weaker (Leads t depth) (λ o. IsStateAt names (shown_values names o)) (λ o lead. one-fits words t names depth o test lead) outcomes are.reached
