-- Runs that are made on the flat machine, one after the other: what is counted of each, and that on the atomic bus it is the run
-- of every machine with caches.
use Rattle.sweep_runs.proofs.Vocabulary.{◌≡◌, ℕ, true, List, [], ◌∷◌, map, Option, Bool, refl, sym, ap, ◌∙◌, Litmus, State, chosen}
use Rattle.sweep_runs.proofs.Vocabulary.{effect_of, applied, registers_in, start, Run, run, unheld, HitsFit, Bus, Atomic, Choice, table_of}
use Rattle.sweep_runs.proofs.Vocabulary.{ProtocolKind, Configuration, state_of_snapshot, core_of_processor, RunCounts, with_state_counted}
use Rattle.sweep_runs.proofs.Vocabulary.{with_verdict, values_in, run_by, run_under, AnswersFit, verdict, with_one_run}
use Rattle.tso_terms.specs.SplitMachine.{Attempt}
use Rattle.multiprocessor.specs.Answered.{answered}
use Rattle.flat_machine.specs.declared.snapshot.Processor.{Processor}
use Rattle.flat_machine.specs.declared.snapshot.Snapshot.{Snapshot}

-- ---- what a run leaves, and what is counted of it

registers-there : (cores : List Processor) → map (λ c. c.registers) cores ≡ map (λ s. s.registers) (map core_of_processor cores)
registers-there [] = refl
registers-there (c ∷ cs) = ap (λ (rs : List (List ℕ)). c.registers ∷ rs) (registers-there cs)

pub registers-left : (s : Snapshot) (registers : List (List ℕ))
    → registers ≡ map (λ c. c.registers) s.cores.items
    → registers ≡ registers_in (state_of_snapshot s)
registers-left s registers r = r ∙ registers-there s.cores.items

pub counted : (t : Litmus) (r : Run) (s : State) (registers : List (List ℕ)) (memory : List ℕ) (holds : Option Bool) (c : RunCounts)
    → true ≡ r.ended → s ≡ r.state → registers ≡ registers_in s → memory ≡ s.memory → holds ≡ verdict t registers memory
    → with_verdict holds (with_state_counted (values_in t registers memory) c) ≡ with_one_run t r c
counted t r s registers memory holds c ended state regs words truth =
    let count : List (List ℕ) → List ℕ → RunCounts = λ g w. with_verdict (verdict t g w) (with_state_counted (values_in t g w) c) in
    ap (λ h. with_verdict h (with_state_counted (values_in t registers memory) c)) truth
    ∙ ap (λ g. count g memory) (regs ∙ ap registers_in state)
    ∙ ap (λ w. count (registers_in r.state) w) (words ∙ ap (λ (x : State). x.memory) state)
    ∙ (rw (sym ended) refl)

-- ---- on the atomic bus the run is that of every machine, and its caches' answers fit

pub run-is-of-all : (t : Litmus) (kind : ProtocolKind) (c : Configuration) (choices : List Choice)
    → c.bus ≡ Atomic
    → run t c.depth choices ≡ run_under t kind c choices
run-is-of-all t kind c choices a = ap (λ (b : Bus). run_by b (table_of kind) c t choices) (sym a)

all-fit : (t : Litmus) (depth : ℕ) (s : State) (attempts : List Attempt) → HitsFit Atomic t depth (unheld s) attempts
all-fit t depth s [] = tt
all-fit t depth s (a ∷ rest) = (tt, all-fit t depth (applied s (chosen a.choice) (effect_of t depth s a.choice)) rest)

pub answers-fit : (t : Litmus) (kind : ProtocolKind) (c : Configuration) (choices : List Choice) → c.bus ≡ Atomic → AnswersFit t kind c choices
answers-fit t kind c choices a =
    rw a (all-fit t c.depth (start t) (answered Atomic (table_of kind) c.shape t c.depth choices))
