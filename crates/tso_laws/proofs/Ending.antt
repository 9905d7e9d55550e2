-- Ended runs on either bus are ended runs of the flat machine, and so what its laws say of those.
use Rattle.tso_laws.proofs.BusVocabulary.{◌≡◌, ℕ, List, ◌++◌, ap, sym, ◌∙◌, append-nil, Litmus, IsWellFormed, KeepsAllOrder, start, run, Attempt}
use Rattle.tso_laws.proofs.BusVocabulary.{unheld, run_on, HitsFit, put_together, together, Bus, Choice, End, IsExecution, EndOn, waiting}
use Rattle.tso_laws.proofs.BusVocabulary.{IsFlatRun}
use Rattle.tso_laws.proofs.BusWaiting.{start-stores}
use Rattle.tso_laws.proofs.Counted.{run-follows-from}
use Rattle.tso_laws.proofs.BusStopping.{end-free}

-- the laws of the flat machine that are needed
abbrev pub FlatExecutions : Type 0
FlatExecutions = (t : Litmus) (depth : ℕ) (choices : List Choice) → IsWellFormed t → End t depth choices → IsExecution t (run t depth choices)

abbrev pub FlatKeepsAll : Type 0
FlatKeepsAll = (t : Litmus) (choices : List Choice) → IsWellFormed t → KeepsAllOrder (run t 0 choices).commits

pub is-flat : (bus : Bus) (t : Litmus) (depth : ℕ) (attempts : List Attempt) → HitsFit bus t depth (unheld (start t)) attempts
    → IsFlatRun bus t depth attempts (run_on bus t depth attempts)
is-flat bus t depth attempts hits =
    let f = run-follows-from bus t depth (unheld (start t)) attempts (start-stores t) tt hits in
    record {
      choices = f.choices;
      cores = f.cores;
      ended = f.ended;
      state = f.same;
      commits = sym f.commits;
      used = f.used;
      stalled = f.stalled;
      unused = f.unused;
    }

-- an ended run commits what the flat machine's run commits
flat-commits : (bus : Bus) (t : Litmus) (depth : ℕ) (attempts : List Attempt)
    → EndOn bus t depth attempts
    → (f : IsFlatRun bus t depth attempts (run_on bus t depth attempts))
    → (run t depth f.choices).commits ≡ put_together (run_on bus t depth attempts).run.commits
flat-commits bus t depth attempts ended f =
    sym (append-nil (run t depth f.choices).commits)
    ∙ ap (λ z. (run t depth f.choices).commits ++ waiting z) (sym (end-free bus t depth attempts ended))
    ∙ f.commits

pub is-execution : FlatExecutions
    → (bus : Bus) (t : Litmus) (depth : ℕ) (attempts : List Attempt)
    → IsWellFormed t
    → HitsFit bus t depth (unheld (start t)) attempts
    → EndOn bus t depth attempts
    → IsExecution t (together (run_on bus t depth attempts).run)
is-execution flat_executions bus t depth attempts test hits ended =
    let f = is-flat bus t depth attempts hits in
    let c = flat-commits bus t depth attempts ended f in
    let x = flat_executions t depth f.choices test (f.ended ∙ ended) in
    record { order = rw (← c) x.order; memory = rw (← c, ← f.state) x.memory; registers = rw (← c, ← f.state) x.registers }

pub keeps-all : FlatKeepsAll
    → (bus : Bus) (t : Litmus) (attempts : List Attempt)
    → IsWellFormed t
    → HitsFit bus t 0 (unheld (start t)) attempts
    → EndOn bus t 0 attempts
    → KeepsAllOrder (put_together (run_on bus t 0 attempts).run.commits)
keeps-all flat_keeps bus t attempts test hits ended =
    let f = is-flat bus t 0 attempts hits in
    rw (← flat-commits bus t 0 attempts ended f) (flat_keeps t f.choices test)
