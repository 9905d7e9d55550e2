-- On the atomic bus a run is the flat machine's.
use Rattle.tso_laws.proofs.BusVocabulary.{◌≡◌, ℕ, suc, List, [], ◌∷◌, ◌++◌, Bool, true, false, length, ap, ◌∙◌, refl, if◌then◌else◌, Litmus}
use Rattle.tso_laws.proofs.BusVocabulary.{State, effect_of, after_choice, start, has_ended, resting, then_run, run_from, run, Free, Attempt}
use Rattle.tso_laws.proofs.BusVocabulary.{BusRun, unheld, effect_on, resting_on, then_on, run_on_from, run_on, choices_in, HitsFit}
use Rattle.tso_laws.proofs.BusVocabulary.{put_together, Atomic, Choice, commits_of, StopsAtTheEnd}
use Rattle.tso_laws.proofs.BusWaiting.{AllStores, choice-stores, start-stores}
use Rattle.tso_laws.proofs.Following.{choice-whole}

-- a run of the flat machine, with nobody who holds the bus
abbrev flat_run : Litmus → ℕ → State → List Choice → BusRun
flat_run t depth state choices = record { run = run_from t depth state choices; holder = Free }

atomic-from : (t : Litmus) (depth : ℕ) (state : State) (xs : List Attempt)
    → run_on_from Atomic t depth (unheld state) xs ≡ flat_run t depth state (choices_in xs)
atomic-from t depth state [] = refl
atomic-from t depth state (a ∷ rest) = go (has_ended t state) (atomic-from t depth (after_choice t depth state a.choice) rest)
  where
    size : (xs : List Attempt) → length xs ≡ length (choices_in xs)
    size [] = refl
    size (x ∷ xs) = ap suc (size xs)

    go : (b : Bool)
        → run_on_from Atomic t depth (unheld (after_choice t depth state a.choice)) rest
        ≡ flat_run t depth (after_choice t depth state a.choice) (choices_in rest)
        → (if b
        then resting_on true (unheld state) (suc (length rest))
        else then_on (effect_on Atomic t depth (unheld state) a) (run_on_from Atomic t depth (unheld (after_choice t depth state a.choice)) rest))
        ≡ record {
          run =
              if b
              then resting true state (suc (length (choices_in rest)))
              else then_run (effect_of t depth state a.choice) (run_from t depth (after_choice t depth state a.choice) (choices_in rest));
          holder = Free;
        }
    go true h = ap (λ n. resting_on true (unheld state) (suc n)) (size rest)
    go false h = ap (λ r. then_on (effect_on Atomic t depth (unheld state) a) r) h

pub atomic-is : (t : Litmus) (depth : ℕ) (attempts : List Attempt) → (run_on Atomic t depth attempts).run ≡ run t depth (choices_in attempts)
atomic-is t depth attempts = ap (λ r. r.run) (atomic-from t depth (start t) attempts)

pub atomic-free : (t : Litmus) (depth : ℕ) (attempts : List Attempt) → (run_on Atomic t depth attempts).holder ≡ Free
atomic-free t depth attempts = ap (λ r. r.holder) (atomic-from t depth (start t) attempts)

pub atomic-fits : (t : Litmus) (depth : ℕ) (state : State) (attempts : List Attempt) → HitsFit Atomic t depth (unheld state) attempts
atomic-fits t depth state [] = tt
atomic-fits t depth state (a ∷ rest) = (tt, atomic-fits t depth (after_choice t depth state a.choice) rest)

-- the parts of a locked instruction are together already
commits-together : (t : Litmus) (depth : ℕ) (state : State) (choices : List Choice)
    → AllStores state
    → put_together (commits_of t depth state choices) ≡ commits_of t depth state choices
commits-together t depth state [] stores = refl
commits-together t depth state (c ∷ cs) stores =
    (choice-whole t depth state c stores).together (commits_of t depth (after_choice t depth state c) cs)
    ∙ ap (λ z. (effect_of t depth state c).commits ++ z) (commits-together t depth (after_choice t depth state c) cs (choice-stores t depth state c stores))

-- the law of the flat machine that is needed
abbrev pub FlatStops : Type 0
FlatStops = (t : Litmus) (depth : ℕ) (choices : List Choice) → StopsAtTheEnd t depth choices (run t depth choices)

pub flat-together : FlatStops → (t : Litmus) (depth : ℕ) (choices : List Choice) → put_together (run t depth choices).commits ≡ (run t depth choices).commits
flat-together flat_stops t depth choices = rw (flat_stops t depth choices).all_commits (commits-together t depth (start t) choices (start-stores t))
