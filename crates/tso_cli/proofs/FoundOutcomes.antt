-- What a search answers, from what it says of the ends of runs.
use Rattle.tso_cli.proofs.Vocabulary.{◌≡◌, ◌∙◌, ℕ, zero, suc, Bool, List, [], ◌∷◌, Some, map, All, Contains, slice_get, refl, sym, ap}
use Rattle.tso_cli.proofs.Vocabulary.{subst, arith, AllByRecursion, slice_get_within, get_or_from_slice_get, Litmus, AreReached}
use Rattle.tso_cli.proofs.Vocabulary.{HaveEveryEnd, FinalState, names_shown, values_at, PrintsOutcomes, PrintsMet, HasMoreStates}
use Rattle.tso_cli.proofs.Vocabulary.{status_of_verdict, IsOutcomesAnswer, found, too_many, is_claimed_of, Status}
use Rattle.tso_cli.specs.Verdicts.{status_of_met}
use Rattle.std.proofs.lemmas.List.Elements.{All-weaker, All-contains, All-from_recursion}
use Rattle.tso_laws.specs.Outcomes.{IsEnd, LeadToEnd}
use Rattle.tso_report.specs.declared.named.Named.{Named}
use Rattle.search_report.specs.Outcomes.{Outcome, outcome_of, shown_values, is_met_in}
use Rattle.search_report.specs.Hidden.{AreNotShown}
use Rattle.command_line.specs.Search.{Search}
use Rattle.tso_cli.specs.inner.Searched.{ShowEveryEnd}

-- the choices of an outcome lead to its state
abbrev pub Leads : Litmus → ℕ → Outcome → Type 0
Leads t depth o = LeadToEnd t depth o.choices o.registers o.memory

map-place : {X Y : Type 0} (f : X → Y) (xs : List X) (i : ℕ) (x : X) → slice_get xs i ≡ Some x → slice_get (map f xs) i ≡ Some (f x)
map-place f [] i x q = absurd (let none : ⊥ = cc in none)
map-place f (y ∷ xs) zero x q = let same : y ≡ x = cc in ap (λ z. Some (f z)) same
map-place f (y ∷ xs) (suc i) x q = map-place f xs i x q

-- what differs in registers alone that no value shows looks like it
ends-are-shown : (t : Litmus) (names : List Named) (depth : ℕ) (hidden : List (List Bool)) (finals : List FinalState)
    → HaveEveryEnd t depth hidden finals
    → AreNotShown names hidden
    → ShowEveryEnd t names depth finals
ends-are-shown t names depth hidden finals every unseen registers memory end =
    let have = every registers memory end in
    let f = have.final in
    let values : FinalState → List ℕ = λ g. shown_values names (outcome_of g) in
    let place = map-place values finals have.at f have.stands in
    subst (λ v. Contains (map values finals) v)
    (unseen f.registers.items registers f.memory.items have.registers_are
    ∙ ap (λ m. values_at names registers m) have.memory_is)
    (have.at, slice_get_within (map values finals) have.at (values f) place, get_or_from_slice_get (map values finals) have.at (values f) (values f) place)

each-leads : (t : Litmus) (depth : ℕ) (finals : List FinalState) → AreReached t depth finals → AllByRecursion (Leads t depth) (map outcome_of finals)
each-leads t depth [] reached = tt
each-leads t depth (f ∷ fs) reached = (reached 0 f refl, each-leads t depth fs (λ i g stands. reached (suc i) g stands))

all-lead : (t : Litmus) (depth : ℕ) (finals : List FinalState) (outcomes : List Outcome) → AreReached t depth finals
    → All (Contains (map outcome_of finals)) outcomes → All (Leads t depth) outcomes
all-lead t depth finals outcomes reached among =
    let each : All (Leads t depth) (map outcome_of finals) = All-from_recursion (Leads t depth) (map outcome_of finals) (each-leads t depth finals reached) in
    All-weaker (Contains (map outcome_of finals)) (Leads t depth) (λ o is. All-contains (Leads t depth) (map outcome_of finals) o each is) outcomes among

-- where the search went by this depth, these registers and these names
pub search-shows : (t : Litmus) (names shown : List Named) (depth asked : ℕ) (hidden unseen : List (List Bool))
    (finals given : List FinalState)
    → HaveEveryEnd t depth hidden finals
    → AreNotShown shown unseen
    → shown ≡ names → depth ≡ asked → hidden ≡ unseen → given ≡ finals → ShowEveryEnd t names asked given
search-shows t names shown depth asked hidden unseen finals given every not n p q r =
    subst (λ z. ShowEveryEnd t names asked z) (sym r)
    (ends-are-shown t names asked unseen finals
    (subst (λ z. HaveEveryEnd t z unseen finals) p (subst (λ z. HaveEveryEnd t depth z finals) q every))
    (subst (λ z. AreNotShown z unseen) n not))

-- what a list has that is made by a function is made of an element
pub made-of : {X Y : Type 0} (f : X → Y) (xs : List X) (y : Y) → Contains (map f xs) y → (x : X) × Contains xs x × (f x ≡ y)
made-of f [] y (i, small, is) = absurd (omega arith)
made-of f (x ∷ xs) y (zero, small, is) = (x, (0, omega arith, refl), is)
made-of f (x ∷ xs) y (suc i, small, is) =
    let further = made-of f xs y (i, omega arith, is) in
    (further.0, (suc further.1.0, omega (arith, further.1.1), further.1.2), further.2)

no-end-missing : (t : Litmus) (names : List Named) (depth : ℕ) (finals : List FinalState) (outcomes : List Outcome) → ShowEveryEnd t names depth finals
    → All (λ f. Contains (map (shown_values names) outcomes) (shown_values names (outcome_of f))) finals
    → (registers : List (List ℕ)) (memory : List ℕ)
    → IsEnd t depth registers memory
    → Contains (map (shown_values names) outcomes) (values_at names registers memory)
no-end-missing t names depth finals outcomes every shown registers memory end =
    let made = made-of (λ f. shown_values names (outcome_of f)) finals (values_at names registers memory) (every registers memory end) in
    subst (λ v. Contains (map (shown_values names) outcomes) v) made.2
    (All-contains (λ f. Contains (map (shown_values names) outcomes) (shown_values names (outcome_of f))) finals made.0 shown made.1)

pub search-answers : (t : Litmus) (s : Search) (json assert as_claimed : Bool) (finals : List FinalState) (out : List ℕ)
    (status : Status)
    → AreReached t s.depth finals
    → ShowEveryEnd t (names_shown s.show t) s.depth finals
    → PrintsOutcomes t (names_shown s.show t) s.depth json finals out as_claimed
    → status ≡ status_of_verdict assert as_claimed
    → IsOutcomesAnswer t s json assert out status
search-answers t s json assert as_claimed finals out status reached every prints is =
    let names = names_shown s.show t in
    subst (λ how. IsOutcomesAnswer t s json assert out how) (sym (is ∙ ap (status_of_verdict assert) prints.verdict))
    (subst (λ text. IsOutcomesAnswer t s json assert text (status_of_verdict assert (is_claimed_of t prints.outcomes))) (sym prints.text)
    (found prints.outcomes (record {
      ascending = prints.printed.ascending;
      reached = all-lead t s.depth finals prints.outcomes reached prints.printed.found;
      complete = no-end-missing t names s.depth finals prints.outcomes every prints.printed.complete;
    })))

pub search-meets : (t : Litmus) (s : Search) (json assert met : Bool) (finals : List FinalState) (out : List ℕ)
    (status : Status)
    → HasMoreStates t s.depth s.states
    → AreReached t s.depth finals
    → PrintsMet t (names_shown s.show t) s.states json finals out met
    → status ≡ status_of_met assert t.condition met
    → IsOutcomesAnswer t s json assert out status
search-meets t s json assert met finals out status more reached prints is =
    subst (λ how. IsOutcomesAnswer t s json assert out how) (sym (is ∙ ap (status_of_met assert t.condition) prints.met))
    (subst (λ text. IsOutcomesAnswer t s json assert text (status_of_met assert t.condition (is_met_in t.condition prints.outcomes))) (sym prints.text)
    (too_many prints.outcomes more (record {
      ascending = prints.printed.ascending;
      reached = all-lead t s.depth finals prints.outcomes reached prints.printed.found;
    })))
