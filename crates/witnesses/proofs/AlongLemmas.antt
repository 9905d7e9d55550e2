-- The choices along an order, made one entry after the other.
use Rattle.witnesses.proofs.Vocabulary.{◌≡◌, ℕ, ◌+◌, ◌-◌, ◌<◌, ◌≤◌, zero, suc, List, [], ◌∷◌, ◌++◌, length, get_or, drop, take, replicate}
use Rattle.witnesses.proofs.Vocabulary.{arith, refl, ap, sym, ◌∙◌, add-one, append_assoc, All, length-set, append-nil, drop_more, drop_all}
use Rattle.witnesses.proofs.Vocabulary.{All-get_or, Litmus, Entry, Instr, Choice, steps, beginnings, choices_for, places_after, last_steps}
use Rattle.witnesses.proofs.Vocabulary.{choices_from}
use Rattle.std.proofs.Common.{Result, Ok, Err, OnOk}
use Rattle.tso_terms.specs.FlatMachine.{step}

-- one step more goes last
pub steps-more : (core n : ℕ) → steps core n ++ step core ∷ [] ≡ steps core (n + 1)
steps-more core n = rw add-one (go n)
  where
    go : (n : ℕ) → steps core n ++ step core ∷ [] ≡ steps core (suc n)
    go zero = refl
    go (suc n) = ap (λ t. step core ∷ t) (go n)

pub one-step-more : (old choices new : List Choice) (core n : ℕ)
    → choices ≡ old ++ steps core n
    → new ≡ choices ++ step core ∷ []
    → new ≡ old ++ steps core (n + 1)
one-step-more old choices new core n e f = f ∙ rw e (rw append_assoc (ap (λ (t : List Choice). old ++ t) (steps-more core n)))

-- what is so of what a call did is so of what follows from it
pub on-ok : {A E : Type 0} {P Q : Type 0} (r : Result A E) → (P → Q) → OnOk r P → OnOk r Q
on-ok (Ok a) f h = f h
on-ok (Err e) f h = h

-- before the first entry
pub as-many : (programs : List (List Instr)) (places : List ℕ) → places ≡ beginnings programs → length places ≡ length programs
as-many programs places e = rw e (go programs)
  where
    go : (ps : List (List Instr)) → length (beginnings ps) ≡ length ps
    go [] = refl
    go (p ∷ ps) = ap suc (go ps)

-- each core at the beginning of its program
pub all-begun : (programs : List (List Instr)) (n most : ℕ) → n ≡ length programs → length programs ≤ most → take n (replicate most 0) ≡ beginnings programs
all-begun programs n most e l = rw e (go programs most l)
  where
    go : (ps : List (List Instr)) (most : ℕ) → length ps ≤ most → take (length ps) (replicate most 0) ≡ beginnings ps
    go [] most l = refl
    go (p ∷ ps) zero l = absurd (let z : ⊥ = omega (arith, l) in z)
    go (p ∷ ps) (suc most) l = ap (λ t. 0 ∷ t) (go ps most (omega (arith, l)))

-- an entry's core has a place
pub core-in : (order : List Entry) (i m n : ℕ) (d : Entry) → All (λ x. x.core.0 < n) order → i < length order → m ≡ n → (get_or order i d).core.0 < m
core-in order i m n d all h e = rw e (All-get_or (λ x. x.core.0 < n) order i d h all)

-- one entry more is gone along
pub entry-made : (t : Litmus) (order rest : List Entry) (x : Entry) (choices new whole : List Choice) (places after : List ℕ) → order ≡ x ∷ rest →
    new ≡ choices ++ choices_for places x
    → after ≡ places_after places x
    → choices ++ choices_from t places order ≡ whole
    → new ++ choices_from t after rest ≡ whole
entry-made t order rest x choices new whole places after next e f made =
    ap (λ c. c ++ choices_from t after rest) e ∙ append_assoc choices (choices_for places x) (choices_from t after rest)
    ∙ ap (λ p. choices ++ (choices_for places x ++ choices_from t p rest)) f ∙ (rw next at made)

-- and there is still one place for each core
pub as-many-after : (places after : List ℕ) (x : Entry) (n : ℕ) → after ≡ places_after places x → length places ≡ n → length after ≡ n
as-many-after places after x n e h = ap length e ∙ length-set places x.core.0 _ ∙ h

-- after the last entry
pub all-made : (t : Litmus) (order : List Entry) (i : ℕ) (choices new whole : List Choice) (places : List ℕ) → length order ≤ i →
    new ≡ choices ++ last_steps 0 t.programs places → choices ++ choices_from t places (drop i order) ≡ whole → new ≡ whole
all-made t order i choices new whole places le e made =
    e ∙ sym (ap (λ r. choices ++ choices_from t places r) (drop_all i order le)) ∙ made

-- the steps of one core more
pub last-more : (programs : List (List Instr)) (places : List ℕ) (i k n : ℕ) (p : List Instr) (choices new whole : List Choice) → i < length programs →
    p ≡ get_or programs i [] → k ≡ i → n ≡ length p - get_or places k 0 → new ≡ choices ++ steps i n →
    choices ++ last_steps i (drop i programs) places ≡ whole → new ++ last_steps (i + 1) (drop (i + 1) programs) places ≡ whole
last-more programs places i k n p choices new whole h a b d e made =
    let left : n ≡ length (get_or programs i []) - get_or places i 0 = d ∙ rw (a, b) refl in
    ap (λ c. c ++ last_steps (i + 1) (drop (i + 1) programs) places) e ∙ append_assoc choices (steps i n) (last_steps (i + 1) (drop (i + 1) programs) places)
    ∙ ap (λ m. choices ++ (steps i m ++ last_steps (i + 1) (drop (i + 1) programs) places)) left ∙ (rw (drop_more programs i [] h) at made)

-- after the last core
pub all-done : (programs : List (List Instr)) (places : List ℕ) (i : ℕ) (choices whole : List Choice) → length programs ≤ i →
    choices ++ last_steps i (drop i programs) places ≡ whole → choices ≡ whole
all-done programs places i choices whole le made = sym (ap (λ r. choices ++ last_steps i r places) (drop_all i programs le) ∙ append-nil choices) ∙ made
