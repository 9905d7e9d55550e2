-- A core without a store buffer that is behind the same core with one.
use Rattle.tso_terms.specs.FlatMachine.{advanced_to}
use Rattle.basic_laws.specs.Types.{Change}
use Rattle.tso_terms.specs.Thread.{changed}
use Rattle.tso_laws.proofs.EndsVocabulary.{◌≡◌, ◌<◌, ℕ, ◌+◌, zero, suc, List, [], ◌∷◌, ◌++◌, Some, slice_get, slice_set, slice_index_or}
use Rattle.tso_laws.proofs.EndsVocabulary.{length, ◌⊎◌, arith, ap, sym, ◌∙◌, subst, refl, get_or-set_same, action_of, Litmus, entry}
use Rattle.tso_laws.proofs.EndsVocabulary.{value_of, CoreState, State, idle, advanced, advanced_with, moved, step_of, core_of, program_of}
use Rattle.tso_laws.proofs.EndsVocabulary.{effect_of, after_choice, applied, step, Instr, Loc, Reg, Operand, Store, Move, Entry, W}
use Rattle.tso_laws.proofs.EndsVocabulary.{CoresExist, state_after, commits_of, steps}

-- so many register moves lead from the one core to the other
abbrev pub Moves : List Instr → ℕ → CoreState → CoreState → Type 0
Moves p zero a b = a ≡ b
Moves p (suc n) a b =
    (i : Instr) × (change : Change) × (slice_get p a.place ≡ Some i) × (action_of i ≡ Move change)
    × Moves p n (advanced_to a (changed change a.registers)) b

pub moves-more : (p : List Instr) (n : ℕ) (a b : CoreState) (i : Instr) (change : Change)
    → Moves p n a b
    → slice_get p b.place ≡ Some i
    → action_of i ≡ Move change
    → Moves p (suc n) a (advanced_to b (changed change b.registers))
moves-more p zero a b i change q at is = (
  i,
  change,
  subst (λ z. slice_get p z.place ≡ Some i) (sym q) at,
  is,
  ap (λ z. advanced_to z (changed change z.registers)) q,
)
moves-more p (suc n) a b i change m at is = (m.0, m.1, m.2, m.3, moves-more p n (advanced_to a (changed m.1 a.registers)) b i change m.4 at is)

pub moves-place : (p : List Instr) (n : ℕ) (a b : CoreState) → Moves p n a b → b.place ≡ a.place + n
moves-place p zero a b q = let e = ap (λ z. z.place) q in omega (arith, e)
moves-place p (suc n) a b m = let e = moves-place p n (advanced_to a (changed m.1 a.registers)) b m.4 in omega (arith, e)

-- a core with these stores pending
abbrev pub holding : CoreState → List Entry → CoreState
holding s ps = record { place = s.place; registers = s.registers; pending = ps }

-- the core a is at a plain store that the core b has pending, and b has made some register moves after it
pub record IsBehind (k : ℕ) (p : List Instr) (a b : CoreState) : Type 0 where
  pub next : Instr
  pub loc : Loc
  pub operand : Operand
  pub count : ℕ
  pub after : CoreState
  pub stands : slice_get p a.place ≡ Some next
  pub stores : action_of next ≡ Store loc operand
  pub empty : a.pending ≡ []
  pub moves : Moves p count (advanced a) after
  pub is : b ≡ holding after (entry k a.place W loc (value_of a.registers operand) ∷ [])

-- the two are the same, with nothing pending
pub record IsLevel (a b : CoreState) : Type 0 where
  pub same : a ≡ b
  pub empty : a.pending ≡ []

abbrev pub Trails : ℕ → List Instr → CoreState → CoreState → Type 0
Trails k p a b = IsLevel a b ⊎ IsBehind k p a b

-- the state of the machine without store buffers, and that of the machine with buffers of one
pub record Follows (t : Litmus) (a b : State) : Type 0 where
  pub memory : a.memory ≡ b.memory
  pub first : length a.cores ≡ length t.programs
  pub second : length b.cores ≡ length t.programs
  pub cores : (k : ℕ) → k < length t.programs → Trails k (program_of t k) (core_of a k) (core_of b k)

-- ---- moves of the machine without store buffers

pub set-same : (xs : List CoreState) (k : ℕ) → slice_set xs k (slice_index_or xs k idle) ≡ xs
set-same [] k = refl
set-same (x ∷ xs) zero = refl
set-same (x ∷ xs) (suc k) = ap (λ z. x ∷ z) (set-same xs k)

pub set-set : (xs : List CoreState) (k : ℕ) (a b : CoreState) → slice_set (slice_set xs k a) k b ≡ slice_set xs k b
set-set [] k a b = refl
set-set (x ∷ xs) zero a b = refl
set-set (x ∷ xs) (suc k) a b = ap (λ z. x ∷ z) (set-set xs k a b)

pub length-set : (xs : List CoreState) (k : ℕ) (a : CoreState) → length (slice_set xs k a) ≡ length xs
length-set [] k a = refl
length-set (x ∷ xs) zero a = refl
length-set (x ∷ xs) (suc k) a = ap suc (length-set xs k a)

-- the state with another core
abbrev pub with_core : State → ℕ → CoreState → State
with_core s k a = record { memory = s.memory; cores = slice_set s.cores k a }

pub record Moved (d : ℕ) (t : Litmus) (s : State) (k n : ℕ) (b : CoreState) : Type 0 where
  pub none : commits_of t d s (steps k n) ≡ []
  pub state : state_after t d s (steps k n) ≡ with_core s k b

pub moves-made : (d : ℕ) (t : Litmus) (k n : ℕ) (s : State) (a b : CoreState)
    → k < length s.cores
    → core_of s k ≡ a
    → Moves (program_of t k) n a b
    → Moved d t s k n b
moves-made d t k zero s a b l e m = record {
  none = refl;
  state =
      ap (λ cs. record { memory = s.memory; cores = cs }) (sym (set-same s.cores k) ∙ ap (λ z. slice_set s.cores k z) (e ∙ m));
}
moves-made d t k (suc n) s a b l e m =
    let next : CoreState = advanced_to a (changed m.1 a.registers) in
    let f : effect_of t d s (step k) ≡ moved a (changed m.1 a.registers) =
    ap (λ z. step_of d s.memory k (slice_get (program_of t k) z.place) z) e ∙ ap (λ i. step_of d s.memory k i a) m.2 ∙ rw m.3 refl in
    let s2 : after_choice t d s (step k) ≡ with_core s k next = ap (λ z. applied s k z) f in
    let r =
    moves-made d t k n (with_core s k next) next b (let w = length-set s.cores k next in omega (arith, w, l))
    (get_or-set_same s.cores k next idle l) m.4 in
    record {
      none = ap (λ z. z.commits ++ commits_of t d (after_choice t d s (step k)) (steps k n)) f ∙ ap (λ z. commits_of t d z (steps k n)) s2 ∙ r.none;
      state = ap (λ z. state_after t d z (steps k n)) s2 ∙ r.state ∙ ap (λ cs. record { memory = s.memory; cores = cs }) (set-set s.cores k next b);
    }

pub steps-exist : (n k m : ℕ) → k < n → CoresExist n (steps k m)
steps-exist n k zero l = tt
steps-exist n k (suc m) l = (l, steps-exist n k m l)
