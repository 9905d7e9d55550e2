-- The states of the flat machine that runs of the abstract machine are held against: at a depth that no buffer fills, with
-- plain stores alone pending.
use Rattle.abstract_machine.proofs.Vocabulary.{◌≡◌, ◌<◌, ◌≤◌, ℕ, ◌+◌, suc, Bool, true, false, List, [], ◌∷◌, ◌++◌, length, Some, slice_get}
use Rattle.abstract_machine.proofs.Vocabulary.{slice_set, arith, ap, sym, ◌∙◌, refl, inl, inr, subst, if◌then◌else◌, nat_lt, IfSome}
use Rattle.abstract_machine.proofs.Vocabulary.{nat_tests, get_or_past, Litmus, IsTest, KnownLocation, action_of, location_of, is_write}
use Rattle.abstract_machine.proofs.Vocabulary.{step, drain, CoreState, State, Effect, stored, effect_by, idle, program_of, effect_of}
use Rattle.abstract_machine.proofs.Vocabulary.{memory_after, applied, after_choice, started, start, Loc, Instr, Operand, Action, Store}
use Rattle.abstract_machine.proofs.Vocabulary.{Entry, W, Choice, Committed, Buffered, IsPossible, Each, each-at, length-set, lt-or}
use Rattle.abstract_machine.proofs.Vocabulary.{length-starts}
use Rattle.abstract_machine.proofs.Lists.{each-set, within, get-or}

-- each choice leads from one possible state to another one
abbrev pub Nexts : Type 0
Nexts =
    (t : Litmus) (depth : ℕ) (commits : List Entry) (state : State) (c : Choice) → IsPossible t depth commits state
    → IsPossible t depth (commits ++ (effect_of t depth state c).commits) (after_choice t depth state c)

-- ---- what is asked of a test, and of the depth n + 1

-- no program is longer than a buffer has room for
abbrev pub HasRoom : Litmus → ℕ → Type 0
HasRoom t n = (p place : ℕ) (i : Instr) → slice_get (program_of t p) place ≡ Some i → place < suc n

-- the locations of its stores have words
abbrev pub IsKnown : Litmus → Type 0
IsKnown t =
    (p place : ℕ) (i : Instr) (loc : Loc) (operand : Operand) → slice_get (program_of t p) place ≡ Some i
    → action_of i ≡ Store loc operand → loc.0 < length t.words

-- what has an instruction is a program of the test
program-there : (t : Litmus) (p place : ℕ) (i : Instr) → slice_get (program_of t p) place ≡ Some i → p < length t.programs
program-there t p place i e = elim (lt-or (length t.programs) p) [
  | inl l ↦ l
  | inr l ↦
      let q : slice_get (program_of t p) place ≡ slice_get [] place = ap (λ z. slice_get z place) (get_or_past t.programs p [] l) in
      absurd (let z : ⊥ = cc in z)
]

pub test-room : (t : Litmus) → IsTest t → HasRoom t 31
test-room t test p place i e =
    let size = (test.programs_fit p [] (program-there t p place i e)).size in
    let l = within (program_of t p) place i e in
    omega arith

pub test-known : (t : Litmus) → IsTest t → IsKnown t
test-known t test p place i loc operand e does =
    let fit = test.programs_fit p [] (program-there t p place i e) in
    let known : KnownLocation (length t.locations) i =
    subst (λ z. KnownLocation (length t.locations) z) (get-or (program_of t p) place i i e)
    (fit.locations_known place i (within (program_of t p) place i e)) in
    let there : loc.0 < length t.locations = subst (λ z. IfSome (location_of z) (λ loc. loc.0 < length t.locations)) does known in
    subst (λ z. loc.0 < z) (sym test.words_given) there

-- ---- states

abbrev pub IsStoreOf : Litmus → Entry → Type 0
IsStoreOf t e = (e.kind ≡ W) × (e.loc.0 < length t.words)

-- what is pending are plain stores to locations that have words, at most as many as the instructions so far
abbrev pub IsSound : Litmus → CoreState → Type 0
IsSound t s = Each (IsStoreOf t) s.pending × (length s.pending ≤ s.place)

pub record Base (t : Litmus) (n : ℕ) (state : State) (commits : List Entry) : Type 0 where
  pub possible : IsPossible t (suc n) commits state
  pub size : length state.cores ≡ length t.programs
  pub words : length state.memory ≡ length t.words
  pub sound : Each (IsSound t) state.cores

memory-length : (es : List Entry) (memory : List ℕ) → length (memory_after es memory) ≡ length memory
memory-length [] memory = refl
memory-length (e ∷ es) memory =
    memory-length es (if is_write e then slice_set memory e.loc.0 e.value else memory) ∙ go (is_write e)
  where
    go : (b : Bool) → length (if b then slice_set memory e.loc.0 e.value else memory) ≡ length memory
    go true = length-set memory e.loc.0 e.value
    go false = refl

applied-base : (t : Litmus) (n : ℕ) (state : State) (commits : List Entry) (p : ℕ) (f : Effect) → Base t n state commits
    → IsPossible t (suc n) (commits ++ f.commits) (applied state p f) → IsSound t f.after
    → Base t n (applied state p f) (commits ++ f.commits)
applied-base t n state commits p f b possible sound = record {
  possible = possible;
  size = length-set state.cores p f.after ∙ b.size;
  words = memory-length f.commits state.memory ∙ b.words;
  sound = each-set (IsSound t) state.cores p f.after b.sound sound;
}

-- after a core's step, with this effect
pub base-step : Nexts → (t : Litmus) (n : ℕ) (state : State) (commits : List Entry) (p : ℕ) (s : CoreState) (i : Instr) (a : Action)
    → Base t n state commits → slice_get state.cores p ≡ Some s → slice_get (program_of t p) s.place ≡ Some i → action_of i ≡ a
    → (f : Effect) → effect_by (suc n) state.memory p a s ≡ f → IsSound t f.after → Base t n (applied state p f) (commits ++ f.commits)
base-step next t n state commits p s i a b g is does f e sound =
    applied-base t n state commits p f b
    (subst (λ z. IsPossible t (suc n) (commits ++ z.commits) (applied state p z)) q (next t (suc n) commits state (step p) b.possible))
    sound
  where
    q : effect_of t (suc n) state (step p) ≡ f
    q = rw (get-or state.cores p s idle g, is, does) e

-- a core whose oldest pending store is drained, and that effect
abbrev pub drained : CoreState → List Entry → CoreState
drained s rest = record { place = s.place; registers = s.registers; pending = rest }

abbrev pub draining : CoreState → Entry → List Entry → Effect
draining s w rest = record { outcome = Committed; after = drained s rest; commits = w ∷ [] }

-- the oldest pending store is a plain one, to a location that has a word
pub oldest-store : (t : Litmus) (n : ℕ) (state : State) (commits : List Entry) (p : ℕ) (s : CoreState) (w : Entry) (rest : List Entry)
    → Base t n state commits → slice_get state.cores p ≡ Some s → s.pending ≡ w ∷ rest → IsStoreOf t w
oldest-store t n state commits p s w rest b g is =
    (subst (λ z. Each (IsStoreOf t) z) is (each-at (IsSound t) state.cores p s b.sound g).0).0

-- after a core's drain
pub base-drain : Nexts → (t : Litmus) (n : ℕ) (state : State) (commits : List Entry) (p : ℕ) (s : CoreState) (w : Entry) (rest : List Entry)
    → Base t n state commits → slice_get state.cores p ≡ Some s → s.pending ≡ w ∷ rest
    → Base t n (applied state p (draining s w rest)) (commits ++ (w ∷ []))
base-drain next t n state commits p s w rest b g is =
    applied-base t n state commits p (draining s w rest) b
    (subst (λ z. IsPossible t (suc n) (commits ++ z.commits) (applied state p z)) q (next t (suc n) commits state (drain p) b.possible))
    (two.0.1, let l = two.1 in omega arith)
  where
    q : effect_of t (suc n) state (drain p) ≡ draining s w rest
    q = rw (get-or state.cores p s idle g, is) refl

    two : Each (IsStoreOf t) (w ∷ rest) × (length (w ∷ rest) ≤ s.place)
    two = subst (λ z. Each (IsStoreOf t) z × (length z ≤ s.place)) is (each-at (IsSound t) state.cores p s b.sound g)

-- a store becomes pending where there is room
pub stored-is : (n place : ℕ) (registers : List ℕ) (pending : List Entry) (e : Entry) → length pending < suc n
    → stored (suc n) (record { place = place; registers = registers; pending = pending }) e
    ≡ record {
      outcome = Buffered;
      after = record { place = place + 1; registers = registers; pending = pending ++ (e ∷ []) };
      commits = [];
    }
stored-is n place registers pending e l = let q : nat_lt (length pending) (suc n) ≡ true = grind (arith, nat_tests) in rw q refl

-- ---- the first state

first-sound : (t : Litmus) (p : ℕ) (programs : List (List Instr)) (registers : List (List ℕ))
    → Each (IsSound t) (started p programs registers)
first-sound t p [] registers = tt
first-sound t p (program ∷ programs) registers = ((tt, omega arith), first-sound t (p + 1) programs registers)

pub first-base : (t : Litmus) (n : ℕ) → Base t n (start t) []
first-base t n = record {
  possible = record { choices = []; commits_are = refl; state_is = refl };
  size = length-starts 0 t.programs t.registers;
  words = refl;
  sound = first-sound t 0 t.programs t.registers;
}
