-- Whatever a run commits and leaves are words: the constants of the programs and the first values are, and each choice keeps it.
use Rattle.std.specs.Prelude.{◌==◌, if◌then◌else◌}
use Rattle.std.specs.Int.Bits.{and_lt, or_lt}
use Rattle.std.proofs.lemmas.Nat.{xor_lt}
use Rattle.std.proofs.Common.{◌-◌, ◌^◌}
use Rattle.tso_terms.specs.Litmus.{OperandIsWord}
use Rattle.tso_terms.specs.Thread.{with_taken, changed, combined}
use Rattle.basic_laws.specs.Types.{Eax, Replace, Negate, CompareExchange, Change, Keep, Set, Swap, Operator, Add, Subtract, And, Or, Xor}
use Rattle.tso_terms.specs.declared.action.Update.TheVariants.{Combine}
use Rattle.tso_terms.specs.declared.instruction.Instr.TheVariants as instr
use Rattle.tso_terms.specs.declared.instruction.Instr.TheVariants.{LockedCombine}
use Rattle.tso_laws.proofs.Vocabulary.{◌≡◌, ℕ, ◌+◌, ◌<◌, ◌≤◌, zero, suc, Bool, true, false, cond, ltb, List, [], ◌∷◌, ◌++◌, length, All}
use Rattle.tso_laws.proofs.Vocabulary.{Option, Some, None, IfSome, slice_get, slice_index, slice_index_or, slice_set, refl, ◌∙◌, arith}
use Rattle.tso_laws.proofs.Vocabulary.{subst, All-nil, All-cons, All-head, All-tail, All-append, All-push, All-set, All-filter, Litmus}
use Rattle.tso_laws.proofs.Vocabulary.{IsWellFormed, HasWords, ConstantIsWord, IsWord, AreRegisters, index_of, action_of, entry, fence, value_in}
use Rattle.tso_laws.proofs.Vocabulary.{value_of, sum_of, updated, is_write, writes_to, last_value, CoreState, State, Effect, stalled}
use Rattle.tso_laws.proofs.Vocabulary.{advanced_with, stored, load_value, loaded, moved, fenced, locked, effect_by, step_of, drain_of, idle}
use Rattle.tso_laws.proofs.Vocabulary.{program_of, core_of, chosen, effect_of, memory_after, after_choice, started, start, Run, has_ended}
use Rattle.tso_laws.proofs.Vocabulary.{run_from, run, Reg, Loc, Instr, StoreImm, SetImm, Operand, Number, Held, Update, Action, Store, Load}
use Rattle.tso_laws.proofs.Vocabulary.{Move, Fence, Lock, Entry, R, W, LR, LW, Choice, Step, Drain, Stall, Buffered, HasWord, HoldsWords}
use Rattle.tso_laws.proofs.Vocabulary.{cases_Bool, inl, inr}
use Rattle.std.proofs.Common.{filter}
use Rattle.std.proofs.lemmas.List.{length-set}
use Rattle.tso_terms.specs.declared.choice.Stall.TheVariants as stall
use Rattle.tso_laws.proofs.Draining.{waits-or-acts, drains}

no-word : IsWord 0
no-word = omega arith

word-at : (words : List ℕ) (i : ℕ) → All IsWord words → IsWord (slice_index words i)
word-at [] i h = no-word
word-at (w ∷ ws) zero h = All-head IsWord w ws h
word-at (w ∷ ws) (suc i) h = word-at ws i (All-tail IsWord w ws h)

pub sum-word : (word value : ℕ) → IsWord (sum_of word value)
sum-word word value = omega arith

last-word : (es : List Entry) (word : ℕ) → All HasWord es → IsWord word → IsWord (last_value es word)
last-word [] word h w = w
last-word (e ∷ es) word h w = last-word es e.value (All-tail HasWord e es h) (All-head HasWord e es h)

-- ---- a core

-- its registers and its pending stores hold words
record GoodCore (s : CoreState) : Type 0 where
  registers : All IsWord s.registers
  pending : All HasWord s.pending

-- so does the core after an effect, with as many registers, and what was committed
record GoodEffect (s : CoreState) (f : Effect) : Type 0 where
  core : GoodCore f.after
  commits : All HasWord f.commits
  size : length f.after.registers ≡ length s.registers

with-word : (s : CoreState) (reg : Reg) (value : ℕ) → GoodCore s → IsWord value → GoodCore (advanced_with s reg value)
with-word s reg value h w = record { registers = All-set IsWord s.registers (index_of reg) value w h.registers; pending = h.pending }

good-stalled : (s : CoreState) (why : Stall) → GoodCore s → GoodEffect s (stalled why s)
good-stalled s why h = record { core = h; commits = All-nil _; size = refl }

good-stored : (depth : ℕ) (s : CoreState) (e : Entry) → GoodCore s → HasWord e → GoodEffect s (stored depth s e)
good-stored zero s e h w = record { core = record { registers = h.registers; pending = h.pending }; commits = All-cons HasWord e [] w (All-nil _); size = refl }
good-stored (suc n) s e h w = by_room (ltb (length s.pending) (suc n))
  where
    by_room : (b : Bool)
        → GoodEffect s (cond b (record {
          outcome = Buffered;
          after = record { place = s.place + 1; registers = s.registers; pending = s.pending ++ e ∷ [] };
          commits = [];
        })
        (stalled stall.Full s))
    by_room true = record { core = record { registers = h.registers; pending = All-push HasWord s.pending e h.pending w }; commits = All-nil _; size = refl }
    by_room false = good-stalled s stall.Full h

good-loaded : (s : CoreState) (reg : Reg) (e : Entry) → GoodCore s → HasWord e → GoodEffect s (loaded s reg e)
good-loaded s reg e h w = record {
  core = with-word s reg e.value h w;
  commits = All-cons HasWord e [] w (All-nil _);
  size = length-set s.registers (index_of reg) e.value;
}

good-moved : (s : CoreState) (registers : List ℕ) → GoodCore s → All IsWord registers → length registers ≡ length s.registers → GoodEffect s (moved s registers)
good-moved s registers h w size = record { core = record { registers = w; pending = h.pending }; commits = All-nil _; size = size }

good-fenced : (core : ℕ) (s : CoreState) → GoodCore s → GoodEffect s (fenced core s)
good-fenced core s h =
    waits-or-acts (λ f. GoodEffect s f) stall.Fence s _
    (λ e.
    record {
      core = record { registers = h.registers; pending = h.pending };
      commits = All-cons HasWord (fence core s.place) [] no-word (All-nil _);
      size = refl;
    })
    (good-stalled s stall.Fence h)

pub taken-words : (registers : List ℕ) (target : Option Reg) (word : ℕ) → All IsWord registers → IsWord word → All IsWord (with_taken registers target word)
taken-words registers None word h w = h
taken-words registers (Some reg) word h w = All-set IsWord registers (index_of reg) word w h

taken-size : (registers : List ℕ) (target : Option Reg) (word : ℕ) → length (with_taken registers target word) ≡ length registers
taken-size registers None word = refl
taken-size registers (Some reg) word = length-set registers (index_of reg) word

good-locked : (core : ℕ) (s : CoreState) (loc : Loc) (reg : Option Reg) (word value : ℕ)
    → GoodCore s
    → IsWord word
    → IsWord value
    → GoodEffect s (locked core s loc reg word value)
good-locked core s loc reg word value h w v =
    waits-or-acts (λ f. GoodEffect s f) stall.Lock s _
    (λ e. record {
      core = record { registers = taken-words s.registers reg word h.registers w; pending = h.pending };
      commits =
          All-cons HasWord (entry core s.place LR loc word) (entry core s.place LW loc value ∷ []) w
          (All-cons HasWord (entry core s.place LW loc value) [] v (All-nil _));
      size = taken-size s.registers reg word;
    }) (good-stalled s stall.Lock h)

-- the number in an action, if it has one, is a word
abbrev pub UpdateIsWord : Update → Type 0
UpdateIsWord (Replace operand) = OperandIsWord operand
UpdateIsWord (Combine operator operand) = OperandIsWord operand
UpdateIsWord Negate = Unit {0}
UpdateIsWord (CompareExchange reg) = Unit {0}

abbrev pub ChangeIsWord : Change → Type 0
ChangeIsWord Keep = Unit {0}
ChangeIsWord (Set reg update) = UpdateIsWord update
ChangeIsWord (Swap reg other) = Unit {0}

abbrev pub NumberIsWord : Action → Type 0
NumberIsWord (Store loc operand) = OperandIsWord operand
NumberIsWord (Move change) = ChangeIsWord change
NumberIsWord (Lock loc target update) = UpdateIsWord update
NumberIsWord _ = Unit {0}

pub number-word : (i : Instr) → ConstantIsWord i → NumberIsWord (action_of i)
number-word (StoreImm loc value) w = w
number-word (SetImm reg value) w = w
number-word (LockedCombine loc operator operand) w = w
number-word (instr.Combine reg operator operand) w = w
number-word instr.Nop w = tt
number-word _ w = tt

pub operand-word : (registers : List ℕ) (operand : Operand) → All IsWord registers → OperandIsWord operand → IsWord (value_of registers operand)
operand-word registers (Number value) h w = w
operand-word registers (Held reg) h w = word-at registers (index_of reg) h

pub combined-word : (operator : Operator) (word value : ℕ) → IsWord word → IsWord value → IsWord (combined operator word value)
combined-word Add word value w v = sum-word word value
combined-word Subtract word value w v = sum-word word (2 ^ 32 - value)
combined-word And word value w v = and_lt 32 word value w v
combined-word Or word value w v = or_lt 32 word value w v
combined-word Xor word value w v = xor_lt 32 word value w v

pub updated-word : (update : Update) (registers : List ℕ) (word : ℕ)
    → UpdateIsWord update
    → All IsWord registers
    → IsWord word
    → IsWord (updated update registers word)
updated-word (Replace operand) registers word u h w = operand-word registers operand h u
updated-word (Combine operator operand) registers word u h w = combined-word operator word (value_of registers operand) w (operand-word registers operand h u)
updated-word Negate registers word u h w = sum-word 0 (2 ^ 32 - word)
updated-word (CompareExchange reg) registers word u h w = go (word == value_in registers Eax)
  where
    go : (b : Bool) → IsWord (if b then value_in registers reg else word)
    go true = word-at registers (index_of reg) h
    go false = w

pub changed-words : (change : Change) (registers : List ℕ) → ChangeIsWord change → All IsWord registers → All IsWord (changed change registers)
changed-words Keep registers u h = h
changed-words (Set reg update) registers u h =
    All-set IsWord registers (index_of reg) (updated update registers (value_in registers reg))
    (updated-word update registers (value_in registers reg) u h (word-at registers (index_of reg) h)) h
changed-words (Swap reg other) registers u h =
    All-set IsWord
    (slice_set registers (index_of reg) (value_in registers other)) (index_of other) (value_in registers reg)
    (word-at registers (index_of reg) h)
    (All-set IsWord registers (index_of reg) (value_in registers other) (word-at registers (index_of other) h) h)

changed-size : (change : Change) (registers : List ℕ) → length (changed change registers) ≡ length registers
changed-size Keep registers = refl
changed-size (Set reg update) registers = length-set registers (index_of reg) (updated update registers (value_in registers reg))
changed-size (Swap reg other) registers =
    length-set (slice_set registers (index_of reg) (value_in registers other)) (index_of other) (value_in registers reg)
    ∙ length-set registers (index_of reg) (value_in registers other)

good-action : (depth : ℕ) (memory : List ℕ) (core : ℕ) (a : Action) (s : CoreState)
    → All IsWord memory
    → NumberIsWord a
    → GoodCore s
    → GoodEffect s (effect_by depth memory core a s)
good-action depth memory core (Store loc operand) s m n h =
    good-stored depth s (entry core s.place W loc (value_of s.registers operand)) h (operand-word s.registers operand h.registers n)
good-action depth memory core (Load reg loc) s m n h =
    good-loaded s reg (entry core s.place R loc (load_value memory s loc.0)) h
    (last-word (filter (writes_to loc.0) s.pending) (slice_index memory loc.0)
    (All-filter (writes_to loc.0) HasWord s.pending h.pending) (word-at memory loc.0 m))
good-action depth memory core (Move change) s m n h =
    good-moved s (changed change s.registers) h (changed-words change s.registers n h.registers) (changed-size change s.registers)
good-action depth memory core Fence s m n h = good-fenced core s h
good-action depth memory core (Lock loc reg update) s m n h =
    good-locked core s loc reg (slice_index memory loc.0) (updated update s.registers (slice_index memory loc.0)) h (word-at memory loc.0 m)
    (updated-word update s.registers (slice_index memory loc.0) n h.registers (word-at memory loc.0 m))

good-step : (depth : ℕ) (memory : List ℕ) (core : ℕ) (next : Option Instr) (s : CoreState) → All IsWord memory → IfSome next ConstantIsWord → GoodCore s
    → GoodEffect s (step_of depth memory core next s)
good-step depth memory core None s m i h = good-stalled s stall.Done h
good-step depth memory core (Some x) s m i h = good-action depth memory core (action_of x) s m (number-word x i) h

good-drain : (s : CoreState) → GoodCore s → GoodEffect s (drain_of s)
good-drain s h =
    drains (λ f. GoodEffect s f) s (good-stalled s stall.Empty h)
    (λ x xs e. let p : All HasWord (x ∷ xs) = subst (λ z. All HasWord z) e h.pending in
    record {
      core = record { registers = h.registers; pending = All-tail HasWord x xs p };
      commits = All-cons HasWord x [] (All-head HasWord x xs p) (All-nil _);
      size = refl;
    })

-- ---- all cores, and memory

record Good (state : State) : Type 0 where
  memory : All IsWord state.memory
  cores : All GoodCore state.cores
  six : All (λ s. length s.registers ≡ 6) state.cores

core-at : (cores : List CoreState) (i : ℕ) → All GoodCore cores → GoodCore (slice_index_or cores i idle)
core-at [] i h = record { registers = All-nil _; pending = All-nil _ }
core-at (s ∷ ss) zero h = All-head GoodCore s ss h
core-at (s ∷ ss) (suc i) h = core-at ss i (All-tail GoodCore s ss h)

six-set : (cores : List CoreState) (i : ℕ) (after : CoreState) → length after.registers ≡ length (slice_index_or cores i idle).registers
    → All (λ s. length s.registers ≡ 6) cores → All (λ s. length s.registers ≡ 6) (slice_set cores i after)
six-set [] i after size h = h
six-set (s ∷ ss) zero after size h =
    All-cons (λ (s : CoreState). length s.registers ≡ 6) after ss
    (size ∙ All-head (λ (s : CoreState). length s.registers ≡ 6) s ss h)
    (All-tail (λ (s : CoreState). length s.registers ≡ 6) s ss h)
six-set (s ∷ ss) (suc i) after size h =
    All-cons (λ (s : CoreState). length s.registers ≡ 6) s (slice_set ss i after) (All-head (λ (s : CoreState). length s.registers ≡ 6) s ss h)
    (six-set ss i after size (All-tail (λ (s : CoreState). length s.registers ≡ 6) s ss h))

memory-good : (es : List Entry) (words : List ℕ) → All HasWord es → All IsWord words → All IsWord (memory_after es words)
memory-good [] words h m = m
memory-good (e ∷ es) words h m = memory-good es _ (All-tail HasWord e es h) (by_kind (is_write e))
  where
    by_kind : (b : Bool) → All IsWord (cond b (slice_set words e.loc.0 e.value) words)
    by_kind true = All-set IsWord words e.loc.0 e.value (All-head HasWord e es h) m
    by_kind false = m

next-good : (p : List Instr) (place : ℕ) → All ConstantIsWord p → IfSome (slice_get p place) ConstantIsWord
next-good [] place h = tt
next-good (i ∷ is) zero h = All-head ConstantIsWord i is h
next-good (i ∷ is) (suc place) h = next-good is place (All-tail ConstantIsWord i is h)

program-good : (ps : List (List Instr)) (core : ℕ) → All (λ p. All ConstantIsWord p) ps → All ConstantIsWord (slice_index_or ps core [])
program-good [] core h = All-nil _
program-good (p ∷ ps) zero h = All-head (λ p. All ConstantIsWord p) p ps h
program-good (p ∷ ps) (suc core) h = program-good ps core (All-tail (λ p. All ConstantIsWord p) p ps h)

effect-good : (t : Litmus) (depth : ℕ) (state : State) (c : Choice)
    → HasWords t
    → Good state
    → GoodEffect (core_of state (chosen c)) (effect_of t depth state c)
effect-good t depth state (Step core) words h =
    good-step depth state.memory core.0 (slice_get (program_of t core.0) (core_of state core.0).place) (core_of state core.0) h.memory
    (next-good (program_of t core.0) (core_of state core.0).place (program-good t.programs core.0 words.constants)) (core-at state.cores core.0 h.cores)
effect-good t depth state (Drain core) words h =
    let here = core-at state.cores core.0 h.cores in
    good-drain (core_of state core.0) here

choice-good : (t : Litmus) (depth : ℕ) (state : State) (c : Choice) → HasWords t → Good state → Good (after_choice t depth state c)
choice-good t depth state c words h =
    let f = effect-good t depth state c words h in
    record {
      memory = memory-good (effect_of t depth state c).commits state.memory f.commits h.memory;
      cores = All-set GoodCore state.cores (chosen c) (effect_of t depth state c).after f.core h.cores;
      six = six-set state.cores (chosen c) (effect_of t depth state c).after f.size h.six;
    }

-- ---- a run

record GoodRun (r : Run) : Type 0 where
  commits : All HasWord r.commits
  state : Good r.state

run-good : (t : Litmus) (depth : ℕ) (state : State) (cs : List Choice) → HasWords t → Good state → GoodRun (run_from t depth state cs)
run-good t depth state [] words h = record { commits = All-nil _; state = h }
run-good t depth state (c ∷ cs) words h =
    let further = run-good t depth (after_choice t depth state c) cs words (choice-good t depth state c words h) in
    let first = effect-good t depth state c words h in
    elim (cases_Bool (has_ended t state)) [
      | inl q ↦ rw q (record { commits = All-nil _; state = h })
      | inr q ↦ rw q (record { commits = All-append HasWord (effect_of t depth state c).commits _ first.commits further.commits; state = further.state })
    ]

registers-at : (registers : List (List ℕ)) (core : ℕ) → core < length registers → All AreRegisters registers → AreRegisters (slice_index_or registers core [])
registers-at registers core l h = h core [] l

started-cores : (core : ℕ) (ps : List (List Instr)) (registers : List (List ℕ))
    → core + length ps ≤ length registers
    → All AreRegisters registers
    → All GoodCore (started core ps registers)
started-cores core [] registers l h = All-nil _
started-cores core (p ∷ ps) registers l h =
    let here : core < length registers = omega arith in
    All-cons GoodCore _ (started (core + 1) ps registers) (record { registers = (registers-at registers core here h).words; pending = All-nil _ })
    (started-cores (core + 1) ps registers (omega arith) h)

started-six : (core : ℕ) (ps : List (List Instr)) (registers : List (List ℕ)) → core + length ps ≤ length registers → All AreRegisters registers
    → All (λ s. length s.registers ≡ 6) (started core ps registers)
started-six core [] registers l h = All-nil _
started-six core (p ∷ ps) registers l h =
    let here : core < length registers = omega arith in
    All-cons (λ (s : CoreState). length s.registers ≡ 6) _ (started (core + 1) ps registers)
    (registers-at registers core here h).six (started-six (core + 1) ps registers (omega arith) h)

start-good : (t : Litmus) → IsWellFormed t → Good (start t)
start-good t test =
    let given : 0 + length t.programs ≤ length t.registers = let g = test.registers_given in omega arith in
    record {
      memory = test.values.words;
      cores = started-cores 0 t.programs t.registers given test.values.registers;
      six = started-six 0 t.programs t.registers given test.values.registers;
    }

both : (cores : List CoreState) → All GoodCore cores → All (λ s. length s.registers ≡ 6) cores → All (λ s. AreRegisters s.registers) cores
both cores good six = λ k d l. record { six = six k d l; words = (good k d l).registers }

pub runs-hold-words : (t : Litmus) (depth : ℕ) (choices : List Choice) → IsWellFormed t → HoldsWords (run t depth choices).commits (run t depth choices).state
runs-hold-words t depth choices test =
    let r = run-good t depth (start t) choices test.values (start-good t test) in
    record { values = r.commits; memory = r.state.memory; registers = both (run t depth choices).state.cores r.state.cores r.state.six }
