-- Why counting never overflows: no count is larger than the number of instructions that the cores are done with.
use Rattle.tso_terms.specs.Thread.{with_taken}
use Rattle.snoop_bus.specs.declared.access.Access.{Access}
use Rattle.multiprocessor.proofs.Vocabulary.{◌≡◌, ◌≢◌, ◌≤◌, ◌<◌, ◌+◌, ◌-◌, ◌⊎◌, inl, inr, ℕ, zero, suc, Bool, true, false, nat_lt}
use Rattle.multiprocessor.proofs.Vocabulary.{if◌then◌else◌, List, [], ◌∷◌, ◌++◌, length, length-append, length-set, slice_get, slice_index}
use Rattle.multiprocessor.proofs.Vocabulary.{slice_index_or, Option, Some, None, All, refl, ap, ◌∙◌, arith, All-set, most_instructions}
use Rattle.multiprocessor.proofs.Vocabulary.{Litmus, IsTest, action_of, entry, value_of, updated, CoreState, State}
use Rattle.multiprocessor.proofs.Vocabulary.{Effect, stalled, stored, effect_by, step_of, effect_of, chosen, core_of, program_of, Reg, Core}
use Rattle.multiprocessor.proofs.Vocabulary.{Loc, Instr, Action, Store, Load, Fence, Lock, Entry, W, Choice, Step, Drain, Outcome}
use Rattle.multiprocessor.proofs.Vocabulary.{Committed, Buffered, Stalled, Counts, CacheUse, Unused, Forwarded, Asked, Through, no_counts}
use Rattle.multiprocessor.proofs.Vocabulary.{with_access, with_write_back, with_forward, with_flush, counts_at_core, flush_counted}
use Rattle.multiprocessor.proofs.Vocabulary.{with_use_counted, IsAtMost, HasIssuedItsStores, done_by, drain_with, fenced_with, locked_with}
use Rattle.multiprocessor.proofs.Vocabulary.{All-head, All-tail, All-weaker}
use Rattle.tso_terms.specs.declared.choice.Stall.TheVariants as stall
use Rattle.tso_terms.specs.declared.action.Action.TheVariants.{Move}
use Rattle.snoop_bus.specs.declared.access.AccessKind.{AccessKind}
use Rattle.snoop_bus.specs.declared.access.AccessKind.TheVariants.{Hit, Upgrade, Miss}

-- one count more
stays : {a n : ℕ} → a ≤ n → a ≤ n + 1
stays h = omega arith

grows : {a n : ℕ} → a ≤ n → a + 1 ≤ n + 1
grows h = omega arith

within : {a m n : ℕ} → m ≤ n → a ≤ m → a ≤ n
within h l = omega arith

pub IsAtMost-more : (m n : ℕ) (c : Counts) → m ≤ n → IsAtMost m c → IsAtMost n c
IsAtMost-more m n c h k =
    record {
      hits = within h k.hits;
      misses = within h k.misses;
      upgrades = within h k.upgrades;
      forwards = within h k.forwards;
      write_backs = within h k.write_backs;
      flushes = within h k.flushes;
    }

pub none-counted : (n : ℕ) → IsAtMost n no_counts
none-counted n = record {
  hits = omega arith;
  misses = omega arith;
  upgrades = omega arith;
  forwards = omega arith;
  write_backs = omega arith;
  flushes = omega arith;
}

IsAtMost-next : (n : ℕ) (c : Counts) → IsAtMost n c → IsAtMost (n + 1) c
IsAtMost-next n c k = IsAtMost-more n (n + 1) c (omega arith) k

forward-grows : (n : ℕ) (c : Counts) → IsAtMost n c → IsAtMost (n + 1) (with_forward c)
forward-grows n c k =
    record {
      hits = stays k.hits;
      misses = stays k.misses;
      upgrades = stays k.upgrades;
      forwards = grows k.forwards;
      write_backs = stays k.write_backs;
      flushes = stays k.flushes;
    }

-- an access is counted by its kind, then its write-back, then its flush
abbrev Accessed : ℕ → Counts → Type 0
Accessed n c = IsAtMost (n + 1) c × (c.write_backs ≤ n) × (c.flushes ≤ n)

abbrev WrittenBack : ℕ → Counts → Type 0
WrittenBack n c = IsAtMost (n + 1) c × (c.flushes ≤ n)

access-grows : (n : ℕ) (kind : AccessKind) (c : Counts) → IsAtMost n c → Accessed n (with_access kind c)
access-grows n Hit c k = (
  record {
    hits = grows k.hits;
    misses = stays k.misses;
    upgrades = stays k.upgrades;
    forwards = stays k.forwards;
    write_backs = stays k.write_backs;
    flushes = stays k.flushes;
  },
  k.write_backs,
  k.flushes,
)
access-grows n Miss c k = (
  record {
    hits = stays k.hits;
    misses = grows k.misses;
    upgrades = stays k.upgrades;
    forwards = stays k.forwards;
    write_backs = stays k.write_backs;
    flushes = stays k.flushes;
  },
  k.write_backs,
  k.flushes,
)
access-grows n Upgrade c k = (
  record {
    hits = stays k.hits;
    misses = stays k.misses;
    upgrades = grows k.upgrades;
    forwards = stays k.forwards;
    write_backs = stays k.write_backs;
    flushes = stays k.flushes;
  },
  k.write_backs,
  k.flushes,
)

write_back-grows : (n : ℕ) (wrote : Bool) (c : Counts) → Accessed n c → WrittenBack n (with_write_back wrote c)
write_back-grows n true c k =
    (record { hits = k.0.hits; misses = k.0.misses; upgrades = k.0.upgrades; forwards = k.0.forwards; write_backs = grows k.1; flushes = k.0.flushes }, k.2)
write_back-grows n false c k = (k.0, k.2)

flush-grows : (n : ℕ) (c : Counts) → WrittenBack n c → IsAtMost (n + 1) (with_flush c)
flush-grows n c k = record {
  hits = k.0.hits;
  misses = k.0.misses;
  upgrades = k.0.upgrades;
  forwards = k.0.forwards;
  write_backs = k.0.write_backs;
  flushes = grows k.1;
}

no-access : (n : ℕ) (c : Counts) → IsAtMost n c → WrittenBack n c
no-access n c k = (IsAtMost-next n c k, k.flushes)

at-or : (P : Counts → Type 0) (cs : List Counts) (k : ℕ) (d : Counts) → P d → All P cs → P (slice_index_or cs k d)
at-or P [] k d h all = h
at-or P (c ∷ cs) zero d h all = All-head P c cs all
at-or P (c ∷ cs) (suc k) d h all = at-or P cs k d h (All-tail P c cs all)

-- the counts of all cores once those of one were changed
at_core-grows : (P Q : Counts → Type 0) (core : ℕ) (change : Counts → Counts) (cs : List Counts) → P no_counts
    → ((c : Counts) → P c → Q c) → ((c : Counts) → P c → Q (change c)) → All P cs → All Q (counts_at_core core change cs)
at_core-grows P Q core change cs none stay go all =
    All-set Q cs core (change (slice_index_or cs core no_counts)) (go _ (at-or P cs core no_counts none all)) (All-weaker P Q stay cs all)

flush-counted : (n : ℕ) (o : Option Core) (cs : List Counts) → All (WrittenBack n) cs → All (IsAtMost (n + 1)) (flush_counted o cs)
flush-counted n None cs all = All-weaker (WrittenBack n) (IsAtMost (n + 1)) (λ c k. k.0) cs all
flush-counted n (Some core) cs all =
    at_core-grows (WrittenBack n) (IsAtMost (n + 1)) core.0 with_flush cs (no-access n no_counts (none-counted n)) (λ c k. k.0) (flush-grows n) all

pub use-counted : (n core : ℕ) (how : CacheUse) (cs : List Counts) → All (IsAtMost n) cs → All (IsAtMost (n + 1)) (with_use_counted core how cs)
use-counted n core Unused cs all = All-weaker (IsAtMost n) (IsAtMost (n + 1)) (IsAtMost-next n) cs all
use-counted n core Forwarded cs all =
    at_core-grows (IsAtMost n) (IsAtMost (n + 1)) core with_forward cs (none-counted n) (IsAtMost-next n) (forward-grows n) all
use-counted n core (Asked request) cs all = All-weaker (IsAtMost n) (IsAtMost (n + 1)) (IsAtMost-next n) cs all
use-counted n core (Through r) cs all =
    let a : Access = r.access in
    let change : Counts → Counts = λ c. with_write_back a.wrote_back (with_access a.kind c) in
    flush-counted n a.flushed (counts_at_core core change cs)
    (at_core-grows (IsAtMost n) (WrittenBack n) core change cs (none-counted n) (no-access n)
    (λ c k. write_back-grows n a.wrote_back (with_access a.kind c) (access-grows n a.kind c k)) all)

length-flush : (o : Option Core) (cs : List Counts) → length (flush_counted o cs) ≡ length cs
length-flush None cs = refl
length-flush (Some core) cs = length-set cs core.0 _

pub length-counted : (core : ℕ) (how : CacheUse) (cs : List Counts) → length (with_use_counted core how cs) ≡ length cs
length-counted core Unused cs = refl
length-counted core Forwarded cs = length-set cs core _
length-counted core (Asked request) cs = refl
length-counted core (Through r) cs = length-flush r.access.flushed _ ∙ length-set cs core _

-- a core after an effect: it is done with no fewer instructions, and with one more where something was committed; nothing is unless
-- the outcome says so
pub record Advances (s : CoreState) (f : Effect) : Type 0 where
  pub issued : HasIssuedItsStores f.after
  pub done : done_by s ≤ done_by f.after
  pub more : (f.commits ≡ []) ⊎ (done_by s + 1 ≤ done_by f.after)
  pub uncommitted : f.outcome ≢ Committed → f.commits ≡ []

rests : (s : CoreState) (o : Outcome) → HasIssuedItsStores s → Advances s (record { outcome = o; after = s; commits = [] })
rests s o i = record { issued = i; done = (let z : done_by s ≤ done_by s = omega arith in z); more = inl refl; uncommitted = λ _. refl }

goes_on : (s : CoreState) (o : Outcome) (registers : List ℕ) (commits : List Entry) → HasIssuedItsStores s → s.place < most_instructions
    → (o ≢ Committed → commits ≡ [])
    → Advances s (record {
      outcome = o;
      after = record { place = s.place + 1; registers = registers; pending = s.pending };
      commits = commits;
    })
goes_on s o registers commits i h none =
    let waiting = i.pending in
    record {
      issued = record {
        place = (let z : s.place + 1 ≤ most_instructions = omega arith in z);
        pending = (let z : length s.pending ≤ s.place + 1 = omega arith in z);
      };
      done = (let z : s.place - length s.pending ≤ s.place + 1 - length s.pending = omega arith in z);
      more = inr (let z : s.place - length s.pending + 1 ≤ s.place + 1 - length s.pending = omega arith in z);
      uncommitted = none;
    }

buffered : (s : CoreState) (o : Outcome) (e : Entry) → HasIssuedItsStores s → s.place < most_instructions
    → Advances s (record { outcome = o; after = record { place = s.place + 1; registers = s.registers; pending = s.pending ++ e ∷ [] }; commits = [] })
buffered s o e i h =
    let waiting = i.pending in
    let size : length (s.pending ++ e ∷ []) ≡ length s.pending + 1 = length-append s.pending (e ∷ []) in
    record {
      issued = record {
        place = (let z : s.place + 1 ≤ most_instructions = omega arith in z);
        pending = (let z : length (s.pending ++ e ∷ []) ≤ s.place + 1 = omega arith in z);
      };
      done = (let z : s.place - length s.pending ≤ s.place + 1 - length (s.pending ++ e ∷ []) = omega arith in z);
      more = inl refl;
      uncommitted = λ _. refl;
    }

stored-advances : (depth : ℕ) (s : CoreState) (e : Entry) → HasIssuedItsStores s → s.place < most_instructions → Advances s (stored depth s e)
stored-advances zero s e i h = goes_on s _ s.registers (e ∷ []) i h (λ other. absurd (other refl))
stored-advances (suc n) s e i h =
    elim (nat_lt (length s.pending) (suc n)) as (λ b. Advances s (if b
    then record { outcome = Buffered; after = record { place = s.place + 1; registers = s.registers; pending = s.pending ++ e ∷ [] }; commits = [] }
    else stalled stall.Full s))
    [ true ↦ buffered s Buffered e i h | false ↦ rests s (Stalled stall.Full) i ]

fenced-advances : (core : ℕ) (s : CoreState) (pending : List Entry)
    → HasIssuedItsStores s
    → s.place < most_instructions
    → Advances s (fenced_with core s pending)
fenced-advances core s [] i h = goes_on s _ s.registers _ i h (λ other. absurd (other refl))
fenced-advances core s (p ∷ ps) i h = rests s (Stalled stall.Fence) i

locked-advances : (core : ℕ) (s : CoreState) (loc : Loc) (reg : Option Reg) (word value : ℕ) (pending : List Entry)
    → HasIssuedItsStores s
    → s.place < most_instructions
    → Advances s (locked_with core s loc reg word value pending)
locked-advances core s loc reg word value [] i h = goes_on s _ (with_taken s.registers reg word) _ i h (λ other. absurd (other refl))
locked-advances core s loc reg word value (p ∷ ps) i h = rests s (Stalled stall.Lock) i

got-below : (xs : List Instr) (i : ℕ) (x : Instr) → slice_get xs i ≡ Some x → i < length xs
got-below [] i x h = absurd (let z : ⊥ = cc in z)
got-below (y ∷ ys) zero x h = omega arith
got-below (y ∷ ys) (suc i) x h = let l = got-below ys i x h in omega arith

action-advances : (depth : ℕ) (memory : List ℕ) (core : ℕ) (a : Action) (s : CoreState) → HasIssuedItsStores s → s.place < most_instructions
    → Advances s (effect_by depth memory core a s)
action-advances depth memory core (Store loc operand) s i h = stored-advances depth s (entry core s.place W loc (value_of s.registers operand)) i h
action-advances depth memory core Fence s i h = fenced-advances core s s.pending i h
action-advances depth memory core (Lock loc reg update) s i h =
    locked-advances core s loc reg (slice_index memory loc.0) (updated update s.registers (slice_index memory loc.0)) s.pending i h
action-advances depth memory core (Load reg loc) s i h = goes_on s _ _ _ i h (λ other. absurd (other refl))
action-advances depth memory core (Move change) s i h = goes_on s _ _ _ i h (λ _. refl)

step-advances : (depth : ℕ) (memory : List ℕ) (core : ℕ) (program : List Instr) (o : Option Instr) (s : CoreState) → slice_get program s.place ≡ o
    → length program ≤ most_instructions → HasIssuedItsStores s → Advances s (step_of depth memory core o s)
step-advances depth memory core program None s got size i = rests s (Stalled stall.Done) i
step-advances depth memory core program (Some instr) s got size i =
    let below = got-below program s.place instr got in
    action-advances depth memory core (action_of instr) s i (let z : s.place < most_instructions = omega arith in z)

drain-advances : (place : ℕ) (registers : List ℕ) (pending waiting : List Entry)
    → pending ≡ waiting
    → HasIssuedItsStores (record { place = place; registers = registers; pending = pending })
    → Advances (record { place = place; registers = registers; pending = pending })
    (drain_with (record { place = place; registers = registers; pending = pending }) waiting)
drain-advances place registers pending [] h i = rests (record { place = place; registers = registers; pending = pending }) (Stalled stall.Empty) i
drain-advances place registers pending (p ∷ ps) h i =
    let waiting = i.pending in
    let bound = i.place in
    let size : length pending ≡ suc (length ps) = ap length h in
    record {
      issued = record { place = bound; pending = (let z : length ps ≤ place = omega arith in z) };
      done = (let z : place - length pending ≤ place - length ps = omega arith in z);
      more = inr (let z : place - length pending + 1 ≤ place - length ps = omega arith in z);
      uncommitted = λ other. absurd (other refl);
    }

pub effect-advances : (t : Litmus) (depth : ℕ) (state : State) (choice : Choice)
    → IsTest t
    → chosen choice < length t.programs
    → HasIssuedItsStores (core_of state (chosen choice))
    → Advances (core_of state (chosen choice)) (effect_of t depth state choice)
effect-advances t depth state (Step core) test h i =
    step-advances depth state.memory core.0 (program_of t core.0) _ (core_of state core.0) refl (test.programs_fit core.0 [] h).size i
effect-advances t depth state (Drain core) test h i =
    let s = core_of state core.0 in
    drain-advances s.place s.registers s.pending s.pending refl i
