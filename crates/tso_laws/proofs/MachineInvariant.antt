-- The whole machine: every choice keeps what its first state has, and at the end that is a TSO execution.
use Rattle.tso_laws.proofs.Vocabulary.{◌≡◌, ◌≢◌, ◌<◌, ℕ, ◌+◌, zero, suc, List, [], ◌∷◌, ◌++◌, Option, Some, None, Bool, true, false, length}
use Rattle.tso_laws.proofs.Vocabulary.{slice_get, slice_set, slice_index, slice_index_or, arith, ap, sym, ◌∙◌, append_assoc, refl, inl, inr}
use Rattle.tso_laws.proofs.Vocabulary.{subst, ◌==◌, ◌&&◌, if◌then◌else◌, get_or-set_same, get_or-set_other, length-set, slice_get-get_or}
use Rattle.tso_laws.proofs.Vocabulary.{Litmus, is_write, lt-or, memory_after, CoreState, State, Effect, idle, program_of, effect_of, chosen}
use Rattle.tso_laws.proofs.Vocabulary.{after_choice, applied, started, start, Entry, Instr, Choice, Step, Drain, state_after, commits_of}
use Rattle.tso_laws.proofs.Vocabulary.{Each, each-append, each-map, set-cases, append-nil, length-starts, decide, test-true, test-false}
use Rattle.tso_laws.proofs.Folds.{last_word-append, last_word, HasLocations}
use Rattle.tso_laws.proofs.Work.{absent-stays, stays-same}
use Rattle.tso_laws.proofs.CoreInvariant.{CoreInvariant, IsMemory, Commits, holds-step, holds-drained, holds-others, step-commits}
use Rattle.tso_laws.proofs.CoreInvariant.{drain-commits, KnownAt, Paired, paired-append, step-paired, drain-paired}

-- one write to the memory, or none
one-word : (b : Bool) (memory : List ℕ) (l loc v w : ℕ) → (b ≡ true → l < length memory) → slice_index memory loc ≡ w
    → slice_index (if b then slice_set memory l v else memory) loc ≡ (if (b && (l == loc)) then v else w)
one-word false memory l loc v w h e = e
one-word true memory l loc v w h e = elim (decide l loc) [
  | inl s ↦ rw (test-true l loc s, ← s) (get_or-set_same memory l v 0 (h refl))
  | inr n ↦ rw (test-false l loc n) (get_or-set_other memory l loc v 0 (λ s. n (sym s)) ∙ e)
]

memory-after : (c : ℕ) (words : List ℕ) (commits d : List Entry) (memory : List ℕ)
    → length memory ≡ length words
    → IsMemory words commits memory
    → Each (Commits c (length words)) d
    → IsMemory words (commits ++ d) (memory_after d memory)
memory-after c words commits [] memory n m d = subst (λ z. IsMemory words z memory) (sym (append-nil commits)) m
memory-after c words commits (e ∷ es) memory n m d =
    subst (λ z. IsMemory words z (memory_after (e ∷ es) memory)) (append_assoc commits (e ∷ []) es)
    (memory-after c words (commits ++ (e ∷ [])) es _ (same-length (is_write e) memory ∙ n)
    (λ loc l. one-word (is_write e) memory e.loc.0 loc e.value (last_word loc commits (slice_index words loc)) (λ w. rw n (d.0.known w)) (m loc l)
    ∙ sym (last_word-append loc commits (e ∷ []) (slice_index words loc)))
    d.1)
  where
    same-length : (b : Bool) (xs : List ℕ) → length (if b then slice_set xs e.loc.0 e.value else xs) ≡ length xs
    same-length true xs = length-set xs e.loc.0 e.value
    same-length false xs = refl

length-words_after : (d : List Entry) (memory : List ℕ) → length (memory_after d memory) ≡ length memory
length-words_after [] memory = refl
length-words_after (e ∷ es) memory = length-words_after es _ ∙ same-length (is_write e) memory
  where
    same-length : (b : Bool) (xs : List ℕ) → length (if b then slice_set xs e.loc.0 e.value else xs) ≡ length xs
    same-length true xs = length-set xs e.loc.0 e.value
    same-length false xs = refl

pub record MachineInvariant (d : ℕ) (t : Litmus) (commits : List Entry) (state : State) : Type 0 where
  pub cores : (k : ℕ) (s : CoreState)
      → slice_get state.cores k ≡ Some s
      → CoreInvariant d k (program_of t k) (slice_index_or t.registers k []) t.words commits s
  pub memory : IsMemory t.words commits state.memory
  pub size : length state.cores ≡ length t.programs
  pub room : length state.memory ≡ length t.words
  pub known : Each (λ e. e.core.0 < length t.programs) commits
  pub pairs : Paired commits

-- an effect of core c on the whole
world-apply : (d : ℕ) (t : Litmus) (commits : List Entry) (state : State) (c : ℕ) (f : Effect) → MachineInvariant d t commits state → c < length t.programs
    → CoreInvariant d c (program_of t c) (slice_index_or t.registers c []) t.words (commits ++ f.commits) f.after
    → Each (Commits c (length t.words)) f.commits
    → Paired f.commits
    → MachineInvariant d t (commits ++ f.commits) (applied state c f)
world-apply d t commits state c f w l h own_commits pairs = record {
  pairs = paired-append commits f.commits w.pairs pairs;
  cores = λ k s e. elim (set-cases state.cores c k f.after s e) [
    | inl q ↦ own k s q.0 q.1
    | inr q ↦ holds-others d k (program_of t k) (slice_index_or t.registers k []) t.words commits f.commits s (w.cores k s q.1)
        (each-map (Commits c (length t.words)) (λ e. e.core.0 ≢ k) f.commits (λ e z y. q.0 (sym y ∙ z.own)) own_commits)
  ];
  memory = memory-after c t.words commits f.commits state.memory w.room w.memory own_commits;
  size = length-set state.cores c f.after ∙ w.size;
  room = length-words_after f.commits state.memory ∙ w.room;
  known = each-append (λ e. e.core.0 < length t.programs) commits f.commits w.known
      (each-map (Commits c (length t.words)) (λ e. e.core.0 < length t.programs) f.commits (λ e z. rw z.own l) own_commits);
}
  where
    own : (k : ℕ) (s : CoreState) → k ≡ c → s ≡ f.after → CoreInvariant d k (program_of t k) (slice_index_or t.registers k []) t.words (commits ++ f.commits) s
    own k s p q = rw (p, q) h

present-choose : (t : Litmus) (d : ℕ) (commits : List Entry) (state : State) (c : Choice)
    → HasLocations t
    → MachineInvariant d t commits state
    → chosen c < length t.programs
    → MachineInvariant d t (commits ++ (effect_of t d state c).commits) (after_choice t d state c)
present-choose t d commits state (Step c) a w l =
    let s : CoreState = slice_index_or state.cores c.0 idle in
    let h = w.cores c.0 s (slice_get-get_or state.cores c.0 idle (rw w.size l)) in
    world-apply d t commits state c.0 (effect_of t d state (Step c)) w l
    (holds-step c.0 d (program_of t c.0) (slice_index_or t.registers c.0 []) t.words state.memory commits s h w.memory
    (a c.0) (slice_get (program_of t c.0) s.place) refl)
    (step-commits c.0 d (length t.words) state.memory (slice_get (program_of t c.0) s.place) s (known (slice_get (program_of t c.0) s.place) refl))
    (step-paired c.0 d state.memory (slice_get (program_of t c.0) s.place) s)
  where
    known : (i : Option Instr) → slice_get (program_of t c.0) (slice_index_or state.cores c.0 idle).place ≡ i → KnownAt (length t.words) i
    known None e = tt
    known (Some i) e = a c.0 (slice_index_or state.cores c.0 idle).place i e
present-choose t d commits state (Drain c) a w l =
    let s : CoreState = slice_index_or state.cores c.0 idle in
    let h = w.cores c.0 s (slice_get-get_or state.cores c.0 idle (rw w.size l)) in
    world-apply d t commits state c.0 (effect_of t d state (Drain c)) w l
    (holds-drained d c.0 (program_of t c.0) (slice_index_or t.registers c.0 []) t.words commits s h)
    (drain-commits c.0 (length t.words) s h.queued)
    (drain-paired c.0 (length t.words) s h.queued)

-- every choice keeps it; one of a core that isn't there changes nothing
pub world-choose : (t : Litmus) (d : ℕ) (commits : List Entry) (state : State) (c : Choice) → HasLocations t → MachineInvariant d t commits state
    → MachineInvariant d t (commits ++ (effect_of t d state c).commits) (after_choice t d state c)
world-choose t d commits state c a w = elim (lt-or (length t.programs) (chosen c)) [
  | inl l ↦ present-choose t d commits state c a w l
  | inr l ↦ let s = absent-stays t d state c w.size l in
      subst (λ z. MachineInvariant d t z (after_choice t d state c))
      (sym (ap (λ z. commits ++ z) s.none ∙ append-nil commits))
      (subst (λ z. MachineInvariant d t commits z) (sym (stays-same t d state c s)) w)
]

pub world-run : (t : Litmus) (d : ℕ) (commits : List Entry) (state : State) (cs : List Choice) → HasLocations t → MachineInvariant d t commits state
    → MachineInvariant d t (commits ++ commits_of t d state cs) (state_after t d state cs)
world-run t d commits state [] a w = subst (λ z. MachineInvariant d t z state) (sym (append-nil commits)) w
world-run t d commits state (c ∷ cs) a w =
    subst (λ z. MachineInvariant d t z (state_after t d (after_choice t d state c) cs)) (append_assoc commits _ _)
    (world-run t d (commits ++ (effect_of t d state c).commits) (after_choice t d state c) cs a (world-choose t d commits state c a w))

starts-at : (c : ℕ) (ps : List (List Instr)) (registers : List (List ℕ)) (k : ℕ) (s : CoreState) → slice_get (started c ps registers) k ≡ Some s
    → s ≡ record { place = 0; registers = slice_index_or registers (c + k) []; pending = [] }
starts-at c [] registers k s e = absurd (let z : ⊥ = cc in z)
starts-at c (p ∷ ps) registers zero s e =
    rw (let z : c + 0 ≡ c = omega arith in z)
    (let q : record { place = 0; registers = slice_index_or registers c []; pending = [] } ≡ s = cc in sym q)
starts-at c (p ∷ ps) registers (suc k) s e = rw (let z : c + suc k ≡ (c + 1) + k = omega arith in z) (starts-at (c + 1) ps registers k s e)

pub world-start : (d : ℕ) (t : Litmus) → MachineInvariant d t [] (start t)
world-start d t = record {
  cores = λ k s e. let q = starts-at 0 t.programs t.registers k s e in rw (q, zero-plus k) (first k);
  memory = λ loc l. refl;
  size = length-starts 0 t.programs t.registers;
  room = refl;
  known = tt;
  pairs = tt;
}
  where
    zero-plus : (k : ℕ) → 0 + k ≡ k
    zero-plus k = omega arith

    first : (k : ℕ)
        → CoreInvariant d k (program_of t k) (slice_index_or t.registers k []) t.words [] (record {
          place = 0;
          registers = slice_index_or t.registers k [];
          pending = [];
        })
    first k = record {
      done = [];
      sees = record { preceding = tt; kept = tt; few = tt; due = tt; counted = refl; members = tt };
      queued = tt;
      made = λ X. refl;
      now = λ X. refl;
      fits = omega arith;
      within = omega arith;
    }
