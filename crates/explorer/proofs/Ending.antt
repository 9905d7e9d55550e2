-- States in which the test has ended, and choices that lead there.
use Rattle.explorer.proofs.Vocabulary.{◌≡◌, ◌<◌, ℕ, ◌+◌, zero, suc, Bool, true, false, ◌==◌, List, [], ◌∷◌, length, map, drop}
use Rattle.explorer.proofs.Vocabulary.{slice_index_or, if◌then◌else◌, arith, ap, sym, ◌∙◌, refl, length-set, nat_tests, slice_get-get_or}
use Rattle.explorer.proofs.Vocabulary.{drop-at, and-left, and-right, Litmus, CoreState, State, idle, is_none_pending, program_of, core_of}
use Rattle.explorer.proofs.Vocabulary.{step_of, drain_of, effect_of, chosen, after_choice, start, registers_in, is_done, all_done}
use Rattle.explorer.proofs.Vocabulary.{has_ended, stall_count, resting, then_run, run_from, Instr, Entry, Choice, Step, Drain, LeadToEnd}
use Rattle.explorer.proofs.Vocabulary.{core_of_processor, LeadsBy, Processor, beyond}
use Rattle.explorer.proofs.Exchanging.{start-cores}
use Rattle.explorer.proofs.Linking.{leads-cores}

-- ---- an ended state has no further choice

done-at : (ps : List (List Instr)) (ss : List CoreState) (k : ℕ)
    → length ss ≡ length ps
    → k < length ps
    → all_done ps ss ≡ true
    → is_done (slice_index_or ps k []) (slice_index_or ss k idle) ≡ true
done-at [] ss k n l h = absurd (let z : ⊥ = omega (arith, l) in z)
done-at (p ∷ ps) [] k n l h = absurd (let z : ⊥ = omega (arith, n) in z)
done-at (p ∷ ps) (s ∷ ss) zero n l h = and-left (is_done p s) (all_done ps ss) h
done-at (p ∷ ps) (s ∷ ss) (suc k) n l h = done-at ps ss k (omega (arith, n)) (omega (arith, l)) (and-right (is_done p s) (all_done ps ss) h)

at-end : (p : List Instr) (s : CoreState) → is_done p s ≡ true → length p ≡ s.place
at-end p s h = let q = and-left (length p == s.place) (is_none_pending s.pending) h in let z : length p ≡ s.place = grind (arith, nat_tests, q) in z

drained : (p : List Instr) (s : CoreState) → is_done p s ≡ true → s.pending ≡ []
drained p s h = go s.pending (and-right (length p == s.place) (is_none_pending s.pending) h)
  where
    go : (xs : List Entry) → is_none_pending xs ≡ true → xs ≡ []
    go [] q = refl
    go (x ∷ xs) q = absurd (let z : ⊥ = cc in z)

drain-stalls : (s : CoreState) → s.pending ≡ [] → stall_count (drain_of s).outcome ≡ 1
drain-stalls s q = rw q refl

ended-stalls : (d : ℕ) (t : Litmus) (s : State) (c : Choice) → length s.cores ≡ length t.programs → chosen c < length t.programs → has_ended t s ≡ true
    → stall_count (effect_of t d s c).outcome ≡ 1
ended-stalls d t s (Step k) n l h =
    let e = at-end (program_of t k.0) (core_of s k.0) (done-at t.programs s.cores k.0 n l h) in
    ap (λ i. stall_count (step_of d s.memory k.0 i (core_of s k.0)).outcome) (beyond (program_of t k.0) (core_of s k.0).place (omega (arith, e)))
ended-stalls d t s (Drain k) n l h = drain-stalls (core_of s k.0) (drained (program_of t k.0) (core_of s k.0) (done-at t.programs s.cores k.0 n l h))

-- ---- choices that lead to an end

record Ends (d : ℕ) (t : Litmus) (s : State) (cs : List Choice) (last : State) : Type 0 where
  ended : (run_from t d s cs).ended ≡ true
  state : (run_from t d s cs).state ≡ last
  stalled : (run_from t d s cs).stalled ≡ 0
  unused : (run_from t d s cs).unused ≡ 0

leads-end : (d : ℕ) (t : Litmus) (s : State) (cs : List Choice) (last : State)
    → length s.cores ≡ length t.programs
    → LeadsBy d t s cs last
    → has_ended t last ≡ true
    → Ends d t s cs last
leads-end d t s [] last n q h = record { ended = ap (has_ended t) q ∙ h; state = q; stalled = refl; unused = refl }
leads-end d t s (c ∷ cs) last n l h =
    go (has_ended t s) refl (leads-end d t (after_choice t d s c) cs last (length-set s.cores (chosen c) (effect_of t d s c).after ∙ n) l.2 h)
  where
    go : (b : Bool) → has_ended t s ≡ b → Ends d t (after_choice t d s c) cs last → Ends d t s (c ∷ cs) last
    go true q w = absurd (let a = ended-stalls d t s c n l.0 q in let b = l.1 in let z : ⊥ = omega (arith, a, b) in z)
    go false q w =
        let r : run_from t d s (c ∷ cs) ≡ then_run (effect_of t d s c) (run_from t d (after_choice t d s c) cs) =
        ap (λ b. if b then resting true s (length (c ∷ cs)) else then_run (effect_of t d s c) (run_from t d (after_choice t d s c) cs)) q in
        record {
          ended = ap (λ z. z.ended) r ∙ w.ended;
          state = ap (λ z. z.state) r ∙ w.state;
          stalled = ap (λ z. z.stalled) r ∙ (let a = l.1 in let b = w.stalled in omega (arith, a, b));
          unused = ap (λ z. z.unused) r ∙ w.unused;
        }

pub leads-to-end : (d : ℕ) (t : Litmus) (cs : List Choice) (s : State) (registers : List (List ℕ)) (memory : List ℕ)
    → LeadsBy d t (start t) cs s
    → has_ended t s ≡ true
    → registers_in s ≡ registers → s.memory ≡ memory → LeadToEnd t d cs registers memory
leads-to-end d t cs s registers memory l h r m =
    let e = leads-end d t (start t) cs s (start-cores t) l h in
    record {
      cores = leads-cores d t (start t) cs s l;
      ended = e.ended;
      stalled = e.stalled;
      unused = e.unused;
      registers_are = ap registers_in e.state ∙ r;
      memory_is = ap (λ z. z.memory) e.state ∙ m;
    }

-- ---- an ended state is known by its registers and its memory

cores-same : (ps : List (List Instr)) (xs ys : List CoreState) → length xs ≡ length ps → length ys ≡ length ps → all_done ps xs ≡ true → all_done ps ys ≡ true
    → map (λ s. s.registers) xs ≡ map (λ s. s.registers) ys → xs ≡ ys
cores-same [] [] [] n m a b q = refl
cores-same [] [] (y ∷ ys) n m a b q = absurd (let z : ⊥ = omega (arith, m) in z)
cores-same [] (x ∷ xs) ys n m a b q = absurd (let z : ⊥ = omega (arith, n) in z)
cores-same (p ∷ ps) [] ys n m a b q = absurd (let z : ⊥ = omega (arith, n) in z)
cores-same (p ∷ ps) (x ∷ xs) [] n m a b q = absurd (let z : ⊥ = omega (arith, m) in z)
cores-same (p ∷ ps) (x ∷ xs) (y ∷ ys) n m a b q =
    let r : x.registers ≡ y.registers = cc in
    let u : map (λ s. s.registers) xs ≡ map (λ s. s.registers) ys = cc in
    let v = and-left (is_done p x) (all_done ps xs) a in
    let w = and-left (is_done p y) (all_done ps ys) b in
    rw (
      core-same x y (sym (at-end p x v) ∙ at-end p y w) r (drained p x v ∙ sym (drained p y w)),
      cores-same ps xs ys (omega (arith, n)) (omega (arith, m)) (and-right (is_done p x) (all_done ps xs) a) (and-right (is_done p y) (all_done ps ys) b) u,
    ) refl
  where
    core-same : (x y : CoreState) → x.place ≡ y.place → x.registers ≡ y.registers → x.pending ≡ y.pending → x ≡ y
    core-same x y p r q =
        ap (λ z. record { place = z; registers = x.registers; pending = x.pending }) p
        ∙ ap (λ z. record { place = y.place; registers = z; pending = x.pending }) r
        ∙ ap (λ z. record { place = y.place; registers = y.registers; pending = z }) q

pub length-map : (xs : List Processor) → length (map core_of_processor xs) ≡ length xs
length-map [] = refl
length-map (x ∷ xs) = ap suc (length-map xs)

pub ended-same : (t : Litmus) (a b : State)
    → length a.cores ≡ length t.programs
    → length b.cores ≡ length t.programs
    → has_ended t a ≡ true
    → has_ended t b ≡ true
    → registers_in a ≡ registers_in b → a.memory ≡ b.memory → a ≡ b
ended-same t a b n m p q r w =
    let c = cores-same t.programs a.cores b.cores n m p q r in
    ap (λ z. record { memory = z; cores = a.cores }) w ∙ ap (λ z. record { memory = b.memory; cores = z }) c

-- the registers of the cores of a snapshot
pub registers-map : (xs : List Processor) → map (λ c. c.registers) xs ≡ map (λ s. s.registers) (map core_of_processor xs)
registers-map [] = refl
registers-map (x ∷ xs) = ap (λ z. x.registers ∷ z) (registers-map xs)

-- what is left of a list of choices begins with the next
pub next-choice : (cs : List Choice) (i : ℕ) (c : Choice) → i < length cs → drop i cs ≡ slice_index_or cs i c ∷ drop (i + 1) cs
next-choice cs i c l = drop-at cs i (slice_index_or cs i c) (slice_get-get_or cs i c l)
