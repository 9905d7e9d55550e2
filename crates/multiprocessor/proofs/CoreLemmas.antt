-- The machine's cores as the flat machine has them.
use Rattle.multiprocessor.proofs.Vocabulary.{◌≡◌, ◌<◌, ℕ, zero, suc, ◌+◌, ◌==◌, Bool, true, false, IsTrue, if◌then◌else◌, List, [], ◌∷◌}
use Rattle.multiprocessor.proofs.Vocabulary.{◌++◌, map, filter, Option, None, Some, unwrap_or, length, slice_get, slice_set, slice_index}
use Rattle.multiprocessor.proofs.Vocabulary.{slice_index_or, take, drop, drop-cons, add-one, append_assoc, refl, sym, ap, ◌∙◌, arith, subst}
use Rattle.multiprocessor.proofs.Vocabulary.{All, All-append, option_map, last_or, writes_to, is_none_pending, CoreState, stalled, started}
use Rattle.multiprocessor.proofs.Vocabulary.{idle, Reg, Loc, Instr, Update, Pending, newest_for, Processor, stores, store_of, core_state}
use Rattle.multiprocessor.proofs.Vocabulary.{core_states, effect_of_lock, IsCore, drain_with, fenced_with, locked_with}
use Rattle.tso_terms.specs.Axioms.{last_value}
use Rattle.tso_terms.specs.declared.choice.Stall.TheVariants as stall

-- what a load sees, in the buffer and among the pending stores
last_value-stores : (core loc word : ℕ) (o : Option Pending) (items : List Pending)
    → unwrap_or (option_map (λ p. p.value) (last_or o (filter (λ p. p.loc.0 == loc) items))) word
    ≡ last_value (filter (writes_to loc) (map (store_of core) items)) (unwrap_or (option_map (λ p. p.value) o) word)
last_value-stores core loc word o [] = refl
last_value-stores core loc word o (p ∷ ps) =
    elim (p.loc.0 == loc) as (λ b.
    unwrap_or (option_map (λ p. p.value) (last_or o (if b then p ∷ filter (λ p. p.loc.0 == loc) ps else filter (λ p. p.loc.0 == loc) ps))) word
    ≡ last_value (if b
    then store_of core p ∷ filter (writes_to loc) (map (store_of core) ps)
    else filter (writes_to loc) (map (store_of core) ps))
    (unwrap_or (option_map (λ p. p.value) o) word))
    [ true ↦ last_value-stores core loc word (Some p) ps | false ↦ last_value-stores core loc word o ps ]

pub newest_for-stores : (core loc word : ℕ) (items : List Pending)
    → unwrap_or (newest_for loc items) word ≡ last_value (filter (writes_to loc) (map (store_of core) items)) word
newest_for-stores core loc word items = last_value-stores core loc word None items

-- the value that a load sees is that of the newest pending store, or memory's word where there is none
pub sees_buffered : (core loc word value : ℕ) (items : List Pending)
    → Some value ≡ newest_for loc items
    → value ≡ last_value (filter (writes_to loc) (map (store_of core) items)) word
sees_buffered core loc word value items h = ap (λ o. unwrap_or o word) h ∙ newest_for-stores core loc word items

pub sees_memory : (core loc word : ℕ) (items : List Pending)
    → None ≡ newest_for loc items
    → word ≡ last_value (filter (writes_to loc) (map (store_of core) items)) word
sees_memory core loc word items h = ap (λ o. unwrap_or o word) h ∙ newest_for-stores core loc word items

pub index-got : (xs : List ℕ) (i x : ℕ) → slice_get xs i ≡ Some x → slice_index xs i ≡ x
index-got [] i x h = absurd (let z : ⊥ = cc in z)
index-got (y ∷ ys) zero x h = cc
index-got (y ∷ ys) (suc i) x h = index-got ys i x h

pub take-got : (xs : List ℕ) (k x : ℕ) → slice_get xs k ≡ Some x → take (k + 1) xs ≡ take k xs ++ x ∷ []
take-got [] k x h = absurd (let z : ⊥ = cc in z)
take-got (y ∷ ys) zero x h = ap (λ (n : ℕ). n ∷ []) (let z : y ≡ x = cc in z)
take-got (y ∷ ys) (suc k) x h = rw add-one (ap (λ zs. y ∷ zs) (rw add-one at (take-got ys k x h)))

-- something is pending
pub holds_some : (b : Bool) (items : List Pending) → (items ≡ [] → IsTrue b) → b ≡ false → items ≡ [] → ⊥
holds_some b items h f e = let t : b ≡ true = h e in let z : true ≡ false = sym t ∙ f in let w : ⊥ = cc in w

pub fenced-waits : (core : ℕ) (s : CoreState) (items : List Pending) → (items ≡ [] → ⊥) → fenced_with core s (map (store_of core) items) ≡ stalled stall.Fence s
fenced-waits core s [] h = absurd (h refl)
fenced-waits core s (p ∷ ps) h = refl

locked-waits : (core : ℕ) (s : CoreState) (loc : Loc) (reg : Option Reg) (word value : ℕ) (items : List Pending) → (items ≡ [] → ⊥)
    → locked_with core s loc reg word value (map (store_of core) items) ≡ stalled stall.Lock s
locked-waits core s loc reg word value [] h = absurd (h refl)
locked-waits core s loc reg word value (p ∷ ps) h = refl

pub lock-waits : (core : ℕ) (p : Processor) (words : List ℕ) (loc : Loc) (reg : Option Reg) (update : Update) (b : Bool)
    → (p.stores.items ≡ [] → IsTrue b)
    → b ≡ false
    → stalled stall.Lock (core_state core p) ≡ effect_of_lock loc reg update core p words
lock-waits core p words loc reg update b f h = sym (locked-waits core (core_state core p) loc reg _ _ p.stores.items (holds_some b p.stores.items f h))

pub drain_of-nothing : (core : ℕ) (s : CoreState) (items : List Pending)
    → slice_get items 0 ≡ None
    → drain_with s (map (store_of core) items) ≡ stalled stall.Empty s
drain_of-nothing core s [] h = refl
drain_of-nothing core s (p ∷ ps) h = absurd (let z : ⊥ = cc in z)

pub is_none_pending-stores : (core : ℕ) (b : Bool) (items : List Pending) → (IsTrue b → items ≡ []) → (items ≡ [] → IsTrue b)
    → b ≡ is_none_pending (map (store_of core) items)
is_none_pending-stores core b [] f g = g refl
is_none_pending-stores core true (p ∷ ps) f g = let e : (p ∷ ps) ≡ [] = f refl in absurd (let z : ⊥ = cc in z)
is_none_pending-stores core false (p ∷ ps) f g = refl

-- the cores one by one
pub length-core_states : (k : ℕ) (ps : List Processor) → length (core_states k ps) ≡ length ps
length-core_states k [] = refl
length-core_states k (p ∷ ps) = ap suc (length-core_states (k + 1) ps)

core_states-get : (k : ℕ) (ps : List Processor) (i j : ℕ) (d : Processor) → i < length ps → j ≡ k + i
    → slice_index_or (core_states k ps) i idle ≡ core_state j (slice_index_or ps i d)
core_states-get k [] i j d h e = absurd (omega arith)
core_states-get k (p ∷ ps) zero j d h e = ap (λ n. core_state n p) (let z : k ≡ j = omega arith in z)
core_states-get k (p ∷ ps) (suc i) j d h e = core_states-get (k + 1) ps i j d (omega arith) (omega arith)

pub core_states-get_or : (ps : List Processor) (i : ℕ) (d : Processor)
    → i < length ps
    → slice_index_or (core_states 0 ps) i idle ≡ core_state i (slice_index_or ps i d)
core_states-get_or ps i d h = core_states-get 0 ps i i d h (omega arith)

core_states-put : (k : ℕ) (ps : List Processor) (i j : ℕ) (p : Processor) → j ≡ k + i
    → core_states k (slice_set ps i p) ≡ slice_set (core_states k ps) i (core_state j p)
core_states-put k [] i j p e = refl
core_states-put k (q ∷ qs) zero j p e = ap (λ n. core_state n p ∷ core_states (k + 1) qs) (let z : k ≡ j = omega arith in z)
core_states-put k (q ∷ qs) (suc i) j p e = ap (λ r. core_state k q ∷ r) (core_states-put (k + 1) qs i j p (omega arith))

pub core_states-set : (ps : List Processor) (i : ℕ) (p : Processor) → core_states 0 (slice_set ps i p) ≡ slice_set (core_states 0 ps) i (core_state i p)
core_states-set ps i p = core_states-put 0 ps i i p (omega arith)

pub core_states-append : (k : ℕ) (ps : List Processor) (p : Processor) → core_states k (ps ++ p ∷ []) ≡ core_states k ps ++ core_state (k + length ps) p ∷ []
core_states-append k [] p = ap (λ n. core_state n p ∷ []) (let z : k ≡ k + 0 = omega arith in z)
core_states-append k (q ∷ qs) p =
    ap (λ r. core_state k q ∷ r)
    (core_states-append (k + 1) qs p
    ∙ ap (λ n. core_states (k + 1) qs ++ core_state n p ∷ []) (let z : k + 1 + length qs ≡ k + suc (length qs) = omega arith in z))

-- one more core at the beginning of its program
pub started-next : (ps : List Processor) (p : Processor) (core : ℕ) (programs : List (List Instr)) (registers : List (List ℕ))
    → core < length programs → p.place ≡ 0 → p.registers ≡ slice_index_or registers core [] → p.stores.items ≡ []
    → core_states 0 (ps ++ p ∷ []) ++ started (core + 1) (drop (core + 1) programs) registers ≡ core_states 0 ps ++ started core (drop core programs) registers
started-next ps p core programs registers h place regs none =
    let first : core_state (0 + length ps) p ≡ record { place = 0; registers = slice_index_or registers core []; pending = [] } = rw (place, regs, none) refl in
    let rest : drop core programs ≡ slice_index_or programs core [] ∷ drop (core + 1) programs = rw add-one (drop-cons programs core [] h) in
    ap (λ xs. xs ++ started (core + 1) (drop (core + 1) programs) registers) (core_states-append 0 ps p ∙ ap (λ s. core_states 0 ps ++ s ∷ []) first)
    ∙ append_assoc (core_states 0 ps)
    (record { place = 0; registers = slice_index_or registers core []; pending = [] } ∷ [])
    (started (core + 1) (drop (core + 1) programs) registers)
    ∙ ap (λ qs. core_states 0 ps ++ started core qs registers) (sym rest)

pub registers-core_states : (k : ℕ) (ps : List Processor) → map (λ p. p.registers) ps ≡ map (λ c. c.registers) (core_states k ps)
registers-core_states k [] = refl
registers-core_states k (p ∷ ps) = ap (λ r. p.registers ∷ r) (registers-core_states (k + 1) ps)

-- a core with an empty buffer
no_stores : (n : ℕ) → All (λ (s : Pending). s.loc.0 < n) []
no_stores n k d h = absurd (omega arith)

pub IsCore-new : (depth locations : ℕ) (p : Processor) → p.stores ≡ stores [] depth → IsCore depth locations p
IsCore-new depth locations p e = record {
  depth_is = ap (λ s. s.depth) e;
  known = subst (λ items. All (λ s. s.loc.0 < locations) items) (sym (ap (λ s. s.items) e)) (no_stores locations);
}

All-one : {X : Type 0} (P : X → Type 0) (x : X) → P x → All P (x ∷ [])
All-one P x h zero d l = h
All-one P x h (suc k) d l = absurd (omega arith)

pub All-one_more : {X : Type 0} (P : X → Type 0) (xs : List X) (x : X) → All P xs → P x → All P (xs ++ x ∷ [])
All-one_more P xs x a h = All-append P xs (x ∷ []) a (All-one P x h)
