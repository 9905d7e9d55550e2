-- A state that has ended, and what its commits are.
use Rattle.tso_laws.proofs.Vocabulary.{◌≡◌, ◌≢◌, ◌<◌, ◌≤◌, ℕ, ◌+◌, zero, suc, List, [], ◌∷◌, ◌++◌, Some, true, false, length, slice_get}
use Rattle.tso_laws.proofs.Vocabulary.{slice_index, slice_index_or, take, map, arith, ap, sym, ◌∙◌, append_assoc, refl, inl, inr, add-one}
use Rattle.tso_laws.proofs.Vocabulary.{subst, ◌==◌, if◌then◌else◌, length-append, slice_get-get_or, nat_tests, Litmus, is_read, is_before}
use Rattle.tso_laws.proofs.Vocabulary.{may_be_passed, is_load, is_store, made_by, made_from, made, IsTsoExecution, IsAdjacent}
use Rattle.tso_laws.proofs.Vocabulary.{KeepsProgramOrder, IsStorePart, KeepsAllOrder, test-false, le-cases, lt-by, max-within, not-itself}
use Rattle.tso_laws.proofs.Vocabulary.{registers_of, registers_from, final_registers, words_from, word_after, Entry, Instr, core_of}
use Rattle.tso_laws.proofs.Vocabulary.{CoreState, State, idle, program_of, LR, Each, each-append, each-at, each-right, Member, member-at}
use Rattle.tso_laws.proofs.Vocabulary.{drop-end, append-nil, cases_Bool}
use Rattle.tso_laws.proofs.Folds.{last_word, last_own, asks, needs, HasEnded, word-is, due-is}
use Rattle.tso_laws.proofs.Entries.{ordered-left, few-left, Fine, Ordered, Few, DueIn, count}
use Rattle.tso_laws.proofs.OneList.{OneList}
use Rattle.tso_laws.proofs.CoreInvariant.{CoreInvariant, left, trace, IsMemory, Paired}
use Rattle.tso_laws.proofs.MachineInvariant.{MachineInvariant}

-- what is known of each core at the end
pub record Ended (d : ℕ) (t : Litmus) (order : List Entry) (k : ℕ) : Type 0 where
  pub due : DueIn k t.words [] order
  pub counted : length (made_by k (program_of t k) (slice_index_or t.registers k []) order) ≡ count k order
  pub members : Each (λ e. Member e order) (made_by k (program_of t k) (slice_index_or t.registers k []) order)

nothing_left : (k : ℕ) (program : List Instr) (s : CoreState) (order : List Entry) → length program ≡ s.place → left k program s order ≡ []
nothing_left k program s order h = rw (drop-end program s.place h) refl

ended : (d : ℕ) (t : Litmus) (order : List Entry) (k : ℕ) (s : CoreState) → CoreInvariant d k (program_of t k) (slice_index_or t.registers k []) t.words order s
    → length (program_of t k) ≡ s.place → s.pending ≡ [] → Ended d t order k
ended d t order k s h p q =
    let same : order ++ s.pending ≡ order = ap (λ z. order ++ z) q ∙ append-nil order in
    let v : OneList d k (s.place + s.place) t.words h.done order = subst (λ z. OneList d k (s.place + s.place) t.words h.done z) same h.sees in
    let m : made_by k (program_of t k) (slice_index_or t.registers k []) order ≡ h.done =
    ap (λ z. made_by k (program_of t k) (slice_index_or t.registers k []) z) (sym (append-nil order))
    ∙ trace d k (program_of t k) (slice_index_or t.registers k []) t.words order s h []
    ∙ ap (λ z. h.done ++ z) (nothing_left k (program_of t k) s (order ++ []) p)
    ∙ append-nil h.done in
    record {
      due = v.due;
      counted = ap length m ∙ v.counted;
      members = subst (λ z. Each (λ e. Member e order) z) (sym m) v.members;
    }

ended-at : (d : ℕ) (t : Litmus) (order : List Entry) (state : State)
    → MachineInvariant d t order state
    → HasEnded t state
    → (k : ℕ) → k < length t.programs
    → Ended d t order k
ended-at d t order state w h k l =
    let g = slice_get-get_or state.cores k idle (rw w.size l) in
    let e = h.each k (slice_index_or state.cores k idle) g in
    ended d t order k (slice_index_or state.cores k idle) (w.cores k (slice_index_or state.cores k idle) g) e.0 e.1

pub ordered-at : (d c : ℕ) (xs : List Entry) (i j : ℕ) (x y : Entry) → Ordered d c xs → i < j → slice_get xs i ≡ Some x → slice_get xs j ≡ Some y → Fine d c x y
ordered-at d c [] i j x y h l a b = absurd (let z : ⊥ = cc in z)
ordered-at d c (z ∷ zs) i zero x y h l a b = absurd (omega arith)
ordered-at d c (z ∷ zs) zero (suc j) x y h l a b = let q : z ≡ x = cc in subst (λ v. Fine d c v y) q (each-at (λ v. Fine d c z v) zs j y h.0 b)
ordered-at d c (z ∷ zs) (suc i) (suc j) x y h l a b = ordered-at d c zs i j x y h.1 (omega arith) a b

pub due-at : (c : ℕ) (words : List ℕ) (front xs : List Entry) (x : Entry) (back : List Entry)
    → DueIn c words front (xs ++ (x ∷ back))
    → x.core.0 ≡ c
    → is_read x ≡ true
    → x.value ≡ last_own x back (last_word x.loc.0 (front ++ xs) (slice_index words x.loc.0))
due-at c words front [] x back h k r = rw (append-nil front) (h.0 k r)
due-at c words front (y ∷ ys) x back h k r = rw (← append_assoc front (y ∷ []) ys) (due-at c words (front ++ (y ∷ [])) ys x back h.1 k r)

-- how many entries are of these cores
abbrev total : ℕ → ℕ → List Entry → ℕ
total k zero order = 0
total k (suc n) order = count k order + total (suc k) n order

total-none : (k n : ℕ) → total k n [] ≡ 0
total-none k zero = refl
total-none k (suc n) = let h = total-none (suc k) n in omega arith

total-outside : (k n : ℕ) (x : Entry) (xs : List Entry) → x.core.0 < k → total k n (x ∷ xs) ≡ total k n xs
total-outside k zero x xs h = refl
total-outside k (suc n) x xs h = rw (test-false x.core.0 k (omega arith), total-outside (suc k) n x xs (omega arith)) refl

total-inside : (k n : ℕ) (x : Entry) (xs : List Entry) → k ≤ x.core.0 → x.core.0 < k + n → total k n (x ∷ xs) ≡ suc (total k n xs)
total-inside k zero x xs a b = absurd (omega arith)
total-inside k (suc n) x xs a b = elim (cases_Bool (x.core.0 == k)) [
  | inl q ↦ let s : x.core.0 ≡ k = grind (arith, nat_tests) in rw (q, total-outside (suc k) n x xs (omega arith)) (omega arith)
  | inr q ↦ let s : x.core.0 ≢ k = grind (arith, nat_tests) in rw (q, total-inside (suc k) n x xs (omega arith) (omega arith)) (omega arith)
]

length-total : (n : ℕ) (xs : List Entry) → Each (λ e. e.core.0 < n) xs → length xs ≡ total 0 n xs
length-total n [] h = sym (total-none 0 n)
length-total n (x ∷ xs) h = ap suc (length-total n xs h.1) ∙ sym (total-inside 0 n x xs (omega arith) (omega (arith, h.0)))

pub record MadeAt (order : List Entry) (k : ℕ) (program : List Instr) (registers : List (List ℕ)) : Type 0 where
  pub counted : length (made_by k program (slice_index_or registers k []) order) ≡ count k order
  pub members : Each (λ e. Member e order) (made_by k program (slice_index_or registers k []) order)

abbrev AllMade : List Entry → ℕ → List (List Instr) → List (List ℕ) → Type 0
AllMade order k [] registers = Unit {0}
AllMade order k (p ∷ ps) registers = MadeAt order k p registers × AllMade order (suc k) ps registers

all_made : (order : List Entry) (k : ℕ) (ps : List (List Instr)) (registers : List (List ℕ))
    → ((j : ℕ) → j < length ps → MadeAt order (k + j) (slice_index_or ps j []) registers)
    → AllMade order k ps registers
all_made order k [] registers h = tt
all_made order k (p ∷ ps) registers h = (
  subst (λ z. MadeAt order z p registers) (let z : k + 0 ≡ k = omega arith in z) (h 0 (omega arith)),
  all_made order (suc k) ps registers
      (λ j l.
      subst (λ z. MadeAt order z (slice_index_or ps j []) registers) (let z : k + suc j ≡ suc k + j = omega arith in z) (h (suc j) (omega arith))),
)

length-made : (order : List Entry) (k : ℕ) (ps : List (List Instr)) (registers : List (List ℕ))
    → AllMade order k ps registers
    → length (made_from k ps registers order) ≡ total k (length ps) order
length-made order k [] registers h = refl
length-made order k (p ∷ ps) registers h =
    length-append (made_by k p (slice_index_or registers k []) order) _ ∙
    (let a =
    h.0.counted in
    let b = length-made order (suc k) ps registers h.1 in
    let c : length (made_from (k + 1) ps registers order) ≡ total (suc k) (length ps) order = rw add-one b in
    omega arith)

members-made : (order : List Entry) (k : ℕ) (ps : List (List Instr)) (registers : List (List ℕ))
    → AllMade order k ps registers
    → Each (λ e. Member e order) (made_from k ps registers order)
members-made order k [] registers h = tt
members-made order k (p ∷ ps) registers h =
    each-append (λ e. Member e order) (made_by k p (slice_index_or registers k []) order) _ h.0.members
    (rw add-one (members-made order (suc k) ps registers h.1))

pub paired-at : (xs : List Entry) → Paired xs → IsAdjacent xs
paired-at [] h i x e l = absurd (let z : ⊥ = cc in z)
paired-at (y ∷ ys) h zero x e l =
    let q : y ≡ x = cc in let n = h.0 (subst (λ v. v.kind ≡ LR) (sym q) l) in
    (n.store, rw n.is refl, subst (λ v. IsStorePart v n.store) q n.pair)
paired-at (y ∷ ys) h (suc i) x e l = paired-at ys h.1 i x e l

-- what each core has seen, at each moment
world-holds : (d : ℕ) (t : Litmus) (order : List Entry) (state : State) → MachineInvariant d t order state → (k : ℕ) → k < length t.programs
    → CoreInvariant d k (program_of t k) (slice_index_or t.registers k []) t.words order (core_of state k)
world-holds d t order state w k l = w.cores k (core_of state k) (slice_get-get_or state.cores k idle (rw w.size l))

pub world-ordered : (d : ℕ) (t : Litmus) (order : List Entry) (state : State)
    → MachineInvariant d t order state
    → (k : ℕ) → k < length t.programs
    → Ordered d k order
world-ordered d t order state w k l = ordered-left d k order (core_of state k).pending (world-holds d t order state w k l).sees.kept

-- two entries of one program that stand the other way round
turned : (d n : ℕ) (xs : List Entry) (i j : ℕ) (x y : Entry)
    → Each (λ e. e.core.0 < n) xs
    → ((k : ℕ) → k < n → Ordered d k xs)
    → slice_get xs i ≡ Some x
    → slice_get xs j ≡ Some y
    → is_before x y ≡ true → j ≤ i → (may_be_passed x y ≡ true) × (0 < d)
turned d n xs i j x y known f a b q l = elim (le-cases j i l) [
  | inl s ↦ let u : slice_get xs i ≡ Some y = subst (λ z. slice_get xs z ≡ Some y) s b in
      let e : x ≡ y = cc in let v : is_before x x ≡ true = subst (λ z. is_before x z ≡ true) (sym e) q in
      let w : is_before x x ≡ false = not-itself x in absurd (let z : ⊥ = cc in z)
  | inr s ↦ ordered-at d x.core.0 xs j i y x (f x.core.0 (each-at (λ e. e.core.0 < n) xs i x known a)) s b a refl q
]

-- where each core sees its entries in order, the list keeps program order
pub kept-by-each : (d n : ℕ) (xs : List Entry) → Each (λ e. e.core.0 < n) xs → ((k : ℕ) → k < n → Ordered d k xs) → KeepsProgramOrder xs
kept-by-each d n xs known f i j x y a b q g = lt-by (λ l. let u = (turned d n xs i j x y known f a b q l).0 in let z : ⊥ = cc in z)

pub keeps_all : (t : Litmus) (order : List Entry) (state : State) → MachineInvariant 0 t order state → KeepsAllOrder order
keeps_all t order state w i j x y a b q =
    lt-by (λ l. let u = (turned 0 (length t.programs) order i j x y w.known (world-ordered 0 t order state w) a b q l).1 in absurd (omega (arith, u)))

pub ended_is_tso : (d : ℕ) (t : Litmus) (order : List Entry) (state : State) → MachineInvariant d t order state → HasEnded t state → IsTsoExecution t order
ended_is_tso d t order state w h =
    let each = ended-at d t order state w h in
    let m : AllMade order 0 t.programs t.registers = all_made order 0 t.programs t.registers (λ j l. made_here j (each j l)) in
    record {
      whole = record {
        count = length-total (length t.programs) order w.known ∙ sym (length-made order 0 t.programs t.registers m);
        each = λ k e q. member-at e order (each-at (λ e. Member e order) (made t order) k e (members-made order 0 t.programs t.registers m) q);
      };
      program_order = kept-by-each d (length t.programs) order w.known (world-ordered d t order state w);
      read_values = λ front x back q r.
          let v : Each (λ e. e.core.0 < length t.programs) (front ++ (x ∷ back)) = subst (λ z. Each (λ e. e.core.0 < length t.programs) z) q w.known in
          let l = (each-right (λ e. e.core.0 < length t.programs) front (x ∷ back) v).0 in
          due-at x.core.0 t.words [] front x back (subst (λ z. DueIn x.core.0 t.words [] z) q (each x.core.0 l).due) refl r
          ∙ sym (due-is x front back (slice_index t.words x.loc.0));
      adjacent = paired-at order w.pairs;
    }
  where
    made_here : (j : ℕ) → Ended d t order j → MadeAt order (0 + j) (slice_index_or t.programs j []) t.registers
    made_here j e =
        subst (λ z. MadeAt order z (slice_index_or t.programs j []) t.registers) (let z : j ≡ 0 + j = omega arith in z)
        (record { counted = e.counted; members = e.members })

-- the words of the memory as a list
pub words-list : (l : ℕ) (words memory : List ℕ) (order : List Entry) → length memory ≡ length words
    → ((j : ℕ) → j < length words → slice_index memory j ≡ last_word (l + j) order (slice_index words j)) → memory ≡ words_from l words order
words-list l [] [] order n h = refl
words-list l [] (m ∷ ms) order n h = absurd (omega arith)
words-list l (w ∷ ws) [] order n h = absurd (omega arith)
words-list l (w ∷ ws) (m ∷ ms) order n h =
    let here : m ≡ word_after l order w =
    subst (λ z. m ≡ last_word z order w) (let z : l + 0 ≡ l = omega arith in z) (h 0 (omega arith))
    ∙ sym (word-is l order w) in
    let rest =
    words-list (l + 1) ws ms order (omega arith)
    (λ j k.
    subst (λ z. slice_index ms j ≡ last_word z order (slice_index ws j))
    (let z : l + suc j ≡ (l + 1) + j = omega arith in z) (h (suc j) (omega arith))) in
    ap (λ z. z ∷ ms) here ∙ ap (λ z. word_after l order w ∷ z) rest

pub memory-list : (words memory : List ℕ) (order : List Entry) → length memory ≡ length words → IsMemory words order memory → memory ≡ words_from 0 words order
memory-list words memory order n h =
    words-list 0 words memory order n
    (λ j k.
    subst (λ z. slice_index memory j ≡ last_word z order (slice_index words j)) (let z : j ≡ 0 + j = omega arith in z) (h j k))

-- the registers of the cores as a list
registers-list : (c : ℕ) (ps : List (List Instr)) (ss : List CoreState) (registers : List (List ℕ)) (order : List Entry) → length ss ≡ length ps
    → ((j : ℕ)
    → j < length ps
    → (slice_index_or ss j idle).registers
    ≡ registers_of (c + j) (slice_index_or ps j []) (slice_index_or registers (c + j) []) order)
    → map (λ s. s.registers) ss ≡ registers_from c ps registers order
registers-list c [] [] registers order n h = refl
registers-list c [] (s ∷ ss) registers order n h = absurd (omega arith)
registers-list c (p ∷ ps) [] registers order n h = absurd (omega arith)
registers-list c (p ∷ ps) (s ∷ ss) registers order n h =
    let here : s.registers ≡ registers_of c p (slice_index_or registers c []) order =
    subst (λ z. s.registers ≡ registers_of z p (slice_index_or registers z []) order) (let z : c + 0 ≡ c = omega arith in z) (h 0 (omega arith)) in
    let rest = registers-list (c + 1) ps ss registers order (omega arith)
    (λ j k.
    subst (λ z.
    (slice_index_or ss j idle).registers
    ≡ registers_of z (slice_index_or ps j []) (slice_index_or registers z []) order)
    (let z : c + suc j ≡ (c + 1) + j = omega arith in z) (h (suc j) (omega arith))) in
    ap (λ z. z ∷ map (λ s. s.registers) ss) here ∙ ap (λ z. registers_of c p (slice_index_or registers c []) order ∷ z) rest

take_end : (p : List Instr) (n : ℕ) → length p ≡ n → take n p ≡ p
take_end [] zero e = refl
take_end [] (suc n) e = refl
take_end (x ∷ p) zero e = absurd (omega arith)
take_end (x ∷ p) (suc n) e = ap (λ z. x ∷ z) (take_end p n (omega arith))

pub ended_has_registers : (d : ℕ) (t : Litmus) (order : List Entry) (state : State)
    → MachineInvariant d t order state
    → HasEnded t state
    → map (λ s. s.registers) state.cores ≡ final_registers t order
ended_has_registers d t order state w h =
    registers-list 0 t.programs state.cores t.registers order w.size
    (λ j l.
    subst (λ z. (core_of state j).registers ≡ registers_of z (program_of t j) (slice_index_or t.registers z []) order)
    (let z : j ≡ 0 + j = omega arith in z) (each j l))
  where
    each : (j : ℕ) → j < length t.programs → (core_of state j).registers ≡ registers_of j (program_of t j) (slice_index_or t.registers j []) order
    each j l =
        let g = slice_get-get_or state.cores j idle (rw w.size l) in
        let v = w.cores j (core_of state j) g in
        sym (v.now [])
        ∙ ap (λ z. registers_of j z (slice_index_or t.registers j []) (order ++ []))
        (take_end (program_of t j) (core_of state j).place (h.each j (core_of state j) g).0)
        ∙ ap (λ z. registers_of j (program_of t j) (slice_index_or t.registers j []) z) (append-nil order)

pub needed_within : (n d : ℕ) (xs : List Entry) → 0 < d → Each (λ e. e.core.0 < n) xs → ((c : ℕ) → c < n → Few d c xs) → needs xs ≤ d
needed_within n d [] p k f = omega arith
needed_within n d (x ∷ xs) p k f =
    let here : asks x xs ≤ d = elim (cases_Bool (is_load x)) [
      | inl q ↦ rw q ((f x.core.0 k.0).0 refl q)
      | inr q ↦ rw q (elim (is_store x) as (λ b. (if b then 1 else 0) ≤ d) [ true ↦ omega arith | false ↦ omega arith ])
    ] in
    max-within (asks x xs) (needs xs) d here (needed_within n d xs p k.1 (λ c l. (f c l).1))

pub world-needs : (d : ℕ) (t : Litmus) (order : List Entry) (state : State) → 0 < d → MachineInvariant d t order state → needs order ≤ d
world-needs d t order state p w =
    needed_within (length t.programs) d order p w.known (λ c l. few-left d c order (core_of state c).pending (world-holds d t order state w c l).sees.few)
