-- What is written for a state is read back as that state.
use Rattle.explorer.proofs.Vocabulary.{◌≡◌, ◌<◌, ◌≤◌, ℕ, ◌+◌, zero, suc, Bool, true, false, List, [], ◌∷◌, ◌++◌, length, map, take}
use Rattle.explorer.proofs.Vocabulary.{take_more, slice_index_or, slice_set, core_of_processor, Processor, if◌then◌else◌, arith, ap, sym}
use Rattle.explorer.proofs.Vocabulary.{◌∙◌, refl, subst, append_assoc, append-nil, map-append, length-map, CoreState, State, Entry}
use Rattle.std.specs.Prelude.{nat_lt, ◌^◌}
use Rattle.std.specs.Int.{w64, to_le_bytes}
use Rattle.std.proofs.lemmas.Nat.{from_le_bytes-to_le_bytes_8}
use Rattle.std.proofs.lemmas.List.{take_more_set, take_all}
use Rattle.std.proofs.lemmas.Bool.{lt-ltb, le-ltb}
use Rattle.basic_laws.specs.Types.{Kind, R, W, F, LR, LW}
use Rattle.explorer.specs.inner.Packed.{number_bytes, kind_byte, all_bytes, list_bytes, entry_bytes, core_bytes, state_bytes, read_byte}
use Rattle.explorer.specs.inner.Packed.{read_long, read_number, word_or_zero, read_word, kind_of_byte, read_all, read_list, read_entry}
use Rattle.explorer.specs.inner.Packed.{read_registers, read_core, state_of_bytes, Packs}

-- ---- numbers

long-back : (n : ℕ) → n < 2 ^ 64 → (rest : List ℕ) → read_long (to_le_bytes w64 n ++ rest) ≡ (n, rest)
unfolding read_long
long-back n l rest = rw (le-ltb (length (to_le_bytes w64 n ++ rest)) 8 (omega arith)) (ap (λ z. (z, rest)) (from_le_bytes-to_le_bytes_8 n l))

number-back : (n : ℕ) → n < 2 ^ 64 → (rest : List ℕ) → read_number (number_bytes n ++ rest) ≡ (n, rest)
unfolding number_bytes read_number
number-back n l rest = go (nat_lt n 255) refl
  where
    go : (b : Bool) → nat_lt n 255 ≡ b → read_number ((if b then n ∷ [] else 255 ∷ to_le_bytes w64 n) ++ rest) ≡ (n, rest)
    go true q = ap (λ b. if b then (n, rest) else read_long rest) q
    go false q = long-back n l rest

pub packs-short : (n : ℕ) (old new : List ℕ) → n < 255 → new ≡ old ++ n ∷ [] → Packs number_bytes read_number n old new
unfolding number_bytes
packs-short n old new l e = record {
  appended = e ∙ ap (λ b. old ++ (if b then n ∷ [] else 255 ∷ to_le_bytes w64 n)) (sym (lt-ltb n 255 l));
  read_back = number-back n (omega (arith, l));
}

pub packs-long : (n : ℕ) (old mid new : List ℕ)
    → 255 ≤ n
    → n < 2 ^ 64
    → mid ≡ old ++ 255 ∷ []
    → new ≡ mid ++ to_le_bytes w64 n
    → Packs number_bytes read_number n old new
unfolding number_bytes
packs-long n old mid new m l e f = record {
  appended = f ∙ ap (λ z. z ++ to_le_bytes w64 n) e ∙ append_assoc old (255 ∷ []) (to_le_bytes w64 n)
      ∙ ap (λ b. old ++ (if b then n ∷ [] else 255 ∷ to_le_bytes w64 n)) (sym (le-ltb n 255 m));
  read_back = number-back n l;
}

-- ---- words

word-same : (n : ℕ) → n < 2 ^ 32 → word_or_zero n ≡ n
unfolding word_or_zero
word-same n l = grind arith

pub packs-word : (n : ℕ) (old new : List ℕ) → n < 2 ^ 32 → Packs number_bytes read_number n old new → Packs number_bytes read_word n old new
unfolding read_word
packs-word n old new l h = record {
  appended = h.appended;
  read_back = λ rest. ap (λ z. (word_or_zero z.0, z.1)) (h.read_back rest) ∙ ap (λ z. (z, rest)) (word-same n l);
}

-- ---- pending stores

pub kind-back : (k : Kind) → kind_of_byte (kind_byte k) ≡ k
unfolding kind_of_byte kind_byte
kind-back R = refl
kind-back W = refl
kind-back F = refl
kind-back LR = refl
kind-back LW = refl

pub packs-entry : (e : Entry) (old mid new : List ℕ)
    → mid ≡ old ++ e.core.0 ∷ e.place ∷ kind_byte e.kind ∷ e.loc.0 ∷ []
    → Packs number_bytes read_word e.value mid new
    → Packs entry_bytes read_entry e old new
unfolding read_entry read_byte
packs-entry e old mid new p h = record {
  appended =
      h.appended
      ∙ ap (λ z. z ++ number_bytes e.value) p
      ∙ append_assoc old (e.core.0 ∷ e.place ∷ kind_byte e.kind ∷ e.loc.0 ∷ []) (number_bytes e.value);
  read_back = λ rest. rw (h.read_back rest, kind-back e.kind) refl;
}

-- ---- each of a list

module _ {A : Type 0} (bytes : A → List ℕ) (read : List ℕ → A × List ℕ) where
  all-append : (xs : List A) (x : A) → all_bytes bytes (xs ++ x ∷ []) ≡ all_bytes bytes xs ++ bytes x
  all-append [] x = append-nil (bytes x)
  all-append (y ∷ xs) x = ap (λ z. bytes y ++ z) (all-append xs x) ∙ sym (append_assoc (bytes y) (all_bytes bytes xs) (bytes x))

  pub packs-none : (old : List ℕ) → Packs (all_bytes bytes) (read_all read 0) [] old old
  packs-none old = record { appended = sym (append-nil old); read_back = λ rest. refl }

  -- one more at the end
  pub read-more : (n : ℕ) (bs : List ℕ)
      → read_all read (suc n) bs
      ≡ ((read_all read n bs).0 ++ (read (read_all read n bs).1).0 ∷ [], (read (read_all read n bs).1).1)
  read-more zero bs = refl
  read-more (suc n) bs = ap (λ z. ((read bs).0 ∷ z.0, z.1)) (read-more n (read bs).1)

  pub read-one-more : (n : ℕ) (bs rest later : List ℕ) (xs : List A) (x : A)
      → read_all read n bs ≡ (xs, rest)
      → read rest ≡ (x, later)
      → read_all read (n + 1) bs ≡ (xs ++ x ∷ [], later)
  read-one-more n bs rest later xs x p q =
      ap (λ k. read_all read k bs) (let e : n + 1 ≡ suc n = omega arith in e)
      ∙ read-more n bs
      ∙ ap (λ z. (z.0 ++ (read z.1).0 ∷ [], (read z.1).1)) p
      ∙ ap (λ z. (xs ++ z.0 ∷ [], z.1)) q

  pub packs-more : (n : ℕ) (xs : List A) (x : A) (old now new : List ℕ) → Packs (all_bytes bytes) (read_all read n) xs old now → Packs bytes read x now new
      → Packs (all_bytes bytes) (read_all read (n + 1)) (xs ++ x ∷ []) old new
  packs-more n xs x old now new h k = record {
    appended = k.appended ∙ ap (λ z. z ++ bytes x) h.appended ∙ append_assoc old (all_bytes bytes xs) (bytes x) ∙ ap (λ z. old ++ z) (sym (all-append xs x));
    read_back = λ rest.
        read-one-more n (all_bytes bytes (xs ++ x ∷ []) ++ rest) (bytes x ++ rest) rest xs x
        (ap (λ z. read_all read n (z ++ rest)) (all-append xs x)
        ∙ ap (read_all read n) (append_assoc (all_bytes bytes xs) (bytes x) rest)
        ∙ h.read_back (bytes x ++ rest))
        (k.read_back rest);
  }

  -- all of them
  pub all-packed : (xs : List A) (n : ℕ) (old new : List ℕ) → length xs ≤ n → n ≤ length xs → Packs (all_bytes bytes) (read_all read n) (take n xs) old new
      → Packs (all_bytes bytes) (read_all read (length xs)) xs old new
  all-packed xs n old new l m h =
      subst (λ k. Packs (all_bytes bytes) (read_all read k) xs old new) (omega (arith, l, m))
      (subst (λ z. Packs (all_bytes bytes) (read_all read n) z old new) (take_all n xs l) h)

  -- how many there are, and then each
  pub packs-list : (xs : List A) (old now new : List ℕ)
      → Packs number_bytes read_number (length xs) old now
      → Packs (all_bytes bytes) (read_all read (length xs)) xs now new
      → Packs (list_bytes bytes) (read_list read) xs old new
  packs-list xs old now new h k = record {
    appended = k.appended ∙ ap (λ z. z ++ all_bytes bytes xs) h.appended ∙ append_assoc old (number_bytes (length xs)) (all_bytes bytes xs);
    read_back = λ rest.
        ap (λ z. let count = read_number z in read_all read count.0 count.1) (append_assoc (number_bytes (length xs)) (all_bytes bytes xs) rest)
        ∙ ap (λ z. read_all read z.0 z.1) (h.read_back (all_bytes bytes xs ++ rest)) ∙ k.read_back rest;
  }

-- the next pending store
pub packs-next-entry : (es : List Entry) (i : ℕ) (d : Entry) (kind : ℕ) (old now mid new : List ℕ)
    → i < length es
    → Packs (all_bytes entry_bytes) (read_all read_entry i) (take i es) old now
    → kind ≡ kind_byte (slice_index_or es i d).kind
    → mid ≡ now ++ (slice_index_or es i d).core.0 ∷ (slice_index_or es i d).place ∷ kind
    ∷ (slice_index_or es i d).loc.0 ∷ []
    → Packs number_bytes read_word (slice_index_or es i d).value mid new → Packs (all_bytes entry_bytes) (read_all read_entry (i + 1)) (take (i + 1) es) old new
packs-next-entry es i d kind old now mid new l h k m v =
    let e : Entry = slice_index_or es i d in
    subst (λ z. Packs (all_bytes entry_bytes) (read_all read_entry (i + 1)) z old new) (sym (take_more es i d l))
    (packs-more entry_bytes read_entry i (take i es) e old now new h
    (packs-entry e now mid new (m ∙ ap (λ z. now ++ e.core.0 ∷ e.place ∷ z ∷ e.loc.0 ∷ []) k) v))

-- ---- cores, and a state

pub packs-core : (c : CoreState) (old a b new : List ℕ)
    → a ≡ old ++ c.place ∷ []
    → Packs (all_bytes number_bytes) read_registers c.registers a b
    → Packs (list_bytes entry_bytes) (read_list read_entry) c.pending b new
    → Packs core_bytes read_core c old new
unfolding read_core read_byte
packs-core c old a b new p h k = record {
  appended =
      k.appended
      ∙ ap (λ z. z ++ list_bytes entry_bytes c.pending) (h.appended ∙ ap (λ z. z ++ all_bytes number_bytes c.registers) p)
      ∙ simp append_assoc;
  read_back = λ rest.
      ap with_registers
      (ap read_registers (append_assoc (all_bytes number_bytes c.registers) (list_bytes entry_bytes c.pending) rest)
      ∙ h.read_back (list_bytes entry_bytes c.pending ++ rest))
      ∙ ap (with_pending c.registers) (k.read_back rest);
}
  where
    with_pending : List ℕ → List Entry × List ℕ → CoreState × List ℕ
    with_pending registers z = (record { place = c.place; registers = registers; pending = z.0 }, z.1)

    with_registers : List ℕ × List ℕ → CoreState × List ℕ
    with_registers z = with_pending z.0 (read_list read_entry z.1)

pub packs-state : (s : State) (old mid new : List ℕ)
    → old ≡ []
    → Packs (list_bytes number_bytes) (read_list read_word) s.memory old mid
    → Packs (list_bytes core_bytes) (read_list read_core) s.cores mid new
    → (new ≡ state_bytes s) × (state_of_bytes new ≡ s)
unfolding state_bytes state_of_bytes
packs-state s old mid new e h k =
    let m : mid ≡ list_bytes number_bytes s.memory = h.appended ∙ ap (λ z. z ++ list_bytes number_bytes s.memory) e in
    let n : new ≡ list_bytes number_bytes s.memory ++ list_bytes core_bytes s.cores = k.appended ∙ ap (λ z. z ++ list_bytes core_bytes s.cores) m in
    let memory : read_list read_word new ≡ (s.memory, list_bytes core_bytes s.cores) =
    ap (read_list read_word) n ∙ h.read_back (list_bytes core_bytes s.cores) in
    let cores : read_list read_core (list_bytes core_bytes s.cores) ≡ (s.cores, []) =
    ap (read_list read_core) (sym (append-nil (list_bytes core_bytes s.cores))) ∙ k.read_back [] in
    (n, ap with_memory memory ∙ ap (with_cores s.memory) cores)
  where
    with_cores : List ℕ → List CoreState × List ℕ → State
    with_cores memory z = record { memory = memory; cores = z.0 }

    with_memory : List ℕ × List ℕ → State
    with_memory z = with_cores z.0 (read_list read_core z.1)

-- ---- what a state is read of

pub read-length : {A : Type 0} (read : List ℕ → A × List ℕ) (n : ℕ) (bs : List ℕ) → length (read_all read n bs).0 ≡ n
read-length read zero bs = refl
read-length read (suc n) bs = ap suc (read-length read n (read bs).1)

-- so many were read, and the count said so
pub list-read : {A : Type 0} (read : List ℕ → A × List ℕ) (bs start rest : List ℕ) (count n : ℕ) (xs : List A)
    → (count, start) ≡ read_number bs
    → n ≡ count
    → read_all read n start ≡ (xs, rest)
    → (xs, rest) ≡ read_list read bs
list-read read bs start rest count n xs p e q = sym q ∙ ap (λ k. read_all read k start) e ∙ ap (λ z. read_all read z.0 z.1) p

-- the next takes the place of what stood there
pub next-read : {A : Type 0} (read : List ℕ → A × List ℕ) (n : ℕ) (start rest later : List ℕ) (xs : List A) (x : A)
    → n < length xs
    → read_all read n start ≡ (take n xs, rest)
    → (x, later) ≡ read rest
    → read_all read (n + 1) start ≡ (take (n + 1) (slice_set xs n x), later)
next-read read n start rest later xs x l p q =
    read-one-more (λ _. []) read n start rest later (take n xs) x p (sym q) ∙ ap (λ z. (z, later)) (sym (take_more_set xs n x l))

pub next-core : (n : ℕ) (start rest later : List ℕ) (xs : List Processor) (x : Processor)
    → n < length xs
    → read_all read_core n start ≡ (map core_of_processor (take n xs), rest)
    → (core_of_processor x, later) ≡ read_core rest → read_all read_core (n + 1) start ≡ (map core_of_processor (take (n + 1) (slice_set xs n x)), later)
next-core n start rest later xs x l p q =
    read-one-more (λ _. []) read_core n start rest later (map core_of_processor (take n xs)) (core_of_processor x) p (sym q)
    ∙ ap (λ z. (z, later)) (sym (ap (map core_of_processor) (take_more_set xs n x l) ∙ map-append core_of_processor (take n xs) (x ∷ [])))

pub cores-read : (bs start rest : List ℕ) (count n : ℕ) (xs : List Processor)
    → (count, start) ≡ read_number bs
    → length xs ≡ length (read_list read_core bs).0
    → n ≡ length xs
    → read_all read_core n start ≡ (map core_of_processor (take n xs), rest) → map core_of_processor xs ≡ (read_list read_core bs).0
cores-read bs start rest count n xs p m e q =
    let k : length (read_list read_core bs).0 ≡ count = ap (λ z. length (read_all read_core z.0 z.1).0) (sym p) ∙ read-length read_core count start in
    ap (map core_of_processor) (sym (take_all n xs (omega (arith, e))))
    ∙ ap (λ z. z.0) (list-read read_core bs start rest count n (map core_of_processor (take n xs)) p (e ∙ m ∙ k) q)

pub core-read : (bs a b c : List ℕ) (place : ℕ) (registers : List ℕ) (pending : List Entry)
    → (place, a) ≡ read_byte bs
    → (registers, b) ≡ read_registers a
    → (pending, c) ≡ read_list read_entry b
    → ((let z : CoreState = record { place = place; registers = registers; pending = pending } in z), c) ≡ read_core bs
unfolding read_core
core-read bs a b c place registers pending p q r = ap (with_pending place registers) r ∙ ap (with_registers place) q ∙ ap with_place p
  where
    with_pending : ℕ → List ℕ → List Entry × List ℕ → CoreState × List ℕ
    with_pending place registers z = (record { place = place; registers = registers; pending = z.0 }, z.1)

    with_registers : ℕ → List ℕ × List ℕ → CoreState × List ℕ
    with_registers place z = with_pending place z.0 (read_list read_entry z.1)

    with_place : ℕ × List ℕ → CoreState × List ℕ
    with_place z = with_registers z.0 (read_registers z.1)

pub state-cores : (bs rest memory : List ℕ) → (memory, rest) ≡ read_list read_word bs → (state_of_bytes bs).cores ≡ (read_list read_core rest).0
unfolding state_of_bytes
state-cores bs rest memory p = ap (λ z. (read_list read_core z.1).0) (sym p)

pub state-read : (bs rest memory : List ℕ) (cores : List CoreState) → (memory, rest) ≡ read_list read_word bs → cores ≡ (read_list read_core rest).0
    → (let z : State = record { memory = memory; cores = cores } in z) ≡ state_of_bytes bs
unfolding state_of_bytes
state-read bs rest memory cores p q = ap (with_cores memory) q ∙ ap (λ z. with_cores z.0 (read_list read_core z.1).0) p
  where
    with_cores : List ℕ → List CoreState → State
    with_cores memory cores = record { memory = memory; cores = cores }

-- all cores of a snapshot
pub cores-packed : (cores : List Processor) (n : ℕ) (old now new : List ℕ)
    → length cores ≤ n
    → n ≤ length cores
    → Packs number_bytes read_number (length cores) old now
    → Packs (all_bytes core_bytes) (read_all read_core n) (map core_of_processor (take n cores)) now new
    → Packs (list_bytes core_bytes) (read_list read_core) (map core_of_processor cores) old new
cores-packed cores n old now new l m h k =
    let all : n ≡ length cores = omega (arith, l, m) in
    let count = length-map cores core_of_processor in
    packs-list core_bytes read_core (map core_of_processor cores) old now new (subst (λ z. Packs number_bytes read_number z old now) (sym count) h)
    (subst (λ z. Packs (all_bytes core_bytes) (read_all read_core z) (map core_of_processor cores) now new) (all ∙ sym count)
    (subst (λ z. Packs (all_bytes core_bytes) (read_all read_core n) (map core_of_processor z) now new) (take_all n cores l) k))
