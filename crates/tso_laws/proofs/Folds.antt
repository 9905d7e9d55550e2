-- The definitions in the form that proofs by recursion take: each fold goes over a list once.
use Rattle.tso_laws.proofs.Vocabulary.{sym, max, ◌≡◌, ◌≤◌, ℕ, ◌+◌, suc, List, [], ◌∷◌, ◌++◌, Some, Bool, true, refl, ◌∙◌, ap, length}
use Rattle.tso_laws.proofs.Vocabulary.{slice_get, slice_index, if◌then◌else◌, ◌&&◌, arith, nat_tests, filter, Litmus, KnownLocation}
use Rattle.tso_laws.proofs.Vocabulary.{is_store, is_load, is_read, is_before, writes_to, is_store_kind, is_load_kind, last_value, counting}
use Rattle.tso_laws.proofs.Vocabulary.{CoreState, State, Effect, program_of, Instr, Entry, Kind, R, W, Buffered, and-true, and-false}
use Rattle.tso_laws.proofs.Vocabulary.{stores_before, most_passed, one_for_stores, needed, asked, cases_Bool, inl, inr}

-- the word of a location after these entries
abbrev pub last_word : ℕ → List Entry → ℕ → ℕ
last_word loc [] word = word
last_word loc (e ∷ es) word = last_word loc es (if writes_to loc e then e.value else word)

-- the value of the last of these writes that come before the read in its program, else the word
abbrev pub last_own : Entry → List Entry → ℕ → ℕ
last_own x [] word = word
last_own x (e ∷ es) word = last_own x es (if writes_to x.loc.0 e && is_before e x then e.value else word)

-- each read has the value of the last write to its location among those before it in the order or in its program
abbrev pub HasDueValues : Litmus → List Entry → Type 0
HasDueValues t order =
    (front : List Entry) (x : Entry) (back : List Entry) → order ≡ front ++ (x ∷ back) → is_read x ≡ true
    → x.value ≡ last_own x back (last_word x.loc.0 front (slice_index t.words x.loc.0))

-- a store may be passed by a load
abbrev pub passes : Kind → Kind → Bool
passes a b = is_store_kind a && is_load_kind b

-- how many plain stores of the list come before x in its program
abbrev pub passed : Entry → List Entry → ℕ
passed x [] = 0
passed x (y ∷ ys) = if is_store y && is_before y x then suc (passed x ys) else passed x ys

-- what one entry asks of the depth, with these after it in the order
abbrev pub asks : Entry → List Entry → ℕ
asks x back = if is_load x then passed x back else (if is_store x then 1 else 0)

-- the depth that an order needs
abbrev pub needs : List Entry → ℕ
needs [] = 0
needs (x ∷ back) = max (asks x back) (needs back)

-- a store that is put after the pending ones
abbrev pub put : CoreState → Entry → Effect
put s e = record { outcome = Buffered; after = record { place = s.place + 1; registers = s.registers; pending = s.pending ++ e ∷ [] }; commits = [] }

-- every program is at its end and nothing is pending
pub record HasEnded (t : Litmus) (state : State) : Type 0 where
  pub each : (k : ℕ) (s : CoreState) → slice_get state.cores k ≡ Some s → (length (program_of t k) ≡ s.place) × (s.pending ≡ [])

-- each location of the programs has a word
abbrev pub HasLocations : Litmus → Type 0
HasLocations t = (k i : ℕ) (x : Instr) → slice_get (program_of t k) i ≡ Some x → KnownLocation (length t.words) x

in-word : (loc : ℕ) (es : List Entry) (w : ℕ) → last_value (filter (writes_to loc) es) w ≡ last_word loc es w
in-word loc [] w = refl
in-word loc (e ∷ es) w = elim (cases_Bool (writes_to loc e)) [ inl is ↦ rw is (in-word loc es e.value) | inr is ↦ rw is (in-word loc es w) ]

-- the value of the last write to a location among these, else the word
pub word-is : (loc : ℕ) (es : List Entry) (w : ℕ) → last_value (filter (writes_to loc) es) w ≡ last_word loc es w
word-is = in-word

pub last_word-append : (loc : ℕ) (xs ys : List Entry) (v : ℕ) → last_word loc (xs ++ ys) v ≡ last_word loc ys (last_word loc xs v)
last_word-append loc [] ys v = refl
last_word-append loc (x ∷ xs) ys v = last_word-append loc xs ys _

own-word : (x : Entry) (es : List Entry) (w : ℕ) → last_word x.loc.0 (filter (λ e. is_before e x) es) w ≡ last_own x es w
own-word x [] w = refl
own-word x (e ∷ es) w = elim (cases_Bool (is_before e x)) [
  | inl is ↦ rw (is, and-true (writes_to x.loc.0 e)) (own-word x es (if writes_to x.loc.0 e then e.value else w))
  | inr is ↦ rw (is, and-false (writes_to x.loc.0 e)) (own-word x es w)
]

-- the due value of a read, found by going over the order once
pub due-is : (x : Entry) (front back : List Entry) (w : ℕ) → last_value (counting x front back) w ≡ last_own x back (last_word x.loc.0 front w)
due-is x front back w =
    in-word x.loc.0 (front ++ filter (λ e. is_before e x) back) w
    ∙ last_word-append x.loc.0 front (filter (λ e. is_before e x) back) w
    ∙ own-word x back (last_word x.loc.0 front w)

passed-is : (x : Entry) (ys : List Entry) → length (stores_before x ys) ≡ passed x ys
passed-is x [] = refl
passed-is x (y ∷ ys) = elim (cases_Bool (is_store y && is_before y x)) [ inl is ↦ rw is (ap suc (passed-is x ys)) | inr is ↦ rw is (passed-is x ys) ]

-- the depth that an order needs, found by going over the order once
pub needed-is : (order : List Entry) → needed order ≡ needs order
needed-is [] = refl
needed-is (x ∷ back) =
    rw (
      ← needed-is back,
      ← passed-is x back,
    ) (go x.kind (length (stores_before x back)) (one_for_stores back) (most_passed back) (small back))
  where
    small : (ys : List Entry) → one_for_stores ys ≤ 1
    small [] = omega arith
    small (y ∷ ys) = elim (cases_Bool (is_store y)) [ inl is ↦ rw is (omega arith) | inr is ↦ rw is (small ys) ]

    neither : (o m : ℕ) → max o (max 0 m) ≡ max 0 (max o m)
    neither o m = grind (arith, nat_tests)

    loads : (p o m : ℕ) → max o (max p m) ≡ max p (max o m)
    loads p o m = grind (arith, nat_tests)

    stored : (o m : ℕ) → o ≤ 1 → max 1 (max 0 m) ≡ max 1 (max o m)
    stored o m h = grind (arith, nat_tests)

    go : (k : Kind) (p o m : ℕ) → o ≤ 1
        → max (if is_store_kind k then 1 else o) (max (if is_load_kind k then p else 0) m)
        ≡ max (if is_load_kind k then p else (if is_store_kind k then 1 else 0)) (max o m)
    go R p o m h = loads p o m
    go W p o m h = stored o m h
    go _ p o m h = neither o m

-- the same, one entry at a time
pub needed-first : (x : Entry) (back : List Entry) → needed (x ∷ back) ≡ max (asked x back) (needed back)
needed-first x back =
    needed-is (x ∷ back)
    ∙ ap (λ z. max (if is_load x then z else (if is_store x then 1 else 0)) (needs back)) (sym (passed-is x back))
    ∙ ap (λ z. max (asked x back) z) (sym (needed-is back))
