-- One more cache is looked at for a line that a core asks for.
use Rattle.cache_set.proofs.Vocabulary.{arith, ◌≡◌, ◌≢◌, ◌≤◌, ℕ, zero, suc, Bool, true, false, List, [], length, map, Option, Some, None}
use Rattle.cache_set.proofs.Vocabulary.{option_map, nat_eq, if◌then◌else◌, inl, inr, refl, sym, ap, ◌∙◌, ◌<◌, IsSome, ◌⊎◌, ◌+◌, add-one}
use Rattle.cache_set.proofs.Vocabulary.{slice_set, slice_index_or, replicate, drop, nat_lt, ◌||◌, is_some, unwrap_or, eqb_tells, nat_tests}
use Rattle.cache_set.proofs.Vocabulary.{Line, length-map, get_or-set_same, get_or-set_other, length-set, get_or_past, option_or, Sets}
use Rattle.cache_set.proofs.Vocabulary.{tags_in, copy_in, copy_at, tags_of, drop-cons, drop-length, list_any, Words, State, Snoop}
use Rattle.cache_set.proofs.Vocabulary.{first_from, flusher_from, first_supplier, sends_in, supplies_in, states_by_core, ◌∷◌, tag_in}
use Rattle.cache_set.proofs.Vocabulary.{supplied_of, Supplied, Core, most_cores}
use Rattle.cache_set.specs.declared.finding.Found.{Found}
use Rattle.cache_set.specs.inner.Finding.{nothing_found, noting}
use Rattle.cache_set.proofs.CacheTags.{first-at, tag_at-tags}

abbrev pub state_in : Option Line → Option State
state_in o = option_map (λ copy. copy.state) o

abbrev pub has : ℕ → Sets → Bool
has line sets = is_some (copy_in sets line)

abbrev no_state : Option State
no_state = None

-- what is found once the caches below this number were looked at
pub record FoundBelow (upto : ℕ) (on : State → Snoop) (line : ℕ) (caches : List Sets) (found : Found) : Type 0 where
  pub words : ((found.words ≡ None) × ((i : ℕ) → i < upto → supplied_of on (copy_at caches i line) ≡ None))
      ⊎ ((i : ℕ) × (IsSome found.words × (supplied_of on (copy_at caches i line) ≡ found.words)))
  pub shared : list_any (has line) caches ≡ (found.shared || list_any (has line) (drop upto caches))
  pub supplier : first_supplier 0 on line (tags_of caches) ≡ option_or found.supplier (first_supplier upto on line (drop upto (tags_of caches)))
  pub flushed : flusher_from 0 on line (tags_of caches) ≡ option_or found.flushed (flusher_from upto on line (drop upto (tags_of caches)))
  pub states : (i : ℕ) → slice_index_or found.states i None ≡ (if nat_lt i upto then state_in (copy_at caches i line) else None)
  pub room : length found.states ≡ most_cores

pub nothing-found : (on : State → Snoop) (line : ℕ) (caches : List Sets) → FoundBelow 0 on line caches nothing_found
nothing-found on line caches = record {
  words = inl (refl, λ i b. absurd (omega arith));
  shared = refl;
  supplier = refl;
  flushed = refl;
  states = λ i. let no : nat_lt i 0 ≡ false = grind (arith, nat_tests) in rw no (none i);
  room = refl;
}
  where
    in_none : (n i : ℕ) → slice_index_or (replicate n no_state) i None ≡ None
    in_none zero i = refl
    in_none (suc n) zero = refl
    in_none (suc n) (suc i) = in_none n i

    none : (i : ℕ) → slice_index_or nothing_found.states i None ≡ None
    none i = in_none most_cores i

-- a cache that has no copy is passed by
pub passed-by : (on : State → Snoop) (line n : ℕ) (caches : List Sets) (found : Found) → n < length caches → copy_at caches n line ≡ None →
    FoundBelow n on line caches found → FoundBelow (n + 1) on line caches found
passed-by on line n caches found b none h = record {
  words = elim h.words [ inl p ↦ inl (p.0, λ i c. below i c (p.1 i)) | inr p ↦ inr p ];
  shared = h.shared ∙ ap (λ (t : Bool). found.shared || t) rest;
  supplier = h.supplier ∙ ap (option_or found.supplier) (rw none at (first-at (supplies_in on) line n caches b));
  flushed = h.flushed ∙ ap (option_or found.flushed) (rw none at (first-at (sends_in on) line n caches b));
  states = λ i. h.states i ∙ by_number i (eqb_tells i n);
  room = h.room;
}
  where
    below : (i : ℕ) → i < n + 1 → (i < n → supplied_of on (copy_at caches i line) ≡ None) → supplied_of on (copy_at caches i line) ≡ None
    below i c f = elim (eqb_tells i n) [
      | inl e ↦ rw (e.1, none) refl
      | inr e ↦ f (grind (arith, nat_tests))
    ]

    rest : list_any (has line) (drop n caches) ≡ list_any (has line) (drop (n + 1) caches)
    rest = rw (drop-cons caches n [] b, none) (rw add-one refl)

    by_number : (i : ℕ) → ((nat_eq i n ≡ true) × (i ≡ n)) ⊎ ((nat_eq i n ≡ false) × (i ≢ n)) →
        (if nat_lt i n then state_in (copy_at caches i line) else None) ≡ (if nat_lt i (n + 1) then state_in (copy_at caches i line) else None)
    by_number i (inl e) =
        let no : nat_lt i n ≡ false = rw e.1 (grind (arith, nat_tests)) in
        let yes : nat_lt i (n + 1) ≡ true = rw e.1 (grind (arith, nat_tests)) in
        rw (no, yes) (rw (e.1, none) refl)
    by_number i (inr e) = let same : nat_lt i (n + 1) ≡ nat_lt i n = grind (arith, nat_tests) in rw same refl

-- a cache that has a copy is noted
pub noted : (on : State → Snoop) (line n : ℕ) (caches : List Sets) (found : Found) (copy : Line) → n < length caches → length caches ≤ most_cores →
    copy_at caches n line ≡ Some copy → FoundBelow n on line caches found → FoundBelow (n + 1) on line caches (noting n copy (on copy.state) found)
noted on line n caches found copy b few some h = record {
  words = elim h.words [ inl p ↦ first p.0 p.1 (on copy.state).supplies refl | inr p ↦ inr (p.0, already found.words refl p.0 p.1.0 p.1.1) ];
  shared = h.shared ∙ ap (λ (t : Bool). found.shared || t) here ∙ any found.shared;
  supplier =
      h.supplier
      ∙ ap (option_or found.supplier) (rw some at (first-at (supplies_in on) line n caches b))
      ∙ next (supplies_in on) found.supplier (on copy.state).supplies;
  flushed =
      h.flushed
      ∙ ap (option_or found.flushed) (rw some at (first-at (sends_in on) line n caches b))
      ∙ next (sends_in on) found.flushed (on copy.state).to_memory;
  states = λ i. by_number i (eqb_tells i n);
  room = length-set found.states n (Some copy.state) ∙ h.room;
}
  where
    first : found.words ≡ None → ((i : ℕ) → i < n → supplied_of on (copy_at caches i line) ≡ None) → (t : Bool) → (on copy.state).supplies ≡ t →
        (((noting n copy (on copy.state) found).words ≡ None) × ((i : ℕ) → i < n + 1 → supplied_of on (copy_at caches i line) ≡ None))
        ⊎ ((i : ℕ)
        × (IsSome (noting n copy (on copy.state) found).words
        × (supplied_of on (copy_at caches i line) ≡ (noting n copy (on copy.state) found).words)))
    first none f true e = inr (n, (rw (none, e) refl, rw (some, none, e) refl))
    first none f false e = inl (
      rw (none, e) refl,
      λ i c. elim (eqb_tells i n) [
        | inl d ↦ rw (d.1, some, e) refl
        | inr d ↦ f i (grind (arith, nat_tests))
      ],
    )

    already : (o : Option Words) → found.words ≡ o → (i : ℕ) → IsSome found.words → supplied_of on (copy_at caches i line) ≡ found.words →
        IsSome (noting n copy (on copy.state) found).words × (supplied_of on (copy_at caches i line) ≡ (noting n copy (on copy.state) found).words)
    already None e i is p = let no : false ≡ true = rw e at is in cc
    already (Some w) e i is p = (rw e refl, p ∙ rw e refl)

    here : list_any (has line) (drop n caches) ≡ true
    here = rw (drop-cons caches n [] b, some) refl

    any : (t : Bool) → (t || true) ≡ true
    any true = refl
    any false = refl

    next : (is : Option State → Bool) (o : Option Core) (t : Bool)
        → option_or o (if t then Some (record { 0 = n }) else first_from (n + 1) is line (drop (n + 1) (tags_of caches)))
        ≡ option_or (option_or o (if t then Some (record { 0 = n }) else None)) (first_from (n + 1) is line (drop (n + 1) (tags_of caches)))
    next is (Some c) t = refl
    next is None true = refl
    next is None false = refl

    by_number : (i : ℕ) → ((nat_eq i n ≡ true) × (i ≡ n)) ⊎ ((nat_eq i n ≡ false) × (i ≢ n)) →
        slice_index_or (slice_set found.states n (Some copy.state)) i None ≡ (if nat_lt i (n + 1) then state_in (copy_at caches i line) else None)
    by_number i (inl e) =
        let yes : nat_lt i (n + 1) ≡ true = rw e.1 (grind (arith, nat_tests)) in
        let within : n < length found.states = rw h.room (omega arith) in
        rw yes (rw (e.1, some) (get_or-set_same found.states n (Some copy.state) None within))
    by_number i (inr e) =
        let same : nat_lt i (n + 1) ≡ nat_lt i n = grind (arith, nat_tests) in
        rw same (get_or-set_other found.states n i (Some copy.state) None e.1 ∙ h.states i)

module _ (on : State → Snoop) (line : ℕ) (caches : List Sets) (found : Found) (h : FoundBelow (length caches) on line caches found) where
  pub words-found : (memory : Words) → Supplied on caches line memory (unwrap_or found.words memory)
  words-found memory = elim h.words [ inl p ↦ inl (rw p.0 refl, p.1) | inr p ↦ inr (p.0, by_words found.words refl p.0 p.1.0 p.1.1) ]
    where
      by_words : (o : Option Words) → found.words ≡ o → (i : ℕ) → IsSome found.words → supplied_of on (copy_at caches i line) ≡ found.words →
          supplied_of on (copy_at caches i line) ≡ Some (unwrap_or found.words memory)
      by_words None e i is p = let no : false ≡ true = rw e at is in cc
      by_words (Some w) e i is p = p ∙ rw e refl

  pub shared-found : found.shared ≡ list_any (has line) caches
  shared-found = sym (h.shared ∙ rw (drop-length caches) (nothing_more found.shared))
    where
      nothing_more : (t : Bool) → (t || false) ≡ t
      nothing_more true = refl
      nothing_more false = refl

  nobody : (o : Option Core) → option_or o None ≡ o
  nobody None = refl
  nobody (Some c) = refl

  no_more : drop (length caches) (tags_of caches) ≡ []
  no_more = rw (← (length-map caches (map tags_in))) (drop-length (tags_of caches))

  pub supplier-found : found.supplier ≡ first_supplier 0 on line (tags_of caches)
  supplier-found = sym (h.supplier ∙ rw no_more (nobody found.supplier))

  pub flushed-found : found.flushed ≡ flusher_from 0 on line (tags_of caches)
  flushed-found = sym (h.flushed ∙ rw no_more (nobody found.flushed))

  pub states-found : (i : ℕ) → slice_index_or found.states i None ≡ state_in (copy_at caches i line)
  states-found i = elim (within i) [
    | inl p ↦ rw p at (h.states i)
    | inr p ↦ let none : copy_at caches i line ≡ None = rw (get_or_past caches i [] p.1) refl in rw none (rw p.0 at (h.states i))
  ]
    where
      within : (i : ℕ) → (nat_lt i (length caches) ≡ true) ⊎ ((nat_lt i (length caches) ≡ false) × (length caches ≤ i))
      within i = grind (arith, nat_tests)

  pub told-found : found.states ≡ states_by_core most_cores line (tags_of caches)
  told-found = listed most_cores found.states caches h.room states-found
    where
      listed : (n : ℕ) (states : List (Option State)) (cs : List Sets)
          → length states ≡ n
          → ((i : ℕ) → slice_index_or states i None ≡ state_in (copy_at cs i line))
          → states ≡ states_by_core n line (tags_of cs)
      listed zero [] cs size each = refl
      listed zero (s ∷ ss) cs size each = absurd (omega (arith, size))
      listed (suc n) [] cs size each = absurd (omega (arith, size))
      listed (suc n) (s ∷ ss) [] size each =
          ap (λ (o : Option State). o ∷ ss) (each 0)
          ∙ ap (λ (os : List (Option State)). None ∷ os) (listed n ss [] (omega (arith, size)) (λ i. each (suc i)))
      listed (suc n) (s ∷ ss) (c ∷ cs) size each =
          ap (λ (o : Option State). o ∷ ss) (each 0 ∙ sym (tag_at-tags c line))
          ∙ ap (λ (os : List (Option State)). tag_in (map tags_in c) line ∷ os) (listed n ss cs (omega (arith, size)) (λ i. each (suc i)))
