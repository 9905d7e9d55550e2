-- What one who looks at a bus finds there.
use Rattle.snoop_bus.proofs.Vocabulary.{eqb_tells, nat_tests, arith, ◌≡◌, ◌≢◌, inl, inr, ℕ, ◌<◌, ◌≤◌, nat_eq, true, false, Bool, None, refl}
use Rattle.snoop_bus.proofs.Vocabulary.{Option, Some, sym, ap, ◌∙◌, List, [], length, option_map, map, slice_get, if◌then◌else◌, ◌%◌}
use Rattle.snoop_bus.proofs.Vocabulary.{slice_index_or, nat_lt, subst, ◌&&◌, unwrap_or, IfSome, State, S, O, cases_eq, cases_lt, is_dirty}
use Rattle.snoop_bus.proofs.Vocabulary.{Line, Words, line_in, line_of_words, state_of_copy, get_or_past, get_or_default, Sets, copy_at}
use Rattle.snoop_bus.proofs.Vocabulary.{cache_of, tags_of, tags_in, current_words, words_among, AllCoherent, program_words, or_invalid}
use Rattle.snoop_bus.proofs.Vocabulary.{slice_get-map, Contents, copy_of, contents, with_state, get_or-map, AtHome, option_or, Geometry}
use Rattle.snoop_bus.proofs.Vocabulary.{IsBus, HeldBus, counted_copies_of, with_counted_copy, IsHeld, Awaits, AskedOf, kept_by, kept_words}
use Rattle.snoop_bus.proofs.Vocabulary.{clean, IsD, ImD, SmD, Transient, Transaction, Stage, Load, Write, Locked, ranked_in, IsClean}
use Rattle.snoop_bus.proofs.Vocabulary.{with_words}
use Rattle.snoop_bus.specs.declared.looking.CachedLine.{CachedLine}
use Rattle.snoop_bus.proofs.AccessLemmas.{tag_here}
use Rattle.cache_set.proofs.Numbers.{differ, itself}
use Rattle.snoop_bus.proofs.CurrentWords.{seen_is, coherent_along}
use Rattle.snoop_bus.proofs.HeldLemmas.{counting-at}

neither : (copy : Line) (b : Bool) (o : Option Line) → (if b && false then Some copy else o) ≡ o
neither copy true o = refl
neither copy false o = refl

-- what the caches and memory have of a line is what is seen of it, where the bus doesn't keep it for its holder
other_line : (caches : List Sets) (memory : List Words) (core here line : ℕ) (copy : Line) → core < length caches → 0 < length (cache_of caches core) →
    AllCoherent (with_counted_copy core here copy caches) memory
    → line < length memory
    → line ≢ here
    → current_words caches memory line ≡ current_words (with_counted_copy core here copy caches) memory line
other_line caches memory core here line copy core_in some h within other =
    seen_is caches memory line (current_words (with_counted_copy core here copy caches) memory line)
    (coherent_along _ _ (λ i. copy_at (with_counted_copy core here copy caches) i line) (λ i. copy_at caches i line) same (h.each line within))
  where
    same : (i : ℕ) → copy_at caches i line ≡ copy_at (with_counted_copy core here copy caches) i line
    same i =
        let e : nat_eq line here ≡ false = differ line here other in
        let counts = rw e at (counting-at caches core here copy i line core_in some) in
        sym (counts ∙ neither copy (nat_eq i core) (copy_at caches i line))

-- the copy that counts as the holder's
kept_copy : (caches : List Sets) (core line : ℕ) (copy : Line)
    → core < length caches
    → 0 < length (cache_of caches core)
    → copy_at (with_counted_copy core line copy caches) core line ≡ Some copy
kept_copy caches core line copy core_in some = rw (itself core, itself line) at (counting-at caches core line copy core line core_in some)

-- what is seen of a line: what the bus keeps of it, else what a cache has, else what memory has
pub seen_words : (caches : List Sets) (memory : List Words) (held : Option HeldBus) (line : ℕ)
    → AllCoherent (counted_copies_of held caches) memory
    → IfSome held (IsHeld caches memory)
    → line < length memory →
    unwrap_or (option_or (kept_words held line) (words_among caches line)) (line_in memory line) ≡ current_words (counted_copies_of held caches) memory line
seen_words caches memory None line h a within = refl
seen_words caches memory (Some held) line h a within = by_transaction held.transaction refl
  where
    by_transaction : (x : Option Transaction) → held.transaction ≡ x →
        unwrap_or (option_or (kept_by held.line line x) (words_among caches line)) (line_in memory line)
        ≡ current_words (counted_copies_of (Some held) caches) memory line
    by_transaction None e = rw e refl
    by_transaction (Some x) e =
        let counts : AllCoherent (with_counted_copy held.holder.core.0 held.line x.copy caches) memory = rw e at h in
        rw e
        (elim (eqb_tells held.line line) [
          | inl p ↦ rw p.0 (
              let kept = kept_copy caches held.holder.core.0 held.line x.copy a.core_in a.some_set in
              let there : copy_at (with_counted_copy held.holder.core.0 held.line x.copy caches) held.holder.core.0 line
              ≡ Some x.copy =
              subst (λ (n : ℕ).
              copy_at (with_counted_copy held.holder.core.0 held.line x.copy caches) held.holder.core.0 n
              ≡ Some x.copy)
              p.1 kept in
              (counts.each line within).same held.holder.core.0 x.copy there)
          | inr p ↦ rw p.0 (other_line caches memory held.holder.core.0 held.line line x.copy a.core_in a.some_set counts within (λ e. p.1 (sym e)))
        ])

-- a copy that is found in a set is the core's copy of its line
pub at_home : (caches : List Sets) (core set line : ℕ) (copy : Line) → AtHome (cache_of caches core) → set < length (cache_of caches core) →
    copy_of (slice_index_or (cache_of caches core) set (contents [] 1)) line ≡ Some copy → copy_at caches core line ≡ Some copy
at_home caches core set line copy home within found = elim (cases_eq (line % length (cache_of caches core)) set) [
  | inl p ↦ rw p found
  | inr p ↦ absurd (let none = home set line within p in let z : ⊥ = cc in z)
]

in_memory : (caches : List Sets) (memory : List Words) (core line : ℕ) (copy : Line)
    → AllCoherent caches memory
    → copy_at caches core line ≡ Some copy
    → line < length memory
in_memory caches memory core line copy h found = elim (cases_lt line (length memory)) [
  | inl p ↦ p
  | inr p ↦ absurd (let none = h.within line core p in let z : ⊥ = cc in z)
]

-- the holder's own copy of a line that it asked for has the words that the bus keeps
asked_words : (t : Transient) (kept copy : Line) (own : Option Line) → AskedOf t kept own → own ≡ Some copy → copy.words ≡ kept.words
asked_words IsD kept copy own asked found = absurd (let z : ⊥ = cc in z)
asked_words ImD kept copy own asked found = absurd (let none = asked.0 in let z : ⊥ = cc in z)
asked_words SmD kept copy own asked found = elim asked.0 [
  | inl e ↦ let is : copy ≡ with_state S kept = cc in ap (λ (c : Line). c.words) is
  | inr e ↦ let is : copy ≡ with_state O kept = cc in ap (λ (c : Line). c.words) is
]

own_words : (stage : Stage) (x : Transaction) (copy : Line) (own : Option Line) → Awaits stage (Some x) own → own ≡ Some copy → copy.words ≡ x.copy.words
own_words Load x copy own awaits found = absurd (let none = awaits.1 in let z : ⊥ = cc in z)
own_words Write x copy own awaits found = asked_words x.transient x.copy copy own awaits.1 found
own_words Locked x copy own awaits found = absurd awaits

-- it has the words that are seen of its line, also where its core waits for an upgrade
pub copy_words : (caches : List Sets) (memory : List Words) (held : Option HeldBus) (core line : ℕ) (copy : Line)
    → AllCoherent (counted_copies_of held caches) memory
    → IfSome held (IsHeld caches memory) →
    copy_at caches core line ≡ Some copy → (line < length memory) × (copy.words ≡ current_words (counted_copies_of held caches) memory line)
copy_words caches memory None core line copy h a found =
    let within = in_memory caches memory core line copy h found in
    (within, (h.each line within).same core copy found)
copy_words caches memory (Some held) core line copy h a found = by_transaction held.transaction refl
  where
    by_transaction : (x : Option Transaction)
        → held.transaction ≡ x
        → (line < length memory) × (copy.words ≡ current_words (counted_copies_of (Some held) caches) memory line)
    by_transaction None e =
        let real : AllCoherent caches memory = rw e at h in
        let within = in_memory caches memory core line copy real found in
        rw e (within, (real.each line within).same core copy found)
    by_transaction (Some x) e = rw e (elim (cases_eq core held.holder.core.0) [
      | inr p ↦ other (differ core held.holder.core.0 p)
      | inl p ↦ elim (cases_eq line held.line) [
        | inr q ↦ other_at (differ line held.line q)
        | inl q ↦ own p q
      ]
    ])
      where
        counts : AllCoherent (with_counted_copy held.holder.core.0 held.line x.copy caches) memory
        counts = rw e at h

        same : copy_at (with_counted_copy held.holder.core.0 held.line x.copy caches) core line ≡ Some copy
            → (line < length memory)
            × (copy.words ≡ current_words (with_counted_copy held.holder.core.0 held.line x.copy caches) memory line)
        same there =
            let within = in_memory (with_counted_copy held.holder.core.0 held.line x.copy caches) memory core line copy counts there in
            (within, (counts.each line within).same core copy there)

        other : nat_eq core held.holder.core.0 ≡ false
            → (line < length memory)
            × (copy.words ≡ current_words (with_counted_copy held.holder.core.0 held.line x.copy caches) memory line)
        other d = let there = rw d at (counting-at caches held.holder.core.0 held.line x.copy core line a.core_in a.some_set) in same (there ∙ found)

        other_at : nat_eq line held.line ≡ false
            → (line < length memory)
            × (copy.words ≡ current_words (with_counted_copy held.holder.core.0 held.line x.copy caches) memory line)
        other_at d =
            let there = rw d at (counting-at caches held.holder.core.0 held.line x.copy core line a.core_in a.some_set) in
            same (there ∙ neither x.copy (nat_eq core held.holder.core.0) (copy_at caches core line) ∙ found)

        own : core ≡ held.holder.core.0
            → line ≡ held.line
            → (line < length memory)
            × (copy.words ≡ current_words (with_counted_copy held.holder.core.0 held.line x.copy caches) memory line)
        own p q =
            let kept = kept_copy caches held.holder.core.0 held.line x.copy a.core_in a.some_set in
            let words = own_words held.holder.stage x copy (copy_at caches held.holder.core.0 held.line) (rw e at a.awaits) (rw (← p, ← q) found) in
            rw q (a.line_in, words ∙ (counts.each held.line a.line_in).same held.holder.core.0 x.copy kept)

-- so what is found in a set has the words that a program sees
pub found_words : (shape : Geometry) (locations : ℕ) (caches : List Sets) (memory : List Words) (held : Option HeldBus)
    (core set : ℕ) (r : Option (ℕ × Line)) (s : Contents) →
    IsBus shape locations caches memory held
    → AtHome (cache_of caches core)
    → set < length (cache_of caches core)
    → s ≡ slice_index_or (cache_of caches core) set (contents [] 1) →
    IfSome r (λ x. copy_of s x.0 ≡ Some x.1)
    → IfSome r (λ x. x.1.words ≡ line_of_words shape.words (program_words shape locations (counted_copies_of held caches) memory) x.0)
found_words shape locations caches memory held core set None s bus home within is found = tt
found_words shape locations caches memory held core set (Some x) s bus home within is found =
    let here = at_home caches core set x.0 x.1 home within (rw is at found) in
    let words = copy_words caches memory held core x.0 x.1 bus.coherent bus.awaited here in
    words.1 ∙ bus.lines x.0 words.0

-- the cache of a core, where it was found in the list of caches
pub cache_here : (caches : List Sets) (core : ℕ) (cache : Sets)
    → true ≡ nat_lt core (length caches)
    → cache ≡ slice_index_or caches core cache
    → cache ≡ cache_of caches core
cache_here caches core cache test is =
    let within : core < length caches = grind (arith, nat_tests) in
    is ∙ get_or_default caches core cache [] within

-- a line of the bus as it is handed out
abbrev pub as_cached : ℕ × Line → CachedLine
as_cached x = record { line = x.0; state = x.1.state; words = x.1.words }

-- the line of this rank, where the bus has found it with its copy
pub line_ranked : (words core set rank : ℕ) (seen : List ℕ) (caches : List Sets) (r : Option (ℕ × Line))
    → r ≡ slice_get (slice_index_or (cache_of caches core) set (contents [] 1)).copies rank
    → IfSome r (λ x. x.1.words ≡ line_of_words words seen x.0)
    → option_map as_cached r ≡ option_map (with_words words seen) (ranked_in (tags_of caches) core set rank)
line_ranked words core set rank seen caches r found same =
    rw (
      get_or-map (map tags_in) caches core [],
      get_or-map tags_in (cache_of caches core) set (contents [] 1),
      slice_get-map {B = ℕ × State} (λ (e : ℕ × Line). (e.0, e.1.state)) (slice_index_or (cache_of caches core) set (contents [] 1)).copies rank,
      ← found,
    )
    (with_seen r same)
  where
    with_seen : (r : Option (ℕ × Line))
        → IfSome r (λ x. x.1.words ≡ line_of_words words seen x.0)
        → option_map as_cached r
        ≡ option_map (with_words words seen) (option_map (λ (e : ℕ × Line). (e.0, e.1.state)) r)
    with_seen None same = refl
    with_seen (Some x) same = ap (λ ws. Some (record { line = x.0; state = x.1.state; words = ws })) same

-- where there is no such line, since the set has no more, or there is no such core, or no such set
pub none_ranked : (words core set rank : ℕ) (seen : List ℕ) (caches : List Sets)
    → slice_get (slice_index_or (cache_of caches core) set (contents [] 1)).copies rank ≡ None
    → None ≡ option_map (with_words words seen) (ranked_in (tags_of caches) core set rank)
none_ranked words core set rank seen caches none = line_ranked words core set rank seen caches None (sym none) tt

pub no_core : (caches : List Sets) (core set rank : ℕ)
    → length caches ≤ core
    → slice_get (slice_index_or (cache_of caches core) set (contents [] 1)).copies rank ≡ None
no_core caches core set rank past = ap (λ (sets : Sets). slice_get (slice_index_or sets set (contents [] 1)).copies rank) (get_or_past caches core [] past)

pub no_set : (caches : List Sets) (core set rank : ℕ)
    → length (cache_of caches core) ≤ set
    → slice_get (slice_index_or (cache_of caches core) set (contents [] 1)).copies rank ≡ None
no_set caches core set rank past = ap (λ (s : Contents). slice_get s.copies rank) (get_or_past (cache_of caches core) set (contents [] 1) past)

dirty_here : (o : Option Line) → is_dirty (or_invalid (option_map (λ (copy : Line). copy.state) o)) ≡ false → is_dirty (state_of_copy o) ≡ false
dirty_here None h = refl
dirty_here (Some copy) h = h

-- memory has the words of a line that no cache has in a dirty state, while nobody holds the bus
pub clean_words : (caches : List Sets) (memory : List Words) (line : ℕ) → AllCoherent caches memory → line < length memory → IsClean (tags_of caches) line →
    line_in memory line ≡ current_words caches memory line
clean_words caches memory line h within clean =
    (h.each line within).clean (λ i. dirty_here (copy_at caches i line) (let d = clean i in rw (tag_here caches i line) at d))
