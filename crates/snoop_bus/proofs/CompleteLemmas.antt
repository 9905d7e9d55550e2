-- What a completion answers and leaves: the copy that the bus kept is the core's own, and another may have left.
use Rattle.snoop_bus.proofs.Vocabulary.{cases_eq, arith, ◌≡◌, ◌≢◌, ◌⊎◌, inl, inr, ℕ, ◌<◌, ◌≤◌, cond, true, false, nat_eq, Option, Some}
use Rattle.snoop_bus.proofs.Vocabulary.{None, IfSome, List, length, map, refl, sym, ap, subst, ◌∙◌, slice_set, if◌then◌else◌}
use Rattle.snoop_bus.proofs.Vocabulary.{WritesBackDirty, Table, I, Line, Victim, after_fill, Words, line_in, Coherent, Sets, copy_in}
use Rattle.snoop_bus.proofs.Vocabulary.{copy_at, cache_of, current_words, AllCoherent, KeepsWords, written_back, with_counted_copy}
use Rattle.cache_set.proofs.Numbers.{differ, itself, inside}
use Rattle.snoop_bus.proofs.Coherence.{drop-coherent}
use Rattle.snoop_bus.proofs.CurrentWords.{copy_at-set, seen_is, coherent_along, all_coherent}
use Rattle.snoop_bus.proofs.UseLemmas.{ways-set_cache}
use Rattle.snoop_bus.proofs.MemoryLemmas.{left_after, length-written_back, written_back-other, written_back-here}
use Rattle.snoop_bus.proofs.HeldLemmas.{counting-at, ways-counting}

module _ (t : Table) (law : WritesBackDirty t.evicts_dirty) (d0 c2 : List Sets) (m0 m2 : List Words) (core : ℕ) (v : Option Victim) where
  -- a copy left a core's cache, and memory got it if it was dirty
  pub record Left : Type 0 where
    pub coherent : AllCoherent d0 m0
    pub was_here : IfSome v (λ y. copy_at d0 core y.line ≡ Some y.content)
    pub own : (k : ℕ) → copy_at c2 core k ≡ left_after v k (copy_at d0 core k)
    pub others : (i k : ℕ) → i ≢ core → copy_at c2 i k ≡ copy_at d0 i k
    pub memory : m2 ≡ written_back t v m0

  module _ (h : Left) where
    had : (y : Victim) → v ≡ Some y → copy_at d0 core y.line ≡ Some y.content
    had y e =
        let f : IfSome (Some y) (λ z. copy_at d0 core z.line ≡ Some z.content) =
        subst (λ (o : Option Victim). IfSome o (λ z. copy_at d0 core z.line ≡ Some z.content)) e h.was_here in
        f

    below : (y : Victim) → v ≡ Some y → y.line < length m0
    below y e = elim (inside y.line (length m0)) [
      | inl p ↦ p
      | inr p ↦ let a : copy_at d0 core y.line ≡ Some y.content = had y e in let b : copy_at d0 core y.line ≡ None = h.coherent.within y.line core p in cc
    ]

    -- a line that did not leave is as it was
    stays : (k : ℕ)
        → k < length m0
        → ((o : Option Line) → left_after v k o ≡ o)
        → line_in m2 k ≡ line_in m0 k
        → Coherent (current_words d0 m0 k) (line_in m2 k) (λ i. copy_at c2 i k)
    stays k b e same = subst (λ (n : Words). Coherent (current_words d0 m0 k) n (λ i. copy_at c2 i k)) (sym same)
        (coherent_along (current_words d0 m0 k) (line_in m0 k) (λ i. copy_at d0 i k) (λ i. copy_at c2 i k) each (h.coherent.each k b))
      where
        each : (i : ℕ) → copy_at c2 i k ≡ copy_at d0 i k
        each i = elim (cases_eq i core) [ inl p ↦ rw p (h.own k ∙ e (copy_at d0 core k)) | inr p ↦ h.others i k p ]

    -- the line that left
    leaves_line : (y : Victim) → v ≡ Some y → Coherent (current_words d0 m0 y.line) (line_in m2 y.line) (λ i. copy_at c2 i y.line)
    leaves_line y e =
        let was : Coherent (current_words d0 m0 y.line) (line_in m0 y.line) (λ i. copy_at d0 i y.line) = h.coherent.each y.line (below y e) in
        let held : copy_at d0 core y.line ≡ Some y.content = had y e in
        let to = written_back-here t law y m0 (below y e) in
        let memory : m2 ≡ written_back t (Some y) m0 = rw e at h.memory in
        drop-coherent (current_words d0 m0 y.line) (line_in m0 y.line) (line_in m2 y.line) core (λ i. copy_at d0 i y.line) (λ i. copy_at c2 i y.line) was
        (record { here = gone; others = λ i p. h.others i y.line p })
        (rw memory (elim to [ inl a ↦ inl (a ∙ was.same core y.content held) | inr a ↦ inr (a.0, rw held a.1) ]))
      where
        gone : copy_at c2 core y.line ≡ None
        gone = h.own y.line ∙ (let f : nat_eq y.line y.line ≡ true = itself y.line in rw (e, f) refl)

    each_line : (k : ℕ) → k < length m0 → Coherent (current_words d0 m0 k) (line_in m2 k) (λ i. copy_at c2 i k)
    each_line k b = by_victim v refl
      where
        by_victim : (o : Option Victim) → v ≡ o → Coherent (current_words d0 m0 k) (line_in m2 k) (λ i. copy_at c2 i k)
        by_victim None e = stays k b (λ o. rw e refl) (ap (λ (m : List Words). line_in m k) h.memory ∙ rw e refl)
        by_victim (Some y) e = elim (cases_eq k y.line) [
          | inl q ↦ rw q (leaves_line y e)
          | inr q ↦ stays k b (λ o. let f : nat_eq k y.line ≡ false = differ k y.line q in rw (e, f) refl)
              (ap (λ (m : List Words). line_in m k) h.memory ∙ rw e (written_back-other t y m0 k q))
        ]

    size : length m2 ≡ length m0
    size = ap length h.memory ∙ length-written_back t v m0

    pub left-coherent : AllCoherent c2 m2
    left-coherent = all_coherent c2 m2 (λ k. current_words d0 m0 k) (λ k b. each_line k (rw size at b)) (λ k i b. none k i (rw size at b))
      where
        gone : (o : Option Victim) (k : ℕ) → left_after o k None ≡ None
        gone None k = refl
        gone (Some y) k = let n : Option Line = None in elim (nat_eq k y.line) as (λ t. cond t n n ≡ n) [ true ↦ refl | false ↦ refl ]

        none : (k i : ℕ) → length m0 ≤ k → copy_at c2 i k ≡ None
        none k i b = elim (cases_eq i core) [
          | inl p ↦ rw p (h.own k ∙ rw (h.coherent.within k core b) (gone v k))
          | inr p ↦ h.others i k p ∙ h.coherent.within k i b
        ]

    pub left-seen : (k : ℕ) → k < length m0 → current_words c2 m2 k ≡ current_words d0 m0 k
    left-seen k b = seen_is c2 m2 k (current_words d0 m0 k) (each_line k b)

module _ (t : Table) (law : WritesBackDirty t.evicts_dirty) (c0 : List Sets) (m0 m2 : List Words) (core line : ℕ)
    (copy : Line) (v : Option Victim) (own : Sets) where
  -- the steps of a fill
  pub record Fill : Type 0 where
    pub coherent : AllCoherent (with_counted_copy core line copy c0) m0
    pub core_in : core < length c0
    pub some_set : 0 < length (cache_of c0 core)
    pub absent : copy_at c0 core line ≡ None
    pub own_ways : map (λ s. s.ways) own ≡ map (λ s. s.ways) (cache_of c0 core)
    pub filled : (k : ℕ) → copy_in own k ≡ after_fill line copy v k (copy_at c0 core k)
    pub was_here : IfSome v (λ y. copy_at c0 core y.line ≡ Some y.content)
    pub memory : m2 ≡ written_back t v m0

  module _ (h : Fill) where
    abbrev d0 : List Sets
    d0 = with_counted_copy core line copy c0

    own_new : (k : ℕ) → copy_at (slice_set c0 core own) core k ≡ copy_in own k
    own_new k = let e : nat_eq core core ≡ true = itself core in rw e at (copy_at-set c0 core own core k h.core_in)

    counts_own : (k : ℕ) → copy_at d0 core k ≡ (if nat_eq k line then Some copy else copy_at c0 core k)
    counts_own k = let e : nat_eq core core ≡ true = itself core in rw e at (counting-at c0 core line copy core k h.core_in h.some_set)

    not_line : (y : Victim) → v ≡ Some y → y.line ≢ line
    not_line y e d =
        let f : IfSome (Some y) (λ z. copy_at c0 core z.line ≡ Some z.content) =
        subst (λ (o : Option Victim). IfSome o (λ z. copy_at c0 core z.line ≡ Some z.content)) e h.was_here in
        let a : copy_at c0 core line ≡ Some y.content = rw d at f in let b : copy_at c0 core line ≡ None = h.absent in cc

    pub filled-left : Left t law d0 (slice_set c0 core own) m0 m2 core v
    filled-left = record {
      coherent = h.coherent;
      was_here = was v refl;
      own = λ k. own_new k ∙ h.filled k ∙ own_left v refl k;
      others = λ i k p. others i k p;
      memory = h.memory;
    }
      where
        was : (o : Option Victim) → v ≡ o → IfSome o (λ y. copy_at d0 core y.line ≡ Some y.content)
        was None e = tt
        was (Some y) e =
            let f : IfSome (Some y) (λ z. copy_at c0 core z.line ≡ Some z.content) =
            subst (λ (o : Option Victim). IfSome o (λ z. copy_at c0 core z.line ≡ Some z.content)) e h.was_here in
            let n : nat_eq y.line line ≡ false = differ y.line line (not_line y e) in
            rw n at (counts_own y.line) ∙ f

        own_left : (o : Option Victim) → v ≡ o → (k : ℕ) → after_fill line copy o k (copy_at c0 core k) ≡ left_after o k (copy_at d0 core k)
        own_left None e k = sym (counts_own k)
        own_left (Some y) e k = rw (counts_own k) (by_line (cases_eq k line))
          where
            by_line : (k ≡ line) ⊎ (k ≢ line)
                → (if nat_eq k line then Some copy else (if nat_eq k y.line then None else copy_at c0 core k))
                ≡ cond (nat_eq k y.line) None (if nat_eq k line then Some copy else copy_at c0 core k)
            by_line (inl p) =
                let a : nat_eq k line ≡ true = rw p (itself line) in
                let b : nat_eq k y.line ≡ false = differ k y.line (λ q. not_line y e (sym q ∙ p)) in rw (a, b) refl
            by_line (inr p) = let a : nat_eq k line ≡ false = differ k line p in rw a refl

        others : (i k : ℕ) → i ≢ core → copy_at (slice_set c0 core own) i k ≡ copy_at d0 i k
        others i k p =
            let e : nat_eq i core ≡ false = differ i core p in
            let a : copy_at (slice_set c0 core own) i k ≡ copy_at c0 i k = rw e at (copy_at-set c0 core own i k h.core_in) in
            let b : copy_at d0 i k ≡ copy_at c0 i k = rw e at (counting-at c0 core line copy i k h.core_in h.some_set) in
            a ∙ sym b

    pub fill-words : KeepsWords d0 (slice_set c0 core own) m0 m2
    fill-words = record {
      coherent = left-coherent t law d0 (slice_set c0 core own) m0 m2 core v filled-left;
      words = left-seen t law d0 (slice_set c0 core own) m0 m2 core v filled-left;
      ways = ways-set_cache c0 core own h.own_ways ∙ sym (ways-counting c0 core line copy);
    }

-- the copy that counts is valid
pub counted-valid : (c0 : List Sets) (m0 : List Words) (core line : ℕ) (copy : Line)
    → AllCoherent (with_counted_copy core line copy c0) m0
    → core < length c0
    → 0 < length (cache_of c0 core)
    → line < length m0
    → copy.state ≢ I
counted-valid c0 m0 core line copy h within some line_in =
    (h.each line line_in).valid core copy (rw (itself core, itself line) at (counting-at c0 core line copy core line within some))

-- what leaves is a line of memory
pub victim_within : (c0 : List Sets) (m0 : List Words) (core line : ℕ) (copy : Line) (v : Option Victim)
    → AllCoherent (with_counted_copy core line copy c0) m0
    → core < length c0
    → 0 < length (cache_of c0 core)
    → line < length m0 →
    IfSome v (λ y. copy_at c0 core y.line ≡ Some y.content) → IfSome v (λ y. y.line < length m0)
victim_within c0 m0 core line copy None h within some line_in was = tt
victim_within c0 m0 core line copy (Some y) h within some line_in was = elim (inside y.line (length m0)) [
  | inl p ↦ p
  | inr p ↦
      let d : y.line ≢ line = λ e. let z : line < length m0 = line_in in let q : length m0 ≤ line = rw e at p in absurd (omega arith) in
      let n : nat_eq y.line line ≡ false = differ y.line line d in
      let a : copy_at (with_counted_copy core line copy c0) core y.line ≡ copy_at c0 core y.line =
      rw (itself core, n) at (counting-at c0 core line copy core y.line within some) in
      let b : copy_at (with_counted_copy core line copy c0) core y.line ≡ None = h.within y.line core p in
      cc (a, b, was)
]
