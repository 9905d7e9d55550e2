-- An ask keeps every line coherent, if it keeps its own: the others have seen the request, and the copy that the bus keeps
-- counts as its core's.
use Rattle.snoop_bus.proofs.Vocabulary.{cases_eq, arith, ◌≡◌, ◌≢◌, ℕ, ◌<◌, ◌≤◌, ◌&&◌, not, nat_eq, if◌then◌else◌, Option, Some, None, List}
use Rattle.snoop_bus.proofs.Vocabulary.{length, refl, sym, ap, subst, ◌∙◌, inl, inr, State, Snoop, Line, Words, line_in, Coherent, Sets}
use Rattle.snoop_bus.proofs.Vocabulary.{copy_at, cache_of, ways_of, current_words, AllCoherent, with_counted_copy, copy_left_by}
use Rattle.snoop_bus.proofs.Vocabulary.{copy_left_if, LeftByOthers, KeepsWords, cases_Bool}
use Rattle.cache_set.proofs.Numbers.{differ, itself}
use Rattle.snoop_bus.proofs.CurrentWords.{seen_is, coherent_along, all_coherent}
use Rattle.snoop_bus.proofs.NewLemmas.{same_cores}
use Rattle.snoop_bus.proofs.HeldLemmas.{counting-at, ways-counting, same_sets}

module _ (on : State → Snoop) (c0 c1 : List Sets) (m0 m1 : List Words) (core line : ℕ) (copy : Line) where
  -- the copies that count then
  abbrev pub asked : List Sets
  asked = with_counted_copy core line copy c1

  pub record Asked : Type 0 where
    pub coherent : AllCoherent c0 m0
    pub core_in : core < length c0
    pub some_set : 0 < length (cache_of c0 core)
    pub within : line < length m0
    pub left : LeftByOthers on core line c0 c1
    pub ways : ways_of c1 ≡ ways_of c0
    pub size : length m1 ≡ length m0
    pub elsewhere : (k : ℕ) → k ≢ line → line_in m1 k ≡ line_in m0 k

  module _ (h : Asked) where
    copies : (i k : ℕ)
        → copy_at asked i k ≡ (if nat_eq i core && nat_eq k line
        then Some copy
        else copy_left_if (not (nat_eq i core) && nat_eq k line) on (copy_at c0 i k))
    copies i k =
        counting-at c1 core line copy i k (rw (same_cores c0 c1 h.ways) h.core_in) (same_sets c0 c1 core h.ways h.some_set)
        ∙ ap (λ (o : Option Line). if nat_eq i core && nat_eq k line then Some copy else o) (h.left i k)

    -- the core's own copy of the line, and those of the others
    pub own_line : copy_at asked core line ≡ Some copy
    own_line = rw (itself core, itself line) at (copies core line)

    pub others_line : (i : ℕ) → i ≢ core → copy_at asked i line ≡ copy_left_by on (copy_at c0 i line)
    others_line i d = rw (differ i core d, itself line) at (copies i line)

    unchanged : (i k : ℕ) → k ≢ line → copy_at asked i k ≡ copy_at c0 i k
    unchanged i k d = rw (differ k line d) at (copies i k) ∙ elim (cases_Bool (nat_eq i core)) [ inl e ↦ rw e refl | inr e ↦ rw e refl ]

    module _ (at_line : Coherent (current_words c0 m0 line) (line_in m1 line) (λ i. copy_at asked i line)) where
      each_line : (k : ℕ) → k < length m0 → Coherent (current_words c0 m0 k) (line_in m1 k) (λ i. copy_at asked i k)
      each_line k b = elim (cases_eq k line) [
        | inl p ↦ rw p at_line
        | inr p ↦ subst (λ (n : Words). Coherent (current_words c0 m0 k) n (λ i. copy_at asked i k)) (sym (h.elsewhere k p))
            (coherent_along (current_words c0 m0 k) (line_in m0 k) (λ i. copy_at c0 i k) (λ i. copy_at asked i k) (λ i. unchanged i k p) (h.coherent.each k b))
      ]

      pub asked-keeps : KeepsWords c0 asked m0 m1
      asked-keeps = record {
        coherent = all_coherent asked m1 (λ k. current_words c0 m0 k) (λ k b. each_line k (rw h.size at b)) (λ k i b. none k i (rw h.size at b));
        words = λ k b. seen_is asked m1 k (current_words c0 m0 k) (each_line k b);
        ways = ways-counting c1 core line copy ∙ h.ways;
      }
        where
          none : (k i : ℕ) → length m0 ≤ k → copy_at asked i k ≡ None
          none k i b =
              let d : k ≢ line = λ e. let z : line < length m0 = h.within in let y : length m0 ≤ line = rw e at b in absurd (omega arith) in
              unchanged i k d ∙ h.coherent.within k i b
