-- A call of a bus changes a line of memory only where no copy of it that counts is dirty then.
use Rattle.machine_core.proofs.Vocabulary.{◌≡◌, ◌≢◌, ◌∙◌, ℕ, zero, suc, true, false, List, ◌∷◌, length, take, Some, None, option_map}
use Rattle.machine_core.proofs.Vocabulary.{nat_eq, inl, inr, refl, sym, ap, subst, lt-or, is_dirty, Table, State, I, Snoop, Line, Victim}
use Rattle.machine_core.proofs.Vocabulary.{Words, line_in, state_of_copy, may_share, lookup, eq-eqb, tag_of, leaving, filled, TagSets}
use Rattle.machine_core.proofs.Vocabulary.{tags_at, tag_in, at_line, sets_of, is_held, requested, filled_by, Sets, copy_at, cache_of}
use Rattle.machine_core.proofs.Vocabulary.{set_at, tags_of, AllCoherent, written_back, flushed, sent_words, victim_at, tag_at, or_invalid}
use Rattle.machine_core.proofs.Vocabulary.{tag_at-copy, Bool, request_for, to_fill, asked_memory}
use Rattle.machine_core.proofs.Changed.{set-at, core-at}
use Rattle.cache_set.specs.Requests.{snoop_column}
use Rattle.cache_set.proofs.CacheTags.{tags_at-tags, sets_of-tags}
use Rattle.cache_set.proofs.TagLemmas.{victim_tag, leaving-tags}
use Rattle.machine_core.proofs.Victims.{AllNeat, own-kept, sets-leave, all-requested}
use Rattle.machine_core.proofs.Snooped.{requested-beside, own-alone}
use Rattle.machine_core.proofs.Unowned.{SettlesMemory, IsDirtyAt, never, not_absent, victim-unowned, victim-other, sent-unowned, back-stale}
use Rattle.machine_core.proofs.Unowned.{sent-stale, sender-of, state-of}

-- ---- copies that count are apart

abbrev pub AreApart : List Sets → Type 0
AreApart caches = (i j k : ℕ) → i ≢ j → may_share (state_of_copy (copy_at caches i k)) (state_of_copy (copy_at caches j k)) ≡ true

pub coherent-apart : (caches : List Sets) (memory : List Words) → AllCoherent caches memory → AreApart caches
coherent-apart caches memory h i j k n = elim (lt-or (length memory) k) [
  | inl l ↦ (h.each k l).apart i j n
  | inr past ↦ ap (λ o. may_share (state_of_copy o) (state_of_copy (copy_at caches j k))) (h.within k i past)
]

-- the same by the states in the caches
apart-from : (caches : List Sets) (i j k : ℕ) (s : State)
    → AreApart caches
    → i ≢ j
    → tag_at i k (tags_of caches) ≡ Some s
    → may_share s (or_invalid (tag_at j k (tags_of caches))) ≡ true
apart-from caches i j k s h n there =
    subst (λ x. may_share x (or_invalid (tag_at j k (tags_of caches))) ≡ true) (sym (state-of caches i k) ∙ ap or_invalid there)
    (subst (λ x. may_share (state_of_copy (copy_at caches i k)) x ≡ true) (sym (state-of caches j k)) (h i j k n))

-- ---- a line comes in

-- what leaves, by the tags
leaves-by : (caches : List Sets) (core line : ℕ) (w : Victim)
    → victim_at caches core line ≡ Some w
    → leaving (tags_at (sets_of (tags_of caches) core) line) ≡ Some (w.line, w.content.state)
leaves-by caches core line w q =
    ap (λ (sets : TagSets). leaving (tags_at sets line)) (sets_of-tags caches core)
    ∙ (ap leaving (tags_at-tags (cache_of caches core) line) ∙ (leaving-tags (set_at (cache_of caches core) line) ∙ ap victim_tag q))

-- what leaves for a line that is filled in, and is written back, has no dirty copy then; by the lines and states before the
-- completion, among which the core's own are those of the caches
pub fill-stale : (t : Table) (lines core line : ℕ) (state : State) (caches : List Sets) (tags : List TagSets)
    (memory : List Words) (k i : ℕ)
    → SettlesMemory t
    → AllNeat lines tags
    → sets_of tags core ≡ sets_of (tags_of caches) core
    → ((other v : ℕ) (s : State) → v ≢ line → core ≢ other → tag_at core v tags ≡ Some s → may_share s (or_invalid (tag_at other v tags)) ≡ true)
    → tag_at core line tags ≡ None
    → IsDirtyAt i k (filled_by core line state tags)
    → line_in (written_back t (victim_at caches core line) memory) k ≡ line_in memory k
fill-stale t lines core line state caches tags memory k i h neat own alone none found =
    back-stale t (victim_at caches core line) memory k (λ w q dirty same. (
    let leaves = ap (λ sets. leaving (tags_at sets line)) own ∙ leaves-by caches core line w q in
    let apart = victim-other lines core line tags (w.line, w.content.state) neat none leaves in
    let there = (sets-leave lines line I (sets_of tags core) (w.line, w.content.state) (neat core) none leaves).before in
    victim-unowned lines core line state tags (w.line, w.content.state) i neat
    (λ other n. alone other w.line w.content.state apart (λ e. n (sym e)) there) none leaves
    (sym (h.written w.content.state) ∙ dirty)
    (subst (λ n. IsDirtyAt i n (filled_by core line state tags)) same found)))

-- the core's own copy is in the state in which it came in, if it is there
filled-own : (core line : ℕ) (state : State) (caches : List TagSets) → is_dirty state ≡ false → IsDirtyAt core line (filled_by core line state caches) → ⊥
filled-own core line state caches clean =
    core-at (λ sets. is_dirty (or_invalid (tag_in sets line)) ≡ true → ⊥) core core (at_line line (filled line state)) caches
    (λ q l.
    set-at (λ s. is_dirty (or_invalid (tag_of s line)) ≡ true → ⊥) line line (filled line state)
    (sets_of caches core) (λ q l. by_ways (tags_at (sets_of caches core) line).ways)
    (λ q past. not_absent None refl)
    (λ n. absurd (n refl))) (λ q past. not_absent None refl) (λ n. absurd (n refl))
  where
    by_ways : (ways : ℕ) → is_dirty (or_invalid (lookup (nat_eq line) (take ways ((line, state) ∷ (tags_at (sets_of caches core) line).tags)))) ≡ true → ⊥
    by_ways zero h = let z : ⊥ = cc in z
    by_ways (suc n) h = never _ h (rw (eq-eqb line line refl) clean)

-- ---- a load asks: another than the core's own copy isn't dirty where one was sent
pub ask-stale : (t : Table) (lines core line : ℕ) (caches : List Sets) (memory : List Words) (k i : ℕ)
    → SettlesMemory t
    → AllNeat lines (tags_of caches)
    → AreApart caches
    → (k ≡ line → (i ≢ core) × IsDirtyAt i line (requested t.on_get_s core line (tags_of caches)))
    → line_in (flushed line (sent_words t.on_get_s line caches) memory) k ≡ line_in memory k
ask-stale t lines core line caches memory k i h neat apart found =
    sent-stale line (sent_words t.on_get_s line caches) memory k (λ w q same. (
    let s = sender-of t.on_get_s line caches w q in
    let there : tag_at s.sender line (tags_of caches) ≡ Some s.copy.state =
    tag_at-copy caches s.sender line ∙ ap (option_map (λ (copy : Line). copy.state)) s.there in
    sent-unowned t lines core line (tags_of caches) s.sender s.copy.state i h (neat i)
    (λ n. apart-from caches s.sender i line s.copy.state apart (λ e. n (sym e)) there) there s.sent (found same).0 (found same).1))

-- ---- a miss that is made whole: it asks, and fills its line in
miss-apart : (t : Table) (on : State → Snoop) (core line : ℕ) (caches : List Sets) (other v : ℕ) (s : State)
    → AreApart caches
    → v ≢ line
    → core ≢ other
    → tag_at core v (requested on core line (tags_of caches)) ≡ Some s
    → may_share s (or_invalid (tag_at other v (requested on core line (tags_of caches)))) ≡ true
miss-apart t on core line caches other v s apart beside n there =
    subst (λ o. may_share s (or_invalid o) ≡ true) (sym (requested-beside on core line v (tags_of caches) other (λ e. n (sym e)) beside))
    (apart-from caches core other v s apart n (sym (ap (λ sets. tag_in sets v) (own-kept core _ (tags_of caches))) ∙ there))

pub miss-stale : (t : Table) (write : Bool) (lines core line : ℕ) (caches : List Sets) (memory : List Words) (k i : ℕ)
    → SettlesMemory t
    → AllNeat lines (tags_of caches)
    → AreApart caches
    → tag_at core line (tags_of caches) ≡ None
    → IsDirtyAt i k (filled_by core line (to_fill t (request_for write) line (tags_of caches))
    (requested (snoop_column t (request_for write)) core line (tags_of caches)))
    → line_in (written_back t (victim_at caches core line) (asked_memory t (request_for write) line caches memory)) k ≡ line_in memory k
miss-stale t write lines core line caches memory k i h neat apart none found =
    fill-stale t lines core line (to_fill t (request_for write) line tags) caches (after write) _ k i h
    (all-requested lines (on write) core line tags neat) (own-kept core _ tags)
    (λ other v s. miss-apart t (on write) core line caches other v s apart) (ap (λ sets. tag_in sets line) (own-kept core _ tags) ∙ none) found
    ∙ by_request write found
  where
    tags : List TagSets
    tags = tags_of caches

    on : Bool → State → Snoop
    on write = snoop_column t (request_for write)

    after : Bool → List TagSets
    after write = requested (on write) core line tags

    by_request : (write : Bool)
        → IsDirtyAt i k (filled_by core line (to_fill t (request_for write) line tags) (after write))
        → line_in (asked_memory t (request_for write) line caches memory) k ≡ line_in memory k
    by_request true found = refl
    by_request false found = ask-stale t lines core line caches memory k i h neat apart (λ same. (
        let here = subst (λ n. IsDirtyAt i n (filled_by core line (t.filled (is_held line tags)) (after false))) same found in
        let other : i ≢ core = λ e.
        filled-own core line (t.filled (is_held line tags)) (after false) (h.filled _)
        (subst (λ j. IsDirtyAt j line (filled_by core line (t.filled (is_held line tags)) (after false))) e here) in (
          other,
          subst (λ sets. is_dirty (or_invalid (tag_in sets line)) ≡ true)
              (own-alone core (at_line line (filled line (t.filled (is_held line tags)))) (after false) i other) here,
        )
        ))
