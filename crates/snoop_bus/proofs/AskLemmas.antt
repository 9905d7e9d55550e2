-- What an ask answers and leaves.
use Rattle.snoop_bus.proofs.Vocabulary.{get_or-set_same, get_or-set_other, length-set, list_any, ◌≡◌, ◌⊎◌, inl, inr, ℕ, ◌<◌, true, false}
use Rattle.snoop_bus.proofs.Vocabulary.{Option, Some, None, is_some, List, [], length, refl, sym, ap, subst, ◌∙◌, slice_set, if◌then◌else◌}
use Rattle.snoop_bus.proofs.Vocabulary.{is_dirty, GivesUp, Shares, CleansByMemory, Supplies, FillsExclusiveOnlyAlone, Table, State, I, M}
use Rattle.snoop_bus.proofs.Vocabulary.{Snoop, GetS, GetM, Transient, IsD, Core, Line, copy_with, Words, line_in, Coherent, state_of_copy}
use Rattle.snoop_bus.proofs.Vocabulary.{is_held, flusher_from, first_supplier, states_by_core, supplier_in, moved_in, requesting}
use Rattle.snoop_bus.proofs.Vocabulary.{most_cores, Supplier, Sets, copy_in, copy_at, cache_of, tags_of, ways_of, current_words}
use Rattle.snoop_bus.proofs.Vocabulary.{AllCoherent, flushed, sent_words, copy_left_by, LeftByOthers, Supplied, KeepsWords}
use Rattle.snoop_bus.proofs.Vocabulary.{with_counted_copy, asked_memory, transacting, cases_Bool}
use Rattle.snoop_bus.proofs.CacheTags.{is_held-copies}
use Rattle.snoop_bus.proofs.Coherence.{shared-coherent, fill-coherent, write-coherent}
use Rattle.snoop_bus.proofs.Asked.{Asked, own_line, others_line, asked-keeps}
use Rattle.snoop_bus.proofs.LoadLemmas.{SendsOrNot, sends, found_words, fill_shares}
use Rattle.snoop_bus.proofs.WriteLemmas.{gives_up}

-- nothing is sent by no copy
quiet_none : (on : State → Snoop)
    → CleansByMemory on
    → (o : Option Line) → ((copy : Line) → o ≡ Some copy → (on copy.state).to_memory ≡ false)
    → (on (state_of_copy o)).to_memory ≡ false
quiet_none on law (Some copy) h = h copy refl
quiet_none on law None h = elim (cases_Bool (on I).to_memory) [ inl e ↦ let no : is_dirty I ≡ true = law.1 I e in cc | inr e ↦ e ]

module _ (t : Table) (fills : FillsExclusiveOnlyAlone t.filled) (shares : Shares t.on_get_s)
    (cleans : CleansByMemory t.on_get_s) (supplies : Supplies t.on_get_s)
    (c0 c1 : List Sets) (m0 m1 : List Words) (core line : ℕ) (w : Words) (x : State) (f : Option Core) (s : Supplier) (states : List (Option State)) where
  -- the steps of an ask for a load
  pub record LoadAsk : Type 0 where
    pub coherent : AllCoherent c0 m0
    pub core_in : core < length c0
    pub some_set : 0 < length (cache_of c0 core)
    pub within : line < length m0
    pub absent : copy_at c0 core line ≡ None
    pub words : Supplied t.on_get_s c0 line (line_in m0 line) w
    pub state : x ≡ t.filled (list_any (λ sets. is_some (copy_in sets line)) c0)
    pub left : LeftByOthers t.on_get_s core line c0 c1
    pub ways : ways_of c1 ≡ ways_of c0
    pub flusher : f ≡ flusher_from 0 t.on_get_s line (tags_of c0)
    pub supplier : s ≡ supplier_in (first_supplier 0 t.on_get_s line (tags_of c0))
    pub told : states ≡ states_by_core most_cores line (tags_of c0)
    pub memory : m1 ≡ (if is_some f then slice_set m0 line w else m0)

  module _ (h : LoadAsk) where
    words_are : w ≡ current_words c0 m0 line
    words_are = found_words t.on_get_s supplies c0 line (line_in m0 line) w (current_words c0 m0 line) h.words (h.coherent.each line h.within)

    state_is : x ≡ t.filled (is_held line (tags_of c0))
    state_is = h.state ∙ ap t.filled (is_held-copies line c0)

    load_asked : Asked t.on_get_s c0 c1 m0 m1 core line (copy_with x w)
    load_asked = record {
      coherent = h.coherent;
      core_in = h.core_in;
      some_set = h.some_set;
      within = h.within;
      left = h.left;
      ways = h.ways;
      size = ap length h.memory ∙ elim (cases_Bool (is_some f)) [ inl e ↦ rw e (length-set m0 line w) | inr e ↦ rw e refl ];
      elsewhere = λ k d.
          ap (λ (m : List Words). line_in m k) h.memory
          ∙ elim (cases_Bool (is_some f)) [ inl e ↦ rw e (get_or-set_other m0 line k w [] d) | inr e ↦ rw e refl ];
    }

    was : Coherent w (line_in m0 line) (λ i. copy_at c0 i line)
    was = subst (λ (u : Words). Coherent u (line_in m0 line) (λ i. copy_at c0 i line)) (sym words_are) (h.coherent.each line h.within)

    -- the line has the words in memory then, or no copy was sent there
    flusher : (o : Option Core) → SendsOrNot t.on_get_s line c0 o → f ≡ o →
        (m1 ≡ flushed line (sent_words t.on_get_s line c0) m0)
        × ((line_in m1 line ≡ w)
        ⊎ ((line_in m1 line ≡ line_in m0 line)
        × ((i : ℕ) → (t.on_get_s (state_of_copy (copy_at c0 i line))).to_memory ≡ false)))
    flusher o (inl p) e =
        let quiet : m1 ≡ m0 = rw (e, p.0) at h.memory in
        (rw p.1 quiet, inr (ap (λ (m : List Words). line_in m line) quiet, λ i. quiet_none t.on_get_s cleans (copy_at c0 i line) (p.2 i)))
    flusher o (inr p) e =
        let copied : p.1.words ≡ w = was.same p.0 p.1 p.2 in
        let sent : m1 ≡ slice_set m0 line w = rw (e, p.4) at h.memory in
        (rw (p.3, copied) sent, inl (ap (λ (m : List Words). line_in m line) sent ∙ get_or-set_same m0 line w [] h.within))

    flushing : (m1 ≡ flushed line (sent_words t.on_get_s line c0) m0)
        × ((line_in m1 line ≡ w)
        ⊎ ((line_in m1 line ≡ line_in m0 line)
        × ((i : ℕ) → (t.on_get_s (state_of_copy (copy_at c0 i line))).to_memory ≡ false)))
    flushing = flusher (flusher_from 0 t.on_get_s line (tags_of c0)) (sends t.on_get_s line 0 c0) h.flusher

    pub load_ask-transaction : record {
      transient = IsD;
      copy = copy_with x w;
      request = record { request = GetS; line = line; supplier = Some s; flushed = f; states = states };
    }
        ≡ transacting t GetS line (current_words c0 m0 line) (tags_of c0) IsD
    unfolding transacting requesting
    load_ask-transaction = rw (h.flusher, words_are, state_is, h.supplier, h.told) refl

    pub load_ask-memory : m1 ≡ asked_memory t GetS line c0 m0
    load_ask-memory = flushing.0

    pub load_ask-words : KeepsWords c0 (with_counted_copy core line (copy_with x w) c1) m0 m1
    load_ask-words =
        let may = fill_shares t.filled fills t.on_get_s shares c0 line x state_is in
        let shared : Coherent w (line_in m1 line) (λ i. copy_left_by t.on_get_s (copy_at c0 i line)) =
        shared-coherent t.on_get_s shares cleans w (line_in m0 line) (line_in m1 line) (λ i. copy_at c0 i line) was flushing.1 in
        let new = with_counted_copy core line (copy_with x w) c1 in
        asked-keeps t.on_get_s c0 c1 m0 m1 core line (copy_with x w) load_asked
        (subst (λ (u : Words). Coherent u (line_in m1 line) (λ i. copy_at new i line)) words_are
        (fill-coherent w (line_in m1 line) core x (λ i. copy_left_by t.on_get_s (copy_at c0 i line))
        (λ i. copy_at new i line) shared (rw h.absent refl) may.0 (λ i d. may.1 i)
        (record {
          here = own_line t.on_get_s c0 c1 m0 m1 core line (copy_with x w) load_asked;
          others = others_line t.on_get_s c0 c1 m0 m1 core line (copy_with x w) load_asked;
        })))

-- An ask for a write access.

module _ (t : Table) (gives : GivesUp t.on_get_m) (c0 c1 : List Sets) (m : List Words) (core line : ℕ) (w : Words) where
  -- its steps: of an upgrade too, where the words are those of the core's own copy
  pub record WriteAsk : Type 0 where
    pub coherent : AllCoherent c0 m
    pub core_in : core < length c0
    pub some_set : 0 < length (cache_of c0 core)
    pub within : line < length m
    pub words : w ≡ current_words c0 m line
    pub left : LeftByOthers t.on_get_m core line c0 c1
    pub ways : ways_of c1 ≡ ways_of c0

  module _ (h : WriteAsk) where
    write_asked : Asked t.on_get_m c0 c1 m m core line (copy_with M w)
    write_asked = record {
      coherent = h.coherent;
      core_in = h.core_in;
      some_set = h.some_set;
      within = h.within;
      left = h.left;
      ways = h.ways;
      size = refl;
      elsewhere = λ k d. refl;
    }

    pub write_ask-words : KeepsWords c0 (with_counted_copy core line (copy_with M w) c1) m m
    write_ask-words =
        let new = with_counted_copy core line (copy_with M w) c1 in
        asked-keeps t.on_get_m c0 c1 m m core line (copy_with M w) write_asked
        (subst (λ (u : Words). Coherent u (line_in m line) (λ i. copy_at new i line)) h.words
        (write-coherent w (line_in m line) core (λ i. copy_at new i line) (own_line t.on_get_m c0 c1 m m core line (copy_with M w) write_asked)
        (λ i d. others_line t.on_get_m c0 c1 m m core line (copy_with M w) write_asked i d ∙ gives_up t.on_get_m gives (copy_at c0 i line))))

    pub write_ask-transaction : (x : Transient) (s : Option Supplier) (states : List (Option State))
        → s ≡ moved_in x (supplier_in (first_supplier 0 t.on_get_m line (tags_of c0)))
        → states ≡ states_by_core most_cores line (tags_of c0)
        → record {
          transient = x;
          copy = copy_with M w;
          request = record { request = GetM; line = line; supplier = s; flushed = None; states = states };
        }
        ≡ transacting t GetM line (current_words c0 m line) (tags_of c0) x
    unfolding transacting requesting
    write_ask-transaction x s states supplier told = rw (h.words, supplier, told) refl
