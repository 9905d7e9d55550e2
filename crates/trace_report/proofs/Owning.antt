-- Memory's own words, one location after the other.
use Rattle.trace_report.proofs.Vocabulary.{◌≡◌, ◌∙◌, ℕ, ◌+◌, ◌<◌, ◌≤◌, ◌/◌, Bool, if◌then◌else◌, List, [], ◌∷◌, ◌++◌, length, take, drop}
use Rattle.trace_report.proofs.Vocabulary.{get_or, slice_get, slice_set, sym, ap, arith, append_assoc, append-nil, drop_all, drop_more}
use Rattle.trace_report.proofs.Vocabulary.{drop-set-lt, take_all, take_more_set, unwrap_or-slice_get, unwrap_or, Running, is_newer_in}
use Rattle.trace_report.proofs.Vocabulary.{own_word, own_words_from}

-- one more
pub one-word : (m : Running) (words cores loc : ℕ) (newer : Bool) (before whole : List ℕ) (s v : ℕ)
    → loc < length before → loc < length m.state.flat.memory → m.statistics.caches.shape.words ≡ words → length m.test.programs ≡ cores
    → newer ≡ is_newer_in m (loc / words) cores → s ≡ unwrap_or (slice_get m.state.flat.memory loc) 0
    → v ≡ (if newer then get_or before loc 0 else s)
    → take loc before ++ own_words_from m loc (drop loc before) (drop loc m.state.flat.memory) ≡ whole
    → take (loc + 1) (slice_set before loc v)
    ++ own_words_from m (loc + 1) (drop (loc + 1) (slice_set before loc v)) (drop (loc + 1) m.state.flat.memory)
    ≡ whole
one-word m words cores loc newer before whole s v room there words_are cores_are newer_is s_is v_is so_far =
    let seen = m.state.flat.memory in
    let rest = own_words_from m (loc + 1) (drop (loc + 1) before) (drop (loc + 1) seen) in
    let test : is_newer_in m (loc / m.statistics.caches.shape.words) (length m.test.programs) ≡ newer =
    ap (λ n. is_newer_in m (loc / n) (length m.test.programs)) words_are ∙ (ap (λ n. is_newer_in m (loc / words) n) cores_are ∙ sym newer_is) in
    let word : own_word m loc (get_or before loc 0) (get_or seen loc 0) ≡ v =
    ap (λ b. if b then get_or before loc 0 else get_or seen loc 0) test
    ∙ (ap (λ x. if newer then get_or before loc 0 else x) (sym (s_is ∙ unwrap_or-slice_get seen loc 0)) ∙ sym v_is) in
    let listed : own_words_from m loc (drop loc before) (drop loc seen) ≡ v ∷ rest =
    ap (λ b. own_words_from m loc b (drop loc seen)) (drop_more before loc 0 room)
    ∙ (ap (λ l. own_words_from m loc (get_or before loc 0 ∷ drop (loc + 1) before) l) (drop_more seen loc 0 there)
    ∙ ap (λ x. x ∷ rest) word) in
    let done : take (loc + 1) (slice_set before loc v) ≡ take loc before ++ v ∷ [] = take_more_set before loc v room in
    let left : drop (loc + 1) (slice_set before loc v) ≡ drop (loc + 1) before = drop-set-lt (loc + 1) before loc v (omega arith) in
    (λ i. done i ++ own_words_from m (loc + 1) (left i) (drop (loc + 1) seen))
    ∙ (append_assoc (take loc before) (v ∷ []) rest ∙ (sym (ap (λ l. take loc before ++ l) listed) ∙ so_far))

-- none are left
pub all-words : (m : Running) (loc : ℕ) (own whole : List ℕ) → length own ≤ loc
    → take loc own ++ own_words_from m loc (drop loc own) (drop loc m.state.flat.memory) ≡ whole → own ≡ whole
all-words m loc own whole past so_far =
    sym (append-nil own) ∙ (sym (λ i. take_all loc own past i ++ own_words_from m loc (drop_all loc own past i) (drop loc m.state.flat.memory)) ∙ so_far)
