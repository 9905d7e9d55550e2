-- What a candidate leaves is what its order leaves.
use Rattle.tso_terms.specs.Thread.{with_taken}
use Rattle.relational_model.proofs.Vocabulary.{◌≡◌, ℕ, ◌+◌, suc, List, [], ◌∷◌, ◌++◌, slice_index, slice_index_or, arith, refl, ap, ◌∙◌}
use Rattle.relational_model.proofs.Vocabulary.{subst, length, filter, action_of, entry, entries_by, registers_by, values_after, entries_of}
use Rattle.relational_model.proofs.Vocabulary.{registers_after, with_value, writes_to, last_value, read_values, made_by, made_from}
use Rattle.relational_model.proofs.Vocabulary.{word_after, words_from, registers_of, registers_from, Litmus, Instr, Action, Store, Load}
use Rattle.relational_model.proofs.Vocabulary.{Move, Fence, Lock, Entry, R, LR, Candidate, events_from, last_word, words_left_from}
use Rattle.relational_model.proofs.Vocabulary.{registers_left_from, IsCandidateOf, LeaveTheSame}

-- ---- memory

same-word : (ws : List Entry) (word : ℕ) → last_word ws word ≡ last_value ws word
same-word [] word = refl
same-word (w ∷ ws) word = same-word ws w.value

same-words : (loc : ℕ) (words : List ℕ) (order : List Entry) (c : Candidate) → ((l : ℕ) → c.coherence l ≡ filter (writes_to l) order)
    → words_left_from loc words c ≡ words_from loc words order
same-words loc [] order c h = refl
same-words loc (word ∷ words) order c h =
    let first : last_word (c.coherence loc) word ≡ word_after loc order word = ap (λ ws. last_word ws word) (h loc) ∙ same-word
    (filter (writes_to loc) order) word in
    let rest : words_left_from (loc + 1) words c ≡ words_from (loc + 1) words order = same-words (loc + 1) words order c h in
    ap (λ w. w ∷ words_left_from (loc + 1) words c) first ∙ ap (λ ws. word_after loc order word ∷ ws) rest

-- ---- registers

-- two lists put together, cut again where the first ends
pub record Parts (xs ys us vs : List Entry) : Type 0 where
  pub first : xs ≡ us
  pub second : ys ≡ vs

pub cancel : (xs us ys vs : List Entry) → length xs ≡ length us → xs ++ ys ≡ us ++ vs → Parts xs ys us vs
cancel [] [] ys vs n e = record { first = refl; second = e }
cancel [] (u ∷ us) ys vs n e = absurd (omega arith)
cancel (x ∷ xs) [] ys vs n e = absurd (omega arith)
cancel (x ∷ xs) (u ∷ us) ys vs n e =
    let head : x ≡ u = cc in
    let tail : xs ++ ys ≡ us ++ vs = cc in
    let p = cancel xs us ys vs (let m : suc (length xs) ≡ suc (length us) = n in omega arith) tail in
    record { first = ap (λ z. z ∷ xs) head ∙ ap (λ zs. u ∷ zs) p.first; second = p.second }

length-by : (core place : ℕ) (a : Action) (r s : List ℕ) (v w : ℕ)
    → length (entries_by core place a r v) ≡ length (entries_by core place a s w)
length-by core place (Store loc operand) r s v w = refl
length-by core place (Load reg loc) r s v w = refl
length-by core place (Move change) r s v w = refl
length-by core place Fence r s v w = refl
length-by core place (Lock loc reg update) r s v w = refl

length-append : (xs ys us vs : List Entry) → length xs ≡ length us → length ys ≡ length vs → length (xs ++ ys) ≡ length (us ++ vs)
length-append [] ys [] vs p q = q
length-append [] ys (u ∷ us) vs p q = absurd (omega arith)
length-append (x ∷ xs) ys [] vs p q = absurd (omega arith)
length-append (x ∷ xs) ys (u ∷ us) vs p q =
    ap suc (length-append xs ys us vs (let m : suc (length xs) ≡ suc (length us) = p in omega arith) q)

-- how many entries a program makes doesn't hang on what its reads return
pub length-of : (core place : ℕ) (p : List Instr) (r s values others : List ℕ)
    → length (entries_of core place p r values) ≡ length (entries_of core place p s others)
length-of core place [] r s values others = refl
length-of core place (i ∷ p) r s values others =
    length-append (entries_by core place (action_of i) r (slice_index values 0)) _
    (entries_by core place (action_of i) s (slice_index others 0)) _
    (length-by core place (action_of i) r s (slice_index values 0) (slice_index others 0))
    (length-of core (place + 1) p (registers_by (action_of i) r (slice_index values 0))
    (registers_by (action_of i) s (slice_index others 0))
    (values_after (action_of i) values) (values_after (action_of i) others))

value-of : (e f : Entry) (es fs : List Entry) → e ∷ es ≡ f ∷ fs → e.value ≡ f.value
value-of e f es fs h = let same : e ≡ f = cc in ap (λ (z : Entry). z.value) same

-- an action that makes the same entries leaves the same registers
registers-same : (core place : ℕ) (a : Action) (r : List ℕ) (v w : ℕ) → entries_by core place a r v ≡ entries_by core place a r w
    → registers_by a r v ≡ registers_by a r w
registers-same core place (Store loc operand) r v w h = refl
registers-same core place (Load reg loc) r v w h =
    ap (λ z. with_value r reg z) (value-of (entry core place R loc v) (entry core place R loc w) [] [] h)
registers-same core place (Move change) r v w h = refl
registers-same core place Fence r v w h = refl
registers-same core place (Lock loc reg update) r v w h =
    ap (λ z. with_taken r reg z) (value-of (entry core place LR loc v) (entry core place LR loc w) _ _ h)

-- and so does a program
after-same : (core place : ℕ) (p : List Instr) (r values others : List ℕ)
    → entries_of core place p r values ≡ entries_of core place p r others
    → registers_after p r values ≡ registers_after p r others
after-same core place [] r values others h = refl
after-same core place (i ∷ p) r values others h =
    let a : Action = action_of i in
    let v : ℕ = slice_index values 0 in
    let w : ℕ = slice_index others 0 in
    let k = cancel (entries_by core place (action_of i) r v) (entries_by core place (action_of i) r w) _ _
    (length-by core place (action_of i) r r v w) h in
    let same : registers_by (action_of i) r v ≡ registers_by (action_of i) r w = registers-same core place (action_of i) r v w k.first in
    let rest : entries_of core (place + 1) p (registers_by (action_of i) r w) (values_after (action_of i) values) ≡ entries_of core
    (place + 1) p (registers_by (action_of i) r w) (values_after (action_of i) others) =
    subst (λ s. entries_of core (place + 1) p s (values_after (action_of i) values) ≡ entries_of core (place + 1) p
    (registers_by (action_of i) r w) (values_after (action_of i) others)) same k.second in
    ap (λ s. registers_after p s (values_after (action_of i) values)) same
    ∙ after-same core (place + 1) p (registers_by (action_of i) r w) (values_after (action_of i) values)
    (values_after (action_of i) others) rest

same-registers : (core : ℕ) (ps : List (List Instr)) (registers reads : List (List ℕ)) (order : List Entry)
    → events_from core ps registers reads ≡ made_from core ps registers order
    → registers_left_from core ps registers reads ≡ registers_from core ps registers order
same-registers core [] registers reads order h = refl
same-registers core (p ∷ ps) registers reads order h =
    let r : List ℕ = slice_index_or registers core [] in
    let values : List ℕ = slice_index_or reads core [] in
    let k = cancel (entries_of core 0 p r values) (made_by core p r order) (events_from (core + 1) ps registers reads)
    (made_from (core + 1) ps registers order)
    (length-of core 0 p r r values (read_values core 0 p order)) h in
    ap (λ x. x ∷ registers_left_from (core + 1) ps registers reads) (after-same core 0 p r values (read_values core 0 p order) k.first)
    ∙ ap (λ xs. registers_of core p r order ∷ xs) (same-registers (core + 1) ps registers reads order k.second)

pub leave-the-same : (t : Litmus) (order : List Entry) (c : Candidate) → IsCandidateOf t order c → LeaveTheSame t order c
leave-the-same t order c h = record {
  memory = same-words 0 t.words order c h.coherence;
  registers = same-registers 0 t.programs t.registers c.reads order h.events;
}
