-- Along coherence each locked addition reads what the one before it wrote. So the words add up, and in which order doesn't matter
-- to the last one.
use Rattle.relational_model.proofs.Vocabulary.{◌≡◌, ◌+◌, ℕ, zero, suc, true, List, [], ◌∷◌, ◌++◌, Option, Some, None, slice_get}
use Rattle.relational_model.proofs.Vocabulary.{slice_index, arith, refl, sym, ap, ◌∙◌, inl, inr, subst, length, filter, append_assoc}
use Rattle.relational_model.proofs.Vocabulary.{append-nil, Litmus, writes_to, Entry, IsIn, Candidate, Returns, events, IsAllowed, Once}
use Rattle.relational_model.proofs.Vocabulary.{last_word}
use Rattle.std.specs.Prelude.{◌%◌, ◌^◌}
use Rattle.std.proofs.Math.Nat.{mod-add-mod}
use Rattle.tso_terms.specs.Thread.{sum_of}
use Rattle.relational_model.proofs.Lists.{Cut, cut, in-case, in-first, in-later, in-append, in-left, in-right, in-filter}
use Rattle.relational_model.proofs.Sizes.{once-filter, length-middle}
use Rattle.relational_model.proofs.Events.{sound}
use Rattle.locked_laws.specs.Turns.{TakesItsTurn, IsLoadPart, LockedInstructionsTakeTurns}
use Rattle.locked_laws.specs.Sums.{IsAddedTo, word_after_adding, total_of, ReadsSumSoFar, WordsAddUp, ReadsAddUp}
use Rattle.locked_laws.proofs.Turns.{load-part-reads}
use Rattle.locked_laws.proofs.Chain.{Follows, at-length, ReadAt, read-at, last-place}

-- ---- sums of lists

swap-first : (a b d : ℕ) → a + (b + d) ≡ b + (a + d)
swap-first a b d = omega arith

total-middle : (addend : Entry → ℕ) (xs ys : List Entry) (e : Entry) → total_of addend (xs ++ (e ∷ ys)) ≡ addend e + total_of addend (xs ++ ys)
total-middle addend [] ys e = refl
total-middle addend (x ∷ xs) ys e =
    ap (λ n. addend x + n) (total-middle addend xs ys e) ∙ swap-first (addend x) (addend e) (total_of addend (xs ++ ys))

-- lists of the same members, each once, have one total
same-total : (addend : Entry → ℕ) (xs ys : List Entry) → Once xs → ((x : Entry) → IsIn xs x → IsIn ys x) → length ys ≡ length xs
    → total_of addend ys ≡ total_of addend xs
same-total addend [] [] o f n = refl
same-total addend [] (y ∷ ys) o f n = absurd (omega arith)
same-total addend (x ∷ xs) ys o f n = on (cut ys x (f x (in-first x xs x refl))) (λ zs g m. same-total addend xs zs o.1 g m)
  where
    on : Cut ys x → ((zs : List Entry) → ((y : Entry) → IsIn xs y → IsIn zs y) → length zs ≡ length xs → total_of addend zs ≡ total_of addend xs)
        → total_of addend ys ≡ total_of addend (x ∷ xs)
    on k rest =
        ap (total_of addend) k.is
        ∙ (total-middle addend k.front k.back x
        ∙ ap (λ m. addend x + m)
        (rest (k.front ++ k.back) inside
        (let a : length ys ≡ suc (length (k.front ++ k.back)) = ap length k.is ∙ length-middle k.front k.back x in
        let b : length ys ≡ suc (length xs) = n in omega arith)))
      where
        inside : (y : Entry) → IsIn xs y → IsIn (k.front ++ k.back) y
        inside y i = elim (in-append k.front (x ∷ k.back) y (subst (λ zs. IsIn zs y) k.is (f y (in-later x xs y i)))) [
          | inl a ↦ in-left k.front k.back y a
          | inr b ↦ elim (in-case x k.back y b) [ inl e ↦ absurd (o.0 (subst (IsIn xs) e i)) | inr b ↦ in-right k.front k.back y b ]
        ]

regroup : (word first rest : ℕ) → (word + first) + rest ≡ word + (first + rest)
regroup word first rest = omega arith

-- one addition or more: the word is the total, modulo 2^32
pub adding-is-total : (addend : Entry → ℕ) (w : Entry) (ws : List Entry) (word : ℕ)
    → word_after_adding addend (w ∷ ws) word ≡ (word + total_of addend (w ∷ ws)) % 2 ^ 32
adding-is-total addend w [] word = ap (λ n. n % 2 ^ 32) (let e : word + addend w ≡ word + (addend w + 0) = omega arith in e)
adding-is-total addend w (v ∷ vs) word =
    adding-is-total addend v vs (sum_of word (addend w))
    ∙ (mod-add-mod (word + addend w) (2 ^ 32) (total_of addend (v ∷ vs))
    ∙ ap (λ n. n % 2 ^ 32) (regroup word (addend w) (total_of addend (v ∷ vs))))

-- ---- along coherence

module _ (turns : LockedInstructionsTakeTurns) (t : Litmus) (c : Candidate) (a : IsAllowed t c) (loc : ℕ) (addend : Entry → ℕ)
    (added : IsAddedTo t c loc addend) where
  abbrev word : ℕ
  word = slice_index t.words loc

  -- the word that comes directly before this place of coherence
  data StandsBefore (n m : ℕ) : Type 0 where
    at_first : n ≡ 0 → word ≡ m → StandsBefore n m
    after : (i : ℕ) (v : Entry) → suc i ≡ n → slice_get (c.coherence loc) i ≡ Some v → v.value ≡ m → StandsBefore n m

  -- what is read at a place is the word before it
  reads-before : (r : Entry) (n m : ℕ) → IsLoadPart t c loc r → Follows (c.coherence loc) (c.source r) n → StandsBefore n m → r.value ≡ m
  reads-before r n m part follows before =
      go (c.source r) (a.candidate.reads r part.inside (load-part-reads r part.kind)) follows before
    where
      go : (o : Option Entry) → Returns t c r o → Follows (c.coherence loc) o n → StandsBefore n m → r.value ≡ m
      go None h f (at_first e k) = h ∙ (ap (slice_index t.words) part.location ∙ k)
      go None h f (after i v e p k) = let z : ⊥ = omega arith in absurd z
      go (Some w) h (i, (e, p)) (at_first d k) = let z : ⊥ = omega arith in absurd z
      go (Some w) h (i, (e, p)) (after j v d q k) =
          let same : i ≡ j = omega arith in
          let f : slice_get (c.coherence loc) j ≡ Some w = subst (λ l. slice_get (c.coherence loc) l ≡ Some w) same p in
          let g : w ≡ v = cc in
          h.2 ∙ (ap (λ (x : Entry). x.value) g ∙ k)

  write-adds : (n m : ℕ) (w : Entry) → slice_get (c.coherence loc) n ≡ Some w → StandsBefore n m → w.value ≡ sum_of m (addend w)
  write-adds n m w p before = go (read-at turns t c a loc n w added.locked p)
    where
      go : ReadAt turns t c a loc n w → w.value ≡ sum_of m (addend w)
      go r =
          added.adds r.reader w r.part ((sound t c a.candidate).coherent loc w (n, p)).0 r.pair
          ∙ ap (λ k. sum_of k (addend w)) (reads-before r.reader n m r.part r.follows before)

  along : (front mid back : List Entry) (m : ℕ) → c.coherence loc ≡ front ++ (mid ++ back) → StandsBefore (length front) m
      → StandsBefore (length front + length mid) (word_after_adding addend mid m)
  along front [] back m is before = subst (λ n. StandsBefore n m) (let e : length front ≡ length front + 0 = omega arith in e) before
  along front (w ∷ ws) back m is before =
      subst (λ n. StandsBefore n (word_after_adding addend ws (sum_of m (addend w)))) size
      (along (front ++ (w ∷ [])) ws back (sum_of m (addend w)) (is ∙ moved) next)
    where
      stands : slice_get (c.coherence loc) (length front) ≡ Some w
      stands = subst (λ xs. slice_get xs (length front) ≡ Some w) (sym is) (at-length front w (ws ++ back))

      longer : length (front ++ (w ∷ [])) ≡ suc (length front)
      longer = length-middle front [] w ∙ ap (λ xs. suc (length xs)) (append-nil front)

      size : length (front ++ (w ∷ [])) + length ws ≡ length front + suc (length ws)
      size = let e : length (front ++ (w ∷ [])) ≡ suc (length front) = longer in omega arith

      moved : front ++ (w ∷ (ws ++ back)) ≡ (front ++ (w ∷ [])) ++ (ws ++ back)
      moved = sym (append_assoc front (w ∷ []) (ws ++ back))

      next : StandsBefore (length (front ++ (w ∷ []))) (sum_of m (addend w))
      next = after (length front) w (sym longer) stands (write-adds (length front) m w stands before)

  so-far : (earlier back : List Entry) → c.coherence loc ≡ earlier ++ back → StandsBefore (length earlier) (word_after_adding addend earlier word)
  so-far earlier back is =
      subst (λ n. StandsBefore n (word_after_adding addend earlier word)) (let e : 0 + length earlier ≡ length earlier = omega arith in e)
      (along [] earlier back word is (at_first refl refl))

  reads : (r : Entry) → IsLoadPart t c loc r → ReadsSumSoFar t c loc addend r
  reads r part = go (turns t c r a part.inside part.kind)
    where
      go : (w : Entry) × TakesItsTurn t c r w → ReadsSumSoFar t c loc addend r
      go (w, f) = record {
        earlier = f.earlier;
        own = w;
        later = f.later;
        pair = f.pair;
        coherence = here;
        value =
            reads-before r (length f.earlier) (word_after_adding addend f.earlier word) part follows
            (so-far f.earlier (w ∷ f.later) here);
      }
        where
          here : c.coherence loc ≡ f.earlier ++ (w ∷ f.later)
          here = subst (λ l. c.coherence l ≡ f.earlier ++ (w ∷ f.later)) part.location f.coherence

          follows : Follows (c.coherence loc) (c.source r) (length f.earlier)
          follows = subst (λ xs. Follows xs (c.source r) (length f.earlier)) (sym here)
              (subst (λ s. Follows (f.earlier ++ (w ∷ f.later)) s (length f.earlier)) (sym f.source) (last-place f.earlier w f.later))

  -- the last word of a list is the value at its last place
  last-of : (xs : List Entry) (i : ℕ) (v : Entry) (first : ℕ) → slice_get xs i ≡ Some v → suc i ≡ length xs → last_word xs first ≡ v.value
  last-of [] i v first p e = let z : ⊥ = cc in absurd z
  last-of (x ∷ []) zero v first p e = let same : x ≡ v = cc in ap (λ (y : Entry). y.value) same
  last-of (x ∷ (y ∷ ys)) zero v first p e = let z : ⊥ = omega arith in absurd z
  last-of (x ∷ xs) (suc i) v first p e = last-of xs i v x.value p (let n : suc i ≡ length xs = omega arith in n)

  last : (n m : ℕ) → n ≡ length (c.coherence loc) → StandsBefore n m → last_word (c.coherence loc) word ≡ m
  last n m e (at_first f k) = go (c.coherence loc) (sym f ∙ e)
    where
      go : (xs : List Entry) → 0 ≡ length xs → last_word xs word ≡ m
      go [] q = k
      go (x ∷ xs) q = let z : ⊥ = omega arith in absurd z
  last n m e (after i v f p k) = last-of (c.coherence loc) i v word p (f ∙ e) ∙ k

  words : (w : Entry) → IsIn (events t c) w → writes_to loc w ≡ true
      → last_word (c.coherence loc) word ≡ (word + total_of addend (filter (writes_to loc) (events t c))) % 2 ^ 32
  words w i h =
      last (length (c.coherence loc)) (word_after_adding addend (c.coherence loc) word) refl
      (so-far (c.coherence loc) [] (sym (append-nil (c.coherence loc))))
      ∙ (closed (c.coherence loc) refl (a.candidate.writes loc w i h) ∙ ap (λ n. (word + n) % 2 ^ 32) total)
    where
      closed : (xs : List Entry) → c.coherence loc ≡ xs → IsIn (c.coherence loc) w
          → word_after_adding addend (c.coherence loc) word ≡ (word + total_of addend (c.coherence loc)) % 2 ^ 32
      closed [] e (j, p) = let q : slice_get [] j ≡ Some w = subst (λ ys. slice_get ys j ≡ Some w) e p in let z : ⊥ = cc in absurd z
      closed (x ∷ xs) e _ =
          subst (λ ys. word_after_adding addend ys word ≡ (word + total_of addend ys) % 2 ^ 32) (sym e) (adding-is-total addend x xs word)

      total : total_of addend (c.coherence loc) ≡ total_of addend (filter (writes_to loc) (events t c))
      total =
          same-total addend (filter (writes_to loc) (events t c)) (c.coherence loc)
          (once-filter (writes_to loc) (events t c) (sound t c a.candidate).once)
          (λ x j. let k = in-filter (writes_to loc) (events t c) x j in a.candidate.writes loc x k.0 k.1) (a.candidate.count loc)

pub words-add-up : LockedInstructionsTakeTurns → WordsAddUp
words-add-up turns t c loc addend w a added i h = words turns t c a loc addend added w i h

pub reads-add-up : LockedInstructionsTakeTurns → ReadsAddUp
reads-add-up turns t c loc addend r a added part = reads turns t c a loc addend added r part
