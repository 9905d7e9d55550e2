-- What the load part of an addition finds is the initial word and the numbers of the additions before its own, in whatever order they
-- are added.
use Rattle.possible_reads.proofs.Vocabulary.{◌≡◌, ◌&&◌, ◌||◌, ◌+◌, ◌≤◌, ℕ, suc, Bool, true, false, if◌then◌else◌, List, [], ◌∷◌, ◌++◌, Some}
use Rattle.possible_reads.proofs.Vocabulary.{None, arith, refl, sym, ap, ◌∙◌, ◌⊎◌, inl, inr, subst, map, filter, list_any, length}
use Rattle.possible_reads.proofs.Vocabulary.{slice_index, Entry, LR, LW, Litmus, entry, sum_of, IsIn, in-case, in-first, in-later, in-left}
use Rattle.possible_reads.proofs.Vocabulary.{in-right, in-append, in-filter, filter-in, bare, events_of, same_event, Stands, Candidate}
use Rattle.possible_reads.proofs.Vocabulary.{events, is_write, writes_to, same_kind, Sound, sound, and-both, or-either, equal-kinds}
use Rattle.possible_reads.proofs.Vocabulary.{location, IsAllowed, IsEarlier, IsBefore, is-false, never-itself, never-back, stand-once}
use Rattle.std.specs.Prelude.{◌%◌, ◌^◌}
use Rattle.std.proofs.Math.Nat.{mod-add-mod}
use Rattle.relational_model.specs.inner.Rows.{Once}
use Rattle.relational_model.proofs.KindFacts.{writes}
use Rattle.relational_model.proofs.Lists.{Cut, cut}
use Rattle.relational_model.proofs.Sizes.{once-filter, length-middle, no-more}
use Rattle.relational_model.proofs.Sources.{StandOnce, front-earlier, in-front}
use Rattle.locked_laws.specs.Sums.{word_after_adding, ReadsSumSoFar, ReadsAddUp}
use Rattle.refutation_laws.proofs.Tests.{Holds, any-holds, any-in}
use Rattle.refutation_laws.proofs.Standing.{of-event, same-bare, one-entry}
use Rattle.refutation_laws.proofs.Soundness.{bare-same}
use Rattle.refutation_laws.proofs.Cycles.{carried-one}
use Rattle.possible_reads.specs.Facts.{Fact}
use Rattle.possible_reads.specs.Possible.{Values, Reading, combined_values, either_of, comes_before, addend_of, is_counter, store_part, added, added_up, counts}
use Rattle.possible_reads.specs.Laws.{IsPossible}
use Rattle.basic_laws.specs.Types.{Add}
use Rattle.possible_reads.proofs.Values.{itself-possible, combined-possible, either-first, either-second}
use Rattle.possible_reads.proofs.Coherence.{stands-in}
use Rattle.possible_reads.proofs.Additions.{adds, is-added-to, writes-bare}

-- ---- sums in another order

swap-two : (word a b : ℕ) → sum_of (sum_of word a) b ≡ sum_of (sum_of word b) a
swap-two word a b =
    mod-add-mod (word + a) (2 ^ 32) b
    ∙ (ap (λ n. n % 2 ^ 32) (let e : (word + a) + b ≡ (word + b) + a = omega arith in e) ∙ sym (mod-add-mod (word + b) (2 ^ 32) a))

word-middle : (addend : Entry → ℕ) (xs ys : List Entry) (e : Entry) (word : ℕ)
    → word_after_adding addend (xs ++ (e ∷ ys)) word ≡ word_after_adding addend (xs ++ ys) (sum_of word (addend e))
word-middle addend [] ys e word = refl
word-middle addend (x ∷ xs) ys e word =
    word-middle addend xs ys e (sum_of word (addend x)) ∙ ap (word_after_adding addend (xs ++ ys)) (swap-two word (addend x) (addend e))

-- lists of the same members, each once, add up to one word
same-word : (addend : Entry → ℕ) (xs ys : List Entry) → Once xs → ((x : Entry) → IsIn xs x → IsIn ys x) → length ys ≡ length xs
    → (word : ℕ) → word_after_adding addend ys word ≡ word_after_adding addend xs word
same-word addend [] [] o f n word = refl
same-word addend [] (y ∷ ys) o f n word = absurd (omega arith)
same-word addend (x ∷ xs) ys o f n word = on (cut ys x (f x (in-first x xs x refl))) (λ zs g m v. same-word addend xs zs o.1 g m v)
  where
    on : Cut ys x → ((zs : List Entry) → ((y : Entry) → IsIn xs y → IsIn zs y) → length zs ≡ length xs
        → (v : ℕ) → word_after_adding addend zs v ≡ word_after_adding addend xs v)
        → word_after_adding addend ys word ≡ word_after_adding addend (x ∷ xs) word
    on k rest =
        ap (λ zs. word_after_adding addend zs word) k.is
        ∙ (word-middle addend k.front k.back x word
        ∙ rest (k.front ++ k.back) inside
        (let a : length ys ≡ suc (length (k.front ++ k.back)) = ap length k.is ∙ length-middle k.front k.back x in
        let b : length ys ≡ suc (length xs) = n in omega arith) (sum_of word (addend x)))
      where
        inside : (y : Entry) → IsIn xs y → IsIn (k.front ++ k.back) y
        inside y i = elim (in-append k.front (x ∷ k.back) y (subst (λ zs. IsIn zs y) k.is (f y (in-later x xs y i)))) [
          | inl a ↦ in-left k.front k.back y a
          | inr b ↦ elim (in-case x k.back y b) [ inl e ↦ absurd (o.0 (subst (IsIn xs) e i)) | inr b ↦ in-right k.front k.back y b ]
        ]

once-front : (xs ys : List Entry) → Once (xs ++ ys) → Once xs
once-front [] ys o = tt
once-front (x ∷ xs) ys o = ((λ i. o.0 (in-left xs ys x i)), once-front xs ys o.1)

-- ---- what one load part finds

-- orders that are known are right
abbrev pub IsOrdered : Litmus → Candidate → List Fact → List Reading → Type 0
IsOrdered t c facts table =
    (w v x y : Entry) → Stands t c w x → Stands t c v y → is_write x ≡ true → comes_before t facts table w v ≡ true → IsBefore c x y

module _ (reads : ReadsAddUp) (t : Litmus) (c : Candidate) (a : IsAllowed t c) (facts : List Fact) (table : List Reading)
    (ordered : IsOrdered t c facts table) (read r : Entry) (at : Stands t c read r) (kind : r.kind ≡ LR) (q : is_counter t read.loc.0 ≡ true) where
  abbrev d : Sound t c
  d = sound t c a.candidate

  abbrev loc : ℕ
  loc = read.loc.0

  abbrev addend : Entry → ℕ
  addend = adds t c d loc q

  same-loc : r.loc.0 ≡ loc
  same-loc = ap (λ (z : Entry). z.loc.0) (sym at.same)

  sum : ReadsSumSoFar t c loc addend r
  sum = reads t c loc addend r a (is-added-to t c d loc q) (record { inside = at.inside; kind = kind; location = same-loc })

  own-in : IsIn (c.coherence loc) sum.own
  own-in =
      subst (λ xs. IsIn xs sum.own) (sym sum.coherence)
      (in-right sum.earlier (sum.own ∷ sum.later) sum.own (in-first sum.own sum.later sum.own refl))

  own-event : IsIn (events t c) sum.own × (writes_to loc sum.own ≡ true)
  own-event = d.coherent loc sum.own own-in

  own-at : Stands t c (store_part read) sum.own
  own-at = record { inside = own-event.0; same = bares }
    where
      bares : bare (store_part read) ≡ bare sum.own
      bares =
          ap (λ n. entry n read.place LW read.loc 0) (ap (λ (z : Entry). z.core.0) at.same ∙ sum.pair.core)
          ∙ (ap (λ n. entry sum.own.core.0 n LW read.loc 0) (ap (λ (z : Entry). z.place) at.same ∙ sum.pair.place)
          ∙ (ap (λ k. entry sum.own.core.0 sum.own.place k read.loc 0) (sym sum.pair.write)
          ∙ ap (λ n. entry sum.own.core.0 sum.own.place sum.own.kind (record { 0 = n }) 0) (sym (location loc sum.own own-event.1))))

  -- an addition before this one
  abbrev is_earlier : Entry → Bool
  is_earlier w = list_any (same_event w) sum.earlier

  earlier-first : (x : Entry) → IsIn sum.earlier x → IsEarlier (c.coherence loc) x sum.own
  earlier-first x i = front-earlier (c.coherence loc) sum.earlier sum.later sum.own x sum.coherence i

  once : StandOnce (c.coherence loc)
  once = stand-once (c.coherence loc) (d.single loc)

  not-earlier : (w y : Entry) → Stands t c w y → (same_event w (store_part read) || comes_before t facts table (store_part read) w) ≡ true
      → is_earlier w ≡ false
  not-earlier w y s h = is-false (is_earlier w) (λ e. clash e)
    where
      clash : is_earlier w ≡ true → ⊥
      clash e = go (or-either (same_event w (store_part read)) (comes_before t facts table (store_part read) w) h)
        where
          m : Holds sum.earlier (same_event w)
          m = any-holds (same_event w) sum.earlier e

          first : IsEarlier (c.coherence loc) m.entry sum.own
          first = earlier-first m.entry m.inside

          same : m.entry ≡ y
          same =
              one-entry t c d m.entry y (d.coherent loc m.entry (first.first, first.is_first)).0 s.inside
              (sym (same-bare w m.entry m.holds) ∙ s.same)

          go : (same_event w (store_part read) ≡ true) ⊎ (comes_before t facts table (store_part read) w ≡ true) → ⊥
          go (inl k) =
              let own : y ≡ sum.own = one-entry t c d y sum.own s.inside own-event.0 (sym s.same ∙ (same-bare w (store_part read) k ∙ own-at.same)) in
              never-itself (c.coherence loc) sum.own once (subst (λ z. IsEarlier (c.coherence loc) z sum.own) (same ∙ own) first)
          go (inr k) =
              never-back (c.coherence loc) y sum.own once (subst (λ z. IsEarlier (c.coherence loc) z sum.own) same first)
              (subst (λ l. IsEarlier (c.coherence l) sum.own y) (location loc sum.own own-event.1)
              (ordered (store_part read) w sum.own y own-at s (writes loc sum.own own-event.1) k))

  is-earlier : (w y : Entry) → Stands t c w y → writes_to loc y ≡ true → comes_before t facts table w (store_part read) ≡ true
      → is_earlier w ≡ true
  is-earlier w y s to h =
      any-in (same_event w) sum.earlier y
      (in-front (c.coherence loc) sum.earlier sum.later sum.own y once sum.coherence
      (subst (λ l. IsEarlier (c.coherence l) y sum.own) (location loc y to)
      (ordered w (store_part read) y sum.own s own-at (writes loc y to) h)))
      (bare-same w y s.same)

  -- ---- the sum

  -- the word after those of these additions that are before this one
  abbrev chosen : List Entry → ℕ → ℕ
  chosen [] m = m
  chosen (w ∷ ws) m = chosen ws (if is_earlier w then sum_of m (addend_of t w) else m)

  added-possible : (w y : Entry) → Stands t c w y → writes_to loc y ≡ true → (words : Values) (m : ℕ) → IsPossible words m
      → IsPossible (added t facts table (store_part read) w words) (if is_earlier w then sum_of m (addend_of t w) else m)
  added-possible w y s to words m h =
      go (same_event w (store_part read) || comes_before t facts table (store_part read) w) refl
      (comes_before t facts table w (store_part read)) refl (is_earlier w) refl
    where
      plus : Values
      plus = combined_values Add words (Some (addend_of t w ∷ []))

      more : IsPossible plus (sum_of m (addend_of t w))
      more = combined-possible Add words (Some (addend_of t w ∷ [])) m (addend_of t w) h (itself-possible (addend_of t w))

      go : (x : Bool) → (same_event w (store_part read) || comes_before t facts table (store_part read) w) ≡ x
          → (z : Bool) → comes_before t facts table w (store_part read) ≡ z → (b : Bool) → is_earlier w ≡ b
          → IsPossible (if x then words else if z then plus else either_of words plus) (if b then sum_of m (addend_of t w) else m)
      go true p z k false e = h
      go true p z k true e = let f : is_earlier w ≡ false = not-earlier w y s p in let z : ⊥ = cc in absurd z
      go false p true k true e = more
      go false p true k false e = let f : is_earlier w ≡ true = is-earlier w y s to k in let z : ⊥ = cc in absurd z
      go false p false k true e = either-second words plus (sum_of m (addend_of t w)) more
      go false p false k false e = either-first words plus m h

  added-up : (ws : List Entry) → ((w : Entry) → IsIn ws w → IsIn (filter (writes_to loc) (events_of t)) w) → (words : Values) (m : ℕ)
      → IsPossible words m → IsPossible (added_up t facts table (store_part read) ws words) (chosen ws m)
  added-up [] f words m h = h
  added-up (w ∷ ws) f words m h =
      added-up ws (λ x i. f x (in-later w ws x i)) (added t facts table (store_part read) w words)
      (if is_earlier w then sum_of m (addend_of t w) else m) (here (in-filter (writes_to loc) (events_of t) w (f w (in-first w ws w refl))))
    where
      here : IsIn (events_of t) w × (writes_to loc w ≡ true)
          → IsPossible (added t facts table (store_part read) w words) (if is_earlier w then sum_of m (addend_of t w) else m)
      here i =
          let o = of-event t c w i.0 in
          let s : Stands t c w o.entry = stands-in t c d w o.entry o.inside o.same in
          added-possible w o.entry s (carried-one t c (writes_to loc) (λ z. refl) w o.entry s i.1) words m h

  chosen-is : (xs : List Entry) (m : ℕ) → chosen (map bare xs) m ≡ word_after_adding addend (filter (λ x. is_earlier (bare x)) xs) m
  chosen-is [] m = refl
  chosen-is (x ∷ xs) m = go (is_earlier (bare x)) (λ n. chosen-is xs n)
    where
      go : (b : Bool) → ((n : ℕ) → chosen (map bare xs) n ≡ word_after_adding addend (filter (λ x. is_earlier (bare x)) xs) n)
          → chosen (map bare xs) (if b then sum_of m (addend_of t (bare x)) else m) ≡ word_after_adding addend
          (if b then x ∷ filter (λ x. is_earlier (bare x)) xs else filter (λ x. is_earlier (bare x)) xs) m
      go true rest = rest (sum_of m (addend_of t (bare x)))
      go false rest = rest m

  -- those that are chosen are those before this one
  abbrev picked : List Entry
  picked = filter (λ x. is_earlier (bare x)) (filter (writes_to loc) (events t c))

  in-picked : (x : Entry) → IsIn sum.earlier x → IsIn picked x
  in-picked x i =
      let e = earlier-first x i in
      let k = d.coherent loc x (e.first, e.is_first) in
      filter-in (λ x. is_earlier (bare x)) (filter (writes_to loc) (events t c)) x (filter-in (writes_to loc) (events t c) x k.0 k.1)
      (any-in (same_event (bare x)) sum.earlier x i (bare-same (bare x) x refl))

  picked-in : (x : Entry) → IsIn picked x → IsIn sum.earlier x
  picked-in x i =
      let k = in-filter (λ x. is_earlier (bare x)) (filter (writes_to loc) (events t c)) x i in
      let l = in-filter (writes_to loc) (events t c) x k.0 in
      let m = any-holds (same_event (bare x)) sum.earlier k.1 in
      let e = earlier-first m.entry m.inside in
      let same : m.entry ≡ x = one-entry t c d m.entry x (d.coherent loc m.entry (e.first, e.is_first)).0 l.0 (sym (same-bare (bare x) m.entry m.holds)) in
      subst (IsIn sum.earlier) same m.inside

  found : r.value ≡ chosen (filter (writes_to loc) (events_of t)) (slice_index t.words loc)
  found =
      sum.value
      ∙ (sym (same-word addend sum.earlier picked once-earlier in-picked sizes (slice_index t.words loc))
      ∙ (sym (chosen-is (filter (writes_to loc) (events t c)) (slice_index t.words loc))
      ∙ ap (λ xs. chosen xs (slice_index t.words loc)) (sym (writes-bare t c d loc q))))
    where
      once-earlier : Once sum.earlier
      once-earlier = once-front sum.earlier (sum.own ∷ sum.later) (subst Once sum.coherence (d.single loc))

      sizes : length picked ≡ length sum.earlier
      sizes =
          let more : length sum.earlier ≤ length picked = no-more sum.earlier picked once-earlier in-picked in
          let less : length picked ≤ length sum.earlier =
          no-more picked sum.earlier
          (once-filter (λ x. is_earlier (bare x)) (filter (writes_to loc) (events t c)) (once-filter (writes_to loc) (events t c) d.once))
          picked-in in
          omega arith

  pub sum-is-possible : IsPossible
      (added_up t facts table (store_part read) (filter (writes_to loc) (events_of t)) (Some (slice_index t.words loc ∷ [])))
      r.value
  sum-is-possible =
      subst (IsPossible (added_up t facts table (store_part read) (filter (writes_to loc) (events_of t)) (Some (slice_index t.words loc ∷ [])))) (sym found)
      (added-up (filter (writes_to loc) (events_of t)) (λ x i. i) (Some (slice_index t.words loc ∷ [])) (slice_index t.words loc)
      (itself-possible (slice_index t.words loc)))

-- what counting gives of a read
pub count-possible : ReadsAddUp → (t : Litmus) (c : Candidate) → IsAllowed t c → (facts : List Fact) (table : List Reading)
    → IsOrdered t c facts table → (read r : Entry) → Stands t c read r → IsPossible (counts t facts table read) r.value
count-possible reads t c a facts table ordered read r at = go (same_kind read.kind LR && is_counter t read.loc.0) refl
  where
    words : Values
    words = added_up t facts table (store_part read) (filter (writes_to read.loc.0) (events_of t)) (Some (slice_index t.words read.loc.0 ∷ []))

    go : (b : Bool) → (same_kind read.kind LR && is_counter t read.loc.0) ≡ b → IsPossible (if b then words else None) r.value
    go false q = refl
    go true q =
        let m = and-both (same_kind read.kind LR) (is_counter t read.loc.0) q in
        sum-is-possible reads t c a facts table ordered read r at
        (ap (λ (z : Entry). z.kind) (sym at.same) ∙ equal-kinds read.kind LR m.0) m.1
