-- Where only locked additions and subtractions of numbers write to a location, each adds its number to what its own load part finds, and the last word
-- is the initial one and all of these.
use Rattle.possible_reads.proofs.Vocabulary.{◌≡◌, ◌&&◌, ◌+◌, ℕ, Bool, true, false, if◌then◌else◌, List, [], ◌∷◌, Some, None, arith, refl}
use Rattle.possible_reads.proofs.Vocabulary.{sym, ap, ◌∙◌, inl, inr, subst, map, filter, list_any, list_all, slice_index, Entry, LR, LW}
use Rattle.possible_reads.proofs.Vocabulary.{Litmus, entry, sum_of, IsIn, in-case, in-none, bare, events_of, same_event, Stands, Candidate}
use Rattle.possible_reads.proofs.Vocabulary.{events, is_write, writes_to, same_kind, Sound, and-both, equal-kinds, part_of, writes-at}
use Rattle.possible_reads.proofs.Vocabulary.{IsAllowed, ArePair, filter-in}
use Rattle.std.specs.Prelude.{◌-◌, ◌%◌, ◌^◌}
use Rattle.std.proofs.Math.Nat.{mod-add-mod}
use Rattle.tso_terms.specs.Thread.{difference_of}
use Rattle.basic_laws.specs.Types.{Add, And, Or, Subtract, Xor}
use Rattle.relational_model.proofs.Pairs.{coupled, HasStore}
use Rattle.locked_laws.specs.Turns.{IsLoadPart}
use Rattle.locked_laws.specs.Sums.{IsAddedTo, word_after_adding, total_of, WordsAddUp}
use Rattle.locked_laws.proofs.Sums.{adding-is-total}
use Rattle.refutation_laws.proofs.Tests.{pick, Holds, any-holds}
use Rattle.refutation_laws.proofs.Standing.{Of, of-event, event-in, same-bare, bare-events}
use Rattle.possible_reads.specs.Expressions.{Expression, Constant, Returned, Combined, Negated, Exchanged, expression_of}
use Rattle.possible_reads.proofs.Values.{value_of}
use Rattle.possible_reads.specs.Possible.{load_part_of, addend_in, addend_or_none, addend_of, is_addition, adds_alone, is_counter, word_after, counted}
use Rattle.possible_reads.specs.Laws.{word_in}
use Rattle.possible_reads.proofs.Programs.{returned_in, returns, writes-value}

-- ---- a counter

-- what is subtracted is added as what is left of 2^32
other-way : (m d k : ℕ) → (m + d) % k ≡ (m + (0 + d) % k) % k
other-way m d k = sym (ap (λ n. n % k) (turned m ((0 + d) % k)) ∙ (mod-add-mod (0 + d) k m ∙ ap (λ n. n % k) (let e : (0 + d) + m ≡ m + d = omega arith in e)))
  where
    turned : (a b : ℕ) → a + b ≡ b + a
    turned a b = omega arith

-- the sum of what this read returns and of a number
pub record IsSum (own : Entry) (x : Expression) : Type 0 where
  pub read : Entry
  pub same : same_event read own ≡ true
  pub value : (returned : Entry → ℕ) → value_of returned x ≡ sum_of (returned read) (addend_or_none (addend_in own x))

no-addition : {A : Type 0} → is_addition None ≡ true → A
no-addition h = let z : ⊥ = cc in absurd z

pub is-sum : (own : Entry) (x : Expression) → is_addition (addend_in own x) ≡ true → IsSum own x
is-sum own (Constant value) h = no-addition h
is-sum own (Returned read) h = no-addition h
is-sum own (Negated inner) h = no-addition h
is-sum own (Exchanged word eax new) h = no-addition h
is-sum own (Combined And left right) h = no-addition h
is-sum own (Combined Or left right) h = no-addition h
is-sum own (Combined Xor left right) h = no-addition h
is-sum own (Combined Add (Constant value) right) h = no-addition h
is-sum own (Combined Add (Negated inner) right) h = no-addition h
is-sum own (Combined Add (Exchanged word eax new) right) h = no-addition h
is-sum own (Combined Add (Combined operator left other) right) h = no-addition h
is-sum own (Combined Add (Returned read) (Returned other)) h = no-addition h
is-sum own (Combined Add (Returned read) (Negated inner)) h = no-addition h
is-sum own (Combined Add (Returned read) (Exchanged word eax new)) h = no-addition h
is-sum own (Combined Add (Returned read) (Combined operator left right)) h = no-addition h
is-sum own (Combined Add (Returned read) (Constant number)) h = go (same_event read own) refl h
  where
    go : (b : Bool) → same_event read own ≡ b → is_addition (if b then Some number else None) ≡ true
        → IsSum own (Combined Add (Returned read) (Constant number))
    go false q k = no-addition k
    go true q k = record {
      read = read;
      same = q;
      value = λ returned. ap (sum_of (returned read)) (sym (ap addend_or_none (pick (same_event read own) (Some number) None q)));
    }
is-sum own (Combined Subtract (Constant value) right) h = no-addition h
is-sum own (Combined Subtract (Negated inner) right) h = no-addition h
is-sum own (Combined Subtract (Exchanged word eax new) right) h = no-addition h
is-sum own (Combined Subtract (Combined operator left other) right) h = no-addition h
is-sum own (Combined Subtract (Returned read) (Returned other)) h = no-addition h
is-sum own (Combined Subtract (Returned read) (Negated inner)) h = no-addition h
is-sum own (Combined Subtract (Returned read) (Exchanged word eax new)) h = no-addition h
is-sum own (Combined Subtract (Returned read) (Combined operator left right)) h = no-addition h
is-sum own (Combined Subtract (Returned read) (Constant number)) h = go (same_event read own) refl h
  where
    go : (b : Bool) → same_event read own ≡ b → is_addition (if b then Some (difference_of 0 number) else None) ≡ true
        → IsSum own (Combined Subtract (Returned read) (Constant number))
    go false q k = no-addition k
    go true q k = record {
      read = read;
      same = q;
      value = λ returned. other-way (returned read) (2 ^ 32 - number) (2 ^ 32)
          ∙ ap (sum_of (returned read)) (sym (ap addend_or_none (pick (same_event read own) (Some (difference_of 0 number)) None q)));
    }

pub all-holds : (p : Entry → Bool) (xs : List Entry) (x : Entry) → list_all p xs ≡ true → IsIn xs x → p x ≡ true
all-holds p [] x h i = absurd (in-none x i)
all-holds p (y ∷ ys) x h i =
    let m = and-both (p y) (list_all p ys) h in
    elim (in-case y ys x i) [ inl e ↦ subst (λ z. p z ≡ true) (sym e) m.0 | inr j ↦ all-holds p ys x m.1 j ]

pub filter-bare : (loc : ℕ) (xs : List Entry) → filter (writes_to loc) (map bare xs) ≡ map bare (filter (writes_to loc) xs)
filter-bare loc [] = refl
filter-bare loc (x ∷ xs) = go (writes_to loc x) (filter-bare loc xs)
  where
    go : (b : Bool) → filter (writes_to loc) (map bare xs) ≡ map bare (filter (writes_to loc) xs)
        → (if b then bare x ∷ filter (writes_to loc) (map bare xs) else filter (writes_to loc) (map bare xs)) ≡ map bare
        (if b then x ∷ filter (writes_to loc) xs else filter (writes_to loc) xs)
    go true e = ap (λ ys. bare x ∷ ys) e
    go false e = e

module _ (t : Litmus) (c : Candidate) (d : Sound t c) (loc : ℕ) (q : is_counter t loc ≡ true) where
  -- what a write adds
  abbrev pub adds : Entry → ℕ
  adds w = addend_of t (bare w)

  record IsAddition (w : Entry) : Type 0 where
    locked : w.kind ≡ LW
    sum : IsSum (load_part_of w) (expression_of t (bare w))

  addition : (w : Entry) → IsIn (events t c) w → writes_to loc w ≡ true → IsAddition w
  addition w i to =
      let all = (and-both (list_any (writes_to loc) (events_of t)) (list_all (adds_alone t loc) (events_of t)) q).1 in
      let h : adds_alone t loc (bare w) ≡ true = all-holds (adds_alone t loc) (events_of t) (bare w) all (event-in t c w i) in
      let k : (same_kind w.kind LW && is_addition (addend_in (load_part_of w) (expression_of t (bare w)))) ≡ true =
      sym (pick (writes_to loc (bare w)) (same_kind w.kind LW && is_addition (addend_in (load_part_of w) (expression_of t (bare w)))) true to) ∙ h in
      let m = and-both (same_kind w.kind LW) _ k in
      record { locked = equal-kinds w.kind LW m.0; sum = is-sum (load_part_of w) (expression_of t (bare w)) m.1 }

  pub is-added-to : IsAddedTo t c loc adds
  is-added-to = record { locked = λ w i to. (addition w i to).locked; adds = λ r w part i pair. found r w part i pair }
    where
      found : (r w : Entry) → IsLoadPart t c loc r → IsIn (events t c) w → ArePair r w → w.value ≡ sum_of r.value (adds w)
      found r w part i pair =
          sym (writes-value t c d (bare w) w (record { inside = i; same = refl }) (store-writes w pair.write))
          ∙ (s.value (returned_in t c d) ∙ ap (λ n. sum_of n (adds w)) (returns t c d s.read r at))
        where
          store-writes : (w : Entry) → w.kind ≡ LW → is_write w ≡ true
          store-writes w k = grind arith

          s-of : HasStore (events t c) r
          s-of = (coupled t c r part.inside).0 part.kind

          same : w ≡ s-of.other
          same = d.same w s-of.other i s-of.inside (sym pair.core ∙ s-of.pair.core) (sym pair.place ∙ s-of.pair.place)
              (ap part_of (pair.write ∙ sym s-of.pair.write))

          locs : r.loc.0 ≡ w.loc.0
          locs = s-of.location ∙ ap (λ (z : Entry). z.loc.0) (sym same)

          s : IsSum (load_part_of w) (expression_of t (bare w))
          s = (addition w i (writes-at loc w (store-writes w pair.write) (sym locs ∙ part.location))).sum

          bares : bare (load_part_of w) ≡ bare r
          bares =
              ap (λ n. entry n w.place LR w.loc 0) (sym pair.core)
              ∙ (ap (λ n. entry r.core.0 n LR w.loc 0) (sym pair.place)
              ∙ (ap (λ k. entry r.core.0 r.place k w.loc 0) (sym pair.read)
              ∙ ap (λ n. entry r.core.0 r.place r.kind (record { 0 = n }) 0) (sym locs)))

          at : Stands t c s.read r
          at = record { inside = part.inside; same = same-bare s.read (load_part_of w) s.same ∙ bares }

  pub word-after-bare : (ws : List Entry) (word : ℕ) → word_after t (map bare ws) word ≡ word_after_adding adds ws word
  word-after-bare [] word = refl
  word-after-bare (w ∷ ws) word = word-after-bare ws (sum_of word (adds w))

  pub writes-bare : filter (writes_to loc) (events_of t) ≡ map bare (filter (writes_to loc) (events t c))
  writes-bare = ap (filter (writes_to loc)) (sym (bare-events t c)) ∙ filter-bare loc (events t c)

  pub counted-right : WordsAddUp → IsAllowed t c → word_in t c loc ≡ counted t loc
  counted-right words a = go (filter (writes_to loc) (events t c)) refl
    where
      one : Holds (events_of t) (writes_to loc)
      one = any-holds (writes_to loc) (events_of t)
          (and-both (list_any (writes_to loc) (events_of t)) (list_all (adds_alone t loc) (events_of t)) q).0

      of : Of (events t c) one.entry
      of = of-event t c one.entry one.inside

      to : writes_to loc of.entry ≡ true
      to = subst (λ (z : Entry). writes_to loc z ≡ true) of.same one.holds

      go : (ws : List Entry) → filter (writes_to loc) (events t c) ≡ ws → word_in t c loc ≡ counted t loc
      go [] e = absurd (in-none of.entry (subst (λ xs. IsIn xs of.entry) e (filter-in (writes_to loc) (events t c) of.entry of.inside to)))
      go (w ∷ ws) e =
          words t c loc adds of.entry a is-added-to of.inside to
          ∙ (ap (λ xs. (slice_index t.words loc + total_of adds xs) % 2 ^ 32) e
          ∙ (sym (adding-is-total adds w ws (slice_index t.words loc))
          ∙ (sym (word-after-bare (w ∷ ws) (slice_index t.words loc))
          ∙ ap (λ xs. word_after t xs (slice_index t.words loc)) (ap (map bare) (sym e) ∙ sym writes-bare))))
