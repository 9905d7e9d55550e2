-- A word that the last write to a location can leave there by the facts on events, and that fits what is asked, it can leave by all facts.
use Rattle.std.proofs.Common.{◌≡◌, ◌∙◌, ◌⊎◌, inl, inr, ◌==◌, ◌&&◌, ◌||◌, ℕ, Bool, true, false, not, cond, List, [], ◌∷◌, map, filter}
use Rattle.std.proofs.Common.{length, slice_index, Some, None, refl, sym, ap, subst, eqb-true}
use Rattle.std.specs.Prelude.{nat_lt, if◌then◌else◌}
use Rattle.std.specs.List.{list_any, list_all}
use Rattle.std.proofs.lemmas.Bool.{and_parts, and_from, or_right, or_cases}
use Rattle.tso_terms.specs.Litmus.{Litmus}
use Rattle.tso_terms.specs.ProgramOrder.{is_before, writes_to}
use Rattle.basic_laws.specs.Types.{Entry}
use Rattle.refutation_laws.specs.Known.{events_of}
use Rattle.possible_reads.specs.Facts.{Fact, From, Before, Last, Returns, Holds}
use Rattle.possible_reads.specs.Laws.{IsPossible}
use Rattle.possible_reads.specs.Possible.{Reading, Values, any_of, can_be, can_be_last, counted, either_of, fits_last, is_among, is_counter}
use Rattle.possible_reads.specs.Possible.{can_be_left, is_put_before, is_told_before, last_words, least_written, may_be_left, union, values_written}
use Rattle.possible_reads.proofs.Values.{either-first, either-second, possible-test}
use Rattle.lemma_refutations.specs.Edges.{Knowledge}
use Rattle.search_report.specs.Shown.{is_on_events, or_else, words_left_at}
use Rattle.search_report.proofs.Members.{Member}
use Rattle.search_report.proofs.Showing.{eq-self}

-- ---- values

pub any-member : (test : ℕ → Bool) (ws : List ℕ) (m : ℕ) → Member m ws → test m ≡ true → list_any test ws ≡ true
any-member test [] m c is = absurd c
any-member test (w ∷ ws) m (inl e) is = ap (λ x. x || list_any test ws) (ap test (sym e) ∙ is)
any-member test (w ∷ ws) m (inr c) is = or_right (test w) (list_any test ws) (any-member test ws m c is)

-- it is among these, if they are known
abbrev pub Among : ℕ → Values → Type 0
Among m values = (ws : List ℕ) → values ≡ Some ws → Member m ws

unfoldable pub known : Values → List ℕ
known None = []
known (Some ws) = ws

pub can-be-so : (values : Values) (test : ℕ → Bool) (m : ℕ) → Among m values → test m ≡ true → can_be values test ≡ true
can-be-so None test m among is = refl
can-be-so (Some ws) test m among is = any-member test ws m (among ws refl) is

member-of : (ws : List ℕ) (m : ℕ) → is_among ws m ≡ true → Member m ws
member-of [] m is = absurd (let no : ⊥ = cc in no)
member-of (w ∷ ws) m is = by (or_cases (w == m) (is_among ws m) is) (member-of ws m)
  where
    by : ((w == m) ≡ true) ⊎ (is_among ws m ≡ true) → (is_among ws m ≡ true → Member m ws) → Member m (w ∷ ws)
    by (inl e) further = inl (sym (eqb-true w m e))
    by (inr c) further = inr (further c)

among-possible : (values : Values) (m : ℕ) → IsPossible values m → Among m values
unfolding known
among-possible None m is ws e = absurd (let no : ⊥ = cc in no)
among-possible (Some us) m is ws e = subst (Member m) (ap known e) (member-of us m is)

either-union : (us vs : List ℕ) (m : ℕ) → is_among (union us vs) m ≡ true → (is_among us m ≡ true) ⊎ (is_among vs m ≡ true)
either-union [] vs m is = inr is
either-union (u ∷ us) vs m is = by (is_among (union us vs) u) (either-union us vs m) is
  where
    further : (is_among us m ≡ true) ⊎ (is_among vs m ≡ true) → (is_among (u ∷ us) m ≡ true) ⊎ (is_among vs m ≡ true)
    further (inl c) = inl (or_right (u == m) (is_among us m) c)
    further (inr c) = inr c

    by : (b : Bool) → (is_among (union us vs) m ≡ true → (is_among us m ≡ true) ⊎ (is_among vs m ≡ true))
        → is_among (cond b (union us vs) (u ∷ union us vs)) m ≡ true → (is_among (u ∷ us) m ≡ true) ⊎ (is_among vs m ≡ true)
    by true rest c = further (rest c)
    by false rest c = own (or_cases (u == m) (is_among (union us vs) m) c) rest
      where
        own : ((u == m) ≡ true) ⊎ (is_among (union us vs) m ≡ true) → (is_among (union us vs) m ≡ true → (is_among us m ≡ true) ⊎ (is_among vs m ≡ true))
            → (is_among (u ∷ us) m ≡ true) ⊎ (is_among vs m ≡ true)
        own (inl e) more = inl (ap (λ x. x || is_among us m) e)
        own (inr d) more = further (more d)

-- what is among either of two, where the two together are known, is among one of them
abbrev IsKnown : ℕ → Values → Type 0
IsKnown m values = (ws : List ℕ) × (values ≡ Some ws) × (is_among ws m ≡ true)

either-known : (us vs : Values) (m : ℕ) → IsKnown m (either_of us vs) → IsKnown m us ⊎ IsKnown m vs
unfolding known
either-known None None m k = absurd (let e = k.1 in let no : ⊥ = cc in no)
either-known None (Some vs) m k = absurd (let e = k.1 in let no : ⊥ = cc in no)
either-known (Some us) None m k = absurd (let e = k.1 in let no : ⊥ = cc in no)
either-known (Some us) (Some vs) m k = by (nat_lt 64 (length (union us vs))) k.1
  where
    by : (b : Bool) → cond b None (Some (union us vs)) ≡ Some k.0 → IsKnown m (Some us) ⊎ IsKnown m (Some vs)
    by true e = absurd (let no : ⊥ = cc in no)
    by false e = one (either-union us vs m (subst (λ ws. is_among ws m ≡ true) (sym (ap known e)) k.2))
      where
        one : (is_among us m ≡ true) ⊎ (is_among vs m ≡ true) → IsKnown m (Some us) ⊎ IsKnown m (Some vs)
        one (inl c) = inl (us, refl, c)
        one (inr c) = inr (vs, refl, c)

-- ---- of more writes

module _ (f : Entry → Values) (p q : Entry → Bool) (m : ℕ) (more : (w : Entry) → p w ≡ true → IsKnown m (f w) → q w ≡ true) where
  kept-possible : (w : Entry) (ws : List Entry) → IsPossible (any_of (map f (filter q ws))) m → IsPossible (any_of (map f (filter q (w ∷ ws)))) m
  kept-possible w ws is = by (q w)
    where
      by : (b : Bool) → IsPossible (any_of (map f (cond b (w ∷ filter q ws) (filter q ws)))) m
      by true = either-second (f w) (any_of (map f (filter q ws))) m is
      by false = is

  own-possible : (w : Entry) (ws : List Entry) → q w ≡ true → IsPossible (f w) m → IsPossible (any_of (map f (filter q (w ∷ ws)))) m
  own-possible w ws passes is = by (q w) passes
    where
      by : (b : Bool) → b ≡ true → IsPossible (any_of (map f (cond b (w ∷ filter q ws) (filter q ws)))) m
      by true e = either-first (f w) (any_of (map f (filter q ws))) m is
      by false e = absurd (let no : ⊥ = cc in no)

  possible : (w : Entry) → IsKnown m (f w) → IsPossible (f w) m
  possible w own = subst (λ v. IsPossible v m) (sym own.1) own.2

  any-more : (ws : List Entry) → IsKnown m (any_of (map f (filter p ws))) → IsPossible (any_of (map f (filter q ws))) m
  unfolding known
  any-more [] k = subst (λ us. is_among us m ≡ true) (sym (ap known k.1)) k.2
  any-more (w ∷ ws) k = by (any-more ws) (p w) refl k
    where
      by : (IsKnown m (any_of (map f (filter p ws))) → IsPossible (any_of (map f (filter q ws))) m) → (b : Bool) → p w ≡ b
          → IsKnown m (any_of (map f (cond b (w ∷ filter p ws) (filter p ws)))) → IsPossible (any_of (map f (filter q (w ∷ ws)))) m
      by rest true e is = one (either-known (f w) (any_of (map f (filter p ws))) m is) rest
        where
          one : IsKnown m (f w) ⊎ IsKnown m (any_of (map f (filter p ws)))
              → (IsKnown m (any_of (map f (filter p ws))) → IsPossible (any_of (map f (filter q ws))) m)
              → IsPossible (any_of (map f (filter q (w ∷ ws)))) m
          one (inl own) further = own-possible w ws (more w e own) (possible w own)
          one (inr left) further = kept-possible w ws (further left)
      by rest false e is = kept-possible w ws (rest is)

-- ---- facts on events

fits-the-same : (loc : ℕ) (w : Entry) (facts : List Fact) → list_all (fits_last loc w) (filter is_on_events facts) ≡ list_all (fits_last loc w) facts
fits-the-same loc w [] = refl
fits-the-same loc w (Holds claim b ∷ facts) = fits-the-same loc w facts
fits-the-same loc w (From r v b ∷ facts) = ap (λ x. fits_last loc w (From r v b) && x) (fits-the-same loc w facts)
fits-the-same loc w (Before u v ∷ facts) = ap (λ x. fits_last loc w (Before u v) && x) (fits-the-same loc w facts)
fits-the-same loc w (Last v true ∷ facts) = ap (λ x. fits_last loc w (Last v true) && x) (fits-the-same loc w facts)
fits-the-same loc w (Last v false ∷ facts) = ap (λ x. fits_last loc w (Last v false) && x) (fits-the-same loc w facts)
fits-the-same loc w (Returns r v b ∷ facts) = ap (λ x. fits_last loc w (Returns r v b) && x) (fits-the-same loc w facts)

told-the-same : (w v : Entry) (facts : List Fact) → list_any (is_told_before w v) (filter is_on_events facts) ≡ list_any (is_told_before w v) facts
told-the-same w v [] = refl
told-the-same w v (Holds claim b ∷ facts) = told-the-same w v facts
told-the-same w v (From r u b ∷ facts) = told-the-same w v facts
told-the-same w v (Before u x ∷ facts) = ap (λ y. is_told_before w v (Before u x) || y) (told-the-same w v facts)
told-the-same w v (Last u b ∷ facts) = told-the-same w v facts
told-the-same w v (Returns r u b ∷ facts) = told-the-same w v facts

module _ (t : Litmus) (facts : List Fact) (table : List Reading) (loc m : ℕ) (fits : may_be_left facts loc m ≡ true) where
  put-the-same : (w : Entry) → list_any (is_put_before (filter is_on_events facts) w) (events_of t) ≡ list_any (is_put_before facts w) (events_of t)
  put-the-same w = λ i. list_any (λ v. told-the-same w v facts i || (is_before w v && writes_to w.loc.0 v)) (events_of t)

  -- by values that are known
  still-left : (values : Values) (least : ℕ) → IsKnown m values → can_be_left facts loc values least ≡ true
  still-left None least k = absurd (let e = k.1 in let no : ⊥ = cc in no)
  still-left (Some ws) least k = possible-test (Some ws) (may_be_left facts loc) m (subst (λ v. IsPossible v m) (sym k.1) k.2) fits

  still-last : (w : Entry) → can_be_last t (filter is_on_events facts) table loc w ≡ true → IsKnown m (values_written t table w)
      → can_be_last t facts table loc w ≡ true
  still-last w is known-so =
      let all =
      and_parts (writes_to loc w
      && list_all (fits_last loc w) (filter is_on_events facts)
      && not (list_any (is_put_before (filter is_on_events facts) w) (events_of t)))
      (can_be_left (filter is_on_events facts) loc (values_written t table w) (least_written t table w)) is in
      let put =
      and_parts (writes_to loc w && list_all (fits_last loc w) (filter is_on_events facts))
      (not (list_any (is_put_before (filter is_on_events facts) w) (events_of t))) all.0 in
      let fit = and_parts (writes_to loc w) (list_all (fits_last loc w) (filter is_on_events facts)) put.0 in
      and_from (writes_to loc w && list_all (fits_last loc w) facts && not (list_any (is_put_before facts w) (events_of t))) _
      (and_from (writes_to loc w && list_all (fits_last loc w) facts) (not (list_any (is_put_before facts w) (events_of t)))
      (and_from (writes_to loc w) (list_all (fits_last loc w) facts) fit.0 (sym (fits-the-same loc w facts) ∙ fit.1)) (ap not (sym (put-the-same w)) ∙ put.1))
      (still-left (values_written t table w) (least_written t table w) known-so)

  abbrev words : Bool → Bool → List Fact → Values
  words c d fs =
      if c then Some (counted t loc ∷ [])
      else if d then any_of (map (values_written t table) (filter (can_be_last t fs table loc) (events_of t)))
      else Some (slice_index t.words loc ∷ [])

  among-all : (values : Values)
      → values ≡ words false true (filter is_on_events facts)
      → Among m (or_else values (words false true facts))
      → Among m (words false true facts)
  among-all None e among = among
  among-all (Some us) e among = among-possible (words false true facts) m
      (any-more (values_written t table) (can_be_last t (filter is_on_events facts) table loc) (can_be_last t facts table loc) m still-last (events_of t)
      (us, sym e, any-member (λ v. v == m) us m (among us refl) (eq-self m)))

  by-facts : (c d : Bool) → Among m (or_else (words c d (filter is_on_events facts)) (words c d facts)) → Among m (words c d facts)
  by-facts true d among = among
  by-facts false true among = among-all (words false true (filter is_on_events facts)) refl among
  by-facts false false among = among

pub words-by-facts : (t : Litmus) (k : Knowledge) (loc m : ℕ) → may_be_left k.facts loc m ≡ true → Among m (words_left_at t k loc)
    → Among m (last_words t k.facts k.readings loc)
words-by-facts t k loc m fits among =
    by-facts t k.facts k.readings loc m fits (is_counter t loc) (list_any (writes_to loc) (events_of t)) among
