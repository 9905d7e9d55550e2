-- What a line `False` lists beside a place is all that is left there: the value of each candidate that the facts on events leave open.
use Rattle.std.proofs.Common.{◌≡◌, ◌∙◌, ◌⊎◌, inl, inr, ℕ, zero, suc, Bool, true, false, List, [], ◌∷◌, map, filter, refl, sym, ap, subst, Some, None}
use Rattle.std.specs.Prelude.{if◌then◌else◌, slice_get, slice_index}
use Rattle.std.specs.List.{AllByRecursion, list_any}
use Rattle.tso_terms.specs.Litmus.{Litmus}
use Rattle.tso_terms.specs.ProgramOrder.{is_read, writes_to}
use Rattle.basic_laws.specs.Types.{Entry, Reg}
use Rattle.relational_model.specs.Events.{IsIn}
use Rattle.relational_model.specs.Candidates.{Candidate}
use Rattle.relational_model.specs.Model.{IsAllowed}
use Rattle.relational_model.proofs.KindFacts.{writes}
use Rattle.relational_model.proofs.Lists.{in-case, in-filter, in-first, in-later, in-none}
use Rattle.locked_laws.specs.Turns.{NoTwoReadOneSource}
use Rattle.locked_laws.specs.Sums.{WordsAddUp, ReadsAddUp}
use Rattle.refutation_laws.specs.Known.{bare, events_of, same_event}
use Rattle.refutation_laws.specs.Agreement.{Stands}
use Rattle.refutation_laws.proofs.Vocabulary.{Sound, sound, last-is-in}
use Rattle.refutation_laws.proofs.Tests.{any-holds, any-in, clash}
use Rattle.refutation_laws.proofs.Standing.{event-in, of-event, same-bare}
use Rattle.refutation_laws.proofs.Soundness.{bare-same}
use Rattle.refutation_laws.proofs.Cycles.{carried-one}
use Rattle.refutation_laws.proofs.ClaimFacts.{Empty, Last, ends}
use Rattle.possible_reads.specs.Expressions.{register_left}
use Rattle.possible_reads.specs.Facts.{Fact, From, Before, Last as ComesLast, Returns, Holds}
use Rattle.possible_reads.specs.Possible.{Reading, Values, any_of, counted, is_counter, last_words, last_writes, reading_after, readings}
use Rattle.possible_reads.specs.Possible.{readings_after, sources_read, values_of, values_read, values_written}
use Rattle.possible_reads.specs.Laws.{AreMet, HasSourceAmong, IsPossible, ReadIsPossible, register_in, word_in}
use Rattle.possible_reads.proofs.Lists.{of-map}
use Rattle.possible_reads.proofs.Values.{any-possible, itself-possible, value-possible}
use Rattle.possible_reads.proofs.Programs.{returned_in, returns}
use Rattle.possible_reads.proofs.Coherence.{stands-in}
use Rattle.possible_reads.proofs.Additions.{counted-right}
use Rattle.possible_reads.proofs.Rounds.{ArePossible, has-last, last-value, written-possible}
use Rattle.possible_reads.proofs.Ends.{register-value}
use Rattle.lemma_refutations.specs.Edges.{Knowledge}
use Rattle.lemma_refutations.specs.Refutations.{is_impossible, known_from}
use Rattle.tso_report.specs.declared.named.Named.{Named}
use Rattle.tso_report.specs.declared.named.Named.TheVariants.{Register, Location}
use Rattle.search_report.specs.Places.{Place}
use Rattle.search_report.specs.Shown.{is_on_events, or_else, places_at, places_false, places_in, values_left_at, with_names_of, with_place}
use Rattle.told_reasons.specs.ListedValues.{IsLeftOpen, ListedValuesAreAllLeft, value_left}

-- ---- the rows of a table

record RowOf (rows : List Reading) (e : Entry) : Type 0 where
  pub number : ℕ
  pub row : Reading
  pub stands : slice_get rows number ≡ Some row
  pub same : same_event row.read e ≡ true

row-of : (rows : List Reading) (e : Entry) → (values_read rows e ≡ None) ⊎ RowOf rows e
row-of [] e = inl refl
row-of (x ∷ xs) e = go (same_event x.read e) refl (row-of xs e)
  where
    go : (b : Bool) → same_event x.read e ≡ b → (values_read xs e ≡ None) ⊎ RowOf xs e
        → ((if b then x.values else values_read xs e) ≡ None) ⊎ RowOf (x ∷ xs) e
    go true q rest = inr (record { number = 0; row = x; stands = refl; same = q })
    go false q (inl none) = inl none
    go false q (inr r) = inr (record { number = suc r.number; row = r.row; stands = r.stands; same = r.same })

module _ (t : Litmus) (facts : List Fact) where
  rows-read : (rounds i : ℕ) (x : Reading) → slice_get (readings_after t facts rounds) i ≡ Some x → IsIn (filter is_read (events_of t)) x.read
  rows-read zero i x p = let z : ⊥ = cc in absurd z
  rows-read (suc n) i x p = go (of-map (reading_after t facts (readings_after t facts n)) (filter is_read (events_of t)) i x p)
    where
      go : (e : Entry) × ((slice_get (filter is_read (events_of t)) i ≡ Some e) × (x ≡ reading_after t facts (readings_after t facts n) e))
          → IsIn (filter is_read (events_of t)) x.read
      go (e, (q, s)) = subst (λ (y : Reading). IsIn (filter is_read (events_of t)) y.read) (sym s) (i, q)

  sources-at : (before : List Reading) (es : List Entry) (e : Entry) → ((y : Entry) → IsIn es y → same_event y e ≡ true → y ≡ e) → IsIn es e
      → sources_read t (map (reading_after t facts before) es) e ≡ (reading_after t facts before e).sources
  sources-at before [] e one i = absurd (in-none e i)
  sources-at before (y ∷ ys) e one i =
      go (same_event y e) refl (λ j. sources-at before ys e (λ z k. one z (in-later y ys z k)) j)
    where
      further : same_event y e ≡ false → (e ≡ y) ⊎ IsIn ys e
          → (IsIn ys e → sources_read t (map (reading_after t facts before) ys) e ≡ (reading_after t facts before e).sources)
          → sources_read t (map (reading_after t facts before) ys) e ≡ (reading_after t facts before e).sources
      further q (inl s) rest = absurd (clash (same_event y e) (bare-same y e (ap bare (sym s))) q)
      further q (inr j) rest = rest j

      go : (b : Bool) → same_event y e ≡ b
          → (IsIn ys e → sources_read t (map (reading_after t facts before) ys) e ≡ (reading_after t facts before e).sources)
          → (if b then (reading_after t facts before y).sources else sources_read t (map (reading_after t facts before) ys) e)
          ≡ (reading_after t facts before e).sources
      go true q rest = ap (λ (z : Entry). (reading_after t facts before z).sources) (one y (in-first y ys y refl) q)
      go false q rest = further q (in-case y ys e i) rest

  -- an event is told by what it is, but for its value
  one-event : (c : Candidate) (e y : Entry) → IsIn (events_of t) e → IsIn (events_of t) y → same_event y e ≡ true → y ≡ e
  one-event c e y i j h =
      let o = of-event t c e i in
      let p = of-event t c y j in
      p.same ∙ (sym (ap bare p.same) ∙ (same-bare y e h ∙ (ap bare o.same ∙ sym o.same)))

  row-sources : (c : Candidate) (rounds i : ℕ) (x : Reading) → slice_get (readings_after t facts rounds) i ≡ Some x
      → sources_read t (readings_after t facts rounds) x.read ≡ x.sources
  row-sources c zero i x p = let z : ⊥ = cc in absurd z
  row-sources c (suc n) i x p = go (of-map (reading_after t facts (readings_after t facts n)) (filter is_read (events_of t)) i x p)
    where
      go : (e : Entry) × ((slice_get (filter is_read (events_of t)) i ≡ Some e) × (x ≡ reading_after t facts (readings_after t facts n) e))
          → sources_read t (map (reading_after t facts (readings_after t facts n)) (filter is_read (events_of t))) x.read ≡ x.sources
      go (e, (q, s)) =
          subst (λ (y : Reading). sources_read t (map (reading_after t facts (readings_after t facts n)) (filter is_read (events_of t))) y.read ≡ y.sources)
          (sym s) (sources-at (readings_after t facts n) (filter is_read (events_of t)) e
          (λ y k h. one-event c e y (in-filter is_read (events_of t) e (i, q)).0 (in-filter is_read (events_of t) y k).0 h) (i, q))

-- ---- the end of a candidate

module _ (no_two : NoTwoReadOneSource) (words : WordsAddUp) (reads : ReadsAddUp) (t : Litmus) (c : Candidate) (a : IsAllowed t c) (facts : List Fact)
    (rounds : ℕ)
    (left : (read r : Entry) → Stands t c read r → is_read r ≡ true → ReadIsPossible t c (readings_after t facts rounds) read r) where
  abbrev d : Sound t c
  d = sound t c a.candidate

  abbrev table : List Reading
  table = readings_after t facts rounds

  values-left : (e : Entry) → IsPossible (values_read table e) (returned_in t c d e)
  values-left e = go (row-of table e)
    where
      go : (values_read table e ≡ None) ⊎ RowOf table e → IsPossible (values_read table e) (returned_in t c d e)
      go (inl none) = subst (λ vs. IsPossible vs (returned_in t c d e)) (sym none) refl
      go (inr r) =
          let k = in-filter is_read (events_of t) r.row.read (rows-read t facts rounds r.number r.row r.stands) in
          let o = of-event t c r.row.read k.0 in
          let s : Stands t c r.row.read o.entry = stands-in t c d r.row.read o.entry o.inside o.same in
          let u : Stands t c e o.entry = record { inside = o.inside; same = sym (same-bare r.row.read e r.same) ∙ s.same } in
          subst (IsPossible (values_read table e)) (sym (returns t c d e o.entry u))
          (left e o.entry u (carried-one t c is_read (λ z. refl) r.row.read o.entry s k.1)).value

  register-left : (core : ℕ) (reg : Reg) → IsPossible (values_of (values_read table) (register_left t core reg)) (register_in t c core reg)
  register-left core reg =
      subst (IsPossible (values_of (values_read table) (register_left t core reg))) (sym (register-value t c d core reg))
      (value-possible (values_read table) (returned_in t c d) values-left (register_left t core reg))

  -- by facts that it meets, be they those of the table or not
  module _ (others : List Fact) (met : AreMet t c others) where
    all : ArePossible no_two reads t c a others met table
    all = record {
      sources = λ read r at p. (left read r at p).source;
      values = values-left;
      least = λ read r at p. (left read r at p).least;
      rows = λ i x p. record {
        event = (in-filter is_read (events_of t) x.read (rows-read t facts rounds i x p)).0;
        sources = λ r at k. subst (HasSourceAmong c r) (row-sources t facts c rounds i x p) (left x.read r at k).source;
      };
    }

    word-left : (loc : ℕ) → IsPossible (last_words t others table loc) (word_in t c loc)
    word-left loc = go (is_counter t loc) refl (list_any (writes_to loc) (events_of t)) refl
      where
        written : list_any (writes_to loc) (events_of t) ≡ true
            → IsPossible (any_of (map (values_written t table) (last_writes t others table loc))) (word_in t c loc)
        written q =
            let m = any-holds (writes_to loc) (events_of t) q in
            let o = of-event t c m.entry m.inside in
            let l = has-last no_two reads t c a others met table all loc o.entry o.inside
            (subst (λ (z : Entry). writes_to loc z ≡ true) o.same m.holds) in
            any-possible (values_written t table) (last_writes t others table loc) l.among.number l.among.event (word_in t c loc) l.among.among
            (subst (IsPossible (values_written t table l.among.event))
            (sym (last-value (c.coherence loc) (slice_index t.words loc) l.write l.is_last))
            (written-possible no_two reads t c a others met table all l.among.event l.write
            (record { inside = l.inside; same = l.among.same }) (writes loc l.write l.writes)))

        unwritten : list_any (writes_to loc) (events_of t) ≡ false → word_in t c loc ≡ slice_index t.words loc
        unwritten q = on (ends (c.coherence loc) (slice_index t.words loc))
          where
            on : Empty (c.coherence loc) (slice_index t.words loc) ⊎ Last (c.coherence loc) (slice_index t.words loc)
                → word_in t c loc ≡ slice_index t.words loc
            on (inl none) = none.value
            on (inr l) =
                let i = d.coherent loc l.entry (last-is-in (c.coherence loc) l.entry l.last) in
                let z = any-in (writes_to loc) (events_of t) (bare l.entry) (event-in t c l.entry i.0) i.1 in
                let w : ⊥ = cc in absurd w

        go : (x : Bool) → is_counter t loc ≡ x → (b : Bool) → list_any (writes_to loc) (events_of t) ≡ b
            → IsPossible (if x then Some (counted t loc ∷ [])
            else if b then any_of (map (values_written t table) (last_writes t others table loc))
            else Some (slice_index t.words loc ∷ [])) (word_in t c loc)
        go true q b r = subst (IsPossible (Some (counted t loc ∷ []))) (sym (counted-right t c d loc q words a)) (itself-possible (counted t loc))
        go false q true r = written r
        go false q false r = subst (IsPossible (Some (slice_index t.words loc ∷ []))) (sym (unwritten r)) (itself-possible (slice_index t.words loc))

-- ---- the places of a line

either-left : (one other : Values) (n : ℕ) → IsPossible one n → (one ≡ None → IsPossible other n) → IsPossible (or_else one other) n
either-left None other n is or = or refl
either-left (Some vs) other n is or = is

module _ (no_two : NoTwoReadOneSource) (words : WordsAddUp) (reads : ReadsAddUp) (t : Litmus) (c : Candidate) (facts : List Fact)
    (left_open : IsLeftOpen t c facts) where
  abbrev k : Knowledge
  k = known_from t facts

  abbrev HasOne : Place → Type 0
  HasOne p = IsPossible (Some p.values) (value_left t c p.named)

  left-at : (n : Named) → IsPossible (values_left_at t k n) (value_left t c n)
  left-at (Register core reg) = register-left no_two words reads t c left_open.allowed facts _ left_open.reads core.0 reg
  left-at (Location loc) =
      either-left (last_words t (filter is_on_events facts) (readings t facts) loc.0) (last_words t facts (readings t facts) loc.0) (word_in t c loc.0)
      (word-left no_two words reads t c left_open.allowed facts _ left_open.reads (filter is_on_events facts) left_open.met loc.0)
      (λ any. word-left no_two words reads t c left_open.allowed facts _ left_open.reads facts (left_open.asked loc.0 any) loc.0)

  with-left : (n : Named) (values : Values) (places : List Place) → IsPossible values (value_left t c n) → AllByRecursion HasOne places
      → AllByRecursion HasOne (with_place n values places)
  with-left n None places is rest = rest
  with-left n (Some values) places is rest = (is, rest)

  places-left : (names : List Named) → AllByRecursion HasOne (places_at t k names)
  places-left [] = tt
  places-left (n ∷ ns) = with-left n (values_left_at t k n) (places_at t k ns) (left-at n) (places-left ns)

  fact-left : (f : Fact) → AllByRecursion HasOne (places_in t k f)
  fact-left (Holds claim truth) = places-left (with_names_of claim [])
  fact-left (From read write truth) = tt
  fact-left (Before first second) = tt
  fact-left (ComesLast write truth) = tt
  fact-left (Returns read value truth) = tt

  false-left : (fs : List Fact) → AllByRecursion HasOne (places_false t k fs)
  false-left [] = tt
  false-left (f ∷ fs) = go (is_impossible t k f) (fact-left f) (false-left fs)
    where
      go : (b : Bool) → AllByRecursion HasOne (places_in t k f) → AllByRecursion HasOne (places_false t k fs)
          → AllByRecursion HasOne (if b then places_in t k f else places_false t k fs)
      go true here rest = here
      go false here rest = rest

pub listed-left : NoTwoReadOneSource → WordsAddUp → ReadsAddUp → ListedValuesAreAllLeft
listed-left no_two words reads t c facts left_open = false-left no_two words reads t c facts left_open facts
