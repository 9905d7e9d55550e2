-- After each round what each read reads from and returns is among what is possible: so is what writes write, the order that is known
-- is right, and the last write is among those that can be it.
use Rattle.possible_reads.proofs.Vocabulary.{◌≡◌, ◌≤◌, arith, ◌&&◌, ◌==◌, ℕ, zero, suc, Bool, true, false, not, if◌then◌else◌, List, [], ◌∷◌, Option}
use Rattle.possible_reads.proofs.Vocabulary.{Some, None, refl, sym, ap, ◌∙◌, inl, inr, subst, map, filter, list_any, list_all, slice_get}
use Rattle.possible_reads.proofs.Vocabulary.{slice_index, Entry, LR, Litmus, IsIn, in-first, in-later, in-filter, filter-in, bare}
use Rattle.possible_reads.proofs.Vocabulary.{events_of, same_event, Stands, IsSameSource, Candidate, events, is_read, is_write, writes_to}
use Rattle.possible_reads.proofs.Vocabulary.{is_before, same_kind, Sound, sound, and-both, or-either, same-number, equal-kinds, location}
use Rattle.possible_reads.proofs.Vocabulary.{writes-at, IsAllowed, IsEarlier, IsBefore, last_in, last-is-in, is-false, last_word}
use Rattle.relational_model.specs.Candidates.{Returns as ReturnsFrom}
use Rattle.relational_model.proofs.KindFacts.{writes}
use Rattle.relational_model.proofs.Lists.{last-none}
use Rattle.locked_laws.specs.Turns.{IsLoadPart, NoTwoReadOneSource}
use Rattle.locked_laws.specs.Sums.{ReadsAddUp}
use Rattle.locked_laws.proofs.Turns.{load-part-reads}
use Rattle.refutation_laws.specs.Refutations.{sources_of}
use Rattle.refutation_laws.proofs.Tests.{and-of, clash, from-not}
use Rattle.refutation_laws.proofs.Standing.{of-event, event-in, same-bare, one-entry}
use Rattle.refutation_laws.proofs.Soundness.{bare-same}
use Rattle.refutation_laws.proofs.Agreeing.{source-in}
use Rattle.refutation_laws.proofs.Cycles.{carried, carried-one}
use Rattle.possible_reads.specs.Expressions.{expression_of}
use Rattle.possible_reads.specs.Facts.{Fact}
use Rattle.possible_reads.specs.Possible.{Values, can_be, least_read, least_written, least_from, least_after, smallest}
use Rattle.possible_reads.specs.Possible.{Reading, any_of, values_read, sources_read, same_source, values_written, values_from, may_be_left}
use Rattle.possible_reads.specs.Possible.{fits_last, is_told_before, is_put_before, can_be_last, last_writes, is_last, told_value}
use Rattle.possible_reads.specs.Possible.{may_return, fits_source, is_in_order, takes, is_taken, can_read_from, sources_after, values_after}
use Rattle.possible_reads.specs.Possible.{kept, reading_after, readings_after, counts}
use Rattle.possible_reads.specs.Laws.{AreMet, IsPossible, word_in, HasSourceAmong, HasLastWrite, ReadIsPossible}
use Rattle.possible_reads.proofs.Lists.{at-filter, at-map, all-at, of-map, any-passes}
use Rattle.possible_reads.proofs.Values.{among-at, possible-test, itself-possible, both-possible, any-possible, kept-possible, value-possible}
use Rattle.possible_reads.proofs.Programs.{returned_in, returns, writes-value}
use Rattle.possible_reads.proofs.Coherence.{none-passes, last-before-none, before-last, stands-in, in-program, source-in-order}
use Rattle.possible_reads.proofs.Meeting.{source-of-same, all-met, source-fits, returns-so, told, word-fits, last-fits, told-before}
use Rattle.possible_reads.proofs.Meeting.{returns-no-less, left-possible}
use Rattle.possible_reads.proofs.Counting.{IsOrdered, count-possible}
use Rattle.possible_reads.proofs.Least.{smallest-is, written-least}

-- the value of the last write is the last word
pub last-value : (ws : List Entry) (word : ℕ) (x : Entry) → last_in ws ≡ Some x → last_word ws word ≡ x.value
last-value [] word x h = let z : ⊥ = cc in absurd z
last-value (y ∷ []) word x h = let e : y ≡ x = cc in ap (λ (z : Entry). z.value) e
last-value (y ∷ (z ∷ zs)) word x h = last-value (z ∷ zs) y.value x h

module _ (no_two : NoTwoReadOneSource) (reads : ReadsAddUp) (t : Litmus) (c : Candidate) (a : IsAllowed t c) (facts : List Fact)
    (met : AreMet t c facts) where
  abbrev pub d : Sound t c
  d = sound t c a.candidate

  -- what one reading says is so
  pub record RowIsPossible (x : Reading) : Type 0 where
    pub event : IsIn (events_of t) x.read
    pub sources : (r : Entry) → Stands t c x.read r → is_read r ≡ true → HasSourceAmong c r x.sources

  -- no read returns less than what a table says
  abbrev pub AreLeast : List Reading → Type 0
  AreLeast table = (read r : Entry) → Stands t c read r → is_read r ≡ true → least_read table read ≤ r.value

  -- what a table says is so
  pub record ArePossible (table : List Reading) : Type 0 where
    pub sources : (read r : Entry) → Stands t c read r → is_read r ≡ true → HasSourceAmong c r (sources_read t table read)
    pub values : (e : Entry) → IsPossible (values_read table e) (returned_in t c d e)
    pub least : AreLeast table
    pub rows : (i : ℕ) (x : Reading) → slice_get table i ≡ Some x → RowIsPossible x

  -- ---- one table

  module _ (table : List Reading) (h : ArePossible table) where
    pub written-possible : (w x : Entry) → Stands t c w x → is_write x ≡ true → IsPossible (values_written t table w) x.value
    written-possible w x s k =
        subst (IsPossible (values_written t table w)) (writes-value t c d w x s k)
        (value-possible (values_read table) (returned_in t c d) h.values (expression_of t w))

    no-less : (w x : Entry) → Stands t c w x → is_write x ≡ true → least_written t table w ≤ x.value
    no-less w x s k = written-least t c d a table h.least w x s k

    -- the last write

    put-before : (w v x y : Entry) → Stands t c w x → Stands t c v y → is_write x ≡ true → is_put_before facts w v ≡ true → IsBefore c x y
    put-before w v x y s u k p =
        elim (or-either (list_any (is_told_before w v) facts) (is_before w v && writes_to w.loc.0 v) p) [
          | inl q ↦ told-before t c facts met w v x y s u q
          | inr q ↦
              let m = and-both (is_before w v) (writes_to w.loc.0 v) q in
              in-program t c d a.uniproc x y s.inside u.inside k
              (subst (λ (z : Entry). writes_to z.loc.0 y ≡ true) s.same (carried-one t c (writes_to w.loc.0) (λ z. refl) v y u m.1))
              (carried t c is_before (λ p q. refl) w v x y s u m.0)
        ]

    can-be-last : (loc : ℕ) (x : Entry) → IsIn (events t c) x → writes_to loc x ≡ true → last_in (c.coherence loc) ≡ Some x
        → can_be_last t facts table loc (bare x) ≡ true
    can-be-last loc x i to last =
        and-of (writes_to loc (bare x) && list_all (fits_last loc (bare x)) facts && not (list_any (is_put_before facts (bare x)) (events_of t))) _
        (and-of (writes_to loc (bare x) && list_all (fits_last loc (bare x)) facts) (not (list_any (is_put_before facts (bare x)) (events_of t)))
        (and-of (writes_to loc (bare x)) (list_all (fits_last loc (bare x)) facts) to
        (last-fits t c facts met loc (bare x) x refl (location loc x to) last)) none)
        (left-possible t c facts met loc (values_written t table (bare x)) (least_written t table (bare x))
        (subst (IsPossible (values_written t table (bare x))) word (written-possible (bare x) x itself (writes loc x to)))
        (subst (λ n. least_written t table (bare x) ≤ n) word (no-less (bare x) x itself (writes loc x to))))
      where
        itself : Stands t c (bare x) x
        itself = record { inside = i; same = refl }

        word : x.value ≡ word_in t c loc
        word = sym (last-value (c.coherence loc) (slice_index t.words loc) x last)

        none : not (list_any (is_put_before facts (bare x)) (events_of t)) ≡ true
        none = none-passes (is_put_before facts (bare x)) (events_of t) (λ e j p.
            let o = of-event t c e j in
            last-before-none t c d loc x o.entry last
            (subst (λ l. IsEarlier (c.coherence l) x o.entry) (location loc x to)
            (put-before (bare x) e x o.entry itself (stands-in t c d e o.entry o.inside o.same) (writes loc x to) p)))

    pub has-last : (loc : ℕ) (w : Entry) → IsIn (events t c) w → writes_to loc w ≡ true → HasLastWrite t c facts table loc
    has-last loc w i to = go (last_in (c.coherence loc)) refl
      where
        go : (o : Option Entry) → last_in (c.coherence loc) ≡ o → HasLastWrite t c facts table loc
        go None e = absurd (last-none (c.coherence loc) w e (a.candidate.writes loc w i to))
        go (Some x) e =
            let k = d.coherent loc x (last-is-in (c.coherence loc) x e) in
            let l = filter-in (can_be_last t facts table loc) (events_of t) (bare x) (event-in t c x k.0) (can-be-last loc x k.0 k.1 e) in
            record { write = x; inside = k.0; writes = k.1; is_last = e; among = record { number = l.0; event = bare x; among = l.1; same = refl } }

    -- an order that is known

    before-the-last : (w v x y : Entry) → Stands t c w x → Stands t c v y → is_write x ≡ true → writes_to w.loc.0 v ≡ true
        → not (same_event w v) ≡ true → is_last t facts table v ≡ true → IsBefore c x y
    before-the-last w v x y s u k to apart all =
        subst (IsEarlier (c.coherence x.loc.0) x) same-last
        (before-last t c d x.loc.0 last.write x last.is_last (a.candidate.writes x.loc.0 x s.inside (writes-at x.loc.0 x k refl)) other)
      where
        same-loc : v.loc.0 ≡ x.loc.0
        same-loc = location w.loc.0 v to ∙ ap (λ (z : Entry). z.loc.0) s.same

        to-y : writes_to x.loc.0 y ≡ true
        to-y = subst (λ (z : Entry). writes_to z.loc.0 y ≡ true) s.same (carried-one t c (writes_to w.loc.0) (λ z. refl) v y u to)

        last : HasLastWrite t c facts table x.loc.0
        last = has-last x.loc.0 y u.inside to-y

        same-last : last.write ≡ y
        same-last =
            one-entry t c d last.write y last.inside u.inside
            (sym last.among.same
            ∙ (sym (same-bare v last.among.event
            (all-at (same_event v) (last_writes t facts table x.loc.0) last.among.number last.among.event
            (subst (λ l. list_all (same_event v) (last_writes t facts table l) ≡ true) same-loc all) last.among.among))
            ∙ u.same))

        other : x ≡ last.write → ⊥
        other e =
            let q : same_event w v ≡ true = bare-same w v (s.same ∙ (ap bare (e ∙ same-last) ∙ sym u.same)) in
            let z : ⊥ = cc in z

    pub ordered : IsOrdered t c facts table
    ordered w v x y s u k p =
        elim (or-either (is_put_before facts w v) (writes_to w.loc.0 v && not (same_event w v) && is_last t facts table v) p) [
          | inl q ↦ put-before w v x y s u k q
          | inr q ↦
              let m = and-both (writes_to w.loc.0 v && not (same_event w v)) (is_last t facts table v) q in
              let n = and-both (writes_to w.loc.0 v) (not (same_event w v)) m.0 in
              before-the-last w v x y s u k n.0 n.1 m.1
        ]

    -- the source of a read stays

    one-source : (r y : Entry) → IsIn (events t c) r → is_read r ≡ true → IsIn (events t c) y → is_read y ≡ true → (s : Option Entry)
        → IsSameSource s (c.source r) → IsSameSource s (c.source y) → c.source r ≡ c.source y
    one-source r y i p j q s h k = go s (c.source r) (c.source y) refl refl h k
      where
        go : (s o u : Option Entry) → c.source r ≡ o → c.source y ≡ u → IsSameSource s o → IsSameSource s u → c.source r ≡ c.source y
        go None None None e f h k = e ∙ sym f
        go None None (Some z) e f h k = absurd k
        go None (Some z) u e f h k = absurd h
        go (Some w) None u e f h k = absurd h
        go (Some w) (Some z) None e f h k = absurd k
        go (Some w) (Some z) (Some v) e f h k =
            let same : z ≡ v =
            one-entry t c d z v (source-in t c a.candidate r z i p e).0 (source-in t c a.candidate y v j q f).0 (sym h ∙ k) in
            e ∙ (ap Some same ∙ sym f)

    untaken : (read r : Entry) (s : Option Entry) → Stands t c read r → is_read r ≡ true → IsSameSource s (c.source r)
        → not (is_taken table read s) ≡ true
    untaken read r s at p same = ap not (is-false (is_taken table read s) never)
      where
        never : is_taken table read s ≡ true → ⊥
        never q =
            let b = and-both (same_kind read.kind LR) (list_any (takes read s) table) q in
            let m = any-passes (takes read s) table b.1 in
            let x : Reading = m.member in
            let n =
            and-both (same_kind x.read.kind LR && (x.read.loc.0 == read.loc.0) && not (same_event x.read read))
            (list_all (same_source s) x.sources) m.passes in
            let k = and-both (same_kind x.read.kind LR && (x.read.loc.0 == read.loc.0)) (not (same_event x.read read)) n.0 in
            let l = and-both (same_kind x.read.kind LR) (x.read.loc.0 == read.loc.0) k.0 in
            let row = h.rows m.number x m.stands in
            let o = of-event t c x.read row.event in
            let u : Stands t c x.read o.entry = stands-in t c d x.read o.entry o.inside o.same in
            let kind : o.entry.kind ≡ LR = ap (λ (z : Entry). z.kind) (sym u.same) ∙ equal-kinds x.read.kind LR l.0 in
            let at-read : o.entry.loc.0 ≡ read.loc.0 = ap (λ (z : Entry). z.loc.0) (sym u.same) ∙ same-number x.read.loc.0 read.loc.0 l.1 in
            let f = row.sources o.entry u (load-part-reads o.entry kind) in
            let g : IsSameSource s (c.source o.entry) =
            source-of-same s f.source (c.source o.entry) (all-at (same_source s) x.sources f.number f.source n.1 f.among) f.same in
            let part-r : IsLoadPart t c read.loc.0 r =
            record {
              inside = at.inside;
              kind = ap (λ (z : Entry). z.kind) (sym at.same) ∙ equal-kinds read.kind LR b.0;
              location = ap (λ (z : Entry). z.loc.0) (sym at.same);
            } in
            let part-o : IsLoadPart t c read.loc.0 o.entry = record { inside = o.inside; kind = kind; location = at-read } in
            let one : r ≡ o.entry =
            no_two t c read.loc.0 r o.entry a part-r part-o
            (one-source r o.entry at.inside p o.inside (load-part-reads o.entry kind) s same g) in
            let e : same_event x.read read ≡ true = bare-same x.read read (u.same ∙ (ap bare (sym one) ∙ sym at.same)) in
            clash (same_event x.read read) e (from-not (same_event x.read read) k.1)

    from-possible : (read r : Entry) (s : Option Entry) → Stands t c read r → is_read r ≡ true → IsSameSource s (c.source r)
        → IsPossible (values_from t table read s) r.value
    from-possible read r s at p same = go s (c.source r) (a.candidate.reads r at.inside p) same
      where
        go : (s o : Option Entry) → ReturnsFrom t c r o → IsSameSource s o → IsPossible (values_from t table read s) r.value
        go None None f k =
            subst (IsPossible (Some (slice_index t.words read.loc.0 ∷ [])))
            (ap (λ (z : Entry). slice_index t.words z.loc.0) at.same ∙ sym f) (itself-possible (slice_index t.words read.loc.0))
        go None (Some z) f k = absurd k
        go (Some w) None f k = absurd k
        go (Some w) (Some z) f k =
            subst (IsPossible (values_written t table w)) (sym f.2)
            (written-possible w z (record { inside = f.0; same = k }) (writes r.loc.0 z f.1))

    from-least : (read r : Entry) (s : Option Entry) → Stands t c read r → is_read r ≡ true → IsSameSource s (c.source r)
        → least_from t table read s ≤ r.value
    from-least read r s at p same = go s (c.source r) (a.candidate.reads r at.inside p) same
      where
        go : (s o : Option Entry) → ReturnsFrom t c r o → IsSameSource s o → least_from t table read s ≤ r.value
        go None None f k =
            let e : slice_index t.words read.loc.0 ≡ r.value = ap (λ (z : Entry). slice_index t.words z.loc.0) at.same ∙ sym f in omega arith
        go None (Some z) f k = absurd k
        go (Some w) None f k = absurd k
        go (Some w) (Some z) f k =
            subst (λ n. least_written t table w ≤ n) (sym f.2) (no-less w z (record { inside = f.0; same = k }) (writes r.loc.0 z f.1))

    source-after : (read r : Entry) → Stands t c read r → is_read r ≡ true → HasSourceAmong c r (sources_after t facts table read)
    source-after read r at p =
        let f = h.sources read r at p in
        let j = at-filter (can_read_from t facts table read) (sources_read t table read) f.number f.source f.among (stays f.source f.same) in
        record { number = j.0; source = f.source; among = j.1; same = f.same }
      where
        stays : (s : Option Entry) → IsSameSource s (c.source r) → can_read_from t facts table read s ≡ true
        stays s same =
            and-of (list_all (fits_source read s) facts && is_in_order t read s && not (is_taken table read s)
            && can_be (values_from t table read s) (may_return facts read)) _
            (and-of (list_all (fits_source read s) facts && is_in_order t read s && not (is_taken table read s)) _
            (and-of (list_all (fits_source read s) facts && is_in_order t read s) _
            (and-of (list_all (fits_source read s) facts) _
            (all-met t c (fits_source read s) (λ f g. source-fits t c read r s at same f g) facts met)
            (source-in-order t c d a.uniproc read r s at p same)) (untaken read r s at p same))
            (possible-test (values_from t table read s) (may_return facts read) r.value (from-possible read r s at p same)
            (returns-so t c facts met read r at)))
            (returns-no-less t c facts met read r (least_from t table read s) at (from-least read r s at p same))

    value-after : (read r : Entry) → Stands t c read r → is_read r ≡ true
        → IsPossible (kept (may_return facts read) (values_after t facts table read (sources_after t facts table read))) r.value
    value-after read r at p =
        let f = source-after read r at p in
        kept-possible (may_return facts read) (values_after t facts table read (sources_after t facts table read)) r.value
        (both-possible (any_of (map (values_from t table read) (sources_after t facts table read))) _ r.value
        (any-possible (values_from t table read) (sources_after t facts table read) f.number f.source r.value f.among
        (from-possible read r f.source at p f.same))
        (both-possible (told_value facts read) (counts t facts table read) r.value (told t c facts met read r at)
        (count-possible reads t c a facts table ordered read r at)))
        (returns-so t c facts met read r at)

    least-after : (read r : Entry) → Stands t c read r → is_read r ≡ true → (reading_after t facts table read).least ≤ r.value
    least-after read r at p = go (reading_after t facts table read).values (value-after read r at p)
      where
        go : (vs : Values) → IsPossible vs r.value → least_after t table read (sources_after t facts table read) vs ≤ r.value
        go (Some vs) possible = let k = among-at vs r.value possible in smallest-is vs k.0 r.value k.1
        go None possible =
            let f = source-after read r at p in
            let l : smallest (map (least_from t table read) (sources_after t facts table read)) ≤ least_from t table read f.source =
            smallest-is (map (least_from t table read) (sources_after t facts table read)) f.number (least_from t table read f.source)
            (at-map (least_from t table read) (sources_after t facts table read) f.number f.source f.among) in
            let m : least_from t table read f.source ≤ r.value = from-least read r f.source at p f.same in omega arith

  -- ---- all rounds

  -- to begin with, each write to the location is possible
  any-source : (read r : Entry) → Stands t c read r → is_read r ≡ true → HasSourceAmong c r (sources_of t read)
  any-source read r at p = go (c.source r) refl
    where
      go : (o : Option Entry) → c.source r ≡ o → HasSourceAmong c r (sources_of t read)
      go None e = record { number = 0; source = None; among = refl; same = subst (IsSameSource None) (sym e) tt }
      go (Some z) e =
          let k = source-in t c a.candidate r z at.inside p e in
          let l = filter-in (writes_to read.loc.0) (events_of t) (bare z) (event-in t c z k.0)
          (subst (λ (y : Entry). writes_to y.loc.0 (bare z) ≡ true) (sym at.same) k.1) in
          record {
            number = suc l.0;
            source = Some (bare z);
            among = at-map (λ w. Some w) (filter (writes_to read.loc.0) (events_of t)) l.0 (bare z) l.1;
            same = subst (IsSameSource (Some (bare z))) (sym e) refl;
          }

  module _ (table : List Reading) (h : ArePossible table) where
    next-values : (es : List Entry) → ((e : Entry) → IsIn es e → IsIn (filter is_read (events_of t)) e) → (e : Entry)
        → IsPossible (values_read (map (reading_after t facts table) es) e) (returned_in t c d e)
    next-values [] f e = refl
    next-values (x ∷ xs) f e = go (same_event x e) refl (next-values xs (λ y i. f y (in-later x xs y i)) e)
      where
        go : (b : Bool) → same_event x e ≡ b → IsPossible (values_read (map (reading_after t facts table) xs) e) (returned_in t c d e)
            → IsPossible (if b then kept (may_return facts x) (values_after t facts table x (sources_after t facts table x))
            else values_read (map (reading_after t facts table) xs) e) (returned_in t c d e)
        go true q rest =
            let i = in-filter is_read (events_of t) x (f x (in-first x xs x refl)) in
            let o = of-event t c x i.0 in
            let s : Stands t c x o.entry = stands-in t c d x o.entry o.inside o.same in
            subst (IsPossible (kept (may_return facts x) (values_after t facts table x (sources_after t facts table x))))
            (sym (returns t c d e o.entry (record { inside = o.inside; same = sym (same-bare x e q) ∙ s.same })))
            (value-after table h x o.entry s (carried-one t c is_read (λ z. refl) x o.entry s i.1))
        go false q rest = rest

    next-sources : (es : List Entry) → (read r : Entry) → Stands t c read r → is_read r ≡ true
        → HasSourceAmong c r (sources_read t (map (reading_after t facts table) es) read)
    next-sources [] read r at p = any-source read r at p
    next-sources (x ∷ xs) read r at p = go (same_event x read) refl (next-sources xs read r at p)
      where
        go : (b : Bool) → same_event x read ≡ b → HasSourceAmong c r (sources_read t (map (reading_after t facts table) xs) read)
            → HasSourceAmong c r (if b then sources_after t facts table x else sources_read t (map (reading_after t facts table) xs) read)
        go true q rest = source-after table h x r (record { inside = at.inside; same = same-bare x read q ∙ at.same }) p
        go false q rest = rest

    next-least : (es : List Entry) → AreLeast (map (reading_after t facts table) es)
    next-least [] read r at p = omega arith
    next-least (x ∷ xs) read r at p = go (same_event x read) refl (next-least xs read r at p)
      where
        go : (b : Bool) → same_event x read ≡ b → least_read (map (reading_after t facts table) xs) read ≤ r.value
            → (if b then (reading_after t facts table x).least else least_read (map (reading_after t facts table) xs) read) ≤ r.value
        go true q rest = least-after table h x r (record { inside = at.inside; same = same-bare x read q ∙ at.same }) p
        go false q rest = rest

    next-row : (i : ℕ) (x : Reading) → slice_get (map (reading_after t facts table) (filter is_read (events_of t))) i ≡ Some x → RowIsPossible x
    next-row i x p = go (of-map (reading_after t facts table) (filter is_read (events_of t)) i x p)
      where
        go : (e : Entry) × ((slice_get (filter is_read (events_of t)) i ≡ Some e) × (x ≡ reading_after t facts table e)) → RowIsPossible x
        go (e, (q, s)) = subst RowIsPossible (sym s) (record {
          event = (in-filter is_read (events_of t) e (i, q)).0;
          sources = λ r at k. source-after table h e r at k;
        })

  pub possible : (rounds : ℕ) → ArePossible (readings_after t facts rounds)
  possible zero = record {
    sources = λ read r at p. any-source read r at p;
    values = λ e. refl;
    least = λ read r at p. omega arith;
    rows = λ i x p. let z : ⊥ = cc in absurd z;
  }
  possible (suc rounds) = record {
    sources = λ read r at p. next-sources (readings_after t facts rounds) (possible rounds) (filter is_read (events_of t)) read r at p;
    values = λ e. next-values (readings_after t facts rounds) (possible rounds) (filter is_read (events_of t)) (λ x i. i) e;
    least = λ read r at p. next-least (readings_after t facts rounds) (possible rounds) (filter is_read (events_of t)) read r at p;
    rows = λ i x p. next-row (readings_after t facts rounds) (possible rounds) i x p;
  }

  pub read-possible : (rounds : ℕ) (read r : Entry) → Stands t c read r → is_read r ≡ true
      → ReadIsPossible t c (readings_after t facts rounds) read r
  read-possible rounds read r at p =
      let k = possible rounds in
      record {
        source = k.sources read r at p;
        value =
            subst (IsPossible (values_read (readings_after t facts rounds) read)) (returns t c d read r at) (k.values read);
        least = k.least read r at p;
      }
