-- What is refuted is false of each allowed candidate: it meets the facts of one branch of each question, and those of no leaf.
use Rattle.lemma_refutations.proofs.Vocabulary.{◌≡◌, ◌==◌, ◌&&◌, ℕ, zero, suc, Bool, true, false, not, if◌then◌else◌, List, [], ◌∷◌, ◌++◌}
use Rattle.lemma_refutations.proofs.Vocabulary.{length, Option, Some, None, refl, sym, ap, ◌∙◌, ◌⊎◌, inl, inr, subst, slice_get, append-nil}
use Rattle.lemma_refutations.proofs.Vocabulary.{append_assoc, map, list_any, list_all, Litmus, Entry, IsIn, IsEarlier, Candidate, events}
use Rattle.lemma_refutations.proofs.Vocabulary.{is_read, is_write, writes_to, same_kind, R, LR, LW, IsBefore, filter-in, and-both}
use Rattle.lemma_refutations.proofs.Vocabulary.{number-same, same-number, equal-kinds, one-way, location, writes-at, Sound, sound}
use Rattle.lemma_refutations.proofs.Vocabulary.{IsAllowed, bare, events_of, same_event, is_event, Stands, IsSameSource, last_in, Values}
use Rattle.lemma_refutations.proofs.Vocabulary.{Fact, From, Before, Last, ReturnsValue, Holds, values_read, sources_read, same_source}
use Rattle.lemma_refutations.proofs.Vocabulary.{last_writes, holds_in, IsMet, AreMet, IsPossible, ReadIsPossible, HasLastWrite, Model}
use Rattle.lemma_refutations.proofs.Vocabulary.{IsAllowedBy, Knowledge, known_from, Node, AskSource, ReadsValue, Asks, IsReadBy, ComesLast}
use Rattle.lemma_refutations.proofs.Vocabulary.{HasCase, OnLocation, Globally, Between, FalseClaim, ByLemma, Lemma, is_written_locked}
use Rattle.lemma_refutations.proofs.Vocabulary.{applies, are_values, is_case, is_source_at, may_be_asked, is_node, locked_readers}
use Rattle.lemma_refutations.proofs.Vocabulary.{unread, answers_of_values, answers_of_cases, answers, close, hold}
use Rattle.locked_laws.specs.Turns.{IsWrittenByLockedAlone, IsReadByLocked}
use Rattle.refutation_laws.proofs.Soundness.{as-tso, bare-same}
use Rattle.refutation_laws.proofs.Standing.{Standing, standing, event-in, one-stands, of-event}
use Rattle.refutation_laws.proofs.Cycles.{carried-one}
use Rattle.refutation_laws.proofs.Tests.{any-holds, from-not, or-second, and-of, pick, clash}
use Rattle.lemma_refutations.proofs.Lists.{has-none, any-picked, any-at, all-at, map-at, left-at, right-at, last-at}
use Rattle.lemma_refutations.proofs.Below.{Laws}
use Rattle.lemma_refutations.proofs.Cycles.{no-cycle-on-location, no-cycle-globally, none-between}
use Rattle.lemma_refutations.proofs.Claims.{none-false}
use Rattle.lemma_refutations.proofs.Facts.{same-to, same-through, met-both, met-at, all-known-met}

from-false : (b : Bool) → not b ≡ false → b ≡ true
from-false true h = refl
from-false false h = let z : ⊥ = cc in absurd z

same-itself : (o : Option Entry) → IsSameSource o o
same-itself None = tt
same-itself (Some w) = refl

-- what is told to be one source is, and what isn't is not
so : (o s : Option Entry) → same_source o s ≡ true → IsSameSource o s
so o s h = same-through o s s h (same-itself s)

not-so : (o s : Option Entry) → same_source o s ≡ false → IsSameSource o s → ⊥
not-so o s h e = clash _ (same-to o s s e (same-itself s)) h

module _ (laws : Laws) (model : Model) (t : Litmus) (c : Candidate) (by-model : IsAllowedBy model t c) where
  allowed : IsAllowed t c
  allowed = as-tso model t c by-model

  d : Sound t c
  d = sound t c allowed.candidate

  -- the candidate meets none of these lists of facts
  abbrev NoneMet : List (List Fact) → Type 0
  NoneMet cases = (i : ℕ) (fs : List Fact) → slice_get cases i ≡ Some fs → AreMet t c fs → ⊥

  -- a write to this location
  record Written (loc : ℕ) : Type 0 where
    entry : Entry
    inside : IsIn (events t c) entry
    to : writes_to loc entry ≡ true

  -- ---- questions

  module _ (facts : List Fact) (met : AreMet t c facts) where
    abbrev told : Knowledge
    told = known_from t facts

    read-possible : (r x : Entry) → Stands t c r x → is_read r ≡ true → ReadIsPossible t c told.readings r x
    read-possible r x a read = laws.possible t c facts (length (events_of t)) r x allowed met a (carried-one t c is_read (λ y. refl) r x a read)

    from-met : (r x : Entry) (o : Option Entry) → Stands t c r x → IsSameSource o (c.source x) → IsMet t c (From r o true)
    from-met r x o a h = λ y b. subst (λ z. IsSameSource o (c.source z)) (one-stands t c d r x y a b) h

    from-not-met : (r x : Entry) (o : Option Entry) → Stands t c r x → (IsSameSource o (c.source x) → ⊥) → IsMet t c (From r o false)
    from-not-met r x o a h = λ y b e. h (subst (λ z. IsSameSource o (c.source z)) (one-stands t c d r y x b a) e)

    returns-met : (r x : Entry) → Stands t c r x → (v : ℕ) (b : Bool) → (x.value == v) ≡ b → IsMet t c (ReturnsValue r v b)
    returns-met r x a v b h = λ y e. subst (λ (z : Entry). (z.value == v) ≡ b) (one-stands t c d r x y a e) h

    by-source : (r : Entry) → is_event t r ≡ true → is_read r ≡ true → NoneMet (answers t told (AskSource r)) → ⊥
    by-source r e read none =
        let s = standing t c r e in
        let p = (read-possible r s.entry s.stands read).source in
        none p.number (From r p.source true ∷ [])
        (map-at (λ source. From r source true ∷ []) (sources_read t told.readings r) p.number p.source p.among)
        (from-met r s.entry p.source s.stands p.same, tt)

    by-value : (r : Entry) → is_event t r ≡ true → is_read r ≡ true → are_values (values_read told.readings r) ≡ true
        → NoneMet (answers t told (ReadsValue r)) → ⊥
    by-value r e read is none = go (values_read told.readings r) is (read-possible r s.entry s.stands read).value none
      where
        s : Standing t c r
        s = standing t c r e

        go : (vs : Values) → are_values vs ≡ true → IsPossible vs s.entry.value → NoneMet (answers_of_values r vs) → ⊥
        go None is p none = let z : ⊥ = cc in z
        go (Some vs) is p none =
            let m = any-picked (λ v. v == s.entry.value) vs p in
            let q : m.member ≡ s.entry.value = same-number m.member s.entry.value m.holds in
            none m.place (ReturnsValue r m.member true ∷ []) (map-at (λ v. ReturnsValue r v true ∷ []) vs m.place m.member m.stands)
            (((λ y b. number-same y.value m.member (ap (λ (z : Entry). z.value) (one-stands t c d r y s.entry b s.stands) ∙ sym q))), tt)

    paired : (w v x y : Entry) → Stands t c w x → Stands t c v y → IsBefore c x y → IsMet t c (Before w v)
    paired w v x y a e h = λ m n p q. subst (λ z. IsBefore c z n) (one-stands t c d w x m a p) (subst (IsBefore c x) (one-stands t c d v y n e q) h)

    by-order : (w v : Entry) → is_event t w ≡ true → is_event t v ≡ true → is_write w ≡ true → writes_to w.loc.0 v ≡ true
        → not (same_event w v) ≡ true → NoneMet (answers t told (Asks (Before w v))) → ⊥
    by-order w v e f write to far none =
        go (one-way (c.coherence w.loc.0) x y (allowed.candidate.writes w.loc.0 x at.inside atx) (allowed.candidate.writes w.loc.0 y by.inside toy))
      where
        x : Entry
        x = (standing t c w e).entry

        at : Stands t c w x
        at = (standing t c w e).stands

        y : Entry
        y = (standing t c v f).entry

        by : Stands t c v y
        by = (standing t c v f).stands

        same-loc : x.loc.0 ≡ w.loc.0
        same-loc = ap (λ (z : Entry). z.loc.0) (sym at.same)

        atx : writes_to w.loc.0 x ≡ true
        atx = writes-at w.loc.0 x (carried-one t c is_write (λ z. refl) w x at write) same-loc

        toy : writes_to w.loc.0 y ≡ true
        toy = carried-one t c (writes_to w.loc.0) (λ z. refl) v y by to

        apart : x ≡ y → ⊥
        apart q =
            let h : same_event w v ≡ true = bare-same w v (at.same ∙ (ap bare q ∙ sym by.same)) in
            let z : ⊥ = cc in z

        go : (x ≡ y) ⊎ (IsEarlier (c.coherence w.loc.0) x y ⊎ IsEarlier (c.coherence w.loc.0) y x) → ⊥
        go (inl q) = apart q
        go (inr (inl l)) = none 0 (Before w v ∷ []) refl (paired w v x y at by (subst (λ n. IsEarlier (c.coherence n) x y) (sym same-loc) l), tt)
        go (inr (inr l)) =
            none 1 (Before v w ∷ []) refl
            (paired v w y x by at (subst (λ n. IsEarlier (c.coherence n) y x) (sym (location w.loc.0 y toy)) l), tt)

    -- the first of two answers, or the second
    one-of : (f g : Fact) (b : Bool) → (b ≡ true → IsMet t c f) → (b ≡ false → IsMet t c g) → NoneMet ((f ∷ []) ∷ ((g ∷ []) ∷ [])) → ⊥
    one-of f g true first second none = none 0 (f ∷ []) refl (first refl, tt)
    one-of f g false first second none = none 1 (g ∷ []) refl (second refl, tt)

    by-fact : (f : Fact) → may_be_asked t f ≡ true → NoneMet (answers t told (Asks f)) → ⊥
    by-fact (From r o true) h none =
        let s = standing t c r (and-both (is_event t r) (is_read r) h).0 in
        one-of (From r o true) (From r o false) (same_source o (c.source s.entry)) (λ q. from-met r s.entry o s.stands (so o (c.source s.entry) q))
        (λ q. from-not-met r s.entry o s.stands (not-so o (c.source s.entry) q)) none
    by-fact (From r o false) h none =
        let s = standing t c r (and-both (is_event t r) (is_read r) h).0 in
        one-of (From r o false) (From r o true) (not (same_source o (c.source s.entry)))
        (λ q. from-not-met r s.entry o s.stands (not-so o (c.source s.entry) (from-not _ q)))
        (λ q. from-met r s.entry o s.stands (so o (c.source s.entry) (from-false _ q))) none
    by-fact (Before w v) h none =
        let m = and-both _ (not (same_event w v)) h in
        let n = and-both _ (writes_to w.loc.0 v) m.0 in
        let p = and-both _ (is_write w) n.0 in
        let q = and-both (is_event t w) (is_event t v) p.0 in
        by-order w v q.0 q.1 p.1 n.1 m.1 none
    by-fact (Last w true) h none =
        one-of (Last w true) (Last w false) (same_source (Some w) (last_in (c.coherence w.loc.0))) (so (Some w) (last_in (c.coherence w.loc.0)))
        (not-so (Some w) (last_in (c.coherence w.loc.0))) none
    by-fact (Last w false) h none =
        one-of (Last w false) (Last w true) (not (same_source (Some w) (last_in (c.coherence w.loc.0))))
        (λ q. not-so (Some w) (last_in (c.coherence w.loc.0)) (from-not _ q)) (λ q. so (Some w) (last_in (c.coherence w.loc.0)) (from-false _ q)) none
    by-fact (ReturnsValue r v true) h none =
        let s = standing t c r (and-both (is_event t r) (is_read r) h).0 in
        one-of (ReturnsValue r v true) (ReturnsValue r v false) (s.entry.value == v)
        (returns-met r s.entry s.stands v true) (returns-met r s.entry s.stands v false) none
    by-fact (ReturnsValue r v false) h none =
        let s = standing t c r (and-both (is_event t r) (is_read r) h).0 in
        one-of (ReturnsValue r v false) (ReturnsValue r v true) (not (s.entry.value == v)) (λ q. returns-met r s.entry s.stands v false (from-not _ q))
        (λ q. returns-met r s.entry s.stands v true (from-false _ q)) none
    by-fact (Holds claim true) h none = one-of (Holds claim true) (Holds claim false) (holds_in t c claim) (λ q. q) (λ q. q) none
    by-fact (Holds claim false) h none =
        one-of (Holds claim false) (Holds claim true) (not (holds_in t c claim)) (λ q. from-not _ q) (λ q. from-false _ q) none

    -- ---- locked instructions alone write to the location

    write-there : (loc : ℕ) → list_any (writes_to loc) (events_of t) ≡ true → Written loc
    write-there loc h =
        let m = any-holds (writes_to loc) (events_of t) h in
        let o = of-event t c m.entry m.inside in
        record { entry = o.entry; inside = o.inside; to = subst (λ x. writes_to loc x ≡ true) o.same m.holds }

    locked : (loc : ℕ) → list_all (λ (e : Entry). if writes_to loc e then same_kind e.kind LW else true) (events_of t) ≡ true
        → IsWrittenByLockedAlone t c loc
    locked loc h w i to =
        let j = event-in t c w i in
        let q : (if writes_to loc w then same_kind w.kind LW else true) ≡ true =
        all-at (λ (e : Entry). if writes_to loc e then same_kind e.kind LW else true) (events_of t) j.0 (bare w) h j.1 in
        equal-kinds w.kind LW (subst (λ b. (if b then same_kind w.kind LW else true) ≡ true) to q)

    -- a load part that reads this source is one of the readers
    by-reader : (loc : ℕ) (word s : Option Entry) → IsReadByLocked t c loc s → IsSameSource word s → NoneMet (answers t told (IsReadBy loc word)) → ⊥
    by-reader loc word s f same none =
        none i.0 (From (bare r) word true ∷ [])
        (left-at (map (λ r. From r word true ∷ []) (locked_readers t told loc word)) (unread t told loc word) i.0 (From (bare r) word true ∷ [])
        (map-at (λ r. From r word true ∷ []) (locked_readers t told loc word) i.0 (bare r) i.1))
        (from-met (bare r) r word stands (subst (IsSameSource word) (sym f.reads) same), tt)
      where
        r : Entry
        r = f.reader

        stands : Stands t c (bare r) r
        stands = record { inside = f.part.inside; same = refl }

        part : same_kind r.kind LR ≡ true
        part = subst (λ k. same_kind k LR ≡ true) (sym f.part.kind) refl

        read : is_read r ≡ true
        read = or-second (same_kind r.kind R) _ part

        i : IsIn (locked_readers t told loc word) (bare r)
        i =
            let p = (read-possible (bare r) r stands read).source in
            filter-in (λ (r : Entry). same_kind r.kind LR && (r.loc.0 == loc) && list_any (same_source word) (sources_read t told.readings r))
            (events_of t) (bare r) (event-in t c r f.part.inside)
            (and-of (same_kind r.kind LR && (r.loc.0 == loc)) _
            (and-of (same_kind r.kind LR) _ part (number-same r.loc.0 loc f.part.location))
            (any-at (same_source word) (sources_read t told.readings (bare r)) p.number p.source p.among
            (same-to word p.source (c.source r) (subst (IsSameSource word) (sym f.reads) same) p.same)))

    last-met : (loc : ℕ) (w x : Entry) → Stands t c w x → writes_to loc x ≡ true → last_in (c.coherence loc) ≡ Some x → IsMet t c (Last w true)
    last-met loc w x a to last =
        let at : w.loc.0 ≡ loc = ap (λ (z : Entry). z.loc.0) a.same ∙ location loc x to in
        subst (IsSameSource (Some w)) (sym (ap (λ n. last_in (c.coherence n)) at ∙ last)) a.same

    unread-last : (loc : ℕ) (w x : Entry) → Stands t c w x → writes_to loc x ≡ true → last_in (c.coherence loc) ≡ Some x
        → NoneMet (answers t told (IsReadBy loc (Some w))) → ⊥
    unread-last loc w x a to last none = go (list_any (same_event w) (last_writes t told.facts told.readings loc)) refl
      where
        l : HasLastWrite t c facts told.readings loc
        l = laws.last t c facts (length (events_of t)) loc x allowed met a.inside to

        one : l.write ≡ x
        one = let q : Some l.write ≡ Some x = sym l.is_last ∙ last in cc

        is : list_any (same_event w) (last_writes t told.facts told.readings loc) ≡ true
        is =
            any-at (same_event w) (last_writes t told.facts told.readings loc) l.among.number l.among.event l.among.among
            (bare-same w l.among.event (a.same ∙ (ap bare (sym one) ∙ sym l.among.same)))

        go : (b : Bool) → list_any (same_event w) (last_writes t told.facts told.readings loc) ≡ b → ⊥
        go true q =
            let e : unread t told loc (Some w) ≡ (Last w true ∷ []) ∷ [] = pick _ ((Last w true ∷ []) ∷ []) [] q in
            let i = right-at (map (λ r. From r (Some w) true ∷ []) (locked_readers t told loc (Some w))) (unread t told loc (Some w)) 0 (Last w true ∷ [])
            (ap (λ xs. slice_get xs 0) e) in
            none i.0 (Last w true ∷ []) i.1 (last-met loc w x a to last, tt)
        go false q = clash _ is q

    by-locked : (loc : ℕ) (word : Option Entry) → is_written_locked t loc ≡ true → is_source_at t loc word ≡ true
        → NoneMet (answers t told (IsReadBy loc word)) → ⊥
    by-locked loc None h e none =
        let m = and-both (list_any (writes_to loc) (events_of t)) _ h in
        let w = write-there loc m.0 in
        by-reader loc None None (laws.somebody t c loc w.entry allowed (locked loc m.1) w.inside w.to) tt none
    by-locked loc (Some w) h e none =
        go (laws.each t c loc s.entry allowed (locked loc m.1) s.stands.inside to)
      where
        m : (list_any (writes_to loc) (events_of t) ≡ true)
            × (list_all (λ (e : Entry). if writes_to loc e then same_kind e.kind LW else true) (events_of t) ≡ true)
        m = and-both (list_any (writes_to loc) (events_of t)) _ h

        n : (is_event t w ≡ true) × (writes_to loc w ≡ true)
        n = and-both (is_event t w) (writes_to loc w) e

        s : Standing t c w
        s = standing t c w n.0

        to : writes_to loc s.entry ≡ true
        to = carried-one t c (writes_to loc) (λ z. refl) w s.entry s.stands n.1

        go : (last_in (c.coherence loc) ≡ Some s.entry) ⊎ IsReadByLocked t c loc (Some s.entry) → ⊥
        go (inl last) = unread-last loc w s.entry s.stands to last none
        go (inr f) = by-reader loc (Some w) (Some s.entry) f s.stands.same none

    by-last : (loc : ℕ) → list_any (writes_to loc) (events_of t) ≡ true → NoneMet (answers t told (ComesLast loc)) → ⊥
    by-last loc h none =
        let w = write-there loc h in
        let l = laws.last t c facts (length (events_of t)) loc w.entry allowed met w.inside w.to in
        none l.among.number (Last l.among.event true ∷ [])
        (map-at (λ w. Last w true ∷ []) (last_writes t told.facts told.readings loc) l.among.number l.among.event l.among.among)
        (last-met loc l.among.event l.write (record { inside = l.inside; same = l.among.same }) l.writes l.is_last, tt)

    by-case : (n : ℕ) (f : Option Fact) → slice_get told.facts n ≡ f → is_case f ≡ true → NoneMet (answers_of_cases t f) → ⊥
    by-case n None e h none = let z : ⊥ = cc in z
    by-case n (Some (From read write truth)) e h none = let z : ⊥ = cc in z
    by-case n (Some (Before first second)) e h none = let z : ⊥ = cc in z
    by-case n (Some (Last write truth)) e h none = let z : ⊥ = cc in z
    by-case n (Some (ReturnsValue read value truth)) e h none = let z : ⊥ = cc in z
    by-case n (Some (Holds claim truth)) e h none =
        let o = laws.cases t c claim truth allowed.candidate (met-at t c facts n (Holds claim truth) met e) in
        none o.number o.facts o.one o.met

    -- ---- a node

    abbrev Sound-lemmas : List Lemma → Type 0
    Sound-lemmas lemmas = (i : ℕ) (l : Lemma) → slice_get lemmas i ≡ Some l → AreMet t c l.facts → ⊥

    by-lemma : (lemmas : List Lemma) → Sound-lemmas lemmas → (i : ℕ) (l : Option Lemma) → slice_get lemmas i ≡ l → applies t told l ≡ true → ⊥
    by-lemma lemmas sound i None e h = let z : ⊥ = cc in z
    by-lemma lemmas sound i (Some l) e h = sound i l e (all-known-met laws t c allowed facts met l.facts h)

    at-node : (lemmas : List Lemma) → Sound-lemmas lemmas → (n : Node) → is_node model t lemmas told n ≡ true → NoneMet (answers t told n) → ⊥
    at-node lemmas sound (AskSource r) h none = let m = and-both (is_event t r) (is_read r) h in by-source r m.0 m.1 none
    at-node lemmas sound (ReadsValue r) h none =
        let m = and-both _ (are_values (values_read told.readings r)) h in
        let n = and-both (is_event t r) (is_read r) m.0 in
        by-value r n.0 n.1 m.1 none
    at-node lemmas sound (Asks fact) h none = by-fact fact h none
    at-node lemmas sound (IsReadBy loc word) h none = let m = and-both (is_written_locked t loc) (is_source_at t loc word) h in by-locked loc word m.0 m.1 none
    at-node lemmas sound (ComesLast loc) h none = by-last loc h none
    at-node lemmas sound (HasCase n) h none = by-case n (slice_get told.facts n) refl h none
    at-node lemmas sound (OnLocation cycle) h none = no-cycle-on-location laws.possible laws.ordered t c allowed facts met allowed cycle h
    at-node lemmas sound (Globally cycle) h none = no-cycle-globally laws.possible laws.ordered t c allowed facts met model by-model cycle h
    at-node lemmas sound (Between r v w) h none = none-between laws.possible laws.ordered t c allowed facts met allowed.atomic r v w h
    at-node lemmas sound FalseClaim h none = none-false laws.words laws.registers t c allowed facts met facts met h
    at-node lemmas sound (ByLemma i) h none = by-lemma lemmas sound i (slice_get lemmas i) refl h

  -- ---- trees

  abbrev AreSound : List Lemma → Type 0
  AreSound lemmas = (i : ℕ) (l : Lemma) → slice_get lemmas i ≡ Some l → AreMet t c l.facts → ⊥

  none-met : (lemmas : List Lemma) → AreSound lemmas → (cases : List (List Fact)) (ns : List Node) → close model t lemmas cases ns ≡ true → NoneMet cases
  none-met lemmas sound [] ns h i fs e m = has-none fs (i, e)
  none-met lemmas sound (facts ∷ rest) [] h i fs e m = let z : ⊥ = cc in z
  none-met lemmas sound (facts ∷ rest) (n ∷ ns) h i fs e m =
      go i e (none-met lemmas sound (below ++ rest) ns p.1)
    where
      below : List (List Fact)
      below = map (λ answer. answer ++ facts) (answers t (known_from t facts) n)

      p : (is_node model t lemmas (known_from t facts) n ≡ true) × (close model t lemmas (below ++ rest) ns ≡ true)
      p = and-both (is_node model t lemmas (known_from t facts) n) (close model t lemmas (below ++ rest) ns) h

      go : (i : ℕ) → slice_get (facts ∷ rest) i ≡ Some fs → NoneMet (below ++ rest) → ⊥
      go zero e none =
          let q : facts ≡ fs = cc in
          let met : AreMet t c facts = subst (AreMet t c) (sym q) m in
          at-node facts met lemmas sound n p.0
          (λ j a f g.
          none j (a ++ facts)
          (left-at below rest j (a ++ facts) (map-at (λ answer. answer ++ facts) (answers t (known_from t facts) n) j a f))
          (met-both t c a facts g met))
      go (suc j) e none = let k = right-at below rest j fs e in none k.0 fs k.1 m

  -- ---- lemmas

  -- one more lemma, whose tree is shown below these
  one-more : (given : List Fact) → AreMet t c given → (shown : List Lemma) (lemma : Lemma) → AreSound shown
      → close model t shown ((lemma.facts ++ given) ∷ []) lemma.tree ≡ true → AreSound (shown ++ (lemma ∷ []))
  one-more given met shown lemma sound h i l e m = elim (last-at shown lemma i l e) [
    | inl f ↦ sound i l f m
    | inr q ↦
        none-met shown sound ((lemma.facts ++ given) ∷ []) lemma.tree h 0 (lemma.facts ++ given) refl
        (met-both t c lemma.facts given (subst (λ (x : Lemma). AreMet t c x.facts) q m) met)
  ]

  all-sound : (given : List Fact) → AreMet t c given → (shown rest : List Lemma) → AreSound shown → hold model t given shown rest ≡ true
      → AreSound (shown ++ rest)
  all-sound given met shown [] sound h = subst AreSound (sym (append-nil shown)) sound
  all-sound given met shown (lemma ∷ rest) sound h =
      let p = and-both (close model t shown ((lemma.facts ++ given) ∷ []) lemma.tree) (hold model t given (shown ++ (lemma ∷ [])) rest) h in
      subst AreSound (append_assoc shown (lemma ∷ []) rest)
      (all-sound given met (shown ++ (lemma ∷ [])) rest (one-more given met shown lemma sound p.0) p.1)

  -- no candidate that the model allows meets what is refuted
  pub never-met : (given : List Fact) (lemmas : List Lemma) (ns : List Node) → hold model t given [] lemmas ≡ true
      → close model t lemmas (given ∷ []) ns ≡ true → AreMet t c given → ⊥
  never-met given lemmas ns h g met =
      none-met lemmas (all-sound given met [] lemmas (λ i l e m. has-none l (i, e)) h) (given ∷ []) ns g 0 given refl met
