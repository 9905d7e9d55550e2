-- What is shown of an execution is its candidate; what is shown of a refutation, its lines.
use Rattle.search_report.proofs.Vocabulary.{ℕ, suc, zero, ◌+◌, ◌||◌, ◌≡◌, ◌≤◌, ◌<◌, Bool, true, false, cond, List, [], ◌∷◌, ◌++◌, length}
use Rattle.search_report.proofs.Vocabulary.{take, take_all, length-drop, ◌-◌, drop, get_or, map, Option, Some, None, refl, sym, ap, ◌∙◌}
use Rattle.search_report.proofs.Vocabulary.{arith, subst, append_assoc, All, filter, slice_get, slice_index_or, codes, flat_map, list_any}
use Rattle.search_report.proofs.Vocabulary.{at_drop_more, drop_more, append-nil, drop_all, Data, Members, no_members, member, put, object}
use Rattle.search_report.proofs.Vocabulary.{array, string, items_of, Litmus, is_read, writes_to, is_before, made, final_words}
use Rattle.search_report.proofs.Vocabulary.{final_registers, Choice, Entry, IsIn, IsCandidateOf, LeaveTheSame, last_in, IsExecutionOf}
use Rattle.search_report.proofs.Vocabulary.{Model, value_members, printed_entry, line, test_line, looked_at, verdict_line}
use Rattle.search_report.proofs.Vocabulary.{outcomes_verdict_value, model_name, asked_line, from_line, reads_of, coherence_lines}
use Rattle.search_report.proofs.Vocabulary.{coherence_line, allowed_text, asked_value, from_value, coherence_members, with_coherence}
use Rattle.search_report.proofs.Vocabulary.{allowed_value, Reading, Named, NameExists, allowed_in, ShowsExecution, last_or, ReadsIt, AreIn}
use Rattle.search_report.proofs.Vocabulary.{AreReadings, IsShown, read_with_source, reading_line, reading_value, coherence_by}
use Rattle.search_report.proofs.Vocabulary.{coherence_members_by, drop-cons, values_in, shown_value}
use Rattle.tso_terms.specs.Axioms.{counting, IsTsoExecution}
use Rattle.relational_model.specs.Candidates.{Candidate, words_left}
use Rattle.refutation_laws.specs.declared.model.Model.TheVariants.{Tso, Sequential}
use Rattle.scheduler.specs.Printed.{printed_after, printed_choices}
use Rattle.tso_report.specs.Tally.{printed_values}
use Rattle.search_report.specs.Outcomes.{by_line, state_line}
use Rattle.search_report.specs.ReasonText.{source_text, read_source}
use Rattle.search_report.specs.inner.ShownExecutions.{event_of, event_of_write}
use Rattle.search_report.specs.declared.shown.Event.{Event}

-- ---- the last write

last-is : (x : Entry) (xs : List Entry) → last_in (x ∷ xs) ≡ last_or (Some x) xs
last-is x [] = refl
last-is x (y ∷ ys) = last-is y ys

pub last-of : (xs : List Entry) → last_in xs ≡ last_or None xs
last-of [] = refl
last-of (x ∷ xs) = last-is x xs

last-both : (e : Option Entry) (xs ys : List Entry) → last_or e (xs ++ ys) ≡ last_or (last_or e xs) ys
last-both e [] ys = refl
last-both e (x ∷ xs) ys = last-both (Some x) xs ys

filter-both : (p : Entry → Bool) (xs ys : List Entry) → filter p (xs ++ ys) ≡ filter p xs ++ filter p ys
filter-both p [] ys = refl
filter-both p (x ∷ xs) ys = by-case (p x) (filter-both p xs ys)
  where
    by-case : (b : Bool) → filter p (xs ++ ys) ≡ filter p xs ++ filter p ys
        → cond b (x ∷ filter p (xs ++ ys)) (filter p (xs ++ ys)) ≡ cond b (x ∷ filter p xs) (filter p xs) ++ filter p ys
    by-case true e = ap (λ zs. x ∷ zs) e
    by-case false e = e

pub last-counting : (r : Entry) (front back : List Entry) (before after : Option Entry) → before ≡ last_in (filter (writes_to r.loc.0) front)
    → after ≡ last_or before (filter (writes_to r.loc.0) (filter (λ (e : Entry). is_before e r) back)) → after ≡ last_in (counting r front back)
last-counting r front back before after b a =
    a
    ∙ (ap (λ e. last_or e later) (b ∙ last-of (filter (writes_to r.loc.0) front))
    ∙ sym (last-of (counting r front back) ∙ (ap (last_or None) (filter-both (writes_to r.loc.0) front (filter (λ (e : Entry). is_before e r) back))
    ∙ last-both None (filter (writes_to r.loc.0) front) later)))
  where
    later : List Entry
    later = filter (writes_to r.loc.0) (filter (λ (e : Entry). is_before e r) back)

-- one entry more
pub last-more : (p : Entry → Bool) (xs : List Entry) (i j : ℕ) (x : Entry) → i < length xs → j ≡ i + 1 → x ≡ get_or xs i x
    → (b : Bool) → b ≡ p x → (last : Option Entry)
    → last_or last (filter p (drop i xs)) ≡ last_or (cond b (Some x) last) (filter p (drop j xs))
last-more p xs i j x within more is b e last =
    at_drop_more (λ ys. last_or last (filter p ys)) xs i x within
    ∙ (ap (λ y. last_or last (cond (p y) (y ∷ filter p (drop (i + 1) xs)) (filter p (drop (i + 1) xs)))) (sym is)
    ∙ (ap (λ c. last_or last (cond c (x ∷ filter p (drop (i + 1) xs)) (filter p (drop (i + 1) xs)))) (sym e) ∙ (by-case b
    ∙ ap (λ n. last_or (cond b (Some x) last) (filter p (drop n xs))) (sym more))))
  where
    by-case : (c : Bool) → last_or last (cond c (x ∷ filter p (drop (i + 1) xs)) (filter p (drop (i + 1) xs)))
        ≡ last_or (cond c (Some x) last) (filter p (drop (i + 1) xs))
    by-case true = refl
    by-case false = refl

-- the last one of those before a read, and then of those of its own program behind it
pub reads-last : (order : List Entry) (r : Entry) (at n m : ℕ) (before after : Option Entry) (w : Option Event)
    → order ≡ take at order ++ (r ∷ drop (at + 1) order)
    → last_in (filter (writes_to r.loc.0) (take at order)) ≡ last_or before (filter (writes_to r.loc.0) (drop n (take at order)))
    → length (take at order) ≤ n → (back : List Entry) → back ≡ take (length order - (at + 1)) (drop (at + 1) order)
    → last_or before (filter (writes_to r.loc.0) (filter (λ (e : Entry). is_before e r) back))
    ≡ last_or after (filter (writes_to r.loc.0) (filter (λ (e : Entry). is_before e r) (drop m back)))
    → length back ≤ m → w ≡ event_of_write after → ReadsIt order r w
reads-last order r at n m before after w place first past back is second over e = record {
  front = take at order;
  back = back;
  place =
      place
      ∙ ap (λ es. take at order ++ (r ∷ es))
      (sym (is ∙ take_all (length order - (at + 1)) (drop (at + 1) order) (omega (arith, length-drop (at + 1) order))));
  source = e ∙ ap event_of_write (last-counting r (take at order) back before after
      (sym (first ∙ ap (λ es. last_or before (filter (writes_to r.loc.0) es)) (drop_all n (take at order) past)))
      (sym (second ∙ ap (λ es. last_or after (filter (writes_to r.loc.0) (filter (λ (x : Entry). is_before x r) es))) (drop_all m back over))));
}

-- ---- the reads

abbrev paired : Event → Option Event → Reading
paired r w = record { read = r; write = w }

pub all-in : (order es : List Entry) → ((k : ℕ) (e : Entry) → slice_get es k ≡ Some e → IsIn order e) → AreIn order es
all-in order [] h = tt
all-in order (e ∷ es) h = (h 0 e refl, all-in order es (λ k x is. h (suc k) x is))

in-get : (order es : List Entry) (i : ℕ) (d : Entry) → i < length es → AreIn order es → IsIn order (get_or es i d)
in-get order [] i d w h = absurd (omega (arith, w))
in-get order (e ∷ es) zero d w h = h.0
in-get order (e ∷ es) (suc i) d w h = in-get order es i d (omega (arith, w)) h.1

module _ (t : Litmus) (order : List Entry) (c : Candidate) (of : IsCandidateOf t order c) where
  readings-are : (es : List Entry) (xs : List Reading) → AreReadings order (filter is_read es) xs → xs ≡ map (read_with_source c) (filter is_read es)
  readings-are [] [] h = refl
  readings-are [] (x ∷ xs) h = absurd h
  readings-are (e ∷ es) xs h = by-case (λ zs. readings-are es zs) (is_read e) refl xs h
    where
      by-case : ((zs : List Reading) → AreReadings order (filter is_read es) zs → zs ≡ map (read_with_source c) (filter is_read es))
          → (b : Bool) → is_read e ≡ b → (ys : List Reading) → AreReadings order (cond b (e ∷ filter is_read es) (filter is_read es)) ys
          → ys ≡ map (read_with_source c) (cond b (e ∷ filter is_read es) (filter is_read es))
      by-case ih false is ys k = ih ys k
      by-case ih true is [] k = absurd k
      by-case ih true is (y ∷ ys) k =
          let source : y.write ≡ event_of_write (c.source e) =
          k.1.source ∙ ap event_of_write (sym (of.sources k.1.front e k.1.back k.1.place is)) in
          ap (λ (r : Event). paired r y.write ∷ ys) k.0
          ∙ (ap (λ (w : Option Event). paired (event_of e) w ∷ ys) source ∙ ap (λ zs. read_with_source c e ∷ zs) (ih ys k.2))

  pub shown-is : LeaveTheSame t order c → (xs : List Reading) → AreReadings order (filter is_read (made t order)) xs → (vs : List ℕ)
      → vs ≡ map (shown_value (final_registers t order) (final_words t order)) (looked_at t) → IsShown t order xs vs c
  shown-is same xs are vs is = record {
    readings = readings-are (made t order) xs are ∙ ap (λ es. map (read_with_source c) (filter is_read es)) (sym of.events);
    coherence = of.coherence;
    values = is ∙ sym (ap (λ rs. values_in t rs (words_left t c)) same.registers ∙ ap (values_in t (final_registers t order)) same.memory);
  }

-- ---- as it is printed

source-is : (t : Litmus) (w : Option Entry) → source_text t (event_of_write w) ≡ read_source t w
source-is t None = refl
source-is t (Some w) = refl

abbrev with-source : Litmus → Entry → List ℕ → Data
with-source t r text = object (member (codes "read") (string (printed_entry t r)) (member (codes "write") (string text) no_members))

module _ (t : Litmus) (order : List Entry) (c : Candidate) (same : (loc : ℕ) → c.coherence loc ≡ filter (writes_to loc) order) where
  pub reads-lines : (rs : List Entry) → flat_map (reading_line t) (map (read_with_source c) rs) ≡ flat_map (from_line t c) rs
  reads-lines [] = refl
  reads-lines (r ∷ rs) =
      ap (λ text. (codes "From " ++ (printed_entry t r ++ (codes " " ++ line text))) ++ flat_map (reading_line t) (map (read_with_source c) rs))
      (source-is t (c.source r))
      ∙ ap (λ bytes. from_line t c r ++ bytes) (reads-lines rs)

  pub reads-values : (rs : List Entry) → map (reading_value t) (map (read_with_source c) rs) ≡ map (from_value t c) rs
  reads-values [] = refl
  reads-values (r ∷ rs) =
      ap (λ text. with-source t r text ∷ map (reading_value t) (map (read_with_source c) rs)) (source-is t (c.source r))
      ∙ ap (λ vs. from_value t c r ∷ vs) (reads-values rs)

  pub locations-lines : (names : List (List ℕ)) (loc : ℕ) → coherence_by t order loc names ≡ coherence_lines t c loc names
  locations-lines [] loc = refl
  locations-lines (name ∷ names) loc =
      let next : loc + 1 ≡ suc loc = omega arith in
      ap (λ ws. coherence_line t name ws ++ coherence_by t order (loc + 1) names) (sym (same loc))
      ∙ ap (λ bytes. coherence_line t name (c.coherence loc) ++ bytes) (ap (λ n. coherence_by t order n names) next ∙ locations-lines names (suc loc))

  pub locations-members : (names : List (List ℕ)) (loc : ℕ) → coherence_members_by t order loc names ≡ coherence_members t c loc names
  locations-members [] loc = refl
  locations-members (name ∷ names) loc =
      let next : loc + 1 ≡ suc loc = omega arith in
      ap (λ ws. with_coherence t name ws (coherence_members_by t order (loc + 1) names)) (sym (same loc))
      ∙ ap (λ (ms : Members). with_coherence t name (c.coherence loc) ms)
      (ap (λ n. coherence_members_by t order n names) next ∙ locations-members names (suc loc))

abbrev lines-with : Model → Litmus → List Choice → List ℕ → List ℕ → List ℕ → List ℕ
lines-with model t choices r q v =
    test_line t ++ (codes "Allowed " ++ (line (model_name model) ++ (asked_line t.condition
    ++ (r ++ (q ++ (by_line choices ++ (state_line t (looked_at t) v ++ verdict_line t.condition true)))))))

-- the lines of these parts, and a value of these
abbrev lines-from : (n m a r q b v w : List ℕ) → List ℕ
lines-from n m a r q b v w =
    (codes "Test " ++ line n) ++ (codes "Allowed " ++ (line m ++ (a ++ (r ++ (q ++ ((codes "By" ++ line b) ++ ((codes "State" ++ line v) ++ w)))))))

abbrev pub value-from : Litmus → List Choice → List ℕ → List ℕ → List Data → Members → Members → Data
value-from t choices n m d ms vs =
    object (member (codes "answer") (string (codes "allowed"))
    (member (codes "asked") (asked_value t.condition)
    (member (codes "choices") (string (printed_choices choices))
    (member (codes "coherence") (object ms)
    (member (codes "model") (string m)
    (member (codes "sources") (array (items_of d))
    (member (codes "test") (string n)
    (member (codes "values") (object vs)
    (member (codes "verdict") (outcomes_verdict_value t.condition true) no_members)))))))))

-- the test, and the model that allows what it asks
abbrev head-of : (n m : List ℕ) → List ℕ
head-of n m = codes "Test " ++ (n ++ ((10 ∷ codes "Allowed ") ++ (m ++ ((10 ∷ []) ++ []))))

joined : (o n m a r q b v w : List ℕ)
    → (((((((((o ++ head-of n m) ++ a) ++ r) ++ q) ++ codes "By") ++ b) ++ (10 ∷ codes "State")) ++ v) ++ (10 ∷ [])) ++ w
    ≡ o ++ lines-from n m a r q b v w
joined o n m a r q b v w = simp (append_assoc, append-nil)

module _ (model : Model) (t : Litmus) (order : List Entry) (xs : List Reading) (vs : List ℕ) (choices : List Choice) (c : Candidate)
    (shown : IsShown t order xs vs c) (n m : List ℕ) (ns : List Named) (hn : n ≡ t.name) (hm : m ≡ model_name model) (hs : ns ≡ looked_at t) where
  abbrev a : List ℕ
  a = asked_line t.condition

  abbrev q : List ℕ
  q = coherence_by t order 0 t.locations

  abbrev w : List ℕ
  w = verdict_line t.condition true

  pub text-is : (o : List ℕ)
      → (((((((((o ++ head-of n m) ++ a) ++ flat_map (reading_line t) xs) ++ q) ++ codes "By") ++ printed_after choices) ++ (10 ∷ codes "State"))
      ++ printed_values t ns vs) ++ (10 ∷ [])) ++ w
      ≡ o ++ allowed_text model t c choices
  text-is o =
      joined o n m a (flat_map (reading_line t) xs) q (printed_after choices) (printed_values t ns vs) w
      ∙ ap (λ lines. o ++ lines)
      (ap (λ z. lines-from z m a (flat_map (reading_line t) xs) q (printed_after choices) (printed_values t ns vs) w) hn
      ∙ (ap (λ z. lines-from t.name z a (flat_map (reading_line t) xs) q (printed_after choices) (printed_values t ns vs) w) hm
      ∙ (ap (λ z. lines-from t.name (model_name model) a (flat_map (reading_line t) xs) q (printed_after choices) (printed_values t z vs) w) hs
      ∙ (ap (λ r. lines-with model t choices r q vs) (ap (flat_map (reading_line t)) shown.readings ∙ reads-lines t order c shown.coherence (reads_of t c))
      ∙ (ap (λ p. lines-with model t choices (flat_map (from_line t c) (reads_of t c)) p vs) (locations-lines t order c shown.coherence t.locations 0)
      ∙ ap (λ v. lines-with model t choices (flat_map (from_line t c) (reads_of t c)) (coherence_lines t c 0 t.locations) v) shown.values)))))

  pub value-is : value-from t choices n m (map (reading_value t) xs) (coherence_members_by t order 0 t.locations)
      (value_members t ns vs)
      ≡ allowed_value model t c choices
  value-is =
      ap (λ z. value-from t choices z m (map (reading_value t) xs) (coherence_members_by t order 0 t.locations) (value_members t ns vs)) hn
      ∙ (ap (λ z. value-from t choices t.name z (map (reading_value t) xs) (coherence_members_by t order 0 t.locations) (value_members t ns vs)) hm
      ∙ (ap (λ z.
      value-from t choices t.name (model_name model) (map (reading_value t) xs)
      (coherence_members_by t order 0 t.locations) (value_members t z vs))
      hs
      ∙ (ap (λ (d : List Data).
      value-from t choices t.name (model_name model) d (coherence_members_by t order 0 t.locations) (value_members t (looked_at t) vs))
      (ap (map (reading_value t)) shown.readings ∙ reads-values t order c shown.coherence (reads_of t c))
      ∙ (ap (λ (ms : Members). value-from t choices t.name (model_name model) (map (from_value t c) (reads_of t c)) ms (value_members t (looked_at t) vs))
      (locations-members t order c shown.coherence t.locations 0)
      ∙ ap (λ v.
      value-from t choices t.name (model_name model) (map (from_value t c) (reads_of t c))
      (coherence_members t c 0 t.locations) (value_members t (looked_at t) v))
      shown.values))))

-- ---- a refutation

abbrev pub never-from : (n m d a s v : List ℕ) → List ℕ
never-from n m d a s v = (codes "Test " ++ line n) ++ ((codes "Never " ++ (m ++ (codes " leaves=" ++ line d))) ++ (a ++ (s ++ v)))

abbrev pub never-head : (n m d : List ℕ) → List ℕ
never-head n m d = codes "Test " ++ (n ++ ((10 ∷ codes "Never ") ++ (m ++ (codes " leaves=" ++ (d ++ ((10 ∷ []) ++ []))))))

pub never-joined : (n m d a s v : List ℕ) → ((([] ++ never-head n m d) ++ a) ++ s) ++ v ≡ never-from n m d a s v
never-joined n m d a s v = simp (append_assoc, append-nil)

-- ---- where no write goes, and where one does

pub none-go : (p : Entry → Bool) (xs : List Entry) → list_any p xs ≡ false → filter p xs ≡ []
none-go p [] h = refl
none-go p (x ∷ xs) h = by-case (p x) h (none-go p xs)
  where
    by-case : (b : Bool) → (b || list_any p xs) ≡ false → (list_any p xs ≡ false → filter p xs ≡ []) → cond b (x ∷ filter p xs) (filter p xs) ≡ []
    by-case true k rest = cc
    by-case false k rest = rest k

pub some-go : (p : Entry → Bool) (xs : List Entry) → list_any p xs ≡ true → (x : Entry) × (ys : List Entry) × (filter p xs ≡ x ∷ ys)
some-go p [] h = cc
some-go p (x ∷ xs) h = by-case (p x) h (some-go p xs)
  where
    by-case : (b : Bool) → (b || list_any p xs) ≡ true → (list_any p xs ≡ true → (y : Entry) × (ys : List Entry) × (filter p xs ≡ y ∷ ys))
        → (y : Entry) × (ys : List Entry) × (cond b (x ∷ filter p xs) (filter p xs) ≡ y ∷ ys)
    by-case true k rest = (x, filter p xs, refl)
    by-case false k rest = rest k

pub line-is : (t : Litmus) (name : List ℕ) (p : Entry → Bool) (xs : List Entry) → list_any p xs ≡ true
    → coherence_line t name (filter p xs) ≡ codes "Coherence " ++ (name ++ line (flat_map (λ (v : Entry). codes " " ++ printed_entry t v) (filter p xs)))
line-is t name p xs h =
    let some : (x : Entry) × (ys : List Entry) × (filter p xs ≡ x ∷ ys) = some-go p xs h in
    ap (coherence_line t name) some.2
    ∙ sym (ap (λ ws. codes "Coherence " ++ (name ++ line (flat_map (λ (v : Entry). codes " " ++ printed_entry t v) ws))) some.2)

pub member-is : (t : Litmus) (name : List ℕ) (p : Entry → Bool) (xs : List Entry) (ms : Members) → list_any p xs ≡ true
    → with_coherence t name (filter p xs) ms ≡ put name (array (items_of (map (λ v. string (printed_entry t v)) (filter p xs)))) ms
member-is t name p xs ms h =
    let some : (x : Entry) × (ys : List Entry) × (filter p xs ≡ x ∷ ys) = some-go p xs h in
    ap (λ ws. with_coherence t name ws ms) some.2
    ∙ sym (ap (λ ws. put name (array (items_of (map (λ v. string (printed_entry t v)) ws))) ms) some.2)

-- the line of a location, and the lines of those after it
pub coherence-more : (t : Litmus) (order : List Entry) (names : List (List ℕ)) (n : ℕ) (old new whole : List ℕ) → n < length names
    → new ≡ old ++ coherence_line t (slice_index_or names n []) (filter (writes_to n) order)
    → old ++ coherence_by t order n (drop n names) ≡ whole → new ++ coherence_by t order (n + 1) (drop (n + 1) names) ≡ whole
coherence-more t order names n old new whole w e h =
    let here = coherence_line t (slice_index_or names n []) (filter (writes_to n) order) in
    let rest = coherence_by t order (n + 1) (drop (n + 1) names) in
    ap (λ z. z ++ rest) e ∙ (append_assoc old here rest ∙ (sym (ap (λ ns. old ++ coherence_by t order n ns) (drop_more names n [] w)) ∙ h))

-- the member of a location, and the members of those after it
pub members-more : (t : Litmus) (order : List Entry) (names : List (List ℕ)) (n m : ℕ) (old new : Members) → n < length names → m ≡ n + 1
    → new ≡ with_coherence t (slice_index_or names n []) (filter (writes_to n) order) old
    → old ≡ coherence_members_by t order m (drop m names) → new ≡ coherence_members_by t order n (drop n names)
members-more t order names n m old new w next e h =
    e
    ∙ (ap (λ (ms : Members). with_coherence t (slice_index_or names n []) (filter (writes_to n) order) ms)
    (h ∙ ap (λ i. coherence_members_by t order i (drop i names)) next)
    ∙ sym (ap (λ ns. coherence_members_by t order n ns) (drop_more names n [] w)))

-- ---- the readings, one by one

pub in-one : (order es : List Entry) (i : ℕ) (d : Entry) → i < length es → AreIn order es → IsIn order (get_or es i d)
in-one order es i d w h = in-get order es i d w h

abbrev pub Completes : List Entry → List Entry → ℕ → List Reading → Type 0
Completes order es i all = (rest : List Reading) → AreReadings order (filter is_read (drop i es)) rest → AreReadings order (filter is_read es) (all ++ rest)

module _ (order es : List Entry) (i j : ℕ) (d : Entry) (within : i < length es) (next : j ≡ i + 1) (b : Bool) (is : b ≡ is_read (get_or es i d))
    (all news : List Reading) (so : Completes order es i all) where
  here : filter is_read (drop i es) ≡ cond b (get_or es i d ∷ filter is_read (drop j es)) (filter is_read (drop j es))
  here =
      let one-on : suc i ≡ j = omega (arith, next) in
      ap (filter is_read) (drop-cons es i d within ∙ ap (λ n. get_or es i d ∷ drop n es) one-on)
      ∙ ap (λ (x : Bool). cond x (get_or es i d ∷ filter is_read (drop j es)) (filter is_read (drop j es))) (sym is)

  pub reading-more : b ≡ true → (x : Reading) → x.read ≡ event_of (get_or es i d) → ReadsIt order (get_or es i d) x.write → news ≡ all ++ (x ∷ [])
      → Completes order es j news
  reading-more h x same reads e = λ rest k.
      let left : filter is_read (drop i es) ≡ get_or es i d ∷ filter is_read (drop j es) =
      here ∙ ap (λ (y : Bool). cond y (get_or es i d ∷ filter is_read (drop j es)) (filter is_read (drop j es))) h in
      let together : all ++ (x ∷ rest) ≡ news ++ rest = sym (ap (λ ys. ys ++ rest) e ∙ append_assoc all (x ∷ []) rest) in
      subst (AreReadings order (filter is_read es)) together
      (so (x ∷ rest) (subst (λ rs. AreReadings order rs (x ∷ rest)) (sym left) (same, reads, k)))

  pub reading-less : b ≡ false → news ≡ all → Completes order es j news
  reading-less h e = λ rest k.
      let left : filter is_read (drop i es) ≡ filter is_read (drop j es) =
      here ∙ ap (λ (y : Bool). cond y (get_or es i d ∷ filter is_read (drop j es)) (filter is_read (drop j es))) h in
      subst (λ ys. AreReadings order (filter is_read es) (ys ++ rest)) (sym e)
      (so rest (subst (λ rs. AreReadings order rs rest) (sym left) k))

pub readings-done : (order es : List Entry) (i : ℕ) (all : List Reading) → length es ≤ i → Completes order es i all
    → AreReadings order (filter is_read es) all
readings-done order es i all over so =
    subst (AreReadings order (filter is_read es)) (append-nil all)
    (so [] (subst (λ rs. AreReadings order (filter is_read rs) []) (sym (drop_all i es over)) tt))

-- ---- an execution

pub tso-of : (model : Model) (t : Litmus) (order : List Entry) → IsExecutionOf model t order → IsTsoExecution t order
tso-of Tso t order h = h
tso-of Sequential t order h = h.execution

pub location-written : (bytes name written ws one two three : List ℕ)
    → written ≡ name
    → one ≡ bytes ++ (codes "Coherence " ++ (written ++ []))
    → two ≡ one ++ ws
    → three ≡ two ++ (10 ∷ []) → three ≡ bytes ++ (codes "Coherence " ++ (name ++ line ws))
location-written bytes name written ws one two three e first second third =
    third
    ∙ (ap (λ z. z ++ (10 ∷ [])) (second ∙ ap (λ z. z ++ ws) first)
    ∙ (together bytes written ws ∙ ap (λ z. bytes ++ (codes "Coherence " ++ (z ++ line ws))) e))
  where
    together : (o a b : List ℕ) → ((o ++ (codes "Coherence " ++ (a ++ []))) ++ b) ++ (10 ∷ []) ≡ o ++ (codes "Coherence " ++ (a ++ line b))
    together o a b = simp (append_assoc, append-nil)

pub known-moved : (a b cores locations : ℕ) (ns names : List Named) → cores ≡ a → locations ≡ b → names ≡ ns → All (NameExists a b) ns
    → All (NameExists cores locations) names
known-moved a b cores locations ns names ea eb en h =
    subst (λ (x : ℕ). All (NameExists x locations) names) (sym ea)
    (subst (λ (y : ℕ). All (NameExists a y) names) (sym eb) (subst (All (NameExists a b)) (sym en) h))

pub shows : (json : Bool) (model : Model) (t : Litmus) (order : List Entry) (choices : List Choice) (c : Candidate)
    → IsCandidateOf t order c
    → LeaveTheSame t order c
    → (xs ys : List Reading) → AreReadings order (filter is_read (made t order)) xs → ys ≡ xs → (ns : List Named) → ns ≡ looked_at t
    → (vs us : List ℕ) → vs ≡ map (shown_value (final_registers t order) (final_words t order)) ns → us ≡ vs
    → (out : List ℕ) → ((d : Candidate) → IsShown t order ys us d → out ≡ allowed_in json model t d choices) → ShowsExecution json model t order choices out
shows json model t order choices c of same xs ys are ye ns ne vs us ve ue out f = record {
  candidate = c;
  of_order = of;
  printed = f c (shown-is t order c of same ys (subst (AreReadings order (filter is_read (made t order))) (sym ye) are) us
      (ue ∙ (ve ∙ ap (map (shown_value (final_registers t order) (final_words t order))) ne)));
}
