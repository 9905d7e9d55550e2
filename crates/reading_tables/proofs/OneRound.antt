-- In a plain test what a read can read from goes by programs and facts alone: the first round tells all.
use Rattle.reading_tables.proofs.Vocabulary.{◌≡◌, ◌≤◌, ◌&&◌, ◌||◌, ◌==◌, ◌++◌, ℕ, suc, Bool, true, false, if◌then◌else◌, List, [], ◌∷◌, Option}
use Rattle.reading_tables.proofs.Vocabulary.{Some, None, refl, sym, ap, ◌∙◌, arith, subst, map, filter, list_any, list_all, length, Litmus, Entry}
use Rattle.reading_tables.proofs.Vocabulary.{◌⊎◌, inl, inr}
use Rattle.std.specs.Prelude.{not, nat_lt, slice_index}
use Rattle.std.proofs.lemmas.Bool.Decides.{nat_tests}
use Rattle.relational_model.specs.Events.{IsIn}
use Rattle.relational_model.proofs.KindFacts.{and-both}
use Rattle.relational_model.proofs.Lists.{in-case, in-first, in-later, in-none, in-filter}
use Rattle.basic_laws.specs.Types.{LR}
use Rattle.tso_terms.specs.ProgramOrder.{is_read, is_write, writes_to, same_kind}
use Rattle.refutation_laws.specs.Known.{bare, events_of, same_event}
use Rattle.refutation_laws.specs.Refutations.{sources_of}
use Rattle.refutation_laws.proofs.Standing.{same-bare}
use Rattle.refutation_laws.proofs.Soundness.{bare-same}
use Rattle.refutation_laws.proofs.Tests.{from-not}
use Rattle.possible_reads.specs.Expressions.{Expression, Constant, expression_among, expression_of}
use Rattle.possible_reads.specs.Facts.{Fact, From, Before, Last, Returns, Holds}
use Rattle.possible_reads.specs.Possible.{Values, Reading, any_of, both_of, values_of, values_read, values_written, values_from, least_by, least_written}
use Rattle.possible_reads.specs.Possible.{least_from, never_wraps, may_return, returns_less, can_be, fits_source, is_in_order, is_taken, takes, can_read_from}
use Rattle.possible_reads.specs.Possible.{counts, told_value, is_counter, added_up, store_part, sources_read, sources_after, values_after}
use Rattle.possible_reads.specs.Possible.{least_after, reading_from}
use Rattle.possible_reads.specs.Possible.{reading_after, readings_after, readings, smallest, kept}
use Rattle.possible_reads.proofs.Lists.{all-at, of-map}
use Rattle.reading_tables.specs.declared.expressions.Held.{Held}
use Rattle.reading_tables.specs.declared.expressions.Held.TheVariants as held
use Rattle.reading_tables.specs.declared.expressions.Written.{Written}
use Rattle.reading_tables.specs.declared.plain.Choice.{Choice}
use Rattle.reading_tables.specs.declared.tables.Problem.{Problem}
use Rattle.reading_tables.specs.declared.tables.Told.{Told}
use Rattle.reading_tables.specs.inner.Tables.{IsProblem, IsTold}
use Rattle.reading_tables.specs.inner.Told.{all_made, held_of, written_of}
use Rattle.reading_tables.specs.inner.Plain.{number_held, holds_number, writes_number, is_no_load_part, number_written, choice_of}
use Rattle.reading_tables.specs.inner.Plain.{is_possible, is_choice, first_chosen}
use Rattle.reading_tables.proofs.OwnFacts.{kept-same}
use Rattle.reading_tables.proofs.Settled.{settled}

-- ---- what each write writes

pub writes-constant : (made : List Expression) (ws : List Written) (w : Entry) → list_all writes_number ws ≡ true
    → expression_among (map (written_of made) ws) w ≡ Constant (number_written ws w)
writes-constant made [] w h = refl
writes-constant made (x ∷ xs) w h =
    let parts = and-both (writes_number x) (list_all writes_number xs) h in
    own (same_event x.write w) (held-constant x.value parts.0) (writes-constant made xs w parts.1)
  where
    held-constant : (v : Held) → holds_number v ≡ true → held_of made v ≡ Constant (number_held v)
    held-constant (held.Number number) n = refl
    held-constant (held.Returned read) n = let z : ⊥ = cc in absurd z
    held-constant (held.Made number) n = let z : ⊥ = cc in absurd z

    own : (b : Bool) → held_of made x.value ≡ Constant (number_held x.value)
        → expression_among (map (written_of made) xs) w ≡ Constant (number_written xs w)
        → (if b then held_of made x.value else expression_among (map (written_of made) xs) w)
        ≡ Constant (if b then number_held x.value else number_written xs w)
    own true first rest = first
    own false first rest = rest

-- what each write of a test writes is this number
abbrev pub AreNumbers : Litmus → (Entry → ℕ) → Type 0
AreNumbers t number = (w : Entry) → expression_of t w ≡ Constant (number w)

pub told-constants : (told : Told) → IsTold told → list_all writes_number told.written.now ≡ true → AreNumbers told.test.now (number_written told.written.now)
told-constants told is numbers w =
    ap (λ xs. expression_among xs w) (sym is.written) ∙ writes-constant (all_made told.makings.now) told.written.now w numbers

pub problem-constants : (t : Litmus) (p : Problem) → IsProblem t p → list_all writes_number p.expressions.written.items ≡ true
    → AreNumbers t (number_written p.expressions.written.items)
problem-constants t p is numbers w =
    ap (λ xs. expression_among xs w) (sym is.expressions.written)
    ∙ writes-constant (all_made p.expressions.makings.items) p.expressions.written.items w numbers

values-are : (t : Litmus) (number : Entry → ℕ) → AreNumbers t number → (table : List Reading) (w : Entry)
    → values_written t table w ≡ Some (number w ∷ [])
values-are t number are table w = ap (values_of (values_read table)) (are w)

least-is : (t : Litmus) (number : Entry → ℕ) → AreNumbers t number → (table : List Reading) (w : Entry)
    → least_written t table w ≡ (if never_wraps t w.loc.0 then number w else 0)
least-is t number are table w = ap (λ e. if never_wraps t w.loc.0 then least_by table w e else 0) (are w)

least-below : (t : Litmus) (number : Entry → ℕ) → AreNumbers t number → (table : List Reading) (w : Entry) → least_written t table w ≤ number w
least-below t number are table w = subst (λ n. n ≤ number w) (sym (least-is t number are table w)) (own (never_wraps t w.loc.0))
  where
    own : (b : Bool) → (if b then number w else 0) ≤ number w
    own true = omega arith
    own false = omega arith

-- ---- whether a read can read a number from a source

-- what may be returned is no less than what is told
none-less : (facts : List Fact) (read : Entry) (least value : ℕ) → least ≤ value → may_return facts read value ≡ true
    → list_any (returns_less read least) facts ≡ false
none-less [] read least value l h = refl
none-less (From r w truth ∷ facts) read least value l h = none-less facts read least value l h
none-less (Before w v ∷ facts) read least value l h = none-less facts read least value l h
none-less (Last w truth ∷ facts) read least value l h = none-less facts read least value l h
none-less (Holds claim truth ∷ facts) read least value l h = none-less facts read least value l h
none-less (Returns r v false ∷ facts) read least value l h =
    none-less facts read least value l (and-both (if same_event r read then not (value == v) else true) (may_return facts read value) h).1
none-less (Returns r v true ∷ facts) read least value l h =
    let parts = and-both (if same_event r read then value == v else true) (may_return facts read value) h in
    own (same_event r read) parts.0 (none-less facts read least value l parts.1)
  where
    less : (n : ℕ) → (value == n) ≡ true → nat_lt n least ≡ false
    less n e = grind (arith, nat_tests)

    own : (b : Bool) → (if b then value == v else true) ≡ true → list_any (returns_less read least) facts ≡ false
        → ((b && nat_lt v least) || list_any (returns_less read least) facts) ≡ false
    own true e rest = ap (λ c. c || list_any (returns_less read least) facts) (less v e) ∙ rest
    own false e rest = rest

is-possible : (t : Litmus) (facts : List Fact) (read : Entry) (source : Option Entry) (value : ℕ) → same_kind read.kind LR ≡ false
    → values_from t [] read source ≡ Some (value ∷ []) → least_from t [] read source ≤ value
    → can_read_from t facts [] read source ≡ is_possible t facts read source value
is-possible t facts read source value kind values least =
    ap (λ k. list_all (fits_source read source) facts && is_in_order t read source && not (k && false)
    && can_be (values_from t [] read source) (may_return facts read) && not less) kind
    ∙ (ap (λ vs. list_all (fits_source read source) facts && is_in_order t read source && true && can_be vs (may_return facts read) && not less) values
    ∙ own (list_all (fits_source read source) facts) (is_in_order t read source) (may_return facts read value) less
    (none-less facts read (least_from t [] read source) value least))
  where
    less : Bool
    less = list_any (returns_less read (least_from t [] read source)) facts

    own : (a b m l : Bool) → (m ≡ true → l ≡ false) → (a && b && true && (m || false) && not l) ≡ (a && b && m)
    own false b m l h = refl
    own true false m l h = refl
    own true true false l h = refl
    own true true true l h = ap not (h refl)

-- ---- lists

map-same : {A B : Type 0} (f g : A → B) → ((x : A) → f x ≡ g x) → (xs : List A) → map f xs ≡ map g xs
map-same f g same [] = refl
map-same f g same (x ∷ xs) = λ i. same x i ∷ map-same f g same xs i

map-two : {A B C : Type 0} (f : B → C) (g : A → B) (xs : List A) → map f (map g xs) ≡ map (λ x. f (g x)) xs
map-two f g [] = refl
map-two f g (x ∷ xs) = ap (λ ys. f (g x) ∷ ys) (map-two f g xs)

map-itself : {A : Type 0} (xs : List A) → map (λ x. x) xs ≡ xs
map-itself [] = refl
map-itself (x ∷ xs) = ap (λ ys. x ∷ ys) (map-itself xs)

-- what was kept once stays
kept-again : {A : Type 0} (p : A → Bool) (xs : List A) → filter p (filter p xs) ≡ filter p xs
kept-again p [] = refl
kept-again p (x ∷ xs) = own (p x) refl (kept-again p xs)
  where
    own : (b : Bool) → p x ≡ b → filter p (filter p xs) ≡ filter p xs
        → filter p (if b then x ∷ filter p xs else filter p xs) ≡ (if b then x ∷ filter p xs else filter p xs)
    own true h rest = ap (λ c. if c then x ∷ filter p (filter p xs) else filter p (filter p xs)) h ∙ ap (λ ys. x ∷ ys) rest
    own false h rest = rest

map-in : {B : Type 0} (f g : Entry → B) (xs : List Entry) → ((x : Entry) → IsIn xs x → f x ≡ g x) → map f xs ≡ map g xs
map-in f g [] same = refl
map-in f g (x ∷ xs) same = λ i. same x (in-first x xs x refl) i ∷ map-in f g xs (λ y j. same y (in-later x xs y j)) i

-- what is chosen of what was made of events is made of those of them that can be
chosen-of : {C S V : Type 0} (is at : Entry → Bool) (g : Entry → C) (c : C → Bool) (f : C → V) (s : Entry → S) (can : S → Bool) (v : S → V)
    → ((e : Entry) → c (g e) ≡ (at e && can (s e))) → ((e : Entry) → f (g e) ≡ v (s e)) → (es : List Entry)
    → map f (filter c (map g (filter is es))) ≡ map v (filter can (map s (filter (λ e. is e && at e) es)))
chosen-of is at g c f s can v tests same [] = refl
chosen-of {C = C} {S = S} is at g c f s can v tests same (e ∷ es) = of-kind (is e) (chosen-of is at g c f s can v tests same es)
  where
    left : List C
    left = filter c (map g (filter is es))

    right : List S
    right = filter can (map s (filter (λ x. is x && at x) es))

    of-can : (k : Bool) → map f left ≡ map v right → map f (if k then g e ∷ left else left) ≡ map v (if k then s e ∷ right else right)
    of-can true r = λ i. same e i ∷ r i
    of-can false r = r

    of-place : (a : Bool) → c (g e) ≡ (a && can (s e)) → map f left ≡ map v right
        → map f (if c (g e) then g e ∷ left else left)
        ≡ map v (filter can (map s (if a then e ∷ filter (λ x. is x && at x) es else filter (λ x. is x && at x) es)))
    of-place true h r = ap (λ b. map f (if b then g e ∷ left else left)) h ∙ of-can (can (s e)) r
    of-place false h r = ap (λ b. map f (if b then g e ∷ left else left)) h ∙ r

    of-kind : (k : Bool) → map f left ≡ map v right
        → map f (filter c (map g (if k then e ∷ filter is es else filter is es)))
        ≡ map v (filter can (map s (if k && at e then e ∷ filter (λ x. is x && at x) es else filter (λ x. is x && at x) es)))
    of-kind true r = of-place (at e) (tests e) r
    of-kind false r = r

-- ---- the first round

module _ (t : Litmus) (ws : List Written) (are : AreNumbers t (number_written ws)) where
  module _ (facts : List Fact) (read : Entry) (kind : same_kind read.kind LR ≡ false) where
    abbrev can : Option Entry → Bool
    can = can_read_from t facts [] read

    abbrev from : Option Entry → Values
    from = values_from t [] read

    abbrev word : ℕ
    word = slice_index t.words read.loc.0

    abbrev writes : List (Option Entry)
    writes = map (λ w. Some w) (filter (writes_to read.loc.0) (events_of t))

    abbrev choices : List Choice
    choices = filter (is_choice t facts read) (map (choice_of ws) (filter is_write (events_of t)))

    can-first : can None ≡ is_possible t facts read None word
    can-first = is-possible t facts read None word kind refl (omega arith)

    can-write : (w : Entry) → can (Some w) ≡ is_possible t facts read (Some w) (number_written ws w)
    can-write w =
        is-possible t facts read (Some w) (number_written ws w) kind (values-are t (number_written ws) are [] w) (least-below t (number_written ws) are [] w)

    sources-chosen : map (λ x. Some x.write) choices ≡ filter can writes
    sources-chosen =
        chosen-of is_write (λ w. w.loc.0 == read.loc.0) (choice_of ws) (is_choice t facts read) (λ x. Some x.write) (λ w. Some w) can (λ o. o)
        (λ w. ap (λ b. (w.loc.0 == read.loc.0) && b) (sym (can-write w))) (λ w. refl) (events_of t)
        ∙ map-itself (filter can writes)

    values-chosen : map (λ x. Some (x.value ∷ [])) choices ≡ map from (filter can writes)
    values-chosen =
        chosen-of is_write (λ w. w.loc.0 == read.loc.0) (choice_of ws) (is_choice t facts read) (λ x. Some (x.value ∷ [])) (λ w. Some w) can from
        (λ w. ap (λ b. (w.loc.0 == read.loc.0) && b) (sym (can-write w))) (λ w. sym (values-are t (number_written ws) are [] w)) (events_of t)

    pub all-sources : first_chosen t facts read ++ map (λ x. Some x.write) choices ≡ sources_after t facts [] read
    all-sources = ap (λ b. (if b then None ∷ [] else []) ++ map (λ x. Some x.write) choices) (sym can-first) ∙ own (can None)
      where
        own : (b : Bool) → (if b then None ∷ [] else []) ++ map (λ x. Some x.write) choices ≡ (if b then None ∷ filter can writes else filter can writes)
        own true = ap (λ os. None ∷ os) sources-chosen
        own false = sources-chosen

    pub all-values : map (λ n. Some (n ∷ [])) (map (λ s. word) (first_chosen t facts read) ++ map (λ x. x.value) choices)
        ≡ map from (sources_after t facts [] read)
    all-values =
        ap (λ b. map (λ n. Some (n ∷ [])) (map (λ s. word) (first b) ++ map (λ x. x.value) choices)) (sym can-first)
        ∙ own (can None)
      where
        rest : map (λ n. Some (n ∷ [])) (map (λ x. x.value) choices) ≡ map from (filter can writes)
        rest = map-two (λ n. Some (n ∷ [])) (λ x. x.value) choices ∙ values-chosen

        first : Bool → List (Option Entry)
        first b = if b then None ∷ [] else []

        own : (b : Bool) → map (λ n. Some (n ∷ [])) (map (λ s. word) (first b) ++ map (λ x. x.value) choices)
            ≡ map from (if b then None ∷ filter can writes else filter can writes)
        own true = ap (λ vs. from None ∷ vs) rest
        own false = rest

    counts-none : (table : List Reading) → counts t facts table read ≡ None
    counts-none table =
        ap (λ k. if k && is_counter t read.loc.0
        then added_up t facts table (store_part read) (filter (writes_to read.loc.0) (events_of t)) (Some (slice_index t.words read.loc.0 ∷ []))
        else None) kind

    none-else : (vs : Values) → both_of vs None ≡ vs
    none-else None = refl
    none-else (Some vs) = refl

    values-by : (table : List Reading) (sources : List (Option Entry))
        → values_after t facts table read sources ≡ both_of (any_of (map (values_from t table read) sources)) (told_value facts read)
    values-by table sources =
        ap (λ vs. both_of (any_of (map (values_from t table read) sources)) (both_of (told_value facts read) vs)) (counts-none table)
        ∙ ap (both_of (any_of (map (values_from t table read) sources))) (none-else (told_value facts read))

    -- what a plain reading is, by the facts that speak of its read
    pub plain-is : (sources : List (Option Entry)) (values : List ℕ) (any by all left : Values) (least : ℕ)
        → sources ≡ sources_after t facts [] read
        → map (λ n. Some (n ∷ [])) values ≡ map from (sources_after t facts [] read)
        → any ≡ any_of (map (λ n. Some (n ∷ [])) values) → by ≡ told_value facts read → all ≡ both_of any by
        → left ≡ kept (may_return facts read) all → least ≡ least_after t [] read sources left
        → record { read = read; sources = sources; values = left; least = least } ≡ reading_after t facts [] read
    plain-is sources values any by all left least are-sources are-values is-any is-by is-all is-left is-least =
        λ i.
        record {
          read = read;
          sources = are-sources i;
          values = is-kept i;
          least = (is-least ∙ (λ j. least_after t [] read (are-sources j) (is-kept j))) i;
        }
      where
        is-kept : left ≡ kept (may_return facts read) (values_after t facts [] read (sources_after t facts [] read))
        is-kept =
            is-left
            ∙ ap (kept (may_return facts read))
            (is-all
            ∙ ((λ i. both_of ((is-any ∙ ap any_of are-values) i) (is-by i)) ∙ sym (values-by [] (sources_after t facts [] read))))

    -- ---- and the second

    abbrev first_table : List Reading
    first_table = map (reading_after t facts []) (filter is_read (events_of t))

    can-again : (source : Option Entry) → can_read_from t facts first_table read source ≡ can source
    can-again source =
        (λ i. list_all (fits_source read source) facts && is_in_order t read source && not (untaken first_table i)
        && can_be (same-values source i) (may_return facts read) && not (list_any (returns_less read (same-least source i)) facts))
        ∙ (λ i. list_all (fits_source read source) facts && is_in_order t read source && not (sym (untaken []) i)
        && can_be (from source) (may_return facts read) && not (list_any (returns_less read (least_from t [] read source)) facts))
      where
        untaken : (table : List Reading) → is_taken table read source ≡ false
        untaken table = ap (λ k. k && list_any (takes read source) table) kind

        same-values : (o : Option Entry) → values_from t first_table read o ≡ from o
        same-values None = refl
        same-values (Some w) = values-are t (number_written ws) are first_table w ∙ sym (values-are t (number_written ws) are [] w)

        same-least : (o : Option Entry) → least_from t first_table read o ≡ least_from t [] read o
        same-least None = refl
        same-least (Some w) = least-is t (number_written ws) are first_table w ∙ sym (least-is t (number_written ws) are [] w)

    sources-again : sources_read t first_table read ≡ sources_after t facts [] read → sources_after t facts first_table read ≡ sources_after t facts [] read
    sources-again found =
        kept-same (can_read_from t facts first_table read) can can-again (sources_read t first_table read)
        ∙ (ap (filter can) found ∙ kept-again can (sources_of t read))

    values-again : (o : Option Entry) → values_from t first_table read o ≡ from o
    values-again None = refl
    values-again (Some w) = values-are t (number_written ws) are first_table w ∙ sym (values-are t (number_written ws) are [] w)

    least-again : (o : Option Entry) → least_from t first_table read o ≡ least_from t [] read o
    least-again None = refl
    least-again (Some w) = least-is t (number_written ws) are first_table w ∙ sym (least-is t (number_written ws) are [] w)

    any-again : (sources : List (Option Entry)) → values_after t facts first_table read sources ≡ values_after t facts [] read sources
    any-again sources =
        values-by first_table sources
        ∙ (ap (λ vs. both_of (any_of vs) (told_value facts read)) (map-same (values_from t first_table read) from values-again sources)
        ∙ sym (values-by [] sources))

    after-again : (sources : List (Option Entry)) (vs : Values) → least_after t first_table read sources vs ≡ least_after t [] read sources vs
    after-again sources (Some vs) = refl
    after-again sources None = ap smallest (map-same (least_from t first_table read) (least_from t [] read) least-again sources)

    reading-again : sources_read t first_table read ≡ sources_after t facts [] read → reading_after t facts first_table read ≡ reading_after t facts [] read
    reading-again found =
        ap (reading_from t facts first_table read) (sources-again found)
        ∙ (λ i. record {
          read = read;
          sources = sources_after t facts [] read;
          values = kept (may_return facts read) (any-again (sources_after t facts [] read) i);
          least = (ap (least_after t first_table read (sources_after t facts [] read))
              (ap (kept (may_return facts read)) (any-again (sources_after t facts [] read)))
              ∙ after-again (sources_after t facts [] read) (kept (may_return facts read) (values_after t facts [] read (sources_after t facts [] read)))) i;
        })

  found : (facts : List Fact) (xs : List Entry) (r : Entry) → IsIn xs r → ((x : Entry) → IsIn xs x → same_event x r ≡ true → x ≡ r)
      → sources_read t (map (reading_after t facts []) xs) r ≡ sources_after t facts [] r
  found facts [] r i one = absurd (in-none r i)
  found facts (x ∷ xs) r i one = own (same_event x r) refl (in-case x xs r i) (λ j. found facts xs r j (λ y k. one y (in-later x xs y k)))
    where
      own : (b : Bool) → same_event x r ≡ b → (r ≡ x) ⊎ IsIn xs r
          → (IsIn xs r → sources_read t (map (reading_after t facts []) xs) r ≡ sources_after t facts [] r)
          → (if b then sources_after t facts [] x else sources_read t (map (reading_after t facts []) xs) r) ≡ sources_after t facts [] r
      own true h k rest = ap (sources_after t facts []) (one x (in-first x xs x refl) h)
      own false h (inl e) rest = let same : same_event x r ≡ true = bare-same x r (ap bare (sym e)) in let z : ⊥ = cc in absurd z
      own false h (inr j) rest = rest j

  event-bare : (es : List Entry) (x : Entry) → IsIn (map bare es) x → x ≡ bare x
  event-bare es x i = let m = of-map bare es i.0 x i.1 in m.1.1 ∙ ap bare (sym m.1.1)

  one-event : (x r : Entry) → IsIn (events_of t) x → IsIn (events_of t) r → same_event x r ≡ true → x ≡ r
  one-event x r i j h = event-bare _ x i ∙ (same-bare x r h ∙ sym (event-bare _ r j))

  still : (facts : List Fact) → list_all is_no_load_part (events_of t) ≡ true → readings_after t facts (suc 1) ≡ readings_after t facts 1
  still facts parts =
      map-in (reading_after t facts (map (reading_after t facts []) (filter is_read (events_of t)))) (reading_after t facts []) (filter is_read (events_of t))
      (λ r i.
      let j = (in-filter is_read (events_of t) r i).0 in
      reading-again facts r (from-not (same_kind r.kind LR) (all-at is_no_load_part (events_of t) j.0 r parts j.1))
      (found facts (filter is_read (events_of t)) r i (λ x k h. one-event x r (in-filter is_read (events_of t) x k).0 j h)))

  -- one round is enough
  pub one-round-tells : (facts : List Fact) → list_all is_no_load_part (events_of t) ≡ true
      → map (reading_after t facts []) (filter is_read (events_of t)) ≡ readings t facts
  one-round-tells facts parts = own (events_of t) refl
    where
      own : (es : List Entry) → es ≡ events_of t
          → map (reading_after t facts []) (filter is_read (events_of t)) ≡ readings_after t facts (length es)
      own [] e = ap (λ xs. map (reading_after t facts []) (filter is_read xs)) (sym e)
      own (x ∷ xs) e = sym (settled t facts 1 (suc (length xs)) (omega arith) (still facts parts))
