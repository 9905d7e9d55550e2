-- What a read can read from goes only by the facts that speak of it.
use Rattle.reading_tables.proofs.Vocabulary.{◌≡◌, ◌&&◌, ◌||◌, ℕ, Bool, true, false, if◌then◌else◌, List, [], ◌∷◌, Option, Some, None, refl, ap, ◌∙◌}
use Rattle.reading_tables.proofs.Vocabulary.{filter, list_any, list_all, Entry, Litmus}
use Rattle.std.specs.Prelude.{not}
use Rattle.possible_reads.specs.Facts.{Fact, From, Before, Last, Returns, Holds}
use Rattle.possible_reads.specs.Possible.{Values, Reading, fits_source, is_in_order, is_taken, can_be, values_from, fits_value, may_return}
use Rattle.possible_reads.specs.Possible.{returns_less, least_from, can_read_from}
use Rattle.reading_tables.specs.inner.Told.{speaks_of}

-- a test that the others pass asks no more of all
all-own : (p q : Fact → Bool) → ((x : Fact) → p x ≡ false → q x ≡ true) → (fs : List Fact) → list_all q (filter p fs) ≡ list_all q fs
all-own p q others [] = refl
all-own p q others (x ∷ xs) = own (p x) (others x) (all-own p q others xs)
  where
    own : (b : Bool) → (b ≡ false → q x ≡ true) → list_all q (filter p xs) ≡ list_all q xs
        → list_all q (if b then x ∷ filter p xs else filter p xs) ≡ (q x && list_all q xs)
    own true h rest = ap (λ c. q x && c) rest
    own false h rest = rest ∙ rw (h refl) refl

pub any-own : {X : Type 0} (p q : X → Bool) → ((x : X) → p x ≡ false → q x ≡ false) → (fs : List X) → list_any q (filter p fs) ≡ list_any q fs
any-own p q others [] = refl
any-own p q others (x ∷ xs) = own (p x) (others x) (any-own p q others xs)
  where
    own : (b : Bool) → (b ≡ false → q x ≡ false) → list_any q (filter p xs) ≡ list_any q xs
        → list_any q (if b then x ∷ filter p xs else filter p xs) ≡ (q x || list_any q xs)
    own true h rest = ap (λ c. q x || c) rest
    own false h rest = rest ∙ rw (h refl) refl

sources-own : (read : Entry) (source : Option Entry) (x : Fact) → speaks_of read x ≡ false → fits_source read source x ≡ true
sources-own read source (From r write truth) h = rw h refl
sources-own read source (Before first second) h = refl
sources-own read source (Last write truth) h = refl
sources-own read source (Returns r value truth) h = refl
sources-own read source (Holds claim truth) h = refl

values-own : (read : Entry) (value : ℕ) (x : Fact) → speaks_of read x ≡ false → fits_value read value x ≡ true
values-own read value (From r write truth) h = refl
values-own read value (Before first second) h = refl
values-own read value (Last write truth) h = refl
values-own read value (Returns r v truth) h = rw h refl
values-own read value (Holds claim truth) h = refl

less-own : (read : Entry) (least : ℕ) (x : Fact) → speaks_of read x ≡ false → returns_less read least x ≡ false
less-own read least (From r write truth) h = refl
less-own read least (Before first second) h = refl
less-own read least (Last write truth) h = refl
less-own read least (Returns r v true) h = rw h refl
less-own read least (Returns r v false) h = refl
less-own read least (Holds claim truth) h = refl

any-same : (p q : ℕ → Bool) → ((n : ℕ) → p n ≡ q n) → (ns : List ℕ) → list_any p ns ≡ list_any q ns
any-same p q same [] = refl
any-same p q same (n ∷ ns) = ap (λ b. b || list_any p ns) (same n) ∙ ap (λ b. q n || b) (any-same p q same ns)

can-be-same : (p q : ℕ → Bool) → ((n : ℕ) → p n ≡ q n) → (values : Values) → can_be values p ≡ can_be values q
can-be-same p q same None = refl
can-be-same p q same (Some ns) = any-same p q same ns

reads-own : (t : Litmus) (facts : List Fact) (table : List Reading) (read : Entry) (source : Option Entry)
    → can_read_from t (filter (speaks_of read) facts) table read source ≡ can_read_from t facts table read source
reads-own t facts table read source =
    let own = filter (speaks_of read) facts in
    let least = least_from t table read source in
    let values = values_from t table read source in
    ap (λ b. b && is_in_order t read source && not (is_taken table read source) && can_be values (may_return own read)
    && not (list_any (returns_less read least) own))
    (all-own (speaks_of read) (fits_source read source) (sources-own read source) facts)
    ∙ (ap (λ b. list_all (fits_source read source) facts && is_in_order t read source && not (is_taken table read source) && b
    && not (list_any (returns_less read least) own))
    (can-be-same (may_return own read) (may_return facts read)
    (λ v. all-own (speaks_of read) (fits_value read v) (values-own read v) facts) values)
    ∙ ap (λ b. list_all (fits_source read source) facts && is_in_order t read source && not (is_taken table read source)
    && can_be values (may_return facts read) && not b)
    (any-own (speaks_of read) (returns_less read least) (less-own read least) facts))

pub kept-same : (p q : Option Entry → Bool) → ((s : Option Entry) → p s ≡ q s) → (ss : List (Option Entry)) → filter p ss ≡ filter q ss
kept-same p q same [] = refl
kept-same p q same (s ∷ ss) =
    ap (λ b. if b then s ∷ filter p ss else filter p ss) (same s) ∙ ap (λ rest. if q s then s ∷ rest else rest) (kept-same p q same ss)

pub kept-own : (t : Litmus) (facts : List Fact) (table : List Reading) (read : Entry) (sources : List (Option Entry))
    → filter (can_read_from t (filter (speaks_of read) facts) table read) sources ≡ filter (can_read_from t facts table read) sources
kept-own t facts table read = kept-same (can_read_from t (filter (speaks_of read) facts) table read) (can_read_from t facts table read)
    (reads-own t facts table read)
