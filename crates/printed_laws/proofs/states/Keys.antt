-- The keys of what is shown differ: a register's has a colon, behind its core's number, and no location's name has one.
use Rattle.printed_laws.proofs.Vocabulary.{◌≡◌, ◌≢◌, ◌∙◌, ℕ, zero, suc, ◌+◌, ◌^◌, ◌<◌, Bool, true, false, not, cond, ◌&&◌, ◌||◌, List, []}
use Rattle.printed_laws.proofs.Vocabulary.{◌∷◌, ◌++◌, map, length, slice_index_or, refl, sym, ap, subst, eq-eqb, arith, codes, decimal}
use Rattle.printed_laws.proofs.Vocabulary.{bytes_eq, AllByRecursion, list_all, and_parts, and_from, append_assoc, length-append, map-append}
use Rattle.printed_laws.proofs.Vocabulary.{list_any-append, bytes_eq-Decides, Litmus, IsTest, are_distinct, is_among, is_name}
use Rattle.printed_laws.proofs.Vocabulary.{is_location_name, continues_name, all_registers, named_register, named_registers}
use Rattle.printed_laws.proofs.Vocabulary.{named_locations, Named, is_shown, names_shown, Show, key_of}
use Rattle.std.proofs.Common.{filter}
use Rattle.printed_laws.proofs.texts.Cutting.{number-cut}

-- ---- names that differ

abbrev NotAmong : List (List ℕ) → List ℕ → Type 0
NotAmong names name = is_among name names ≡ false

distinct-both : (xs ys : List (List ℕ)) → are_distinct xs ≡ true → are_distinct ys ≡ true → AllByRecursion (NotAmong ys) xs → are_distinct (xs ++ ys) ≡ true
distinct-both [] ys p q apart = q
distinct-both (x ∷ xs) ys p q apart =
    let parts = and_parts (not (is_among x xs)) (are_distinct xs) p in
    let here : not (is_among x (xs ++ ys)) ≡ true =
    ap not (list_any-append (λ other. bytes_eq other x) xs ys)
    ∙ ap (λ (b : Bool). not (is_among x xs || b)) apart.0
    ∙ ap not (or-false (is_among x xs))
    ∙ parts.0 in
    and_from _ _ here (distinct-both xs ys parts.1 q apart.1)
  where
    or-false : (b : Bool) → (b || false) ≡ b
    or-false true = refl
    or-false false = refl

among-kept : {X : Type 0} (f : X → List ℕ) (p : X → Bool) (name : List ℕ) (xs : List X)
    → is_among name (map f xs) ≡ false
    → is_among name (map f (filter p xs)) ≡ false
among-kept f p name [] none = refl
among-kept {X} f p name (x ∷ xs) none = by (bytes_eq (f x) name) (p x) refl none (among-kept f p name xs)
  where
    by : (b c : Bool)
        → bytes_eq (f x) name ≡ b
        → (b || is_among name (map f xs)) ≡ false
        → (is_among name (map f xs) ≡ false → is_among name (map f (filter p xs)) ≡ false)
        → is_among name (map f (cond c (x ∷ filter p xs) (filter p xs))) ≡ false
    by true c is none further = absurd (let no : ⊥ = cc in no)
    by false true is none further = ap (λ (b : Bool). b || is_among name (map f (filter p xs))) is ∙ further none
    by false false is none further = further none

distinct-kept : {X : Type 0} (f : X → List ℕ) (p : X → Bool) (xs : List X) → are_distinct (map f xs) ≡ true → are_distinct (map f (filter p xs)) ≡ true
distinct-kept f p [] all = refl
distinct-kept {X} f p (x ∷ xs) all =
    let parts = and_parts (not (is_among (f x) (map f xs))) (are_distinct (map f xs)) all in
    by (p x) (ap not (among-kept f p (f x) xs (not-true _ parts.0))) (distinct-kept f p xs parts.1)
  where
    not-true : (b : Bool) → not b ≡ true → b ≡ false
    not-true false is = refl
    not-true true is = absurd (let no : ⊥ = cc in no)

    by : (c : Bool)
        → not (is_among (f x) (map f (filter p xs))) ≡ true
        → are_distinct (map f (filter p xs)) ≡ true
        → are_distinct (map f (cond c (x ∷ filter p xs) (filter p xs))) ≡ true
    by true here further = and_from _ _ here further
    by false here further = further

both-all : {X : Type 0} (P : X → Type 0) (xs ys : List X) → AllByRecursion P xs → AllByRecursion P ys → AllByRecursion P (xs ++ ys)
both-all P [] ys p q = q
both-all P (x ∷ xs) ys p q = (p.0, both-all P xs ys p.1 q)

-- ---- the same beginning

same-front : (front xs ys : List ℕ) → bytes_eq (front ++ xs) (front ++ ys) ≡ bytes_eq xs ys
same-front [] xs ys = refl
same-front (c ∷ front) xs ys = ap (λ (b : Bool). b && bytes_eq (front ++ xs) (front ++ ys)) (eq-eqb c c refl) ∙ same-front front xs ys

among-front : (front name : List ℕ) (names : List (List ℕ)) → is_among (front ++ name) (map (λ n. front ++ n) names) ≡ is_among name names
among-front front name [] = refl
among-front front name (n ∷ names) = rw (same-front front n name, among-front front name names) refl

distinct-front : (front : List ℕ) (names : List (List ℕ)) → are_distinct (map (λ n. front ++ n) names) ≡ are_distinct names
distinct-front front [] = refl
distinct-front front (n ∷ names) = rw (among-front front n names, distinct-front front names) refl

-- ---- registers

-- `:EAX` and so on
abbrev six_ends : List (List ℕ)
six_ends = codes ":EAX" ∷ codes ":EBX" ∷ codes ":ECX" ∷ codes ":EDX" ∷ codes ":ESI" ∷ codes ":EDI" ∷ []

core-keys : (t : Litmus) (core : ℕ) → map (key_of t) (map (named_register core) all_registers) ≡ map (λ n. decimal core ++ n) six_ends
unfolding all_registers
core-keys t core = refl

core-distinct : (t : Litmus) (core : ℕ) → are_distinct (map (key_of t) (map (named_register core) all_registers)) ≡ true
core-distinct t core = ap are_distinct (core-keys t core) ∙ distinct-front (decimal core) six_ends

-- a name that has a colon behind the number of this core
abbrev IsOfCore : ℕ → List ℕ → Type 0
IsOfCore core name = (end : List ℕ) × (name ≡ decimal core ++ 58 ∷ end)

other-core : (core other : ℕ) (end name : List ℕ)
    → core < 2 ^ 64
    → other < 2 ^ 64
    → core ≢ other
    → IsOfCore core name
    → bytes_eq (decimal other ++ 58 ∷ end) name ≡ false
other-core core other end name small small' apart (rest, is) = by (bytes_eq (decimal other ++ 58 ∷ end) name) refl
  where
    by : (b : Bool) → bytes_eq (decimal other ++ 58 ∷ end) name ≡ b → b ≡ false
    by false e = refl
    by true e =
        let same = (bytes_eq-Decides (decimal other ++ 58 ∷ end) name).0 e ∙ is in
        absurd (apart (sym (number-cut other core (58 ∷ end) (58 ∷ rest) small' small refl refl same).0))

module _ (t : Litmus) (core : ℕ) (small : core < 2 ^ 64) (name : List ℕ) (of_core : IsOfCore core name) where
  apart-from-core : (other : ℕ) → other < 2 ^ 64 → core ≢ other → NotAmong (map (key_of t) (map (named_register other) all_registers)) name
  unfolding all_registers
  apart-from-core other less apart =
      let each : (end : List ℕ) → bytes_eq (decimal other ++ 58 ∷ end) name ≡ false = λ end. other-core core other end name small less apart of_core in
      rw (each (codes "EAX"), each (codes "EBX"), each (codes "ECX"), each (codes "EDX"), each (codes "ESI"), each (codes "EDI")) refl

  apart-from-later : (other count : ℕ) → core < other → other + count < 2 ^ 64 → NotAmong (map (key_of t) (named_registers other count)) name
  apart-from-later other zero later less = refl
  apart-from-later other (suc count) later less =
      ap (is_among name) (map-append (key_of t) (map (named_register other) all_registers) (named_registers (other + 1) count))
      ∙ list_any-append (λ n. bytes_eq n name) (map (key_of t) (map (named_register other) all_registers)) (map (key_of t) (named_registers (other + 1) count))
      ∙ ap (λ (b : Bool). b || is_among name (map (key_of t) (named_registers (other + 1) count)))
      (apart-from-core other (omega (arith, less)) (λ e. omega (arith, e, later)))
      ∙ apart-from-later (other + 1) count (omega (arith, later)) (omega (arith, less))

-- of so many cores from this one on
cores-distinct : (t : Litmus) (core count : ℕ) → core + count < 2 ^ 64 → are_distinct (map (key_of t) (named_registers core count)) ≡ true
cores-distinct t core zero less = refl
cores-distinct t core (suc count) less =
    let block = map (key_of t) (map (named_register core) all_registers) in
    let later = map (key_of t) (named_registers (core + 1) count) in
    let each : (end : List ℕ) → NotAmong later (decimal core ++ 58 ∷ end) = λ end.
    apart-from-later t core (omega (arith, less)) (decimal core ++ 58 ∷ end) (end, refl) (core + 1) count (omega arith) (omega (arith, less)) in
    let apart : AllByRecursion (NotAmong later) (map (λ n. decimal core ++ n) six_ends) =
    (each (codes "EAX"), (each (codes "EBX"), (each (codes "ECX"), (each (codes "EDX"), (each (codes "ESI"), (each (codes "EDI"), tt)))))) in
    ap are_distinct (map-append (key_of t) (map (named_register core) all_registers) (named_registers (core + 1) count))
    ∙ distinct-both block later (core-distinct t core) (cores-distinct t (core + 1) count (omega (arith, less)))
    (subst (AllByRecursion (NotAmong later)) (sym (core-keys t core)) apart)

-- ---- locations

no-colon : (xs ys : List ℕ) → is_name (xs ++ 58 ∷ ys) ≡ true → ⊥
no-colon [] ys is = let no : ⊥ = cc in no
no-colon (x ∷ xs) ys is =
    let length_apart = and_parts _ _ is in
    let rest = and_parts _ _ length_apart.0 in
    behind xs ys rest.1
  where
    behind : (xs ys : List ℕ) → list_all continues_name (xs ++ 58 ∷ ys) ≡ true → ⊥
    behind [] ys all = let no : ⊥ = cc in no
    behind (x ∷ xs) ys all = behind xs ys (and_parts _ _ all).1

no-location : (names : List (List ℕ)) (core : ℕ) (end : List ℕ) → list_all is_location_name names ≡ true → NotAmong names (decimal core ++ 58 ∷ end)
no-location [] core end all = refl
no-location (n ∷ names) core end all =
    let parts = and_parts (is_location_name n) (list_all is_location_name names) all in
    by (bytes_eq n (decimal core ++ 58 ∷ end)) refl parts.0 (no-location names core end parts.1)
  where
    by : (b : Bool)
        → bytes_eq n (decimal core ++ 58 ∷ end) ≡ b
        → is_location_name n ≡ true
        → NotAmong names (decimal core ++ 58 ∷ end)
        → (b || is_among (decimal core ++ 58 ∷ end) names) ≡ false
    by true e is rest =
        let same = (bytes_eq-Decides n (decimal core ++ 58 ∷ end)).0 e in
        let name = (and_parts _ _ (and_parts _ _ is).0).0 in
        absurd (no-colon (decimal core) end (subst (λ (l : List ℕ). is_name l ≡ true) same name))
    by false e is rest = rest

no-core : (t : Litmus) (names : List (List ℕ)) (core count : ℕ)
    → list_all is_location_name names ≡ true
    → AllByRecursion (NotAmong names) (map (key_of t) (named_registers core count))
no-core t names core zero all = tt
no-core t names core (suc count) all =
    let each : (end : List ℕ) → NotAmong names (decimal core ++ 58 ∷ end) = λ end. no-location names core end all in
    let block : AllByRecursion (NotAmong names) (map (λ n. decimal core ++ n) six_ends) =
    (each (codes "EAX"), (each (codes "EBX"), (each (codes "ECX"), (each (codes "EDX"), (each (codes "ESI"), (each (codes "EDI"), tt)))))) in
    subst (AllByRecursion (NotAmong names)) (sym (map-append (key_of t) (map (named_register core) all_registers) (named_registers (core + 1) count)))
    (both-all (NotAmong names) (map (key_of t) (map (named_register core) all_registers)) (map (key_of t) (named_registers (core + 1) count))
    (subst (AllByRecursion (NotAmong names)) (sym (core-keys t core)) block) (no-core t names (core + 1) count all))

place-of : (front : List (List ℕ)) (name : List ℕ) (names : List (List ℕ)) → slice_index_or (front ++ name ∷ names) (length front) [] ≡ name
place-of [] name names = refl
place-of (f ∷ front) name names = place-of front name names

location-keys : (t : Litmus) (front names : List (List ℕ))
    → t.locations ≡ front ++ names
    → map (key_of t) (named_locations (length front) (length names)) ≡ names
location-keys t front [] is = refl
location-keys t front (n ∷ names) is =
    let first : slice_index_or t.locations (length front) [] ≡ n = ap (λ l. slice_index_or l (length front) []) is ∙ place-of front n names in
    let size : length (front ++ n ∷ []) ≡ length front + 1 = length-append front (n ∷ []) in
    let more = location-keys t (front ++ n ∷ []) names (is ∙ sym (append_assoc front (n ∷ []) names)) in
    λ i. first i ∷ (ap (λ k. map (key_of t) (named_locations k (length names))) (sym size) ∙ more) i

-- of those of them that pass a test
keys-differ : (p : Named → Bool) (t : Litmus) → IsTest t
    → are_distinct (map (key_of t) (filter p (named_registers 0 (length t.programs) ++ named_locations 0 (length t.locations)))) ≡ true
keys-differ p t test =
    let cores = length t.programs in
    let locations = map (key_of t) (named_locations 0 (length t.locations)) in
    let are : locations ≡ t.locations = location-keys t [] t.locations refl in
    let small : 0 + cores < 2 ^ 64 = let few = test.cores in omega (arith, few) in
    let whole : are_distinct (map (key_of t) (named_registers 0 cores ++ named_locations 0 (length t.locations))) ≡ true =
    ap are_distinct (map-append (key_of t) (named_registers 0 cores) (named_locations 0 (length t.locations)))
    ∙ distinct-both (map (key_of t) (named_registers 0 cores)) locations (cores-distinct t 0 cores small)
    (ap are_distinct are ∙ test.locations_differ)
    (subst (λ names. AllByRecursion (NotAmong names) (map (key_of t) (named_registers 0 cores))) (sym are)
    (no-core t t.locations 0 cores test.locations_spelled)) in
    distinct-kept (key_of t) p (named_registers 0 cores ++ named_locations 0 (length t.locations)) whole

pub keys-distinct : (show : Show) (t : Litmus) → IsTest t → are_distinct (map (key_of t) (names_shown show t)) ≡ true
keys-distinct show t test = keys-differ (is_shown show t) t test
