-- The words of a trace: what each begins a text with is told by the text.
use Rattle.printed_laws.proofs.Vocabulary.{◌≡◌, ℕ, ◌^◌, ◌<◌, true, false, List, [], ◌∷◌, ◌++◌, get_or, refl, sym, ap, subst, ◌∙◌, Option}
use Rattle.printed_laws.proofs.Vocabulary.{unwrap_or, arith, length, ◌==◌, if◌then◌else◌, decimal, list_all, is_ascii_digit}
use Rattle.printed_laws.proofs.Vocabulary.{append_cancel_left, append_assoc, codes, Litmus, IsTest, continues_name, name_of, Reg, Entry}
use Rattle.printed_laws.proofs.Vocabulary.{printed_entry, letters_of, printed_access, HasAccess, IsEntryFor, Eax, Ebx, Ecx, Edx, Esi, Edi}
use Rattle.printed_laws.proofs.Vocabulary.{nat_tests, Choice, Drain, printed_choice, Core, Loc, Kind, R, W, F, LR, LW, all_of_location}
use Rattle.printed_laws.proofs.Vocabulary.{location_again}
use Rattle.tso_terms.specs.declared.choice.Choice.TheVariants.{Step}
use Rattle.order_builder.specs.inner.Reading.{location_named}
use Rattle.printed_laws.proofs.texts.Cutting.{BeginsWithout, Stops, unlike, run-cut, number-cut, next-cut, same-cut}

-- ---- words

-- the text doesn't go on with a letter, a digit or an underscore
abbrev pub Ends : List ℕ → Type 0
Ends text = BeginsWithout continues_name text

no-digit : (b : ℕ) → continues_name b ≡ false → is_ascii_digit b ≡ false
no-digit b ends = grind (arith, nat_tests)

pub ends-stop : (text : List ℕ) → Ends text → Stops text
ends-stop [] ends = tt
ends-stop (b ∷ bs) ends = no-digit b ends

-- a word of a kind whose words are told apart by reading them
pub word-cut : {A : Type 0} (print : A → List ℕ) (read : List ℕ → A) (a b : A) (rest other : List ℕ)
    → ((x : A) → list_all continues_name (print x) ≡ true) → ((x : A) → read (print x) ≡ x) → Ends rest → Ends other
    → print a ++ rest ≡ print b ++ other → (a ≡ b) × (rest ≡ other)
word-cut print read a b rest other plain again ends ends' e =
    let cut = run-cut continues_name (print a) (print b) rest other (plain a) (plain b) ends ends' e in
    (sym (again a) ∙ (ap read cut.0 ∙ again b), cut.1)

-- a word that is told whatever follows it
pub read-cut : {A : Type 0} (print : A → List ℕ) (read : List ℕ → A) (a b : A) (rest other : List ℕ)
    → ((x : A) (after : List ℕ) → read (print x ++ after) ≡ x) → print a ++ rest ≡ print b ++ other → (a ≡ b) × (rest ≡ other)
read-cut print read a b rest other again e =
    let same : a ≡ b = sym (again a rest) ∙ (ap read e ∙ again b other) in
    (same, same-cut (print a) (print b) rest other (ap print same) e)

-- ---- registers

abbrev register_by : ℕ → ℕ → Reg
register_by second third =
    if second == 65 then Eax else if second == 66 then Ebx else if second == 67 then Ecx else if second == 83 then Esi else if third == 88 then Edx else Edi

abbrev read_register : List ℕ → Reg
read_register text = register_by (get_or text 1 0) (get_or text 2 0)

register-again : (reg : Reg) (after : List ℕ) → read_register (name_of reg ++ after) ≡ reg
register-again Eax after = refl
register-again reg after = refl

pub register-cut : (a b : Reg) (rest other : List ℕ) → name_of a ++ rest ≡ name_of b ++ other → (a ≡ b) × (rest ≡ other)
register-cut a b rest other e = read-cut name_of read_register a b rest other register-again e

-- ---- cores and choices

pub same-core : (a b : Core) → a.0 ≡ b.0 → a ≡ b
same-core a b same = λ i. record { 0 = same i }

pub same-loc : (a b : Loc) → a.0 ≡ b.0 → a ≡ b
same-loc a b same = λ i. record { 0 = same i }

abbrev pub core_in : Choice → ℕ
core_in (Step core) = core.0
core_in (Drain core) = core.0

step-flat : (core letter rest : List ℕ) → (core ++ letter) ++ rest ≡ core ++ (letter ++ rest)
step-flat core letter rest = append_assoc core letter rest

pub choice-cut : (a b : Choice) (rest other : List ℕ) → core_in a < 2 ^ 64 → core_in b < 2 ^ 64
    → printed_choice a ++ rest ≡ printed_choice b ++ other → (a ≡ b) × (rest ≡ other)
choice-cut (Step a) (Step b) rest other p q e =
    let flat = sym (step-flat (decimal a.0) (codes "s") rest) ∙ (e ∙ step-flat (decimal b.0) (codes "s") other) in
    let cut = number-cut a.0 b.0 (115 ∷ rest) (115 ∷ other) p q refl refl flat in
    (ap Step (same-core a b cut.0), append_cancel_left (115 ∷ []) rest other cut.1)
choice-cut (Drain a) (Drain b) rest other p q e =
    let flat = sym (step-flat (decimal a.0) (codes "d") rest) ∙ (e ∙ step-flat (decimal b.0) (codes "d") other) in
    let cut = number-cut a.0 b.0 (100 ∷ rest) (100 ∷ other) p q refl refl flat in
    (ap Drain (same-core a b cut.0), append_cancel_left (100 ∷ []) rest other cut.1)
choice-cut (Step a) (Drain b) rest other p q e =
    let flat = sym (step-flat (decimal a.0) (codes "s") rest) ∙ (e ∙ step-flat (decimal b.0) (codes "d") other) in
    unlike 0 (115 ∷ rest) (100 ∷ other) refl (number-cut a.0 b.0 (115 ∷ rest) (100 ∷ other) p q refl refl flat).1
choice-cut (Drain a) (Step b) rest other p q e =
    let flat = sym (step-flat (decimal a.0) (codes "d") rest) ∙ (e ∙ step-flat (decimal b.0) (codes "s") other) in
    unlike 0 (100 ∷ rest) (115 ∷ other) refl (number-cut a.0 b.0 (100 ∷ rest) (115 ∷ other) p q refl refl flat).1

-- ---- locations

pub location-cut : (t : Litmus) (i j : ℕ) (rest other : List ℕ) → IsTest t → i < length t.locations → j < length t.locations → Ends rest → Ends other
    → get_or t.locations i [] ++ rest ≡ get_or t.locations j [] ++ other → (i ≡ j) × (rest ≡ other)
location-cut t i j rest other test known known' ends ends' e =
    let cut =
    run-cut continues_name (get_or t.locations i []) (get_or t.locations j []) rest other
    (all_of_location t i test known) (all_of_location t j test known') ends ends' e in
    let both = sym (location_again t i test known) ∙ (ap (location_named t) cut.0 ∙ location_again t j test known') in
    (ap (λ (o : Option ℕ). unwrap_or o 0) both, cut.1)

-- ---- entries

abbrev pub read_kind : List ℕ → Kind
read_kind text =
    if get_or text 0 0 == 82 then R else if get_or text 0 0 == 87 then W else if get_or text 0 0 == 70 then F else if get_or text 1 0 == 82 then LR else LW

pub kind-plain : (kind : Kind) → list_all continues_name (letters_of kind) ≡ true
kind-plain R = refl
kind-plain kind = refl

pub kind-again : (kind : Kind) → read_kind (letters_of kind) ≡ kind
kind-again R = refl
kind-again kind = refl

-- ` x=1`, and the same location and value
named-flat : (name value rest : List ℕ) → (codes " " ++ (name ++ (codes "=" ++ value))) ++ rest ≡ codes " " ++ (name ++ (codes "=" ++ (value ++ rest)))
named-flat name value rest = simp append_assoc

pub value-cut : (t : Litmus) (i j v w : ℕ) (rest other : List ℕ)
    → IsTest t
    → i < length t.locations
    → j < length t.locations
    → v < 2 ^ 32
    → w < 2 ^ 32
    → Ends rest
    → Ends other
    → get_or t.locations i [] ++ (codes "=" ++ (decimal v ++ rest))
    ≡ get_or t.locations j [] ++ (codes "=" ++ (decimal w ++ other))
    → (i ≡ j) × (v ≡ w) × (rest ≡ other)
value-cut t i j v w rest other test known known' small small' ends ends' e =
    let name = location-cut t i j (codes "=" ++ (decimal v ++ rest)) (codes "=" ++ (decimal w ++ other)) test known known' refl refl e in
    let value = next-cut (codes "=") v w rest other (omega (arith, small)) (omega (arith, small')) (ends-stop rest ends) (ends-stop other ends') name.1 in
    (name.0, value.0, value.1)

-- what follows a kind is the end of a word
access-ends : (t : Litmus) (kind : Kind) (loc value : ℕ) (rest : List ℕ) → Ends rest → Ends (printed_access t kind loc value ++ rest)
access-ends t F loc value rest ends = ends
access-ends t kind loc value rest ends = refl

by-name : (t : Litmus) (i j v w : ℕ) (rest other : List ℕ)
    → IsTest t
    → (i < length t.locations) × (v < 2 ^ 32)
    → (j < length t.locations) × (w < 2 ^ 32)
    → Ends rest
    → Ends other
    → (codes " " ++ (get_or t.locations i [] ++ (codes "=" ++ decimal v))) ++ rest
    ≡ (codes " " ++ (get_or t.locations j [] ++ (codes "=" ++ decimal w))) ++ other
    → (i ≡ j) × (v ≡ w) × (rest ≡ other)
by-name t i j v w rest other test p q ends ends' e =
    let flat = sym (named-flat (get_or t.locations i []) (decimal v) rest) ∙ (e ∙ named-flat (get_or t.locations j []) (decimal w) other) in
    value-cut t i j v w rest other test p.0 q.0 p.1 q.1 ends ends' (append_cancel_left (codes " ") _ _ flat)

access-cut : (t : Litmus) (kind : Kind) (i j v w : ℕ) (rest other : List ℕ) → IsTest t → HasAccess t kind i v → HasAccess t kind j w → Ends rest → Ends other
    → printed_access t kind i v ++ rest ≡ printed_access t kind j w ++ other → (i ≡ j) × (v ≡ w) × (rest ≡ other)
access-cut t F i j v w rest other test p q ends ends' e = (p.0 ∙ sym q.0, p.1 ∙ sym q.1, e)
access-cut t kind i j v w rest other test p q ends ends' e = by-name t i j v w rest other test p q ends ends' e

pub entry-flat : (core place kind access rest : List ℕ)
    → (codes "P" ++ (core ++ (codes ":" ++ (place ++ (codes " " ++ (kind ++ access)))))) ++ rest
    ≡ codes "P" ++ (core ++ (codes ":" ++ (place ++ (codes " " ++ (kind ++ (access ++ rest))))))
entry-flat core place kind access rest = simp append_assoc

pub entry-cut : (t : Litmus) (a b : Entry) (rest other : List ℕ) → IsTest t → IsEntryFor t a → IsEntryFor t b → Ends rest → Ends other
    → printed_entry t a ++ rest ≡ printed_entry t b ++ other → (a ≡ b) × (rest ≡ other)
entry-cut t a b rest other test p q ends ends' e =
    let access = λ (x : Entry). printed_access t x.kind x.loc.0 x.value in
    let from_kind = λ (x : Entry) (after : List ℕ). letters_of x.kind ++ (access x ++ after) in
    let from_place = λ (x : Entry) (after : List ℕ). codes ":" ++ (decimal x.place ++ (codes " " ++ from_kind x after)) in
    let flat = sym (entry-flat (decimal a.core.0) (decimal a.place) (letters_of a.kind) (access a) rest)
    ∙ (e ∙ entry-flat (decimal b.core.0) (decimal b.place) (letters_of b.kind) (access b) other) in
    let small = p.core in
    let small' = q.core in
    let few = p.place in
    let few' = q.place in
    let core = next-cut (codes "P") a.core.0 b.core.0 (from_place a rest) (from_place b other) (omega (arith, small)) (omega (arith, small')) refl refl flat in
    let place =
    next-cut (codes ":") a.place b.place (codes " " ++ from_kind a rest) (codes " " ++ from_kind b other)
    (omega (arith, few)) (omega (arith, few')) refl refl core.1 in
    let kind = word-cut letters_of read_kind a.kind b.kind (access a ++ rest) (access b ++ other) kind-plain kind-again
    (access-ends t a.kind a.loc.0 a.value rest ends) (access-ends t b.kind b.loc.0 b.value other ends')
    (append_cancel_left (codes " ") (from_kind a rest) (from_kind b other) place.1) in
    let same_kind = subst (λ k. HasAccess t k b.loc.0 b.value) (sym kind.0) q.access in
    let last = access-cut t a.kind a.loc.0 b.loc.0 a.value b.value rest other test p.access same_kind ends ends'
    (kind.1 ∙ ap (λ k. printed_access t k b.loc.0 b.value ++ other) (sym kind.0)) in
    let cores = same-core a.core b.core core.0 in
    let locs = same-loc a.loc b.loc last.0 in
    ((λ i. record { core = cores i; place = place.0 i; kind = kind.0 i; loc = locs i; value = last.1 i }), last.2)
