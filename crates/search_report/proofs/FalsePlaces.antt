-- Where each place that a line `False` names has one of its values, the propositions that are given can't all be as they are given.
use Rattle.std.proofs.Common.{◌≡◌, ◌∙◌, ◌⊎◌, inl, inr, ◌==◌, ◌&&◌, ◌||◌, ℕ, Bool, true, false, not, cond, List, [], ◌∷◌, ◌++◌, slice_index}
use Rattle.std.proofs.Common.{slice_index_or, Some, None, All, Contains, refl, sym, ap, subst, eqb-true}
use Rattle.std.specs.List.{list_any}
use Rattle.search_report.proofs.LastWords.{Among, any-member, can-be-so, known, words-by-facts}
use Rattle.std.proofs.lemmas.Bool.{and_parts, and_from, or_right, or_cases}
use Rattle.std.proofs.lemmas.List.Elements.{All-head, All-tail}
use Rattle.std.proofs.lemmas.List.Folds.{list_any-append}
use Rattle.tso_terms.specs.Litmus.{Litmus}
use Rattle.tso_terms.specs.Registers.{index_of}
use Rattle.tso_terms.specs.Condition.{Claim, truth_of, TruthClaim, RegClaim, LocClaim, NotClaim, AndClaim, OrClaim}
use Rattle.tso_report.specs.declared.named.Named.{Named}
use Rattle.tso_report.specs.declared.named.Named.TheVariants.{Register, Location}
use Rattle.tso_report.specs.Tally.{named_location, named_register, shown_value}
use Rattle.possible_reads.specs.Facts.{Fact, From, Before, Last, Returns, Holds}
use Rattle.possible_reads.specs.Expressions.{Constant, first_registers, registers_at_end}
use Rattle.possible_reads.specs.Possible.{Values, both_of, can_be, fits_word, is_among, kept, last_words, may_be_left, same_number}
use Rattle.possible_reads.specs.Possible.{told_word, values_of, values_read, words_left}
use Rattle.lemma_refutations.specs.Edges.{Knowledge}
use Rattle.lemma_refutations.specs.Refutations.{allows, is_impossible, known_from}
use Rattle.search_report.specs.Places.{Place, is_same_place}
use Rattle.search_report.specs.Shown.{with_names_of, places_at, places_false, places_in, values_left_at, with_named, with_place, words_left_at}
use Rattle.search_report.specs.FalseLines.{FalseLinesAreSo, IsAsGiven}
use Rattle.search_report.proofs.Members.{Member, to-member, member-filter}
use Rattle.search_report.proofs.Showing.{eq-self}

-- ---- values

kept-among : (test : ℕ → Bool) (values : Values) (m : ℕ) → test m ≡ true → Among m values → Among m (kept test values)
unfolding known
kept-among test None m is among ws e = absurd (let no : ⊥ = cc in no)
kept-among test (Some us) m is among ws e = subst (Member m) (ap known e) (member-filter test m us is (among us refl))

both-among : (us vs : Values) (m : ℕ) → Among m us → Among m vs → Among m (both_of us vs)
unfolding known
both-among None vs m first second ws e = second ws e
both-among (Some us) None m first second ws e = first ws e
both-among (Some us) (Some vs) m first second ws e =
    subst (Member m) (ap known e) (member-filter (is_among vs) m us (any-member (λ v. v == m) vs m (second vs refl) (eq-self m)) (first us refl))

same-is : (b : Bool) (n m : ℕ) → (m == n) ≡ b → same_number b n m ≡ true
same-is true n m e = e
same-is false n m e = ap not e

-- ---- truths

turned : (a b : Bool) → not a ≡ b → a ≡ not b
turned true b e = ap not e
turned false b e = ap not e

both-false : (a b : Bool) → (a && b) ≡ false → (a ≡ false) ⊎ (b ≡ false)
both-false true b is = inr is
both-false false b is = inl refl

or-left-false : (a b : Bool) → (a || b) ≡ false → a ≡ false
or-left-false true b is = is
or-left-false false b is = refl

or-right-false : (a b : Bool) → (a || b) ≡ false → b ≡ false
or-right-false true b is = absurd (let no : ⊥ = cc in no)
or-right-false false b is = is

either-so : (a b : Bool) → (a ≡ true) ⊎ (b ≡ true) → (a || b) ≡ true
either-so a b (inl e) = ap (λ x. x || b) e
either-so a b (inr e) = or_right a b e

-- ---- names

-- one of these is the same place
abbrev Has : Named → List Named → Type 0
Has named names = list_any (is_same_place named) names ≡ true

same-itself : (named : Named) → is_same_place named named ≡ true
same-itself (Register core reg) = ap (λ x. x && (index_of reg == index_of reg)) (eq-self core.0) ∙ eq-self (index_of reg)
same-itself (Location loc) = eq-self loc.0

has-more : (named other : Named) (names : List Named) → Has named names → Has named (with_named other names)
has-more named other names has = by (list_any (is_same_place other) names)
  where
    by : (b : Bool) → Has named (cond b names (names ++ (other ∷ [])))
    by true = has
    by false = list_any-append (is_same_place named) names (other ∷ []) ∙ either-so _ _ (inl has)

has-own : (named : Named) (names : List Named) → Has named (with_named named names)
has-own named names = by (list_any (is_same_place named) names) refl
  where
    by : (b : Bool) → list_any (is_same_place named) names ≡ b → Has named (cond b names (names ++ (named ∷ [])))
    by true e = e
    by false e = list_any-append (is_same_place named) names (named ∷ []) ∙ either-so _ _ (inr (ap (λ x. x || false) (same-itself named)))

stays : (claim : Claim) (names : List Named) (named : Named) → Has named names → Has named (with_names_of claim names)
stays (TruthClaim c) names named has = has
stays (RegClaim core reg n) names named has = has-more named (named_register core reg) names has
stays (LocClaim loc n) names named has = has-more named (named_location loc) names has
stays (NotClaim c) names named has = stays c names named has
stays (AndClaim l r) names named has = stays r (with_names_of l names) named (stays l names named has)
stays (OrClaim l r) names named has = stays r (with_names_of l names) named (stays l names named has)

-- all that a claim names is among these
abbrev AreNamed : Claim → List Named → Type 0
AreNamed (TruthClaim c) names = Unit {0}
AreNamed (RegClaim core reg n) names = Has (named_register core reg) names
AreNamed (LocClaim loc n) names = Has (named_location loc) names
AreNamed (NotClaim c) names = AreNamed c names
AreNamed (AndClaim l r) names = AreNamed l names × AreNamed r names
AreNamed (OrClaim l r) names = AreNamed l names × AreNamed r names

all-stay : (other claim : Claim) (names : List Named) → AreNamed claim names → AreNamed claim (with_names_of other names)
all-stay other (TruthClaim c) names are = tt
all-stay other (RegClaim core reg n) names are = stays other names (named_register core reg) are
all-stay other (LocClaim loc n) names are = stays other names (named_location loc) are
all-stay other (NotClaim c) names are = all-stay other c names are
all-stay other (AndClaim l r) names are = (all-stay other l names are.0, all-stay other r names are.1)
all-stay other (OrClaim l r) names are = (all-stay other l names are.0, all-stay other r names are.1)

all-named : (claim : Claim) (names : List Named) → AreNamed claim (with_names_of claim names)
all-named (TruthClaim c) names = tt
all-named (RegClaim core reg n) names = has-own (named_register core reg) names
all-named (LocClaim loc n) names = has-own (named_location loc) names
all-named (NotClaim c) names = all-named c names
all-named (AndClaim l r) names = (all-stay r l (with_names_of l names) (all-named l names), all-named r (with_names_of l names))
all-named (OrClaim l r) names = (all-stay r l (with_names_of l names) (all-named l names), all-named r (with_names_of l names))

module _ (registers : List (List ℕ)) (memory : List ℕ) where
  abbrev truth : Claim → Bool
  truth claim = truth_of registers memory claim

  abbrev shown : Named → ℕ
  shown named = shown_value registers memory named

  abbrev word : ℕ → ℕ
  word loc = slice_index memory loc

  -- ---- what facts tell of a location

  fits : (loc : ℕ) (f : Fact) → IsAsGiven registers memory f → fits_word loc (word loc) f ≡ true
  fits loc (Holds (LocClaim l v) b) so = by (l == loc) refl
    where
      by : (q : Bool) → (l == loc) ≡ q → cond q (same_number b v (word loc)) true ≡ true
      by true e = same-is b v (word loc) (ap (λ x. word x == v) (sym (eqb-true l loc e)) ∙ so)
      by false e = refl
  fits loc (Holds (TruthClaim c) b) so = refl
  fits loc (Holds (RegClaim core reg n) b) so = refl
  fits loc (Holds (NotClaim c) b) so = refl
  fits loc (Holds (AndClaim l r) b) so = refl
  fits loc (Holds (OrClaim l r) b) so = refl
  fits loc (From r w b) so = refl
  fits loc (Before w v) so = refl
  fits loc (Last w b) so = refl
  fits loc (Returns r v b) so = refl

  all-fit : (loc : ℕ) (facts : List Fact) → All (IsAsGiven registers memory) facts → may_be_left facts loc (word loc) ≡ true
  all-fit loc [] so = refl
  all-fit loc (f ∷ facts) so =
      and_from _ _ (fits loc f (All-head (IsAsGiven registers memory) f facts so)) (all-fit loc facts (All-tail (IsAsGiven registers memory) f facts so))

  told-first : (loc : ℕ) (facts : List Fact) (g : Fact) → IsAsGiven registers memory g → Among (word loc) (told_word facts loc)
      → Among (word loc) (told_word (g ∷ facts) loc)
  unfolding known
  told-first loc facts (Holds (LocClaim l v) true) is rest = by (l == loc) refl
    where
      by : (q : Bool) → (l == loc) ≡ q → Among (word loc) (cond q (Some (v ∷ [])) (told_word facts loc))
      by true e ws same = subst (Member (word loc)) (ap known same) (inl (ap word (sym (eqb-true l loc e)) ∙ eqb-true (word l) v is))
      by false e ws same = rest ws same
  told-first loc facts (Holds (LocClaim l v) false) is rest = rest
  told-first loc facts (Holds (TruthClaim c) b) is rest = rest
  told-first loc facts (Holds (RegClaim core reg n) b) is rest = rest
  told-first loc facts (Holds (NotClaim c) b) is rest = rest
  told-first loc facts (Holds (AndClaim l r) b) is rest = rest
  told-first loc facts (Holds (OrClaim l r) b) is rest = rest
  told-first loc facts (From r w b) is rest = rest
  told-first loc facts (Before w v) is rest = rest
  told-first loc facts (Last w b) is rest = rest
  told-first loc facts (Returns r v b) is rest = rest

  told : (loc : ℕ) (facts : List Fact) → All (IsAsGiven registers memory) facts → Among (word loc) (told_word facts loc)
  told loc [] so ws e = absurd (let no : ⊥ = cc in no)
  told loc (f ∷ facts) so ws e =
      told-first loc facts f (All-head (IsAsGiven registers memory) f facts so) (told loc facts (All-tail (IsAsGiven registers memory) f facts so)) ws e

  module _ (t : Litmus) (k : Knowledge) (so : All (IsAsGiven registers memory) k.facts) where
    -- ---- a claim is allowed what it is

    -- each place that it names has a value that it can have
    abbrev AllAmong : Claim → Type 0
    AllAmong (TruthClaim c) = Unit {0}
    AllAmong (RegClaim core reg n) = Among (shown (named_register core reg)) (values_left_at t k (named_register core reg))
    AllAmong (LocClaim loc n) = Among (shown (named_location loc)) (values_left_at t k (named_location loc))
    AllAmong (NotClaim c) = AllAmong c
    AllAmong (AndClaim l r) = AllAmong l × AllAmong r
    AllAmong (OrClaim l r) = AllAmong l × AllAmong r

    allowed : (claim : Claim) (b : Bool) → AllAmong claim → truth claim ≡ b → allows t k claim b ≡ true
    allowed (TruthClaim c) true among e = e
    allowed (TruthClaim c) false among e = ap not e
    allowed (RegClaim core reg n) b among e =
        can-be-so (values_left_at t k (named_register core reg)) (same_number b n) (shown (named_register core reg))
        among (same-is b n (shown (named_register core reg)) e)
    allowed (LocClaim loc n) b among e =
        let fits = all-fit loc k.facts so in
        can-be-so (words_left t k.facts k.readings loc) (same_number b n) (word loc)
        (kept-among (may_be_left k.facts loc) (both_of (told_word k.facts loc) (last_words t k.facts k.readings loc)) (word loc) fits
        (both-among (told_word k.facts loc) (last_words t k.facts k.readings loc) (word loc) (told loc k.facts so)
        (words-by-facts t k loc (word loc) fits among)))
        (same-is b n (word loc) e)
    allowed (NotClaim c) b among e = allowed c (not b) among (turned (truth c) b e)
    allowed (AndClaim l r) true among e =
        let parts = and_parts (truth l) (truth r) e in
        and_from _ _ (allowed l true among.0 parts.0) (allowed r true among.1 parts.1)
    allowed (AndClaim l r) false among e = by (both-false (truth l) (truth r) e) (allowed l false among.0) (allowed r false among.1)
      where
        by : (truth l ≡ false) ⊎ (truth r ≡ false) → (truth l ≡ false → allows t k l false ≡ true) → (truth r ≡ false → allows t k r false ≡ true)
            → (allows t k l false || allows t k r false) ≡ true
        by (inl is) left right = either-so _ _ (inl (left is))
        by (inr is) left right = either-so _ _ (inr (right is))
    allowed (OrClaim l r) true among e = by (or_cases (truth l) (truth r) e) (allowed l true among.0) (allowed r true among.1)
      where
        by : (truth l ≡ true) ⊎ (truth r ≡ true) → (truth l ≡ true → allows t k l true ≡ true) → (truth r ≡ true → allows t k r true ≡ true)
            → (allows t k l true || allows t k r true) ≡ true
        by (inl is) left right = either-so _ _ (inl (left is))
        by (inr is) left right = either-so _ _ (inr (right is))
    allowed (OrClaim l r) false among e =
        and_from _ _ (allowed l false among.0 (or-left-false (truth l) (truth r) e)) (allowed r false among.1 (or-right-false (truth l) (truth r) e))

    -- ---- the places that are named

    abbrev HasOne : Place → Type 0
    HasOne p = Contains p.values (shown p.named)

    here : (n : Named) (values : Values) (places : List Place) → All HasOne (with_place n values places) → Among (shown n) values
    unfolding known
    here n None places has ws e = absurd (let no : ⊥ = cc in no)
    here n (Some us) places has ws e =
        subst (Member (shown n)) (ap known e) (to-member (shown n) us (All-head HasOne (record { named = n; values = us }) places has))

    further : (n : Named) (values : Values) (places : List Place) → All HasOne (with_place n values places) → All HasOne places
    further n None places has = has
    further n (Some us) places has = All-tail HasOne (record { named = n; values = us }) places has

    abbrev CanBe : Named → Type 0
    CanBe named = Among (shown named) (values_left_at t k named)

    at-same : (a b : Named) → is_same_place a b ≡ true → CanBe b → CanBe a
    at-same (Register core reg) (Register other named) is can =
        let both = and_parts (core.0 == other.0) (index_of reg == index_of named) is in
        let held : ℕ → ℕ → Type 0 =
        λ c i. Among (slice_index (slice_index_or registers c []) i)
        (values_of (values_read k.readings)
        (slice_index_or (registers_at_end c 0 (slice_index_or t.programs c []) (first_registers t.registers c)) i (Constant 0))) in
        subst (λ c. held c (index_of reg)) (sym (eqb-true core.0 other.0 both.0))
        (subst (held other.0) (sym (eqb-true (index_of reg) (index_of named) both.1)) can)
    at-same (Location loc) (Location other) is can =
        subst (λ l. Among (word l) (words_left_at t k l)) (sym (eqb-true loc.0 other.0 is)) can
    at-same (Register core reg) (Location loc) is can = absurd (let no : ⊥ = cc in no)
    at-same (Location loc) (Register core reg) is can = absurd (let no : ⊥ = cc in no)

    placed : (named : Named) (names : List Named) → Has named names → All HasOne (places_at t k names) → CanBe named
    placed named [] m has = absurd (let no : ⊥ = cc in no)
    placed named (n ∷ names) m has =
        by (placed named names) (is_same_place named n) refl m
      where
        by : (Has named names → All HasOne (places_at t k names) → CanBe named) → (b : Bool) → is_same_place named n ≡ b
            → (b || list_any (is_same_place named) names) ≡ true → CanBe named
        by later true is some = at-same named n is (here n (values_left_at t k n) (places_at t k names) has)
        by later false is some = later some (further n (values_left_at t k n) (places_at t k names) has)

    all-among : (claim : Claim) (names : List Named) → AreNamed claim names → All HasOne (places_at t k names) → AllAmong claim
    all-among (TruthClaim c) names are has = tt
    all-among (RegClaim core reg n) names are has = placed (named_register core reg) names are has
    all-among (LocClaim loc n) names are has = placed (named_location loc) names are has
    all-among (NotClaim c) names are has = all-among c names are has
    all-among (AndClaim l r) names are has = (all-among l names are.0 has, all-among r names are.1 has)
    all-among (OrClaim l r) names are has = (all-among l names are.0 has, all-among r names are.1 has)

    -- ---- the first part that can't be so

    one-false : (f : Fact) → IsAsGiven registers memory f → is_impossible t k f ≡ true → All HasOne (places_in t k f) → ⊥
    one-false (Holds claim b) is none has =
        let can = allowed claim b (all-among claim (with_names_of claim []) (all-named claim []) has) is in
        let clash : false ≡ true = sym (ap not can) ∙ none in let no : ⊥ = cc in no
    one-false (From r w b) is none has = let no : ⊥ = cc in no
    one-false (Before w v) is none has = let no : ⊥ = cc in no
    one-false (Last w b) is none has = let no : ⊥ = cc in no
    one-false (Returns r v b) is none has = let no : ⊥ = cc in no

    some-false : (facts : List Fact) → All (IsAsGiven registers memory) facts → list_any (is_impossible t k) facts ≡ true
        → All HasOne (places_false t k facts) → ⊥
    some-false [] is none has = let no : ⊥ = cc in no
    some-false (f ∷ facts) is none has =
        by (some-false facts (All-tail (IsAsGiven registers memory) f facts is)) (is_impossible t k f) refl none has
      where
        by : (list_any (is_impossible t k) facts ≡ true → All HasOne (places_false t k facts) → ⊥) → (q : Bool) → is_impossible t k f ≡ q
            → (q || list_any (is_impossible t k) facts) ≡ true → All HasOne (cond q (places_in t k f) (places_false t k facts)) → ⊥
        by later true e some here = one-false f (All-head (IsAsGiven registers memory) f facts is) e here
        by later false e some here = later some here

pub false-so : FalseLinesAreSo
false-so t facts registers memory none has so = some-false registers memory t (known_from t facts) so facts so none has
