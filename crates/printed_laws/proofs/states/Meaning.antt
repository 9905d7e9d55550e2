-- What the word of a condition means: for each end of the machine's runs, and for each execution.
use Rattle.printed_laws.proofs.Vocabulary.{Instructions, ◌≡◌, ℕ, ◌<◌, Bool, true, false, List, [], ◌∷◌, All, get_or, refl, sym, ap, subst}
use Rattle.printed_laws.proofs.Vocabulary.{◌∙◌, zero, suc, arith, ◌+◌, length, Some, ◌==◌, cond, map, not, Contains, eqb-true, list_all}
use Rattle.printed_laws.proofs.Vocabulary.{codes, count_by, Litmus, IsTest, well-formed, All-contains, Condition, Claim, truth_of, sum_by-cons, Named}
use Rattle.printed_laws.proofs.Vocabulary.{frequency, run, names_shown, values_at, Outcome, shown_values, held_in, failed_in, PrintsWord}
use Rattle.printed_laws.proofs.Vocabulary.{IsSoEverywhere, IsSoSomewhere, IsSoNowhere, IsAlwaysSo, IsSometimesSo, WordMeans, final_words}
use Rattle.printed_laws.proofs.Vocabulary.{final_registers, registers_in, IsEnd, EndsAreWhatTsoAllows, SpellsTest, TruthIsShown, parts_of}
use Rattle.printed_laws.proofs.Vocabulary.{Leads, made-of, Search, shown_after, PrintsAllOutcomes, PrintsSomeOutcomes, HeadlineOfOutcomes}
use Rattle.printed_laws.proofs.Vocabulary.{all, too_many, AreSomeOf}
use Rattle.tso_laws.specs.Outcomes.{IsSequentiallyConsistent}
use Rattle.printed_laws.proofs.texts.Cutting.{unlike}
use Rattle.printed_laws.proofs.texts.Digits.{is_other}
use Rattle.printed_laws.proofs.states.Words.{is_unquoted, word-is, word-isnt}

-- ---- counts

pub none-counted : {X : Type 0} (p : X → Bool) (xs : List X) → count_by p xs ≡ 0 → (x : X) → Contains xs x → p x ≡ false
none-counted p [] none x (i, small, is) = absurd (omega (arith, small))
none-counted {X} p (y ∷ ys) none x (i, small, is) =
    at i small is (p y) refl (sym (sum_by-cons (λ z. cond (p z) 1 0) y ys) ∙ none) (λ less j k same. none-counted p ys less x (j, k, same))
  where
    at : (i : ℕ) → i < suc (length ys) → get_or (y ∷ ys) i x ≡ x → (b : Bool) → p y ≡ b → cond b 1 0 + count_by p ys ≡ 0
        → (count_by p ys ≡ 0 → (j : ℕ) → j < length ys → get_or ys j x ≡ x → p x ≡ false) → p x ≡ false
    at i small is true so none further = absurd (omega (arith, none))
    at zero small is false isnt none further = ap p (sym is) ∙ isnt
    at (suc i) small is false isnt none further = further (omega (arith, none)) i (omega (arith, small)) is

pub some-counted : {X : Type 0} (p : X → Bool) (xs : List X) → 0 < count_by p xs → (x : X) × Contains xs x × (p x ≡ true)
some-counted p [] some = absurd (omega (arith, some))
some-counted {X} p (y ∷ ys) some =
    by (p y) refl (let cons = sum_by-cons (λ z. cond (p z) 1 0) y ys in subst (λ n. 0 < n) cons some) (some-counted p ys)
  where
    by : (b : Bool) → p y ≡ b → 0 < cond b 1 0 + count_by p ys → (0 < count_by p ys → (x : X) × Contains ys x × (p x ≡ true))
        → (x : X) × Contains (y ∷ ys) x × (p x ≡ true)
    by true so some further = (y, (0, omega arith, refl), so)
    by false isnt some further =
        let found = further (omega (arith, some)) in
        (found.0, (suc found.1.0, (let small = found.1.1 in omega (arith, small)), found.1.2), found.2)

-- ---- words

is-never : (held failed : ℕ) → frequency held failed ≡ codes "Never" → held ≡ 0
is-never held failed = by (held == 0) (failed == 0) refl
  where
    by : (never always : Bool) → (held == 0) ≡ never → cond never (codes "Never") (cond always (codes "Always") (codes "Sometimes")) ≡ codes "Never" → held ≡ 0
    by true always is word = eqb-true held 0 is
    by false true is word = unlike 0 (codes "Always") (codes "Never") refl word
    by false false is word = unlike 0 (codes "Sometimes") (codes "Never") refl word

is-always : (held failed : ℕ) → frequency held failed ≡ codes "Always" → failed ≡ 0
is-always held failed = by (held == 0) (failed == 0) refl
  where
    by : (never always : Bool)
        → (failed == 0) ≡ always
        → cond never (codes "Never") (cond always (codes "Always") (codes "Sometimes")) ≡ codes "Always"
        → failed ≡ 0
    by false true is word = eqb-true failed 0 is
    by never always is word = unlike 0 (cond never (codes "Never") (cond always (codes "Always") (codes "Sometimes"))) (codes "Always") refl word

pub some-if : (n : ℕ) → (n == 0) ≡ false → 0 < n
some-if zero is = absurd (let no : ⊥ = cc in no)
some-if (suc n) is = omega arith

is-sometimes : (held failed : ℕ) → frequency held failed ≡ codes "Sometimes" → (0 < held) × (0 < failed)
is-sometimes held failed = by (held == 0) (failed == 0) refl refl
  where
    by : (never always : Bool) → (held == 0) ≡ never → (failed == 0) ≡ always
        → cond never (codes "Never") (cond always (codes "Always") (codes "Sometimes")) ≡ codes "Sometimes" → (0 < held) × (0 < failed)
    by false false is too word = (some-if held is, some-if failed too)
    by never always is too word = unlike 0 (cond never (codes "Never") (cond always (codes "Always") (codes "Sometimes"))) (codes "Sometimes") refl word

-- ---- ends and executions

pub mapped : {X Y : Type 0} (f : X → Y) (xs : List X) (x : X) → Contains xs x → Contains (map f xs) (f x)
mapped f [] x (i, small, is) = absurd (omega (arith, small))
mapped f (y ∷ ys) x (zero, small, is) = (0, omega arith, ap f is)
mapped f (y ∷ ys) x (suc i, small, is) =
    let further = mapped f ys x (i, omega (arith, small), is) in
    (suc further.0, (let less = further.1 in omega (arith, less)), further.2)

module _ (t : Litmus) (condition : Condition) (s : Search) (json : Bool) (out : List ℕ) (laws : EndsAreWhatTsoAllows) (shown : TruthIsShown) (test : IsTest t)
    (is : t.condition ≡ Some condition) (p : PrintsAllOutcomes t s json out) where
  abbrev names : List Named
  names = names_shown s.show t

  -- the proposition's truth in a printed state is that in each state with its values
  pub same-truth : (o : Outcome) (registers : List (List ℕ)) (memory : List ℕ) → shown_values names o ≡ values_at names registers memory
      → truth_of registers memory condition.claim ≡ truth_of o.registers o.memory condition.claim
  same-truth o registers memory same = sym (shown s.show t condition o (record { registers = registers; memory = memory; choices = [] }) test is same)

  there : (truth : Bool) → ((o : Outcome) → Contains p.outcomes o → truth_of o.registers o.memory condition.claim ≡ truth)
      → (registers : List (List ℕ)) (memory : List ℕ)
      → Contains (map (shown_values names) p.outcomes) (values_at names registers memory)
      → truth_of registers memory condition.claim ≡ truth
  there truth each registers memory has =
      let made = made-of (shown_values names) p.outcomes (values_at names registers memory) has in
      same-truth made.0 registers memory made.2 ∙ each made.0 made.1

  pub everywhere : (truth : Bool)
      → ((o : Outcome) → Contains p.outcomes o → truth_of o.registers o.memory condition.claim ≡ truth)
      → IsSoEverywhere t s.depth condition.claim truth
  everywhere truth each = record {
    runs = λ choices cores ended.
        there truth each _ _ (p.all.complete (registers_in (run t s.depth choices).state) (run t s.depth choices).state.memory
        (record { choices = choices; cores = cores; ended = ended; registers_are = refl; memory_is = refl }));
    buffered = λ some order execution enough.
        there truth each (final_registers t order) (final_words t order) (p.all.complete (final_registers t order) (final_words t order)
        ((laws.by_depth t s.depth (final_registers t order) (final_words t order) (well-formed t test) some).1
        (record { order = order; execution = execution; depth_needed = enough; registers_are = refl; memory_is = refl })));
    tso = λ greatest order execution.
        there truth each (final_registers t order) (final_words t order) ((p.tso greatest (shown_after t names order)).1 (order, execution, refl));
    sequential = λ none order consistent.
        there truth each (final_registers t order) (final_words t order) ((p.sequential none (shown_after t names order)).1 (order, consistent, refl));
  }

-- ---- of states that were printed, all or some

-- each is reached, and without store buffers it is that of a sequentially consistent execution
pub record AreReachable (t : Litmus) (s : Search) (outcomes : List Outcome) : Type 0 where
  pub reached : All (Leads t s.depth) outcomes
  pub sequential : s.depth ≡ 0 → AreSomeOf t (names_shown s.show t) outcomes (IsSequentiallyConsistent t)

pub all-reachable : (t : Litmus) (s : Search) (json : Bool) (out : List ℕ) (p : PrintsAllOutcomes t s json out) → AreReachable t s p.outcomes
all-reachable t s json out p = record { reached = p.all.reached; sequential = λ none values. (p.sequential none values).0 }

pub some-reachable : (t : Litmus) (s : Search) (json : Bool) (out : List ℕ) (p : PrintsSomeOutcomes t s json out) → AreReachable t s p.outcomes
some-reachable t s json out p = record { reached = p.some.reached; sequential = p.sequential }

module _ (t : Litmus) (condition : Condition) (s : Search) (outcomes : List Outcome) (laws : EndsAreWhatTsoAllows) (shown : TruthIsShown) (test : IsTest t)
    (is : t.condition ≡ Some condition) (p : AreReachable t s outcomes) where
  pub somewhere : (truth : Bool) (o : Outcome)
      → Contains outcomes o
      → truth_of o.registers o.memory condition.claim ≡ truth
      → IsSoSomewhere t s.depth condition.claim truth
  somewhere truth o has so =
      let names = names_shown s.show t in
      let lead = All-contains (Leads t s.depth) outcomes o p.reached has in
      let end : IsEnd t s.depth o.registers o.memory = record {
        choices = o.choices;
        cores = lead.cores;
        ended = lead.ended;
        registers_are = lead.registers_are;
        memory_is = lead.memory_is;
      } in
      record {
        runs = (
          o.choices,
          lead.cores,
          lead.ended,
          ap (λ registers. truth_of registers (run t s.depth o.choices).state.memory condition.claim) lead.registers_are
              ∙ ap (λ memory. truth_of o.registers memory condition.claim) lead.memory_is ∙ so,
        );
        buffered = λ some.
            let allowed = (laws.by_depth t s.depth o.registers o.memory (well-formed t test) some).0 end in (
              allowed.order,
              allowed.execution,
              allowed.depth_needed,
              ap (λ registers. truth_of registers (final_words t allowed.order) condition.claim) allowed.registers_are
                  ∙ ap (λ memory. truth_of o.registers memory condition.claim) allowed.memory_is ∙ so,
            );
        sequential = λ none.
            let found = p.sequential none (shown_values names o) (mapped (shown_values names) outcomes o has) in (
              found.0,
              found.1,
              shown s.show t condition (record { registers = final_registers t found.0; memory = final_words t found.0; choices = [] }) o test is found.2 ∙ so,
            );
      }

-- ---- of an input

abbrev pub TestsAreWithin : Type 0
TestsAreWithin = (set : Instructions) (text : List ℕ) (t : Litmus) → SpellsTest set text t → IsTest t

-- a word is one of the three: it has no space and no quotation mark
record IsWord (word : List ℕ) : Type 0 where
  spaceless : list_all (is_other 32) word ≡ true
  unquoted : list_all is_unquoted word ≡ true

-- from the states that were printed to what is meant of the test
abbrev Tells : List ℕ → (Litmus → ℕ → Claim → Type 0) → Type 0
Tells word Meant =
    (t : Litmus) (condition : Condition) (s : Search) (json : Bool) (out : List ℕ)
    → EndsAreWhatTsoAllows
    → TruthIsShown
    → IsTest t
    → t.condition ≡ Some condition
    → (p : PrintsAllOutcomes t s json out)
    → frequency (held_in condition.claim p.outcomes) (failed_in condition.claim p.outcomes) ≡ word
    → Meant t s.depth condition.claim

means : (word : List ℕ) (Meant : Litmus → ℕ → Claim → Type 0)
    → IsWord word
    → Tells word Meant
    → TestsAreWithin
    → EndsAreWhatTsoAllows
    → TruthIsShown
    → WordMeans word Meant
means word Meant plain tells within laws shown search set json assert input out t condition small spelled is headline says =
    by ((headline.within small).every_test t spelled)
  where
    by : HeadlineOfOutcomes t search json out → Meant t search.depth condition.claim
    by (all p) =
        tells t condition search json out laws shown (within set (parts_of input).test t spelled) is p
        (word-is json t (names_shown search.show t) condition search.depth p.outcomes word is plain.spaceless
        plain.unquoted (subst (PrintsWord json word) p.printed says))
    by (too_many more p) =
        absurd (word-isnt json t (names_shown search.show t) condition search.states p.outcomes word is (subst (PrintsWord json word) p.printed says))

pub not-true : (b : Bool) → not b ≡ false → b ≡ true
not-true true is = refl
not-true false is = absurd (let no : ⊥ = cc in no)

pub not-false : (b : Bool) → not b ≡ true → b ≡ false
not-false false is = refl
not-false true is = absurd (let no : ⊥ = cc in no)

pub never-means : TestsAreWithin → EndsAreWhatTsoAllows → TruthIsShown → WordMeans (codes "Never") IsSoNowhere
never-means = means (codes "Never") IsSoNowhere (record { spaceless = refl; unquoted = refl }) (λ t condition s json out laws shown test is p word.
    let none = is-never (held_in condition.claim p.outcomes) (failed_in condition.claim p.outcomes) word in
    everywhere t condition s json out laws shown test is p false (none-counted (λ o. truth_of o.registers o.memory condition.claim) p.outcomes none))

pub always-means : TestsAreWithin → EndsAreWhatTsoAllows → TruthIsShown → WordMeans (codes "Always") IsAlwaysSo
always-means = means (codes "Always") IsAlwaysSo (record { spaceless = refl; unquoted = refl }) (λ t condition s json out laws shown test is p word.
    let none = is-always (held_in condition.claim p.outcomes) (failed_in condition.claim p.outcomes) word in
    everywhere t condition s json out laws shown test is p true (λ o has.
    not-true _ (none-counted (λ o. not (truth_of o.registers o.memory condition.claim)) p.outcomes none o has)))

pub sometimes-means : TestsAreWithin → EndsAreWhatTsoAllows → TruthIsShown → WordMeans (codes "Sometimes") IsSometimesSo
sometimes-means = means (codes "Sometimes") IsSometimesSo (record { spaceless = refl; unquoted = refl }) (λ t condition s json out laws shown test is p word.
    let both = is-sometimes (held_in condition.claim p.outcomes) (failed_in condition.claim p.outcomes) word in
    let held = some-counted (λ o. truth_of o.registers o.memory condition.claim) p.outcomes both.0 in
    let failed = some-counted (λ o. not (truth_of o.registers o.memory condition.claim)) p.outcomes both.1 in (
      somewhere t condition s p.outcomes laws shown test is (all-reachable t s json out p) true held.0 held.1 held.2,
      somewhere t condition s p.outcomes laws shown test is (all-reachable t s json out p) false failed.0 failed.1 (not-false _ failed.2),
    ))
