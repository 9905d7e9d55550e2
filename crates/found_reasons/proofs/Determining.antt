-- A branch in which each question is answered, and that no leaf closes: the case of its answers is full, and the model allows it.
use Rattle.found_reasons.proofs.Vocabulary.{◌≡◌, ℕ, Bool, true, false, List, length, Option, Some, None, refl, sym, subst, Litmus, IsTest}
use Rattle.found_reasons.proofs.Vocabulary.{IsCondition, Claim, Condition, NamesExist, Quantifier, Exists, NotExists, Forall, Ordered}
use Rattle.found_reasons.proofs.Vocabulary.{Known, events_of, on_location, global_in, asked_claim, asked_by, Model, IsOpen, IsFull}
use Rattle.found_reasons.proofs.Vocabulary.{NoneBetween, clash, Fact, LastWordsArePossible, Reading, readings, known_from, is_impossible}
use Rattle.found_reasons.proofs.Vocabulary.{answers_told, given_at_first, IsBranch, HasNoLeaf, IsAllowedCase}
use Rattle.relational_model.specs.Candidates.{Candidate, registers_left, words_left}
use Rattle.relational_model.specs.Model.{IsAllowed}
use Rattle.tso_terms.specs.Condition.{truth_of}
use Rattle.refutation_laws.specs.Edges as full
use Rattle.refutation_laws.proofs.Vocabulary.{sound}
use Rattle.refutation_laws.proofs.Soundness.{as-tso}
use Rattle.refutation_laws.proofs.Settling.{own_candidate}
use Rattle.refutation_laws.proofs.Allowing.{is-allowed}
use Rattle.refutation_laws.proofs.Progress.{agrees}
use Rattle.refutation_laws.proofs.ClaimFacts.{claim-allowed}
use Rattle.refutation_laws.proofs.Completeness.{six-of}
use Rattle.lemma_refutations.specs.Refutations.{allows}
use Rattle.lemma_refutations.proofs.Lists.{any-picked, any-at}
use Rattle.lemma_refutations.proofs.Covering.{Covers}
use Rattle.lemma_refutations.proofs.Telling.{between-told, ordered-told}
use Rattle.lemma_refutations.proofs.Exactness.{claim-exact, false-part}
use Rattle.found_reasons.proofs.Answering.{covers}

-- ---- the names of what is asked exist

asked-names : (cores locations : ℕ) (q : Quantifier) (claim : Claim) → NamesExist cores locations claim
    → NamesExist cores locations (asked_by q claim)
asked-names cores locations Exists claim n = n
asked-names cores locations NotExists claim n = n
asked-names cores locations Forall claim n = n

named : (t : Litmus) (d : Option Condition) → IsTest t → t.condition ≡ d → NamesExist (length t.programs) (length t.words) (asked_claim d)
named t None test e = tt
named t (Some d) test e =
    let f : IsCondition (length t.programs) (length t.locations) d = test.condition_fits d e in
    asked-names (length t.programs) (length t.words) d.quantifier d.claim
    (subst (λ n. NamesExist (length t.programs) n d.claim) (sym test.words_given) f.names_known)

pub names : (t : Litmus) → IsTest t → NamesExist (length t.programs) (length t.words) (asked_claim t.condition)
names t test = named t t.condition test refl

-- ---- the case

module _ (words : LastWordsArePossible) (model : Model) (t : Litmus) (test : IsTest t) (facts : List Fact) (b : IsBranch t facts)
    (f : IsFull t (answers_told facts)) (u : HasNoLeaf model t (known_from t facts)) where
  abbrev k : Known
  k = answers_told facts

  abbrev given : List Fact
  given = given_at_first t

  abbrev claim : Claim
  claim = asked_claim t.condition

  held : Covers given k facts
  held = covers t facts b

  on-location : Ordered (λ x y. full.is_edge t k on_location x y ≡ true) (events_of t)
  on-location = ordered-told t given k facts held on_location u.on_location

  globally : Ordered (λ x y. full.is_edge t k (global_in model) x y ≡ true) (events_of t)
  globally = ordered-told t given k facts held (global_in model) u.globally

  none : NoneBetween t k
  none = λ r v w i j l h. u.none_between r v w i j l (between-told t given k facts held r v w i h)

  o : IsOpen model t k
  o = record { full = f; six = six-of t test; within_locations = on-location; globally = globally }

  abbrev c : Candidate
  c = own_candidate model t k o

  tso : IsAllowed t c
  tso = as-tso model t c (is-allowed model t k o none)

  -- what is asked can be true, as far as the facts tell
  can-be : allows t (known_from t facts) claim true ≡ true
  can-be = go (allows t (known_from t facts) claim true) refl
    where
      go : (x : Bool) → allows t (known_from t facts) claim true ≡ x → x ≡ true
      go true q = refl
      go false q =
          let m = any-picked (is_impossible t (known_from t facts)) given (false-part t (known_from t facts) claim true q) in
          let i = held.from_start m.member (m.place, m.stands) in
          absurd (clash _ (any-at (is_impossible t (known_from t facts)) facts i.0 m.member i.1 m.holds) u.can_be)

  -- so it is in the state that the case's candidate leaves
  holds : truth_of (registers_left t c) (words_left t c) claim ≡ true
  holds = claim-exact words model t k o tso given facts held claim (names t test) true can-be

  pub allowed-case : IsAllowedCase model t k
  allowed-case = record {
    on_location = on-location;
    globally = globally;
    none_between = none;
    can_be = claim-allowed t c (sound t c tso.candidate) k (agrees model t k o b.sound) claim (names t test) true holds;
  }

-- the same, told by a table and by answers
pub allowed-told : (words : LastWordsArePossible) (model : Model) (t : Litmus) → IsTest t → (facts : List Fact) → IsBranch t facts
    → (table : List Reading) → table ≡ readings t facts → (known : Known) → known ≡ answers_told facts → IsFull t known
    → HasNoLeaf model t (record { facts = facts; readings = table }) → IsAllowedCase model t known
allowed-told words model t test facts b table e known a f u =
    subst (IsAllowedCase model t) (sym a)
    (allowed-case words model t test facts b (subst (IsFull t) a f)
    (subst (λ (rs : List Reading). HasNoLeaf model t (record { facts = facts; readings = rs })) e u))
