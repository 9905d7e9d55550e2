-- What `check` answers, and what that means.
use Rattle.tso_cli.proofs.Vocabulary.{◌≡◌, ◌≢◌, ℕ, false, ◌<◌, ◌≤◌, ◌^◌, List, [], length, get_or, Some, slice_get, slice_index_or, All}
use Rattle.tso_cli.proofs.Vocabulary.{refl, sym, ap, subst, arith, slice_get-get_or, Litmus, IsTest, IsWellFormed, well-formed, IsWhole}
use Rattle.tso_cli.proofs.Vocabulary.{IsTsoExecution, StandsIn, Run}
use Rattle.tso_cli.proofs.Vocabulary.{program_of, Entry, FitsTest, IsExecution, HasWord, HasAccess, IsEntryFor, IsOrderFor, SpellsOrder}
use Rattle.tso_cli.proofs.Vocabulary.{HasFault, OrderFault, IsFirstBreach, Breach, ProtocolKind, Configuration, report, ShownRun, shown_of}
use Rattle.tso_cli.proofs.Vocabulary.{IsCheckAnswer, IsJudgement, valid, valid_line, invalid_line, JudgesOrder, JudgesEachOrder}
use Rattle.tso_cli.proofs.Vocabulary.{PrintsExecution, Status, Good}
use Rattle.basic_laws.specs.Types.{Kind, F}
use Rattle.cache_set.specs.Geometry.{IsShapeWithinLimits}
use Rattle.tso_cli.specs.CommandAnswers.{refused, judged, invalid}

-- ---- what an answer means

lines_differ : (t : Litmus) (b : Breach) → invalid_line t b ≢ valid_line
lines_differ t b same = let letters : 105 ≡ 118 = ap (λ (l : List ℕ). get_or l 6 0) same in omega (arith, letters)

-- the laws of first breaches and of spelling, as this file uses them
abbrev pub IsReal : Type 0
IsReal = (t : Litmus) (order : List Entry) (b : Breach) → IsFirstBreach t order b → ¬ IsTsoExecution t order

abbrev pub IsOne : Type 0
IsOne = (t : Litmus) (order : List Entry) (b c : Breach) → IsFirstBreach t order b → IsFirstBreach t order c → b ≡ c

abbrev pub IsOnce : Type 0
IsOnce = (t : Litmus) (text : List ℕ) (order other : List Entry) → IsTest t → length text < 2 ^ 64
    → SpellsOrder t text order → SpellsOrder t text other → order ≡ other

abbrev pub IsNeverBoth : Type 0
IsNeverBoth = (t : Litmus) (text : List ℕ) (order : List Entry) (fault : OrderFault) → IsTest t → length text < 2 ^ 64
    → SpellsOrder t text order → HasFault t text fault → ⊥

pub judgement-means : (t : Litmus) (order : List Entry) (out : List ℕ) (status : Status) → IsReal → IsOne
    → IsJudgement t order out status → JudgesOrder t order out
judgement-means t order _ _ real one (valid is) = record {
  valid = (λ _. is, λ _. refl);
  breach = λ b first. absurd (real t order b first is);
}
judgement-means t order _ _ real one (invalid b first) = record {
  valid = (λ same. absurd (lines_differ t b same), λ is. absurd (real t order b first is));
  breach = λ c other. ap (invalid_line t) (one t order b c first other);
}

pub check-means : (t : Litmus) (text out : List ℕ) (status : Status) → IsReal → IsOne → IsOnce → IsNeverBoth → IsTest t → length text < 2 ^ 64
    → IsCheckAnswer t text out status → JudgesEachOrder t text out
check-means t text _ _ real one once never test short (refused fault has) = record {
  every_order = λ order spelled. absurd (never t text order fault test short spelled has);
  every_other = λ none. (fault, has, refl);
}
check-means t text _ _ real one once never test short (judged order out status spelled is) = record {
  every_order = λ other again.
      subst (λ o. JudgesOrder t o out) (once t text order other test short spelled again) (judgement-means t order out status real one is);
  every_other = λ none. absurd (none order spelled);
}

valid-judgement : (t : Litmus) (order : List Entry) (out : List ℕ) (status : Status) → IsReal → IsTsoExecution t order
    → IsJudgement t order out status → (out ≡ valid_line) × (status ≡ Good)
valid-judgement t order _ _ real execution (valid is) = (refl, refl)
valid-judgement t order _ _ real execution (invalid b first) = absurd (real t order b first execution)

pub valid-answer : (t : Litmus) (text : List ℕ) (order : List Entry) (out : List ℕ) (status : Status) → IsReal → IsOnce → IsNeverBoth → IsTest t
    → length text < 2 ^ 64 → SpellsOrder t text order → IsTsoExecution t order → IsCheckAnswer t text out status
    → (out ≡ valid_line) × (status ≡ Good)
valid-answer t text order _ _ real once never test short spelled execution (refused fault has) = absurd (never t text order fault test short spelled has)
valid-answer t text order _ _ real once never test short spelled execution (judged other out status again is) =
    valid-judgement t other out status real (subst (IsTsoExecution t) (once t text order other test short spelled again) execution) is

pub printed-is-valid : (t : Litmus) (kind : ProtocolKind) (c : Configuration) (r : Run) (out answer : List ℕ)
    (status : Status)
    → IsReal
    → IsOnce
    → IsNeverBoth
    → IsTest t
    → length out < 2 ^ 64 → PrintsExecution t kind c false r out → IsCheckAnswer t out answer status → (answer ≡ valid_line) × (status ≡ Good)
printed-is-valid t kind c r out answer status real once never test short prints is =
    valid-answer t out prints.shown.order answer status real once never test short (prints.spelled refl) prints.execution is

-- ---- the order of an ended run has all that the text of an order needs

access : (t : Litmus) (kind : Kind) (loc value : ℕ) → (kind ≢ F → loc < length t.locations) → (kind ≡ F → (loc ≡ 0) × (value ≡ 0)) → value < 2 ^ 32
    → HasAccess t kind loc value
access t F loc value known fence word = fence refl
access t kind loc value known fence word = (known (λ e. absurd cc), word)

entry-for : (t : Litmus) (e : Entry) → IsTest t → FitsTest t e → HasWord e → IsEntryFor t e
entry-for t e test fits word =
    let cores = test.cores in
    let size : length (program_of t e.core.0) ≤ 32 = (test.programs_fit e.core.0 [] fits.core).size in
    record {
      core = let c = fits.core in omega (arith, c, cores);
      place = let p = fits.place in omega (arith, p, size);
      access = access t e.kind e.loc.0 e.value fits.location fits.fence word;
    }

stands-at : (order : List Entry) (k : ℕ) (d : Entry) → k < length order → slice_get order k ≡ Some (slice_index_or order k d)
stands-at order k d lt = slice_get-get_or order k d lt

pub order-for : (t : Litmus) (order : List Entry) → IsTest t → ((e : Entry) → StandsIn order e → FitsTest t e) → All HasWord order → IsOrderFor t order
order-for t order test fits words = λ k d lt.
    entry-for t (slice_index_or order k d) test (fits _ (k, stands-at order k d lt)) (words k d lt)

pub run-spells : (t : Litmus) (kind : ProtocolKind) (c : Configuration) (r : Run) (s : ShownRun) (text : List ℕ)
    → IsTest t
    → c.depth < 2 ^ 64
    → IsShapeWithinLimits c.shape
    → ((t : Litmus) (kind : ProtocolKind) (c : Configuration) (s : ShownRun)
    → IsTest t
    → c.depth < 2 ^ 64
    → IsShapeWithinLimits c.shape
    → IsOrderFor t s.order
    → SpellsOrder t (report t kind c s) s.order)
    → ((t : Litmus) (order : List Entry) (e : Entry) → IsWellFormed t → IsWhole t order → StandsIn order e → FitsTest t e)
    → IsExecution t r → s ≡ shown_of t s.counts r → text ≡ report t kind c s → All HasWord s.order → SpellsOrder t text r.commits
run-spells t kind c r s text test small shape law fits execution same printed words =
    let order : s.order ≡ r.commits = ap (λ (s : ShownRun). s.order) same in
    let whole : IsWhole t s.order = subst (IsWhole t) (sym order) execution.order.whole in
    let are : IsOrderFor t s.order = order-for t s.order test (λ e stands. fits t s.order e (well-formed t test) whole stands) words in
    subst (SpellsOrder t text) order (subst (λ o. SpellsOrder t o s.order) (sym printed) (law t kind c s test small shape are))
