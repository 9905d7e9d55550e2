-- What a choice did, from what was looked at before it and after it.
use Rattle.trace_report.proofs.Vocabulary.{◌≡◌, ◌∙◌, ℕ, Bool, true, List, [], ◌∷◌, ◌++◌, length, drop, Option, ◌<◌, ◌==◌, inl, inr, refl}
use Rattle.trace_report.proofs.Vocabulary.{sym, ap, subst, arith, option_map, get_or-set_same, All, length-set, Litmus, IsTest, idle}
use Rattle.trace_report.proofs.Vocabulary.{core_of, chosen, access_of, Core, Choice, Outcome, Entry, AccessKind, Geometry, IsLineSize}
use Rattle.trace_report.proofs.Vocabulary.{test-true, Configuration, Running, attempt_on, machine_use, machine_after, CacheUse, ShownStep}
use Rattle.trace_report.proofs.Vocabulary.{div_ceil, waited_before, states_of, number_of_state, changes_in, is_forwarded, access_kind_in}
use Rattle.trace_report.proofs.Vocabulary.{sent_by, left_in, written_line, among, number_of_lines, moved_from, buffer_if_changed}
use Rattle.trace_report.proofs.Vocabulary.{trace_step_of, IsTraced, IsTracedInStates, stores_on, waited_on, IsLeftBy, HasLocation, IsAt}
use Rattle.trace_report.proofs.Vocabulary.{AreStoresKnown, StepNamesExist, All-append, All-drop, All-weaker, LineRequest, StateChange}
use Rattle.trace_report.proofs.Vocabulary.{PlacedState, Sent, machine_effect, is_awaited}
use Rattle.trace_report.specs.inner.Told.{IsLookedAt}
use Rattle.trace_report.proofs.Effects.{Form, effect-form, waited-is}
use Rattle.trace_report.proofs.Places.{effect-places, stores-next, access-known, at-place}
use Rattle.trace_report.proofs.Named.{sent-known, written-back-known, changes-known, states-known, buffer-known}
use Rattle.multiprocessor.proofs.EachUse.{used-machine}
use Rattle.trace_report.specs.declared.step.Moved.{Moved}
use Rattle.trace_report.specs.declared.telling.Left.{Left}

-- what is shown, by its parts
abbrev pub parts : Choice
    → Outcome
    → List Entry
    → Option Moved
    → Bool
    → Option AccessKind
    → Option LineRequest
    → Option Core
    → Option ℕ
    → List StateChange
    → Option (List Entry)
    → ShownStep
parts choice o es v f k r c w cs b =
    record {
      choice = choice;
      outcome = o;
      entries = es;
      moved = v;
      forwarded = f;
      access = k;
      request = r;
      flushed = c;
      wrote_back = w;
      changes = cs;
      buffer = b;
    }

pub same-fields : (choice : Choice) (o o' : Outcome) (es es' : List Entry) (v v' : Option Moved) (f f' : Bool)
    (k k' : Option AccessKind) (r r' : Option LineRequest) (c c' : Option Core)
    (w w' : Option ℕ) (cs cs' : List StateChange) (b b' : Option (List Entry))
    → o ≡ o'
    → es ≡ es'
    → v ≡ v'
    → f ≡ f'
    → k ≡ k'
    → r ≡ r'
    → c ≡ c'
    → w ≡ w'
    → cs ≡ cs'
    → b ≡ b'
    → parts choice o es v f k r c w cs b ≡ parts choice o' es' v' f' k' r' c' w' cs' b'
same-fields choice o o' es es' v v' f f' k k' r r' c c' w w' cs cs' b b' p1 p2 p3 p4 p5 p6 p7 p8 p9 p10 =
    ap (λ x. parts choice x es v f k r c w cs b) p1 ∙ (ap (λ x. parts choice o' x v f k r c w cs b) p2 ∙ (ap (λ x. parts choice o' es' x f k r c w cs b) p3
    ∙ (ap (λ x. parts choice o' es' v' x k r c w cs b) p4
    ∙ (ap (λ x. parts choice o' es' v' f' x r c w cs b) p5 ∙ (ap (λ x. parts choice o' es' v' f' k' x c w cs b) p6
    ∙ (ap (λ x. parts choice o' es' v' f' k' r' x w cs b) p7 ∙ (ap (λ x. parts choice o' es' v' f' k' r' c' x cs b) p8
    ∙ (ap (λ x. parts choice o' es' v' f' k' r' c' w' x b) p9 ∙ ap (λ x. parts choice o' es' v' f' k' r' c' w' cs' x) p10))))))))

after-all : (xs ys : List Entry) → drop (length xs) (xs ++ ys) ≡ ys
after-all [] ys = refl
after-all (x ∷ xs) ys = after-all xs ys

-- ---- what the choice left

-- by the machine after the choice: the entries, the lines that changed, the pending stores where they changed
pub record Leaves (m : Running) (choice : Choice) (l : Left) : Type 0 where
  pub entries : l.entries.items ≡ (machine_effect m choice).effect.commits ++ drop (length (stores_on m choice)) (stores_on (machine_after m choice) choice)
  pub changes : l.changes.items ≡ changes_in (states_of m) (states_of (machine_after m choice))
  pub buffer : option_map (λ stores. stores.items) l.buffer ≡ buffer_if_changed (length (stores_on m choice)) (stores_on (machine_after m choice) choice)

-- the core of the choice is as its effect leaves it
core-after : (m : Running) (choice : Choice)
    → chosen choice < length m.state.flat.cores
    → core_of (machine_after m choice).state.flat (chosen choice) ≡ (machine_effect m choice).effect.after
core-after m choice there = get_or-set_same m.state.flat.cores (chosen choice) (machine_effect m choice).effect.after idle there

pub form-of : (m : Running) (choice : Choice) → Form choice (core_of m.state.flat (chosen choice)) (machine_effect m choice).effect
form-of m choice = effect-form m.bus m.test m.depth m.state (attempt_on m choice)

pub same-test : (n : ℕ) → (n == n) ≡ true
same-test n = test-true n n refl

pub unchanged : (states : List PlacedState) → changes_in states states ≡ []
unchanged [] = refl
unchanged (s ∷ ss) = rw (same-test (number_of_state s.state)) (unchanged ss)

pub left-looked : (m next : Running) (choice : Choice) (outcome : Outcome) (before : List PlacedState) (committed : ℕ) (l : Left)
    → chosen choice < length m.state.flat.cores
    → next ≡ machine_after m choice
    → outcome ≡ (machine_effect m choice).effect.outcome
    → before ≡ states_of m
    → committed ≡ length m.commits
    → IsLeftBy next before choice outcome committed l → Leaves m choice l
left-looked m next choice outcome before committed l there next_is outcome_is before_is committed_is is =
    let f = (machine_effect m choice).effect in
    let end = machine_after m choice in
    let stores : stores_on next choice ≡ stores_on end choice = ap (λ (n : Running). stores_on n choice) next_is in
    let waited : waited_on next choice outcome ≡ length (stores_on m choice) =
    ap (λ es. waited_before outcome choice (length es)) stores ∙ (ap (λ o. waited_before o choice (length (stores_on end choice))) outcome_is
    ∙ (ap (λ s. waited_before f.outcome choice (length s.pending)) (core-after m choice there)
    ∙ waited-is choice (core_of m.state.flat (chosen choice)) f (form-of m choice))) in
    let commits : drop committed next.commits ≡ f.commits =
    ap (λ n. drop n next.commits) committed_is ∙ (ap (λ (n : Running). drop (length m.commits) n.commits) next_is ∙ after-all m.commits f.commits) in
    record {
      entries = is.entries ∙ (ap (λ es. es ++ drop (waited_on next choice outcome) (stores_on next choice)) commits
          ∙ (ap (λ n. f.commits ++ drop n (stores_on next choice)) waited ∙ ap (λ es. f.commits ++ drop (length (stores_on m choice)) es) stores));
      changes = is.changes ∙ (ap (λ b. changes_in b (states_of next)) before_is ∙ ap (λ (n : Running). changes_in (states_of m) (states_of n)) next_is);
      buffer =
          is.buffer
          ∙ (ap (λ n. buffer_if_changed n (stores_on next choice)) waited
          ∙ ap (λ es. buffer_if_changed (length (stores_on m choice)) es) stores);
    }

-- ---- the whole step

-- what was looked at before the choice and after it
pub record WasLookedAt (t : Litmus) (config : Configuration) (m next : Running) (choice : Choice) (how : CacheUse) (outcome : Outcome)
    (place lines : ℕ) (left : Left) : Type 0 where
  pub machine : IsTraced t config m
  pub next_is : next ≡ machine_after m choice
  pub outcome_is : outcome ≡ (machine_effect m choice).effect.outcome
  pub how_is : how ≡ (machine_use m choice).how
  pub place_is : place ≡ (core_of m.state.flat (chosen choice)).place
  pub lines_are : lines ≡ div_ceil (length t.locations) config.shape.words
  pub left_is : Leaves m choice left

pub told-whole : (t : Litmus) (config : Configuration) (m next : Running) (choice : Choice) (how : CacheUse) (outcome : Outcome)
    (place lines : ℕ) (left : Left) (moved : Option Moved) (forwarded : Bool) (access : Option AccessKind) (sent : Sent) (wrote_back : Option ℕ)
    → WasLookedAt t config m next choice how outcome place lines left
    → moved ≡ moved_from t place choice (core_of next.state.flat (chosen choice)).registers → forwarded ≡ is_forwarded how → access ≡ access_kind_in how
    → sent ≡ sent_by how → wrote_back ≡ among lines (written_line (left_in how))
    → parts choice outcome left.entries.items moved forwarded access sent.request sent.flushed wrote_back
    left.changes.items (option_map (λ stores. stores.items) left.buffer)
    ≡ trace_step_of m choice
unfolding trace_step_of
told-whole t config m next choice how outcome place lines left moved forwarded access sent wrote_back l moved_is forwarded_is access_is sent_is wrote_back_is =
    let used = (machine_use m choice).how in
    let core = chosen choice in
    let old = core_of m.state.flat core in
    let end = machine_after m choice in
    let shape : m.statistics.caches.shape.words ≡ config.shape.words = ap (λ (c : Configuration). c.shape.words) l.machine.config in
    let lines_same : lines ≡ number_of_lines m =
    l.lines_are
    ∙ (ap (λ n. div_ceil (length t.locations) n) (sym shape)
    ∙ ap (λ (u : Litmus). div_ceil (length u.locations) m.statistics.caches.shape.words) (sym l.machine.test)) in
    let sent_same : sent ≡ sent_by used = sent_is ∙ ap sent_by l.how_is in
    let moved_same : moved ≡ moved_from m.test old.place choice (core_of end.state.flat core).registers =
    moved_is
    ∙ (ap (λ n. moved_from t n choice (core_of next.state.flat core).registers) l.place_is
    ∙ (ap (λ u. moved_from u old.place choice (core_of next.state.flat core).registers) (sym l.machine.test)
    ∙ ap (λ (n : Running). moved_from m.test old.place choice (core_of n.state.flat core).registers) l.next_is)) in
    let wrote_back_same : wrote_back ≡ among (number_of_lines m) (written_line (left_in used)) =
    wrote_back_is ∙ (ap (λ h. among lines (written_line (left_in h))) l.how_is ∙ ap (λ n. among n (written_line (left_in used))) lines_same) in
    same-fields choice _ _ _ _ _ _ _ _ _ _ _ _ _ _ _ _ _ _ _ _ l.outcome_is l.left_is.entries moved_same
    (forwarded_is ∙ ap is_forwarded l.how_is) (access_is ∙ ap access_kind_in l.how_is)
    (ap (λ (s : Sent). s.request) sent_same) (ap (λ (s : Sent). s.flushed) sent_same) wrote_back_same l.left_is.changes l.left_is.buffer

-- ---- the machine after the choice

pub some-word : (n : ℕ) → IsLineSize n → 0 < n
some-word n (inl e) = omega arith
some-word n (inr (inl e)) = omega arith
some-word n (inr (inr e)) = omega arith

pub shape-kept : (m : Running) (choice : Choice) → (machine_after m choice).statistics.caches.shape ≡ m.statistics.caches.shape
shape-kept m choice =
    let f = machine_effect m choice in
    (used-machine (is_awaited m.state.holder) (is_awaited f.holder) m.statistics.caches (chosen choice) (access_of m.test m.depth m.state.flat choice)
    (core_of m.state.flat (chosen choice)).pending f.effect.commits).1

pub words-kept : (m : Running) (choice : Choice) → (machine_after m choice).statistics.caches.shape.words ≡ m.statistics.caches.shape.words
words-kept m choice = ap (λ (s : Geometry). s.words) (shape-kept m choice)

pub stores-kept : (m : Running) (choice : Choice)
    → IsTest m.test
    → AreStoresKnown m.test m.state.flat
    → AreStoresKnown m.test (machine_after m choice).state.flat
stores-kept m choice valid known =
    stores-next m.test m.state.flat (chosen choice) (machine_effect m choice).effect known
    (effect-places m.bus m.test m.depth m.state (attempt_on m choice) valid known).pending

known-there : (t : Litmus) (config : Configuration) (m : Running) → IsTraced t config m → AreStoresKnown m.test m.state.flat
known-there t config m is = subst (λ u. AreStoresKnown u m.state.flat) (sym is.test) is.stores

pub traced-next : (t : Litmus) (config : Configuration) (m : Running) (choice : Choice)
    → IsTest t
    → IsTraced t config m
    → IsTraced t config (machine_after m choice)
traced-next t config m choice valid is = record {
  test = is.test;
  config = ap (λ (s : Geometry). record { depth = m.depth; shape = s; bus = m.bus }) (shape-kept m choice) ∙ is.config;
  whole = is.whole;
  cores = length-set m.state.flat.cores (chosen choice) (machine_effect m choice).effect.after ∙ is.cores;
  stores =
      subst (λ u. AreStoresKnown u (machine_after m choice).state.flat) is.test
      (stores-kept m choice (subst IsTest (sym is.test) valid) (known-there t config m is));
}

pub told-next : (t : Litmus) (config : Configuration) (m next : Running) (choice : Choice) (after : List PlacedState) → IsTest t → IsTraced t config m
    → next ≡ machine_after m choice → after ≡ states_of (machine_after m choice) → IsTracedInStates t config next after
told-next t config m next choice after valid is next_is states =
    subst (λ (n : Running). IsTracedInStates t config n after) (sym next_is) (record { machine = traced-next t config m choice valid is; states_are = states })

pub looked-at : (t : Litmus) (config : Configuration) (m : Running) → IsTraced t config m → IsLineSize config.shape.words → IsLookedAt t config.shape.words m
looked-at t config m is some = record {
  test = is.test;
  some = some-word config.shape.words some;
  words_are = ap (λ (c : Configuration). c.shape.words) is.config;
}

pub looked-next : (t : Litmus) (config : Configuration) (m next : Running) (choice : Choice) → IsTest t → IsTraced t config m
    → next ≡ machine_after m choice → IsLineSize config.shape.words → IsLookedAt t config.shape.words next
looked-next t config m next choice valid is next_is some =
    subst (λ (n : Running). IsLookedAt t config.shape.words n) (sym next_is)
    (looked-at t config (machine_after m choice) (traced-next t config m choice valid is) some)

-- ---- what a step names

known-here : (m : Running) (choice : Choice) → IsTest m.test → AreStoresKnown m.test m.state.flat → 0 < m.statistics.caches.shape.words
    → StepNamesExist m.test m.statistics.caches.shape.words (trace_step_of m choice)
unfolding trace_step_of
known-here m choice valid known some =
    let t = m.test in
    let words = m.statistics.caches.shape.words in
    let f = (machine_effect m choice).effect in
    let end = machine_after m choice in
    let places = effect-places m.bus t m.depth m.state (attempt_on m choice) valid known in
    let stores : All (IsAt t) (stores_on end choice) = stores-kept m choice valid known (chosen choice) in
    record {
      entries = All-append (HasLocation t) f.commits (drop (length (stores_on m choice)) (stores_on end choice)) places.commits
          (All-weaker (IsAt t) (HasLocation t) (at-place t) _ (All-drop (IsAt t) (length (stores_on m choice)) (stores_on end choice) stores));
      request =
          sent-known t m.statistics.caches some (chosen choice) (is_awaited m.state.holder)
          (is_awaited (machine_effect m choice).holder) (access_of t m.depth m.state.flat choice)
          (core_of m.state.flat (chosen choice)).pending f.commits (access-known t m.depth m.state.flat choice valid known) places.commits;
      wrote_back = written-back-known m (written_line (left_in (machine_use m choice).how)) some;
      changes = changes-known t words (states_of m) (states_of end) (states-known m some);
      buffer = buffer-known t (length (stores_on m choice)) (stores_on end choice) stores;
    }

pub step-known : (t : Litmus) (config : Configuration) (m : Running) (choice : Choice) → IsTest t → IsTraced t config m → IsLineSize config.shape.words
    → StepNamesExist t config.shape.words (trace_step_of m choice)
step-known t config m choice valid is some =
    let words : m.statistics.caches.shape.words ≡ config.shape.words = ap (λ (c : Configuration). c.shape.words) is.config in
    subst (λ u. StepNamesExist u config.shape.words (trace_step_of m choice)) is.test (subst (λ n. StepNamesExist m.test n (trace_step_of m choice)) words
    (known-here m choice (subst IsTest (sym is.test) valid) (known-there t config m is) (subst (λ n. 0 < n) (sym words) (some-word config.shape.words some))))
