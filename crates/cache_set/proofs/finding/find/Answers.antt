use Rattle.cache_set.proofs.Vocabulary.{arith, ◌≡◌, ℕ, [], length, sym, ap, ◌∙◌, ◌<◌, subst, get_or_default, option_copied, Sets, copy_in}
use Rattle.cache_set.proofs.Vocabulary.{copy_at, snoop_column}
use Rattle.cache_set.proofs.FindLemmas.{FoundBelow, nothing-found, passed-by, noted, words-found, supplier-found, shared-found}
use Rattle.cache_set.proofs.FindLemmas.{flushed-found, states-found, told-found}
use Rattle.cache_set.proofs.finding.find.Goals as goal
use Rattle.cache_set.proofs.finding.find.Goals.{in-Some, in_default}

pub loop-core-preserved : goal.loop-core-preserved
loop-core-preserved g c =
    let on = snoop_column (g.P.Protocol.table c.args.protocol.now) c.args.request in
    let within : c.loop-core.core < length c.args.caches.now = omega arith in
    let at = c.index-caches-core.is ∙ get_or_default c.args.caches.now c.loop-core.core c.index-caches-core.result [] within in
    let here : option_copied c.look.result ≡ copy_at c.args.caches.now c.loop-core.core c.args.line =
    c.look.ensures.found ∙ ap (λ (sets : Sets). copy_in sets c.args.line) at in
    elim c.match-look.branch [
      | in-Some w ↦
          rw (w.found-is ∙ w.note.ensures, w.answer-snoop.ensures)
          (noted on c.args.line c.loop-core.core c.args.caches.now c.loop-core.found w.in-Some.copy.now within
          c.requires.few (sym here ∙ ap option_copied w.in-Some.is) c.loop-core.invariant)
      | in_default w ↦
          rw w.found-is (passed-by on c.args.line c.loop-core.core c.args.caches.now c.loop-core.found within
          (sym here ∙ ap option_copied w.in_default.is) c.loop-core.invariant)
    ]

pub loop-core-init : goal.loop-core-init
loop-core-init g c = (nothing-found (snoop_column (g.P.Protocol.table c.args.protocol.now) c.args.request) c.args.line c.args.caches.now)

pub returns-clause-words : goal.returns-clause-words
returns-clause-words g c = words-found (snoop_column (g.P.Protocol.table c.args.protocol.now) c.args.request) c.args.line c.args.caches.now c.loop-core.found
    (subst (λ (n : ℕ).
    FoundBelow n (snoop_column (g.P.Protocol.table c.args.protocol.now) c.args.request) c.args.line c.args.caches.now c.loop-core.found)
    (omega arith) c.loop-core.invariant)

pub returns-clause-shared : goal.returns-clause-shared
returns-clause-shared g c = shared-found (snoop_column (g.P.Protocol.table c.args.protocol.now) c.args.request) c.args.line c.args.caches.now c.loop-core.found
    (subst (λ (n : ℕ).
    FoundBelow n (snoop_column (g.P.Protocol.table c.args.protocol.now) c.args.request) c.args.line c.args.caches.now c.loop-core.found)
    (omega arith) c.loop-core.invariant)

pub returns-clause-flushed : goal.returns-clause-flushed
returns-clause-flushed g c =
    flushed-found (snoop_column (g.P.Protocol.table c.args.protocol.now) c.args.request) c.args.line c.args.caches.now c.loop-core.found
    (subst (λ (n : ℕ).
    FoundBelow n (snoop_column (g.P.Protocol.table c.args.protocol.now) c.args.request) c.args.line c.args.caches.now c.loop-core.found)
    (omega arith) c.loop-core.invariant)

pub returns-clause-states : goal.returns-clause-states
returns-clause-states g c = states-found (snoop_column (g.P.Protocol.table c.args.protocol.now) c.args.request) c.args.line c.args.caches.now c.loop-core.found
    (subst (λ (n : ℕ).
    FoundBelow n (snoop_column (g.P.Protocol.table c.args.protocol.now) c.args.request) c.args.line c.args.caches.now c.loop-core.found)
    (omega arith) c.loop-core.invariant)

pub returns-clause-supplier : goal.returns-clause-supplier
returns-clause-supplier g c =
    supplier-found (snoop_column (g.P.Protocol.table c.args.protocol.now) c.args.request) c.args.line c.args.caches.now c.loop-core.found
    (subst (λ (n : ℕ).
    FoundBelow n (snoop_column (g.P.Protocol.table c.args.protocol.now) c.args.request) c.args.line c.args.caches.now c.loop-core.found)
    (omega arith) c.loop-core.invariant)

pub returns-clause-told : goal.returns-clause-told
returns-clause-told g c = told-found (snoop_column (g.P.Protocol.table c.args.protocol.now) c.args.request) c.args.line c.args.caches.now c.loop-core.found
    (subst (λ (n : ℕ).
    FoundBelow n (snoop_column (g.P.Protocol.table c.args.protocol.now) c.args.request) c.args.line c.args.caches.now c.loop-core.found)
    (omega arith) c.loop-core.invariant)
