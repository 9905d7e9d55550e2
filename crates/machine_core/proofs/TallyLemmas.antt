-- The counts of a machine's hardware from choice to choice.
use Rattle.machine_core.proofs.Vocabulary.{◌≡◌, ◌≢◌, ◌<◌, ◌+◌, ℕ, zero, suc, List, [], ◌∷◌, ◌++◌, None, length, replicate, take, All, sym}
use Rattle.machine_core.proofs.Vocabulary.{ap, ◌∙◌, subst, arith, length-map, length-replicate, Litmus, IsTest, chosen, core_of, started}
use Rattle.machine_core.proofs.Vocabulary.{idle, access_of, BusState, Instr, Choice, Outcome, Committed, HolderFits, BusModel, contents_of}
use Rattle.machine_core.proofs.Vocabulary.{Counts, CacheUse, Hardware, caches_of, is_awaited, Statistics, with_use_counted, no_counts}
use Rattle.machine_core.proofs.Vocabulary.{HardwareFitsTest, IsAtMost, state_in, HasIssuedItsStores, IsTallied, IsFlusherAmong, IsUncounted}
use Rattle.machine_core.proofs.Vocabulary.{done_in, most_counted, statistics_in, HasUsed, HasEffect, attempt_in, effect_in, use_by}
use Rattle.machine_core.proofs.Vocabulary.{All-replicate}
use Rattle.std.proofs.Math.Seq.{take-append_seam}
use Rattle.multiprocessor.proofs.Advancing.{advances-on}
use Rattle.multiprocessor.proofs.CoreLemmas.{length-core_states}
use Rattle.multiprocessor.proofs.CountBounds.{length-counted, none-counted}
use Rattle.multiprocessor.proofs.CountsOnBus.{AdvancesOn, senders, few-counted, tallied-after}

length-cores : {P : Type 0} (t : Litmus) (m : Hardware P) → HardwareFitsTest t m → length (state_in m).flat.cores ≡ length t.programs
length-cores t m fits = length-core_states 0 m.processors.items ∙ fits.cores

length-contents : {P : Type 0} (t : Litmus) (m : Hardware P) → HardwareFitsTest t m → length (contents_of m.bus) ≡ length t.programs
length-contents t m fits = length-map m.bus.caches _ ∙ fits.on_bus

-- what a choice makes of its core, and what it counts
advances : {P : Type 0} (t : Litmus) (m : Hardware P) (choice : Choice) → HardwareFitsTest t m → chosen choice < length t.programs
    → HolderFits m.config.bus t m.config.depth (state_in m).flat (state_in m).holder → IsTallied t (state_in m) (statistics_in m)
    → AdvancesOn (core_of (state_in m).flat (chosen choice)) (state_in m).holder (effect_in t m choice) (use_by t m choice (effect_in t m choice)).how
advances t m choice fits h holder tallied =
    advances-on m.config.bus t m.config.depth (state_in m).flat (state_in m).holder (attempt_in t m choice) (caches_of m.bus) holder tallied.test h
    (tallied.issued (chosen choice) idle (subst (λ n. chosen choice < n) (sym (length-cores t m fits)) h))

pub flusher-next : {P : Type 0} (t : Litmus) (m : Hardware P) (choice : Choice) (bus : BusModel) (how : CacheUse)
    (counts : List Counts)
    → HardwareFitsTest t m
    → IsTallied t (state_in m) (statistics_in m)
    → HasUsed (use_by t m choice (effect_in t m choice)) bus how → counts ≡ m.counts.items → IsFlusherAmong (length counts) how
flusher-next t m choice bus how counts fits tallied used same =
    let size : length (contents_of m.bus) ≡ length counts = length-contents t m fits ∙ sym tallied.cores ∙ ap length (sym same) in
    let f = effect_in t m choice in
    subst (λ h. IsFlusherAmong (length counts) h) (sym used.how_is)
    (subst (λ n. IsFlusherAmong n (use_by t m choice (effect_in t m choice)).how) size
    (senders (is_awaited (state_in m).holder) (is_awaited f.holder) (caches_of m.bus) (chosen choice)
    (access_of t m.config.depth (state_in m).flat choice) (core_of (state_in m).flat (chosen choice)).pending
    f.effect.commits
    (rw (length-contents t m fits) tallied.sender)).0)

pub few-next : {P : Type 0} (t : Litmus) (m : Hardware P) (counts : List Counts)
    → HardwareFitsTest t m
    → IsTallied t (state_in m) (statistics_in m)
    → counts ≡ m.counts.items
    → All (IsAtMost most_counted) counts
few-next t m counts fits tallied same =
    subst (All (IsAtMost most_counted)) (sym same) (few-counted t (state_in m) (statistics_in m) (length-cores t m fits) tallied)

-- nothing is counted of a choice that commits nothing
pub uncounted-next : {P : Type 0} (t : Litmus) (m : Hardware P) (choice : Choice) (bus : BusModel) (how : CacheUse)
    → HardwareFitsTest t m
    → chosen choice < length t.programs
    → HolderFits m.config.bus t m.config.depth (state_in m).flat (state_in m).holder
    → IsTallied t (state_in m) (statistics_in m)
    → HasUsed (use_by t m choice (effect_in t m choice)) bus how
    → (effect_in t m choice).effect.outcome ≢ Committed → IsUncounted how
uncounted-next t m choice bus how fits h holder tallied used other =
    subst IsUncounted (sym used.how_is) ((advances t m choice fits h holder tallied).uncommitted other)

pub tallied-next : {P : Type 0} (t : Litmus) (m new : Hardware P) (choice : Choice) (o : Outcome) (how : CacheUse)
    (core len : ℕ) (before after rest : List Counts)
    → HardwareFitsTest t m
    → chosen choice < length t.programs
    → HolderFits m.config.bus t m.config.depth (state_in m).flat (state_in m).holder
    → IsTallied t (state_in m) (statistics_in m)
    → HasEffect m new choice (effect_in t m choice) o
    → HasUsed (use_by t m choice (effect_in t m choice)) new.bus how
    → core ≡ chosen choice
    → before ≡ m.counts.items
    → after ≡ with_use_counted core how before
    → len ≡ length before
    → IsTallied t (state_in new) (record { caches = caches_of new.bus; counts = take len (after ++ rest) })
tallied-next t m new choice o how core len before after rest fits h holder tallied done used is same counts size =
    let u = use_by t m choice (effect_in t m choice) in
    let items = take len (after ++ rest) in
    let whole : len ≡ length after = size ∙ sym (ap length counts ∙ length-counted core how before) in
    let written : items ≡ after = ap (λ n. take n (after ++ rest)) whole ∙ take-append_seam after rest in
    let all : items ≡ with_use_counted (chosen choice) u.how m.counts.items =
    written
    ∙ counts
    ∙ ap (λ i. with_use_counted i how before) is
    ∙ ap (λ w. with_use_counted (chosen choice) w before) used.how_is
    ∙ ap (with_use_counted (chosen choice) u.how) same in
    let f = effect_in t m choice in
    let go = advances t m choice fits h holder tallied in
    let among =
    senders (is_awaited (state_in m).holder) (is_awaited f.holder) (caches_of m.bus) (chosen choice)
    (access_of t m.config.depth (state_in m).flat choice) (core_of (state_in m).flat (chosen choice)).pending
    f.effect.commits
    (rw (length-contents t m fits) tallied.sender) in
    let next =
    tallied-after t (state_in m) (state_in new) choice f (statistics_in m) u (length-cores t m fits)
    (length-contents t m fits) h tallied go among (ap (λ s. s.cores) done.flat) done.holder in
    subst (λ cs. IsTallied t (state_in new) (record { caches = caches_of new.bus; counts = cs })) (sym all)
    (subst (λ x. IsTallied t (state_in new) (record { caches = x; counts = with_use_counted (chosen choice) u.how m.counts.items })) (sym used.caches) next)

-- at the beginning
started-issued : (core : ℕ) (programs : List (List Instr)) (registers : List (List ℕ)) → All HasIssuedItsStores (started core programs registers)
started-issued core [] registers k d l = absurd (omega arith)
started-issued core (p ∷ ps) registers zero d l = record { place = omega arith; pending = omega arith }
started-issued core (p ∷ ps) registers (suc k) d l = started-issued (core + 1) ps registers k d (omega arith)

pub tallied-first : (t : Litmus) (state : BusState) (s : Statistics) → IsTest t → state.flat.cores ≡ started 0 t.programs t.registers
    → s.counts ≡ replicate (length t.programs) no_counts → s.caches.awaited ≡ None → IsTallied t state s
tallied-first t state s test first none waits = record {
  test = test;
  cores = ap length none ∙ length-replicate (length t.programs) no_counts;
  issued = subst (All HasIssuedItsStores) (sym first) (started-issued 0 t.programs t.registers);
  done =
      subst (All (IsAtMost (done_in state))) (sym none)
      (All-replicate (IsAtMost (done_in state)) (length t.programs) no_counts (none-counted (done_in state)));
  sender = rw waits tt;
}
