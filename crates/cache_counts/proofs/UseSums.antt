-- A count of a core, and what was moved for it, is the sum of what each of its choices adds.
use Rattle.std.proofs.Common.{◌≡◌, ◌≢◌, ◌<◌, ◌+◌, ◌==◌, inl, inr, ℕ, Bool, true, false, if◌then◌else◌, List, [], ◌∷◌, length, replicate}
use Rattle.std.proofs.Common.{slice_index_or, Option, None, Some, refl, sym, ap, subst, ◌∙◌, arith, get_or-set_same, get_or-set_other}
use Rattle.basic_laws.proofs.Basics.{decide, test-true, test-false}
use Rattle.std.proofs.lemmas.List.{get_or-replicate, length-replicate, length-set}
use Rattle.tso_terms.specs.Litmus.{Litmus}
use Rattle.tso_terms.specs.FlatMachine.{chosen}
use Rattle.tso_terms.specs.Runs.{has_ended}
use Rattle.tso_terms.specs.declared.instruction.Core.{Core}
use Rattle.tso_terms.specs.declared.choice.Choice.{Choice}
use Rattle.tso_terms.specs.declared.choice.Choice.TheVariants.{Step, Drain}
use Rattle.protocol_tables.specs.Tables.{Table}
use Rattle.snoop_bus.specs.declared.access.AccessReport.{AccessReport}
use Rattle.snoop_bus.specs.declared.access.BusRequest.{BusRequest}
use Rattle.multiprocessor.specs.Configuration.{Configuration}
use Rattle.multiprocessor.specs.Keeping.{core_in}
use Rattle.multiprocessor.specs.Statistics.{counts_at_core, counts_of, flush_counted, no_counts, statistics_from, with_access, with_flush}
use Rattle.multiprocessor.specs.Statistics.{with_forward, with_use_counted, with_write_back}
use Rattle.multiprocessor.specs.declared.accesses.CacheUse.{CacheUse}
use Rattle.multiprocessor.specs.declared.accesses.CacheUse.TheVariants.{Asked, Forwarded, Through, Unused}
use Rattle.multiprocessor.specs.declared.counts.Counts.{Counts}
use Rattle.multiprocessor.proofs.CountBounds.{length-counted}
use Rattle.machine_core.specs.Running.{Running, machine_after, machine_use, new_machine}
use Rattle.cache_counts.specs.AddingUp.{sum_of_uses}
use Rattle.cache_counts.specs.Traffic.{no_traffic, traffic_from, traffic_of, with_use, with_use_of}
use Rattle.cache_counts.specs.Uses.{core_use_at, uses_from, uses_of}
use Rattle.cache_counts.specs.declared.noting.CoreUse.{CoreUse}
use Rattle.cache_counts.specs.declared.traffic.Traffic.{Traffic}

-- ---- counts

-- a number of a core's counts, to which a use of its own adds so much
pub record CountsEach (number : Counts → ℕ) (of_use : CacheUse → ℕ) : Type 0 where
  pub unused : of_use Unused ≡ 0
  pub asked : (q : Option BusRequest) → of_use (Asked q) ≡ 0
  pub forwarded : (c : Counts) → number (with_forward c) ≡ number c + of_use Forwarded
  pub through : (r : AccessReport) (c : Counts) → number (with_write_back r.access.wrote_back (with_access r.access.kind c)) ≡ number c + of_use (Through r)
  pub flush : (c : Counts) → number (with_flush c) ≡ number c
  pub none : number no_counts ≡ 0

abbrev count_at : List Counts → ℕ → Counts
count_at cs k = slice_index_or cs k no_counts

at-own : (k : ℕ) (change : Counts → Counts) (cs : List Counts) → k < length cs → count_at (counts_at_core k change cs) k ≡ change (count_at cs k)
at-own k change cs l = get_or-set_same cs k (change (count_at cs k)) no_counts l

at-other : (k core : ℕ) (change : Counts → Counts) (cs : List Counts) → k ≢ core → count_at (counts_at_core core change cs) k ≡ count_at cs k
at-other k core change cs n = get_or-set_other cs core k (change (count_at cs core)) no_counts n

no-more : (a b z : ℕ) → a ≡ b → z ≡ 0 → a ≡ b + z
no-more a b z h e = omega (arith, h, e)

module _ (number : Counts → ℕ) (of_use : CacheUse → ℕ) (h : CountsEach number of_use) where
  -- whose copy was sent changes nothing
  with-flush : (o : Option Core) (cs : List Counts) (k : ℕ) → k < length cs → number (count_at (flush_counted o cs) k) ≡ number (count_at cs k)
  with-flush None cs k l = refl
  with-flush (Some core) cs k l = elim (decide core.0 k) [
    | inl is ↦ subst (λ (i : ℕ). number (count_at (counts_at_core i with_flush cs) k) ≡ number (count_at cs k)) (sym is)
        (ap number (at-own k with_flush cs l) ∙ h.flush (count_at cs k))
    | inr n ↦ ap number (at-other k core.0 with_flush cs (λ e. n (sym e)))
  ]

  own : (k : ℕ) (how : CacheUse) (cs : List Counts) → k < length cs → number (count_at (with_use_counted k how cs) k) ≡ number (count_at cs k) + of_use how
  own k Unused cs l = no-more _ _ _ refl h.unused
  own k Forwarded cs l = ap number (at-own k with_forward cs l) ∙ h.forwarded (count_at cs k)
  own k (Asked q) cs l = no-more _ _ _ refl (h.asked q)
  own k (Through r) cs l =
      let change : Counts → Counts = λ c. with_write_back r.access.wrote_back (with_access r.access.kind c) in
      let size : length (counts_at_core k change cs) ≡ length cs = length-set cs k (change (count_at cs k)) in
      with-flush r.access.flushed (counts_at_core k change cs) k (subst (λ (n : ℕ). k < n) (sym size) l)
      ∙ ap number (at-own k change cs l) ∙ h.through r (count_at cs k)

  other : (k core : ℕ) (how : CacheUse) (cs : List Counts)
      → k < length cs
      → k ≢ core
      → number (count_at (with_use_counted core how cs) k) ≡ number (count_at cs k)
  other k core Unused cs l n = refl
  other k core Forwarded cs l n = ap number (at-other k core with_forward cs n)
  other k core (Asked q) cs l n = refl
  other k core (Through r) cs l n =
      let change : Counts → Counts = λ c. with_write_back r.access.wrote_back (with_access r.access.kind c) in
      let size : length (counts_at_core core change cs) ≡ length cs = length-set cs core (change (count_at cs core)) in
      with-flush r.access.flushed (counts_at_core core change cs) k (subst (λ (n : ℕ). k < n) (sym size) l) ∙ ap number (at-other k core change cs n)

  one-use : (k core : ℕ) (how : CacheUse) (cs : List Counts) → k < length cs
      → number (count_at (with_use_counted core how cs) k) ≡ number (count_at cs k) + (if core == k then of_use how else 0)
  one-use k core how cs l = elim (decide core k) [
    | inl is ↦
        subst (λ (b : Bool).
        number (count_at (with_use_counted core how cs) k) ≡ number (count_at cs k) + (if b then of_use how else 0))
        (sym (test-true core k is))
        (subst (λ (i : ℕ). number (count_at (with_use_counted i how cs) k) ≡ number (count_at cs k) + of_use how) (sym is) (own k how cs l))
    | inr n ↦
        subst (λ (b : Bool).
        number (count_at (with_use_counted core how cs) k) ≡ number (count_at cs k) + (if b then of_use how else 0))
        (sym (test-false core k n))
        (no-more _ _ _ (other k core how cs l (λ e. n (sym e))) refl)
  ]

pub core-is : (choice : Choice) → (core_in choice).0 ≡ chosen choice
core-is (Step core) = refl
core-is (Drain core) = refl

from-none : (a b s : ℕ) → a ≡ b + s → b ≡ 0 → a ≡ s
from-none a b s h e = omega (arith, h, e)

step-more : (a b c d e f : ℕ) → a ≡ b + d → b ≡ c + e → f ≡ e → a ≡ c + (f + d)
step-more a b c d e f p q r = omega (arith, p, q, r)

-- from a machine on
counted-along : (number : Counts → ℕ) (of_use : CacheUse → ℕ)
    → CountsEach number of_use
    → (k : ℕ) (m : Running) (choices : List Choice)
    → k < length m.statistics.counts
    → number (count_at (statistics_from m.bus m.test m.depth m.state choices m.statistics).counts k)
    ≡ number (count_at m.statistics.counts k) + sum_of_uses of_use k (uses_from m choices)
counted-along number of_use h k m [] l = no-more _ _ _ refl refl
counted-along number of_use h k m (c ∷ cs) l =
    by_end (has_ended m.test m.state.flat)
    (counted-along number of_use h k (machine_after m c) cs
    (subst (λ (n : ℕ). k < n) (sym (length-counted (chosen c) (machine_use m c).how m.statistics.counts)) l))
  where
    by_end : (b : Bool)
        → number (count_at (statistics_from m.bus m.test m.depth (machine_after m c).state cs (machine_after m c).statistics).counts k)
        ≡ number (count_at (machine_after m c).statistics.counts k)
        + sum_of_uses of_use k (uses_from (machine_after m c) cs)
        → number (count_at (if b
        then m.statistics
        else statistics_from m.bus m.test m.depth (machine_after m c).state cs (machine_after m c).statistics).counts
        k)
        ≡ number (count_at m.statistics.counts k) + sum_of_uses of_use k (if b then [] else core_use_at m c ∷ uses_from (machine_after m c) cs)
    by_end true rest = no-more _ _ _ refl refl
    by_end false rest =
        step-more _ _ _ _ _ _ rest (one-use number of_use h k (chosen c) (machine_use m c).how m.statistics.counts l)
        (ap (λ (i : ℕ). if i == k then of_use (machine_use m c).how else 0) (core-is c))

-- of a whole run
pub counted-by-uses : (number : Counts → ℕ) (of_use : CacheUse → ℕ)
    → CountsEach number of_use
    → (table : Table) (c : Configuration) (t : Litmus) (choices : List Choice) (k : ℕ)
    → k < length t.programs
    → number (count_at (counts_of c.bus table c.shape t c.depth choices) k) ≡ sum_of_uses of_use k (uses_of table c t choices)
counted-by-uses number of_use h table c t choices k l =
    let m : Running = new_machine table c t in
    let first : count_at (replicate (length t.programs) no_counts) k ≡ no_counts = get_or-replicate (length t.programs) k no_counts no_counts l in
    from-none _ _ _
    (counted-along number of_use h k m choices (subst (λ (n : ℕ). k < n) (sym (length-replicate (length t.programs) no_counts)) l))
    (ap number first ∙ h.none)

-- ---- what was moved

-- a number of what was moved for a core, to which a use of its own adds so much
abbrev pub MovesEach : Table → ℕ → (Traffic → ℕ) → (CacheUse → ℕ) → Type 0
MovesEach table core number of_use = (how : CacheUse) (x : Traffic) → number (with_use table core how x) ≡ number x + of_use how

moved-one : (table : Table) (core : ℕ) (number : Traffic → ℕ) (of_use : CacheUse → ℕ) → MovesEach table core number of_use → (u : CoreUse) (x : Traffic)
    → number (with_use_of table core u x) ≡ number x + (if u.core.0 == core then of_use u.how else 0)
moved-one table core number of_use each u x =
    elim (u.core.0 == core) as (λ b. number (if b then with_use table core u.how x else x) ≡ number x + (if b then of_use u.how else 0)) [
      | true ↦ each u.how x
      | false ↦ no-more _ _ _ refl refl
    ]

moved-by-uses : (table : Table) (core : ℕ) (number : Traffic → ℕ) (of_use : CacheUse → ℕ)
    → MovesEach table core number of_use
    → (us : List CoreUse) (x : Traffic)
    → number (traffic_from table core us x) ≡ number x + sum_of_uses of_use core us
moved-by-uses table core number of_use each [] x = no-more _ _ _ refl refl
moved-by-uses table core number of_use each (u ∷ us) x =
    step-more _ _ _ _ _ _ (moved-by-uses table core number of_use each us (with_use_of table core u x)) (moved-one table core number of_use each u x) refl

pub moved-in-all : (table : Table) (core : ℕ) (number : Traffic → ℕ) (of_use : CacheUse → ℕ)
    → MovesEach table core number of_use
    → number no_traffic ≡ 0
    → (us : List CoreUse)
    → number (traffic_of table core us) ≡ sum_of_uses of_use core us
moved-in-all table core number of_use each none us = from-none _ _ _ (moved-by-uses table core number of_use each us no_traffic) none
