-- The numbers of a run, core by core.
use Rattle.std.proofs.Common.{◌≡◌, ◌+◌, ℕ, true, if◌then◌else◌, List, ◌∷◌, ◌++◌, Some, None, sym, ap, ◌∙◌}
use Rattle.std.proofs.lemmas.List.{append_assoc}
use Rattle.tso_terms.specs.Litmus.{Litmus}
use Rattle.tso_terms.specs.declared.choice.Choice.{Choice}
use Rattle.protocol_tables.specs.Tables.{Table, table_of}
use Rattle.protocol_tables.specs.declared.kind.ProtocolKind.{ProtocolKind}
use Rattle.multiprocessor.specs.Configuration.{Configuration}
use Rattle.multiprocessor.specs.declared.counts.Counts.{Counts}
use Rattle.machine_runs.specs.Runs.{run_under, counts_under}
use Rattle.cache_counts.specs.Counted.{core_numbers, numbers_from, numbers_under}
use Rattle.cache_counts.specs.Traffic.{traffic_of}
use Rattle.cache_counts.specs.Uses.{uses_of}
use Rattle.cache_counts.specs.declared.noting.CoreUse.{CoreUse}
use Rattle.cache_counts.specs.declared.traffic.Traffic.{Traffic}

pub next-core : (table : Table) (uses : List CoreUse) (core : ℕ) (c : Counts) (x : Traffic) (cs all : List Counts) (before after own whole : List ℕ)
    → after ≡ before ++ own → own ≡ core_numbers c x → x ≡ traffic_of table core uses → all ≡ c ∷ cs
    → before ++ numbers_from table uses core all ≡ whole → after ++ numbers_from table uses (core + 1) cs ≡ whole
next-core table uses core c x cs all before after own whole next is moved here was =
    let rest = numbers_from table uses (core + 1) cs in
    ap (λ ns. ns ++ rest) next ∙ (append_assoc before own rest ∙ (ap (λ ns. before ++ (ns ++ rest)) (is ∙ ap (core_numbers c) moved)
    ∙ (sym (ap (λ list. before ++ numbers_from table uses core list) here) ∙ was)))

-- the numbers of a run that ended
pub ended-numbers : (t : Litmus) (kind : ProtocolKind) (c : Configuration) (choices : List Choice) (ns : List ℕ) (uses : List CoreUse) (cs : List Counts)
    → (run_under t kind c choices).ended ≡ true → uses ≡ uses_of (table_of kind) c t choices → cs ≡ counts_under t kind c choices
    → ns ≡ numbers_from (table_of kind) uses 0 cs → Some ns ≡ numbers_under t kind c choices
ended-numbers t kind c choices ns uses cs ended noted counted is =
    ap Some (is ∙ ap (λ us. numbers_from (table_of kind) us 0 cs) noted ∙ ap (numbers_from (table_of kind) (uses_of (table_of kind) c t choices) 0) counted)
    ∙ sym (ap (λ b. if b then Some (numbers_from (table_of kind) (uses_of (table_of kind) c t choices) 0 (counts_under t kind c choices)) else None) ended)
