-- The least that writes can write, as the code holds it.
use Rattle.std.specs.Prelude.{Bool, ℕ, ◌≡◌, List, map, slice_index_or, Option, Some, None}
use Rattle.tso_terms.specs.Litmus.{Litmus}
use Rattle.basic_laws.specs.Types.{Entry}
use Rattle.possible_reads.specs.Possible.{Reading, least_read, least_sum, least_written, never_wraps}
use Rattle.reading_tables.specs.declared.expressions.Written.{Written}
use Rattle.reading_tables.specs.declared.amounts.Bound.{Bound}

-- a number, on top of the least that a read returns, where there is one
abbrev pub least_upon : List Reading → Option Entry → ℕ → ℕ
least_upon table None number = number
least_upon table (Some read) number = least_sum (least_read table read) number

abbrev pub bounded_by : List Reading → Bound → ℕ
bounded_by table bound = least_upon table bound.read bound.number

-- the least that each of these writes can write
abbrev pub each_least : Litmus → List Reading → List Written → List ℕ
each_least t table written = map (λ x. least_written t table x.write) written

-- whether nothing wraps at each of the first locations
abbrev pub NeverWrapWhere : Litmus → List Bool → Type 0
NeverWrapWhere t each = (loc : ℕ) → slice_index_or each loc (never_wraps t loc) ≡ never_wraps t loc

abbrev pub AreBounds : Litmus → List Written → List Bound → Type 0
AreBounds t written bounds = (table : List Reading) → map (bounded_by table) bounds ≡ each_least t table written
