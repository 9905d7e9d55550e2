-- Members and values that a loop makes one after the other.
use Rattle.std.proofs.Common.{◌≡◌, ◌<◌, ◌≤◌, ◌+◌, ◌-◌, ℕ, suc, List, [], ◌∷◌, drop, get_or, length, slice_index_or, sym, ap, ◌∙◌, arith}
use Rattle.std.proofs.lemmas.List.{drop_more, drop_all}
use Rattle.serde_json.specs.Data.{no_members, put}
use Rattle.cache_counts.specs.declared.spread.Spread.{Spread}
use Rattle.counts_report.specs.Printed.{no_spread}
use Rattle.counts_report.specs.Json.{spread_value, spreads_members, core_value, core_values}

-- past the last name there is none
pub none-left : (first i : ℕ) (names : List (List ℕ)) (ss : List Spread) → length names ≤ i → spreads_members (first + i) (drop i names) ss ≡ no_members
none-left first i names ss over = ap (λ list. spreads_members (first + i) list ss) (drop_all i names over)

-- one before the others
pub one-before : (first i : ℕ) (names : List (List ℕ)) (ss : List Spread) → i < length names
    → put (get_or names i []) (spread_value (slice_index_or ss (first + i) no_spread)) (spreads_members (first + (i + 1)) (drop (i + 1) names) ss)
    ≡ spreads_members (first + i) (drop i names) ss
one-before first i names ss l =
    let place : first + (i + 1) ≡ first + i + 1 = omega arith in
    ap (λ n. put (get_or names i []) (spread_value (slice_index_or ss (first + i) no_spread)) (spreads_members n (drop (i + 1) names) ss)) place
    ∙ sym (ap (λ list. spreads_members (first + i) list ss) (drop_more names i [] l))

pub next-value : (core cores : ℕ) (ss : List Spread) → core < cores
    → core_values core (cores - core) ss ≡ core_value core ss ∷ core_values (core + 1) (cores - (core + 1)) ss
next-value core cores ss l =
    let left : cores - core ≡ suc (cores - (core + 1)) = omega arith in
    ap (λ n. core_values core n ss) left
