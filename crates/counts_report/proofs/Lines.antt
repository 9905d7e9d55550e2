-- Lines that a loop writes piece by piece.
use Rattle.std.proofs.Common.{◌≡◌, ◌<◌, ◌+◌, ◌-◌, ℕ, suc, List, [], ◌++◌, drop, get_or, length, slice_index_or, refl, sym, ap, ◌∙◌, arith}
use Rattle.std.proofs.lemmas.List.{append_assoc, append-nil, drop_more, drop_all}
use Rattle.cache_counts.specs.declared.spread.Spread.{Spread}
use Rattle.counts_report.specs.Printed.{count_names, no_spread, spread_text, spreads_text, core_line, core_lines}

-- what was written so far, after which a piece and then a rest come
rest-after : (piece rest before after : List ℕ) → after ≡ before ++ piece → after ++ rest ≡ before ++ (piece ++ rest)
rest-after piece rest before after is = ap (λ text. text ++ rest) is ∙ append_assoc before piece rest

-- how many names there are
pub twelve-names : length count_names ≡ 12
unfolding count_names
twelve-names = refl

pub next-number : (first i : ℕ) (names : List (List ℕ)) (ss : List Spread) (before after whole : List ℕ) → i < length names
    → after ≡ before ++ spread_text (get_or names i []) (slice_index_or ss (first + i) no_spread)
    → before ++ spreads_text (first + i) (drop i names) ss ≡ whole
    → after ++ spreads_text (first + (i + 1)) (drop (i + 1) names) ss ≡ whole
next-number first i names ss before after whole l is was =
    let name = get_or names i [] in
    let rest = drop (i + 1) names in
    let place : first + (i + 1) ≡ first + i + 1 = omega arith in
    ap (λ n. after ++ spreads_text n rest ss) place
    ∙ (rest-after (spread_text name (slice_index_or ss (first + i) no_spread)) (spreads_text (first + i + 1) rest ss) before after is
    ∙ (sym (ap (λ list. before ++ spreads_text (first + i) list ss) (drop_more names i [] l)) ∙ was))

pub last-number : (first i : ℕ) (names : List (List ℕ)) (ss : List Spread) (text whole : List ℕ) → length names ≡ i
    → text ++ spreads_text (first + i) (drop i names) ss ≡ whole → text ≡ whole
last-number first i names ss text whole all was =
    sym (append-nil text) ∙ (ap (λ list. text ++ spreads_text (first + i) list ss) (sym (drop_all i names (omega (arith, all)))) ∙ was)

pub next-core : (core cores : ℕ) (ss : List Spread) (before after whole : List ℕ) → core < cores
    → after ≡ before ++ core_line core ss
    → before ++ core_lines core (cores - core) ss ≡ whole
    → after ++ core_lines (core + 1) (cores - (core + 1)) ss ≡ whole
next-core core cores ss before after whole l is was =
    let left : cores - core ≡ suc (cores - (core + 1)) = omega arith in
    rest-after (core_line core ss) (core_lines (core + 1) (cores - (core + 1)) ss) before after is
    ∙ (sym (ap (λ n. before ++ core_lines core n ss) left) ∙ was)

pub last-core : (core cores : ℕ) (ss : List Spread) (text whole : List ℕ) → core ≡ cores
    → text ++ core_lines core (cores - core) ss ≡ whole → text ≡ whole
last-core core cores ss text whole all was =
    let none : cores - core ≡ 0 = omega (arith, all) in
    sym (append-nil text) ∙ (ap (λ n. text ++ core_lines core n ss) (sym none) ∙ was)
