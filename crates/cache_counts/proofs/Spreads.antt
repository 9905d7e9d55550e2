-- One number more is laid in.
use Rattle.std.proofs.Common.{◌≡◌, ◌<◌, ◌+◌, ℕ, zero, suc, List, [], ◌∷◌, ◌++◌, drop, get_or, length, slice_get, Option, None, refl, sym}
use Rattle.std.proofs.Common.{ap, ◌∙◌, arith, append_assoc, add-one}
use Rattle.cache_counts.specs.Counted.{spread_with, spreads_with}
use Rattle.cache_counts.specs.declared.spread.Spread.{Spread}

abbrev no-spreads : List Spread
no-spreads = []

drop-none : (i : ℕ) → drop i no-spreads ≡ no-spreads
drop-none zero = refl
drop-none (suc i) = refl

get-none : (i : ℕ) → slice_get no-spreads i ≡ None
get-none zero = refl
get-none (suc i) = refl

stepped : (ss : List Spread) (ns : List ℕ) (i d : ℕ) → i < length ns
    → spreads_with (drop i ss) (drop i ns) ≡ spread_with (slice_get ss i) (get_or ns i d) ∷ spreads_with (drop (suc i) ss) (drop (suc i) ns)
stepped ss [] i d h = absurd (omega arith)
stepped [] (n ∷ ns) zero d h = refl
stepped (s ∷ ss) (n ∷ ns) zero d h = refl
stepped [] (n ∷ ns) (suc i) d h =
    let rest = stepped [] ns i d (omega arith) in
    ap (λ ss. spreads_with ss (drop i ns)) (sym (drop-none i)) ∙ rest
    ∙ ap (λ s. spread_with s (get_or ns i d) ∷ spreads_with [] (drop (suc i) ns)) (get-none i)
stepped (s ∷ ss) (n ∷ ns) (suc i) d h = stepped ss ns i d (omega arith)

next-numbers : (ss : List Spread) (ns : List ℕ) (i d : ℕ) → i < length ns
    → spreads_with (drop i ss) (drop i ns) ≡ spread_with (slice_get ss i) (get_or ns i d) ∷ spreads_with (drop (i + 1) ss) (drop (i + 1) ns)
next-numbers ss ns i d h = rw add-one (stepped ss ns i d h)

pub laid-in : (ss : List Spread) (ns : List ℕ) (i d : ℕ) (before after : List Spread) (s : Spread) (o : Option Spread) → i < length ns
    → o ≡ slice_get ss i → s ≡ spread_with o (get_or ns i d) → after ≡ before ++ s ∷ []
    → before ++ spreads_with (drop i ss) (drop i ns) ≡ spreads_with ss ns
    → after ++ spreads_with (drop (i + 1) ss) (drop (i + 1) ns) ≡ spreads_with ss ns
laid-in ss ns i d before after s o h found is next was =
    ap (λ list. list ++ spreads_with (drop (i + 1) ss) (drop (i + 1) ns)) next
    ∙ append_assoc before (s ∷ []) (spreads_with (drop (i + 1) ss) (drop (i + 1) ns))
    ∙ ap (λ (t : Spread). before ++ t ∷ spreads_with (drop (i + 1) ss) (drop (i + 1) ns)) (is ∙ ap (λ p. spread_with p (get_or ns i d)) found)
    ∙ sym (ap (λ list. before ++ list) (next-numbers ss ns i d h)) ∙ was
