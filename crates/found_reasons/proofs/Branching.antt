-- The branches of an open question weigh together no more than its case; where one is added to each factor, less.
use Rattle.found_reasons.proofs.Vocabulary.{◌≡◌, ◌<◌, ◌≤◌, ◌+◌, ◌*◌, ◌==◌, ◌&&◌, ◌||◌, ℕ, suc, Bool, true, false, not, if◌then◌else◌, List}
use Rattle.found_reasons.proofs.Vocabulary.{[], ◌∷◌, length, map, Option, None, arith, refl, sym, ap, ◌∙◌, ◌⊎◌, inl, inr, subst, mul-le}
use Rattle.found_reasons.proofs.Vocabulary.{Litmus, is_read, is_write, writes_to, Entry, and-both, same-number, number-same, Precedes}
use Rattle.found_reasons.proofs.Vocabulary.{Known, bare, events_of, same_event, is_event, comes_before, with_source, with_pair, sources_of}
use Rattle.found_reasons.proofs.Vocabulary.{branches, are_ordered, may_ask, is_answered, and-of, or-first, or-second, Holds, any-holds}
use Rattle.found_reasons.proofs.Vocabulary.{same-bare, bare-same, product, pick, pass}
use Rattle.refutation_laws.specs.declared.known.Source.{Source}
use Rattle.refutation_laws.specs.Refutations.{Node, ReadsFrom, ComesFirst, OnLocation, Globally, Between, FalseClaim}
use Rattle.found_reasons.proofs.Weighing.{weigh_read, weigh_pair, weight, total, pairs, swap, less-if, open-pair, one-pair-more}
use Rattle.found_reasons.proofs.Weighing.{either-first, some-weight, source-weight}

-- ---- a pair that is asked for

crosswise : (a b c d : Bool) → ((a || b) || (c || d)) ≡ ((a || c) || (b || d))
crosswise true b c d = refl
crosswise false true true d = refl
crosswise false true false d = refl
crosswise false false c d = refl

now-known : (k : Known) (w v x y : Entry)
    → are_ordered (with_pair k w v) x y ≡ (((same_event w x && same_event v y) || (same_event w y && same_event v x)) || are_ordered k x y)
now-known k w v x y =
    crosswise (same_event w x && same_event v y) (comes_before k x y) (same_event w y && same_event v x) (comes_before k y x)

less-pair : (e : ℕ) (k : Known) (w v x y : Entry) → weigh_pair e (with_pair k w v) x y ≤ weigh_pair e k x y
less-pair e k w v x y =
    subst (λ b. (if b then 1 else (if is_write x && writes_to x.loc.0 y then e + 2 else 1)) ≤ weigh_pair e k x y) (sym (now-known k w v x y))
    (less-if ((same_event w x && same_event v y) || (same_event w y && same_event v x)) (are_ordered k x y) _ (open-pair e x y))

-- two writes to one location, in either order
pair-here : (e : ℕ) (k j : Known) (x y : Entry) → (is_write x && writes_to x.loc.0 y) ≡ true → are_ordered k x y ≡ false → are_ordered j x y ≡ true
    → (e + 2) * weigh_pair e j x y ≤ weigh_pair e k x y
pair-here e k j x y w fresh known =
    let a : weigh_pair e k x y ≡ e + 2 = pass (are_ordered k x y) 1 _ fresh ∙ pick (is_write x && writes_to x.loc.0 y) (e + 2) 1 w in
    let b : weigh_pair e j x y ≡ 1 = pick (are_ordered j x y) 1 _ known in
    subst (λ n. (e + 2) * weigh_pair e j x y ≤ n) (sym a) (subst (λ n. (e + 2) * n ≤ e + 2) (sym b) (omega arith))

clash : (b : Bool) → b ≡ true → not b ≡ true → ⊥
clash true p q = let z : ⊥ = cc in z
clash false p q = let z : ⊥ = cc in z

either-way : (a b : Bool) → (a || b) ≡ (b || a)
either-way true true = refl
either-way true false = refl
either-way false true = refl
either-way false false = refl

pub turned : (w v : Entry) → is_write w ≡ true → writes_to w.loc.0 v ≡ true → (is_write v && writes_to v.loc.0 w) ≡ true
turned w v x y =
    let m = and-both (is_write v) (v.loc.0 == w.loc.0) y in
    and-of (is_write v) (writes_to v.loc.0 w) m.0
    (and-of (is_write w) (w.loc.0 == v.loc.0) x (number-same w.loc.0 v.loc.0 (sym (same-number v.loc.0 w.loc.0 m.1))))

pair-weight : (e : ℕ) (t : Litmus) (k : Known) (w v : Entry) → may_ask t (ComesFirst w v) ≡ true → are_ordered k w v ≡ false
    → (j : Known) → j.sources ≡ k.sources → ((x y : Entry) → weigh_pair e j x y ≤ weigh_pair e k x y)
    → ((x y : Entry) → bare w ≡ bare x → bare v ≡ bare y → (are_ordered j x y ≡ true) × (are_ordered j y x ≡ true))
    → (e + 2) * weight e t j ≤ weight e t k
pair-weight e t k w v ask fresh j same less known =
    subst (λ n. (e + 2) * (n * pairs (weigh_pair e j) (events_of t)) ≤ weight e t k) (sym reads)
    (subst (λ n. n ≤ weight e t k) (sym (swap (product (weigh_read e t k) (events_of t)) (pairs (weigh_pair e j) (events_of t)) (e + 2)))
    (mul-le (product (weigh_read e t k) (events_of t)) ((e + 2) * pairs (weigh_pair e j) (events_of t)) (product (weigh_read e t k) (events_of t))
    (pairs (weigh_pair e k) (events_of t)) (omega arith)
    (go (either-first (events_of t) m.entry n.entry m.inside n.inside apart))))
  where
    a4 : ((is_event t w && is_event t v && is_write w && writes_to w.loc.0 v) ≡ true) × (not (same_event w v) ≡ true)
    a4 = and-both (is_event t w && is_event t v && is_write w && writes_to w.loc.0 v) (not (same_event w v)) ask

    a3 : ((is_event t w && is_event t v && is_write w) ≡ true) × (writes_to w.loc.0 v ≡ true)
    a3 = and-both (is_event t w && is_event t v && is_write w) (writes_to w.loc.0 v) a4.0

    a2 : ((is_event t w && is_event t v) ≡ true) × (is_write w ≡ true)
    a2 = and-both (is_event t w && is_event t v) (is_write w) a3.0

    a1 : (is_event t w ≡ true) × (is_event t v ≡ true)
    a1 = and-both (is_event t w) (is_event t v) a2.0

    m : Holds (events_of t) (same_event w)
    m = any-holds (same_event w) (events_of t) a1.0

    n : Holds (events_of t) (same_event v)
    n = any-holds (same_event v) (events_of t) a1.1

    first : bare w ≡ bare m.entry
    first = same-bare w m.entry m.holds

    second : bare v ≡ bare n.entry
    second = same-bare v n.entry n.holds

    apart : m.entry ≡ n.entry → ⊥
    apart e = clash (same_event w v) (bare-same w v (first ∙ (ap bare e ∙ sym second))) a4.1

    reads : product (weigh_read e t j) (events_of t) ≡ product (weigh_read e t k) (events_of t)
    reads = ap (λ (ss : List Source). product (weigh_read e t (record { sources = ss; order = j.order })) (events_of t)) same

    there : (x y : Entry) → bare w ≡ bare x → bare v ≡ bare y → are_ordered k x y ≡ false
    there x y p q =
        subst (λ z. are_ordered k z (bare y) ≡ false) p (subst (λ z. are_ordered k (bare w) z ≡ false) q fresh)

    writes : (x y : Entry) → bare w ≡ bare x → bare v ≡ bare y → (is_write x && writes_to x.loc.0 y) ≡ true
    writes x y p q =
        subst (λ z. (is_write z && writes_to z.loc.0 (bare y)) ≡ true) p
        (subst (λ z. (is_write w && writes_to w.loc.0 z) ≡ true) q (and-of (is_write w) (writes_to w.loc.0 v) a2.1 a3.1))

    go : Precedes m.entry n.entry (events_of t) ⊎ Precedes n.entry m.entry (events_of t)
        → (e + 2) * pairs (weigh_pair e j) (events_of t) ≤ pairs (weigh_pair e k) (events_of t)
    go (inl p) =
        one-pair-more (e + 2) (weigh_pair e j) (weigh_pair e k) less (events_of t) m.entry n.entry p
        (pair-here e k j m.entry n.entry (writes m.entry n.entry first second) (there m.entry n.entry first second)
        (known m.entry n.entry first second).0)
    go (inr p) =
        let b = and-both (is_write m.entry) (writes_to m.entry.loc.0 n.entry) (writes m.entry n.entry first second) in
        one-pair-more (e + 2) (weigh_pair e j) (weigh_pair e k) less (events_of t) n.entry m.entry p
        (pair-here e k j n.entry m.entry (turned m.entry n.entry b.0 b.1)
        (either-way (comes_before k n.entry m.entry) (comes_before k m.entry n.entry) ∙ there m.entry n.entry first second)
        (known m.entry n.entry first second).1)

both-ways : (k : Known) (w v x y : Entry) → bare w ≡ bare x → bare v ≡ bare y
    → (are_ordered (with_pair k w v) x y ≡ true) × (are_ordered (with_pair k w v) y x ≡ true)
both-ways k w v x y p q =
    let here : comes_before (with_pair k w v) x y ≡ true =
    or-first (same_event w x && same_event v y) _ (and-of (same_event w x) (same_event v y) (bare-same w x p) (bare-same v y q)) in
    (or-first (comes_before (with_pair k w v) x y) _ here, or-second (comes_before (with_pair k w v) y x) _ here)

first-weight : (e : ℕ) (t : Litmus) (k : Known) (w v : Entry) → may_ask t (ComesFirst w v) ≡ true → are_ordered k w v ≡ false
    → (e + 2) * weight e t (with_pair k w v) ≤ weight e t k
first-weight e t k w v ask fresh =
    pair-weight e t k w v ask fresh (with_pair k w v) refl (less-pair e k w v) (λ x y p q. both-ways k w v x y p q)

second-weight : (e : ℕ) (t : Litmus) (k : Known) (w v : Entry) → may_ask t (ComesFirst w v) ≡ true → are_ordered k w v ≡ false
    → (e + 2) * weight e t (with_pair k v w) ≤ weight e t k
second-weight e t k w v ask fresh =
    pair-weight e t k w v ask fresh (with_pair k v w) refl (less-pair e k v w)
    (λ x y p q. let b = both-ways k v w y x q p in (b.1, b.0))

-- ---- all branches

pub each-source : (e : ℕ) (t : Litmus) (k : Known) (r : Entry) (os : List (Option Entry))
    → total e t (map (with_source k r) os) ≡ length os * weight e t (with_source k r None)
each-source e t k r [] = omega arith
each-source e t k r (o ∷ os) =
    ap (λ n. weight e t (with_source k r o) + n) (each-source e t k r os) ∙ more (weight e t (with_source k r None)) (length os)
  where
    more : (m n : ℕ) → m + n * m ≡ suc n * m
    more m n = grind arith

pub spread : (e n m : ℕ) → (e + n) * m ≡ e * m + n * m
spread e n m = grind arith

-- no more than the case
pub as-heavy : (t : Litmus) (k : Known) (q : Node) → may_ask t q ≡ true → is_answered k q ≡ false → total 0 t (branches t k q) ≤ weight 0 t k
as-heavy t k (ReadsFrom r) ask fresh =
    let m = and-both (is_event t r) (is_read r) ask in
    let h = source-weight 0 t k r None m.0 m.1 fresh in
    let a = each-source 0 t k r (sources_of t r) in
    let b = spread 0 (length (sources_of t r)) (weight 0 t (with_source k r None)) in
    omega (arith, h, a, b)
as-heavy t k (ComesFirst w v) ask fresh =
    let a = first-weight 0 t k w v ask fresh in
    let b = second-weight 0 t k w v ask fresh in
    let c = spread 0 2 (weight 0 t (with_pair k w v)) in
    let d = spread 0 2 (weight 0 t (with_pair k v w)) in
    omega (arith, a, b, c, d)
as-heavy t k (OnLocation cycle) ask fresh = let z : ⊥ = cc in absurd z
as-heavy t k (Globally cycle) ask fresh = let z : ⊥ = cc in absurd z
as-heavy t k (Between r v w) ask fresh = let z : ⊥ = cc in absurd z
as-heavy t k FalseClaim ask fresh = let z : ⊥ = cc in absurd z

-- and where one is added to each factor, less
pub lighter : (t : Litmus) (k : Known) (q : Node) → may_ask t q ≡ true → is_answered k q ≡ false → total 1 t (branches t k q) < weight 1 t k
lighter t k (ReadsFrom r) ask fresh =
    let m = and-both (is_event t r) (is_read r) ask in
    let h = source-weight 1 t k r None m.0 m.1 fresh in
    let a = each-source 1 t k r (sources_of t r) in
    let b = spread 1 (length (sources_of t r)) (weight 1 t (with_source k r None)) in
    let s = some-weight 1 t (with_source k r None) in
    omega (arith, h, a, b, s)
lighter t k (ComesFirst w v) ask fresh =
    let a = first-weight 1 t k w v ask fresh in
    let b = second-weight 1 t k w v ask fresh in
    let c = spread 1 2 (weight 1 t (with_pair k w v)) in
    let d = spread 1 2 (weight 1 t (with_pair k v w)) in
    let s = some-weight 1 t (with_pair k w v) in
    let u = some-weight 1 t (with_pair k v w) in
    omega (arith, a, b, c, d, s, u)
lighter t k (OnLocation cycle) ask fresh = let z : ⊥ = cc in absurd z
lighter t k (Globally cycle) ask fresh = let z : ⊥ = cc in absurd z
lighter t k (Between r v w) ask fresh = let z : ⊥ = cc in absurd z
lighter t k FalseClaim ask fresh = let z : ⊥ = cc in absurd z
