-- The lines of choices and of caches, and the counts that they tell.
use Rattle.printed_laws.proofs.Vocabulary.{◌≡◌, ℕ, ◌^◌, ◌<◌, List, [], ◌∷◌, ◌++◌, get_or, refl, sym, ap, ◌∙◌, ◌≤◌, arith, All, ◌-◌, decimal}
use Rattle.printed_laws.proofs.Vocabulary.{append_cancel_left, append_assoc, codes, line, choices_line, cache_line, cache_lines, Litmus}
use Rattle.printed_laws.proofs.Vocabulary.{IsAtMost, Counts, ShownRun}
use Rattle.tso_report.specs.Limits.{IsSmall}
use Rattle.printed_laws.proofs.texts.Cutting.{AreSmall, unlike, filled-cut}
use Rattle.printed_laws.proofs.texts.Lists.{Tells, list-cut, all-told}

-- ---- choices

-- how many choices were used, how many of them stalled, and how many are left over
abbrev choice_labels : List (List ℕ)
choice_labels = codes "Choices used=" ∷ codes " stalled=" ∷ codes " unused=" ∷ []

choices-filled : (used stalled unused rest : List ℕ)
    → (codes "Choices used=" ++ (used ++ (codes " stalled=" ++ (stalled ++ (codes " unused=" ++ line unused))))) ++ rest
    ≡ codes "Choices used=" ++ (used ++ (codes " stalled=" ++ (stalled ++ (codes " unused=" ++ (unused ++ 10 ∷ rest)))))
choices-filled used stalled unused rest = simp append_assoc

pub choices-cut : (t : Litmus) (s o : ShownRun) (rest other : List ℕ) → IsSmall t s → IsSmall t o
    → choices_line s.used s.stalled s.unused ++ rest ≡ choices_line o.used o.stalled o.unused ++ other
    → (s.used ∷ s.stalled ∷ s.unused ∷ [] ≡ o.used ∷ o.stalled ∷ o.unused ∷ []) × (rest ≡ other)
choices-cut t s o rest other p q e =
    let flat = λ (r : ShownRun) (after : List ℕ). choices-filled (decimal r.used) (decimal r.stalled) (decimal r.unused) after in
    let cut = filled-cut choice_labels (s.used ∷ s.stalled ∷ s.unused ∷ []) (o.used ∷ o.stalled ∷ o.unused ∷ []) (10 ∷ rest) (10 ∷ other) refl refl refl
    (p.used, (p.stalled, (p.unused, tt))) (q.used, (q.stalled, (q.unused, tt))) refl refl (sym (flat s rest) ∙ (e ∙ flat o other)) in
    (cut.0, append_cancel_left (10 ∷ []) rest other cut.1)

-- ---- caches

pub small : (n : ℕ) → n ≤ 2 ^ 32 - 1 → n < 2 ^ 64
small n h = omega (arith, h)

pub same-counts : (a b : Counts)
    → a.hits ≡ b.hits
    → a.misses ≡ b.misses
    → a.upgrades ≡ b.upgrades
    → a.forwards ≡ b.forwards
    → a.write_backs ≡ b.write_backs
    → a.flushes ≡ b.flushes
    → a ≡ b
same-counts a b hits misses upgrades forwards write_backs flushes = λ i. record {
  hits = hits i;
  misses = misses i;
  upgrades = upgrades i;
  forwards = forwards i;
  write_backs = write_backs i;
  flushes = flushes i;
}

abbrev numbers_of : Counts → List ℕ
numbers_of c = c.hits ∷ c.misses ∷ c.upgrades ∷ c.forwards ∷ c.write_backs ∷ c.flushes ∷ []

abbrev cache_labels : ℕ → List (List ℕ)
cache_labels core =
    (codes "Cache P" ++ (decimal core ++ codes " hits=")) ∷ codes " misses=" ∷ codes " upgrades=" ∷ codes " forwards="
    ∷ codes " write_backs=" ∷ codes " flushes=" ∷ []

cache-filled : (core hits misses upgrades forwards write_backs flushes more : List ℕ)
    → (codes "Cache P" ++ (core ++ (codes " hits=" ++ (hits ++ (codes " misses=" ++ (misses ++ (codes " upgrades=" ++ (upgrades
    ++ line (codes " forwards=" ++ (forwards ++ (codes " write_backs=" ++ (write_backs ++ (codes " flushes=" ++ flushes))))))))))))) ++ more
    ≡ (codes "Cache P" ++ (core ++ codes " hits=")) ++ (hits ++ (codes " misses=" ++ (misses ++ (codes " upgrades=" ++ (upgrades
    ++ (codes " forwards=" ++ (forwards ++ (codes " write_backs=" ++ (write_backs ++ (codes " flushes=" ++ (flushes ++ 10 ∷ more)))))))))))
cache-filled core hits misses upgrades forwards write_backs flushes more = simp append_assoc

cache-cut : (core : ℕ) → Tells (IsAtMost (2 ^ 32 - 1)) (λ rest. Unit) (cache_line core) (λ c. c)
cache-cut core a b rest other p q f f' e =
    let flat = λ (c : Counts) (after : List ℕ).
    cache-filled (decimal core) (decimal c.hits) (decimal c.misses) (decimal c.upgrades) (decimal c.forwards)
    (decimal c.write_backs) (decimal c.flushes) after in
    let few : (c : Counts) → IsAtMost (2 ^ 32 - 1) c → AreSmall (numbers_of c) = λ c most. (
      small c.hits most.hits,
      (
        small c.misses most.misses,
        (
          small c.upgrades most.upgrades,
          (small c.forwards most.forwards, (small c.write_backs most.write_backs, (small c.flushes most.flushes, tt))),
        ),
      ),
    ) in
    let cut =
    filled-cut (cache_labels core) (numbers_of a) (numbers_of b) (10 ∷ rest) (10 ∷ other) refl refl refl (few a p)
    (few b q) refl refl (sym (flat a rest) ∙ (e ∙ flat b other)) in
    let told = λ (k : ℕ). ap (λ (l : List ℕ). get_or l k 0) cut.0 in
    (same-counts a b (told 0) (told 1) (told 2) (told 3) (told 4) (told 5), append_cancel_left (10 ∷ []) rest other cut.1)

pub caches-told : (xs ys : List Counts) → All (IsAtMost (2 ^ 32 - 1)) xs → All (IsAtMost (2 ^ 32 - 1)) ys → cache_lines 0 xs ≡ cache_lines 0 ys → xs ≡ ys
caches-told xs ys p q e =
    let cut =
    list-cut (IsAtMost (2 ^ 32 - 1)) (λ rest. Unit) (λ rest. rest ≡ []) cache_line cache_lines (λ c. c) (λ n. refl)
    (λ n c cs. refl) cache-cut (λ n cs rest all f. tt)
    (λ n c more rest fits f e. unlike 0 _ _ refl (e ∙ f)) 0 xs ys [] [] p q refl refl (ap (λ (l : List ℕ). l ++ []) e) in
    all-told xs ys cut.0
