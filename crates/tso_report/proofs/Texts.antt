-- Texts made piece by piece.
use Rattle.tso_report.proofs.Vocabulary.{◌≡◌, ℕ, List, [], ◌∷◌, ◌++◌, zero, suc, ◌≤◌, arith, drop, length, min, codes, append-nil, refl}
use Rattle.tso_report.proofs.Vocabulary.{sym, ap, ◌∙◌, Litmus, Named, Counts, ◌+◌, decimal, all_registers, register_line, register_lines}
use Rattle.tso_report.proofs.Vocabulary.{cache_line, cache_lines, printed_values}
use Rattle.tso_terms.specs.Thread.{value_in}
use Rattle.basic_laws.specs.Types.{Eax, Ebx, Ecx, Edx, Esi, Edi}
use Rattle.std.proofs.lemmas.List.{append_assoc}

-- what was written so far, after which a piece and then a rest come
rest-after : (piece rest before after : List ℕ) → after ≡ before ++ piece → after ++ rest ≡ before ++ (piece ++ rest)
rest-after piece rest before after is = ap (λ text. text ++ rest) is ∙ append_assoc before piece rest

pub seven_pieces : (a b c d e f g : List ℕ) (second third fourth fifth sixth all : List ℕ)
    → second ≡ a ++ b → third ≡ second ++ c → fourth ≡ third ++ d → fifth ≡ fourth ++ e → sixth ≡ fifth ++ f → all ≡ sixth ++ g
    → all ≡ a ++ (b ++ (c ++ (d ++ (e ++ (f ++ g)))))
seven_pieces a b c d e f g second third fourth fifth sixth all is_second is_third is_fourth is_fifth is_sixth is =
    is ∙ (rest-after f g fifth sixth is_sixth ∙ (rest-after e (f ++ g) fourth fifth is_fifth ∙ (rest-after d (e ++ (f ++ g)) third fourth is_fourth
    ∙ (rest-after c (d ++ (e ++ (f ++ g))) second third is_third ∙ rest-after b (c ++ (d ++ (e ++ (f ++ g)))) a second is_second))))

-- lines whose last words have a text of their own

pub sweep_nested : (from runs length ended unfinished : List ℕ)
    → codes "Sweep from="
    ++ (from
    ++ (codes " seeds="
    ++ (runs
    ++ (codes " length="
    ++ (length ++ (codes " ended=" ++ (ended ++ (codes " unfinished=" ++ (unfinished ++ 10 ∷ [])))))))))
    ≡ codes "Sweep from="
    ++ (from
    ++ (codes " seeds="
    ++ (runs
    ++ (codes " length="
    ++ (length ++ ((codes " ended=" ++ (ended ++ (codes " unfinished=" ++ unfinished))) ++ 10 ∷ []))))))
sweep_nested from runs length ended unfinished = simp append_assoc

pub observed_nested : (name word held failed : List ℕ)
    → codes "Observation " ++ (name ++ (codes " " ++ (word ++ (codes " " ++ (held ++ (codes " " ++ (failed ++ 10 ∷ [])))))))
    ≡ codes "Observation " ++ (name ++ ((codes " " ++ (word ++ (codes " " ++ (held ++ (codes " " ++ failed))))) ++ 10 ∷ []))
observed_nested name word held failed = simp append_assoc

registers_nested : (front core a eax b ebx c ecx d edx e esi f edi end : List ℕ)
    → front ++ (core ++ (a ++ (eax ++ (b ++ (ebx ++ (c ++ (ecx ++ (d ++ (edx ++ (e ++ (esi ++ (f ++ (edi ++ end)))))))))))))
    ≡ front ++ (core ++ (((a ++ eax) ++ ((b ++ ebx) ++ ((c ++ ecx) ++ ((d ++ edx) ++ ((e ++ esi) ++ ((f ++ edi) ++ [])))))) ++ end))
registers_nested front core a eax b ebx c ecx d edx e esi f edi end = simp (append_assoc, append-nil)

cache_nested : (core hits misses upgrades forwards backs flushes : List ℕ)
    → codes "Cache P" ++ (core ++ (codes " hits=" ++ (hits ++ (codes " misses=" ++ (misses ++ (codes " upgrades=" ++ (upgrades
    ++ (codes " forwards=" ++ (forwards ++ (codes " write_backs=" ++ (backs ++ (codes " flushes=" ++ (flushes ++ 10 ∷ [])))))))))))))
    ≡ codes "Cache P" ++ (core ++ (codes " hits=" ++ (hits ++ (codes " misses=" ++ (misses ++ (codes " upgrades=" ++ (upgrades
    ++ ((codes " forwards=" ++ (forwards ++ (codes " write_backs=" ++ (backs ++ (codes " flushes=" ++ flushes))))) ++ 10 ∷ []))))))))
cache_nested core hits misses upgrades forwards backs flushes = simp append_assoc

-- ---- a line for each core

pub next-registers : (core : ℕ) (r : List ℕ) (rs all : List (List ℕ)) (before after whole : List ℕ)
    → after ≡ before ++ (codes "Registers P" ++ (decimal core ++ (codes " EAX=" ++ (decimal (value_in r Eax) ++ (codes " EBX=" ++ (decimal (value_in r Ebx)
    ++ (codes " ECX=" ++ (decimal (value_in r Ecx) ++ (codes " EDX=" ++ (decimal (value_in r Edx) ++ (codes " ESI=" ++ (decimal (value_in r Esi)
    ++ (codes " EDI=" ++ (decimal (value_in r Edi) ++ 10 ∷ []))))))))))))))
    → all ≡ r ∷ rs → before ++ register_lines core all ≡ whole → after ++ register_lines (core + 1) rs ≡ whole
unfolding all_registers
next-registers core r rs all before after whole is next was =
    rest-after (register_line core r) (register_lines (core + 1) rs) before after
    (is
    ∙ ap (λ line. before ++ line)
    (registers_nested (codes "Registers P") (decimal core) (codes " EAX=") (decimal (value_in r Eax)) (codes " EBX=") (decimal (value_in r Ebx))
    (codes " ECX=") (decimal (value_in r Ecx)) (codes " EDX=") (decimal (value_in r Edx)) (codes " ESI=")
    (decimal (value_in r Esi)) (codes " EDI=") (decimal (value_in r Edi)) (10 ∷ [])))
    ∙ (sym (ap (λ list. before ++ register_lines core list) next) ∙ was)

pub next-cache : (core : ℕ) (n : Counts) (ns all : List Counts) (before after whole : List ℕ)
    → after ≡ before
    ++ (codes "Cache P"
    ++ (decimal core
    ++ (codes " hits="
    ++ (decimal n.hits ++ (codes " misses=" ++ (decimal n.misses ++ (codes " upgrades=" ++ (decimal n.upgrades
    ++ (codes " forwards="
    ++ (decimal n.forwards
    ++ (codes " write_backs="
    ++ (decimal n.write_backs ++ (codes " flushes=" ++ (decimal n.flushes ++ 10 ∷ []))))))))))))))
    → all ≡ n ∷ ns → before ++ cache_lines core all ≡ whole → after ++ cache_lines (core + 1) ns ≡ whole
next-cache core n ns all before after whole is next was =
    rest-after (cache_line core n) (cache_lines (core + 1) ns) before after
    (is
    ∙ ap (λ line. before ++ line)
    (cache_nested (decimal core) (decimal n.hits) (decimal n.misses) (decimal n.upgrades) (decimal n.forwards)
    (decimal n.write_backs) (decimal n.flushes)))
    ∙ (sym (ap (λ list. before ++ cache_lines core list) next) ∙ was)

-- ---- values beside what they are of

no-values : (t : Litmus) (names : List Named) (values : List ℕ) → length values ≡ 0 → printed_values t names values ≡ []
no-values t [] values none = refl
no-values t (named ∷ names) [] none = refl
no-values t (named ∷ names) (value ∷ values) none = absurd cc

-- nothing is printed where one of the two lists is at its end
values-past : (t : Litmus) (i : ℕ) (names : List Named) (values : List ℕ)
    → min (length names) (length values) ≤ i
    → printed_values t (drop i names) (drop i values) ≡ []
values-past t zero [] values past = refl
values-past t zero (named ∷ names) [] past = refl
values-past t zero (named ∷ names) (value ∷ values) past = absurd (omega (arith, past))
values-past t (suc i) [] values past = refl
values-past t (suc i) (named ∷ names) [] past = no-values t (drop i names) [] refl
values-past t (suc i) (named ∷ names) (value ∷ values) past = values-past t i names values (omega (arith, past))

pub values-end : (t : Litmus) (i : ℕ) (names : List Named) (values : List ℕ) (text whole : List ℕ) → min (length names) (length values) ≤ i
    → text ++ printed_values t (drop i names) (drop i values) ≡ whole → text ≡ whole
values-end t i names values text whole past was = sym (append-nil text) ∙ (sym (ap (λ rest. text ++ rest) (values-past t i names values past)) ∙ was)
