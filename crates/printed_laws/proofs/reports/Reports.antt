-- The lines of a report tell its run.
use Rattle.printed_laws.proofs.Vocabulary.{◌≡◌, ℕ, ◌^◌, ◌<◌, false, List, [], ◌∷◌, ◌++◌, get_or, refl, sym, ap, subst, ◌∙◌, arith, length}
use Rattle.printed_laws.proofs.Vocabulary.{append_cancel_left, append_assoc, codes, line, head, register_lines, printed_words}
use Rattle.printed_laws.proofs.Vocabulary.{printed_verdict, choices_line, cache_lines, report, memory_line, condition_line}
use Rattle.printed_laws.proofs.Vocabulary.{ReportsTellTheirRuns, Litmus, IsTest, ProtocolKind, Configuration, IsConfigurationWithinLimits}
use Rattle.printed_laws.proofs.Vocabulary.{Entry, printed_order, SpellsOrder, ReportSpellsItsOrder, ReportsAreShort, ShownRun, RunFitsTest}
use Rattle.printed_laws.proofs.texts.Cutting.{same-cut}
use Rattle.printed_laws.proofs.reports.Lines.{register-lines-cut, words-cut, verdict-cut}
use Rattle.printed_laws.proofs.reports.Counted.{choices-cut, caches-told}

-- what a law of order texts says: a text spells one order at most
abbrev pub OrderIsSpelledOnce : Type 0
OrderIsSpelledOnce =
    (t : Litmus) (text : List ℕ) (order other : List Entry)
    → IsTest t
    → length text < 2 ^ 64
    → SpellsOrder t text order
    → SpellsOrder t text other
    → order ≡ other

order-told : OrderIsSpelledOnce
    → ReportSpellsItsOrder
    → ReportsAreShort
    → (t : Litmus) (kind : ProtocolKind) (c : Configuration) (s o : ShownRun)
    → IsTest t
    → IsConfigurationWithinLimits c
    → RunFitsTest t s
    → RunFitsTest t o
    → report t kind c s ≡ report t kind c o → s.order ≡ o.order
order-told once spells short t kind c s o test within p q e =
    let size = short t kind c o test within q.small in
    let depth = within.0 in
    once t (report t kind c o) s.order o.order test (omega (arith, size))
    (subst (λ (text : List ℕ). SpellsOrder t text s.order) e (spells t kind c s test (omega (arith, depth)) within.1 p.small.order))
    (spells t kind c o test (omega (arith, depth)) within.1 q.small.order)

memory-flat : (words rest : List ℕ) → (codes "Memory" ++ line words) ++ rest ≡ codes "Memory" ++ (words ++ 10 ∷ rest)
memory-flat words rest = simp append_assoc

condition-flat : (verdict rest : List ℕ) → (codes "Condition " ++ line verdict) ++ rest ≡ codes "Condition " ++ (verdict ++ 10 ∷ rest)
condition-flat verdict rest = simp append_assoc

pub lines-tell : OrderIsSpelledOnce → ReportSpellsItsOrder → ReportsAreShort → ReportsTellTheirRuns false
lines-tell once spells short t kind c s o test within p q e =
    let choices = λ (r : ShownRun). choices_line r.used r.stalled r.unused ++ cache_lines 0 r.counts in
    let verdict = λ (r : ShownRun). condition_line t r.holds ++ choices r in
    let memory = λ (r : ShownRun). memory_line t r.memory ++ verdict r in
    let registers = λ (r : ShownRun). register_lines 0 r.registers ++ memory r in
    let order = order-told once spells short t kind c s o test within p q e in
    let from_order = append_cancel_left (head t kind c) (printed_order t s.order ++ registers s) (printed_order t o.order ++ registers o) e in
    let from_registers = same-cut (printed_order t s.order) (printed_order t o.order) (registers s) (registers o) (ap (printed_order t) order) from_order in
    let first = register-lines-cut s.registers o.registers (memory s) (memory o) p.small.registers q.small.registers refl refl from_registers in
    let flat_memory =
    sym (memory-flat (printed_words t.locations s.memory) (verdict s))
    ∙ (first.1 ∙ memory-flat (printed_words t.locations o.memory) (verdict o)) in
    let second =
    words-cut t.locations s.memory o.memory (10 ∷ verdict s) (10 ∷ verdict o) p.of_test.memory q.of_test.memory
    p.small.memory q.small.memory refl refl
    (append_cancel_left (codes "Memory") (printed_words t.locations s.memory ++ 10 ∷ verdict s)
    (printed_words t.locations o.memory ++ 10 ∷ verdict o) flat_memory) in
    let from_verdict = append_cancel_left (10 ∷ []) (verdict s) (verdict o) second.1 in
    let flat_verdict =
    sym (condition-flat (printed_verdict t.condition s.holds) (choices s))
    ∙ (from_verdict ∙ condition-flat (printed_verdict t.condition o.holds) (choices o)) in
    let third = verdict-cut t.condition s.holds o.holds (10 ∷ choices s) (10 ∷ choices o) p.of_test.verdict q.of_test.verdict
    (append_cancel_left (codes "Condition ") (printed_verdict t.condition s.holds ++ 10 ∷ choices s)
    (printed_verdict t.condition o.holds ++ 10 ∷ choices o) flat_verdict) in
    let from_choices = append_cancel_left (10 ∷ []) (choices s) (choices o) third.1 in
    let fourth = choices-cut t s o (cache_lines 0 s.counts) (cache_lines 0 o.counts) p.small q.small from_choices in
    let counts = caches-told s.counts o.counts p.small.counts q.small.counts fourth.1 in
    λ i. record {
      order = order i;
      registers = first.0 i;
      memory = second.0 i;
      holds = third.0 i;
      used = get_or (fourth.0 i) 0 0;
      stalled = get_or (fourth.0 i) 1 0;
      unused = get_or (fourth.0 i) 2 0;
      counts = counts i;
    }
