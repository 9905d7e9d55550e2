-- The JSON object of a run that ended tells the run.
use Rattle.printed_laws.proofs.Vocabulary.{◌≡◌, ℕ, ◌^◌, Bool, true, List, [], ◌∷◌, ◌++◌, refl, sym, ap, subst, ◌∙◌, ◌≤◌, Option, arith}
use Rattle.printed_laws.proofs.Vocabulary.{length, All, Some, None, is_some, ◌-◌, map, decimal, decimal_injective, length-append}
use Rattle.printed_laws.proofs.Vocabulary.{length-map, string, outline, items_outline, codes, head, register_lines, choices_line}
use Rattle.printed_laws.proofs.Vocabulary.{cache_lines, memory_line, condition_line, all_registers, counts_value, condition_value}
use Rattle.printed_laws.proofs.Vocabulary.{registers_value, run_value, ReportsTellTheirRuns, Litmus, IsTest, ProtocolKind, Configuration}
use Rattle.printed_laws.proofs.Vocabulary.{IsConfigurationWithinLimits, Condition, IsWord, AreRegisters, index_of, value_in, Reg, IsAtMost}
use Rattle.printed_laws.proofs.Vocabulary.{Counts, Entry, printed_order, printed_entry, printed_end, printed_lines, SpellsOrder, IsOrderFor}
use Rattle.printed_laws.proofs.Vocabulary.{ReportsAreShort, ShownRun, RunFitsTest, items_of, Eax, Edx, Esi, Edi}
use Rattle.json.specs.Json as json
use Rattle.printed_laws.proofs.reports.Reports.{OrderIsSpelledOnce}
use Rattle.printed_laws.proofs.texts.Lists.{word-at}
use Rattle.printed_laws.proofs.reports.Lines.{all-values}
use Rattle.printed_laws.proofs.reports.Counted.{small, same-counts}
use Rattle.printed_laws.proofs.json.JsonTexts.{members_in, items_in, truth_in, value_at, text_at, texts_of, texts-there, items-alike}
use Rattle.printed_laws.proofs.json.JsonReading.{line-told}
use Rattle.printed_laws.proofs.reports.JsonNumbers.{run-back}
use Rattle.printed_laws.proofs.json.JsonMemory.{memory-told}

-- what a law of order texts says: what is printed of an order spells it
abbrev pub PrintedOrderIsSpelled : Type 0
PrintedOrderIsSpelled = (t : Litmus) (order : List Entry) → IsTest t → IsOrderFor t order → SpellsOrder t (printed_order t order) order

count-told : (a b : Counts) → IsAtMost (2 ^ 32 - 1) a → IsAtMost (2 ^ 32 - 1) b → outline (counts_value a) ≡ outline (counts_value b) → a ≡ b
count-told a b p q same =
    let told = λ (m n : ℕ) (few : m ≤ 2 ^ 32 - 1) (few' : n ≤ 2 ^ 32 - 1) (digits : decimal m ≡ decimal n).
    decimal_injective m n (small m few) (small n few') digits in
    same-counts a b (told _ _ p.hits q.hits (ap (text_at 2) same)) (told _ _ p.misses q.misses (ap (text_at 3) same))
    (told _ _ p.upgrades q.upgrades (ap (text_at 4) same))
    (told _ _ p.forwards q.forwards (ap (text_at 1) same)) (told _ _ p.write_backs q.write_backs (ap (text_at 5) same))
    (told _ _ p.flushes q.flushes (ap (text_at 0) same))

-- the verdict
verdict-told : (condition : Option Condition) (a b : Option Bool) → is_some a ≡ is_some condition → is_some b ≡ is_some condition
    → outline (condition_value condition a) ≡ outline (condition_value condition b) → a ≡ b
verdict-told None None None p q same = refl
verdict-told (Some c) (Some a) (Some b) p q same = ap (λ (j : json.Json). Some (truth_in (value_at 0 j))) same
verdict-told _ _ _ p q same = absurd cc

-- the order
printed-alike : (t : Litmus) (xs ys : List Entry) → map (printed_entry t) xs ≡ map (printed_entry t) ys → printed_order t xs ≡ printed_order t ys
printed-alike t xs ys same =
    let count : length xs ≡ length ys = sym (length-map xs (printed_entry t)) ∙ (ap (λ (l : List (List ℕ)). length l) same ∙ length-map ys (printed_entry t)) in
    λ i. printed_lines (codes "Order" ∷ (same i ++ (printed_end (count i) ∷ [])))

-- its lines are no more than those of a report
order-told : OrderIsSpelledOnce
    → PrintedOrderIsSpelled
    → ReportsAreShort
    → (t : Litmus) (kind : ProtocolKind) (c : Configuration) (s o : ShownRun)
    → IsTest t
    → IsConfigurationWithinLimits c
    → RunFitsTest t s
    → RunFitsTest t o
    → items_outline (items_of (map (λ e. string (printed_entry t e)) s.order))
    ≡ items_outline (items_of (map (λ e. string (printed_entry t e)) o.order))
    → s.order ≡ o.order
order-told once spelled short t kind c s o test within p q same =
    let alike = printed-alike t s.order o.order (sym (texts-there (printed_entry t) s.order) ∙ (ap texts_of same ∙ texts-there (printed_entry t) o.order)) in
    let rest =
    register_lines 0 o.registers
    ++ (memory_line t o.memory
    ++ (condition_line t o.holds ++ (choices_line o.used o.stalled o.unused ++ cache_lines 0 o.counts))) in
    let size = short t kind c o test within q.small in
    once t (printed_order t o.order) s.order o.order test
    (omega (arith, size, length-append (head t kind c) (printed_order t o.order ++ rest), length-append (printed_order t o.order) rest))
    (subst (λ (text : List ℕ). SpellsOrder t text s.order) alike (spelled t s.order test p.small.order)) (spelled t o.order test q.small.order)

-- the registers: the members are in the order of their names' bytes
abbrev member_of : Reg → ℕ
member_of Edx = 4
member_of Esi = 5
member_of Edi = 3
member_of reg = index_of reg

digits-there : (registers : List ℕ) (reg : Reg) → text_at (member_of reg) (outline (registers_value registers)) ≡ decimal (value_in registers reg)
digits-there registers Eax = refl
digits-there registers reg = refl

pub registers-told : (xs ys : List ℕ)
    → All IsWord xs
    → All IsWord ys
    → outline (registers_value xs) ≡ outline (registers_value ys)
    → (reg : Reg) → value_in xs reg ≡ value_in ys reg
registers-told xs ys p q same reg =
    let x = word-at xs (index_of reg) p in
    let y = word-at ys (index_of reg) q in
    decimal_injective (value_in xs reg) (value_in ys reg) (omega (arith, x)) (omega (arith, y))
    (sym (digits-there xs reg) ∙ (ap (text_at (member_of reg)) same ∙ digits-there ys reg))

core-told : (xs ys : List ℕ) → AreRegisters xs → AreRegisters ys → outline (registers_value xs) ≡ outline (registers_value ys) → xs ≡ ys
core-told xs ys p q same = sym (all-values xs p.six) ∙ ((λ i. map (λ reg. registers-told xs ys p.words q.words same reg i) all_registers) ∙ all-values ys q.six)

pub object-tells : OrderIsSpelledOnce → PrintedOrderIsSpelled → ReportsAreShort → ReportsTellTheirRuns true
object-tells once spelled short t kind c s o test within p q e =
    let a = run_value t kind c s in
    let b = run_value t kind c o in
    let same = line-told a b (run-back t kind c s within p.small) (run-back t kind c o within q.small) e in
    let counts =
    items-alike (IsAtMost (2 ^ 32 - 1)) counts_value count-told s.counts o.counts p.small.counts q.small.counts
    (ap (λ (j : json.Json). items_in (value_at 0 j)) same) in
    let stalled = decimal_injective s.stalled o.stalled p.small.stalled q.small.stalled (ap (λ (j : json.Json). text_at 0 (value_at 1 j)) same) in
    let unused = decimal_injective s.unused o.unused p.small.unused q.small.unused (ap (λ (j : json.Json). text_at 1 (value_at 1 j)) same) in
    let used = decimal_injective s.used o.used p.small.used q.small.used (ap (λ (j : json.Json). text_at 2 (value_at 1 j)) same) in
    let holds = verdict-told t.condition s.holds o.holds p.of_test.verdict q.of_test.verdict (ap (value_at 2) same) in
    let memory =
    memory-told t.locations s.memory o.memory test.locations_differ p.of_test.memory q.of_test.memory p.small.memory
    q.small.memory (ap (λ (j : json.Json). members_in (value_at 4 j)) same) in
    let order = order-told once spelled short t kind c s o test within p q (ap (λ (j : json.Json). items_in (value_at 5 j)) same) in
    let registers =
    items-alike AreRegisters registers_value core-told s.registers o.registers p.small.registers q.small.registers
    (ap (λ (j : json.Json). items_in (value_at 6 j)) same) in
    λ i. record {
      order = order i;
      registers = registers i;
      memory = memory i;
      holds = holds i;
      used = used i;
      stalled = stalled i;
      unused = unused i;
      counts = counts i;
    }
