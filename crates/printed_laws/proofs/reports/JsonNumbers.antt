-- The JSON value of a run is read back from its text.
use Rattle.printed_laws.proofs.Vocabulary.{ℕ, ◌^◌, ◌<◌, Bool, List, ◌∷◌, suc, ◌≤◌, Option, arith, All, Some, ◌-◌, string, outline}
use Rattle.printed_laws.proofs.Vocabulary.{members_outline, IsNumber-decimal, count, counts_value, condition_value, with_bus}
use Rattle.printed_laws.proofs.Vocabulary.{configuration_members, machine_value, memory_members, registers_value, run_members, Litmus, Bus}
use Rattle.printed_laws.proofs.Vocabulary.{Atomic, Split, ProtocolKind, Configuration, IsConfigurationWithinLimits, All-head, All-tail}
use Rattle.printed_laws.proofs.Vocabulary.{Condition, IsWord, AreRegisters, index_of, value_in, Reg, IsAtMost, Counts, printed_entry}
use Rattle.printed_laws.proofs.Vocabulary.{ShownRun, Eax, Ebx, Ecx, Edx, Esi, Edi}
use Rattle.tso_report.specs.Limits.{IsSmall}
use Rattle.printed_laws.proofs.reports.Counted.{small}
use Rattle.printed_laws.proofs.reports.Heads.{line-small}
use Rattle.printed_laws.proofs.texts.Lists.{word-at}
use Rattle.printed_laws.proofs.json.JsonReading.{ReadsBack, MembersReadBack, put-back, each-back, all-back, word-back}

counts-back : (levels : ℕ) (c : Counts) → IsAtMost (2 ^ 32 - 1) c → ReadsBack (suc levels) (outline (counts_value c))
counts-back levels c p =
    let is = λ (n : ℕ) (most : n ≤ 2 ^ 32 - 1). IsNumber-decimal n (small n most) in
    (is _ p.flushes, (is _ p.forwards, (is _ p.hits, (is _ p.misses, (is _ p.upgrades, (is _ p.write_backs, tt))))))

condition-back : (levels : ℕ) (condition : Option Condition) (holds : Option Bool) → ReadsBack (suc levels) (outline (condition_value condition holds))
condition-back levels (Some c) (Some b) = (tt, (tt, tt))
condition-back levels _ _ = tt

machine-back : (levels : ℕ) (kind : ProtocolKind) (c : Configuration) → IsConfigurationWithinLimits c → ReadsBack (suc levels) (outline (machine_value kind c))
machine-back levels kind c within = by_bus c.bus
  where
    members : MembersReadBack levels (members_outline (configuration_members kind c))
    members =
        let is = λ (n : ℕ) (less : n < 2 ^ 64). IsNumber-decimal n less in
        let shape = within.1 in (
          is _ (omega (arith, within.0)),
          (
            tt,
            (
              is _ (omega (arith, shape.few_sets)),
              (is _ (omega (arith, shape.few_ways)), (is _ (line-small c.shape.words shape.line_size), tt)),
            ),
          ),
        )

    by_bus : (bus : Bus) → MembersReadBack levels (members_outline (with_bus bus (configuration_members kind c)))
    by_bus Atomic = members
    by_bus Split = (tt, members)

pub memory-back : (levels : ℕ) (names : List (List ℕ)) (words : List ℕ)
    → All IsWord words
    → MembersReadBack levels (members_outline (memory_members names words))
memory-back levels (name ∷ names) (word ∷ words) all =
    put-back levels name (count word) (memory_members names words)
    (word-back levels word (All-head IsWord word words all))
    (memory-back levels names words (All-tail IsWord word words all))
memory-back levels _ _ all = tt

pub registers-back : (levels : ℕ) (registers : List ℕ) → All IsWord registers → ReadsBack (suc levels) (outline (registers_value registers))
registers-back levels registers all =
    let is = λ (reg : Reg). word-back levels (value_in registers reg) (word-at registers (index_of reg) all) in
    (is Eax, (is Ebx, (is Ecx, (is Edi, (is Edx, (is Esi, tt))))))

-- the members of a run
pub run-back : (t : Litmus) (kind : ProtocolKind) (c : Configuration) (s : ShownRun)
    → IsConfigurationWithinLimits c
    → IsSmall t s
    → MembersReadBack 127 (members_outline (run_members t kind c s))
run-back t kind c s within p =
    let memory = memory-back 126 t.locations s.memory p.memory in
    let order = each-back 126 (λ e. string (printed_entry t e)) s.order (λ e. tt) in
    let registers = all-back 126 AreRegisters registers_value s.registers (λ r are. registers-back 125 r are.words) p.registers in (
      all-back 126 (IsAtMost (2 ^ 32 - 1)) counts_value s.counts (counts-back 125) p.counts,
      (
        (IsNumber-decimal s.stalled p.stalled, (IsNumber-decimal s.unused p.unused, (IsNumber-decimal s.used p.used, tt))),
        (condition-back 126 t.condition s.holds, (machine-back 126 kind c within, (memory, (order, (registers, (tt, tt)))))),
      ),
    )
