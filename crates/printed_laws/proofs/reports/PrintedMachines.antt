-- Reports, their JSON objects and the lines of sweeps tell the test's name, the protocol and the configuration.
use Rattle.printed_laws.proofs.Vocabulary.{◌≡◌, ℕ, true, false, List, [], ◌∷◌, ◌++◌, get_or, refl, sym, ap, ◌∙◌, arith, decimal}
use Rattle.printed_laws.proofs.Vocabulary.{decimal_injective, append_assoc, object, outline, codes, line, register_lines, choices_line}
use Rattle.printed_laws.proofs.Vocabulary.{cache_lines, memory_line, condition_line, with_bus, configuration_members, machine_value}
use Rattle.printed_laws.proofs.Vocabulary.{run_value, ReportsTellTheirMachines, SweepsTellTheirMachines, Litmus, Bus, Atomic, Split}
use Rattle.printed_laws.proofs.Vocabulary.{protocol_name, ProtocolKind, Configuration, IsConfigurationWithinLimits, printed_order, ShownRun}
use Rattle.printed_laws.proofs.Vocabulary.{RunCounts, ended_in, counted_state_lines, observation, tally_text, runs_in, ends_text}
use Rattle.json.specs.Json as json
use Rattle.scheduler.specs.Plan.{Plan}
use Rattle.printed_laws.proofs.texts.Cutting.{unlike, filled-cut}
use Rattle.printed_laws.proofs.reports.Heads.{protocol-cut, line-small, same-configuration, head-cut}
use Rattle.printed_laws.proofs.json.JsonTexts.{members_in, value_at, text_at}
use Rattle.printed_laws.proofs.json.JsonReading.{line-told}
use Rattle.printed_laws.proofs.reports.JsonNumbers.{run-back}

-- ---- a report

-- the lines after the first two
abbrev after-head : Litmus → ShownRun → List ℕ
after-head t s =
    printed_order t s.order ++ (register_lines 0 s.registers ++ (memory_line t s.memory
    ++ (condition_line t s.holds ++ (choices_line s.used s.stalled s.unused ++ cache_lines 0 s.counts))))

pub lines-name : ReportsTellTheirMachines false
lines-name t u kind other_kind c d s o test test' p q fits fits' e = (head-cut t u kind other_kind c d (after-head t s) (after-head u o) test test' p q e).0

-- ---- its JSON object

abbrev first_key : json.Members → List ℕ
first_key json.no_members = []
first_key (json.member k j ms) = k

named-told : (kind other_kind : ProtocolKind) → protocol_name kind ≡ protocol_name other_kind → kind ≡ other_kind
named-told kind other_kind e = (protocol-cut kind other_kind [] [] (ap (λ (l : List ℕ). l ++ 32 ∷ []) e)).0

-- the members without the bus
members-told : (kind other_kind : ProtocolKind) (c d : Configuration) → IsConfigurationWithinLimits c → IsConfigurationWithinLimits d → c.bus ≡ d.bus
    → outline (object (configuration_members kind c)) ≡ outline (object (configuration_members other_kind d)) → (kind ≡ other_kind) × (c ≡ d)
members-told kind other_kind c d p q bus same = (
  named-told kind other_kind (ap (text_at 1) same),
  same-configuration c d (decimal_injective c.depth d.depth (omega (arith, p.0)) (omega (arith, q.0)) (ap (text_at 0) same))
      (decimal_injective c.shape.sets d.shape.sets (omega (arith, p.1.few_sets)) (omega (arith, q.1.few_sets)) (ap (text_at 2) same))
      (decimal_injective c.shape.ways d.shape.ways (omega (arith, p.1.few_ways)) (omega (arith, q.1.few_ways)) (ap (text_at 3) same))
      (decimal_injective c.shape.words d.shape.words (line-small c.shape.words p.1.line_size) (line-small d.shape.words q.1.line_size) (ap (text_at 4) same))
      bus,
)

abbrev more_members : json.Json → json.Json
more_members (json.object (json.member k j ms)) = json.object ms
more_members j = j

machine-told : (kind other_kind : ProtocolKind) (c d : Configuration) → IsConfigurationWithinLimits c → IsConfigurationWithinLimits d
    → outline (machine_value kind c) ≡ outline (machine_value other_kind d) → (kind ≡ other_kind) × (c ≡ d)
machine-told kind other_kind c d p q same = by_bus c.bus d.bus refl refl same
  where
    by_bus : (a b : Bus) → c.bus ≡ a → d.bus ≡ b
        → outline (object (with_bus a (configuration_members kind c)))
        ≡ outline (object (with_bus b (configuration_members other_kind d)))
        → (kind ≡ other_kind) × (c ≡ d)
    by_bus Atomic Atomic is is' same = members-told kind other_kind c d p q (is ∙ sym is') same
    by_bus Split Split is is' same = members-told kind other_kind c d p q (is ∙ sym is') (ap more_members same)
    by_bus _ _ is is' same = unlike 0 _ _ refl (ap (λ (j : json.Json). first_key (members_in j)) same)

pub object-names : ReportsTellTheirMachines true
object-names t u kind other_kind c d s o test test' p q fits fits' e =
    let a = run_value t kind c s in
    let b = run_value u other_kind d o in
    let same = line-told a b (run-back t kind c s p fits.small) (run-back u other_kind d o q fits'.small) e in
    let machine = machine-told kind other_kind c d p q (ap (value_at 3) same) in
    record { test = ap (text_at 7) same; protocol = machine.0; configuration = machine.1 }

-- ---- a sweep

sweep-flat : (from seeds size ends rest : List ℕ)
    → (codes "Sweep from=" ++ (from ++ (codes " seeds=" ++ (seeds ++ (codes " length=" ++ (size ++ ends)))))) ++ rest
    ≡ codes "Sweep from=" ++ (from ++ (codes " seeds=" ++ (seeds ++ (codes " length=" ++ (size ++ (ends ++ rest))))))
sweep-flat from seeds size ends rest = simp append_assoc

-- what comes after the numbers of a plan, on their line and after it
abbrev ends-of : RunCounts → List ℕ
ends-of r = line (ends_text (ended_in r) r.unfinished)

abbrev states-of : Litmus → RunCounts → List ℕ
states-of t r = counted_state_lines t r.states ++ observation t.name t.condition r.held r.failed

pub sweeps-name : SweepsTellTheirMachines
sweeps-name t u kind other_kind c d plan other_plan a b test test' p q planned planned' runs runs' e =
    let numbers = λ (x : Plan) (r : RunCounts). x.from ∷ runs_in r ∷ x.length ∷ [] in
    let flat = λ (v : Litmus) (x : Plan) (r : RunCounts). sweep-flat (decimal x.from) (decimal (runs_in r)) (decimal x.length) (ends-of r) (states-of v r) in
    let head = head-cut t u kind other_kind c d (tally_text t a plan.from plan.length) (tally_text u b other_plan.from other_plan.length) test test' p q e in
    let cut =
    filled-cut
    (codes "Sweep from=" ∷ codes " seeds=" ∷ codes " length=" ∷ []) (numbers plan a) (numbers other_plan b)
    (ends-of a ++ states-of t a) (ends-of b ++ states-of u b) refl refl refl
    (omega (arith, planned.0), (omega (arith, runs, planned.2), (omega (arith, planned.3), tt)))
    (omega (arith, planned'.0), (omega (arith, runs', planned'.2), (omega (arith, planned'.3), tt))) refl refl
    (sym (flat t plan a) ∙ (head.1 ∙ flat u other_plan b)) in
    let seeds = sym runs ∙ (ap (λ (l : List ℕ). get_or l 1 0) cut.0 ∙ runs') in
    (head.0, λ i. record { from = get_or (cut.0 i) 0 0; seeds = seeds i; length = get_or (cut.0 i) 2 0 })
