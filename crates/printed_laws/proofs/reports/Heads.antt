-- The first two lines of a report, and of a sweep, tell the test's name, the protocol and the configuration.
use Rattle.printed_laws.proofs.Vocabulary.{◌≡◌, ℕ, ◌^◌, ◌<◌, true, List, [], ◌∷◌, ◌++◌, get_or, refl, sym, ap, ◌∙◌, arith, inl, inr, ◌==◌}
use Rattle.printed_laws.proofs.Vocabulary.{if◌then◌else◌, decimal, list_all, and_parts, append_cancel_left, append_assoc, codes, line}
use Rattle.printed_laws.proofs.Vocabulary.{bus_text, machine_line, head, NameTheSame, Litmus, IsTest, is_printable, is_test_name, Bus}
use Rattle.printed_laws.proofs.Vocabulary.{Atomic, Split, protocol_name, ProtocolKind, IsLineSize, Configuration}
use Rattle.printed_laws.proofs.Vocabulary.{IsConfigurationWithinLimits}
use Rattle.protocol_tables.specs.declared.kind.ProtocolKind.TheVariants.{Msi, Mesi, Moesi, Mosi}
use Rattle.printed_laws.proofs.texts.Cutting.{Stops, AreSmall, unlike, filled, run-cut, filled-cut, same-cut}

-- ---- the parts

abbrev read_protocol : List ℕ → ProtocolKind
read_protocol text = if get_or text 1 0 == 115 then Msi else if get_or text 1 0 == 101 then Mesi else if get_or text 2 0 == 101 then Moesi else Mosi

protocol-again : (kind : ProtocolKind) (rest : List ℕ) → read_protocol (protocol_name kind ++ 32 ∷ rest) ≡ kind
protocol-again Msi rest = refl
protocol-again kind rest = refl

pub protocol-cut : (a b : ProtocolKind) (rest other : List ℕ) → protocol_name a ++ 32 ∷ rest ≡ protocol_name b ++ 32 ∷ other → (a ≡ b) × (rest ≡ other)
protocol-cut a b rest other e =
    let same : a ≡ b = sym (protocol-again a rest) ∙ (ap read_protocol e ∙ protocol-again b other) in
    (same, append_cancel_left (32 ∷ []) rest other (same-cut (protocol_name a) (protocol_name b) (32 ∷ rest) (32 ∷ other) (ap protocol_name same) e))

bus-stops : (bus : Bus) (rest : List ℕ) → Stops (bus_text bus ++ 10 ∷ rest)
bus-stops Atomic rest = refl
bus-stops bus rest = refl

bus-cut : (a b : Bus) (rest other : List ℕ) → bus_text a ++ 10 ∷ rest ≡ bus_text b ++ 10 ∷ other → (a ≡ b) × (rest ≡ other)
bus-cut Atomic Atomic rest other e = (refl, append_cancel_left (10 ∷ []) rest other e)
bus-cut Split Split rest other e = (refl, append_cancel_left (codes " bus=split\n") rest other e)
bus-cut a b rest other e = unlike 0 (bus_text a ++ 10 ∷ rest) (bus_text b ++ 10 ∷ other) refl e

pub line-small : (words : ℕ) → IsLineSize words → words < 2 ^ 64
line-small words (inl e) = omega (arith, e)
line-small words (inr (inl e)) = omega (arith, e)
line-small words (inr (inr e)) = omega (arith, e)

pub printable-name : (name : List ℕ) → is_test_name name ≡ true → list_all is_printable name ≡ true
printable-name [] is = absurd cc
printable-name (c ∷ cs) is =
    let whole = and_parts _ _ is in
    let front = and_parts _ _ whole.0 in
    front.1

-- ---- the lines

machine-flat : (name depth sets ways words bus rest : List ℕ)
    → (codes "Machine "
    ++ (name
    ++ (codes " depth="
    ++ (depth
    ++ line ((codes " sets=" ++ (sets ++ (codes " ways=" ++ (ways ++ (codes " words=" ++ words))))) ++ bus)))))
    ++ rest
    ≡ codes "Machine "
    ++ (name ++ 32
    ∷ (codes "depth="
    ++ (depth
    ++ (codes " sets="
    ++ (sets ++ (codes " ways=" ++ (ways ++ (codes " words=" ++ (words ++ (bus ++ 10 ∷ rest))))))))))
machine-flat name depth sets ways words bus rest = simp append_assoc

pub same-configuration : (c d : Configuration)
    → c.depth ≡ d.depth
    → c.shape.sets ≡ d.shape.sets
    → c.shape.ways ≡ d.shape.ways
    → c.shape.words ≡ d.shape.words
    → c.bus ≡ d.bus
    → c ≡ d
same-configuration c d depth sets ways words bus =
    λ i. record { depth = depth i; shape = record { sets = sets i; ways = ways i; words = words i }; bus = bus i }

abbrev machine_numbers : Configuration → List ℕ
machine_numbers c = c.depth ∷ c.shape.sets ∷ c.shape.ways ∷ c.shape.words ∷ []

machine-cut : (kind other_kind : ProtocolKind) (c d : Configuration) (rest other : List ℕ) → IsConfigurationWithinLimits c → IsConfigurationWithinLimits d
    → machine_line kind c ++ rest ≡ machine_line other_kind d ++ other → (kind ≡ other_kind) × (c ≡ d) × (rest ≡ other)
machine-cut kind other_kind c d rest other p q e =
    let flat = λ (k : ProtocolKind) (x : Configuration) (after : List ℕ).
    machine-flat (protocol_name k) (decimal x.depth) (decimal x.shape.sets) (decimal x.shape.ways) (decimal x.shape.words) (bus_text x.bus) after in
    let labels = codes "depth=" ∷ codes " sets=" ∷ codes " ways=" ∷ codes " words=" ∷ [] in
    let from_depth = λ (x : Configuration) (after : List ℕ). filled labels (machine_numbers x) (bus_text x.bus ++ 10 ∷ after) in
    let few : (x : Configuration) → IsConfigurationWithinLimits x → AreSmall (machine_numbers x) = λ x within.
    (omega (arith, within.0), (omega (arith, within.1.few_sets), (omega (arith, within.1.few_ways), (line-small x.shape.words within.1.line_size, tt)))) in
    let protocol =
    protocol-cut kind other_kind (from_depth c rest) (from_depth d other)
    (append_cancel_left (codes "Machine ") _ _ (sym (flat kind c rest) ∙ (e ∙ flat other_kind d other))) in
    let numbers =
    filled-cut labels (machine_numbers c) (machine_numbers d) (bus_text c.bus ++ 10 ∷ rest)
    (bus_text d.bus ++ 10 ∷ other) refl refl refl (few c p) (few d q)
    (bus-stops c.bus rest) (bus-stops d.bus other) protocol.1 in
    let told = λ (k : ℕ). ap (λ (l : List ℕ). get_or l k 0) numbers.0 in
    let bus = bus-cut c.bus d.bus rest other numbers.1 in
    (protocol.0, same-configuration c d (told 0) (told 1) (told 2) (told 3) bus.0, bus.1)

test-flat : (name machine rest : List ℕ) → ((codes "Test " ++ line name) ++ machine) ++ rest ≡ codes "Test " ++ (name ++ 10 ∷ (machine ++ rest))
test-flat name machine rest = simp append_assoc

pub head-cut : (t u : Litmus) (kind other_kind : ProtocolKind) (c d : Configuration) (rest other : List ℕ)
    → IsTest t
    → IsTest u
    → IsConfigurationWithinLimits c
    → IsConfigurationWithinLimits d
    → head t kind c ++ rest ≡ head u other_kind d ++ other → NameTheSame t u kind other_kind c d × (rest ≡ other)
head-cut t u kind other_kind c d rest other test test' p q e =
    let machine = machine_line kind c in
    let machine' = machine_line other_kind d in
    let flat = sym (test-flat t.name machine rest) ∙ (e ∙ test-flat u.name machine' other) in
    let named = append_cancel_left (codes "Test ") (t.name ++ 10 ∷ (machine ++ rest)) (u.name ++ 10 ∷ (machine' ++ other)) flat in
    let name =
    run-cut is_printable t.name u.name (10 ∷ (machine ++ rest)) (10 ∷ (machine' ++ other))
    (printable-name t.name test.name_spelled) (printable-name u.name test'.name_spelled) refl refl named in
    let ended = append_cancel_left (10 ∷ []) (machine ++ rest) (machine' ++ other) name.1 in
    let told = machine-cut kind other_kind c d rest other p q ended in
    (record { test = name.0; protocol = told.0; configuration = told.1 }, told.2)
