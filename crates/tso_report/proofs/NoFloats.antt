-- The values of a report have no float, so that their text is known.
use Rattle.tso_report.proofs.Vocabulary.{◌≡◌, ℕ, Bool, true, false, ◌||◌, List, [], ◌∷◌, map, Option, Some, refl, nat_cmp, match_ordering}
use Rattle.tso_report.proofs.Vocabulary.{slice_cmp, Ordering, Less, Equal, Greater, or_parts, string, Members, no_members, member, put}
use Rattle.tso_report.proofs.Vocabulary.{items_of, has_float, items_have_float, members_have_float, Litmus, Condition, Bus, Atomic, Split}
use Rattle.tso_report.proofs.Vocabulary.{printed_entry, ProtocolKind, Configuration, ShownRun, count, counts_value, cache_value}
use Rattle.tso_report.proofs.Vocabulary.{condition_value, with_bus, configuration_members, machine_value, memory_members, memory_value}
use Rattle.tso_report.proofs.Vocabulary.{order_value, registers_value, cores_value, run_value, Data}

pub neither : (p q : Bool) → p ≡ false → q ≡ false → p || q ≡ false
neither true q h k = h
neither false q h k = k

-- a value put among members
pub one_more : (k : List ℕ) (x : Data) (ms : Members) → has_float x ≡ false → members_have_float ms ≡ false → members_have_float (put k x ms) ≡ false
one_more k x no_members f h = neither (has_float x) false f refl
one_more k x (member l d ms) f h =
    by_order (slice_cmp nat_cmp k l) (or_parts (has_float d) (members_have_float ms) h)
    (one_more k x ms f (or_parts (has_float d) (members_have_float ms) h).1)
  where
    by_order : (o : Ordering) → (has_float d ≡ false) × (members_have_float ms ≡ false) → members_have_float (put k x ms) ≡ false
        → members_have_float (match_ordering o (member k x (member l d ms)) (member l x ms) (member l d (put k x ms))) ≡ false
    by_order Less parts further = neither (has_float x) (has_float d || members_have_float ms) f (neither (has_float d) (members_have_float ms) parts.0 parts.1)
    by_order Equal parts further = neither (has_float x) (members_have_float ms) f parts.1
    by_order Greater parts further = neither (has_float d) (members_have_float (put k x ms)) parts.0 further

-- values of a list
pub each : {X : Type 0} (value : X → Data) → ((x : X) → has_float (value x) ≡ false) → (xs : List X) → items_have_float (items_of (map value xs)) ≡ false
each value none [] = refl
each value none (x ∷ xs) = neither (has_float (value x)) (items_have_float (items_of (map value xs))) (none x) (each value none xs)

condition : (o : Option Condition) (holds : Option Bool) → has_float (condition_value o holds) ≡ false
condition (Some c) (Some b) = refl
condition o holds = refl

pub memory : (names : List (List ℕ)) (words : List ℕ) → members_have_float (memory_members names words) ≡ false
memory (name ∷ names) (word ∷ words) = one_more name (count word) (memory_members names words) refl (memory names words)
memory names words = refl

machine : (kind : ProtocolKind) (c : Configuration) → has_float (machine_value kind c) ≡ false
machine kind c = by_bus c.bus
  where
    by_bus : (bus : Bus) → members_have_float (with_bus bus (configuration_members kind c)) ≡ false
    by_bus Atomic = refl
    by_bus Split = refl

pub run_has_no_float : (t : Litmus) (kind : ProtocolKind) (c : Configuration) (s : ShownRun) → has_float (run_value t kind c s) ≡ false
run_has_no_float t kind c s =
    neither (has_float (cache_value s.counts)) _ (each counts_value (λ c. refl) s.counts)
    (neither (has_float (condition_value t.condition s.holds)) _ (condition t.condition s.holds)
    (neither (has_float (machine_value kind c)) _ (machine kind c)
    (neither (has_float (memory_value t s.memory)) _ (memory t.locations s.memory)
    (neither (has_float (order_value t s.order)) _ (each (λ e. string (printed_entry t e)) (λ e. refl) s.order)
    (neither (has_float (cores_value s.registers)) false (each registers_value (λ r. refl) s.registers) refl)))))
