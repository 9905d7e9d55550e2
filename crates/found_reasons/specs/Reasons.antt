-- What a search for a reason answers: a refutation of what the test asks, an execution in which it is true, or that there can be more cases
-- than may be told apart.
use Rattle.std.specs.Prelude.{ℕ, ◌≡◌, ◌<◌, ◌+◌, ◌*◌, ◌/◌, ◌&&◌, nat_lt, true, if◌then◌else◌, List, [], ◌∷◌, map, length}
use Rattle.tso_terms.specs.Litmus.{Litmus}
use Rattle.tso_terms.specs.ProgramOrder.{is_read, is_write, writes_to}
use Rattle.tso_terms.specs.declared.execution.Entry.{Entry}
use Rattle.refutation_laws.specs.Known.{events_of}
use Rattle.refutation_laws.specs.Refutations.{asked_claim, sources_of}
use Rattle.refutation_laws.specs.Models.{IsMet}
use Rattle.refutation_laws.specs.declared.model.Model.{Model}
use Rattle.lemma_refutations.specs.Refutations.{refutes}
use Rattle.refutation_checker.specs.Trees.{node_of, lemma_of}
use Rattle.found_reasons.specs.declared.reason.Reason.{Reason}
use Rattle.found_reasons.specs.declared.reason.Reason.TheVariants.{Never, Allowed, TooMany}

-- ---- how many cases there can be

abbrev pub cube : ℕ → ℕ
cube side = (side * side) * side

-- A case is a branch. To look at one takes longer where a test has many events. So it counts there for several. (A test has at most 512
-- events.)
abbrev pub counted_as : ℕ → ℕ
counted_as events = cube (1 + (if nat_lt events 512 then events else 512) / 8)

abbrev pub product : (Entry → ℕ) → List Entry → ℕ
product f [] = 1
product f (x ∷ xs) = f x * product f xs

-- a branch tells of a read one of its sources, or none
abbrev pub sources_in : Litmus → Entry → ℕ
sources_in t r = if is_read r then 1 + length (sources_of t r) else 1

-- and of two writes to one location that one of them comes first, or neither
abbrev pub orders_in : Entry → Entry → ℕ
orders_in w v = if is_write w && writes_to w.loc.0 v then 3 else 1

abbrev pub all_orders : List Entry → ℕ
all_orders [] = 1
all_orders (w ∷ ws) = product (orders_in w) ws * all_orders ws

-- over the reads and the pairs of writes the product of what a branch can tell, each case counted for several
abbrev pub most_cases : Litmus → ℕ
most_cases t = (product (sources_in t) (events_of t) * all_orders (events_of t)) * counted_as (length (events_of t))

-- ---- the answer

abbrev pub IsReason : Model → Litmus → ℕ → Reason → Type 0
IsReason model t limit (Never lemmas tree) =
    refutes model t (asked_claim t.condition) (map lemma_of lemmas.items) (map node_of tree.items) ≡ true
IsReason model t limit (Allowed execution) = IsMet model t (asked_claim t.condition) execution.order.items
IsReason model t limit TooMany = limit < most_cases t
