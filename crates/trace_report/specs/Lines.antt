-- The text of a trace: a line for each choice that was used. (This project's profile; the names of the transients are those of
-- the Primer, chapter 7.)
use Rattle.std.specs.Prelude.{ℕ, ◌+◌, ◌*◌, Bool, true, false, List, [], ◌∷◌, ◌++◌, length, take, drop, Option, Some, None, codes, slice_index_or}
use Rattle.std.specs.Fmt.{decimal}
use Rattle.tso_terms.specs.Litmus.{Litmus}
use Rattle.tso_terms.specs.FlatMachine.{chosen}
use Rattle.tso_terms.specs.Registers.{name_of}
use Rattle.basic_laws.specs.Types.{Core, Choice, Stall, Outcome, Committed, Buffered, Moved, Asked, Stalled, Entry}
use Rattle.tso_terms.specs.declared.choice.Stall.TheVariants.{Done, Full, Fence, Lock, Empty, Bus}
use Rattle.scheduler.specs.Printed.{printed_choice}
use Rattle.protocol_tables.specs.PrintedTable.{line, letter}
use Rattle.protocol_tables.specs.declared.requests.Request.{Request}
use Rattle.protocol_tables.specs.declared.requests.Request.TheVariants.{GetS, GetM}
use Rattle.protocol_tables.specs.declared.requests.Transient.{Transient}
use Rattle.protocol_tables.specs.declared.requests.Transient.TheVariants.{IsD, ImD, SmD}
use Rattle.snoop_bus.specs.declared.access.AccessKind.{AccessKind}
use Rattle.snoop_bus.specs.declared.access.AccessKind.TheVariants.{Hit, Upgrade, Miss}
use Rattle.order_builder.specs.PrintedOrder.{printed_entry}
use Rattle.trace_report.specs.Shown.{ShownStep}
use Rattle.trace_report.specs.declared.step.LineRequest.{LineRequest}
use Rattle.trace_report.specs.declared.step.LineState.{LineState}
use Rattle.trace_report.specs.declared.step.StateChange.{StateChange}
use Rattle.trace_report.specs.declared.step.LineState.TheVariants as state
use Rattle.trace_report.specs.declared.step.Given.{Given}
use Rattle.trace_report.specs.declared.step.Moved as move
use Rattle.trace_report.specs.declared.step.Moved.TheVariants.{One, Both}

-- ---- names
abbrev pub stall_name : Stall → List ℕ
stall_name Done = codes "Done"
stall_name Full = codes "Full"
stall_name Fence = codes "Fence"
stall_name Lock = codes "Lock"
stall_name Empty = codes "Empty"
stall_name Bus = codes "Bus"

abbrev pub outcome_name : Outcome → List ℕ
outcome_name Committed = codes "committed"
outcome_name Buffered = codes "buffered"
outcome_name Moved = codes "moved"
outcome_name Asked = codes "asked"
outcome_name (Stalled why) = codes "stalled " ++ stall_name why

abbrev pub access_name : AccessKind → List ℕ
access_name Hit = codes "hit"
access_name Upgrade = codes "upgrade"
access_name Miss = codes "miss"

abbrev pub request_name : Request → List ℕ
request_name GetS = codes "GetS"
request_name GetM = codes "GetM"

abbrev pub transient_name : Transient → List ℕ
transient_name IsD = codes "IS_D"
transient_name ImD = codes "IM_D"
transient_name SmD = codes "SM_D"

abbrev pub state_name : LineState → List ℕ
state_name (state.Stable s) = letter s
state_name (state.Transient x) = transient_name x

-- ---- a line of the caches, by the locations that it has: `x`, or `x+y`

-- each name after a `+`
abbrev pub after_plus : List (List ℕ) → List ℕ
after_plus [] = []
after_plus (name ∷ names) = codes "+" ++ (name ++ after_plus names)

abbrev pub joined_by_plus : List (List ℕ) → List ℕ
joined_by_plus [] = []
joined_by_plus (name ∷ names) = name ++ after_plus names

-- the names of the locations of a line of so many words, of which the last line may have fewer
abbrev pub names_in_line : List (List ℕ) → ℕ → ℕ → List (List ℕ)
names_in_line names words number = drop (number * words) (take (number * words + words) names)

abbrev pub line_name : Litmus → ℕ → ℕ → List ℕ
line_name t words number = joined_by_plus (names_in_line t.locations words number)

-- ---- the words of a line, each part after a space

-- ` P0:0 W x=1` for each entry
abbrev pub entries_text : Litmus → List Entry → List ℕ
entries_text t [] = []
entries_text t (e ∷ es) = codes " " ++ (printed_entry t e ++ entries_text t es)

-- `EAX=5`
abbrev pub printed_given : Given → List ℕ
printed_given g = name_of g.reg ++ (codes "=" ++ decimal g.value)

-- `EAX=5`, or `EAX=5 EBX=3` where two registers exchanged their values
abbrev pub printed_move : move.Moved → List ℕ
printed_move (One g) = printed_given g
printed_move (Both g h) = printed_given g ++ (codes " " ++ printed_given h)

-- ` EAX=5`
abbrev pub moved_text : Option move.Moved → List ℕ
moved_text None = []
moved_text (Some m) = codes " " ++ printed_move m

-- ` forwarded`
abbrev pub forwarded_text : Bool → List ℕ
forwarded_text false = []
forwarded_text true = codes " forwarded"

-- ` hit`
abbrev pub access_text : Option AccessKind → List ℕ
access_text None = []
access_text (Some kind) = codes " " ++ access_name kind

-- `GetS x`
abbrev pub printed_request : Litmus → ℕ → LineRequest → List ℕ
printed_request t words r = request_name r.request ++ (codes " " ++ line_name t words r.line)

-- ` GetS x`
abbrev pub request_text : Litmus → ℕ → Option LineRequest → List ℕ
request_text t words None = []
request_text t words (Some r) = codes " " ++ printed_request t words r

-- `P1`
abbrev pub printed_core : Core → List ℕ
printed_core core = codes "P" ++ decimal core.0

-- ` flush P1`
abbrev pub flush_text : Option Core → List ℕ
flush_text None = []
flush_text (Some core) = codes " flush " ++ printed_core core

-- ` write-back z`
abbrev pub write_back_text : Litmus → ℕ → Option ℕ → List ℕ
write_back_text t words None = []
write_back_text t words (Some number) = codes " write-back " ++ line_name t words number

-- ` S>I`
abbrev pub states_text : StateChange → List ℕ
states_text c = codes " " ++ (state_name c.before ++ (codes ">" ++ state_name c.after))

-- `P1.x S>I`
abbrev pub printed_change : Litmus → ℕ → StateChange → List ℕ
printed_change t words c = codes "P" ++ (decimal c.core.0 ++ (codes "." ++ (line_name t words c.line ++ states_text c)))

-- ` P1.x S>I`
abbrev pub change_text : Litmus → ℕ → StateChange → List ℕ
change_text t words c = codes " " ++ printed_change t words c

-- that of each
abbrev pub changes_text : Litmus → ℕ → List StateChange → List ℕ
changes_text t words [] = []
changes_text t words (c ∷ cs) = change_text t words c ++ changes_text t words cs

-- `x=1`, a pending store
abbrev pub store_text : Litmus → Entry → List ℕ
store_text t e = slice_index_or t.locations e.loc.0 [] ++ (codes "=" ++ decimal e.value)

-- ` y=2`, each after a space
abbrev pub later_stores : Litmus → List Entry → List ℕ
later_stores t [] = []
later_stores t (e ∷ es) = codes " " ++ (store_text t e ++ later_stores t es)

-- `x=1 y=2`, the oldest first
abbrev pub stores_text : Litmus → List Entry → List ℕ
stores_text t [] = []
stores_text t (e ∷ es) = store_text t e ++ later_stores t es

-- ` P0[x=1 y=2]`, or ` P0[]` where nothing is pending
abbrev pub buffer_text : Litmus → ℕ → Option (List Entry) → List ℕ
buffer_text t core None = []
buffer_text t core (Some stores) = codes " P" ++ (decimal core ++ (codes "[" ++ (stores_text t stores ++ codes "]")))

-- ---- the lines

-- what the choice did: to the order and the registers, by its access, on the bus, to the lines, and to the core's buffer
abbrev pub done_text : Litmus → ShownStep → List ℕ
done_text t s = entries_text t s.entries ++ (moved_text s.moved ++ (forwarded_text s.forwarded ++ access_text s.access))

abbrev pub bus_traffic_text : Litmus → ℕ → ShownStep → List ℕ
bus_traffic_text t words s = request_text t words s.request ++ (flush_text s.flushed ++ write_back_text t words s.wrote_back)

abbrev pub left_text : Litmus → ℕ → ShownStep → List ℕ
left_text t words s = changes_text t words s.changes ++ buffer_text t (chosen s.choice) s.buffer

-- `5 0d committed`
abbrev pub outcome_text : ℕ → Choice → Outcome → List ℕ
outcome_text number choice outcome =
    decimal number ++ (codes " " ++ (printed_choice choice ++ (codes " " ++ outcome_name outcome)))

-- `5 0d committed P0:0 W x=1 miss GetM x P0.x I>M P1.x S>I P0[]`
abbrev pub trace_step_line : Litmus → ℕ → ℕ → ShownStep → List ℕ
trace_step_line t words number s =
    outcome_text number s.choice s.outcome ++ (done_text t s ++ (bus_traffic_text t words s ++ line (left_text t words s)))

-- a line for each step, from this number on
abbrev pub step_lines : Litmus → ℕ → ℕ → List ShownStep → List ℕ
step_lines t words number [] = []
step_lines t words number (s ∷ ss) = trace_step_line t words number s ++ step_lines t words (number + 1) ss

-- `Endtrace 6`
abbrev pub end_line : ℕ → List ℕ
end_line count = codes "Endtrace " ++ line (decimal count)

-- the trace of these steps, on caches whose lines have so many words: `Trace`, a line for each step, `Endtrace N`
abbrev pub trace_text : Litmus → ℕ → List ShownStep → List ℕ
trace_text t words steps = line (codes "Trace") ++ (step_lines t words 1 steps ++ end_line (length steps))
