-- What a request leaves in each cache that sees it: after GetM no other cache has the line, after GetS none may write it in
-- place. (Primer, chapters 6 and 7.)
use Rattle.std.specs.Prelude.{◌≡◌, ℕ, Bool, not, ◌&&◌, nat_eq, nat_lt, if◌then◌else◌, List, Option, Some, None}
use Rattle.snoop_bus.specs.Vocabulary.{Contents, copy_with, E, I, Line, M, O, S, Snoop, State, with_changed, with_state}
use Rattle.snoop_bus.specs.Vocabulary.{without}
use Rattle.cache_set.specs.Lines.{Words}
use Rattle.cache_set.specs.Copies.{Sets, in_set, copy_in, copy_at, cache_of}

-- a set once its copy of a line went to this state: in I it leaves
abbrev pub with_next_state : ℕ → State → Contents → Contents
with_next_state line I s = without line s
with_next_state line S s = with_changed (with_state S) line s
with_next_state line E s = with_changed (with_state E) line s
with_next_state line O s = with_changed (with_state O) line s
with_next_state line M s = with_changed (with_state M) line s

abbrev pub after_request_in : (State → Snoop) → ℕ → Option Line → Sets → Sets
after_request_in on_request line None sets = sets
after_request_in on_request line (Some copy) sets = in_set line (with_next_state line (on_request copy.state).next) sets

-- a core's sets once it saw another's request for a line
abbrev pub after_request : (State → Snoop) → ℕ → Sets → Sets
after_request on_request line sets = after_request_in on_request line (copy_in sets line) sets

-- a copy in this state, and none in I
abbrev pub copy_if : State → Words → Option Line
copy_if I words = None
copy_if S words = Some (copy_with S words)
copy_if E words = Some (copy_with E words)
copy_if O words = Some (copy_with O words)
copy_if M words = Some (copy_with M words)

-- what another's request leaves of a copy
abbrev pub copy_left_by : (State → Snoop) → Option Line → Option Line
copy_left_by on_request None = None
copy_left_by on_request (Some copy) = copy_if (on_request copy.state).next copy.words

-- a core's sets, and a copy, where the core has seen the request, or hasn't
abbrev pub after_request_if : Bool → (State → Snoop) → ℕ → Sets → Sets
after_request_if has_seen on_request line sets = if has_seen then after_request on_request line sets else sets

abbrev pub copy_left_if : Bool → (State → Snoop) → Option Line → Option Line
copy_left_if has_seen on_request copy = if has_seen then copy_left_by on_request copy else copy

-- one cache has seen the request, unless it is the one of the core that made it; and the copies then
abbrev pub SeenAt : ℕ → (State → Snoop) → ℕ → ℕ → List Sets → List Sets → Type 0
SeenAt other on_request core line old new =
    (i : ℕ) → cache_of new i ≡ after_request_if (nat_eq i other && not (nat_eq i core)) on_request line (cache_of old i)

abbrev pub LeftAt : ℕ → (State → Snoop) → ℕ → ℕ → List Sets → List Sets → Type 0
LeftAt other on_request core line old new =
    (i k : ℕ) → copy_at new i k ≡ copy_left_if (nat_eq i other && (not (nat_eq i core) && nat_eq k line)) on_request (copy_at old i k)

-- every cache below this number has seen the request, but for the one that made it; and the copies then
abbrev pub SeenBelow : ℕ → (State → Snoop) → ℕ → ℕ → List Sets → List Sets → Type 0
SeenBelow upto on_request core line old new =
    (i : ℕ) → cache_of new i ≡ after_request_if (nat_lt i upto && not (nat_eq i core)) on_request line (cache_of old i)

abbrev pub LeftBelow : ℕ → (State → Snoop) → ℕ → ℕ → List Sets → List Sets → Type 0
LeftBelow upto on_request core line old new =
    (i k : ℕ) → copy_at new i k ≡ copy_left_if (nat_lt i upto && (not (nat_eq i core) && nat_eq k line)) on_request (copy_at old i k)

-- the copies once every cache but one has seen a request for a line
abbrev pub LeftByOthers : (State → Snoop) → ℕ → ℕ → List Sets → List Sets → Type 0
LeftByOthers on_request core line old new =
    (i k : ℕ) → copy_at new i k ≡ copy_left_if (not (nat_eq i core) && nat_eq k line) on_request (copy_at old i k)

-- one core's copy of one line is this one now, and all others are as they were
abbrev pub ChangesCopy : ℕ → ℕ → Option Line → List Sets → List Sets → Type 0
ChangesCopy core line copy old new =
    (i k : ℕ) → copy_at new i k ≡ (if nat_eq i core && nat_eq k line then copy else copy_at old i k)
