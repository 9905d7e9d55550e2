-- What each read can read from and return, as far as facts tell: sources and values that they leave possible. They are told in rounds;
-- each round goes by what the round before left, so a reader follows it as one does at the board, one read after the other.
use Rattle.std.specs.Prelude.{ℕ, zero, suc, ◌+◌, ◌-◌, ◌^◌, min, ◌==◌, ◌&&◌, ◌||◌, nat_lt, Bool, true, false, not, if◌then◌else◌, List, []}
use Rattle.std.specs.Prelude.{◌∷◌, map, filter, length, Option, Some, None, slice_index}
use Rattle.std.specs.List.{list_any, list_all}
use Rattle.tso_terms.specs.Litmus.{Litmus}
use Rattle.tso_terms.specs.Thread.{entry, sum_of, difference_of, combined}
use Rattle.tso_terms.specs.Condition.{LocClaim}
use Rattle.tso_terms.specs.ProgramOrder.{is_before, is_read, writes_to, same_kind}
use Rattle.basic_laws.specs.Types.{Entry, LR, LW, Operator, Add, Subtract}
use Rattle.refutation_laws.specs.Known.{events_of, same_event}
use Rattle.refutation_laws.specs.Refutations.{sources_of}
use Rattle.possible_reads.specs.Expressions.{Expression, Constant, Returned, Combined, Negated, Exchanged, expression_of}
use Rattle.possible_reads.specs.Facts.{Fact, From, Before, Last, Returns, Holds}

-- ---- values

-- none: any value
abbrev pub Values : Type 0
Values = Option (List ℕ)

abbrev pub is_among : List ℕ → ℕ → Bool
is_among values value = list_any (λ v. v == value) values

-- more than 64 values are told as any value
abbrev pub at_most_64 : List ℕ → Values
at_most_64 values = if nat_lt 64 (length values) then None else Some values

abbrev pub union : List ℕ → List ℕ → List ℕ
union [] values = values
union (v ∷ vs) values = if is_among (union vs values) v then union vs values else v ∷ union vs values

abbrev pub either_of : Values → Values → Values
either_of (Some us) (Some vs) = at_most_64 (union us vs)
either_of _ _ = None

abbrev pub both_of : Values → Values → Values
both_of None vs = vs
both_of us None = us
both_of (Some us) (Some vs) = Some (filter (is_among vs) us)

-- one of all of these
abbrev pub any_of : List Values → Values
any_of [] = Some []
any_of (vs ∷ rest) = either_of vs (any_of rest)

-- a number can be one of these
abbrev pub can_be : Values → (ℕ → Bool) → Bool
can_be None test = true
can_be (Some values) test = list_any test values

abbrev pub same_number : Bool → ℕ → ℕ → Bool
same_number truth value v = if truth then v == value else not (v == value)

abbrev pub combined_values : Operator → Values → Values → Values
combined_values operator (Some us) (Some vs) = any_of (map (λ u. at_most_64 (map (combined operator u) vs)) us)
combined_values operator _ _ = None

abbrev pub negated_values : Values → Values
negated_values None = None
negated_values (Some vs) = Some (map (difference_of 0) vs)

abbrev pub only_where : Bool → Values → Values
only_where test vs = if test then vs else Some []

-- what a compare and exchange makes of this word: a new value, where EAX can hold the word; the word, where EAX can hold another one
abbrev pub exchanged_word : Values → Values → ℕ → Values
exchanged_word eax new word =
    either_of (only_where (can_be eax (same_number true word)) new) (only_where (can_be eax (same_number false word)) (Some (word ∷ [])))

abbrev pub exchanged_values : Values → Values → Values → Values
exchanged_values None eax new = None
exchanged_values (Some words) eax new = any_of (map (exchanged_word eax new) words)

-- what an expression can be, where this is what each read can return
abbrev pub values_of : (Entry → Values) → Expression → Values
values_of reads (Constant value) = Some (value ∷ [])
values_of reads (Returned read) = reads read
values_of reads (Combined operator left right) = combined_values operator (values_of reads left) (values_of reads right)
values_of reads (Negated inner) = negated_values (values_of reads inner)
values_of reads (Exchanged word eax new) = exchanged_values (values_of reads word) (values_of reads eax) (values_of reads new)

-- ---- what a round leaves

-- a read, what it can read from, what it can return, and the least of that
pub record Reading : Type 0 where
  pub read : Entry
  pub sources : List (Option Entry)
  pub values : Values
  pub least : ℕ

abbrev pub values_read : List Reading → Entry → Values
values_read [] read = None
values_read (x ∷ xs) read = if same_event x.read read then x.values else values_read xs read

abbrev pub sources_read : Litmus → List Reading → Entry → List (Option Entry)
sources_read t [] read = sources_of t read
sources_read t (x ∷ xs) read = if same_event x.read read then x.sources else sources_read t xs read

-- 0 where nothing is known
abbrev pub least_read : List Reading → Entry → ℕ
least_read [] read = 0
least_read (x ∷ xs) read = if same_event x.read read then x.least else least_read xs read

abbrev pub same_source : Option Entry → Option Entry → Bool
same_source None None = true
same_source (Some w) (Some v) = same_event w v
same_source _ _ = false

-- it is known to read from this
abbrev pub reads_it : Litmus → List Reading → Option Entry → Entry → Bool
reads_it t table source read = list_all (same_source source) (sources_read t table read)

-- what a write can write
abbrev pub values_written : Litmus → List Reading → Entry → Values
values_written t table write = values_of (values_read table) (expression_of t write)

-- what a read can return from this
abbrev pub values_from : Litmus → List Reading → Entry → Option Entry → Values
values_from t table read None = Some (slice_index t.words read.loc.0 ∷ [])
values_from t table read (Some write) = values_written t table write

-- ---- locked additions and subtractions of numbers

-- the load part of the locked instruction whose store part this is
abbrev pub load_part_of : Entry → Entry
load_part_of write = entry write.core.0 write.place LR write.loc 0

-- the number that is added to what this read returns, modulo 2^32
abbrev pub addend_in : Entry → Expression → Option ℕ
addend_in own (Combined Add (Returned read) (Constant number)) = if same_event read own then Some number else None
addend_in own (Combined Subtract (Returned read) (Constant number)) = if same_event read own then Some (difference_of 0 number) else None
addend_in own _ = None

abbrev pub addend_or_none : Option ℕ → ℕ
addend_or_none None = 0
addend_or_none (Some addend) = addend

-- ---- the least that is written: whoever adds 2 leaves at least 2, where nothing wraps

-- the number that a write writes, or that a locked addition adds; none: it does something else
abbrev pub amount_in : Entry → Expression → Option ℕ
amount_in write (Constant number) = Some number
amount_in write sum = if same_kind write.kind LW then addend_in (load_part_of write) sum else None

abbrev pub amount_of : Litmus → Entry → Option ℕ
amount_of t write = amount_in write (expression_of t write)

-- the number is there, and less than 2^32 together with this sum
abbrev pub can_add : ℕ → Option ℕ → Bool
can_add sum None = false
can_add sum (Some number) = nat_lt (sum + number) (2 ^ 32)

-- so are those of all these writes together
abbrev pub can_add_all : Litmus → ℕ → List Entry → Bool
can_add_all t sum [] = true
can_add_all t sum (w ∷ ws) = can_add sum (amount_of t w) && can_add_all t (sum + addend_or_none (amount_of t w)) ws

-- All that writes to this location does is to set numbers and to add them, and all of these and its first word are less than 2^32
-- together.
abbrev pub never_wraps : Litmus → ℕ → Bool
never_wraps t loc = can_add_all t (slice_index t.words loc) (filter (writes_to loc) (events_of t))

-- A sum that a word can't hold comes only of facts that no candidate meets; it is told as the greatest word.
abbrev pub least_sum : ℕ → ℕ → ℕ
least_sum least number = min (least + number) (2 ^ 32 - 1)

abbrev pub least_by : List Reading → Entry → Expression → ℕ
least_by table write (Constant number) = number
least_by table write sum = least_sum (least_read table (load_part_of write)) (addend_or_none (addend_in (load_part_of write) sum))

-- the least that a write can write; 0 where nothing is known
abbrev pub least_written : Litmus → List Reading → Entry → ℕ
least_written t table write = if never_wraps t write.loc.0 then least_by table write (expression_of t write) else 0

-- the least that a read can return from this
abbrev pub least_from : Litmus → List Reading → Entry → Option Entry → ℕ
least_from t table read None = slice_index t.words read.loc.0
least_from t table read (Some write) = least_written t table write

abbrev pub smallest_with : ℕ → List ℕ → ℕ
smallest_with least [] = least
smallest_with least (n ∷ ns) = smallest_with (min n least) ns

-- 0 where there is none
abbrev pub smallest : List ℕ → ℕ
smallest [] = 0
smallest (n ∷ ns) = smallest_with n ns

-- ---- the last write to a location

abbrev pub fits_word : ℕ → ℕ → Fact → Bool
fits_word loc word (Holds (LocClaim l value) truth) = if l == loc then same_number truth value word else true
fits_word loc word _ = true

-- as far as facts tell, the location can hold this at the end
abbrev pub may_be_left : List Fact → ℕ → ℕ → Bool
may_be_left facts loc word = list_all (fits_word loc word) facts

-- a fact says that less is left there
abbrev pub leaves_less : ℕ → ℕ → Fact → Bool
leaves_less loc least (Holds (LocClaim l value) true) = (l == loc) && nat_lt value least
leaves_less loc least _ = false

-- as far as facts tell, one of these values can be left there; where they are any, no less than the least
abbrev pub can_be_left : List Fact → ℕ → Values → ℕ → Bool
can_be_left facts loc None least = not (list_any (leaves_less loc least) facts)
can_be_left facts loc (Some values) least = list_any (may_be_left facts loc) values

abbrev pub fits_last : ℕ → Entry → Fact → Bool
fits_last loc w (Last v true) = if v.loc.0 == loc then same_event v w else true
fits_last loc w (Last v false) = not (same_event v w)
fits_last loc w _ = true

abbrev pub is_told_before : Entry → Entry → Fact → Bool
is_told_before w v (Before first second) = same_event first w && same_event second v
is_told_before w v _ = false

-- an answer, or their program, puts this write before another one to its location
abbrev pub is_put_before : List Fact → Entry → Entry → Bool
is_put_before facts w v = list_any (is_told_before w v) facts || (is_before w v && writes_to w.loc.0 v)

abbrev pub can_be_last : Litmus → List Fact → List Reading → ℕ → Entry → Bool
can_be_last t facts table loc w =
    writes_to loc w && list_all (fits_last loc w) facts && not (list_any (is_put_before facts w) (events_of t))
    && can_be_left facts loc (values_written t table w) (least_written t table w)

-- the writes that can be the last one to a location
abbrev pub last_writes : Litmus → List Fact → List Reading → ℕ → List Entry
last_writes t facts table loc = filter (can_be_last t facts table loc) (events_of t)

-- it is known to be the last one to its location
abbrev pub is_last : Litmus → List Fact → List Reading → Entry → Bool
is_last t facts table v = list_all (same_event v) (last_writes t facts table v.loc.0)

-- co: w is known to be before v
abbrev pub comes_before : Litmus → List Fact → List Reading → Entry → Entry → Bool
comes_before t facts table w v =
    is_put_before facts w v || (writes_to w.loc.0 v && not (same_event w v) && is_last t facts table v)

-- ---- counters: all writes to the location are locked additions and subtractions of numbers

abbrev pub addend_of : Litmus → Entry → ℕ
addend_of t write = addend_or_none (addend_in (load_part_of write) (expression_of t write))

abbrev pub is_addition : Option ℕ → Bool
is_addition None = false
is_addition (Some addend) = true

abbrev pub adds_alone : Litmus → ℕ → Entry → Bool
adds_alone t loc e = if writes_to loc e then same_kind e.kind LW && is_addition (addend_in (load_part_of e) (expression_of t e)) else true

abbrev pub is_counter : Litmus → ℕ → Bool
is_counter t loc = list_any (writes_to loc) (events_of t) && list_all (adds_alone t loc) (events_of t)

-- the word after these additions
abbrev pub word_after : Litmus → List Entry → ℕ → ℕ
word_after t [] word = word
word_after t (w ∷ ws) word = word_after t ws (sum_of word (addend_of t w))

-- the last word of a counter
abbrev pub counted : Litmus → ℕ → ℕ
counted t loc = word_after t (filter (writes_to loc) (events_of t)) (slice_index t.words loc)

-- the store part of the locked instruction whose load part this is
abbrev pub store_part : Entry → Entry
store_part read = entry read.core.0 read.place LW read.loc 0

-- An addition that comes before this one adds its number to what this one finds; this one itself, and one that comes after it, don't;
-- another one may or may not.
abbrev pub added : Litmus → List Fact → List Reading → Entry → Entry → Values → Values
added t facts table own w words =
    if same_event w own || comes_before t facts table own w then words
    else if comes_before t facts table w own then combined_values Add words (Some (addend_of t w ∷ []))
    else either_of words (combined_values Add words (Some (addend_of t w ∷ [])))

abbrev pub added_up : Litmus → List Fact → List Reading → Entry → List Entry → Values → Values
added_up t facts table own [] words = words
added_up t facts table own (w ∷ ws) words = added_up t facts table own ws (added t facts table own w words)

-- what the load part of a locked addition to a counter can return
abbrev pub counts : Litmus → List Fact → List Reading → Entry → Values
counts t facts table read =
    if same_kind read.kind LR && is_counter t read.loc.0
    then added_up t facts table (store_part read) (filter (writes_to read.loc.0) (events_of t)) (Some (slice_index t.words read.loc.0 ∷ []))
    else None

-- ---- one round

abbrev pub fits_value : Entry → ℕ → Fact → Bool
fits_value read value (Returns r v truth) = if same_event r read then same_number truth v value else true
fits_value read value _ = true

abbrev pub may_return : List Fact → Entry → ℕ → Bool
may_return facts read value = list_all (fits_value read value) facts

-- the value that a fact says of this read
abbrev pub told_value : List Fact → Entry → Values
told_value [] read = None
told_value (Returns r value true ∷ facts) read = if same_event r read then Some (value ∷ []) else told_value facts read
told_value (_ ∷ facts) read = told_value facts read

abbrev pub fits_source : Entry → Option Entry → Fact → Bool
fits_source read source (From r write truth) =
    if same_event r read then (if truth then same_source write source else not (same_source write source)) else true
fits_source read source _ = true

-- a fact says that the read returns less
abbrev pub returns_less : Entry → ℕ → Fact → Bool
returns_less read least (Returns r value true) = same_event r read && nat_lt value least
returns_less read least _ = false

-- By program order: a read doesn't read from a later write of its own core, nor from what an earlier one of its own core has
-- overwritten.
abbrev pub is_in_order : Litmus → Entry → Option Entry → Bool
is_in_order t read None = not (list_any (λ w. writes_to read.loc.0 w && is_before w read) (events_of t))
is_in_order t read (Some w) =
    not (is_before read w) && not (list_any (λ v. writes_to read.loc.0 v && is_before w v && is_before v read) (events_of t))

-- this is the reading of another load part of the location, and all that it can read from is this
abbrev pub takes : Entry → Option Entry → Reading → Bool
takes read source x =
    same_kind x.read.kind LR && (x.read.loc.0 == read.loc.0) && not (same_event x.read read) && list_all (same_source source) x.sources

-- two load parts of locked instructions of a location don't read from one source
abbrev pub is_taken : List Reading → Entry → Option Entry → Bool
is_taken table read source = same_kind read.kind LR && list_any (takes read source) table

abbrev pub can_read_from : Litmus → List Fact → List Reading → Entry → Option Entry → Bool
can_read_from t facts table read source =
    list_all (fits_source read source) facts
    && is_in_order t read source
    && not (is_taken table read source)
    && can_be (values_from t table read source) (may_return facts read)
    && not (list_any (returns_less read (least_from t table read source)) facts)

-- the sources that the round before left, and that can still be
abbrev pub sources_after : Litmus → List Fact → List Reading → Entry → List (Option Entry)
sources_after t facts table read = filter (can_read_from t facts table read) (sources_read t table read)

-- what it can return from one of these, and by the facts, and by counting
abbrev pub values_after : Litmus → List Fact → List Reading → Entry → List (Option Entry) → Values
values_after t facts table read sources =
    both_of (any_of (map (values_from t table read) sources)) (both_of (told_value facts read) (counts t facts table read))

abbrev pub kept : (ℕ → Bool) → Values → Values
kept test None = None
kept test (Some values) = Some (filter test values)

-- the least of its values, else of what it can return from its sources
abbrev pub least_after : Litmus → List Reading → Entry → List (Option Entry) → Values → ℕ
least_after t table read sources (Some values) = smallest values
least_after t table read sources None = smallest (map (least_from t table read) sources)

-- what these sources leave a read
abbrev pub reading_from : Litmus → List Fact → List Reading → Entry → List (Option Entry) → Reading
reading_from t facts table read sources = record {
  read = read;
  sources = sources;
  values = kept (may_return facts read) (values_after t facts table read sources);
  least = least_after t table read sources (kept (may_return facts read) (values_after t facts table read sources));
}

abbrev pub reading_after : Litmus → List Fact → List Reading → Entry → Reading
reading_after t facts table read = reading_from t facts table read (sources_after t facts table read)

-- the readings after so many rounds
abbrev pub readings_after : Litmus → List Fact → ℕ → List Reading
readings_after t facts zero = []
readings_after t facts (suc rounds) =
    map (reading_after t facts (readings_after t facts rounds)) (filter is_read (events_of t))

-- As many rounds as there are events: a value that goes from read to write and on passes each event at most once.
abbrev pub readings : Litmus → List Fact → List Reading
readings t facts = readings_after t facts (length (events_of t))

-- ---- the final state

-- the word that a fact says of this location
abbrev pub told_word : List Fact → ℕ → Values
told_word [] loc = None
told_word (Holds (LocClaim l value) true ∷ facts) loc = if l == loc then Some (value ∷ []) else told_word facts loc
told_word (_ ∷ facts) loc = told_word facts loc

-- what its last write can leave there, which adds up where it is a counter; its first word, where nothing writes to it
abbrev pub last_words : Litmus → List Fact → List Reading → ℕ → Values
last_words t facts table loc =
    if is_counter t loc then Some (counted t loc ∷ [])
    else if list_any (writes_to loc) (events_of t) then any_of (map (values_written t table) (last_writes t facts table loc))
    else Some (slice_index t.words loc ∷ [])

-- what a location can hold at the end
abbrev pub words_left : Litmus → List Fact → List Reading → ℕ → Values
words_left t facts table loc = kept (may_be_left facts loc) (both_of (told_word facts loc) (last_words t facts table loc))
