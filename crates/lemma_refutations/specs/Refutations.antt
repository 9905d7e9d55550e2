-- Refutations: why no candidate that a model allows makes a proposition true. A refutation is a tree, written from its root on,
-- each node before its branches and the first branch first. A question is a node with a branch for each answer that is possible;
-- where none is, it is a leaf. The other leaves say why no allowed candidate meets the facts on the way to them. Before the tree
-- stand lemmas: facts that no allowed candidate meets together, each with a tree of its own.
use Rattle.std.specs.Prelude.{ℕ, ◌==◌, ◌&&◌, ◌||◌, Bool, true, false, not, if◌then◌else◌, List, [], ◌∷◌, ◌++◌, map, filter, Option, Some, None, slice_get}
use Rattle.std.specs.List.{list_any, list_all}
use Rattle.tso_terms.specs.Litmus.{Litmus}
use Rattle.tso_terms.specs.Condition.{Claim, TruthClaim, RegClaim, LocClaim, NotClaim, AndClaim, OrClaim}
use Rattle.tso_terms.specs.ProgramOrder.{is_read, is_write, writes_to, same_kind}
use Rattle.basic_laws.specs.Types.{Entry, LR, LW}
use Rattle.refutation_laws.specs.Known.{events_of, same_event, is_event}
use Rattle.refutation_laws.specs.Edges.{on_location, global_in, is_cycle}
use Rattle.refutation_laws.specs.declared.model.Model.{Model}
use Rattle.possible_reads.specs.Expressions.{register_left}
use Rattle.possible_reads.specs.Facts.{Fact, From, Before, Last, Returns, Holds, given_by, cases_of}
use Rattle.possible_reads.specs.Possible.{Values, same_number, can_be, same_source, values_of, values_read, sources_read, reads_it}
use Rattle.possible_reads.specs.Possible.{readings, is_last, last_writes, comes_before, words_left}
use Rattle.lemma_refutations.specs.Edges.{Knowledge, is_edge, is_between}

-- what these facts tell
abbrev pub known_from : Litmus → List Fact → Knowledge
known_from t facts = record { facts = facts; readings = readings t facts }

-- ---- a proposition

-- it can have this truth, as far as the facts tell the final state
abbrev pub allows : Litmus → Knowledge → Claim → Bool → Bool
allows t k (TruthClaim value) truth = if truth then value else not value
allows t k (RegClaim core reg value) truth = can_be (values_of (values_read k.readings) (register_left t core reg)) (same_number truth value)
allows t k (LocClaim loc value) truth = can_be (words_left t k.facts k.readings loc) (same_number truth value)
allows t k (NotClaim inner) truth = allows t k inner (not truth)
allows t k (AndClaim left right) truth =
    if truth then allows t k left true && allows t k right true else allows t k left false || allows t k right false
allows t k (OrClaim left right) truth =
    if truth then allows t k left true || allows t k right true else allows t k left false && allows t k right false

-- ---- nodes

pub data Node : Type 0 where
  -- questions: what does this read read from? What does it return?
  ReadsFrom : (read : Entry) → Node
  ReadsValue : (read : Entry) → Node
  -- is this so?
  Asks : (fact : Fact) → Node
  -- which load part of a locked instruction reads this word, the initial one or that of a write; or is that write the last one?
  -- (Where locked instructions alone write to the location.)
  IsReadBy : (loc : ℕ) → (write : Option Entry) → Node
  -- which write to this location is the last?
  ComesLast : (loc : ℕ) → Node
  -- which part of this fact, a disjunction, is true?
  HasCase : (fact : ℕ) → Node
  -- leaves: a cycle of uniproc; a cycle of the model's global relation; a write between the two parts of a locked instruction
  OnLocation : (cycle : List Entry) → Node
  Globally : (cycle : List Entry) → Node
  Between : (read between write : Entry) → Node
  -- a leaf: what is asked, or a part of it that is given, is false, whatever is still open
  FalseClaim : Node
  -- a leaf: the facts of this lemma are met
  ByLemma : (lemma : ℕ) → Node

-- facts that no allowed candidate meets together with what is asked, and a tree that shows it
pub record Lemma : Type 0 where
  pub facts : List Fact
  pub tree : List Node

-- ---- where a node may stand

-- only locked instructions write to the location, and one does
abbrev pub is_written_locked : Litmus → ℕ → Bool
is_written_locked t loc =
    list_any (writes_to loc) (events_of t)
    && list_all (λ (e : Entry). if writes_to loc e then same_kind e.kind LW else true) (events_of t)

-- a part of what is asked, which the fact gives, can't be so
abbrev pub is_impossible : Litmus → Knowledge → Fact → Bool
is_impossible t k (Holds claim truth) = not (allows t k claim truth)
is_impossible t k _ = false

-- whatever is still open, this fact is met
abbrev pub is_known : Litmus → Knowledge → Fact → Bool
is_known t k (From read write true) = is_read read && reads_it t k.readings write read
is_known t k (From read write false) = is_read read && not (list_any (same_source write) (sources_read t k.readings read))
is_known t k (Before first second) = is_write first && comes_before t k.facts k.readings first second
is_known t k (Last write true) = is_event t write && is_write write && is_last t k.facts k.readings write
is_known t k (Last write false) = not (list_any (same_event write) (last_writes t k.facts k.readings write.loc.0))
is_known t k (Returns read value truth) = is_read read && not (can_be (values_read k.readings read) (same_number (not truth) value))
is_known t k (Holds claim truth) = not (allows t k claim (not truth))

-- there is such a lemma, and its facts are met
abbrev pub applies : Litmus → Knowledge → Option Lemma → Bool
applies t k None = false
applies t k (Some lemma) = list_all (is_known t k) lemma.facts

abbrev pub are_values : Values → Bool
are_values None = false
are_values (Some values) = true

abbrev pub is_case : Option Fact → Bool
is_case (Some (Holds claim truth)) = true
is_case _ = false

-- the initial write, or one to this location
abbrev pub is_source_at : Litmus → ℕ → Option Entry → Bool
is_source_at t loc None = true
is_source_at t loc (Some w) = is_event t w && writes_to loc w

-- it speaks of events of the test: of a read, of two writes to a location, or of a write
abbrev pub may_be_asked : Litmus → Fact → Bool
may_be_asked t (From read write truth) = is_event t read && is_read read
may_be_asked t (Before w v) = is_event t w && is_event t v && is_write w && writes_to w.loc.0 v && not (same_event w v)
may_be_asked t (Last write truth) = is_event t write && is_write write
may_be_asked t (Returns read value truth) = is_event t read && is_read read
may_be_asked t (Holds claim truth) = true

-- whether a node may be in a branch, below these lemmas
abbrev pub is_node : Model → Litmus → List Lemma → Knowledge → Node → Bool
is_node model t lemmas k (ReadsFrom r) = is_event t r && is_read r
is_node model t lemmas k (ReadsValue r) = is_event t r && is_read r && are_values (values_read k.readings r)
is_node model t lemmas k (Asks fact) = may_be_asked t fact
is_node model t lemmas k (IsReadBy loc word) = is_written_locked t loc && is_source_at t loc word
is_node model t lemmas k (ComesLast loc) = list_any (writes_to loc) (events_of t)
is_node model t lemmas k (HasCase fact) = is_case (slice_get k.facts fact)
is_node model t lemmas k (OnLocation cycle) = is_cycle t (is_edge t k on_location) cycle
is_node model t lemmas k (Globally cycle) = is_cycle t (is_edge t k (global_in model)) cycle
is_node model t lemmas k (Between r v w) = is_between t k r v w
is_node model t lemmas k FalseClaim = list_any (is_impossible t k) k.facts
is_node model t lemmas k (ByLemma lemma) = applies t k (slice_get lemmas lemma)

-- ---- its branches

-- what is so where the fact isn't
abbrev pub opposite : Fact → Fact
opposite (From read write truth) = From read write (not truth)
opposite (Before first second) = Before second first
opposite (Last write truth) = Last write (not truth)
opposite (Returns read value truth) = Returns read value (not truth)
opposite (Holds claim truth) = Holds claim (not truth)

-- the load parts of locked instructions of the location that can read from this
abbrev pub locked_readers : Litmus → Knowledge → ℕ → Option Entry → List Entry
locked_readers t k loc word =
    filter (λ (r : Entry). same_kind r.kind LR && (r.loc.0 == loc) && list_any (same_source word) (sources_read t k.readings r)) (events_of t)

-- the case that nothing reads the word of this write, since it is the last one
abbrev pub unread : Litmus → Knowledge → ℕ → Option Entry → List (List Fact)
unread t k loc None = []
unread t k loc (Some w) = if list_any (same_event w) (last_writes t k.facts k.readings loc) then (Last w true ∷ []) ∷ [] else []

abbrev pub answers_of_values : Entry → Values → List (List Fact)
answers_of_values r None = []
answers_of_values r (Some values) = map (λ v. Returns r v true ∷ []) values

abbrev pub answers_of_cases : Litmus → Option Fact → List (List Fact)
answers_of_cases t (Some (Holds claim truth)) = cases_of t claim truth
answers_of_cases t _ = []

-- the answers to a question, each as the facts that it gives; a leaf has none
abbrev pub answers : Litmus → Knowledge → Node → List (List Fact)
answers t k (ReadsFrom r) = map (λ source. From r source true ∷ []) (sources_read t k.readings r)
answers t k (ReadsValue r) = answers_of_values r (values_read k.readings r)
answers t k (Asks fact) = (fact ∷ []) ∷ ((opposite fact ∷ []) ∷ [])
answers t k (IsReadBy loc word) = map (λ r. From r word true ∷ []) (locked_readers t k loc word) ++ unread t k loc word
answers t k (ComesLast loc) = map (λ w. Last w true ∷ []) (last_writes t k.facts k.readings loc)
answers t k (HasCase fact) = answers_of_cases t (slice_get k.facts fact)
answers t k _ = []

-- ---- trees

-- whether the nodes are a tree for each of these branches, one after the other, each told by its facts
abbrev pub close : Model → Litmus → List Lemma → List (List Fact) → List Node → Bool
close model t lemmas [] [] = true
close model t lemmas [] (n ∷ ns) = false
close model t lemmas (facts ∷ rest) [] = false
close model t lemmas (facts ∷ rest) (n ∷ ns) =
    is_node model t lemmas (known_from t facts) n
    && close model t lemmas (map (λ answer. answer ++ facts) (answers t (known_from t facts) n) ++ rest) ns

-- whether each of these lemmas holds by those before it, where these are shown already
abbrev pub hold : Model → Litmus → List Fact → List Lemma → List Lemma → Bool
hold model t given shown [] = true
hold model t given shown (lemma ∷ rest) =
    close model t shown ((lemma.facts ++ given) ∷ []) lemma.tree && hold model t given (shown ++ (lemma ∷ [])) rest

-- whether these lemmas and nodes refute the proposition
abbrev pub refutes : Model → Litmus → Claim → List Lemma → List Node → Bool
refutes model t claim lemmas nodes =
    hold model t (given_by t claim true) [] lemmas && close model t lemmas (given_by t claim true ∷ []) nodes
