-- Refutations: why no candidate that a model allows makes a proposition true. A refutation is a tree, written from its root on,
-- each node before its branches and the first branch first. A question is a node with a branch for each answer that a candidate
-- may give; a leaf says why no allowed candidate gives the answers on the way to it and makes the proposition true.
use Rattle.std.specs.Prelude.{◌&&◌, Bool, true, false, not, List, [], ◌∷◌, ◌++◌, map, filter, Option, Some, None}
use Rattle.tso_terms.specs.Litmus.{Litmus}
use Rattle.tso_terms.specs.Condition.{Claim, TruthClaim, NotClaim, Condition}
use Rattle.tso_terms.specs.ProgramOrder.{is_read, is_write, writes_to}
use Rattle.basic_laws.specs.Types.{Quantifier, Exists, NotExists, Forall, Entry}
use Rattle.refutation_laws.specs.Known.{Known, events_of, same_event, is_event, nothing, with_source, with_pair}
use Rattle.refutation_laws.specs.Edges.{is_edge, on_location, global_in, is_cycle, is_between}
use Rattle.refutation_laws.specs.Values.{allows}
use Rattle.refutation_laws.specs.declared.model.Model.{Model}

-- What a test asks: whether this can be true. Of `forall` it is that its proposition is false; without a condition, whether there
-- is an execution at all.
abbrev pub asked_by : Quantifier → Claim → Claim
asked_by Exists claim = claim
asked_by NotExists claim = claim
asked_by Forall claim = NotClaim claim

abbrev pub asked_claim : Option Condition → Claim
asked_claim None = TruthClaim true
asked_claim (Some c) = asked_by c.quantifier c.claim

pub data Node : Type 0 where
  -- a question: which write does this read read from? The initial one, or one to its location, as they are among the events
  ReadsFrom : (read : Entry) → Node
  -- a question: which of these two writes to a location comes first? The one named first, or the other
  ComesFirst : (first second : Entry) → Node
  -- leaves: a cycle of uniproc; a cycle of the model's global relation; a write between the two parts of a locked instruction
  OnLocation : (cycle : List Entry) → Node
  Globally : (cycle : List Entry) → Node
  Between : (read between write : Entry) → Node
  -- a leaf: the proposition is false, whatever is still open
  FalseClaim : Node

abbrev pub sources_of : Litmus → Entry → List (Option Entry)
sources_of t r = None ∷ map (λ w. Some w) (filter (writes_to r.loc.0) (events_of t))

-- whether a node may be where these answers are given
abbrev pub is_node : Model → Litmus → Claim → Known → Node → Bool
is_node model t claim k (ReadsFrom r) = is_event t r && is_read r
is_node model t claim k (ComesFirst w v) =
    is_event t w && is_event t v && is_write w && writes_to w.loc.0 v && not (same_event w v)
is_node model t claim k (OnLocation cycle) = is_cycle t (is_edge t k on_location) cycle
is_node model t claim k (Globally cycle) = is_cycle t (is_edge t k (global_in model)) cycle
is_node model t claim k (Between r v w) = is_between t k r v w
is_node model t claim k FalseClaim = not (allows t k claim true)

-- the answers in each of its branches; a leaf has none
abbrev pub branches : Litmus → Known → Node → List Known
branches t k (ReadsFrom r) = map (with_source k r) (sources_of t r)
branches t k (ComesFirst w v) = with_pair k w v ∷ (with_pair k v w ∷ [])
branches t k _ = []

-- whether the nodes are a tree for each of these cases, one after the other
abbrev pub close : Model → Litmus → Claim → List Known → List Node → Bool
close model t claim [] [] = true
close model t claim [] (n ∷ ns) = false
close model t claim (k ∷ ks) [] = false
close model t claim (k ∷ ks) (n ∷ ns) = is_node model t claim k n && close model t claim (branches t k n ++ ks) ns

-- whether they refute the proposition: they are a tree for the case in which no answer is given
abbrev pub refutes : Model → Litmus → Claim → List Node → Bool
refutes model t claim nodes = close model t claim (nothing ∷ []) nodes
