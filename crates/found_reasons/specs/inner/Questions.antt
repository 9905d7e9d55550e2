-- Questions that are still open in a case: the first one among the events.
use Rattle.std.specs.Prelude.{◌&&◌, Bool, not, if◌then◌else◌, List, [], ◌∷◌, Option, Some, None}
use Rattle.tso_terms.specs.ProgramOrder.{is_read, is_write, writes_to}
use Rattle.tso_terms.specs.declared.execution.Entry.{Entry}
use Rattle.refutation_laws.specs.Known.{Known, same_event}
use Rattle.refutation_laws.specs.declared.known.Pair.{Pair}
use Rattle.refutation_laws.specs.inner.FullCases.{has_source, are_ordered}
use Rattle.refutations.specs.declared.tree.Node.{Node}
use Rattle.refutations.specs.declared.tree.Node.TheVariants.{ReadsFrom, ComesFirst}

abbrev pub is_unread : Known → Entry → Bool
is_unread k r = is_read r && not (has_source k r)

abbrev pub is_unordered : Known → Entry → Entry → Bool
is_unordered k w v = is_write w && writes_to w.loc.0 v && not (same_event w v) && not (are_ordered k w v)

abbrev pub first_where : (Entry → Bool) → List Entry → Option Entry
first_where p [] = None
first_where p (x ∷ xs) = if p x then Some x else first_where p xs

abbrev pub first_unread : Known → List Entry → Option Entry
first_unread k es = first_where (is_unread k) es

abbrev pub first_beside : Known → Entry → List Entry → Option Entry
first_beside k w es = first_where (is_unordered k w) es

abbrev pub pair_or : Entry → Option Entry → Option Pair → Option Pair
pair_or w (Some v) rest = Some (record { first = w; second = v })
pair_or w None rest = rest

abbrev pub first_pair : Known → List Entry → List Entry → Option Pair
first_pair k [] vs = None
first_pair k (w ∷ ws) vs = pair_or w (first_beside k w vs) (first_pair k ws vs)

-- the question that is asked next, and none where each is answered
abbrev pub question_of : Option Pair → Option Node
question_of None = None
question_of (Some p) = Some (ComesFirst p.first p.second)

abbrev pub read_or : Option Entry → Option Node → Option Node
read_or (Some r) rest = Some (ReadsFrom r)
read_or None rest = rest

abbrev pub next_question : Known → List Entry → Option Node
next_question k es = read_or (first_unread k es) (question_of (first_pair k es es))
