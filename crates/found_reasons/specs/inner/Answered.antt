-- What the facts of a branch answer to the questions that the search asks: what a read reads from, and which of two writes comes first.
use Rattle.std.specs.Prelude.{true, List, [], ◌∷◌}
use Rattle.refutation_laws.specs.Known.{Known}
use Rattle.refutation_laws.specs.Refutations as full
use Rattle.refutation_laws.specs.declared.known.Source.{Source}
use Rattle.refutation_laws.specs.declared.known.Pair.{Pair}
use Rattle.possible_reads.specs.Facts.{Fact, From, Before}
use Rattle.lemma_refutations.specs.Refutations.{Node, ReadsFrom, Asks, OnLocation, Globally, Between, FalseClaim}

abbrev pub sources_told : List Fact → List Source
sources_told [] = []
sources_told (From read write true ∷ facts) = record { read = read; write = write } ∷ sources_told facts
sources_told (_ ∷ facts) = sources_told facts

abbrev pub pairs_told : List Fact → List Pair
pairs_told [] = []
pairs_told (Before first second ∷ facts) = record { first = first; second = second } ∷ pairs_told facts
pairs_told (_ ∷ facts) = pairs_told facts

abbrev pub answers_told : List Fact → Known
answers_told facts = record { sources = sources_told facts; order = pairs_told facts }

-- the question of a full case that a question of the search is
abbrev pub as_question : Node → full.Node
as_question (ReadsFrom read) = full.ReadsFrom read
as_question (Asks (Before first second)) = full.ComesFirst first second
as_question _ = full.FalseClaim

-- what is done with a case, as a node over facts
abbrev pub as_node : full.Node → Node
as_node (full.ReadsFrom read) = ReadsFrom read
as_node (full.ComesFirst first second) = Asks (Before first second)
as_node (full.OnLocation cycle) = OnLocation cycle
as_node (full.Globally cycle) = Globally cycle
as_node (full.Between read between write) = Between read between write
as_node full.FalseClaim = FalseClaim
