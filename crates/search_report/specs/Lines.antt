-- A refutation as it is printed, line by line. Text and JSON are both functions of these lines, so they can't disagree.
-- Of a question's cases those come first that their line closes; those that are closed for the same reason are one line. The others follow,
-- each with its part one step deeper. Where one alone follows, its part stands at the same depth. Where none follows, the last line is what
-- is left.
use Rattle.std.specs.Prelude.{ℕ, ◌+◌, ◌-◌, Bool, true, false, if◌then◌else◌, Option, Some, None, is_some, List, [], ◌∷◌, ◌++◌, map, take}
use Rattle.std.specs.Prelude.{drop, length, count_by, codes}
use Rattle.std.specs.List.{flat_map}
use Rattle.std.specs.Str.{bytes_eq}
use Rattle.search_report.specs.Vocabulary.{Claim, Litmus, Model}
use Rattle.possible_reads.specs.Facts.{Fact, given_by}
use Rattle.lemma_refutations.specs.Refutations.{Node, IsReadBy, HasCase, Lemma, answers, known_from}
use Rattle.search_report.specs.Shown.{ShownFact, Closing, closing_at, shown_at, shown_facts}
use Rattle.search_report.specs.ShownText.{closing_text}

pub data Line : Type 0 where
  -- what the claim gives
  Given : (facts : List ShownFact) → Line
  -- the lemma of this number: never all of these; its part follows, one step deeper
  Never : (number : ℕ) → (facts : List ShownFact) → Line
  -- answers to a question: this closes them, or else the part of the one answer follows, one step deeper
  Case : (depth : ℕ) → (question : List ℕ) → (answers : List (List ShownFact)) → (closing : Option Closing) → Line
  -- what is left of a question: this closes it, or else its part follows at the same depth
  So : (depth : ℕ) → (question : List ℕ) → (answers : List (List ShownFact)) → (closing : Option Closing) → Line
  -- this closes all that there is
  Leaf : (depth : ℕ) → Closing → Line
  -- the cases of a question end here, and none is left
  Endcases : (depth : ℕ) → Line

-- ---- where nodes stand

-- the facts of a branch, and how many there were before its last answer
pub record Branch : Type 0 where
  pub facts : List Fact
  pub before : ℕ

abbrev pub first_branch : List Fact → Branch
first_branch facts = record { facts = facts; before = length facts }

abbrev pub last_answer : Branch → List Fact
last_answer b = take (length b.facts - b.before) b.facts

abbrev pub branches_below : Litmus → Branch → Node → List Branch
branches_below t b n = map (λ answer. record { facts = answer ++ b.facts; before = length b.facts }) (answers t (known_from t b.facts) n)

-- the word that tells a question from others, where its answers alone don't
abbrev pub question_word : Node → List ℕ
question_word (IsReadBy loc word) = codes "reader"
question_word (HasCase fact) = codes "part"
question_word _ = []

-- a node in its branch: the last answer there, its own question, how many branches it has, and why it closes the branch if it has none
pub record Standing : Type 0 where
  pub answer : List ShownFact
  pub question : List ℕ
  pub count : ℕ
  pub closing : Closing

abbrev pub standing_at : Model → Litmus → Branch → Node → Standing
standing_at model t b n = record {
  answer = shown_facts t (known_from t b.facts) (last_answer b);
  question = question_word n;
  count = length (answers t (known_from t b.facts) n);
  closing = closing_at model t (known_from t b.facts) n;
}

-- the nodes, each in its branch, where these branches are open
abbrev pub standing : Model → Litmus → List Branch → List Node → List Standing
standing model t bs [] = []
standing model t [] (n ∷ ns) = []
standing model t (b ∷ bs) (n ∷ ns) = standing_at model t b n ∷ standing model t (branches_below t b n ++ bs) ns

-- ---- cases

-- a node with all below it, which this answer leads to: it closes its branch, or it has lines
pub record Open : Type 0 where
  pub answer : List ShownFact
  pub lines : List Line

pub data Part : Type 0 where
  IsClosed : (answer : List ShownFact) → Closing → Part
  IsOpen : Open → Part

-- answers that are closed for the same reason
pub record Closed : Type 0 where
  pub answers : List (List ShownFact)
  pub closing : Closing

-- one more answer that is closed: with those that are closed for the same reason, or by itself
abbrev pub with_closed : Litmus → List ShownFact → Closing → List Closed → List Closed
with_closed t answer closing [] = record { answers = answer ∷ []; closing = closing } ∷ []
with_closed t answer closing (c ∷ cs) =
    if bytes_eq (closing_text t c.closing) (closing_text t closing)
    then record { answers = c.answers ++ (answer ∷ []); closing = c.closing } ∷ cs
    else c ∷ with_closed t answer closing cs

-- these, and all parts that are closed; those that aren't
abbrev pub closed_among : Litmus → List Closed → List Part → List Closed
closed_among t cs [] = cs
closed_among t cs (IsClosed answer closing ∷ ps) = closed_among t (with_closed t answer closing cs) ps
closed_among t cs (IsOpen o ∷ ps) = closed_among t cs ps

abbrev pub open_among : List Part → List Open
open_among [] = []
open_among (IsClosed answer closing ∷ ps) = open_among ps
open_among (IsOpen o ∷ ps) = o ∷ open_among ps

abbrev pub deeper : Line → Line
deeper (Case depth question answers closing) = Case (depth + 1) question answers closing
deeper (So depth question answers closing) = So (depth + 1) question answers closing
deeper (Leaf depth closing) = Leaf (depth + 1) closing
deeper (Endcases depth) = Endcases (depth + 1)
deeper line = line

abbrev pub closed_case : List ℕ → Closed → Line
closed_case question c = Case 0 question c.answers (Some c.closing)

-- the last of these cases is what is left
abbrev pub closed_cases : List ℕ → List Closed → List Line
closed_cases question [] = []
closed_cases question (c ∷ []) = So 0 question c.answers (Some c.closing) ∷ []
closed_cases question (c ∷ cs) = closed_case question c ∷ closed_cases question cs

abbrev pub open_case : List ℕ → Open → List Line
open_case question o = Case 0 question (o.answer ∷ []) None ∷ map deeper o.lines

-- the lines of a question with these cases
abbrev pub question_lines : List ℕ → List Closed → List Open → List Line
question_lines question cs [] = closed_cases question cs
question_lines question cs (o ∷ []) = map (closed_case question) cs ++ (So 0 question (o.answer ∷ []) None ∷ o.lines)
question_lines question cs os = map (closed_case question) cs ++ (flat_map (open_case question) os ++ (Endcases 0 ∷ []))

-- the part of a node, whose branches have these parts
abbrev pub part_of : Litmus → Standing → List Part → Part
part_of t s [] = IsClosed s.answer s.closing
part_of t s ps = IsOpen (record { answer = s.answer; lines = question_lines s.question (closed_among t [] ps) (open_among ps) })

-- the part of a node, whose branches have the first of these parts, and then those that it leaves
abbrev pub grown : Litmus → Standing → List Part → List Part
grown t s ps = part_of t s (take s.count ps) ∷ drop s.count ps

abbrev pub tree_parts : Litmus → List Standing → List Part
tree_parts t [] = []
tree_parts t (s ∷ ss) = grown t s (tree_parts t ss)

abbrev pub part_lines : Part → List Line
part_lines (IsClosed answer closing) = Leaf 0 closing ∷ []
part_lines (IsOpen o) = o.lines

-- ---- a refutation

-- the lines of a tree, where these facts are given
abbrev pub tree_lines : Model → Litmus → List Fact → List Node → List Line
tree_lines model t facts nodes = flat_map part_lines (tree_parts t (standing model t (first_branch facts ∷ []) nodes))

-- a line of what the claim gives, where that is more than one fact
abbrev pub given_lines : Litmus → List Fact → List Line
given_lines t (f ∷ (g ∷ facts)) = Given (shown_facts t (known_from t (f ∷ (g ∷ facts))) (f ∷ (g ∷ facts))) ∷ []
given_lines t facts = []

abbrev pub lemma_lines : Model → Litmus → List Fact → ℕ → Lemma → List Line
lemma_lines model t given number l =
    Never number (map (shown_at t (known_from t (l.facts ++ given))) l.facts) ∷ map deeper (tree_lines model t (l.facts ++ given) l.tree)

-- the lines of lemmas, of which the first has this number
abbrev pub lemmas_lines : Model → Litmus → List Fact → ℕ → List Lemma → List Line
lemmas_lines model t given number [] = []
lemmas_lines model t given number (l ∷ ls) = lemma_lines model t given number l ++ lemmas_lines model t given (number + 1) ls

-- the lines of a refutation of a claim
abbrev pub refutation_lines : Model → Litmus → Claim → List Lemma → List Node → List Line
refutation_lines model t claim lemmas tree =
    given_lines t (given_by t claim true)
    ++ (lemmas_lines model t (given_by t claim true) 1 lemmas ++ tree_lines model t (given_by t claim true) tree)

-- how many lines close a case
abbrev pub is_closing : Line → Bool
is_closing (Case depth question answers closing) = is_some closing
is_closing (So depth question answers closing) = is_some closing
is_closing (Leaf depth closing) = true
is_closing _ = false

abbrev pub leaves_in : List Line → ℕ
leaves_in lines = count_by is_closing lines
