-- How a person reads the lines that `why` prints of a refutation, branch by branch. Nothing here says how lines are laid out,
-- or found. Of a lemma only its facts count.
use Rattle.std.specs.Prelude.{ℕ, zero, suc, ◌+◌, ◌<◌, ◌≡◌, ◌⊎◌, true, List, [], ◌∷◌, ◌++◌, map, length, Some, None}
use Rattle.printed_laws.specs.Vocabulary.{asked_claim, Claim, Litmus, Model}
use Rattle.possible_reads.specs.Facts.{Fact, given_by}
use Rattle.lemma_refutations.specs.Laws.{IsRefuted}
use Rattle.lemma_refutations.specs.Refutations.{Node, Lemma, answers, is_node, known_from, refutes}
use Rattle.search_report.specs.Shown.{Closing, ShownFact, closing_at, shown_at, shown_facts}
use Rattle.search_report.specs.ShownText.{closing_text}
use Rattle.search_report.specs.Lines.{Line, Never, Case, So, Leaf, deeper, given_lines, question_word}
use Rattle.search_report.specs.LineText.{never_lines, never_text}
use Rattle.search_report.specs.LineJson as json

-- the item is one of these
pub record ListHas {X : Type 0} (xs : List X) (x : X) : Type 0 where
  pub before : List X
  pub after : List X
  pub all : xs ≡ before ++ (x ∷ after)

-- ---- one line

-- why a branch is closed, in the words for a node that may stand there and has no branches
pub record ClosesBranch (model : Model) (t : Litmus) (lemmas : List Lemma) (facts : List Fact) (closing : Closing) : Type 0 where
  pub node : Node
  pub stands : is_node model t lemmas (known_from t facts) node ≡ true
  pub unanswered : answers t (known_from t facts) node ≡ []
  pub words : closing_text t closing ≡ closing_text t (closing_at model t (known_from t facts) node)

-- an answer, as it is shown in the branch below it
abbrev pub answer_shown : Litmus → List Fact → List Fact → List ShownFact
answer_shown t facts answer = shown_facts t (known_from t (answer ++ facts)) answer

-- ---- the cases of a question

-- a line has this answer, perhaps beside others, and what closes it
pub record HasClosedCase (model : Model) (t : Litmus) (lemmas : List Lemma) (facts : List Fact) (question : List ℕ)
    (lines : List Line) (answer : List Fact) : Type 0 where
  pub beside : List (List ShownFact)
  pub among : ListHas beside (answer_shown t facts answer)
  pub closing : Closing
  pub line : ListHas lines (Case 0 question beside (Some closing)) ⊎ ListHas lines (So 0 question beside (Some closing))
  pub closes : ClosesBranch model t lemmas (answer ++ facts) closing

-- a line has this answer, and its part follows: one step deeper, or at the same depth up to the end
pub record HasOpenCase (Refute : List Fact → List Line → Type 0) (t : Litmus) (facts : List Fact) (question : List ℕ)
    (lines : List Line) (answer : List Fact) : Type 0 where
  pub before : List Line
  pub part : List Line
  pub after : List Line
  pub line : (lines ≡ before ++ (Case 0 question (answer_shown t facts answer ∷ []) None ∷ (map deeper part ++ after)))
      ⊎ (lines ≡ before ++ (So 0 question (answer_shown t facts answer ∷ []) None ∷ part))
  pub refute : Refute (answer ++ facts) part

-- each of these answers has its case
abbrev pub HaveCases : (List Fact → List Line → Type 0) → Model → Litmus → List Lemma → List Fact → List ℕ → List Line → List (List Fact) → Type 0
HaveCases Refute model t lemmas facts question lines [] = Unit {0}
HaveCases Refute model t lemmas facts question lines (answer ∷ rest) =
    (HasClosedCase model t lemmas facts question lines answer ⊎ HasOpenCase Refute t facts question lines answer)
    × HaveCases Refute model t lemmas facts question lines rest

-- ---- the lines of a branch

-- one line, which closes it
pub record IsLeafLine (model : Model) (t : Litmus) (lemmas : List Lemma) (facts : List Fact) (lines : List Line) : Type 0 where
  pub closing : Closing
  pub line : lines ≡ Leaf 0 closing ∷ []
  pub closes : ClosesBranch model t lemmas facts closing

-- a question that may be asked, with a case for each answer
pub record AreCasesOf (Refute : List Fact → List Line → Type 0) (model : Model) (t : Litmus) (lemmas : List Lemma)
    (facts : List Fact) (lines : List Line) : Type 0 where
  pub question : Node
  pub stands : is_node model t lemmas (known_from t facts) question ≡ true
  pub answered : 0 < length (answers t (known_from t facts) question)
  pub cases : HaveCases Refute model t lemmas facts (question_word question) lines (answers t (known_from t facts) question)

-- the lines refute the facts: by questions within questions, no more of them than so many, no candidate is left that meets them
abbrev pub LinesRefuteWithin : Model → Litmus → List Lemma → ℕ → List Fact → List Line → Type 0
LinesRefuteWithin model t lemmas zero facts lines = ⊥
LinesRefuteWithin model t lemmas (suc n) facts lines =
    IsLeafLine model t lemmas facts lines ⊎ AreCasesOf (LinesRefuteWithin model t lemmas n) model t lemmas facts lines

abbrev pub LinesRefute : Model → Litmus → List Lemma → List Fact → List Line → Type 0
LinesRefute model t lemmas facts lines = (n : ℕ) × LinesRefuteWithin model t lemmas n facts lines

-- ---- all lines

-- the line of a lemma
abbrev pub lemma_line : Litmus → List Fact → ℕ → Lemma → Line
lemma_line t given number l = Never number (map (shown_at t (known_from t (l.facts ++ given))) l.facts)

-- the line of the first lemma, its part, and other lines
pub record HasLemmaFirst (Others : List Line → Type 0) (model : Model) (t : Litmus) (given : List Fact)
    (shown : List Lemma) (number : ℕ) (l : Lemma) (lines : List Line) : Type 0 where
  pub part : List Line
  pub rest : List Line
  pub line : lines ≡ lemma_line t given number l ∷ (map deeper part ++ rest)
  pub refute : LinesRefute model t shown (l.facts ++ given) part
  pub others : Others rest

-- the lemmas that are left, the first of this number, each with its part below those that are shown already; and the tree below them all
abbrev pub LinesRefuteInTurn : Model → Litmus → List Fact → List Lemma → ℕ → List Lemma → List Line → Type 0
LinesRefuteInTurn model t given shown number [] lines = LinesRefute model t shown given lines
LinesRefuteInTurn model t given shown number (l ∷ ls) lines =
    HasLemmaFirst (LinesRefuteInTurn model t given (shown ++ (l ∷ [])) (number + 1) ls) model t given shown number l lines

-- the lines refute the claim, read by hand: what it gives comes first
pub record RefuteByHand (model : Model) (t : Litmus) (claim : Claim) (lines : List Line) : Type 0 where
  pub lemmas : List Lemma
  pub rest : List Line
  pub given : lines ≡ given_lines t (given_by t claim true) ++ rest
  pub refute : LinesRefuteInTurn model t (given_by t claim true) [] 1 lemmas rest

-- ---- laws

-- what is printed of lemmas and a tree that refute what the test asks are such lines
pub record PrintsRefutingLines (model : Model) (t : Litmus) (lemmas : List Lemma) (tree : List Node) : Type 0 where
  pub lines : List Line
  pub refute : RefuteByHand model t (asked_claim t.condition) lines
  pub text : never_text model t lemmas tree ≡ never_lines model t lines
  pub object : json.never_json model t lemmas tree ≡ json.never_json_line model t lines

abbrev pub PrintedLinesRefute : Type 0
PrintedLinesRefute =
    (model : Model) (t : Litmus) (lemmas : List Lemma) (tree : List Node)
    → refutes model t (asked_claim t.condition) lemmas tree ≡ true → PrintsRefutingLines model t lemmas tree

-- and such lines, whoever wrote them, are of a claim that some lemmas and a tree refute
abbrev pub RefutingLinesAreRefutations : Type 0
RefutingLinesAreRefutations = (model : Model) (t : Litmus) (claim : Claim) (lines : List Line) → RefuteByHand model t claim lines → IsRefuted model t claim
