-- What is printed of a refutation refutes, read by hand: each answer to a question has its case among the lines.
use Rattle.printed_laws.proofs.Vocabulary.{◌≡◌, ℕ, ◌<◌, ◌-◌, ◌+◌, ◌⊎◌, inl, inr, zero, suc, Bool, true, false, if◌then◌else◌, List, [], ◌∷◌}
use Rattle.printed_laws.proofs.Vocabulary.{◌++◌, map, take, drop, length, refl, sym, ap, subst, ◌∙◌, arith, Some, None, append_assoc}
use Rattle.printed_laws.proofs.Vocabulary.{append-nil, length-append, length-map, map-append, flat_map, bytes_eq, bytes_eq-Decides, Litmus}
use Rattle.printed_laws.proofs.Vocabulary.{Model, asked_claim}
use Rattle.relational_model.proofs.KindFacts.{and-both}
use Rattle.possible_reads.specs.Facts.{Fact, given_by}
use Rattle.lemma_refutations.specs.Refutations.{Node, Lemma, answers, close, hold, is_node, known_from}
use Rattle.search_report.specs.Shown.{Closing, ShownFact, shown_facts}
use Rattle.search_report.specs.ShownText.{closing_text}
use Rattle.search_report.specs.Lines.{Line, Case, So, Endcases, Branch, Closed, Open, Part, IsClosed, IsOpen, branches_below, closed_among}
use Rattle.search_report.specs.Lines.{closed_case, closed_cases, deeper, first_branch, last_answer, lemma_lines, lemmas_lines, open_among}
use Rattle.search_report.specs.Lines.{open_case, part_lines, part_of, question_lines, question_word, refutation_lines, standing}
use Rattle.search_report.specs.Lines.{standing_at, tree_lines, tree_parts, with_closed}
use Rattle.printed_laws.specs.ByHand.{ClosesBranch, HasClosedCase, HasOpenCase, HaveCases, PrintedLinesRefute, LinesRefute}
use Rattle.printed_laws.specs.ByHand.{LinesRefuteInTurn, LinesRefuteWithin, ListHas, answer_shown, lemma_line}

-- ---- lists

first-of : {X : Type 0} (x : X) (xs : List X) → ListHas (x ∷ xs) x
first-of x xs = record { before = []; after = xs; all = refl }

behind-one : {X : Type 0} (y : X) (xs : List X) (x : X) → ListHas xs x → ListHas (y ∷ xs) x
behind-one y xs x is = record { before = y ∷ is.before; after = is.after; all = ap (λ l. y ∷ l) is.all }

before-more : {X : Type 0} (xs ys : List X) (x : X) → ListHas xs x → ListHas (xs ++ ys) x
before-more xs ys x is = record {
  before = is.before;
  after = is.after ++ ys;
  all = ap (λ l. l ++ ys) is.all ∙ append_assoc is.before (x ∷ is.after) ys;
}

flattened : {X Y : Type 0} (f : X → List Y) (front : List X) (x : X) (back : List X)
    → flat_map f (front ++ (x ∷ back)) ≡ flat_map f front ++ (f x ++ flat_map f back)
flattened f [] x back = refl
flattened f (y ∷ front) x back = ap (λ l. f y ++ l) (flattened f front x back) ∙ sym (append_assoc (f y) (flat_map f front) (f x ++ flat_map f back))

taken-first : {X : Type 0} (xs ys : List X) → take (length xs) (xs ++ ys) ≡ xs
taken-first [] ys = refl
taken-first (x ∷ xs) ys = ap (λ l. x ∷ l) (taken-first xs ys)

first-part : {X : Type 0} (xs ys : List X) → take (length (xs ++ ys) - length ys) (xs ++ ys) ≡ xs
first-part xs ys = ap (λ n. take n (xs ++ ys)) (by (length xs) (length ys) (length (xs ++ ys)) (length-append xs ys)) ∙ taken-first xs ys
  where
    by : (n m k : ℕ) → k ≡ n + m → k - m ≡ n
    by n m k is = omega (arith, is)

-- ---- answers that are closed for the same reason

-- this group has the answer, and its reason in the same words
record HasAnswer (t : Litmus) (group : Closed) (answer : List ShownFact) (closing : Closing) : Type 0 where
  has : ListHas group.answers answer
  words : closing_text t group.closing ≡ closing_text t closing

abbrev IsGrouped : Litmus → List Closed → List ShownFact → Closing → Type 0
IsGrouped t [] answer closing = ⊥
IsGrouped t (c ∷ cs) answer closing = HasAnswer t c answer closing ⊎ IsGrouped t cs answer closing

joins : (t : Litmus) (answer : List ShownFact) (closing : Closing) (cs : List Closed) → IsGrouped t (with_closed t answer closing cs) answer closing
joins t answer closing [] = inl (record { has = first-of answer []; words = refl })
joins t answer closing (c ∷ cs) = go (bytes_eq (closing_text t c.closing) (closing_text t closing)) refl (joins t answer closing cs)
  where
    go : (b : Bool) → bytes_eq (closing_text t c.closing) (closing_text t closing) ≡ b → IsGrouped t (with_closed t answer closing cs) answer closing
        → IsGrouped t (if b
        then record { answers = c.answers ++ (answer ∷ []); closing = c.closing } ∷ cs
        else c ∷ with_closed t answer closing cs)
        answer closing
    go true same rest = inl (record {
      has = record { before = c.answers; after = []; all = refl };
      words = (bytes_eq-Decides (closing_text t c.closing) (closing_text t closing)).0 same;
    })
    go false other rest = inr rest

stays : (t : Litmus) (answer other : List ShownFact) (closing why : Closing) (cs : List Closed)
    → IsGrouped t cs answer closing
    → IsGrouped t (with_closed t other why cs) answer closing
stays t answer other closing why [] is = absurd is
stays t answer other closing why (c ∷ cs) is =
    go (bytes_eq (closing_text t c.closing) (closing_text t why)) is (λ later. stays t answer other closing why cs later)
  where
    go : (b : Bool) → IsGrouped t (c ∷ cs) answer closing → (IsGrouped t cs answer closing → IsGrouped t (with_closed t other why cs) answer closing)
        → IsGrouped t (if b then record { answers = c.answers ++ (other ∷ []); closing = c.closing } ∷ cs else c ∷ with_closed t other why cs) answer closing
    go true (inl has) later = inl (record { has = before-more c.answers (other ∷ []) answer has.has; words = has.words })
    go true (inr rest) later = inr rest
    go false (inl has) later = inl has
    go false (inr rest) later = inr (later rest)

stays-among : (t : Litmus) (answer : List ShownFact) (closing : Closing) (ps : List Part) (cs : List Closed)
    → IsGrouped t cs answer closing
    → IsGrouped t (closed_among t cs ps) answer closing
stays-among t answer closing [] cs is = is
stays-among t answer closing (IsClosed other why ∷ ps) cs is =
    stays-among t answer closing ps (with_closed t other why cs) (stays t answer other closing why cs is)
stays-among t answer closing (IsOpen o ∷ ps) cs is = stays-among t answer closing ps cs is

-- a part has its place among those that are closed, or among those that aren't
abbrev HasPlace : Litmus → List Closed → List Open → Part → Type 0
HasPlace t cs os (IsClosed answer closing) = IsGrouped t cs answer closing
HasPlace t cs os (IsOpen o) = ListHas os o

abbrev HavePlaces : Litmus → List Closed → List Open → List Part → Type 0
HavePlaces t cs os [] = Unit {0}
HavePlaces t cs os (p ∷ ps) = HasPlace t cs os p × HavePlaces t cs os ps

all-placed : (t : Litmus) (ps : List Part) (cs : List Closed) (os : List Open) → HavePlaces t (closed_among t cs ps) (os ++ open_among ps) ps
all-placed t [] cs os = tt
all-placed t (IsClosed answer closing ∷ ps) cs os =
    (stays-among t answer closing ps (with_closed t answer closing cs) (joins t answer closing cs), all-placed t ps (with_closed t answer closing cs) os)
all-placed t (IsOpen o ∷ ps) cs os = (
  record { before = os; after = open_among ps; all = refl },
  subst (λ l. HavePlaces t (closed_among t cs ps) l ps) (append_assoc os (o ∷ []) (open_among ps)) (all-placed t ps cs (os ++ (o ∷ []))),
)

-- ---- the lines of a question

-- a line has the answer, with its reason in the same words
record IsInLine (t : Litmus) (question : List ℕ) (lines : List Line) (answer : List ShownFact) (closing : Closing) : Type 0 where
  beside : List (List ShownFact)
  among : ListHas beside answer
  why : Closing
  line : ListHas lines (Case 0 question beside (Some why)) ⊎ ListHas lines (So 0 question beside (Some why))
  words : closing_text t why ≡ closing_text t closing

later-line : (t : Litmus) (question : List ℕ) (l : Line) (lines : List Line) (answer : List ShownFact)
    (closing : Closing)
    → IsInLine t question lines answer closing
    → IsInLine t question (l ∷ lines) answer closing
later-line t question l lines answer closing is = record { beside = is.beside; among = is.among; why = is.why; line = go is.line; words = is.words }
  where
    go : ListHas lines (Case 0 question is.beside (Some is.why)) ⊎ ListHas lines (So 0 question is.beside (Some is.why))
        → ListHas (l ∷ lines) (Case 0 question is.beside (Some is.why)) ⊎ ListHas (l ∷ lines) (So 0 question is.beside (Some is.why))
    go (inl there) = inl (behind-one l lines _ there)
    go (inr there) = inr (behind-one l lines _ there)

as-case : (t : Litmus) (question : List ℕ) (c : Closed) (rest : List Line) (answer : List ShownFact) (closing : Closing)
    → HasAnswer t c answer closing
    → IsInLine t question (closed_case question c ∷ rest) answer closing
as-case t question c rest answer closing is = record { beside = c.answers; among = is.has; why = c.closing; line = inl (first-of _ rest); words = is.words }

in-closed-cases : (t : Litmus) (question : List ℕ) (cs : List Closed) (answer : List ShownFact) (closing : Closing)
    → IsGrouped t cs answer closing
    → IsInLine t question (closed_cases question cs) answer closing
in-closed-cases t question [] answer closing is = absurd is
in-closed-cases t question (c ∷ []) answer closing (inl is) = record {
  beside = c.answers;
  among = is.has;
  why = c.closing;
  line = inr (first-of _ []);
  words = is.words;
}
in-closed-cases t question (c ∷ []) answer closing (inr none) = absurd none
in-closed-cases t question (c ∷ (d ∷ cs)) answer closing (inl is) = as-case t question c (closed_cases question (d ∷ cs)) answer closing is
in-closed-cases t question (c ∷ (d ∷ cs)) answer closing (inr is) =
    later-line t question (closed_case question c) (closed_cases question (d ∷ cs)) answer closing (in-closed-cases t question (d ∷ cs) answer closing is)

in-first-cases : (t : Litmus) (question : List ℕ) (cs : List Closed) (rest : List Line) (answer : List ShownFact)
    (closing : Closing)
    → IsGrouped t cs answer closing
    → IsInLine t question (map (closed_case question) cs ++ rest) answer closing
in-first-cases t question [] rest answer closing is = absurd is
in-first-cases t question (c ∷ cs) rest answer closing (inl is) = as-case t question c (map (closed_case question) cs ++ rest) answer closing is
in-first-cases t question (c ∷ cs) rest answer closing (inr is) =
    later-line t question (closed_case question c) (map (closed_case question) cs ++ rest) answer closing (in-first-cases t question cs rest answer closing is)

in-question : (t : Litmus) (question : List ℕ) (cs : List Closed) (os : List Open) (answer : List ShownFact) (closing : Closing) → IsGrouped t cs answer closing
    → IsInLine t question (question_lines question cs os) answer closing
in-question t question cs [] answer closing is = in-closed-cases t question cs answer closing is
in-question t question cs (o ∷ []) answer closing is = in-first-cases t question cs (So 0 question (o.answer ∷ []) None ∷ o.lines) answer closing is
in-question t question cs (o ∷ (p ∷ os)) answer closing is =
    in-first-cases t question cs (flat_map (open_case question) (o ∷ (p ∷ os)) ++ (Endcases 0 ∷ [])) answer closing is

-- the lines have the answer of a part that isn't closed, and its lines follow
record IsFollowed (question : List ℕ) (lines : List Line) (o : Open) : Type 0 where
  before : List Line
  after : List Line
  line : (lines ≡ before ++ (Case 0 question (o.answer ∷ []) None ∷ (map deeper o.lines ++ after)))
      ⊎ (lines ≡ before ++ (So 0 question (o.answer ∷ []) None ∷ o.lines))

no-open : (o : Open) (front back : List Open) → [] ≡ front ++ (o ∷ back) → ⊥
no-open o [] back e = cc
no-open o (x ∷ front) back e = cc

open-in-question : (question : List ℕ) (cs : List Closed) (os : List Open) (o : Open) → ListHas os o → IsFollowed question (question_lines question cs os) o
open-in-question question cs [] o is = absurd (no-open o is.before is.after is.all)
open-in-question question cs (x ∷ []) o is = go is.before is.all
  where
    go : (front : List Open)
        → x ∷ [] ≡ front ++ (o ∷ is.after)
        → IsFollowed question (map (closed_case question) cs ++ (So 0 question (x.answer ∷ []) None ∷ x.lines)) o
    go [] e =
        let same : x ≡ o = cc in
        record {
          before = map (closed_case question) cs;
          after = [];
          line =
              inr (ap (λ (y : Open). map (closed_case question) cs ++ (So 0 question (y.answer ∷ []) None ∷ y.lines)) same);
        }
    go (y ∷ front) e = absurd (no-open o front is.after (let z : [] ≡ front ++ (o ∷ is.after) = cc in z))
open-in-question question cs (x ∷ (y ∷ os)) o is =
    let first = map (closed_case question) cs in
    let f = open_case question in
    record {
      before = first ++ flat_map f is.before;
      after = flat_map f is.after ++ (Endcases 0 ∷ []);
      line = inl (
          ap (λ l. first ++ (l ++ (Endcases 0 ∷ []))) (ap (flat_map f) is.all ∙ flattened f is.before o is.after)
          ∙ ap (λ l. first ++ l) (append_assoc (flat_map f is.before) (f o ++ flat_map f is.after) (Endcases 0 ∷ []))
          ∙ sym (append_assoc first (flat_map f is.before) ((f o ++ flat_map f is.after) ++ (Endcases 0 ∷ [])))
          ∙ ap (λ l. (first ++ flat_map f is.before) ++ l) (append_assoc (f o) (flat_map f is.after) (Endcases 0 ∷ []))
          );
    }

-- ---- trees

module _ (model : Model) (t : Litmus) (lemmas : List Lemma) where
  -- what refutes with fewer questions within questions does with more
  raise-open : (P Q : List Fact → List Line → Type 0)
      → ((facts : List Fact) (lines : List Line) → P facts lines → Q facts lines)
      → (facts : List Fact) (question : List ℕ) (lines : List Line) (answer : List Fact)
      → HasOpenCase P t facts question lines answer → HasOpenCase Q t facts question lines answer
  raise-open P Q f facts question lines answer is = record {
    before = is.before;
    part = is.part;
    after = is.after;
    line = is.line;
    refute = f (answer ++ facts) is.part is.refute;
  }

  raise-cases : (P Q : List Fact → List Line → Type 0)
      → ((facts : List Fact) (lines : List Line) → P facts lines → Q facts lines)
      → (facts : List Fact) (question : List ℕ) (lines : List Line) (all : List (List Fact))
      → HaveCases P model t lemmas facts question lines all → HaveCases Q model t lemmas facts question lines all
  raise-cases P Q f facts question lines [] is = tt
  raise-cases P Q f facts question lines (a ∷ all) is = (either is.0, raise-cases P Q f facts question lines all is.1)
    where
      either : HasClosedCase model t lemmas facts question lines a ⊎ HasOpenCase P t facts question lines a
          → HasClosedCase model t lemmas facts question lines a ⊎ HasOpenCase Q t facts question lines a
      either (inl closed) = inl closed
      either (inr open-one) = inr (raise-open P Q f facts question lines a open-one)

  raise : (n : ℕ) (facts : List Fact) (lines : List Line)
      → LinesRefuteWithin model t lemmas n facts lines
      → LinesRefuteWithin model t lemmas (suc n) facts lines
  raise zero facts lines is = absurd is
  raise (suc n) facts lines (inl leaf) = inl leaf
  raise (suc n) facts lines (inr asked) = inr (record {
    question = asked.question;
    stands = asked.stands;
    answered = asked.answered;
    cases = raise-cases (LinesRefuteWithin model t lemmas n) (LinesRefuteWithin model t lemmas (suc n)) (raise n)
        facts (question_word asked.question) lines (answers t (known_from t facts) asked.question) asked.cases;
  })

  -- a part shows its branch
  abbrev IsPartOf : ℕ → Branch → Part → Type 0
  IsPartOf n b (IsClosed answer closing) = (answer ≡ shown_facts t (known_from t b.facts) (last_answer b)) × ClosesBranch model t lemmas b.facts closing
  IsPartOf n b (IsOpen o) = (o.answer ≡ shown_facts t (known_from t b.facts) (last_answer b)) × LinesRefuteWithin model t lemmas n b.facts o.lines

  abbrev ArePartsOf : ℕ → List Branch → List Part → Type 0
  ArePartsOf n [] [] = Unit {0}
  ArePartsOf n (b ∷ bs) (p ∷ ps) = IsPartOf n b p × ArePartsOf n bs ps
  ArePartsOf n _ _ = ⊥

  raise-part : (n : ℕ) (b : Branch) (p : Part) → IsPartOf n b p → IsPartOf (suc n) b p
  raise-part n b (IsClosed answer closing) is = is
  raise-part n b (IsOpen o) is = (is.0, raise n b.facts o.lines is.1)

  raise-parts : (n : ℕ) (bs : List Branch) (ps : List Part) → ArePartsOf n bs ps → ArePartsOf (suc n) bs ps
  raise-parts n [] [] is = tt
  raise-parts n [] (p ∷ ps) is = absurd is
  raise-parts n (b ∷ bs) [] is = absurd is
  raise-parts n (b ∷ bs) (p ∷ ps) is = (raise-part n b p is.0, raise-parts n bs ps is.1)

  -- the parts of the first branches, and those of the others
  divided : (n : ℕ) (bs cs : List Branch) (ps : List Part) → ArePartsOf n (bs ++ cs) ps
      → ArePartsOf n bs (take (length bs) ps) × ArePartsOf n cs (drop (length bs) ps)
  divided n [] cs ps is = (tt, is)
  divided n (b ∷ bs) cs [] is = absurd is
  divided n (b ∷ bs) cs (p ∷ ps) is = let rest = divided n bs cs ps is.1 in ((is.0, rest.0), rest.1)

  abbrev below_answer : List Fact → List Fact → Branch
  below_answer facts answer = record { facts = answer ++ facts; before = length facts }

  -- of a part whose line closes it
  closed-has-case : (facts : List Fact) (question : List ℕ) (lines : List Line) (a : List Fact) (answer : List ShownFact) (closing : Closing)
      → answer ≡ shown_facts t (known_from t (a ++ facts)) (last_answer (below_answer facts a))
      → ClosesBranch model t lemmas (a ++ facts) closing
      → IsInLine t question lines answer closing
      → HasClosedCase model t lemmas facts question lines a
  closed-has-case facts question lines a answer closing shown closes is = record {
    beside = is.beside;
    among = subst (ListHas is.beside) (shown ∙ ap (shown_facts t (known_from t (a ++ facts))) (first-part a facts)) is.among;
    closing = is.why;
    line = is.line;
    closes = record { node = closes.node; stands = closes.stands; unanswered = closes.unanswered; words = is.words ∙ closes.words };
  }

  open-has-case : (n : ℕ) (facts : List Fact) (question : List ℕ) (lines : List Line) (a : List Fact) (o : Open)
      → o.answer ≡ shown_facts t (known_from t (a ++ facts)) (last_answer (below_answer facts a))
      → LinesRefuteWithin model t lemmas n (a ++ facts) o.lines
      → IsFollowed question lines o
      → HasOpenCase (LinesRefuteWithin model t lemmas n) t facts question lines a
  open-has-case n facts question lines a o shown refutes_it is =
      let told = shown ∙ ap (shown_facts t (known_from t (a ++ facts))) (first-part a facts) in
      record { before = is.before; part = o.lines; after = is.after; line = go told is.line; refute = refutes_it }
    where
      go : o.answer ≡ answer_shown t facts a
          → (lines ≡ is.before ++ (Case 0 question (o.answer ∷ []) None ∷ (map deeper o.lines ++ is.after)))
          ⊎ (lines ≡ is.before ++ (So 0 question (o.answer ∷ []) None ∷ o.lines))
          → (lines ≡ is.before ++ (Case 0 question (answer_shown t facts a ∷ []) None ∷ (map deeper o.lines ++ is.after)))
          ⊎ (lines ≡ is.before ++ (So 0 question (answer_shown t facts a ∷ []) None ∷ o.lines))
      go told (inl e) = inl (e ∙ ap (λ l. is.before ++ (Case 0 question (l ∷ []) None ∷ (map deeper o.lines ++ is.after))) told)
      go told (inr e) = inr (e ∙ ap (λ l. is.before ++ (So 0 question (l ∷ []) None ∷ o.lines)) told)

  -- each answer has its case, where these parts are of the branches below it
  all-cases : (n : ℕ) (facts : List Fact) (question : List ℕ) (cs : List Closed) (os : List Open) (all : List (List Fact)) (ps : List Part)
      → ArePartsOf n (map (below_answer facts) all) ps → HavePlaces t cs os ps
      → HaveCases (LinesRefuteWithin model t lemmas n) model t lemmas facts question (question_lines question cs os) all
  all-cases n facts question cs os [] ps are placed = tt
  all-cases n facts question cs os (a ∷ all) [] are placed = absurd are
  all-cases n facts question cs os (a ∷ all) (IsClosed answer closing ∷ ps) are placed = (
    inl (closed-has-case facts question (question_lines question cs os) a answer closing are.0.0 are.0.1
        (in-question t question cs os answer closing placed.0)),
    all-cases n facts question cs os all ps are.1 placed.1,
  )
  all-cases n facts question cs os (a ∷ all) (IsOpen o ∷ ps) are placed = (
    inr (open-has-case n facts question (question_lines question cs os) a o are.0.0 are.0.1 (open-in-question question cs os o placed.0)),
    all-cases n facts question cs os all ps are.1 placed.1,
  )

  -- the part of a node, where these are the parts of its branches
  node-part : (n : ℕ) (b : Branch) (node : Node) (all : List (List Fact)) (ps : List Part) → is_node model t lemmas (known_from t b.facts) node ≡ true
      → answers t (known_from t b.facts) node ≡ all
      → ArePartsOf n (map (below_answer b.facts) all) ps
      → IsPartOf (suc n) b (part_of t (standing_at model t b node) ps)
  node-part n b node [] [] stands is are = (refl, record { node = node; stands = stands; unanswered = is; words = refl })
  node-part n b node [] (p ∷ ps) stands is are = absurd are
  node-part n b node (a ∷ all) [] stands is are = absurd are
  node-part n b node (a ∷ all) (p ∷ ps) stands is are = (
    refl,
    inr (record {
      question = node;
      stands = stands;
      answered = subst (λ (l : List (List Fact)). 0 < length l) (sym is) (omega arith);
      cases = subst (HaveCases (LinesRefuteWithin model t lemmas n) model t lemmas b.facts (question_word node)
          (question_lines (question_word node) (closed_among t [] (p ∷ ps)) (open_among (p ∷ ps)))) (sym is)
          (all-cases n b.facts (question_word node) (closed_among t [] (p ∷ ps)) (open_among (p ∷ ps)) (a ∷ all) (p ∷ ps) are (all-placed t (p ∷ ps) [] []));
    }),
  )

  facts-below : (facts : List Fact) (all : List (List Fact))
      → map (λ (b : Branch). b.facts) (map (below_answer facts) all) ≡ map (λ answer. answer ++ facts) all
  facts-below facts [] = refl
  facts-below facts (a ∷ all) = ap (λ l. (a ++ facts) ∷ l) (facts-below facts all)

  pub parts-show : (ns : List Node) (bs : List Branch) → close model t lemmas (map (λ (b : Branch). b.facts) bs) ns ≡ true
      → ArePartsOf (length ns) bs (tree_parts t (standing model t bs ns))
  parts-show [] [] h = tt
  parts-show [] (b ∷ bs) h = absurd (let z : ⊥ = cc in z)
  parts-show (n ∷ ns) [] h = absurd (let z : ⊥ = cc in z)
  parts-show (n ∷ ns) (b ∷ bs) h =
      let all = answers t (known_from t b.facts) n in
      let both =
      and-both (is_node model t lemmas (known_from t b.facts) n)
      (close model t lemmas (map (λ answer. answer ++ b.facts) all ++ map (λ (c : Branch). c.facts) bs) ns) h in
      let under = branches_below t b n in
      let are : map (λ (c : Branch). c.facts) (under ++ bs) ≡ map (λ answer. answer ++ b.facts) all ++ map (λ (c : Branch). c.facts) bs =
      map-append (λ (c : Branch). c.facts) under bs ∙ ap (λ l. l ++ map (λ (c : Branch). c.facts) bs) (facts-below b.facts all) in
      let ps = tree_parts t (standing model t (under ++ bs) ns) in
      let rest = divided (length ns) under bs ps (parts-show ns (under ++ bs) (subst (λ l. close model t lemmas l ns ≡ true) (sym are) both.1)) in
      let many : length under ≡ length all = length-map all (below_answer b.facts) in (
        node-part (length ns) b n all (take (length all) ps) both.0 refl (subst (λ k. ArePartsOf (length ns) under (take k ps)) many rest.0),
        raise-parts (length ns) bs (drop (length all) ps) (subst (λ k. ArePartsOf (length ns) bs (drop k ps)) many rest.1),
      )

  -- the lines of a tree
  pub tree-shows : (facts : List Fact) (ns : List Node)
      → close model t lemmas (facts ∷ []) ns ≡ true
      → LinesRefute model t lemmas facts (tree_lines model t facts ns)
  tree-shows facts ns h = go (tree_parts t (standing model t (first_branch facts ∷ []) ns)) (parts-show ns (first_branch facts ∷ []) h)
    where
      one : (p : Part) → IsPartOf (length ns) (first_branch facts) p → LinesRefute model t lemmas facts (part_lines p ++ [])
      one (IsClosed answer closing) is = (1, inl (record { closing = closing; line = refl; closes = is.1 }))
      one (IsOpen o) is = (length ns, subst (LinesRefuteWithin model t lemmas (length ns) facts) (sym (append-nil o.lines)) is.1)

      go : (ps : List Part) → ArePartsOf (length ns) (first_branch facts ∷ []) ps → LinesRefute model t lemmas facts (flat_map part_lines ps)
      go [] are = absurd are
      go (p ∷ []) are = one p are.0
      go (p ∷ (q ∷ ps)) are = absurd are.1

-- ---- lemmas

module _ (model : Model) (t : Litmus) (given : List Fact) where
  all-shown : (ls : List Lemma) (shown : List Lemma) (number : ℕ) (tree : List Node)
      → hold model t given shown ls ≡ true
      → close model t (shown ++ ls) (given ∷ []) tree ≡ true
      → LinesRefuteInTurn model t given shown number ls (lemmas_lines model t given number ls ++ tree_lines model t given tree)
  all-shown [] shown number tree h closes =
      tree-shows model t shown given tree (subst (λ l. close model t l (given ∷ []) tree ≡ true) (append-nil shown) closes)
  all-shown (l ∷ ls) shown number tree h closes =
      let both = and-both (close model t shown ((l.facts ++ given) ∷ []) l.tree) (hold model t given (shown ++ (l ∷ [])) ls) h in
      let part = tree_lines model t (l.facts ++ given) l.tree in
      let more = lemmas_lines model t given (number + 1) ls in
      let last = tree_lines model t given tree in
      record {
        part = part;
        rest = more ++ last;
        line = append_assoc (lemma_lines model t given number l) more last
            ∙ append_assoc (lemma_line t given number l ∷ []) (map deeper part) (more ++ last);
        refute = tree-shows model t shown (l.facts ++ given) l.tree both.0;
        others =
            all-shown ls (shown ++ (l ∷ [])) (number + 1) tree both.1
            (subst (λ k. close model t k (given ∷ []) tree ≡ true) (sym (append_assoc shown (l ∷ []) ls)) closes);
      }

pub printed-lines-refute : PrintedLinesRefute
printed-lines-refute model t lemmas tree h =
    let claim = asked_claim t.condition in
    let given = given_by t claim true in
    let both = and-both (hold model t given [] lemmas) (close model t lemmas (given ∷ []) tree) h in
    record {
      lines = refutation_lines model t claim lemmas tree;
      refute = record {
        lemmas = lemmas;
        rest = lemmas_lines model t given 1 lemmas ++ tree_lines model t given tree;
        given = refl;
        refute = all-shown model t given lemmas [] 1 tree both.0 both.1;
      };
      text = refl;
      object = refl;
    }
