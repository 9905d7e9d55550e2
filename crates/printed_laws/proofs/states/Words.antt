-- The word that is printed of a condition is that of its counts.
use Rattle.printed_laws.proofs.Vocabulary.{◌≡◌, ℕ, Bool, true, false, List, [], ◌∷◌, ◌++◌, get_or, refl, sym, ap, subst, ◌∙◌, arith, length}
use Rattle.printed_laws.proofs.Vocabulary.{Some, ◌==◌, cond, decimal, list_all, is_ascii_digit, append_cancel_left, append_cancel_right}
use Rattle.printed_laws.proofs.Vocabulary.{append_assoc, Data, string, no_members, member, object, compact_text, codes, line, test_line}
use Rattle.printed_laws.proofs.Vocabulary.{count, Litmus, Condition, Named, frequency, escape, escape_byte, states_value, observed_value}
use Rattle.printed_laws.proofs.Vocabulary.{observation_value, Outcome, outcomes_line, outcome_lines, condition_lines, held_in, failed_in}
use Rattle.printed_laws.proofs.Vocabulary.{true_in, is_met_in, printed_numbers, verdict_word, is_well, outcomes_verdict_value, outcomes_in}
use Rattle.printed_laws.proofs.Vocabulary.{unfinished_search_in, EndsInWord, HasWordInObject, PrintsWord}
use Rattle.search_report.specs.MetOutcomes.{met_json}
use Rattle.printed_laws.proofs.states.MetEnds.{no-word, numbers-in-line, said-flat, verdict-in-line}
use Rattle.printed_laws.proofs.texts.Cutting.{Stops, run-cut}
use Rattle.printed_laws.proofs.texts.Digits.{all-digits, is_other, number-no-space, both-other, last-cut}

-- ---- lines

frequency-is : (p : List ℕ → Bool)
    → p (codes "Never") ≡ true
    → p (codes "Always") ≡ true
    → p (codes "Sometimes") ≡ true
    → (held failed : ℕ) → p (frequency held failed) ≡ true
frequency-is p never always sometimes held failed = by (held == 0) (failed == 0)
  where
    by : (none all : Bool) → p (cond none (codes "Never") (cond all (codes "Always") (codes "Sometimes"))) ≡ true
    by true all = never
    by false true = always
    by false false = sometimes

frequency-no-space : (held failed : ℕ) → list_all (is_other 32) (frequency held failed) ≡ true
frequency-no-space = frequency-is (list_all (is_other 32)) refl refl refl

-- the last words of a line: what comes before, the word, and two numbers
grouped : (front word held failed : List ℕ) → front ++ (codes " " ++ (word ++ (codes " " ++ (held ++ (codes " " ++ line failed)))))
    ≡ ((front ++ 32 ∷ word) ++ 32 ∷ held) ++ 32 ∷ (failed ++ 10 ∷ [])
grouped front word held failed = simp append_assoc

-- the three last lines, behind all that comes before
three-flat : (test first states name word held failed numbers verdict : List ℕ)
    → test ++ (first ++ (states ++ ((codes "Observation " ++ (name ++ line (codes " " ++ (word ++ (codes " " ++ (held ++ (codes " " ++ failed)))))))
    ++ ((codes "True" ++ line numbers) ++ (codes "Verdict " ++ line verdict)))))
    ≡ (((((test ++ (first ++ (states ++ (codes "Observation " ++ name)))) ++ (codes " " ++ (word ++ (codes " " ++ (held ++ (codes " " ++ failed))))))
    ++ 10 ∷ (codes "True" ++ numbers)) ++ 10 ∷ (codes "Verdict " ++ verdict)) ++ 10 ∷ [])
three-flat test first states name word held failed numbers verdict = simp append_assoc

with-feed : (front word held failed : List ℕ) → (front ++ (codes " " ++ (word ++ (codes " " ++ (held ++ (codes " " ++ failed)))))) ++ 10 ∷ []
    ≡ front ++ (codes " " ++ (word ++ (codes " " ++ (held ++ (codes " " ++ line failed)))))
with-feed front word held failed = simp append_assoc

last-word : (front other word again : List ℕ) (h f k g : ℕ) → list_all (is_other 32) word ≡ true → list_all (is_other 32) again ≡ true
    → front ++ (codes " " ++ (word ++ (codes " " ++ (decimal h ++ (codes " " ++ line (decimal f))))))
    ≡ other ++ (codes " " ++ (again ++ (codes " " ++ (decimal k ++ (codes " " ++ line (decimal g)))))) → word ≡ again
last-word front other word again h f k g p q e =
    let flat = sym (grouped front word (decimal h) (decimal f)) ∙ (e ∙ grouped other again (decimal k) (decimal g)) in
    let failed =
    last-cut 32 _ _ _ _ (both-other 32 (decimal f) (10 ∷ []) (number-no-space f) refl)
    (both-other 32 (decimal g) (10 ∷ []) (number-no-space g) refl) flat in
    let held = last-cut 32 _ _ _ _ (number-no-space h) (number-no-space k) failed.0 in
    (last-cut 32 _ _ _ _ p q held.0).1

in-lines : (t : Litmus) (names : List Named) (condition : Condition) (depth : ℕ) (outcomes : List Outcome) (word : List ℕ) → list_all (is_other 32) word ≡ true
    → EndsInWord word (test_line t
    ++ (outcomes_line depth (length outcomes)
    ++ (outcome_lines t names outcomes ++ condition_lines t.name (Some condition) outcomes)))
    → frequency (held_in condition.claim outcomes) (failed_in condition.claim outcomes) ≡ word
in-lines t names condition depth outcomes word plain says =
    let h = held_in condition.claim outcomes in
    let f = failed_in condition.claim outcomes in
    let front = test_line t ++ (outcomes_line depth (length outcomes) ++ (outcome_lines t names outcomes ++ (codes "Observation " ++ t.name))) in
    let seen = codes " " ++ (frequency h f ++ (codes " " ++ (decimal h ++ (codes " " ++ decimal f)))) in
    let said = codes " " ++ (word ++ (codes " " ++ (decimal says.held ++ (codes " " ++ decimal says.failed)))) in
    let numbers = codes "True" ++ printed_numbers (true_in condition.claim outcomes) in
    let others = codes "True" ++ printed_numbers says.numbers in
    let claimed = is_well condition.quantifier (is_met_in (Some condition) outcomes) in
    let verdict = codes "Verdict " ++ verdict_word claimed in
    let other = codes "Verdict " ++ verdict_word says.as_claimed in
    let flat =
    sym (three-flat (test_line t) (outcomes_line depth (length outcomes)) (outcome_lines t names outcomes) t.name
    (frequency h f) (decimal h) (decimal f)
    (printed_numbers (true_in condition.claim outcomes)) (verdict_word claimed))
    ∙ (says.text ∙ said-flat says.front word (decimal says.held) (decimal says.failed) (printed_numbers says.numbers) (verdict_word says.as_claimed)) in
    let lines = append_cancel_right (((front ++ seen) ++ 10 ∷ numbers) ++ 10 ∷ verdict) (((says.front ++ said) ++ 10 ∷ others) ++ 10 ∷ other) (10 ∷ []) flat in
    let before =
    last-cut 10 ((front ++ seen) ++ 10 ∷ numbers) ((says.front ++ said) ++ 10 ∷ others) verdict other
    (verdict-in-line claimed) (verdict-in-line says.as_claimed) lines in
    let first =
    last-cut 10 (front ++ seen) (says.front ++ said) numbers others
    (numbers-in-line (true_in condition.claim outcomes)) (numbers-in-line says.numbers) before.0 in
    last-word front says.front (frequency h f) word h f says.held says.failed (frequency-no-space h f) plain
    (sym (with-feed front (frequency h f) (decimal h) (decimal f))
    ∙ (ap (λ (l : List ℕ). l ++ 10 ∷ []) first.0
    ∙ with-feed says.front word (decimal says.held) (decimal says.failed)))

-- ---- JSON

frequency-plain : (held failed : ℕ) → escape (frequency held failed) ≡ frequency held failed
unfolding escape_byte
frequency-plain held failed = by (held == 0) (failed == 0)
  where
    by : (never always : Bool)
        → escape (cond never (codes "Never") (cond always (codes "Always") (codes "Sometimes")))
        ≡ cond never (codes "Never") (cond always (codes "Always") (codes "Sometimes"))
    by true always = refl
    by false true = refl
    by false false = refl

observed-text : (held failed : ℕ)
    → compact_text (observed_value held failed)
    ≡ codes "{\"false\":"
    ++ (decimal failed
    ++ (codes ",\"true\":" ++ (decimal held ++ (codes ",\"word\":\"" ++ (frequency held failed ++ codes "\"}")))))
unfolding escape_byte
observed-text held failed =
    let before : List ℕ → List ℕ = λ rest.
    codes "{\"false\":"
    ++ (decimal failed ++ (codes ",\"true\":" ++ (decimal held ++ (codes ",\"word\":\"" ++ rest)))) in
    ap before (append_assoc (escape (frequency held failed)) (34 ∷ []) (125 ∷ []))
    ∙ ap (λ (word : List ℕ). before (word ++ codes "\"}")) (frequency-plain held failed)

object-flat : (depth failed held word states name verdict : List ℕ)
    → line (codes "{\"depth\":"
    ++ (depth
    ++ (codes ",\"observation\":"
    ++ ((codes "{\"false\":"
    ++ (failed ++ (codes ",\"true\":" ++ (held ++ (codes ",\"word\":\"" ++ (word ++ codes "\"}"))))))
    ++ (codes ",\"states\":" ++ (states ++ (codes ",\"test\":" ++ (name ++ (codes ",\"verdict\":" ++ (verdict ++ codes "}"))))))))))
    ≡ codes "{\"depth\":" ++ (depth ++ (codes ",\"observation\":{\"false\":" ++ (failed ++ (codes ",\"true\":" ++ (held ++ (codes ",\"word\":\"" ++ (word
    ++ (34 ∷ (codes "}" ++ (codes ",\"states\":" ++ (states ++ (codes ",\"test\":" ++ (name ++ (codes ",\"verdict\":" ++ (verdict ++ codes "}\n")))))))))))))))
object-flat depth failed held word states name verdict = simp append_assoc

-- the object, where the test has a condition
abbrev pub object_value : Litmus → List Named → Condition → ℕ → List Outcome → Data
object_value t names condition depth outcomes =
    object (member (codes "depth") (count depth)
    (member (codes "observation") (observation_value (Some condition) outcomes)
    (member (codes "states") (states_value t names outcomes)
    (member (codes "test") (string t.name)
    (member (codes "verdict") (outcomes_verdict_value (Some condition) (is_met_in (Some condition) outcomes)) no_members)))))

object-text : (t : Litmus) (names : List Named) (condition : Condition) (depth : ℕ) (outcomes : List Outcome)
    → line (compact_text (object_value t names condition depth outcomes))
    ≡ line (codes "{\"depth\":"
    ++ (decimal depth
    ++ (codes ",\"observation\":"
    ++ (compact_text (observed_value (held_in condition.claim outcomes) (failed_in condition.claim outcomes))
    ++ (codes ",\"states\":" ++ (compact_text (states_value t names outcomes) ++ (codes ",\"test\":" ++ (compact_text (string t.name)
    ++ (codes ",\"verdict\":" ++ (compact_text (outcomes_verdict_value (Some condition) (is_met_in (Some condition) outcomes)) ++ codes "}"))))))))))
unfolding escape_byte
object-text t names condition depth outcomes = refl

-- the word of an object comes before a quotation mark, and has none
abbrev pub is_unquoted : ℕ → Bool
is_unquoted = is_other 34

same-word : (depth other failed other_failed held other_held : ℕ) (word again back rest : List ℕ)
    → list_all is_unquoted word ≡ true
    → list_all is_unquoted again ≡ true
    → codes "{\"depth\":"
    ++ (decimal depth
    ++ (codes ",\"observation\":{\"false\":"
    ++ (decimal failed ++ (codes ",\"true\":" ++ (decimal held ++ (codes ",\"word\":\"" ++ (word ++ 34 ∷ back)))))))
    ≡ codes "{\"depth\":"
    ++ (decimal other
    ++ (codes ",\"observation\":{\"false\":"
    ++ (decimal other_failed
    ++ (codes ",\"true\":" ++ (decimal other_held ++ (codes ",\"word\":\"" ++ (again ++ 34 ∷ rest)))))))
    → word ≡ again
same-word depth other failed other_failed held other_held word again back rest p q e =
    let cut =
    λ (front : List ℕ) (m n : ℕ) (xs ys : List ℕ) (stops : Stops xs) (stops' : Stops ys) (same : front ++ (decimal m ++ xs) ≡ front ++ (decimal n ++ ys)).
    (run-cut is_ascii_digit (decimal m) (decimal n) xs ys (all-digits m) (all-digits n) stops stops' (append_cancel_left front _ _ same)).1 in
    let after_depth = cut (codes "{\"depth\":") depth other _ _ refl refl e in
    let after_failed = cut (codes ",\"observation\":{\"false\":") failed other_failed _ _ refl refl after_depth in
    let after_held = cut (codes ",\"true\":") held other_held _ _ refl refl after_failed in
    let words = append_cancel_left (codes ",\"word\":\"") (word ++ 34 ∷ back) (again ++ 34 ∷ rest) after_held in
    (run-cut is_unquoted word again (34 ∷ back) (34 ∷ rest) p q refl refl words).0

frequency-unquoted : (held failed : ℕ) → list_all is_unquoted (frequency held failed) ≡ true
frequency-unquoted = frequency-is (list_all is_unquoted) refl refl refl

in-object : (t : Litmus) (names : List Named) (condition : Condition) (depth : ℕ) (outcomes : List Outcome) (word : List ℕ) → list_all is_unquoted word ≡ true
    → HasWordInObject word (line (compact_text (object_value t names condition depth outcomes)))
    → frequency (held_in condition.claim outcomes) (failed_in condition.claim outcomes) ≡ word
in-object t names condition depth outcomes word plain says =
    let h = held_in condition.claim outcomes in
    let f = failed_in condition.claim outcomes in
    let verdict = compact_text (outcomes_verdict_value (Some condition) (is_met_in (Some condition) outcomes)) in
    let flat = object-text t names condition depth outcomes
    ∙ ap (λ (l : List ℕ).
    line (codes "{\"depth\":"
    ++ (decimal depth
    ++ (codes ",\"observation\":" ++ (l ++ (codes ",\"states\":" ++ (compact_text (states_value t names outcomes)
    ++ (codes ",\"test\":" ++ (compact_text (string t.name) ++ (codes ",\"verdict\":" ++ (verdict ++ codes "}"))))))))))) (observed-text h f)
    ∙ object-flat (decimal depth) (decimal f) (decimal h) (frequency h f) (compact_text (states_value t names outcomes))
    (compact_text (string t.name)) verdict in
    same-word depth says.depth f says.failed h says.held (frequency h f) word _ _ (frequency-unquoted h f) plain (sym flat ∙ says.text)

third-byte : (t : Litmus) (names : List Named) (limit : ℕ) (outcomes : List Outcome) → get_or (met_json t names limit outcomes) 2 0 ≡ 109
unfolding escape_byte
third-byte t names limit outcomes = refl

no-word-in-object : (t : Litmus) (names : List Named) (limit : ℕ) (outcomes : List Outcome) (word : List ℕ)
    → HasWordInObject word (met_json t names limit outcomes)
    → ⊥
no-word-in-object t names limit outcomes word says = omega (arith, sym (third-byte t names limit outcomes) ∙ ap (λ (l : List ℕ). get_or l 2 0) says.text)

-- ---- either form

-- what is printed as JSON of a test with this condition; the states stay as they are
of-condition : (t : Litmus) (names : List Named) (condition : Condition) (depth : ℕ) (outcomes : List Outcome) → t.condition ≡ Some condition
    → outcomes_in true t names depth outcomes ≡ line (compact_text (object_value t names condition depth outcomes))
of-condition t names condition depth outcomes is =
    ap (λ c. line (compact_text (object (member (codes "depth") (count depth) (member (codes "observation") (observation_value c outcomes)
    (member (codes "states") (states_value t names outcomes)
    (member (codes "test") (string t.name) (member (codes "verdict") (outcomes_verdict_value c (is_met_in c outcomes)) no_members))))))))
    is

pub word-is : (json : Bool) (t : Litmus) (names : List Named) (condition : Condition) (depth : ℕ)
    (outcomes : List Outcome) (word : List ℕ)
    → t.condition ≡ Some condition
    → list_all (is_other 32) word ≡ true → list_all is_unquoted word ≡ true
    → PrintsWord json word (outcomes_in json t names depth outcomes) → frequency (held_in condition.claim outcomes) (failed_in condition.claim outcomes) ≡ word
word-is false t names condition depth outcomes word is plain unquoted says =
    in-lines t names condition depth outcomes word plain
    (subst (λ c.
    EndsInWord word (test_line t
    ++ (outcomes_line depth (length outcomes)
    ++ (outcome_lines t names outcomes ++ condition_lines t.name c outcomes))))
    is says)
word-is true t names condition depth outcomes word is plain unquoted says =
    in-object t names condition depth outcomes word unquoted
    (subst (λ (text : List ℕ). HasWordInObject word text) (of-condition t names condition depth outcomes is) says)

pub word-isnt : (json : Bool) (t : Litmus) (names : List Named) (condition : Condition) (limit : ℕ)
    (outcomes : List Outcome) (word : List ℕ)
    → t.condition ≡ Some condition
    → PrintsWord json word (unfinished_search_in json t names limit outcomes) → ⊥
word-isnt false t names condition limit outcomes word is says = no-word t names condition limit outcomes word is says
word-isnt true t names condition limit outcomes word is says = no-word-in-object t names limit outcomes word says
