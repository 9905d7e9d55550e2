-- The object of a step tells the step: each member is read as the part of a line that has the same words.
use Rattle.printed_laws.proofs.Vocabulary.{◌≡◌, ℕ, List, [], ◌∷◌, ◌++◌, get_or, refl, sym, ap, ◌∙◌, suc, ◌≤◌, Option, arith, Some, None}
use Rattle.printed_laws.proofs.Vocabulary.{◌==◌, map, if◌then◌else◌, IfSome, Data, string, outline, codes, Litmus, IsTest, IsReadable}
use Rattle.printed_laws.proofs.Vocabulary.{Entry, printed_entry, printed_choice, Core, AccessKind, access_name, line_name, entries_text}
use Rattle.printed_laws.proofs.Vocabulary.{moved_text, access_text, request_text, flush_text, write_back_text, changes_text, stall_name}
use Rattle.printed_laws.proofs.Vocabulary.{printed_move, printed_request, printed_core, printed_change, LineRequest, StateChange}
use Rattle.printed_laws.proofs.Vocabulary.{option_map, Stall, Done, Committed, Buffered, Moved, Asked, Stalled, TraceStepFits}
use Rattle.printed_laws.proofs.Vocabulary.{told_by_object, SourceFits, ObjectsTellTheirSteps, text_or_null, outcome_word, stall_in}
use Rattle.printed_laws.proofs.Vocabulary.{step_json, ShownStep}
use Rattle.json.specs.Json as json
use Rattle.tso_terms.specs.declared.choice.Outcome.{Outcome}
use Rattle.trace_report.specs.declared.step.Moved as move
use Rattle.trace_report.specs.Supplied.{supplier_text}
use Rattle.trace_report.specs.declared.supplied.Source.{Source}
use Rattle.trace_report.specs.declared.supplied.Source.TheVariants.{Buffer, Cache, Other, Bus as OnBus, Memory}
use Rattle.printed_laws.proofs.texts.Cutting.{unlike}
use Rattle.printed_laws.proofs.json.JsonTexts.{items_in, truth_in, value_at, text_at, texts_of, texts-there, words-there}
use Rattle.printed_laws.proofs.json.JsonReading.{ReadsBack, back-at, each-back, strings-back, text-back, text-told}
use Rattle.printed_laws.proofs.steps.TraceWords.{choice-cut}
use Rattle.printed_laws.proofs.steps.TraceParts.{Follows, entries-cut, moved-cut, access-cut, request-cut, flush-cut, write-back-cut, changes-cut}
use Rattle.printed_laws.proofs.steps.TraceLines.{core-small, changes-fit, stall_by}

-- ---- what is in a value

-- a text, or none
abbrev text_of : json.Json → Option (List ℕ)
text_of (json.string s) = Some s
text_of _ = None

text-there : (o : Option (List ℕ)) → text_of (outline (text_or_null o)) ≡ o
text-there None = refl
text-there (Some text) = refl

pub option-told : (a b : Option (List ℕ)) → outline (text_or_null a) ≡ outline (text_or_null b) → a ≡ b
option-told a b e = sym (text-there a) ∙ (ap text_of e ∙ text-there b)

-- ---- each member as a part of a line

-- a part that may be missing, after a space
abbrev spaced : Option (List ℕ) → List ℕ
spaced None = []
spaced (Some text) = codes " " ++ text

-- parts, each after a space
abbrev pub each_spaced : List (List ℕ) → List ℕ
each_spaced [] = []
each_spaced (x ∷ xs) = codes " " ++ (x ++ each_spaced xs)

abbrev each_grouped : List (List ℕ) → List ℕ
each_grouped [] = []
each_grouped (x ∷ xs) = (codes " " ++ x) ++ each_grouped xs

nothing-follows : (number : ℕ) → number ≤ 10 → Follows number []
nothing-follows number small = record { ends = tt; later = small }

access-part : (a : Option AccessKind) → access_text a ≡ spaced (option_map access_name a)
access-part None = refl
access-part (Some a) = refl

moved-part : (m : Option move.Moved) → moved_text m ≡ spaced (option_map printed_move m)
moved-part None = refl
moved-part (Some m) = refl

request-part : (t : Litmus) (words : ℕ) (r : Option LineRequest) → request_text t words r ≡ spaced (option_map (printed_request t words) r)
request-part t words None = refl
request-part t words (Some r) = refl

-- ` flush P1`
abbrev flush_of : Option (List ℕ) → List ℕ
flush_of None = []
flush_of (Some core) = codes " flush " ++ core

flush-part : (core : Option Core) → flush_text core ≡ flush_of (option_map printed_core core)
flush-part None = refl
flush-part (Some core) = refl

abbrev write_back_of : Option (List ℕ) → List ℕ
write_back_of None = []
write_back_of (Some line) = codes " write-back " ++ line

write-back-part : (t : Litmus) (words : ℕ) (line : Option ℕ) → write_back_text t words line ≡ write_back_of (option_map (line_name t words) line)
write-back-part t words None = refl
write-back-part t words (Some line) = refl

entries-part : (t : Litmus) (es : List Entry) → entries_text t es ≡ each_spaced (map (printed_entry t) es)
entries-part t [] = refl
entries-part t (e ∷ es) = ap (λ (l : List ℕ). codes " " ++ (printed_entry t e ++ l)) (entries-part t es)

changes-part : (t : Litmus) (words : ℕ) (cs : List StateChange) → changes_text t words cs ≡ each_grouped (map (printed_change t words) cs)
changes-part t words [] = refl
changes-part t words (c ∷ cs) = ap (λ (l : List ℕ). (codes " " ++ printed_change t words c) ++ l) (changes-part t words cs)

-- texts that are alike are alike with nothing behind them
alone : (xs ys : List ℕ) → xs ≡ ys → xs ++ [] ≡ ys ++ []
alone xs ys same = ap (λ (l : List ℕ). l ++ []) same

-- ---- the outcome

abbrev read_stall : List ℕ → Stall
read_stall text = stall_by (get_or text 0 0) (get_or text 1 0)

stall-again : (why : Stall) → read_stall (stall_name why) ≡ why
stall-again Done = refl
stall-again why = refl

-- of its word and the word of its stall
abbrev outcome_from : List ℕ → Option (List ℕ) → Outcome
outcome_from word (Some why) = Stalled (read_stall why)
outcome_from word None =
    let first = get_or word 0 0 in
    if first == 99 then Committed else if first == 98 then Buffered else if first == 109 then Moved else Asked

outcome-there : (o : Outcome) → outcome_from (outcome_word o) (option_map stall_name (stall_in o)) ≡ o
outcome-there (Stalled why) = ap Stalled (stall-again why)
outcome-there o = refl

outcome-told : (a b : Outcome) → outcome_word a ≡ outcome_word b → option_map stall_name (stall_in a) ≡ option_map stall_name (stall_in b) → a ≡ b
outcome-told a b word stall = sym (outcome-there a) ∙ ((λ i. outcome_from (word i) (stall i)) ∙ outcome-there b)

-- ---- the object

pub step-told : (t : Litmus) (words : ℕ) (a b : ShownStep) (u v : Option Source) (after other : Data)
    → IsTest t
    → TraceStepFits t words a
    → TraceStepFits t words b
    → outline (step_json t words a u after) ≡ outline (step_json t words b v other) → (told_by_object a ≡ told_by_object b) × (outline after ≡ outline other)
step-told t words a b u v after other test p q same =
    let texts = λ (n : ℕ) (x y : Option (List ℕ)) (e : outline (text_or_null x) ≡ outline (text_or_null y)). option-told x y e in
    let access_same = texts 0 (option_map access_name a.access) (option_map access_name b.access) (ap (value_at 0) same) in
    let access = access-cut a.access b.access [] [] (nothing-follows 5 (omega arith)) (nothing-follows 5 (omega arith))
    (alone (access_text a.access) (access_text b.access) (access-part a.access ∙ (ap spaced access_same ∙ sym (access-part b.access)))) in
    let choice = choice-cut a.choice b.choice [] [] (core-small t words a.choice p.chosen_core) (core-small t words b.choice q.chosen_core)
    (alone (printed_choice a.choice) (printed_choice b.choice) (ap (text_at 2) same)) in
    let entries_same : map (printed_entry t) a.entries ≡ map (printed_entry t) b.entries =
    sym (texts-there (printed_entry t) a.entries)
    ∙ (ap (λ (j : json.Json). texts_of (items_in (value_at 3 j))) same ∙ texts-there (printed_entry t) b.entries) in
    let entries = entries-cut t a.entries b.entries [] [] test p.entries q.entries (nothing-follows 2 (omega arith)) (nothing-follows 2 (omega arith))
    (alone (entries_text t a.entries) (entries_text t b.entries) (entries-part t a.entries ∙ (ap each_spaced entries_same ∙ sym (entries-part t b.entries)))) in
    let flushed_same = texts 4 (option_map printed_core a.flushed) (option_map printed_core b.flushed) (ap (value_at 4) same) in
    let flushed = flush-cut a.flushed b.flushed [] [] p.flushed q.flushed (nothing-follows 7 (omega arith)) (nothing-follows 7 (omega arith))
    (alone (flush_text a.flushed) (flush_text b.flushed) (flush-part a.flushed ∙ (ap flush_of flushed_same ∙ sym (flush-part b.flushed)))) in
    let forwarded : a.forwarded ≡ b.forwarded = ap (λ (j : json.Json). truth_in (value_at 5 j)) same in
    let moved_same = texts 6 (option_map printed_move a.moved) (option_map printed_move b.moved) (ap (value_at 6) same) in
    let moved = moved-cut a.moved b.moved [] [] p.moved q.moved (nothing-follows 3 (omega arith)) (nothing-follows 3 (omega arith))
    (alone (moved_text a.moved) (moved_text b.moved) (moved-part a.moved ∙ (ap spaced moved_same ∙ sym (moved-part b.moved)))) in
    let stall_same = texts 8 (option_map stall_name (stall_in a.outcome)) (option_map stall_name (stall_in b.outcome)) (ap (value_at 8) same) in
    let outcome = outcome-told a.outcome b.outcome (ap (text_at 7) same) stall_same in
    let changes_same : map (printed_change t words) a.changes ≡ map (printed_change t words) b.changes =
    sym (words-there (map (printed_change t words) a.changes))
    ∙ (ap (λ (j : json.Json). texts_of (items_in (value_at 9 j))) same
    ∙ words-there (map (printed_change t words) b.changes)) in
    let changes =
    changes-cut t words a.changes b.changes [] [] test (changes-fit t words a p) (changes-fit t words b q)
    (nothing-follows 9 (omega arith)) (nothing-follows 9 (omega arith))
    (alone (changes_text t words a.changes) (changes_text t words b.changes)
    (changes-part t words a.changes ∙ (ap each_grouped changes_same ∙ sym (changes-part t words b.changes)))) in
    let request_same = texts 11 (option_map (printed_request t words) a.request) (option_map (printed_request t words) b.request) (ap (value_at 11) same) in
    let request =
    request-cut t words a.request b.request [] [] test p.known.request q.known.request
    (nothing-follows 6 (omega arith)) (nothing-follows 6 (omega arith))
    (alone (request_text t words a.request) (request_text t words b.request)
    (request-part t words a.request ∙ (ap spaced request_same ∙ sym (request-part t words b.request)))) in
    let wrote_back_same = texts 12 (option_map (line_name t words) a.wrote_back) (option_map (line_name t words) b.wrote_back) (ap (value_at 12) same) in
    let wrote_back =
    write-back-cut t words a.wrote_back b.wrote_back [] [] test p.known.wrote_back q.known.wrote_back
    (nothing-follows 8 (omega arith)) (nothing-follows 8 (omega arith))
    (alone (write_back_text t words a.wrote_back) (write_back_text t words b.wrote_back)
    (write-back-part t words a.wrote_back ∙ (ap write_back_of wrote_back_same ∙ sym (write-back-part t words b.wrote_back)))) in (
      (λ i. record {
        choice = choice.0 i;
        outcome = outcome i;
        entries = entries.0 i;
        moved = moved.0 i;
        forwarded = forwarded i;
        access = access.0 i;
        request = request.0 i;
        flushed = flushed.0 i;
        wrote_back = wrote_back.0 i;
        changes = changes.0 i;
        buffer = None;
      }),
      ap (value_at 1) same,
    )

-- ---- its text is read back

pub step-back : (levels : ℕ) (t : Litmus) (words : ℕ) (s : ShownStep) (u : Option Source) (after : Data) → ReadsBack (suc levels) (outline after)
    → ReadsBack (suc (suc levels)) (outline (step_json t words s u after))
step-back levels t words s u after deep =
    let text = text-back (suc levels) in
    let entries = each-back levels (λ e. string (printed_entry t e)) s.entries (λ e. tt) in
    let changes = strings-back levels (map (printed_change t words) s.changes) in
    let request = text (option_map (printed_request t words) s.request) in
    let wrote_back = text (option_map (line_name t words) s.wrote_back) in
    let access = text (option_map access_name s.access) in
    let flushed = text (option_map printed_core s.flushed) in
    let moved = text (option_map printed_move s.moved) in
    let stall = text (option_map stall_name (stall_in s.outcome)) in
    let supplied = text (option_map supplier_text u) in
    (access, (deep, (tt, (entries, (flushed, (tt, (moved, (tt, (stall, (changes, (supplied, (request, (wrote_back, tt)))))))))))))

-- ---- where a word is found

-- by the third letter of its name, where that is no core's
abbrev read_source : List ℕ → Source
read_source text =
    let third = get_or text 2 0 in
    if third == 102 then Buffer else if third == 99 then Cache else if third == 115 then OnBus else Memory

plain-told : (a b : Source) → read_source (supplier_text a) ≡ a → read_source (supplier_text b) ≡ b → supplier_text a ≡ supplier_text b → a ≡ b
plain-told a b again again' same = sym again ∙ (ap read_source same ∙ again')

-- a core's name begins with P, and no other with it
source-told : (a b : Source) → SourceFits a → SourceFits b → supplier_text a ≡ supplier_text b → a ≡ b
source-told (Other i) (Other j) p q same =
    let cut = flush-cut (Some i) (Some j) [] [] p q (nothing-follows 7 (omega arith)) (nothing-follows 7 (omega arith))
    (alone (flush_text (Some i)) (flush_text (Some j)) (ap (λ (l : List ℕ). codes " flush " ++ l) same)) in
    ap by_core cut.0
  where
    by_core : Option Core → Source
    by_core None = Memory
    by_core (Some core) = Other core
source-told (Other i) b p q same = unlike 0 (supplier_text (Other i)) (supplier_text b) refl same
source-told a (Other j) p q same = unlike 0 (supplier_text a) (supplier_text (Other j)) refl same
source-told a b p q same = plain-told a b refl refl same

supplied-told : (u v : Option Source) → IfSome u SourceFits → IfSome v SourceFits → option_map supplier_text u ≡ option_map supplier_text v → u ≡ v
supplied-told None None p q same = refl
supplied-told None (Some b) p q same = let z : ⊥ = cc in absurd z
supplied-told (Some a) None p q same = let z : ⊥ = cc in absurd z
supplied-told (Some a) (Some b) p q same = ap Some (source-told a b p q (ap text_or_nothing same))
  where
    text_or_nothing : Option (List ℕ) → List ℕ
    text_or_nothing None = []
    text_or_nothing (Some text) = text

-- of a value that is in the object
inner-back : (d : Data) → IsReadable 100 d → ReadsBack 127 (outline d)
inner-back d readable = let deep = readable.depth in back-at 127 (outline d) readable.numbers (omega (arith, deep))

pub objects-tell : ObjectsTellTheirSteps
objects-tell t words a b u v after other test p q f g readable readable' e =
    let x = step-back 126 t words a u after (inner-back after readable) in
    let y = step-back 126 t words b v other (inner-back other readable') in
    let same = text-told (step_json t words a u after) (step_json t words b v other) x y e in
    let told = step-told t words a b u v after other test p q same in
    (told.0, (supplied-told u v f g (option-told (option_map supplier_text u) (option_map supplier_text v) (ap (value_at 10) same)), told.1))
