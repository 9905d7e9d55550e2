-- The lines of a trace tell its steps.
use Rattle.printed_laws.proofs.Vocabulary.{◌≡◌, ℕ, ◌^◌, ◌<◌, false, List, [], ◌∷◌, ◌++◌, get_or, refl, sym, ap, subst, ◌∙◌, Option, arith}
use Rattle.printed_laws.proofs.Vocabulary.{length, All, Some, None, ◌==◌, map, if◌then◌else◌, IfSome, decimal, is_ascii_digit}
use Rattle.printed_laws.proofs.Vocabulary.{append_cancel_left, append_assoc, length-map, codes, Litmus, IsTest, continues_name, All-head}
use Rattle.printed_laws.proofs.Vocabulary.{Entry, HasWord, Choice, Drain, printed_choice, chosen, all_of_location, IsLine, IsAt}
use Rattle.printed_laws.proofs.Vocabulary.{entries_text, moved_text, forwarded_text, access_text, request_text, flush_text, write_back_text}
use Rattle.printed_laws.proofs.Vocabulary.{changes_text, outcome_name, store_text, later_stores, stores_text, buffer_text, step_lines}
use Rattle.printed_laws.proofs.Vocabulary.{StateChange, option_map, Stall, Done, Full, Empty, Committed, Buffered, Moved, Asked, Stalled}
use Rattle.printed_laws.proofs.Vocabulary.{bare_store, told_by_line, TraceStepFits, TracesTellTheirSteps, trace_step_line, ShownStep}
use Rattle.basic_laws.specs.Types.{Step, Outcome}
use Rattle.tso_terms.specs.declared.choice.Stall.TheVariants.{Fence, Lock, Bus}
use Rattle.protocol_tables.specs.PrintedTable.{line}
use Rattle.printed_laws.proofs.texts.Cutting.{Stops, unlike, run-cut}
use Rattle.printed_laws.proofs.texts.Lists.{Tells, list-cut, both-fit}
use Rattle.printed_laws.proofs.texts.Digits.{all-digits}
use Rattle.printed_laws.proofs.steps.TraceWords.{Ends, read-cut, core_in, choice-cut, same-loc, value-cut}
use Rattle.printed_laws.proofs.steps.TraceParts.{Follows, rank, missing, core-rank, is-part, earlier, ending-follows, ChangeFits}
use Rattle.printed_laws.proofs.steps.TraceParts.{moved-follows, forwarded-follows, access-follows, request-follows, flush-follows}
use Rattle.printed_laws.proofs.steps.TraceParts.{write-back-follows, changes-follow, entries-cut, moved-cut, forwarded-cut, access-cut}
use Rattle.printed_laws.proofs.steps.TraceParts.{request-cut, flush-cut, write-back-cut, changes-cut}

-- ---- the outcome

abbrev pub stall_by : ℕ → ℕ → Stall
stall_by first second =
    if first == 68
    then Done
    else if first == 76
    then Lock
    else if first == 69
    then Empty
    else if first == 66
    then Bus
    else if second == 117
    then Full
    else Fence

abbrev read_outcome : List ℕ → Outcome
read_outcome text =
    let first = get_or text 0 0 in
    if first == 99 then Committed else if first == 98 then Buffered else if first == 109 then Moved else if first == 97 then Asked
    else Stalled (stall_by (get_or text 8 0) (get_or text 9 0))

outcome-again : (o : Outcome) (rest : List ℕ) → read_outcome (outcome_name o ++ rest) ≡ o
outcome-again (Stalled Done) rest = refl
outcome-again o rest = refl

-- ---- the buffer

-- a store of this test that may be pending
abbrev pub StoreFits : Litmus → Entry → Type 0
StoreFits t e = (e.loc.0 < length t.locations) × (e.value < 2 ^ 32)

store-flat : (name value more : List ℕ) → (codes " " ++ (name ++ (codes "=" ++ value))) ++ more ≡ codes " " ++ (name ++ (codes "=" ++ (value ++ more)))
store-flat name value more = simp append_assoc

-- the text begins as what comes after a list of stores does
abbrev EndsStores : List ℕ → Type 0
EndsStores rest = Ends rest × ((32 == get_or rest 0 0) ≡ false)

later-end : (t : Litmus) (es : List Entry) (rest : List ℕ) → EndsStores rest → Ends (later_stores t es ++ rest)
later-end t [] rest ends = ends.0
later-end t (e ∷ es) rest ends = refl

same-store : (x y : Entry) → x.loc.0 ≡ y.loc.0 → x.value ≡ y.value → bare_store x ≡ bare_store y
same-store x y loc value =
    let locs = same-loc x.loc y.loc loc in
    λ i. bare_store (record { core = x.core; place = x.place; kind = x.kind; loc = locs i; value = value i })

store-cut : (t : Litmus) → IsTest t → Tells (StoreFits t) Ends (λ e. codes " " ++ store_text t e) bare_store
store-cut t test x y rest other p q ends ends' e =
    let name = λ (s : Entry). get_or t.locations s.loc.0 [] in
    let flat = sym (store-flat (name x) (decimal x.value) rest) ∙ (e ∙ store-flat (name y) (decimal y.value) other) in
    let cut = value-cut t x.loc.0 y.loc.0 x.value y.value rest other test p.0 q.0 p.1 q.1 ends ends' (append_cancel_left (codes " ") _ _ flat) in
    (same-store x y cut.0 cut.1, cut.2)

pub later-cut : (t : Litmus) (xs ys : List Entry) (rest other : List ℕ) → IsTest t → All (StoreFits t) xs → All (StoreFits t) ys
    → later_stores t xs ++ 93 ∷ rest ≡ later_stores t ys ++ 93 ∷ other → (map bare_store xs ≡ map bare_store ys) × (rest ≡ other)
later-cut t xs ys rest other test p q e =
    let cut =
    list-cut (StoreFits t) Ends EndsStores (λ n e. codes " " ++ store_text t e) (λ n. later_stores t) bare_store
    (λ n. refl) (λ n e es. refl) (λ n. store-cut t test)
    (λ n es rest all ends. later-end t es rest ends)
    (λ n e more rest fits ends same. unlike 0 _ rest ends.1 same) 0 xs ys (93 ∷ rest) (93 ∷ other) p q (refl, refl)
    (refl, refl) e in
    (cut.0, append_cancel_left (93 ∷ []) rest other cut.1)

first-flat : (name value more rest : List ℕ) → ((name ++ (codes "=" ++ value)) ++ more) ++ rest ≡ name ++ 61 ∷ (value ++ (more ++ rest))
first-flat name value more rest = simp append_assoc

-- a text of stores doesn't begin with the bracket behind it
some-store : {A : Type 0} (t : Litmus) (x : Entry) (xs : List Entry) (rest other : List ℕ)
    → IsTest t
    → StoreFits t x
    → (store_text t x ++ later_stores t xs) ++ 93 ∷ rest ≡ 93 ∷ other
    → A
some-store t x xs rest other test p e =
    let name = get_or t.locations x.loc.0 [] in
    let behind = decimal x.value ++ (later_stores t xs ++ 93 ∷ rest) in
    let flat = sym (first-flat name (decimal x.value) (later_stores t xs) (93 ∷ rest)) ∙ e in
    unlike 0 (61 ∷ behind) (93 ∷ other) refl
    (run-cut continues_name name [] (61 ∷ behind) (93 ∷ other) (all_of_location t x.loc.0 test p.0) refl refl refl flat).1

-- with a space before the first, stores are as those after others
stores-cut : (t : Litmus) (xs ys : List Entry) (rest other : List ℕ) → IsTest t → All (StoreFits t) xs → All (StoreFits t) ys
    → stores_text t xs ++ 93 ∷ rest ≡ stores_text t ys ++ 93 ∷ other → (map bare_store xs ≡ map bare_store ys) × (rest ≡ other)
stores-cut t [] [] rest other test p q e = (refl, append_cancel_left (93 ∷ []) rest other e)
stores-cut t [] (y ∷ ys) rest other test p q e = some-store t y ys other rest test (All-head (StoreFits t) y ys q) (sym e)
stores-cut t (x ∷ xs) [] rest other test p q e = some-store t x xs rest other test (All-head (StoreFits t) x xs p) e
stores-cut t (x ∷ xs) (y ∷ ys) rest other test p q e = later-cut t (x ∷ xs) (y ∷ ys) rest other test p q (ap (λ (l : List ℕ). codes " " ++ l) e)

buffer-flat : (core stores rest : List ℕ)
    → (codes " P" ++ (core ++ (codes "[" ++ (stores ++ codes "]")))) ++ rest
    ≡ codes " P" ++ (core ++ 91 ∷ (stores ++ 93 ∷ rest))
buffer-flat core stores rest = simp append_assoc

buffer-rank : (t : Litmus) (core : ℕ) (stores : List Entry) (rest : List ℕ) → rank (buffer_text t core (Some stores) ++ rest) ≡ 9
buffer-rank t core stores rest = ap rank (buffer-flat (decimal core) (stores_text t stores) rest) ∙ core-rank core (stores_text t stores ++ 93 ∷ rest) 91 refl

buffer-follows : (t : Litmus) (core : ℕ) (b : Option (List Entry)) (rest : List ℕ) → Follows 10 rest → Follows 9 (buffer_text t core b ++ rest)
buffer-follows t core None rest f = earlier 9 rest f
buffer-follows t core (Some stores) rest f = is-part 9 (buffer_text t core (Some stores) ++ rest) refl (buffer-rank t core stores rest)

abbrev BufferFits : Litmus → Option (List Entry) → Type 0
BufferFits t b = IfSome b (All (StoreFits t))

buffer-cut : (t : Litmus) (core : ℕ) (a b : Option (List Entry)) (rest other : List ℕ)
    → IsTest t
    → BufferFits t a
    → BufferFits t b
    → Follows 10 rest
    → Follows 10 other
    → buffer_text t core a ++ rest ≡ buffer_text t core b ++ other → (option_map (map bare_store) a ≡ option_map (map bare_store) b) × (rest ≡ other)
buffer-cut t core None None rest other test p q f f' e = (refl, e)
buffer-cut t core None (Some b) rest other test p q f f' e = missing 9 (buffer_text t core (Some b) ++ other) rest (buffer-rank t core b other) f (sym e)
buffer-cut t core (Some a) None rest other test p q f f' e = missing 9 (buffer_text t core (Some a) ++ rest) other (buffer-rank t core a rest) f' e
buffer-cut t core (Some a) (Some b) rest other test p q f f' e =
    let flat = sym (buffer-flat (decimal core) (stores_text t a) rest) ∙ (e ∙ buffer-flat (decimal core) (stores_text t b) other) in
    let numbered =
    append_cancel_left (codes " P") (decimal core ++ 91 ∷ (stores_text t a ++ 93 ∷ rest))
    (decimal core ++ 91 ∷ (stores_text t b ++ 93 ∷ other)) flat in
    let opened = append_cancel_left (decimal core) (91 ∷ (stores_text t a ++ 93 ∷ rest)) (91 ∷ (stores_text t b ++ 93 ∷ other)) numbered in
    let cut = stores-cut t a b rest other test p q (append_cancel_left (91 ∷ []) (stores_text t a ++ 93 ∷ rest) (stores_text t b ++ 93 ∷ other) opened) in
    (ap Some cut.0, cut.1)

-- ---- a line

line-flat : (number choice outcome entries moved forwarded access request flush write_back changes buffer rest : List ℕ)
    → ((number ++ (codes " " ++ (choice ++ (codes " " ++ outcome)))) ++ ((entries ++ (moved ++ (forwarded ++ access)))
    ++ ((request ++ (flush ++ write_back)) ++ line (changes ++ buffer)))) ++ rest
    ≡ number ++ (codes " " ++ (choice ++ (codes " " ++ (outcome ++ (entries ++ (moved ++ (forwarded ++ (access
    ++ (request ++ (flush ++ (write_back ++ (changes ++ (buffer ++ 10 ∷ rest)))))))))))))
line-flat number choice outcome entries moved forwarded access request flush write_back changes buffer rest = simp append_assoc

-- the parts of a line from each on
module _ (t : Litmus) (words : ℕ) where
  abbrev from_buffer : ShownStep → List ℕ → List ℕ
  from_buffer s after = buffer_text t (chosen s.choice) s.buffer ++ 10 ∷ after

  abbrev from_changes : ShownStep → List ℕ → List ℕ
  from_changes s after = changes_text t words s.changes ++ from_buffer s after

  abbrev from_write_back : ShownStep → List ℕ → List ℕ
  from_write_back s after = write_back_text t words s.wrote_back ++ from_changes s after

  abbrev from_flush : ShownStep → List ℕ → List ℕ
  from_flush s after = flush_text s.flushed ++ from_write_back s after

  abbrev from_request : ShownStep → List ℕ → List ℕ
  from_request s after = request_text t words s.request ++ from_flush s after

  abbrev from_access : ShownStep → List ℕ → List ℕ
  from_access s after = access_text s.access ++ from_request s after

  abbrev from_forwarded : ShownStep → List ℕ → List ℕ
  from_forwarded s after = forwarded_text s.forwarded ++ from_access s after

  abbrev from_moved : ShownStep → List ℕ → List ℕ
  from_moved s after = moved_text s.moved ++ from_forwarded s after

  abbrev from_entries : ShownStep → List ℕ → List ℕ
  from_entries s after = entries_text t s.entries ++ from_moved s after

  abbrev from_outcome : ShownStep → List ℕ → List ℕ
  from_outcome s after = outcome_name s.outcome ++ from_entries s after

  abbrev from_choice : ShownStep → List ℕ → List ℕ
  from_choice s after = printed_choice s.choice ++ (codes " " ++ from_outcome s after)

  line-split : (number : ℕ) (s : ShownStep) (after : List ℕ) → trace_step_line t words number s ++ after ≡ decimal number ++ (codes " " ++ from_choice s after)
  line-split number s after =
      line-flat (decimal number) (printed_choice s.choice) (outcome_name s.outcome) (entries_text t s.entries)
      (moved_text s.moved) (forwarded_text s.forwarded) (access_text s.access)
      (request_text t words s.request) (flush_text s.flushed) (write_back_text t words s.wrote_back)
      (changes_text t words s.changes) (buffer_text t (chosen s.choice) s.buffer) after

  follows-9 : (s : ShownStep) (after : List ℕ) → Follows 9 (from_buffer s after)
  follows-9 s after = buffer-follows t (chosen s.choice) s.buffer (10 ∷ after) (ending-follows after)

  follows-8 : (s : ShownStep) (after : List ℕ) → Follows 8 (from_changes s after)
  follows-8 s after = changes-follow t words s.changes (from_buffer s after) (follows-9 s after)

  follows-7 : (s : ShownStep) (after : List ℕ) → Follows 7 (from_write_back s after)
  follows-7 s after = write-back-follows t words s.wrote_back (from_changes s after) (follows-8 s after)

  follows-6 : (s : ShownStep) (after : List ℕ) → Follows 6 (from_flush s after)
  follows-6 s after = flush-follows s.flushed (from_write_back s after) (follows-7 s after)

  follows-5 : (s : ShownStep) (after : List ℕ) → Follows 5 (from_request s after)
  follows-5 s after = request-follows t words s.request (from_flush s after) (follows-6 s after)

  follows-4 : (s : ShownStep) (after : List ℕ) → Follows 4 (from_access s after)
  follows-4 s after = access-follows s.access (from_request s after) (follows-5 s after)

  follows-3 : (s : ShownStep) (after : List ℕ) → Follows 3 (from_forwarded s after)
  follows-3 s after = forwarded-follows s.forwarded (from_access s after) (follows-4 s after)

  follows-2 : (s : ShownStep) (after : List ℕ) → Follows 2 (from_moved s after)
  follows-2 s after = moved-follows s.moved (from_forwarded s after) (follows-3 s after)

  pub core-small : (choice : Choice) → chosen choice < 256 → core_in choice < 2 ^ 64
  core-small (Step core) small = omega (arith, small)
  core-small (Drain core) small = omega (arith, small)

  stores-fit : (b : Option (List Entry)) → IfSome b (All (IsAt t)) → IfSome b (All HasWord) → BufferFits t b
  stores-fit None at word = tt
  stores-fit (Some stores) at word = both-fit (IsAt t) HasWord stores at word

  pub changes-fit : (s : ShownStep) → TraceStepFits t words s → All (ChangeFits t words) s.changes
  changes-fit s p = both-fit (λ (c : StateChange). c.core.0 < 256) (λ (c : StateChange). IsLine t words c.line) s.changes p.changes p.known.changes

  step-cut : (number : ℕ) (a b : ShownStep) (rest other : List ℕ) → IsTest t → TraceStepFits t words a → TraceStepFits t words b
      → trace_step_line t words number a ++ rest ≡ trace_step_line t words number b ++ other → (told_by_line a ≡ told_by_line b) × (rest ≡ other)
  step-cut number a b rest other test p q e =
      let flat = sym (line-split number a rest) ∙ (e ∙ line-split number b other) in
      let numbered = append_cancel_left (decimal number) (codes " " ++ from_choice a rest) (codes " " ++ from_choice b other) flat in
      let choice =
      choice-cut a.choice b.choice (codes " " ++ from_outcome a rest) (codes " " ++ from_outcome b other)
      (core-small a.choice p.chosen_core) (core-small b.choice q.chosen_core)
      (append_cancel_left (codes " ") (from_choice a rest) (from_choice b other) numbered) in
      let outcome = read-cut outcome_name read_outcome a.outcome b.outcome (from_entries a rest) (from_entries b other) outcome-again
      (append_cancel_left (codes " ") (from_outcome a rest) (from_outcome b other) choice.1) in
      let entries =
      entries-cut t a.entries b.entries (from_moved a rest) (from_moved b other) test p.entries q.entries
      (follows-2 a rest) (follows-2 b other) outcome.1 in
      let moved = moved-cut a.moved b.moved (from_forwarded a rest) (from_forwarded b other) p.moved q.moved (follows-3 a rest) (follows-3 b other) entries.1 in
      let forwarded = forwarded-cut a.forwarded b.forwarded (from_access a rest) (from_access b other) (follows-4 a rest) (follows-4 b other) moved.1 in
      let access = access-cut a.access b.access (from_request a rest) (from_request b other) (follows-5 a rest) (follows-5 b other) forwarded.1 in
      let request =
      request-cut t words a.request b.request (from_flush a rest) (from_flush b other) test p.known.request
      q.known.request (follows-6 a rest) (follows-6 b other) access.1 in
      let flushed =
      flush-cut a.flushed b.flushed (from_write_back a rest) (from_write_back b other) p.flushed q.flushed
      (follows-7 a rest) (follows-7 b other) request.1 in
      let wrote_back =
      write-back-cut t words a.wrote_back b.wrote_back (from_changes a rest) (from_changes b other) test
      p.known.wrote_back q.known.wrote_back (follows-8 a rest) (follows-8 b other) flushed.1 in
      let changes =
      changes-cut t words a.changes b.changes (from_buffer a rest) (from_buffer b other) test (changes-fit a p)
      (changes-fit b q) (follows-9 a rest) (follows-9 b other) wrote_back.1 in
      let one_core = changes.1 ∙ ap (λ (c : Choice). buffer_text t (chosen c) b.buffer ++ 10 ∷ other) (sym choice.0) in
      let buffer =
      buffer-cut t (chosen a.choice) a.buffer b.buffer (10 ∷ rest) (10 ∷ other) test
      (stores-fit a.buffer p.known.buffer p.buffer) (stores-fit b.buffer q.known.buffer q.buffer)
      (ending-follows rest) (ending-follows other) one_core in (
        (λ i. record {
          choice = choice.0 i;
          outcome = outcome.0 i;
          entries = entries.0 i;
          moved = moved.0 i;
          forwarded = forwarded.0 i;
          access = access.0 i;
          request = request.0 i;
          flushed = flushed.0 i;
          wrote_back = wrote_back.0 i;
          changes = changes.0 i;
          buffer = buffer.0 i;
        }),
        append_cancel_left (10 ∷ []) rest other buffer.1,
      )

  -- ---- the lines

  -- a line begins with a number, and the last line with a letter
  no-line : {A : Type 0} (number : ℕ) (s : ShownStep) (more rest : List ℕ) → get_or rest 0 0 ≡ 69 → trace_step_line t words number s ++ more ≡ rest → A
  no-line number s more [] last e = absurd (omega (arith, last))
  no-line number s more (b ∷ bs) last e =
      let stops : Stops (b ∷ bs) = subst (λ c. is_ascii_digit c ≡ false) (sym last) refl in
      let cut =
      run-cut is_ascii_digit (decimal number) [] (codes " " ++ from_choice s more) (b ∷ bs) (all-digits number) refl
      refl stops (sym (line-split number s more) ∙ e) in
      unlike 0 (codes " " ++ from_choice s more) (b ∷ bs) (ap (λ (c : ℕ). 32 == c) last) cut.1

  lines-cut : (xs ys : List ShownStep) (rest other : List ℕ) → IsTest t → All (TraceStepFits t words) xs → All (TraceStepFits t words) ys
      → step_lines t words 1 xs ++ 69 ∷ rest ≡ step_lines t words 1 ys ++ 69 ∷ other → (map told_by_line xs ≡ map told_by_line ys) × (rest ≡ other)
  lines-cut xs ys rest other test p q e =
      let cut =
      list-cut (TraceStepFits t words) (λ rest. Unit) (λ rest. get_or rest 0 0 ≡ 69) (trace_step_line t words)
      (step_lines t words) told_by_line (λ n. refl) (λ n s ss. refl)
      (λ n a b rest other p q f f' e. step-cut n a b rest other test p q e)
      (λ n ss rest all last. tt) (λ n s more rest fits last same. no-line n s more rest last same) 1 xs ys (69 ∷ rest) (69 ∷ other) p q refl refl e in
      (cut.0, append_cancel_left (69 ∷ []) rest other cut.1)

trace-flat : (lines count rest : List ℕ) → (line (codes "Trace") ++ (lines ++ (codes "Endtrace " ++ line count))) ++ rest
    ≡ codes "Trace\n" ++ (lines ++ 69 ∷ (codes "ndtrace " ++ (count ++ 10 ∷ rest)))
trace-flat lines count rest = simp append_assoc

pub lines-tell : TracesTellTheirSteps
lines-tell t words xs ys rest other test p q e =
    let lines = step_lines t words 1 in
    let ending = λ (count : ℕ) (after : List ℕ). codes "ndtrace " ++ (decimal count ++ 10 ∷ after) in
    let flat = sym (trace-flat (lines xs) (decimal (length xs)) rest) ∙ (e ∙ trace-flat (lines ys) (decimal (length ys)) other) in
    let cut = lines-cut t words xs ys (ending (length xs) rest) (ending (length ys) other) test p q
    (append_cancel_left (codes "Trace\n") (lines xs ++ 69 ∷ ending (length xs) rest) (lines ys ++ 69 ∷ ending (length ys) other) flat) in
    let count : length xs ≡ length ys = sym (length-map xs told_by_line) ∙ (ap (λ (l : List ShownStep). length l) cut.0 ∙ length-map ys told_by_line) in
    let same = cut.1 ∙ ap (λ (n : ℕ). ending n other) (sym count) in (
      cut.0,
      append_cancel_left (codes "ndtrace " ++ (decimal (length xs) ++ 10 ∷ [])) rest other
          (sym (ends-flat (decimal (length xs)) rest) ∙ (same ∙ ends-flat (decimal (length xs)) other)),
    )
  where
    ends-flat : (count after : List ℕ) → codes "ndtrace " ++ (count ++ 10 ∷ after) ≡ (codes "ndtrace " ++ (count ++ 10 ∷ [])) ++ after
    ends-flat count after = simp append_assoc
