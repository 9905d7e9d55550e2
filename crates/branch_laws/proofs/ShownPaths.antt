-- Final states of the shown test are those of the paths with the same found values.
use Rattle.std.proofs.Common.{◌≡◌, ℕ, ◌+◌, zero, suc, List, [], ◌∷◌, ◌++◌, Some, map, Bool, true, false, if◌then◌else◌, filter, ◌<◌, ◌≤◌}
use Rattle.std.proofs.Common.{length, slice_index, slice_index_or, slice_get, drop, arith, ap, sym, ◌∙◌, refl, subst, inl, inr, ◌↔◌}
use Rattle.tso_terms.specs.Litmus.{Litmus}
use Rattle.tso_terms.specs.Thread.{entries_of, registers_after}
use Rattle.tso_terms.specs.ProgramOrder.{writes_to}
use Rattle.tso_terms.specs.ProgramEntries.{read_values, made_from, made_by, made}
use Rattle.tso_terms.specs.FinalState.{word_after, words_from, registers_from}
use Rattle.tso_terms.specs.Axioms.{IsTsoExecution, last_value, counting}
use Rattle.tso_laws.specs.Outcomes.{IsAllowedByTso}
use Rattle.tso_laws.specs.inner.Laws.{WholeOrdersHaveEachEntryOnce}
use Rattle.basic_laws.specs.Types.{Entry, Instr}
use Rattle.branch_laws.specs.Trees.{Tree, Done, Cut, Reads, Stores, Fences, Locks, operand, path}
use Rattle.branch_laws.specs.Branching.{Branching, Give, paths, zero_registers, straight, all_read_values, IsPathOutcome}
use Rattle.branch_laws.specs.Rounds.{StandsAmong}
use Rattle.branch_laws.specs.Shown.{Keeping, InRegister, InLocation, Nowhere, register_for, note_of, shown_path, shown_paths, shown}
use Rattle.branch_laws.specs.Shown.{tree_with_notes, all_noted, with_notes, CanShow, AllCanShow, notes_at, all_notes_at, AreApart}
use Rattle.branch_laws.specs.Shown.{UsesFirst, AreOwn, AreFound, Shows, AreSameIfFound, AllSameIfFound}
use Rattle.branch_laws.proofs.Among.{among-left, among-right, among-filter, among-get, get-among}
use Rattle.branch_laws.proofs.Locking.{locking-reads}
use Rattle.branch_laws.proofs.Splitting.{path-makes}
use Rattle.branch_laws.proofs.Notes.{noted-outputs}
use Rattle.branch_laws.proofs.Shown.{same-reads, same-entries, Same, same-if-found, AreHeld, are-held}
use Rattle.branch_laws.proofs.ShownNotes.{WritesNone, HasNote, AreNoted, none-noted, none-both, noted-before, note-behind, each-note}
use Rattle.branch_laws.proofs.ShownNotes.{are-noted, apart-left, apart-right, apart-from}

-- all registers are six
abbrev Six : List (List ℕ) → ℕ → ℕ → Type 0
Six registers c n = (k : ℕ) → k < c + n → length (slice_index_or registers k []) ≡ 6

six-cleared : (trees : List Tree) (k : ℕ) → k < length trees → length (slice_index_or (zero_registers trees) k []) ≡ 6
six-cleared [] k l = absurd (omega arith)
six-cleared (tree ∷ trees) zero l = refl
six-cleared (tree ∷ trees) (suc k) l = six-cleared trees k (omega arith)

-- what holds of each core's tree, from one on
abbrev AllUse : ℕ → List Tree → Type 0
AllUse n trees = (k : ℕ) → k < length trees → UsesFirst n (slice_index_or trees k Cut)

use-rest : (n : ℕ) (tree : Tree) (trees : List Tree) → AllUse n (tree ∷ trees) → AllUse n trees
use-rest n tree trees f k l = f (suc k) (omega arith)

none-in-all : (own n c : ℕ) (trees : List Tree) (values : List (List ℕ)) (keeps : List (List Keeping)) (registers : List (List ℕ)) (order : List Entry)
    → n ≤ own → AllUse n trees → AllCanShow trees values keeps → Six registers c (length trees) → (StandsAmong own (all_notes_at keeps) → ⊥)
    → WritesNone own (made_from c (shown_paths trees values keeps) registers order)
none-in-all own n c [] values keeps registers order l u s z f = λ e m h. m
none-in-all own n c (tree ∷ trees) [] keeps registers order l u s z f = absurd s
none-in-all own n c (tree ∷ trees) (v ∷ values) [] registers order l u s z f = absurd s
none-in-all own n c (tree ∷ trees) (v ∷ values) (k ∷ keeps) registers order l u s z f =
    none-both own (made_by c (shown_path tree v k) (slice_index_or registers c []) order) (made_from (c + 1) (shown_paths trees values keeps) registers order)
    (none-noted own n c 0 tree v k (slice_index_or registers c []) (read_values c 0 (shown_path tree v k) order) l (u 0 (omega arith)) s.0 (z c (omega arith))
    (λ m. f (among-left own (notes_at k) (all_notes_at keeps) m)))
    (none-in-all own n (c + 1) trees values keeps registers order l (use-rest n tree trees u) s.1 (λ j m. z j (omega arith))
    (λ m. f (among-right own (notes_at k) (all_notes_at keeps) m)))

abbrev AllNoted : List (List Keeping) → List (List ℕ) → List Entry → Type 0
AllNoted [] [] es = Unit {0}
AllNoted (keeps ∷ rest) (rv ∷ more) es = AreNoted keeps rv es × AllNoted rest more es
AllNoted _ _ es = ⊥

each-of-all : (keeps : List (List Keeping)) (rv : List (List ℕ)) (es fs : List Entry)
    → ((own v : ℕ) → StandsAmong own (all_notes_at keeps) → HasNote own v es → HasNote own v fs)
    → AllNoted keeps rv es → AllNoted keeps rv fs
each-of-all [] [] es fs f h = tt
each-of-all [] (r ∷ rv) es fs f h = absurd h
each-of-all (k ∷ keeps) [] es fs f h = absurd h
each-of-all (k ∷ keeps) (r ∷ rv) es fs f h = (
  each-note k r es fs (λ own v m x. f own v (among-left own (notes_at k) (all_notes_at keeps) m) x) h.0,
  each-of-all keeps rv es fs (λ own v m x. f own v (among-right own (notes_at k) (all_notes_at keeps) m) x) h.1,
)

all-noted : (n c : ℕ) (trees : List Tree) (values : List (List ℕ)) (keeps : List (List Keeping)) (registers : List (List ℕ)) (order : List Entry)
    → AllUse n trees
    → AllCanShow trees values keeps
    → Six registers c (length trees)
    → ((own : ℕ) → StandsAmong own (all_notes_at keeps) → n ≤ own)
    → AreApart (all_notes_at keeps)
    → AllNoted keeps (all_read_values c (shown_paths trees values keeps) order) (made_from c (shown_paths trees values keeps) registers order)
all-noted n c [] [] [] registers order u s z b a = tt
all-noted n c [] [] (k ∷ keeps) registers order u s z b a = absurd s
all-noted n c [] (v ∷ values) keeps registers order u s z b a = absurd s
all-noted n c (tree ∷ trees) [] keeps registers order u s z b a = absurd s
all-noted n c (tree ∷ trees) (v ∷ values) [] registers order u s z b a = absurd s
all-noted n c (tree ∷ trees) (v ∷ values) (k ∷ keeps) registers order u s z b a =
    let regs : List ℕ = slice_index_or registers c [] in
    let rv : List ℕ = read_values c 0 (shown_path tree v k) order in
    let here : List Entry = made_by c (shown_path tree v k) regs order in
    let there : List Entry = made_from (c + 1) (shown_paths trees values keeps) registers order in
    let later : Six registers (c + 1) (length trees) = (λ j m. z j (omega arith)) in (
      noted-before k rv here there
          (λ own m.
          none-in-all own n (c + 1) trees values keeps registers order
          (b own (among-left own (notes_at k) (all_notes_at keeps) m)) (use-rest n tree trees u) s.1 later
          (λ y. apart-from (notes_at k) (all_notes_at keeps) own a m y))
          (are-noted n c 0 tree v k regs rv (u 0 (omega arith)) s.0 (z c (omega arith))
          (λ own m. b own (among-left own (notes_at k) (all_notes_at keeps) m))
          (apart-left (notes_at k) (all_notes_at keeps) a)),
      each-of-all keeps (all_read_values (c + 1) (shown_paths trees values keeps) order) there (here ++ there)
          (λ own w m h. note-behind own w here there
          (none-noted own n c 0 tree v k regs rv (b own (among-right own (notes_at k) (all_notes_at keeps) m)) (u 0 (omega arith)) s.0 (z c (omega arith))
          (λ y. apart-from (notes_at k) (all_notes_at keeps) own a y m)) h)
          (all-noted n (c + 1) trees values keeps registers order (use-rest n tree trees u) s.1 later
          (λ own m. b own (among-right own (notes_at k) (all_notes_at keeps) m)) (apart-right (notes_at k) (all_notes_at keeps) a)),
    )

-- the last word of a location that is written with one value alone
last-is : (own v : ℕ) (es : List Entry) (word : ℕ) → ((e : Entry) → StandsAmong e es → e.value ≡ v) → ((e : Entry) × StandsAmong e es) → last_value es word ≡ v
last-is own v [] word f some = absurd some.1
last-is own v (e ∷ []) word f some = f e (inl refl)
last-is own v (e ∷ (x ∷ es)) word f some = last-is own v (x ∷ es) e.value (λ y m. f y (inr m)) (x, inl refl)

pass : (own : ℕ) (e : Entry) (es : List Entry) → StandsAmong e es → writes_to own e ≡ true → StandsAmong e (filter (writes_to own) es)
pass own e [] m h = absurd m
pass own e (x ∷ es) m h = go (writes_to own x) refl m (λ k. pass own e es k h)
  where
    go : (t : Bool)
        → writes_to own x ≡ t
        → StandsAmong e (x ∷ es)
        → (StandsAmong e es → StandsAmong e (filter (writes_to own) es))
        → StandsAmong e (if t then x ∷ filter (writes_to own) es else filter (writes_to own) es)
    go true q (inl k) again = inl k
    go true q (inr k) again = inr (again k)
    go false q (inl k) again = absurd (let z : false ≡ true = sym q ∙ ap (λ y. writes_to own y) (sym k) ∙ h in let y : ⊥ = cc in y)
    go false q (inr k) again = again k

word-is : (own v : ℕ) (order : List Entry) (word : ℕ) → HasNote own v order → word_after own order word ≡ v
word-is own v order word h =
    last-is own v (filter (writes_to own) order) word
    (λ e m. (let r = among-filter (writes_to own) e order m in h.only e r.0 r.1))
    (h.some.0, pass own h.some.0 order h.some.1 h.some.2)

word-at : (c : ℕ) (words : List ℕ) (order : List Entry) (j : ℕ)
    → j < length words
    → slice_index (words_from c words order) j ≡ word_after (c + j) order (slice_index words j)
word-at c [] order j l = absurd (omega arith)
word-at c (w ∷ words) order zero l = ap (λ z. word_after z order w) (let z : c ≡ c + 0 = omega arith in z)
word-at c (w ∷ words) order (suc j) l =
    word-at (c + 1) words order j (omega arith)
    ∙ ap (λ z. word_after z order (slice_index words j)) (let z : (c + 1) + j ≡ c + suc j = omega arith in z)

-- what is found of the values that an order itself has
find-own : (keeps : List Keeping) (rv registers : List ℕ) (order : List Entry) (words : List ℕ)
    → length rv ≡ length keeps
    → AreHeld keeps rv registers
    → AreNoted keeps rv order
    → ((own : ℕ) → StandsAmong own (notes_at keeps) → own < length words) → AreFound keeps rv registers (words_from 0 words order)
find-own [] [] registers order words n h m f = tt
find-own [] (v ∷ rv) registers order words n h m f = absurd (omega arith)
find-own (k ∷ keeps) [] registers order words n h m f = absurd (omega arith)
find-own (InRegister reg ∷ keeps) (v ∷ rv) registers order words n h m f = (h.0, find-own keeps rv registers order words (omega arith) h.1 m.1 f)
find-own (InLocation reg own ∷ keeps) (v ∷ rv) registers order words n h m f = (
  word-at 0 words order own.0 (f own.0 (inl refl))
      ∙ ap (λ z. word_after z order (slice_index words own.0)) (let z : 0 + own.0 ≡ own.0 = omega arith in z)
      ∙ word-is own.0 v order (slice_index words own.0) m.0,
  find-own keeps rv registers order words (omega arith) h.1 m.1 (λ o y. f o (inr y)),
)
find-own (Nowhere reg ∷ keeps) (v ∷ rv) registers order words n h m f = (tt, find-own keeps rv registers order words (omega arith) h.1 m.1 f)

-- two lists of values of which the same is found
same-of-found : (keeps : List Keeping) (values rv registers memory : List ℕ)
    → AreFound keeps values registers memory
    → AreFound keeps rv registers memory
    → AreSameIfFound keeps values rv
same-of-found [] [] [] registers memory a b = tt
same-of-found [] [] (w ∷ rv) registers memory a b = absurd b
same-of-found [] (v ∷ values) rv registers memory a b = absurd a
same-of-found (k ∷ keeps) [] rv registers memory a b = absurd a
same-of-found (k ∷ keeps) (v ∷ values) [] registers memory a b = absurd b
same-of-found (InRegister reg ∷ keeps) (v ∷ values) (w ∷ rv) registers memory a b = (sym b.0 ∙ a.0, same-of-found keeps values rv registers memory a.1 b.1)
same-of-found (InLocation reg own ∷ keeps) (v ∷ values) (w ∷ rv) registers memory a b = (sym b.0 ∙ a.0, same-of-found keeps values rv registers memory a.1 b.1)
same-of-found (Nowhere reg ∷ keeps) (v ∷ values) (w ∷ rv) registers memory a b = (tt, same-of-found keeps values rv registers memory a.1 b.1)

found-of-same : (keeps : List Keeping) (values rv registers memory : List ℕ)
    → AreSameIfFound keeps values rv
    → AreFound keeps rv registers memory
    → AreFound keeps values registers memory
found-of-same [] [] [] registers memory a b = tt
found-of-same [] [] (w ∷ rv) registers memory a b = absurd a
found-of-same [] (v ∷ values) rv registers memory a b = absurd a
found-of-same (k ∷ keeps) [] rv registers memory a b = absurd a
found-of-same (k ∷ keeps) (v ∷ values) [] registers memory a b = absurd a
found-of-same (InRegister reg ∷ keeps) (v ∷ values) (w ∷ rv) registers memory a b = (b.0 ∙ a.0, found-of-same keeps values rv registers memory a.1 b.1)
found-of-same (InLocation reg own ∷ keeps) (v ∷ values) (w ∷ rv) registers memory a b = (b.0 ∙ a.0, found-of-same keeps values rv registers memory a.1 b.1)
found-of-same (Nowhere reg ∷ keeps) (v ∷ values) (w ∷ rv) registers memory a b = (tt, found-of-same keeps values rv registers memory a.1 b.1)

all-same : (keeps : List (List Keeping)) (values own registers : List (List ℕ)) (memory : List ℕ)
    → Shows keeps values registers memory
    → Shows keeps own registers memory
    → AllSameIfFound keeps values own
all-same [] [] [] [] memory a b = tt
all-same [] [] (o ∷ own) registers memory a b = absurd b
all-same [] [] [] (r ∷ registers) memory a b = absurd a
all-same [] (v ∷ values) own registers memory a b = absurd a
all-same (k ∷ keeps) [] own registers memory a b = absurd a
all-same (k ∷ keeps) (v ∷ values) [] registers memory a b = absurd b
all-same (k ∷ keeps) (v ∷ values) (o ∷ own) [] memory a b = absurd a
all-same (k ∷ keeps) (v ∷ values) (o ∷ own) (r ∷ registers) memory a b =
    (same-of-found k v o r memory a.0 b.0, all-same keeps values own registers memory a.1 b.1)

all-found : (keeps : List (List Keeping)) (values own registers : List (List ℕ)) (memory : List ℕ)
    → AllSameIfFound keeps values own
    → Shows keeps own registers memory
    → Shows keeps values registers memory
all-found [] [] [] [] memory a b = tt
all-found [] [] (o ∷ own) registers memory a b = absurd a
all-found [] [] [] (r ∷ registers) memory a b = absurd b
all-found [] (v ∷ values) own registers memory a b = absurd a
all-found (k ∷ keeps) [] own registers memory a b = absurd a
all-found (k ∷ keeps) (v ∷ values) [] registers memory a b = absurd a
all-found (k ∷ keeps) (v ∷ values) (o ∷ own) [] memory a b = absurd b
all-found (k ∷ keeps) (v ∷ values) (o ∷ own) (r ∷ registers) memory a b =
    (found-of-same k v o r memory a.0 b.0, all-found keeps values own registers memory a.1 b.1)

-- as many reads as keepings
note-count : (c p : ℕ) (k : Keeping) (program : List Instr) (order : List Entry) (n : ℕ)
    → ((q : ℕ) → length (read_values c q program order) ≡ n)
    → length (read_values c p (note_of k ++ program) order) ≡ n
note-count c p (InRegister reg) program order n f = f p
note-count c p (InLocation reg own) program order n f = f (p + 1)
note-count c p (Nowhere reg) program order n f = f p

reads-count : (c p : ℕ) (tree : Tree) (values : List ℕ) (keeps : List Keeping) (order : List Entry)
    → CanShow tree values keeps
    → length (read_values c p (shown_path tree values keeps) order) ≡ length keeps
reads-count c p (Done o) [] [] order s = refl
reads-count c p (Done o) [] (k ∷ keeps) order s = absurd s
reads-count c p (Done o) (v ∷ values) keeps order s = absurd s
reads-count c p Cut values keeps order s = absurd s
reads-count c p (Reads loc next) [] keeps order s = absurd s
reads-count c p (Reads loc next) (v ∷ values) [] order s = absurd s
reads-count c p (Reads loc next) (v ∷ values) (k ∷ keeps) order s =
    ap suc (note-count c (p + 1) k (shown_path (next v) values keeps) order (length keeps) (λ q. reads-count c q (next v) values keeps order s.2))
reads-count c p (Stores loc value next) values keeps order s = reads-count c (p + 1) next values keeps order s
reads-count c p (Fences next) values keeps order s = reads-count c (p + 1) next values keeps order s
reads-count c p (Locks loc change next) [] keeps order s = absurd s
reads-count c p (Locks loc change next) (v ∷ values) [] order s = absurd s
reads-count c p (Locks loc change next) (v ∷ values) (k ∷ keeps) order s =
    ap (λ z. length z) (locking-reads c p change loc (register_for k) (note_of k ++ shown_path (next v) values keeps) (operand change v) order)
    ∙ ap suc (note-count c ((p + 1) + 1) k (shown_path (next v) values keeps) order (length keeps) (λ q. reads-count c q (next v) values keeps order s.3))

-- the order's own values are found
own-found : (c : ℕ) (trees : List Tree) (values : List (List ℕ)) (keeps : List (List Keeping)) (registers : List (List ℕ)) (order : List Entry) (words : List ℕ)
    → AllCanShow trees values keeps → Six registers c (length trees) → AllNoted keeps (all_read_values c (shown_paths trees values keeps) order) order
    → ((own : ℕ) → StandsAmong own (all_notes_at keeps) → own < length words)
    → Shows keeps (all_read_values c (shown_paths trees values keeps) order)
    (registers_from c (shown_paths trees values keeps) registers order) (words_from 0 words order)
own-found c [] [] [] registers order words s z n f = tt
own-found c [] [] (k ∷ keeps) registers order words s z n f = absurd s
own-found c [] (v ∷ values) keeps registers order words s z n f = absurd s
own-found c (tree ∷ trees) [] keeps registers order words s z n f = absurd s
own-found c (tree ∷ trees) (v ∷ values) [] registers order words s z n f = absurd s
own-found c (tree ∷ trees) (v ∷ values) (k ∷ keeps) registers order words s z n f =
    let regs : List ℕ = slice_index_or registers c [] in
    let rv : List ℕ = read_values c 0 (shown_path tree v k) order in (
      find-own k rv (registers_after (shown_path tree v k) regs rv) order words (reads-count c 0 tree v k order s.0)
          (are-held tree v k regs rv s.0 (z c (omega arith))) n.0
          (λ own m. f own (among-left own (notes_at k) (all_notes_at keeps) m)),
      own-found (c + 1) trees values keeps registers order words s.1 (λ j m. z j (omega arith)) n.1
          (λ own m. f own (among-right own (notes_at k) (all_notes_at keeps) m)),
    )

-- the programs of values that are found the same
record AllSame (trees : List Tree) (values own : List (List ℕ)) (keeps : List (List Keeping)) : Type 0 where
  pub programs : shown_paths trees values keeps ≡ shown_paths trees own keeps
  pub gives : (outputs : List (List ℕ)) → Give trees values outputs → Give (all_noted trees keeps) own outputs

programs-same : (trees : List Tree) (values own : List (List ℕ)) (keeps : List (List Keeping))
    → AllCanShow trees values keeps
    → AllSameIfFound keeps values own
    → AllSame trees values own keeps
programs-same [] [] [] [] s f = record { programs = refl; gives = λ outputs g. g }
programs-same [] [] (o ∷ own) [] s f = absurd f
programs-same [] [] own (k ∷ keeps) s f = absurd s
programs-same [] (v ∷ values) own keeps s f = absurd s
programs-same (tree ∷ trees) [] own keeps s f = absurd s
programs-same (tree ∷ trees) (v ∷ values) own [] s f = absurd s
programs-same (tree ∷ trees) (v ∷ values) [] (k ∷ keeps) s f = absurd f
programs-same (tree ∷ trees) (v ∷ values) (o ∷ own) (k ∷ keeps) s f =
    let a = same-if-found tree v o k s.0 f.0 in
    let r = programs-same trees values own keeps s.1 f.1 in
    record {
      programs = ap (λ z. z ∷ shown_paths trees values keeps) a.program ∙ ap (λ z. shown_path tree o k ∷ z) r.programs;
      gives = λ outputs g. pick outputs g a r;
    }
  where
    pick : (outputs : List (List ℕ))
        → Give (tree ∷ trees) (v ∷ values) outputs
        → Same tree v o k
        → AllSame trees values own keeps
        → Give (all_noted (tree ∷ trees) (k ∷ keeps)) (o ∷ own) outputs
    pick [] g a r = absurd g
    pick (u ∷ outputs) g a r = (noted-outputs tree o k ∙ sym a.outputs ∙ g.0, r.gives outputs g.1)

all-reads : (c : ℕ) (trees : List Tree) (own : List (List ℕ)) (keeps : List (List Keeping)) (order : List Entry)
    → all_read_values c (shown_paths trees own keeps) order ≡ all_read_values c (paths (all_noted trees keeps) own) order
all-reads c [] own keeps order = refl
all-reads c (tree ∷ trees) own keeps order =
    ap (λ z. z ∷ all_read_values (c + 1) (shown_paths trees (drop 1 own) (drop 1 keeps)) order)
    (same-reads c 0 tree (slice_index_or own 0 []) (slice_index_or keeps 0 []) order)
    ∙ ap (λ z.
    read_values c 0 (path (tree_with_notes tree (slice_index_or keeps 0 [])) (slice_index_or own 0 [])) order ∷ z)
    (all-reads (c + 1) trees (drop 1 own) (drop 1 keeps) order)

first-list : (v w : List ℕ) (xs ys : List (List ℕ)) → v ∷ xs ≡ w ∷ ys → v ≡ w
first-list v w xs ys e = cc

rest-list : (v w : List ℕ) (xs ys : List (List ℕ)) → v ∷ xs ≡ w ∷ ys → xs ≡ ys
rest-list v w xs ys e = cc

-- where the reads return these values, both tests make the same entries
all-made : (c : ℕ) (trees : List Tree) (own : List (List ℕ)) (keeps : List (List Keeping)) (registers : List (List ℕ))
    (order : List Entry)
    → Six registers c (length trees)
    → all_read_values c (shown_paths trees own keeps) order ≡ own
    → made_from c (shown_paths trees own keeps) registers order ≡ made_from c (paths (all_noted trees keeps) own) registers order
all-made c [] own keeps registers order z q = refl
all-made c (tree ∷ trees) [] keeps registers order z q = absurd (let y : ⊥ = cc in y)
all-made c (tree ∷ trees) (o ∷ own) keeps registers order z q =
    let k : List Keeping = slice_index_or keeps 0 [] in
    let regs : List ℕ = slice_index_or registers c [] in
    let size : length regs ≡ 6 = z c (omega arith) in
    let rv : read_values c 0 (shown_path tree o k) order ≡ o = first-list _ o _ own q in
    let one : made_by c (shown_path tree o k) regs order ≡ made_by c (path (tree_with_notes tree k) o) regs order =
    ap (λ y. entries_of c 0 (shown_path tree o k) regs y) rv
    ∙ same-entries c 0 tree o k regs size
    ∙ sym (path-makes c 0 (tree_with_notes tree k) o regs (omega arith))
    ∙ ap (λ y. entries_of c 0 (path (tree_with_notes tree k) o) regs y) (sym (sym (same-reads c 0 tree o k order) ∙ rv)) in
    ap (λ y. y ++ made_from (c + 1) (shown_paths trees own (drop 1 keeps)) registers order) one
    ∙ ap (λ y. made_by c (path (tree_with_notes tree k) o) regs order ++ y)
    (all-made (c + 1) trees own (drop 1 keeps) registers order (λ j m. z j (omega arith)) (rest-list _ o _ own q))

same-cleared : (trees : List Tree) (keeps : List (List Keeping)) → zero_registers (all_noted trees keeps) ≡ zero_registers trees
same-cleared [] keeps = refl
same-cleared (tree ∷ trees) keeps = ap (λ z. (0 ∷ (0 ∷ (0 ∷ (0 ∷ (0 ∷ (0 ∷ [])))))) ∷ z) (same-cleared trees (drop 1 keeps))

-- an execution of a test with these entries made is one of the other
with-made : (s t : Litmus) (order : List Entry) → made s order ≡ made t order → s.words ≡ t.words → IsTsoExecution s order → IsTsoExecution t order
with-made s t order q w h = record {
  whole = record {
    count = subst (λ z. length order ≡ length z) q h.whole.count;
    each = subst (λ z. (k : ℕ) (e : Entry) → slice_get z k ≡ Some e → (i : ℕ) × (slice_get order i ≡ Some e)) q h.whole.each;
  };
  program_order = h.program_order;
  adjacent = h.adjacent;
  read_values = λ front x back e i. h.read_values front x back e i ∙ ap (λ z. last_value (counting x front back) (slice_index z x.loc.0)) w;
}

notes-in-order : WholeOrdersHaveEachEntryOnce
    → (t : Litmus) (order : List Entry)
    → IsTsoExecution t order
    → (own v : ℕ) → HasNote own v (made t order)
    → HasNote own v order
notes-in-order law t order h own v n =
    let a = among-get n.some.0 (made t order) n.some.1 in
    let b = h.whole.each a.0 n.some.0 a.2 in
    record {
      some = (n.some.0, get-among n.some.0 order b.0 b.1, n.some.2);
      only = λ e m w. (
          let i = among-get e order m in
          let s = law.made_by_the_programs t order e h.whole (i.0, i.2) in
          n.only e (get-among e (made t order) s.0 s.1) w
          );
    }

words-size : (words : List ℕ) (names : List (List ℕ)) → length (words ++ map (λ name. 0) names) ≡ length words + length names
words-size [] [] = refl
words-size [] (n ∷ names) = ap suc (words-size [] names) ∙ (let z : suc (0 + length names) ≡ 0 + suc (length names) = omega arith in z)
words-size (w ∷ words) names =
    ap suc (words-size words names)
    ∙ (let z : suc (length words + length names) ≡ suc (length words) + length names = omega arith in z)

-- in an execution of the shown test the order's own values are found
found-in : WholeOrdersHaveEachEntryOnce → (b : Branching) (names values : List (List ℕ)) (keeps : List (List Keeping)) (order : List Entry)
    → AllCanShow b.trees values keeps → AreOwn b names keeps → IsTsoExecution (shown b names values keeps) order
    → Shows keeps (all_read_values 0 (shown_paths b.trees values keeps) order)
    (registers_from 0 (shown_paths b.trees values keeps) (zero_registers b.trees) order)
    (words_from 0 (b.words ++ map (λ name. 0) names) order)
found-in law b names values keeps order s own h =
    let six : Six (zero_registers b.trees) 0 (length b.trees) = (λ k l. six-cleared b.trees k (omega arith)) in
    own-found 0 b.trees values keeps (zero_registers b.trees) order (b.words ++ map (λ name. 0) names) s six
    (each-of-all keeps (all_read_values 0 (shown_paths b.trees values keeps) order) (made (shown b names values keeps) order) order
    (λ o v m n. notes-in-order law (shown b names values keeps) order h o v n)
    (all-noted (length b.words) 0 b.trees values keeps (zero_registers b.trees) order own.trees s six (λ o m. (own.further o m).0) own.apart))
    (λ o m. (let z = words-size b.words names in let y = (own.further o m).1 in omega arith))

to-noted : WholeOrdersHaveEachEntryOnce
    → (b : Branching) (names values outputs : List (List ℕ)) (keeps : List (List Keeping)) (registers : List (List ℕ)) (memory : List ℕ)
    → AllCanShow b.trees values keeps
    → Give b.trees values outputs
    → AreOwn b names keeps
    → Shows keeps values registers memory
    → IsAllowedByTso (shown b names values keeps) registers memory
    → (own : List (List ℕ)) × AllSameIfFound keeps values own × IsPathOutcome (with_notes b names keeps) own outputs memory
to-noted law b names values outputs keeps registers memory s g o shows h =
    let order : List Entry = h.order in
    let ps : List (List Instr) = shown_paths b.trees values keeps in
    let own : List (List ℕ) = all_read_values 0 ps order in
    let here : Shows keeps values (registers_from 0 ps (zero_registers b.trees) order) (words_from 0 (b.words ++ map (λ name. 0) names) order) =
    subst (λ z. Shows keeps values z (words_from 0 (b.words ++ map (λ name. 0) names) order)) (sym h.registers_are)
    (subst (λ z. Shows keeps values registers z) (sym h.memory_is) shows) in
    let same = all-same keeps values own _ _ here (found-in law b names values keeps order s o h.execution) in
    let p = programs-same b.trees values own keeps s same in
    let reads : all_read_values 0 (shown_paths b.trees own keeps) order ≡ own = ap (λ z. all_read_values 0 z order) (sym p.programs) in
    let six : Six (zero_registers b.trees) 0 (length b.trees) = (λ k l. six-cleared b.trees k (omega arith)) in
    let q : made (shown b names values keeps) order ≡ made (straight (with_notes b names keeps) own) order =
    ap (λ z. made_from 0 z (zero_registers b.trees) order) p.programs ∙ all-made 0 b.trees own keeps (zero_registers b.trees) order six reads
    ∙ ap (λ z. made_from 0 (paths (all_noted b.trees keeps) own) z order) (sym (same-cleared b.trees keeps)) in (
      own,
      same,
      record {
        order = order;
        execution = record {
          done = p.gives outputs g;
          execution = with-made (shown b names values keeps) (straight (with_notes b names keeps) own) order q refl h.execution;
          reads = sym (all-reads 0 b.trees own keeps order) ∙ reads;
        };
        memory_is = h.memory_is;
      },
    )

from-noted : WholeOrdersHaveEachEntryOnce
    → (b : Branching) (names values outputs : List (List ℕ)) (keeps : List (List Keeping)) (memory : List ℕ) (own : List (List ℕ))
    → AllCanShow b.trees values keeps → AreOwn b names keeps → AllSameIfFound keeps values own → IsPathOutcome (with_notes b names keeps) own outputs memory
    → (registers : List (List ℕ)) × Shows keeps values registers memory × IsAllowedByTso (shown b names values keeps) registers memory
from-noted law b names values outputs keeps memory own s o same h =
    let order : List Entry = h.order in
    let ps : List (List Instr) = shown_paths b.trees values keeps in
    let p = programs-same b.trees values own keeps s same in
    let reads : all_read_values 0 (shown_paths b.trees own keeps) order ≡ own = all-reads 0 b.trees own keeps order ∙ h.execution.reads in
    let six : Six (zero_registers b.trees) 0 (length b.trees) = (λ k l. six-cleared b.trees k (omega arith)) in
    let q : made (straight (with_notes b names keeps) own) order ≡ made (shown b names values keeps) order =
    ap (λ z. made_from 0 (paths (all_noted b.trees keeps) own) z order) (same-cleared b.trees keeps)
    ∙ sym (all-made 0 b.trees own keeps (zero_registers b.trees) order six reads) ∙ ap (λ z. made_from 0 z (zero_registers b.trees) order) (sym p.programs) in
    let execution : IsTsoExecution (shown b names values keeps) order =
    with-made (straight (with_notes b names keeps) own) (shown b names values keeps) order q refl h.execution.execution in
    let found = found-in law b names values keeps order s o execution in
    let is_own : all_read_values 0 ps order ≡ own = ap (λ z. all_read_values 0 z order) p.programs ∙ reads in
    let registers : List (List ℕ) = registers_from 0 ps (zero_registers b.trees) order in (
      registers,
      subst (λ z. Shows keeps values registers z) h.memory_is
          (all-found keeps values own registers (words_from 0 (b.words ++ map (λ name. 0) names) order) same
          (subst (λ z. Shows keeps z registers (words_from 0 (b.words ++ map (λ name. 0) names) order)) is_own found)),
      record { order = order; execution = execution; registers_are = refl; memory_is = h.memory_is },
    )

pub show-the-path : WholeOrdersHaveEachEntryOnce → (b : Branching) (names values outputs : List (List ℕ)) (keeps : List (List Keeping)) (memory : List ℕ)
    → AllCanShow b.trees values keeps → Give b.trees values outputs → AreOwn b names keeps
    → ((own : List (List ℕ)) × AllSameIfFound keeps values own × IsPathOutcome (with_notes b names keeps) own outputs memory)
    ↔ ((registers : List (List ℕ)) × Shows keeps values registers memory × IsAllowedByTso (shown b names values keeps) registers memory)
show-the-path law b names values outputs keeps memory s g o = (
  λ h. from-noted law b names values outputs keeps memory h.0 s o h.1 h.2,
  λ h. to-noted law b names values outputs keeps h.0 memory s g o h.1 h.2,
)
