-- JSON values that are read back from their text: each number is one, and nothing nests too deep. Such a text tells the value, up to
-- how its numbers are spelled.
use Rattle.printed_laws.proofs.Vocabulary.{◌≡◌, ℕ, List, [], ◌∷◌, ◌++◌, sym, ap, ◌∙◌, zero, suc, ◌≤◌, Option, unwrap_or, arith, All, Some}
use Rattle.printed_laws.proofs.Vocabulary.{None, map, append_cancel_right, document, max_depth, depth, HasNumbers, items_depth}
use Rattle.printed_laws.proofs.Vocabulary.{members_depth, ItemsHaveNumbers, MembersHaveNumbers, Data, string, Members, no_members, member}
use Rattle.printed_laws.proofs.Vocabulary.{put, outline, compact_text, items_outline, members_outline, print-outline, IsNumber-decimal}
use Rattle.printed_laws.proofs.Vocabulary.{count, All-head, All-tail, IsWord, nat_cmp, match_ordering, slice_cmp, Ordering, Less, Equal}
use Rattle.printed_laws.proofs.Vocabulary.{Greater, items_of, text_or_null, max, IsNumber}
use Rattle.json.specs.Json as json
use Rattle.json.proofs.Printed.Trees.{document-print}

-- the value's numbers are JSON's, and it nests no deeper than this
abbrev mutual
  pub ReadsBack : ℕ → json.Json → Type 0
  ReadsBack levels (json.number s) = IsNumber s
  ReadsBack zero (json.array js) = ⊥
  ReadsBack (suc levels) (json.array js) = ItemsReadBack levels js
  ReadsBack zero (json.object ms) = ⊥
  ReadsBack (suc levels) (json.object ms) = MembersReadBack levels ms
  ReadsBack levels j = Unit {0}

  pub ItemsReadBack : ℕ → json.Items → Type 0
  ItemsReadBack levels json.no_items = Unit {0}
  ItemsReadBack levels (json.item j js) = ReadsBack levels j × ItemsReadBack levels js

  pub MembersReadBack : ℕ → json.Members → Type 0
  MembersReadBack levels json.no_members = Unit {0}
  MembersReadBack levels (json.member k j ms) = ReadsBack levels j × MembersReadBack levels ms

-- ---- the text of such a value

two-parts : {A B : Type 0} (levels m n : ℕ) → A × (m ≤ levels) → B × (n ≤ levels) → (A × B) × (max m n ≤ levels)
two-parts levels m n a b = let p = a.1 in let q = b.1 in ((a.0, b.0), omega (arith, p, q))

mutual
  back-parts : (levels : ℕ) (j : json.Json) → ReadsBack levels j → HasNumbers j × (depth j ≤ levels)
  back-parts levels (json.number s) r = (r, omega arith)
  back-parts zero (json.array js) r = absurd r
  back-parts (suc levels) (json.array js) r = let all = items-parts levels js r in let deep = all.1 in (all.0, omega (arith, deep))
  back-parts zero (json.object ms) r = absurd r
  back-parts (suc levels) (json.object ms) r = let all = members-parts levels ms r in let deep = all.1 in (all.0, omega (arith, deep))
  back-parts levels j r = (tt, omega arith)

  items-parts : (levels : ℕ) (js : json.Items) → ItemsReadBack levels js → ItemsHaveNumbers js × (items_depth js ≤ levels)
  items-parts levels json.no_items r = (tt, omega arith)
  items-parts levels (json.item j js) r = two-parts levels (depth j) (items_depth js) (back-parts levels j r.0) (items-parts levels js r.1)

  members-parts : (levels : ℕ) (ms : json.Members) → MembersReadBack levels ms → MembersHaveNumbers ms × (members_depth ms ≤ levels)
  members-parts levels json.no_members r = (tt, omega arith)
  members-parts levels (json.member k j ms) r = two-parts levels (depth j) (members_depth ms) (back-parts levels j r.0) (members-parts levels ms r.1)

-- the other way round
mutual
  pub back-at : (levels : ℕ) (j : json.Json) → HasNumbers j → depth j ≤ levels → ReadsBack levels j
  back-at levels (json.number s) all deep = all
  back-at zero (json.array js) all deep = omega (arith, deep)
  back-at (suc levels) (json.array js) all deep = items-at levels js all (omega (arith, deep))
  back-at zero (json.object ms) all deep = omega (arith, deep)
  back-at (suc levels) (json.object ms) all deep = members-at levels ms all (omega (arith, deep))
  back-at levels j all deep = tt

  items-at : (levels : ℕ) (js : json.Items) → ItemsHaveNumbers js → items_depth js ≤ levels → ItemsReadBack levels js
  items-at levels json.no_items all deep = tt
  items-at levels (json.item j js) all deep = (back-at levels j all.0 (omega (arith, deep)), items-at levels js all.1 (omega (arith, deep)))

  members-at : (levels : ℕ) (ms : json.Members) → MembersHaveNumbers ms → members_depth ms ≤ levels → MembersReadBack levels ms
  members-at levels json.no_members all deep = tt
  members-at levels (json.member k j ms) all deep = (back-at levels j all.0 (omega (arith, deep)), members-at levels ms all.1 (omega (arith, deep)))

-- a bound may be greater
pub deeper : (m n : ℕ) (j : json.Json) → m ≤ n → ReadsBack m j → ReadsBack n j
deeper m n j less r = let parts = back-parts m j r in let deep = parts.1 in back-at n j parts.0 (omega (arith, deep, less))

pub text-told : (d e : Data) → ReadsBack max_depth (outline d) → ReadsBack max_depth (outline e) → compact_text d ≡ compact_text e → outline d ≡ outline e
text-told d e p q same =
    let a = back-parts max_depth (outline d) p in
    let b = back-parts max_depth (outline e) q in
    let read =
    sym (document-print (outline d) a.0 a.1)
    ∙ (ap document (print-outline d ∙ (same ∙ sym (print-outline e))) ∙ document-print (outline e) b.0 b.1) in
    ap (λ (o : Option json.Json). unwrap_or o json.null) read

-- of a text on a line of its own
pub line-told : (d e : Data)
    → ReadsBack max_depth (outline d)
    → ReadsBack max_depth (outline e)
    → compact_text d ++ 10 ∷ [] ≡ compact_text e ++ 10 ∷ []
    → outline d ≡ outline e
line-told d e p q same = text-told d e p q (append_cancel_right (compact_text d) (compact_text e) (10 ∷ []) same)

-- ---- values, members and items

pub put-back : (levels : ℕ) (k : List ℕ) (d : Data) (ms : Members)
    → ReadsBack levels (outline d)
    → MembersReadBack levels (members_outline ms)
    → MembersReadBack levels (members_outline (put k d ms))
put-back levels k d no_members is all = (is, tt)
put-back levels k d (member l e ms) is all = by_order (slice_cmp nat_cmp k l) (put-back levels k d ms is all.1)
  where
    by_order : (o : Ordering) → MembersReadBack levels (members_outline (put k d ms))
        → MembersReadBack levels (members_outline (match_ordering o (member k d (member l e ms)) (member l d ms) (member l e (put k d ms))))
    by_order Less further = (is, all)
    by_order Equal further = (is, all.1)
    by_order Greater further = (all.0, further)

-- each item of a list, whatever it is of
pub each-back : {A : Type 0} (levels : ℕ) (value : A → Data) (xs : List A)
    → ((x : A) → ReadsBack levels (outline (value x)))
    → ItemsReadBack levels (items_outline (items_of (map value xs)))
each-back levels value [] each = tt
each-back levels value (x ∷ xs) each = (each x, each-back levels value xs each)

-- each item, of a list of what fits
pub all-back : {A : Type 0} (levels : ℕ) (Fits : A → Type 0) (value : A → Data) (xs : List A)
    → ((x : A) → Fits x → ReadsBack levels (outline (value x)))
    → All Fits xs
    → ItemsReadBack levels (items_outline (items_of (map value xs)))
all-back levels Fits value [] each all = tt
all-back levels Fits value (x ∷ xs) each all = (each x (All-head Fits x xs all), all-back levels Fits value xs each (All-tail Fits x xs all))

pub word-back : (levels w : ℕ) → IsWord w → ReadsBack levels (outline (count w))
word-back levels w is = IsNumber-decimal w (omega (arith, is))

pub words-back : (levels : ℕ) (words : List ℕ) → All IsWord words → ItemsReadBack levels (items_outline (items_of (map count words)))
words-back levels words all = all-back levels IsWord count words (word-back levels) all

pub strings-back : (levels : ℕ) (texts : List (List ℕ)) → ItemsReadBack levels (items_outline (items_of (map string texts)))
strings-back levels texts = each-back levels string texts (λ text. tt)

pub text-back : (levels : ℕ) (o : Option (List ℕ)) → ReadsBack levels (outline (text_or_null o))
text-back levels None = tt
text-back levels (Some text) = tt
