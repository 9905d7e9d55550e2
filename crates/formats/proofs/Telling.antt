-- The text of a format whose ways to begin tell what comes next tells its value.
use Rattle.std.proofs.Common.{get_or, ◌≡◌, ℕ, true, List, [], ◌∷◌, ◌++◌, refl, sym, ap, subst, ◌∙◌, zero, suc, ◌&&◌, drop, replicate}
use Rattle.std.specs.Fmt.{decimal}
use Rattle.std.specs.List.{list_all, flat_map, AllByRecursion}
use Rattle.std.proofs.lemmas.Bool.{and_parts, or_left}
use Rattle.std.proofs.lemmas.Fmt.{decimal_injective}
use Rattle.std.proofs.lemmas.List.{append_assoc, append_cancel_left}
use Rattle.tso_terms.specs.Names.{continues_name, is_printable}
use Rattle.formats.specs.Formats.{This, That, Nothing, Number, Word, Printable, Times, Lead, Trail, Both, Either, Many, Separated, Spelled}
use Rattle.formats.specs.Formats.{As, Value, text, FitsFormat}
use Rattle.formats.specs.Beginnings.{First, first_word, behind, begins_so, all_part, before, in_turn, firsts, is_clear, with_text}
use Rattle.formats.specs.Laws.{TextsTellTheirValues}
use Rattle.formats.proofs.Beginnings.{IsWhole, Stops, run-of, behind-of, text-before, so-before, so-feeds, so-stops, all-apart, clash}
use Rattle.formats.proofs.Firsts.{number-whole, word-whole, so-in-turn, firsts-begin}

-- ---- words

whole-all : (word : List ℕ) → IsWhole word → list_all continues_name word ≡ true
whole-all [] whole = absurd whole
whole-all (c ∷ cs) whole = whole

word-cut : (w v rest other : List ℕ) → IsWhole w → IsWhole v → Stops rest → Stops other → w ++ rest ≡ v ++ other → (w ≡ v) × (rest ≡ other)
word-cut w v rest other p q stops stops' e =
    let all = whole-all w p in
    let all' = whole-all v q in (
      sym (run-of w rest all stops) ∙ (ap first_word e ∙ run-of v other all' stops'),
      sym (behind-of w rest all stops) ∙ (ap behind e ∙ behind-of v other all' stops'),
    )

-- printable bytes before a line feed
line-cut : (w v rest other : List ℕ) → list_all is_printable w ≡ true → list_all is_printable v ≡ true → get_or rest 0 0 ≡ 10 → get_or other 0 0 ≡ 10
    → w ++ rest ≡ v ++ other → (w ≡ v) × (rest ≡ other)
line-cut [] [] rest other p q feed feed' e = (refl, e)
line-cut [] (y ∷ ys) rest other p q feed feed' e =
    clash (is_printable y) (and_parts _ _ q).0 (ap is_printable (sym (ap (λ (l : List ℕ). get_or l 0 0) e) ∙ feed))
line-cut (x ∷ xs) [] rest other p q feed feed' e =
    clash (is_printable x) (and_parts _ _ p).0 (ap is_printable (ap (λ (l : List ℕ). get_or l 0 0) e ∙ feed'))
line-cut (x ∷ xs) (y ∷ ys) rest other p q feed feed' e =
    let first : x ≡ y = ap (λ (l : List ℕ). get_or l 0 0) e in
    let more = line-cut xs ys rest other (and_parts _ _ p).1 (and_parts _ _ q).1 feed feed' (ap (λ (l : List ℕ). drop 1 l) e) in
    ((λ i. first i ∷ more.0 i), more.1)

-- ---- joined texts

ungroup : (a b rest c d other : List ℕ) → (a ++ b) ++ rest ≡ (c ++ d) ++ other → a ++ (b ++ rest) ≡ c ++ (d ++ other)
ungroup a b rest c d other e = sym (append_assoc a b rest) ∙ (e ∙ append_assoc c d other)

times-cut : (byte : ℕ) (ways : List (List First)) (m n : ℕ) (rest other : List ℕ) → all_part ways (with_text (byte ∷ []) [] ∷ []) ≡ true
    → begins_so ways rest ≡ true → begins_so ways other ≡ true → replicate m byte ++ rest ≡ replicate n byte ++ other → (m ≡ n) × (rest ≡ other)
times-cut byte ways zero zero rest other clear is at e = (refl, e)
times-cut byte ways zero (suc n) rest other clear is at e =
    all-apart ways (with_text (byte ∷ []) [] ∷ []) rest clear is (subst (λ l. begins_so (with_text (byte ∷ []) [] ∷ []) l ≡ true) (sym e) (one n other))
  where
    one : (k : ℕ) (after : List ℕ) → begins_so (with_text (byte ∷ []) [] ∷ []) (byte ∷ (replicate k byte ++ after)) ≡ true
    one k after = or_left _ _ (text-before (byte ∷ []) [] (replicate k byte ++ after) refl)
times-cut byte ways (suc m) zero rest other clear is at e =
    all-apart ways (with_text (byte ∷ []) [] ∷ []) other clear at (subst (λ l. begins_so (with_text (byte ∷ []) [] ∷ []) l ≡ true) e (one m rest))
  where
    one : (k : ℕ) (after : List ℕ) → begins_so (with_text (byte ∷ []) [] ∷ []) (byte ∷ (replicate k byte ++ after)) ≡ true
    one k after = or_left _ _ (text-before (byte ∷ []) [] (replicate k byte ++ after) refl)
times-cut byte ways (suc m) (suc n) rest other clear is at e =
    let less = times-cut byte ways m n rest other clear is at (ap (λ (l : List ℕ). drop 1 l) e) in
    (ap suc less.0, less.1)

-- ---- one after another: what comes after the last begins with none
module _ {X : Type 0} (t : X → List ℕ) (F : X → Type 0) (ways more some : List (List First))
    (each : (x y : X) (rest other : List ℕ) → F x → F y → begins_so more rest ≡ true → begins_so more other ≡ true
    → t x ++ rest ≡ t y ++ other
    → (x ≡ y) × (rest ≡ other))
    (turn : (xs : List X) (rest : List ℕ) → AllByRecursion F xs → begins_so ways rest ≡ true → begins_so more (flat_map t xs ++ rest) ≡ true)
    (begun : (x : X) (rest : List ℕ) → F x → begins_so more rest ≡ true → begins_so some (t x ++ rest) ≡ true)
    (ends : all_part ways some ≡ true) where
  begins-another : (x : X) (xs : List X) (rest : List ℕ)
      → AllByRecursion F (x ∷ xs)
      → begins_so ways rest ≡ true
      → begins_so some (flat_map t (x ∷ xs) ++ rest) ≡ true
  begins-another x xs rest all is =
      subst (λ l. begins_so some l ≡ true) (sym (append_assoc (t x) (flat_map t xs) rest)) (begun x (flat_map t xs ++ rest) all.0 (turn xs rest all.1 is))

  pub each-cut : (xs ys : List X) (rest other : List ℕ) → AllByRecursion F xs → AllByRecursion F ys → begins_so ways rest ≡ true → begins_so ways other ≡ true
      → flat_map t xs ++ rest ≡ flat_map t ys ++ other → (xs ≡ ys) × (rest ≡ other)
  each-cut [] [] rest other p q is at e = (refl, e)
  each-cut [] (y ∷ ys) rest other p q is at e = all-apart ways some rest ends is (subst (λ l. begins_so some l ≡ true) (sym e) (begins-another y ys other q at))
  each-cut (x ∷ xs) [] rest other p q is at e = all-apart ways some other ends at (subst (λ l. begins_so some l ≡ true) e (begins-another x xs rest p is))
  each-cut (x ∷ xs) (y ∷ ys) rest other p q is at e =
      let first = each x y (flat_map t xs ++ rest) (flat_map t ys ++ other) p.0 q.0 (turn xs rest p.1 is) (turn ys other q.1 at)
      (ungroup (t x) (flat_map t xs) rest (t y) (flat_map t ys) other e) in
      let further = each-cut xs ys rest other p.1 q.1 is at first.1 in
      ((λ i. first.0 i ∷ further.0 i), further.1)

-- ---- each format

pub texts-tell : TextsTellTheirValues
texts-tell Nothing ways x y rest other clear p q is at e = (refl, e)
texts-tell Number ways m n rest other clear p q is at e =
    let cut =
    word-cut (decimal m) (decimal n) rest other (number-whole m p).0 (number-whole n q).0
    (so-stops ways rest clear is) (so-stops ways other clear at) e in
    (decimal_injective m n p q cut.0, cut.1)
texts-tell (Word class) ways w v rest other clear p q is at e =
    word-cut w v rest other (word-whole class w p) (word-whole class v q) (so-stops ways rest clear is) (so-stops ways other clear at) e
texts-tell Printable ways w v rest other clear p q is at e = line-cut w v rest other p q (so-feeds ways rest clear is) (so-feeds ways other clear at) e
texts-tell (Times byte) ways m n rest other clear p q is at e = times-cut byte ways m n rest other clear is at e
texts-tell (Lead front f) ways x y rest other clear p q is at e =
    texts-tell f ways x y rest other clear p q is at
    (append_cancel_left front (text f x ++ rest) (text f y ++ other) (ungroup front (text f x) rest front (text f y) other e))
texts-tell (Trail f back) ways x y rest other clear p q is at e =
    let cut = texts-tell f (before back ways) x y (back ++ rest) (back ++ other) clear p q (so-before back ways rest is) (so-before back ways other at)
    (ungroup (text f x) back rest (text f y) back other e) in
    (cut.0, append_cancel_left back rest other cut.1)
texts-tell (Both f g) ways x y rest other clear p q is at e =
    let parts = and_parts (is_clear f (firsts g ways)) (is_clear g ways) clear in
    let first =
    texts-tell f (firsts g ways) x.0 y.0 (text g x.1 ++ rest) (text g y.1 ++ other) parts.0 p.0 q.0
    (firsts-begin g ways x.1 rest p.1 is) (firsts-begin g ways y.1 other q.1 at)
    (ungroup (text f x.0) (text g x.1) rest (text f y.0) (text g y.1) other e) in
    let second = texts-tell g ways x.1 y.1 rest other parts.1 p.1 q.1 is at first.1 in
    ((λ i. (first.0 i, second.0 i)), second.1)
texts-tell (Either f g) ways (This x) (This y) rest other clear p q is at e =
    let parts = and_parts _ _ (and_parts (all_part (firsts f ways) (firsts g ways)) (is_clear f ways && is_clear g ways) clear).1 in
    let cut = texts-tell f ways x y rest other parts.0 p q is at e in
    (ap This cut.0, cut.1)
texts-tell (Either f g) ways (That x) (That y) rest other clear p q is at e =
    let parts = and_parts _ _ (and_parts (all_part (firsts f ways) (firsts g ways)) (is_clear f ways && is_clear g ways) clear).1 in
    let cut = texts-tell g ways x y rest other parts.1 p q is at e in
    (ap That cut.0, cut.1)
texts-tell (Either f g) ways (This x) (That y) rest other clear p q is at e =
    all-apart (firsts f ways) (firsts g ways) (text f x ++ rest) (and_parts _ _ clear).0 (firsts-begin f ways x rest p is)
    (subst (λ l. begins_so (firsts g ways) l ≡ true) (sym e) (firsts-begin g ways y other q at))
texts-tell (Either f g) ways (That x) (This y) rest other clear p q is at e =
    all-apart (firsts f ways) (firsts g ways) (text f y ++ other) (and_parts _ _ clear).0 (firsts-begin f ways y other q at)
    (subst (λ l. begins_so (firsts g ways) l ≡ true) e (firsts-begin g ways x rest p is))
texts-tell (Many f) ways xs ys rest other clear p q is at e =
    let more = in_turn (firsts f) ways in
    let parts = and_parts (all_part ways (firsts f more)) (is_clear f more) clear in
    each-cut (text f) (FitsFormat f) ways more (firsts f more)
    (λ x y r s fit fit' so so' same. texts-tell f more x y r s parts.1 fit fit' so so' same)
    (λ zs r fits so. so-in-turn (text f) (FitsFormat f) (firsts f) (λ w x s fit here. firsts-begin f w x s fit here) ways zs r fits so)
    (λ x r fit so. firsts-begin f more x r fit so) parts.0 xs ys rest other p q is at e
texts-tell (Separated between f) ways [] ys rest other clear p q is at e = absurd p.0
texts-tell (Separated between f) ways (x ∷ xs) [] rest other clear p q is at e = absurd q.0
texts-tell (Separated between f) ways (x ∷ xs) (y ∷ ys) rest other clear p q is at e =
    let step = λ (w : List (List First)). before between (firsts f w) in
    let one = λ (z : Value f). between ++ text f z in
    let more = in_turn step ways in
    let parts = and_parts (is_clear f more) (all_part ways (step more)) clear in
    let next : (w : List (List First)) (z : Value f) (r : List ℕ) → FitsFormat f z → begins_so w r ≡ true → begins_so (step w) (one z ++ r) ≡ true
    = λ w z r fit so.
    subst (λ l. begins_so (step w) l ≡ true) (sym (append_assoc between (text f z) r))
    (so-before between (firsts f w) (text f z ++ r) (firsts-begin f w z r fit so)) in
    let turn : (zs : List (Value f)) (r : List ℕ) → AllByRecursion (FitsFormat f) zs → begins_so ways r ≡ true → begins_so more (flat_map one zs ++ r) ≡ true
    = λ zs r fits so. so-in-turn one (FitsFormat f) step next ways zs r fits so in
    let each : (z u : Value f) (r s : List ℕ)
    → FitsFormat f z
    → FitsFormat f u
    → begins_so more r ≡ true
    → begins_so more s ≡ true
    → one z ++ r ≡ one u ++ s
    → (z ≡ u) × (r ≡ s)
    = λ z u r s fit fit' so so' same. texts-tell f more z u r s parts.0 fit fit' so so'
    (append_cancel_left between (text f z ++ r) (text f u ++ s) (ungroup between (text f z) r between (text f u) s same)) in
    let first = texts-tell f more x y (flat_map one xs ++ rest) (flat_map one ys ++ other) parts.0 p.1.0 q.1.0 (turn xs rest p.1.1 is) (turn ys other q.1.1 at)
    (ungroup (text f x) (flat_map one xs) rest (text f y) (flat_map one ys) other e) in
    let further =
    each-cut one (FitsFormat f) ways more (step more) each turn (λ z r fit so. next more z r fit so) parts.1 xs ys
    rest other p.1.1 q.1.1 is at first.1 in
    ((λ i. first.0 i ∷ further.0 i), further.1)
texts-tell (Spelled f) ways w v rest other clear p q is at e =
    let cut = texts-tell f ways p.0 q.0 rest other clear p.1 q.1 is at (ap (λ (l : List ℕ). l ++ rest) p.2 ∙ (e ∙ ap (λ (l : List ℕ). l ++ other) (sym q.2))) in
    (sym p.2 ∙ (ap (text f) cut.0 ∙ q.2), cut.1)
texts-tell (As manner f) ways x y rest other clear p q is at e = texts-tell f ways x y rest other clear p q is at e
