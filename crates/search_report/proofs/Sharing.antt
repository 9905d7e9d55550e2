-- Cases that are closed for the same reason share a line.
use Rattle.search_report.proofs.Vocabulary.{◌≡◌, ◌∙◌, ◌<◌, ◌≤◌, ◌+◌, ◌-◌, ◌==◌, ℕ, zero, suc, Bool, true, false, cond, List, [], ◌∷◌, ◌++◌}
use Rattle.search_report.proofs.Vocabulary.{map, length, take, drop, get_or, set, refl, sym, ap, arith, string_bytes, Litmus}
use Rattle.std.specs.Str.{bytes_eq}
use Rattle.search_report.specs.Lines as spec
use Rattle.search_report.specs.Shown as shown
use Rattle.search_report.specs.ShownText.{closing_text}
use Rattle.search_report.specs.inner.ShownViews.{shown_closing_of}
use Rattle.search_report.specs.inner.LineParts.{HaveTheirTexts, closed_of, part_in, place_with_text, stacked_parts}
use Rattle.search_report.specs.declared.cases_of_lines.Closed.{Closed}
use Rattle.search_report.specs.declared.cases_of_lines.Part.{Part}
use Rattle.search_report.proofs.Lining.{part_pushed}

-- ---- the place of a text

place-of-first : (c : Closed) (cs : List Closed) (text : List ℕ) (b : Bool) → bytes_eq (string_bytes c.text) text ≡ b
    → place_with_text (c ∷ cs) text ≡ cond b 0 (suc (place_with_text cs text))
place-of-first c cs text b e = ap (λ q. cond q 0 (suc (place_with_text cs text))) e

-- ---- one more answer that is closed

module _ (t : Litmus) (text : List ℕ) (answer : List shown.ShownFact) (closing : shown.Closing) (is : text ≡ closing_text t closing) where
  -- whether this is closed for the same reason
  one-more : (c : Closed) (rest : List spec.Closed) → string_bytes c.text ≡ closing_text t (shown_closing_of c.closing)
      → (b : Bool) → bytes_eq (string_bytes c.text) text ≡ b
      → spec.with_closed t answer closing (closed_of c ∷ rest)
      ≡ cond b (record { answers = (closed_of c).answers ++ (answer ∷ []); closing = (closed_of c).closing } ∷ rest)
      (closed_of c ∷ spec.with_closed t answer closing rest)
  one-more c rest told b e =
      ap (λ q.
      cond q (record { answers = (closed_of c).answers ++ (answer ∷ []); closing = (closed_of c).closing } ∷ rest)
      (closed_of c ∷ spec.with_closed t answer closing rest))
      ((λ i. bytes_eq (sym told i) (sym is i)) ∙ e)

  -- it stands behind those that there are
  pub closed-apart : (cs : List Closed) → HaveTheirTexts t cs → length cs ≤ place_with_text cs text → (new : Closed)
      → closed_of new ≡ record { answers = answer ∷ []; closing = closing }
      → map closed_of (cs ++ (new ∷ [])) ≡ spec.with_closed t answer closing (map closed_of cs)
  closed-apart [] told behind new e = ap (λ c. c ∷ []) e
  closed-apart (c ∷ cs) told behind new e = by (λ more. closed-apart cs told.1 more new e) (bytes_eq (string_bytes c.text) text) refl
    where
      by : (length cs ≤ place_with_text cs text → map closed_of (cs ++ (new ∷ [])) ≡ spec.with_closed t answer closing (map closed_of cs))
          → (b : Bool) → bytes_eq (string_bytes c.text) text ≡ b
          → closed_of c ∷ map closed_of (cs ++ (new ∷ []))
          ≡ spec.with_closed t answer closing (closed_of c ∷ map closed_of cs)
      by later true same =
          let at : place_with_text (c ∷ cs) text ≡ 0 = place-of-first c cs text true same in
          absurd (omega (arith, behind, at))
      by later false other =
          let at : place_with_text (c ∷ cs) text ≡ suc (place_with_text cs text) = place-of-first c cs text false other in
          ap (λ ds. closed_of c ∷ ds) (later (omega (arith, behind, at))) ∙ sym (one-more c (map closed_of cs) told.0 false other)

  -- it stands with those that are closed for the same reason
  pub closed-together : (cs : List Closed)
      → HaveTheirTexts t cs
      → (at : ℕ) → at ≡ place_with_text cs text
      → at < length cs
      → (c new : Closed) → c ≡ get_or cs at c
      → closed_of new ≡ record { answers = (closed_of c).answers ++ (answer ∷ []); closing = (closed_of c).closing }
      → map closed_of (set cs at new) ≡ spec.with_closed t answer closing (map closed_of cs)
  closed-together [] told at here within c new known e = absurd (omega (arith, within))
  closed-together (d ∷ cs) told at here within c new known e =
      by (λ less is. closed-together cs told.1 (place_with_text cs text) refl less c new is e) (bytes_eq (string_bytes d.text) text) refl
    where
      by : (place_with_text cs text < length cs → c ≡ get_or cs (place_with_text cs text) c
          → map closed_of (set cs (place_with_text cs text) new) ≡ spec.with_closed t answer closing (map closed_of cs))
          → (b : Bool) → bytes_eq (string_bytes d.text) text ≡ b
          → map closed_of (set (d ∷ cs) at new) ≡ spec.with_closed t answer closing (closed_of d ∷ map closed_of cs)
      by later true same =
          let first : at ≡ 0 = here ∙ place-of-first d cs text true same in
          let is-first : c ≡ d = known ∙ ap (λ n. get_or (d ∷ cs) n c) first in
          ap (λ n. map closed_of (set (d ∷ cs) n new)) first
          ∙ (ap (λ x. x ∷ map closed_of cs)
          (e ∙ ap (λ (x : Closed). record { answers = (closed_of x).answers ++ (answer ∷ []); closing = (closed_of x).closing }) is-first)
          ∙ sym (one-more d (map closed_of cs) told.0 true same))
      by later false other =
          let next : at ≡ suc (place_with_text cs text) = here ∙ place-of-first d cs text false other in
          ap (λ n. map closed_of (set (d ∷ cs) n new)) next
          ∙ (ap (λ ds. closed_of d ∷ ds) (later (omega (arith, within, next)) (known ∙ ap (λ n. get_or (d ∷ cs) n c) next))
          ∙ sym (one-more d (map closed_of cs) told.0 false other))

-- all have their texts still
pub texts-apart : (t : Litmus) (cs : List Closed) (new : Closed) → HaveTheirTexts t cs → string_bytes new.text ≡ closing_text t (shown_closing_of new.closing)
    → HaveTheirTexts t (cs ++ (new ∷ []))
texts-apart t [] new told is = (is, tt)
texts-apart t (c ∷ cs) new told is = (told.0, texts-apart t cs new told.1 is)

pub texts-together : (t : Litmus) (cs : List Closed) (at : ℕ) (c new : Closed) → HaveTheirTexts t cs → at < length cs → c ≡ get_or cs at c
    → string_bytes new.text ≡ string_bytes c.text → new.closing ≡ c.closing → HaveTheirTexts t (set cs at new)
texts-together t [] at c new told within is text closing = absurd (omega (arith, within))
texts-together t (d ∷ cs) zero c new told within is text closing = (
  text ∙ (ap (λ (x : Closed). string_bytes x.text) is ∙ (told.0 ∙ ap (λ (x : Closed). closing_text t (shown_closing_of x.closing)) (sym is)
      ∙ ap (λ x. closing_text t (shown_closing_of x)) (sym closing))),
  told.1,
)
texts-together t (d ∷ cs) (suc at) c new told within is text closing = (told.0, texts-together t cs at c new told.1 (omega (arith, within)) is text closing)

-- ---- the cases of a question

-- one more part is taken
pub taken-part : (old rest : List Part) (p : Part) → old ≡ rest ++ (p ∷ []) → (count b : ℕ) → b < count
    → take (count - b) (stacked_parts old) ≡ part_in p ∷ take (count - (b + 1)) (stacked_parts rest)
taken-part old rest p is count b within =
    let more : count - b ≡ suc (count - (b + 1)) = omega (arith, within) in
    (λ i. take (more i) (part_pushed rest old p is i))

pub dropped-part : (old rest : List Part) (p : Part) → old ≡ rest ++ (p ∷ []) → (count b : ℕ) → b < count
    → drop (count - b) (stacked_parts old) ≡ drop (count - (b + 1)) (stacked_parts rest)
dropped-part old rest p is count b within =
    let more : count - b ≡ suc (count - (b + 1)) = omega (arith, within) in
    (λ i. drop (more i) (part_pushed rest old p is i))

-- none is left
pub none-taken : (parts : List Part) → parts ≡ [] → (n : ℕ) → take n (stacked_parts parts) ≡ []
none-taken parts is n = go n (stacked_parts parts) (ap stacked_parts is)
  where
    go : (m : ℕ) (ps : List spec.Part) → ps ≡ [] → take m ps ≡ []
    go m (p ∷ ps) e = absurd (let some : ⊥ = cc in some)
    go zero [] e = refl
    go (suc m) [] e = refl

pub none-dropped : (parts : List Part) → parts ≡ [] → (n : ℕ) → drop n (stacked_parts parts) ≡ []
none-dropped parts is n = go n (stacked_parts parts) (ap stacked_parts is)
  where
    go : (m : ℕ) (ps : List spec.Part) → ps ≡ [] → drop m ps ≡ []
    go m (p ∷ ps) e = absurd (let some : ⊥ = cc in some)
    go zero [] e = refl
    go (suc m) [] e = refl

pub as-many-parts : (parts : List Part) → length (stacked_parts parts) ≡ length parts
as-many-parts [] = refl
as-many-parts (p ∷ parts) = more (stacked_parts parts) ∙ ap suc (as-many-parts parts)
  where
    more : (ps : List spec.Part) → length (ps ++ (part_in p ∷ [])) ≡ suc (length ps)
    more [] = refl
    more (x ∷ ps) = ap suc (more ps)

-- some are left, and some are taken
pub some-taken : (parts : List Part) (count n : ℕ) (empty : Bool) → n ≡ length parts → empty ≡ (n == 0) → empty ≡ false → (count ≡ 0 → ⊥)
    → 0 < length (take count (stacked_parts parts))
some-taken parts count n empty size is some taken = go count (stacked_parts parts) taken (λ none. never (size ∙ (sym (as-many-parts parts) ∙ ap length none)))
  where
    never : n ≡ 0 → ⊥
    never e = let so : true ≡ false = ap (λ m. m == 0) (sym e) ∙ (sym is ∙ some) in cc

    go : (m : ℕ) (ps : List spec.Part) → (m ≡ 0 → ⊥) → (ps ≡ [] → ⊥) → 0 < length (take m ps)
    go zero ps more left = absurd (more refl)
    go (suc m) [] more left = absurd (left refl)
    go (suc m) (p ∷ ps) more left = omega arith

-- no item is left
pub none-there : {X : Type 0} (xs : List X) (n : ℕ) → n ≡ length xs → n ≡ 0 → xs ≡ []
none-there [] n size none = refl
none-there (x ∷ xs) n size none = absurd (omega (arith, size, none))
