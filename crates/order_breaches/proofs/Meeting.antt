-- What the second pass has met among the entries so far.
use Rattle.order_breaches.proofs.Vocabulary.{◌≡◌, ◌≢◌, ◌<◌, ◌≤◌, ℕ, ◌+◌, suc, List, length, Option, Some, None, IfSome, IsNone}
use Rattle.order_breaches.proofs.Vocabulary.{if◌then◌else◌, slice_get, slice_index, take, filter, Bool, true, false, arith, ap, sym, ◌∙◌}
use Rattle.order_breaches.proofs.Vocabulary.{inl, inr, subst, refl, unwrap_or, slice_get-get_or, leb_tells, Litmus, is_read, is_write}
use Rattle.order_breaches.proofs.Vocabulary.{writes_to, made, last_value, IsStorePart, Entry, LR, LW, NoneBefore, IsFirst, IsEarliest}
use Rattle.order_breaches.proofs.Vocabulary.{IsWrongWrite, written_value, IsLate, IsSeparated, IsWrongRead, due_at, is_late, IsSource}
use Rattle.order_breaches.proofs.Vocabulary.{IsFound, HasMet, IsFirstWrongWrite, IsFirstWrongRead, NamesWrongWrite, NamesWrongRead}
use Rattle.order_breaches.proofs.Vocabulary.{IsDueFrom, AreOfPrograms, first_of_two, due_from, Met}
use Rattle.order_breaches.proofs.Marking.{AreMarks, AreWords, of_core, past_loads, late-tells}
use Rattle.order_breaches.proofs.Following.{due-right}
use Rattle.order_breaches.proofs.Firsts.{one_more, none_in_nothing, same_or_below}

pub nothing-so-far : {X : Type 0} (list : List Entry) (Fact : ℕ → Entry → Type 0) (Names : X → Type 0) → IsFound list Fact 0 Names None
nothing-so-far list Fact Names = record { named = tt; none = λ _. none_in_nothing list Fact }

pub so-far-more : {X : Type 0} (list : List Entry) (Fact : ℕ → Entry → Type 0) (at : ℕ) (Names : X → Type 0) (x : Entry)
    (found next : Option X)
    → slice_get list at ≡ Some x
    → (NoneBefore list Fact at → IfSome next Names)
    → (IsNone next → Fact at x → ⊥)
    → IsFound list Fact at Names found
    → IsFound list Fact (at + 1) Names (first_of_two found next)
so-far-more list Fact at Names x None next here names none so = record {
  named = names (so.none refl);
  none = λ n. one_more list Fact at x here (so.none refl) (none n);
}
so-far-more list Fact at Names x (Some y) next here names none so = record { named = so.named; none = λ n. absurd (let z : ⊥ = cc in z) }

if-some : {X : Type 0} (P Q : X → Type 0) (o : Option X) → ((x : X) → P x → Q x) → IfSome o P → IfSome o Q
if-some P Q None f h = tt
if-some P Q (Some x) f h = f x h

-- one more entry of the order
module _ (t : Litmus) (order : List Entry) (at : ℕ) (x : Entry) (here : slice_get order at ≡ Some x) where
  first-here : (Fact : ℕ → Entry → Type 0) (y : Entry) → y ≡ x → Fact at x → NoneBefore order Fact at → IsFirst order Fact at y
  first-here Fact y q f none = subst (λ z. IsFirst order Fact at z) (sym q) (record { stands = here; holds = f; earliest = none })

  wrote : (found next : Option (Entry × ℕ))
      → IfSome next (NamesWrongWrite (made t order) x)
      → (IsNone next → ¬ IsWrongWrite (made t order) 0 x)
      → IsFound order (IsWrongWrite (made t order)) at (IsFirstWrongWrite t order) found
      → IsFound order (IsWrongWrite (made t order)) (at + 1) (IsFirstWrongWrite t order) (first_of_two found next)
  wrote found next found_it never so =
      so-far-more order (IsWrongWrite (made t order)) at (IsFirstWrongWrite t order) x found next here
      (λ none.
      if-some _ _ next (λ v h. (
        (
          at,
          first-here (IsWrongWrite (made t order)) v.0 h.0 h.1 none,
        ),
        h.2
            ∙ ap (λ y. written_value (made t order) y) (sym h.0),
      ))
      found_it)
      never so

  after : (found : Option (ℕ × Entry)) (b : Bool)
      → (b ≡ true → IsLate order at x)
      → (b ≡ false → IsLate order at x → ⊥)
      → IsFound order (IsLate order) at (λ a. IsFirst order (IsLate order) a.0 a.1) found
      → IsFound order (IsLate order) (at + 1) (λ a. IsFirst order (IsLate order) a.0 a.1) (first_of_two found (if b then Some (at, x) else None))
  after found true found_it never so =
      so-far-more order (IsLate order) at (λ a. IsFirst order (IsLate order) a.0 a.1) x found (Some (at, x)) here
      (λ none. first-here (IsLate order) x refl (found_it refl) none) (λ n. absurd (let z : ⊥ = cc in z)) so
  after found false found_it never so =
      so-far-more order (IsLate order) at (λ a. IsFirst order (IsLate order) a.0 a.1) x found None here (λ none. tt) (λ _. never refl) so

  next-is : (o : Option Entry) (y : Entry) → o ≡ Some y → unwrap_or o x ≡ y
  next-is o y e = ap (λ z. unwrap_or z x) e

  separated-now : (next : Entry) → next ≡ unwrap_or (slice_get order (at + 1)) x → x.kind ≡ LR → (IsStorePart x next → ⊥) → IsSeparated order at x
  separated-now next is load apart = record {
    load_part = load;
    separated = λ y e part.
        let f : slice_get order (at + 1) ≡ Some y = ap (λ n. slice_get order n) (let q : at + 1 ≡ suc at = omega arith in q) ∙ e in
        apart (subst (λ z. IsStorePart x z) (sym (is ∙ next-is (slice_get order (at + 1)) y f)) part);
  }

  together : (next : Entry) → next ≡ unwrap_or (slice_get order (at + 1)) x → (x.kind ≡ LR → IsStorePart x next) → IsSeparated order at x → ⊥
  together next is part p = go (slice_get order (at + 1)) refl
    where
      go : (o : Option Entry) → slice_get order (at + 1) ≡ o → ⊥
      go None e =
          let q : next ≡ x = is ∙ ap (λ z. unwrap_or z x) e in
          let k = (part p.load_part).kind in
          let l : LR ≡ LW = sym p.load_part ∙ ap (λ z. z.kind) (sym q) ∙ k in
          let z : ⊥ = cc in z
      go (Some y) e =
          let f : slice_get order (suc at) ≡ Some y = ap (λ n. slice_get order n) (let q : suc at ≡ at + 1 = omega arith in q) ∙ e in
          p.separated y f (subst (λ z. IsStorePart x z) (is ∙ next-is (slice_get order (at + 1)) y e) (part p.load_part))

  split : (found : Option Entry) (next : Entry) (now : Option Entry)
      → next ≡ unwrap_or (slice_get order (at + 1)) x
      → IfSome now (λ p. (p ≡ x) × (x.kind ≡ LR) × (IsStorePart x next → ⊥))
      → (IsNone now → x.kind ≡ LR → IsStorePart x next) → IsFound order (IsSeparated order) at (IsEarliest order (IsSeparated order)) found
      → IsFound order (IsSeparated order) (at + 1) (IsEarliest order (IsSeparated order)) (first_of_two found now)
  split found next now is found_it never so =
      so-far-more order (IsSeparated order) at (IsEarliest order (IsSeparated order)) x found now here
      (λ none. if-some _ _ now (λ p h. (at, first-here (IsSeparated order) p h.0 (separated-now next is h.1 h.2) none)) found_it)
      (λ n. together next is (never n)) so

  read : (found now : Option (Entry × ℕ))
      → IfSome now (λ w. (w.0 ≡ x) × (is_read x ≡ true) × (x.value ≢ w.1) × (w.1 ≡ due_at t order at x))
      → (IsNone now → is_read x ≡ true → x.value ≡ due_at t order at x)
      → IsFound order (IsWrongRead t order) at (IsFirstWrongRead t order) found
      → IsFound order (IsWrongRead t order) (at + 1) (IsFirstWrongRead t order) (first_of_two found now)
  read found now found_it never so =
      so-far-more order (IsWrongRead t order) at (IsFirstWrongRead t order) x found now here
      (λ none.
      if-some _ _ now (λ w h. (
        at,
        first-here (IsWrongRead t order) w.0 h.0 (record { read = h.1; wrong = λ e. h.2 (e ∙ sym h.3) }) none,
        h.3 ∙ ap (λ y. due_at t order at y) (sym h.0),
      ))
      found_it)
      (λ n f. f.wrong (never n f.read)) so

-- what the second pass's tests say of an entry, and with it what was met is what was met so far
pub met-more : (t : Litmus) (order : List Entry) (at : ℕ) (x : Entry) → slice_get order at ≡ Some x → (entries : List Entry) → entries ≡ made t order
    → (all others words first : List ℕ) → t.words ≡ first
    → AreMarks order at of_core all
    → AreMarks order at past_loads others
    → AreWords order at first words
    → x.core.0 < length all
    → x.core.0 < length others
    → (next : Entry) → next ≡ unwrap_or (slice_get order (at + 1)) x
    → (write : Option (Entry × ℕ)) → IfSome write (NamesWrongWrite entries x) → (IsNone write → ¬ IsWrongWrite entries 0 x)
    → (late : Option (ℕ × Entry)) → late ≡ (if is_late all others x then Some (at, x) else None)
    → (separated : Option Entry) → IfSome separated (λ p. (p ≡ x) × (x.kind ≡ LR) × (IsStorePart x next → ⊥))
    → (IsNone separated → x.kind ≡ LR → IsStorePart x next)
    → (misread : Option (Entry × ℕ)) → IfSome misread (NamesWrongRead entries others words x)
    → (IsNone misread → is_read x ≡ true → IsDueFrom entries others words x x.value)
    → (met now : Met) → now.wrong_write ≡ first_of_two met.wrong_write write
    → now.late ≡ first_of_two met.late late
    → now.separated ≡ first_of_two met.separated separated
    → now.wrong_read ≡ first_of_two met.wrong_read misread
    → HasMet t order at met → HasMet t order (at + 1) now
met-more t order at x here entries is all others words first same_words a o ws l m next next_is write w_found w_none
    late late_is separated p_found p_none misread r_found r_none met now e1 e2 e3 e4 so =
    let tells = late-tells order at all others x a o l m in
    record {
      wrong_write =
          subst (λ f. IsFound order (IsWrongWrite (made t order)) (at + 1) (IsFirstWrongWrite t order) f) (sym e1)
          (wrote t order at x here met.wrong_write write
          (subst (λ es. IfSome write (NamesWrongWrite es x)) is w_found)
          (subst (λ es. IsNone write → ¬ IsWrongWrite es 0 x) is w_none) so.wrong_write);
      late =
          subst (λ f. IsFound order (IsLate order) (at + 1) (λ a. IsFirst order (IsLate order) a.0 a.1) f)
          (sym (e2 ∙ ap (λ n. first_of_two met.late n) late_is))
          (after t order at x here met.late (is_late all others x) tells.0 tells.1 so.late);
      separated =
          subst (λ f. IsFound order (IsSeparated order) (at + 1) (IsEarliest order (IsSeparated order)) f) (sym e3)
          (split t order at x here met.separated next separated next_is p_found p_none so.separated);
      wrong_read = λ whole keeps.
          let word : slice_index words x.loc.0 ≡ last_value (filter (writes_to x.loc.0) (take at order)) (slice_index t.words x.loc.0) =
          ws x.loc.0 ∙ ap (λ v. last_value (filter (writes_to x.loc.0) (take at order)) (slice_index v x.loc.0)) (sym same_words) in
          let due : is_read x ≡ true → (source : Option Entry) → IsSource entries x source → due_from source others words x ≡ due_at t order at x =
          λ reads source own.
          due-right t order at x here reads whole keeps others words (o x.core.0 m) word source (subst (λ es. IsSource es x source) is own) in
          subst (λ f. IsFound order (IsWrongRead t order) (at + 1) (IsFirstWrongRead t order) f) (sym e4)
          (read t order at x here met.wrong_read misread
          (if-some _ (λ w. (w.0 ≡ x) × (is_read x ≡ true) × (x.value ≢ w.1) × (w.1 ≡ due_at t order at x)) misread
          (λ w h. (h.0, h.1, h.2, h.3.2 ∙ due h.1 h.3.0 h.3.1)) r_found)
          (λ n reads. let s = r_none n reads in s.2 ∙ due reads s.0 s.1) (so.wrong_read whole keeps));
    }

pub nothing-met : (t : Litmus) (order : List Entry) → HasMet t order 0 (record { wrong_write = None; late = None; separated = None; wrong_read = None })
nothing-met t order = record {
  wrong_write = nothing-so-far order (IsWrongWrite (made t order)) (IsFirstWrongWrite t order);
  late = nothing-so-far order (IsLate order) (λ a. IsFirst order (IsLate order) a.0 a.1);
  separated = nothing-so-far order (IsSeparated order) (IsEarliest order (IsSeparated order));
  wrong_read = λ _ _. nothing-so-far order (IsWrongRead t order) (IsFirstWrongRead t order);
}

-- the entry ahead, and the looks
pub ahead : (order : List Entry) (n : ℕ) (x y : Entry) → n < length order → y ≡ unwrap_or (slice_get order n) x → slice_get order n ≡ Some y
ahead order n x y l e =
    let g = slice_get-get_or order n x l in
    g ∙ ap Some (sym (e ∙ ap (λ o. unwrap_or o x) g))

pub no-more-looks : (before n at looks after : ℕ)
    → looks ≤ before + (at + 1)
    → looks ≤ before + n
    → after ≤ looks + 1
    → (n ≤ at + 1 → after ≡ looks)
    → after ≤ before + n
no-more-looks before n at looks after l m u last = elim (leb_tells n (at + 1)) [
  | inl p ↦ let q = last p.1 in omega arith
  | inr p ↦ let q = p.1 in omega arith
]

-- whether the order has entries
pub some-there : (n len : ℕ) → len ≡ n → len ≢ 0 → 0 < n
some-there n len is some = omega arith

pub one-more-fails : (order : List Entry) (p : Entry → Bool) (at : ℕ) (x : Entry)
    → slice_get order at ≡ Some x
    → ((k : ℕ) (y : Entry) → k < at → slice_get order k ≡ Some y → p y ≡ false)
    → p x ≡ false
    → (k : ℕ) (y : Entry) → k < at + 1 → slice_get order k ≡ Some y → p y ≡ false
one-more-fails order p at x here none fails k y l f = elim (same_or_below k at l) [
  | inl q ↦ let g : slice_get order at ≡ Some y = ap (λ n. slice_get order n) (sym q) ∙ f in let e : y ≡ x = cc in ap p e ∙ fails
  | inr b ↦ none k y b f
]

late-here : (n at : ℕ) (x : Entry)
    → at < n
    → (found : Option (ℕ × Entry)) (b : Bool)
    → IfSome found (λ a. a.0 < n)
    → IfSome (first_of_two found (if b then Some (at, x) else None)) (λ a. a.0 < n)
late-here n at x l None true h = l
late-here n at x l None false h = tt
late-here n at x l (Some a) b h = h

pub late-within : (n at : ℕ) (x : Entry)
    → at < n
    → (found late now : Option (ℕ × Entry)) (b : Bool)
    → late ≡ (if b then Some (at, x) else None)
    → now ≡ first_of_two found late
    → IfSome found (λ a. a.0 < n)
    → IfSome now (λ a. a.0 < n)
late-within n at x l found late now b late_is now_is h =
    subst (λ o. IfSome o (λ a. a.0 < n)) (sym (now_is ∙ ap (λ o. first_of_two found o) late_is)) (late-here n at x l found b h)

-- the marks and the words have a place for the entry
pub core-within : (made : List Entry) (cores words : ℕ) (order : List Entry)
    → AreOfPrograms made cores words order
    → (at : ℕ) (x : Entry)
    → slice_get order at ≡ Some x
    → (marks : ℕ) → marks ≡ cores
    → x.core.0 < marks
core-within made cores words order ours at x here marks same = subst (λ n. x.core.0 < n) (sym same) (ours.of_a_core at x here)

pub word-within : (made : List Entry) (cores words : ℕ) (order : List Entry)
    → AreOfPrograms made cores words order
    → (at : ℕ) (x : Entry)
    → slice_get order at ≡ Some x
    → (now : ℕ) → now ≡ words
    → is_write x ≡ true
    → x.loc.0 < now
word-within made cores words order ours at x here now same write = subst (λ n. x.loc.0 < n) (sym same) (ours.to_a_word at x here write)
