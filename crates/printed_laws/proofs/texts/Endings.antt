-- What a text ends in; and that it ends in one verdict at most.
use Rattle.printed_laws.proofs.Vocabulary.{◌≡◌, ℕ, Bool, true, false, List, [], ◌∷◌, ◌++◌, drop, refl, sym, ap, subst, ◌∙◌, suc, arith}
use Rattle.printed_laws.proofs.Vocabulary.{length, append-nil, list_all, flat_map, append_cancel_right, append_assoc, length-append, Data}
use Rattle.printed_laws.proofs.Vocabulary.{string, Members, no_members, member, object, compact_text, codes, line, escape_byte}
use Rattle.printed_laws.proofs.Vocabulary.{verdict_word, PrintsVerdict, quoted, members_text}
use Rattle.serde_json.specs.Data.{null}
use Rattle.printed_laws.proofs.texts.Cutting.{unlike}
use Rattle.printed_laws.proofs.texts.Digits.{is_other, there}

abbrev pub EndsIn : List ℕ → List ℕ → Type 0
EndsIn tail text = (front : List ℕ) × (text ≡ front ++ tail)

pub itself : (tail : List ℕ) → EndsIn tail tail
itself tail = ([], refl)

pub behind : (xs text tail : List ℕ) → EndsIn tail text → EndsIn tail (xs ++ text)
behind xs text tail e = (xs ++ e.0, ap (λ (l : List ℕ). xs ++ l) e.1 ∙ sym (append_assoc xs e.0 tail))

pub with-more : (text tail ys : List ℕ) → EndsIn tail text → EndsIn (tail ++ ys) (text ++ ys)
with-more text tail ys e = (e.0, ap (λ (l : List ℕ). l ++ ys) e.1 ∙ append_assoc e.0 tail ys)

pub shorter : (text xs tail : List ℕ) → EndsIn (xs ++ tail) text → EndsIn tail text
shorter text xs tail e = (e.0 ++ xs, e.1 ∙ sym (append_assoc e.0 xs tail))

pub same-tail : (xs ys a b : List ℕ) → length a ≡ length b → xs ++ a ≡ ys ++ b → a ≡ b
same-tail [] [] a b n e = e
same-tail [] (y ∷ ys) a b n e = absurd (
    let long : length a ≡ suc (length (ys ++ b)) = ap (λ (l : List ℕ). length l) e in
    let size = length-append ys b in omega (arith, n, long, size))
same-tail (x ∷ xs) [] a b n e = absurd (
    let long : suc (length (xs ++ a)) ≡ length b = ap (λ (l : List ℕ). length l) e in
    let size = length-append xs a in omega (arith, n, long, size))
same-tail (x ∷ xs) (y ∷ ys) a b n e = same-tail xs ys a b n (ap (λ (l : List ℕ). drop 1 l) e)

pub one-tail : (text a b : List ℕ) → length a ≡ length b → EndsIn a text → EndsIn b text → a ≡ b
one-tail text a b n p q = same-tail p.0 q.0 a b n (sym p.1 ∙ q.1)

-- ---- lines

-- a line feed, behind a first text that has one at its end
pub all-feeds : {X : Type 0} (f : X → List ℕ) → ((x : X) → EndsIn (10 ∷ []) (f x)) → (front : List ℕ) → EndsIn (10 ∷ []) front → (xs : List X)
    → EndsIn (10 ∷ []) (front ++ flat_map f xs)
all-feeds f each front first [] = subst (EndsIn (10 ∷ [])) (sym (append-nil front)) first
all-feeds f each front first (x ∷ xs) =
    subst (EndsIn (10 ∷ [])) (append_assoc front (f x) (flat_map f xs))
    (all-feeds f each (front ++ f x) (behind front (f x) (10 ∷ []) (each x)) xs)

pub line-feed : (text : List ℕ) → EndsIn (10 ∷ []) (line text)
line-feed text = (text, refl)

-- ---- the verdict

-- as a line, or as the last member of an object
abbrev pub verdict_tail : Bool → Bool → List ℕ
verdict_tail false verdict = codes "\nVerdict " ++ line (verdict_word verdict)
verdict_tail true verdict = codes ",\"verdict\":\"" ++ (verdict_word verdict ++ codes "\"}\n")

pub ends-so : (json verdict : Bool) (out : List ℕ) → PrintsVerdict json (verdict_word verdict) out → EndsIn (verdict_tail json verdict) out
ends-so false verdict out says = (says.front, says.text)
ends-so true verdict out says = (says.front, says.text)

pub one-verdict : (json verdict other : Bool) (out : List ℕ) → EndsIn (verdict_tail json verdict) out → EndsIn (verdict_tail json other) out → verdict ≡ other
one-verdict json true true out p q = refl
one-verdict json false false out p q = refl
one-verdict false verdict other out p q =
    unlike 10 (verdict_tail false verdict) (verdict_tail false other) refl
    (one-tail out (verdict_tail false verdict) (verdict_tail false other) refl p q)
one-verdict true verdict other out p q =
    unlike 13 (verdict_tail true verdict) (verdict_tail true other) refl (one-tail out (verdict_tail true verdict) (verdict_tail true other) refl p q)

-- one line alone has none
pub no-verdict-line : (verdict : Bool) (text : List ℕ) → list_all (is_other 10) text ≡ true → EndsIn (verdict_tail false verdict) (line text) → ⊥
no-verdict-line verdict text plain e =
    there 10 e.0 (codes "Verdict " ++ verdict_word verdict) (subst (λ (l : List ℕ). list_all (is_other 10) l ≡ true) (cut verdict (e.1)) plain)
  where
    cut : (v : Bool) → line text ≡ e.0 ++ verdict_tail false v → text ≡ e.0 ++ 10 ∷ (codes "Verdict " ++ verdict_word v)
    cut true is = append_cancel_right text (e.0 ++ 10 ∷ codes "Verdict Ok") (10 ∷ []) (is ∙ sym (append_assoc e.0 (10 ∷ codes "Verdict Ok") (10 ∷ [])))
    cut false is = append_cancel_right text (e.0 ++ 10 ∷ codes "Verdict No") (10 ∷ []) (is ∙ sym (append_assoc e.0 (10 ∷ codes "Verdict No") (10 ∷ [])))

-- an object whose verdict is `null` has none
pub no-verdict-null : (verdict : Bool) (text : List ℕ) → EndsIn (codes ",\"verdict\":null}\n") text → EndsIn (verdict_tail true verdict) text → ⊥
no-verdict-null verdict text p q =
    let last = subst (λ (l : List ℕ). EndsIn l text) (sym (append_assoc (codes ",\"verdict\":\"") (verdict_word verdict) (codes "\"}\n"))) q in
    unlike 0 (codes "l}\n") (codes "\"}\n") refl
    (one-tail text (codes "l}\n") (codes "\"}\n") refl (shorter text (codes ",\"verdict\":nul") (codes "l}\n") p)
    (shorter text (codes ",\"verdict\":\"" ++ verdict_word verdict) (codes "\"}\n") last))

-- an object whose last member is an object has none
pub no-verdict-member : (verdict : Bool) (text : List ℕ) → EndsIn (codes "}}\n") text → EndsIn (verdict_tail true verdict) text → ⊥
no-verdict-member verdict text p q =
    let last = subst (λ (l : List ℕ). EndsIn l text) (sym (append_assoc (codes ",\"verdict\":\"") (verdict_word verdict) (codes "\"}\n"))) q in
    unlike 0 (codes "}}\n") (codes "\"}\n") refl
    (one-tail text (codes "}}\n") (codes "\"}\n") refl p (shorter text (codes ",\"verdict\":\"" ++ verdict_word verdict) (codes "\"}\n") last))

-- ---- the last member of an object

abbrev last_of : Members → Members
last_of (member k d (member l e ms)) = last_of (member l e ms)
last_of ms = ms

members-end : (ms : Members) → EndsIn (members_text true (last_of ms)) (members_text true ms)
members-end (member k d (member l e ms)) =
    let tail = members_text true (last_of (member l e ms)) in
    behind (codes ",") _ tail (behind (quoted k) _ tail (behind (58 ∷ compact_text d) _ tail (members-end (member l e ms))))
members-end no_members = itself (members_text true no_members)
members-end (member k d no_members) = itself (members_text true (member k d no_members))

verdict-end : (verdict : Bool) (text : List ℕ)
    → EndsIn (members_text true (member (codes "verdict") (string (verdict_word verdict)) no_members)) text
    → EndsIn (verdict_tail true verdict) (line text)
unfolding escape_byte
verdict-end true text e = with-more text (members_text true (member (codes "verdict") (string (verdict_word true)) no_members)) (10 ∷ []) e
verdict-end false text e = with-more text (members_text true (member (codes "verdict") (string (verdict_word false)) no_members)) (10 ∷ []) e

abbrev last_in : Data → Members
last_in (object (member k d ms)) = last_of ms
last_in _ = no_members

-- an object whose last member is `null`
null-end : (text : List ℕ) → EndsIn (members_text true (member (codes "verdict") null no_members)) text → EndsIn (codes ",\"verdict\":null}\n") (line text)
unfolding escape_byte
null-end text e = with-more text (members_text true (member (codes "verdict") null no_members)) (10 ∷ []) e

pub object-ends-undecided : (value : Data)
    → last_in value ≡ member (codes "verdict") null no_members
    → EndsIn (codes ",\"verdict\":null}\n") (line (compact_text value))
object-ends-undecided (object (member k d ms)) last =
    let tail = members_text true (member (codes "verdict") null no_members) in
    null-end _ (behind (123 ∷ quoted k) _ tail
    (behind (58 ∷ compact_text d) _ tail (subst (λ l. EndsIn (members_text true l) (members_text true ms)) last (members-end ms))))
object-ends-undecided _ last = absurd cc

-- an object whose last member is a verdict
pub object-ends : (verdict : Bool) (value : Data)
    → last_in value ≡ member (codes "verdict") (string (verdict_word verdict)) no_members
    → EndsIn (verdict_tail true verdict) (line (compact_text value))
object-ends verdict (object (member k d ms)) last =
    let tail = members_text true (member (codes "verdict") (string (verdict_word verdict)) no_members) in
    verdict-end verdict _ (behind (123 ∷ quoted k) _ tail
    (behind (58 ∷ compact_text d) _ tail (subst (λ l. EndsIn (members_text true l) (members_text true ms)) last (members-end ms))))
object-ends verdict _ last = absurd cc
