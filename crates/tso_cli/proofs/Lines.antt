-- The parts of a text, from sign to sign.
use Rattle.std.proofs.Common.{◌≡◌, ◌==◌, ◌≤◌, ◌<◌, ◌+◌, ℕ, zero, suc, Bool, true, false, cond, List, [], ◌∷◌, ◌++◌, length, take, drop}
use Rattle.std.proofs.Common.{Option, None, refl, sym, ap, ◌∙◌, append_assoc, append-nil, drop-cons, take-suc, take_all, get_or, Some}
use Rattle.std.proofs.Common.{subst, ◌-◌, nat_eq, length-drop, arith, slice_index}
use Rattle.std.proofs.lemmas.List.{drop-drop}
use Rattle.std.proofs.Math.Seq.{take-add}
use Rattle.std.specs.List.{starts_with}
use Rattle.memchr.specs.Find.{Nowhere, NoneBefore, OccursAt}
use Rattle.std.proofs.lemmas.Slice.Eq.{starts_is}
use Rattle.std.proofs.lemmas.Bool.Decides.{Decides-eqb}
use Rattle.tso_cli.specs.Dividing.{after_divider, after_end, Parts, with_byte, parts_from, parts_of}
use Rattle.tso_cli.specs.inner.Dividing.{after_bytes, begins_line, signs}

-- a byte more
pub after_byte : (b : Bool) (xs : List ℕ) (x : ℕ) → after_bytes b (xs ++ x ∷ []) ≡ (x == 10)
unfolding after_bytes
after_byte b [] x = refl
after_byte b (c ∷ cs) x = after_byte (c == 10) cs x

pub after_more : (b : Bool) (xs ys : List ℕ) → after_bytes b (xs ++ ys) ≡ after_bytes (after_bytes b xs) ys
unfolding after_bytes
after_more b [] ys = refl
after_more b (c ∷ cs) ys = after_more (c == 10) cs ys

signs_first : (rest : List ℕ) (j : ℕ) → j < 4 → slice_index (signs ++ rest) (0 + j) ≡ slice_index signs j
signs_first rest zero lt = refl
signs_first rest (suc zero) lt = refl
signs_first rest (suc (suc zero)) lt = refl
signs_first rest (suc (suc (suc zero))) lt = refl
signs_first rest (suc (suc (suc (suc j)))) lt = absurd (omega arith)

signs_occur : (text rest : List ℕ) → text ≡ signs ++ rest → OccursAt text signs 0
signs_occur text rest is = subst (λ (ds : List ℕ). OccursAt ds signs 0) (sym is) (record { fits = omega arith; reads = signs_first rest })

occur_more : (c : ℕ) (cs : List ℕ) (k : ℕ) → OccursAt cs signs k → OccursAt (c ∷ cs) signs (suc k)
occur_more c cs k there = record {
  fits = let fits = there.fits in omega (arith, fits);
  reads = λ j lt. let same : suc k + j ≡ suc (k + j) = omega arith in rw same (there.reads j lt);
}

-- no dividing line begins where the signs aren't
no_divider : (text : List ℕ) → ¬ OccursAt text signs 0 → after_divider text ≡ None
no_divider text nowhere = by_start (starts_with nat_eq text signs) refl
  where
    by_start : (b : Bool) → b ≡ starts_with nat_eq text signs → cond b (after_end (drop 4 text)) None ≡ None
    by_start true is = absurd (nowhere (signs_occur text (drop 4 text) ((starts_is Decides-eqb text signs true is).0 refl)))
    by_start false is = refl

either_none : (b : Bool) (o : Option (List ℕ)) → o ≡ None → cond b o None ≡ None
either_none true o none = none
either_none false o none = refl

-- where no dividing line begins, the parts have the byte and go on behind it
pub past_byte : (b : Bool) (c : ℕ) (cs : List ℕ) → cond b (after_divider (c ∷ cs)) None ≡ None
    → parts_from b (c ∷ cs) ≡ with_byte c (parts_from (c == 10) cs)
past_byte b c cs none = rw none refl

-- a byte that is no sign
plain_byte : (b : Bool) (c : ℕ) (cs : List ℕ) → ¬ OccursAt (c ∷ cs) signs 0
    → parts_from b (c ∷ cs) ≡ with_byte c (parts_from (c == 10) cs)
plain_byte b c cs no_sign =
    past_byte b c cs (either_none b (after_divider (c ∷ cs)) (no_divider (c ∷ cs) no_sign))

-- before the next sign nothing is separated
pub record Passed (b : Bool) (text : List ℕ) (n : ℕ) : Type 0 where
  pub test : (parts_from b text).test ≡ take n text ++ (parts_from (after_bytes b (take n text)) (drop n text)).test
  pub rest : (parts_from b text).rest ≡ (parts_from (after_bytes b (take n text)) (drop n text)).rest

pub before_sign : (b : Bool) (text : List ℕ) (n : ℕ) → n ≤ length text → Nowhere (OccursAt text signs) 0 n → Passed b text n
unfolding after_bytes
before_sign b [] zero le nowhere = record { test = refl; rest = refl }
before_sign b (c ∷ cs) zero le nowhere = record { test = refl; rest = refl }
before_sign b [] (suc n) le nowhere = absurd (omega arith)
before_sign b (c ∷ cs) (suc n) le nowhere =
    let here = plain_byte b c cs (nowhere 0 (omega arith) (omega arith)) in
    let more = before_sign (c == 10) cs n (omega arith) (λ k low high there. nowhere (suc k) (omega arith) (omega arith) (occur_more c cs k there)) in
    record { test = ap (λ (p : Parts). p.test) here ∙ ap (λ (ds : List ℕ). c ∷ ds) more.test; rest = ap (λ (p : Parts). p.rest) here ∙ more.rest }

-- without a sign nothing is separated
pub no_sign : (b : Bool) (text : List ℕ) → Nowhere (OccursAt text signs) 0 (length text)
    → ((parts_from b text).test ≡ text) × ((parts_from b text).rest ≡ [])
no_sign b [] nowhere = (refl, refl)
no_sign b (c ∷ cs) nowhere =
    let here = plain_byte b c cs (nowhere 0 (omega arith) (omega arith)) in
    let more = no_sign (c == 10) cs (λ k low high there. nowhere (suc k) (omega arith) (omega arith) (occur_more c cs k there)) in
    (ap (λ (p : Parts). p.test) here ∙ ap (λ (ds : List ℕ). c ∷ ds) more.0, ap (λ (p : Parts). p.rest) here ∙ more.1)

-- what is left of an input to separate, from a place on
abbrev pub left_from : List ℕ → ℕ → Parts
left_from input at = parts_from (begins_line (take at input)) (drop at input)

-- the parts of an input are those of what is left, after what was passed
pub record IsUpTo (input : List ℕ) (at : ℕ) : Type 0 where
  pub test : (parts_of input).test ≡ take at input ++ (left_from input at).test
  pub rest : (parts_of input).rest ≡ (left_from input at).rest

pub up_to_sign : (input : List ℕ) (at n : ℕ) → n ≤ length (drop at input) → Nowhere (OccursAt (drop at input) signs) 0 n
    → IsUpTo input at → IsUpTo input (at + n)
up_to_sign input at n le nowhere so_far =
    let begins = begins_line (take at input) in
    let more = take n (drop at input) in
    let further = parts_from (after_bytes begins more) (drop n (drop at input)) in
    let passed = before_sign begins (drop at input) n le nowhere in
    let front = take-add at n input in
    let same = ap begins_line front ∙ after_more true (take at input) more in
    let left : further ≡ left_from input (at + n) =
    ap (λ (b : Bool). parts_from b (drop n (drop at input))) (sym same)
    ∙ ap (parts_from (begins_line (take (at + n) input))) (drop-drop n at input) in
    record {
      test = so_far.test ∙ ap (λ (ds : List ℕ). take at input ++ ds) passed.test
          ∙ sym (append_assoc (take at input) more further.test)
          ∙ ap (λ (ds : List ℕ). ds ++ further.test) (sym front)
          ∙ ap (λ (p : Parts). take (at + n) input ++ p.test) left;
      rest = so_far.rest ∙ passed.rest ∙ ap (λ (p : Parts). p.rest) left;
    }

-- a search from a place on looks at all that is left
pub from_place : (input : List ℕ) (at : ℕ) → take (length input - at) (drop at input) ≡ drop at input
from_place input at = take_all (length input - at) (drop at input) (omega (arith, length-drop at input))

-- the next sign, and how far off it is
pub record IsNextSign (left : List ℕ) (n : ℕ) : Type 0 where
  pub within : n < length left
  pub before : Nowhere (OccursAt left signs) 0 n
  pub sign : OccursAt left signs n

pub next_sign : (hay left : List ℕ) (n : ℕ) → hay ≡ left
    → NoneBefore (OccursAt hay signs) 0 (length hay + 1) n × OccursAt hay signs n → IsNextSign left n
next_sign hay left n all found =
    let fits = found.1.fits in
    subst (λ (ds : List ℕ). IsNextSign ds n) all (record { within = omega (arith, fits); before = found.0.before; sign = found.1 })

pub nowhere_left : (hay left : List ℕ) → hay ≡ left → Nowhere (OccursAt hay signs) 0 (length hay + 1)
    → Nowhere (OccursAt left signs) 0 (length left)
nowhere_left hay left all nowhere =
    subst (λ (ds : List ℕ). Nowhere (OccursAt ds signs) 0 (length ds)) all (λ k low high. nowhere k low (omega (arith, high)))

-- a sign is there
pub sign_there : (input lines : List ℕ) (at n : ℕ) → lines ≡ drop (at + n) input → IsNextSign (drop at input) n
    → lines ≡ 61 ∷ drop (at + (n + 1)) input
sign_there input lines at n is next =
    let there = next.within in
    let sign : slice_index (drop at input) (n + 0) ≡ 61 = next.sign.reads 0 (omega arith) in
    let same : get_or (drop at input) n 0 ≡ 61 = subst (λ (i : ℕ). slice_index (drop at input) i ≡ 61) (omega arith) sign in
    is ∙ sym (drop-drop n at input) ∙ drop-cons (drop at input) n 0 there
    ∙ ap (λ (c : ℕ). c ∷ drop (suc n) (drop at input)) same
    ∙ ap (λ (ds : List ℕ). 61 ∷ ds) (drop-drop (suc n) at input ∙ ap (λ (k : ℕ). drop k input) (omega arith))

-- at a sign: the dividing line, or more of the first part
divided : (b : Bool) (lines rest : List ℕ) → cond b (after_divider lines) None ≡ Some rest
    → parts_from b lines ≡ record { test = []; rest = rest }
divided b [] rest found = absurd (none_there b found)
  where
    none_there : (b : Bool) → cond b (after_divider []) None ≡ Some rest → ⊥
    none_there true e = cc
    none_there false e = cc
divided b (c ∷ cs) rest found = rw found refl

-- what a look for the dividing line told, by the place
pub told : (front other lines : List ℕ) (r : Option (List ℕ)) → front ≡ other → r ≡ cond (begins_line front) (after_divider lines) None
    → cond (begins_line other) (after_divider lines) None ≡ r
told front other lines r same is = ap (λ (ds : List ℕ). cond (begins_line ds) (after_divider lines) None) (sym same) ∙ sym is

pub at_divider : (input lines rest : List ℕ) (k : ℕ) → lines ≡ drop k input
    → cond (begins_line (take k input)) (after_divider lines) None ≡ Some rest → IsUpTo input k
    → ((parts_of input).test ≡ take k input) × ((parts_of input).rest ≡ rest)
at_divider input lines rest k is found so_far =
    let here = divided (begins_line (take k input)) lines rest found in
    let parts = ap (parts_from (begins_line (take k input))) (sym is) ∙ here in (
      so_far.test ∙ ap (λ (p : Parts). take k input ++ p.test) parts ∙ append-nil (take k input),
      so_far.rest ∙ ap (λ (p : Parts). p.rest) parts,
    )

pub past_sign : (input lines cs : List ℕ) (k : ℕ) → k < length input → lines ≡ drop k input → lines ≡ 61 ∷ cs
    → cond (begins_line (take k input)) (after_divider lines) None ≡ None → IsUpTo input k → IsUpTo input (suc k)
past_sign input lines cs k le is sign none so_far =
    let no_line = ap (λ (ds : List ℕ). cond (begins_line (take k input)) (after_divider ds) None) (sym sign) ∙ none in
    let here = past_byte (begins_line (take k input)) 61 cs no_line in
    let parts = ap (parts_from (begins_line (take k input))) (sym is ∙ sign) ∙ here in
    let more = drop-cons input k 0 le in
    let all = sym more ∙ sym is ∙ sign in
    let byte : get_or input k 0 ≡ 61 = ap (λ (ds : List ℕ). get_or ds 0 0) all in
    let behind : cs ≡ drop (suc k) input = ap (drop 1) (sym all) in
    let front : take (suc k) input ≡ take k input ++ 61 ∷ [] = take-suc input k 0 le ∙ ap (λ (c : ℕ). take k input ++ c ∷ []) byte in
    let begins : begins_line (take (suc k) input) ≡ false = ap begins_line front ∙ after_byte true (take k input) 61 in
    let left : parts_from false cs ≡ left_from input (suc k) =
    ap (λ (b : Bool). parts_from b cs) (sym begins) ∙ ap (parts_from (begins_line (take (suc k) input))) behind in
    record {
      test = so_far.test ∙ ap (λ (p : Parts). take k input ++ p.test) parts
          ∙ sym (append_assoc (take k input) (61 ∷ []) (parts_from false cs).test)
          ∙ ap (λ (ds : List ℕ). ds ++ (parts_from false cs).test) (sym front)
          ∙ ap (λ (p : Parts). take (suc k) input ++ p.test) left;
      rest = so_far.rest ∙ ap (λ (p : Parts). p.rest) parts ∙ ap (λ (p : Parts). p.rest) left;
    }
