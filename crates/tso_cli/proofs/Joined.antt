-- An input that was put together is parts_at into its parts again.
use Rattle.tso_cli.proofs.Vocabulary.{◌≡◌, ◌==◌, ℕ, zero, suc, Bool, true, false, cond, nat_eq, codes, List, [], ◌∷◌, ◌++◌, drop, replicate}
use Rattle.tso_cli.proofs.Vocabulary.{Option, Some, None, refl, sym, ap, subst, starts_with, starts_is, after_feed, after_end}
use Rattle.tso_cli.proofs.Vocabulary.{after_divider, parts_at, with_byte, parts_from, parts_of, joined_parts, HasNoDivider, EndsInFeed}
use Rattle.std.proofs.lemmas.Bool.Decides.{Decides-eqb}

-- whether a line begins after the text
abbrev line_begins : Bool → List ℕ → Bool
line_begins b [] = b
line_begins b (c ∷ cs) = line_begins (c == 10) cs

feed_begins : (b : Bool) (front : List ℕ) → line_begins b (front ++ 10 ∷ []) ≡ true
feed_begins b [] = refl
feed_begins b (c ∷ cs) = feed_begins (c == 10) cs

-- ---- what comes after more text

feed_none : (b : Bool) (rest other : List ℕ) → cond b (Some rest) None ≡ None → cond b (Some other) None ≡ None
feed_none true rest other h = absurd (let no : ⊥ = cc in no)
feed_none false rest other h = refl

feed_more : (text back : List ℕ) → after_feed text ≡ None → after_feed (text ++ back) ≡ None
feed_more [] back h = absurd (let no : ⊥ = cc in no)
feed_more (c ∷ cs) back h = feed_none (c == 10) cs (cs ++ back) h

end_none : (b : Bool) (ds : List ℕ) (d : ℕ) (back : List ℕ) → cond b (after_feed ds) (after_feed (d ∷ ds)) ≡ None
    → cond b (after_feed (ds ++ back)) (after_feed ((d ∷ ds) ++ back)) ≡ None
end_none true ds d back h = feed_more ds back h
end_none false ds d back h = feed_more (d ∷ ds) back h

end_more : (text back : List ℕ) → after_end text ≡ None → after_end (text ++ back) ≡ None
end_more [] back h = absurd (let no : ⊥ = cc in no)
end_more (d ∷ ds) back h = end_none (d == 13) ds d back h

record Split (n : ℕ) (text back rest : List ℕ) : Type 0 where
  more : List ℕ
  front : text ≡ replicate n 61 ++ more
  after : rest ≡ more ++ back
  begins : line_begins false more ≡ true

-- a text that ends in a line feed ends after the signs that it begins with
split : (n : ℕ) (text back rest : List ℕ) → line_begins false text ≡ true → text ++ back ≡ replicate n 61 ++ rest → Split n text back rest
split zero text back rest h e = record { more = text; front = refl; after = sym e; begins = h }
split (suc n) [] back rest h e = absurd (let no : ⊥ = cc in no)
split (suc n) (c ∷ cs) back rest h e =
    let first : c ≡ 61 = cc in
    let others : cs ++ back ≡ replicate n 61 ++ rest = cc in
    let further = split n cs back rest (subst (λ d. line_begins (d == 10) cs ≡ true) first h) others in
    record { more = further.more; front = (let tails = further.front in cc); after = further.after; begins = further.begins }

divider_more : (text back : List ℕ) → line_begins false text ≡ true → after_divider text ≡ None → after_divider (text ++ back) ≡ None
divider_more text back h none = by_start (starts_with nat_eq (text ++ back) (codes "====")) refl
  where
    by_start : (b : Bool) → starts_with nat_eq (text ++ back) (codes "====") ≡ b → after_divider (text ++ back) ≡ None
    by_start false e = rw e refl
    by_start true e =
        let s = split 4 text back (drop 4 (text ++ back)) h ((starts_is Decides-eqb (text ++ back) (codes "====") true (sym e)).0 refl) in
        let end : after_end s.more ≡ None = subst (λ u. after_divider u ≡ None) s.front none in
        subst (λ u. after_divider (u ++ back) ≡ None) (sym s.front) (end_more s.more back end)

-- ---- the parts

from_joined : (b : Bool) (test rest : List ℕ) → (parts_from b test).test ≡ test → line_begins b test ≡ true
    → parts_from b (joined_parts test rest) ≡ record { test = test; rest = rest }
from_joined true [] rest h begins = refl
from_joined false [] rest h begins = absurd (let no : ⊥ = cc in no)
from_joined false (c ∷ cs) rest h begins =
    let tail : (parts_from (c == 10) cs).test ≡ cs = cc in
    ap (with_byte c) (from_joined (c == 10) cs rest tail begins)
from_joined true (c ∷ cs) rest h begins = by_divider (after_divider (c ∷ cs)) refl (λ tail. from_joined (c == 10) cs rest tail begins)
  where
    by_divider : (o : Option (List ℕ)) → after_divider (c ∷ cs) ≡ o
        → ((parts_from (c == 10) cs).test ≡ cs → parts_from (c == 10) (joined_parts cs rest) ≡ record { test = cs; rest = rest })
        → parts_from true (joined_parts (c ∷ cs) rest) ≡ record { test = c ∷ cs; rest = rest }
    by_divider (Some r) e further =
        absurd (let none : [] ≡ c ∷ cs = subst (λ o. (parts_at o (with_byte c (parts_from (c == 10) cs))).test ≡ c ∷ cs) e h in let no : ⊥ = cc in no)
    by_divider None e further =
        let whole : c ∷ (parts_from (c == 10) cs).test ≡ c ∷ cs = subst (λ o. (parts_at o (with_byte c (parts_from (c == 10) cs))).test ≡ c ∷ cs) e h in
        let tail : (parts_from (c == 10) cs).test ≡ cs = cc in
        let none : after_divider (joined_parts (c ∷ cs) rest) ≡ None = divider_more (c ∷ cs) (codes "====\n" ++ rest) begins e in
        subst (λ o.
        parts_at o (with_byte c (parts_from (c == 10) (joined_parts cs rest)))
        ≡ record { test = c ∷ cs; rest = rest })
        (sym none) (ap (with_byte c) (further tail))

pub joined_are_separated : (test rest : List ℕ) → EndsInFeed test → HasNoDivider test → parts_of (joined_parts test rest) ≡ record { test = test; rest = rest }
joined_are_separated test rest ends whole =
    from_joined true test rest whole (subst (λ text. line_begins true text ≡ true) (sym ends.1) (feed_begins true ends.0))
