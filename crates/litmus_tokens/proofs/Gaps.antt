-- A comment's end, and the gap after it.
use Rattle.std.proofs.Common.{◌≡◌, ℕ, ◌-◌, ◌<◌, ◌≤◌, Bool, true, false, cond, eqb, ◌&&◌, List, [], ◌∷◌, length, get_or, take, drop}
use Rattle.std.proofs.Common.{take_all, Some, None, Ok, Err, refl, sym, ap, inl, inr, ◌⊎◌, arith}
use Rattle.std.proofs.lemmas.Bool.{ne_eqb}
use Rattle.std.proofs.lemmas.Bool.Decides.{eqb_tells, nat_tests}
use Rattle.std.proofs.lemmas.List.{length-take, length-drop}
use Rattle.litmus_tokens.specs.declared.token.Stop.TheVariants.{Unclosed}
use Rattle.litmus_tokens.specs.Gap.{is_space, closes_comment, gap_end}
use Rattle.litmus_tokens.specs.inner.Gap.{comment_end}

-- which way a test went
pub chosen : {A : Type 0} (b : Bool) (x y z : A) → cond b x y ≡ z → ((b ≡ true) × (x ≡ z)) ⊎ ((b ≡ false) × (y ≡ z))
chosen true x y z e = inl (refl, e)
chosen false x y z e = inr (refl, e)

-- ---- no gap begins with a byte that is greater than those with which one begins

solid_above : (b : ℕ) → 40 < b → is_space b ≡ false
unfolding is_space
solid_above b l = grind (arith, nat_tests)

unopened_above : (b : ℕ) → 40 < b → eqb b 40 ≡ false
unopened_above b l = grind (arith, nat_tests)

pub no_gap_above : (bytes after : List ℕ) (first : ℕ) → bytes ≡ first ∷ after → 40 < first → gap_end None bytes ≡ Ok bytes
unfolding gap_end
no_gap_above bytes [] first whole l = rw (whole, solid_above first l) refl
no_gap_above bytes (c ∷ cs) first whole l = rw (whole, solid_above first l, unopened_above first l) refl

pub gap_after_space : (b : ℕ) (bs : List ℕ) → is_space b ≡ true → gap_end None (b ∷ bs) ≡ gap_end None bs
unfolding gap_end
gap_after_space b [] e = rw e refl
gap_after_space b (c ∷ bs) e = rw e refl

-- where a comment ends there, the gap goes on after it
pub gap_inside : (opener : ℕ) (bs rest : List ℕ) → comment_end bs ≡ Some rest → gap_end (Some opener) bs ≡ gap_end None rest
unfolding comment_end gap_end
gap_inside opener [] rest e = absurd cc
gap_inside opener (b ∷ []) rest e = absurd cc
gap_inside opener (b ∷ c ∷ bs) rest e =
    elim (chosen ((eqb b 42) && (eqb c 41)) (Some bs) (comment_end (c ∷ bs)) (Some rest) e) [
      | inl hit ↦ let same : bs ≡ rest = cc in rw hit.0 (ap (gap_end None) same)
      | inr miss ↦ rw miss.0 (gap_inside opener (c ∷ bs) rest miss.1)
    ]

pub gap_unclosed : (opener : ℕ) (bs : List ℕ) → comment_end bs ≡ None → gap_end (Some opener) bs ≡ Err (Unclosed opener)
unfolding comment_end gap_end
gap_unclosed opener [] e = refl
gap_unclosed opener (b ∷ []) e = refl
gap_unclosed opener (b ∷ c ∷ bs) e =
    elim (chosen ((eqb b 42) && (eqb c 41)) (Some bs) (comment_end (c ∷ bs)) None e) [
      | inl hit ↦ absurd cc
      | inr miss ↦ rw miss.0 (gap_unclosed opener (c ∷ bs) miss.1)
    ]

pub gap_over_comment : (bytes after inside rest : List ℕ) (first second : ℕ)
    → bytes ≡ first ∷ after
    → is_space first ≡ false
    → after ≡ second ∷ inside
    → first ≡ 40
    → second ≡ 42
    → Some rest ≡ comment_end inside → gap_end None bytes ≡ gap_end None rest
unfolding gap_end
gap_over_comment bytes after inside rest first second whole solid more open_round star ends =
    let bytes-is : bytes ≡ 40 ∷ 42 ∷ inside = cc in
    let solid' : is_space 40 ≡ false = rw (← open_round) solid in
    rw (bytes-is, solid') (gap_inside (length (40 ∷ 42 ∷ inside)) inside rest (sym ends))

pub gap_over_unclosed : (bytes after inside : List ℕ) (first second : ℕ)
    → bytes ≡ first ∷ after
    → is_space first ≡ false
    → after ≡ second ∷ inside
    → first ≡ 40
    → second ≡ 42
    → None ≡ comment_end inside → gap_end None bytes ≡ Err (Unclosed (length bytes))
unfolding gap_end
gap_over_unclosed bytes after inside first second whole solid more open_round star ends =
    let bytes-is : bytes ≡ 40 ∷ 42 ∷ inside = cc in
    let solid' : is_space 40 ≡ false = rw (← open_round) solid in
    rw (bytes-is, solid') (gap_unclosed (length (40 ∷ 42 ∷ inside)) inside (sym ends))

-- ---- the end of a comment, one byte after the other

-- too few bytes are left
pub comment_open : (rest : List ℕ) → length rest < 2 → comment_end rest ≡ None
unfolding comment_end
comment_open [] few = refl
comment_open (b ∷ []) few = refl
comment_open (b ∷ c ∷ bs) few = absurd (omega arith)

-- it ends here
pub comment_ends : (rest : List ℕ) (n : ℕ)
    → n ≡ length rest - 2
    → 2 ≤ length rest
    → get_or rest 0 0 ≡ 42
    → get_or rest 1 0 ≡ 41
    → comment_end rest ≡ Some (take n (drop 2 rest))
unfolding comment_end
comment_ends [] n e many one two = absurd (omega arith)
comment_ends (b ∷ []) n e many one two = absurd (omega arith)
comment_ends (b ∷ c ∷ bs) n e many one two = rw (take_all n bs (omega arith), one, two) refl

-- it doesn't end here
pub comment_goes_on : (rest : List ℕ) (n : ℕ)
    → n ≡ length rest - 1
    → 2 ≤ length rest
    → (get_or rest 0 0 ≡ 42 → get_or rest 1 0 ≡ 41 → ⊥)
    → comment_end (take n (drop 1 rest)) ≡ comment_end rest
unfolding comment_end
comment_goes_on [] n e many other = absurd (omega arith)
comment_goes_on (b ∷ []) n e many other = absurd (omega arith)
comment_goes_on (b ∷ c ∷ bs) n e many other = rw (take_all n (c ∷ bs) (omega arith), no_close b c other) refl
  where
    no_close : (b c : ℕ) → (b ≡ 42 → c ≡ 41 → ⊥) → closes_comment b c ≡ false
    no_close b c other = elim (eqb_tells b 42) [
      | inl one ↦ rw (one.0, ne_eqb c 41 (other one.1)) refl
      | inr one ↦ rw one.0 refl
    ]

-- the bytes after this one are fewer
pub rest-shorter : (rest : List ℕ) (n m : ℕ) → n ≡ length rest - 1 → length rest ≤ m → length (take n (drop 1 rest)) ≤ m
rest-shorter rest n m e h = omega (arith, length-take n (drop 1 rest), length-drop 1 rest)
