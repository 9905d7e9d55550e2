-- Runs of bytes are found where they are spelled, and lines are within their bytes.
use Rattle.litmus_reader.proofs.Vocabulary.{◌≡◌, ℕ, ◌≤◌, Bool, true, false, eqb, eqb-true, not, ◌&&◌, List, [], ◌∷◌, ◌++◌, length, drop}
use Rattle.litmus_reader.proofs.Vocabulary.{refl, sym, ap, ◌∙◌, ◌⊎◌, inl, inr, true≢false, arith, list_all, prefix_len, drop-append_seam}
use Rattle.litmus_reader.proofs.Vocabulary.{not-true, length-drop, first_line}

pub both : (a b : Bool) → (a && b) ≡ true → (a ≡ true) × (b ≡ true)
both true b e = (refl, e)
both false b e = absurd cc

tested : (t : Bool) → (t ≡ true) ⊎ (t ≡ false)
tested true = inl refl
tested false = inr refl

-- a byte that passes isn't one that doesn't
pub differs : (p : ℕ → Bool) (b c : ℕ) → p c ≡ false → p b ≡ true → eqb b c ≡ false
differs p b c other e = not-true (eqb b c) (by_test (eqb b c) refl)
  where
    by_test : (t : Bool) → eqb b c ≡ t → not t ≡ true
    by_test true is = let same : b ≡ c = eqb-true _ _ is in absurd (true≢false (sym e ∙ ap p same ∙ other))
    by_test false is = refl

-- ---- runs

-- no byte that passes is at the front
abbrev pub Stops : (ℕ → Bool) → List ℕ → Type 0
Stops p [] = Unit {0}
Stops p (b ∷ bs) = p b ≡ false

-- the bytes at the front that pass, and those after them
pub record Run (p : ℕ → Bool) (bytes : List ℕ) : Type 0 where
  pub front : List ℕ
  pub back : List ℕ
  pub parts : bytes ≡ front ++ back
  pub passes : list_all p front ≡ true
  pub stops : Stops p back

pub run : (p : ℕ → Bool) (bytes : List ℕ) → Run p bytes
run p [] = record { front = []; back = []; parts = refl; passes = refl; stops = tt }
run p (b ∷ bs) =
    elim (tested (p b)) [
      | inl hit ↦
          let r = run p bs in
          record {
            front = b ∷ r.front;
            back = r.back;
            parts = ap (λ (l : List ℕ). b ∷ l) r.parts;
            passes = rw hit r.passes;
            stops = r.stops;
          }
      | inr miss ↦ record { front = []; back = b ∷ bs; parts = refl; passes = refl; stops = miss }
    ]

pub run_len : (p : ℕ → Bool) (front back : List ℕ) → list_all p front ≡ true → Stops p back → prefix_len p (front ++ back) ≡ length front
run_len p [] [] all stops = refl
run_len p [] (b ∷ bs) all stops = rw stops refl
run_len p (b ∷ bs) back all stops = let parts = both (p b) (list_all p bs) all in rw (parts.0, run_len p bs back parts.1 stops) (omega arith)

-- what comes after a run
pub run_after : (p : ℕ → Bool) (front back : List ℕ) → list_all p front ≡ true → Stops p back → drop (prefix_len p (front ++ back)) (front ++ back) ≡ back
run_after p front back all stops = ap (λ (n : ℕ). drop n (front ++ back)) (run_len p front back all stops) ∙ drop-append_seam front back

-- ---- lines

le_drop : (n : ℕ) (bytes : List ℕ) → length (drop n bytes) ≤ length bytes
le_drop n bytes = omega (arith, length-drop n bytes)

pub line_within : (bytes : List ℕ) → length (first_line bytes).1 ≤ length bytes
unfolding first_line
line_within bytes = le_drop _ bytes
