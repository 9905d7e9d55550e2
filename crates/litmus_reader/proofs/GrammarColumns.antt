-- Header rows are read later they are spelled.
use Rattle.litmus_reader.proofs.Vocabulary.{End, section, append_assoc, sym, row_ends, ◌>>=◌, Section, section_of, ◌≡◌, ℕ, zero, suc, ◌+◌}
use Rattle.litmus_reader.proofs.Vocabulary.{◌≤◌, ◌<◌, List, [], ◌∷◌, ◌++◌, Result, Ok, Err, refl, ap, subst, ◌∙◌, inl, inr, arith}
use Rattle.litmus_reader.proofs.Vocabulary.{most_cores, Stop, Semicolon, Bar, Term, name, symbol, Piece, is_symbol, symbol_at, name_at}
use Rattle.litmus_reader.proofs.Vocabulary.{Fault, TooLarge, or_unfit, columns, terms, IsHeaderRow, core_name, fault, remaining_of, part_of}
use Rattle.litmus_reader.proofs.Vocabulary.{BadHeaderRow, word_after, Passes}
use Rattle.litmus_reader.specs.GrammarColumns.{AreColumns, last, more}
use Rattle.litmus_reader.proofs.GrammarTokens.{there_is, ok_is, bind_ok, or_unfit_ok, opened, symbol_found, word_found}
use Rattle.litmus_reader.proofs.SectionSteps.{Lacks, ends_with, section_found, section_terms, section_taken, section_parts}
use Rattle.litmus_reader.proofs.GrammarNames.{same_bytes}

pub grow : (core : ℕ) (ts : List Term) (cores : ℕ) → AreColumns core ts cores → core < cores
grow _ _ _ (last core) = omega arith
grow _ _ _ (more core ts cores are) = let g = grow (core + 1) ts cores are in omega arith

columns_found : (stop : Stop) (core : ℕ) (ts : List Term) (cores : ℕ)
    → AreColumns core ts cores
    → (n : ℕ) → cores ≤ core + n
    → (ps : List Piece) → terms ps ≡ ts
    → columns stop n core ps ≡ Ok cores
unfolding columns word_after name_at symbol_at is_symbol
columns_found stop core ts cores are zero few ps e = let g = grow core ts cores are in absurd (omega arith)
columns_found stop _ _ _ (last core) (suc n) few ps e =
    let Is : List Piece → Type 0 = λ ps. columns stop (suc n) core ps ≡ Ok (core + 1) in
    opened Is ps (name (core_name core)) (symbol Semicolon ∷ []) e (λ a later is_name e.
    opened (λ l. Is (a ∷ l)) later (symbol Semicolon) [] e (λ b rest is_end after_it. rw (is_name, same_bytes (core_name core), is_end) refl))
columns_found stop _ _ _ (more core ts cores are) (suc n) few ps e =
    let Is : List Piece → Type 0 = λ ps. columns stop (suc n) core ps ≡ Ok cores in
    opened Is ps (name (core_name core)) (symbol Bar ∷ ts) e (λ a later is_name e.
    opened (λ l. Is (a ∷ l)) later (symbol Bar) ts e (λ b bs is_bar e.
    rw (is_name, same_bytes (core_name core), is_bar) (columns_found stop (core + 1) ts cores are n (omega arith) bs e)))

-- the columns before the `;`
record Parts (ts : List Term) : Type 0 where
  pub front : List Term
  pub parts : ts ≡ front ++ symbol Semicolon ∷ []
  pub lacks : Lacks (ends_with row_ends) front

columns_parts : (core : ℕ) (ts : List Term) (cores : ℕ) → AreColumns core ts cores → Parts ts
columns_parts _ _ _ (last core) = record { front = name (core_name core) ∷ []; parts = refl; lacks = (refl, tt) }
columns_parts _ _ _ (more core ts cores are) =
    let p = columns_parts (core + 1) ts cores are in
    record {
      front = name (core_name core) ∷ symbol Bar ∷ p.front;
      parts = ap (λ (l : List Term). name (core_name core) ∷ symbol Bar ∷ l) p.parts;
      lacks = (refl, (refl, p.lacks));
    }

-- a header row is found as a section
pub record HeaderFound (stop : Stop) (ps : List Piece) (cores : ℕ) (back : List Term) : Type 0 where
  pub s : Section
  pub at : section_of row_ends stop ps ≡ s
  pub is : columns s.stop most_cores 0 s.tokens ≡ Ok cores
  pub after_it : terms s.rest ≡ back

pub header_row_again : (stop : Stop) (ps : List Piece) (ts back : List Term) (cores : ℕ)
    → IsHeaderRow ts cores
    → terms ps ≡ ts ++ back
    → HeaderFound stop ps cores back
header_row_again stop ps ts back cores is e =
    let p = columns_parts 0 ts cores is.columns in
    let f =
    section_found row_ends stop p.front back (symbol Semicolon) p.lacks refl ps
    (e ∙ ap (λ (l : List Term). l ++ back) p.parts ∙ append_assoc p.front (symbol Semicolon ∷ []) back) in
    record {
      s = section (f.front ++ f.last ∷ []) End f.rest;
      at = f.is;
      is =
          columns_found End 0 ts cores is.columns most_cores (omega (arith, is.few)) (f.front ++ f.last ∷ [])
          (section_terms row_ends stop p.front back (symbol Semicolon) ps f ∙ sym p.parts);
      after_it = f.is_rest;
    }

-- what columns took, up to their `;`
record ColumnsTaken (n core cores : ℕ) (ps : List Piece) : Type 0 where
  pub few : cores ≤ core + n
  pub front : List Piece
  pub end : Piece
  pub back : List Piece
  pub parts : ps ≡ front ++ end ∷ back
  pub ends : end.term ≡ symbol Semicolon
  pub are : AreColumns core (terms front ++ symbol Semicolon ∷ []) cores

columns_taken : (stop : Stop) (n core cores : ℕ) (ps : List Piece) → columns stop n core ps ≡ Ok cores → ColumnsTaken n core cores ps
unfolding columns
columns_taken stop zero core cores ps e =
    let a = bind_ok (or_unfit (part_of BadHeaderRow stop) ps (word_after (core_name core) ps)) _ cores e in
    let never : (let r : Result ℕ Fault = Err (fault TooLarge (remaining_of ps)) in r) ≡ Ok cores = a.2 in
    absurd cc
columns_taken stop (suc n) core cores ps e =
    let part = part_of BadHeaderRow stop in
    let a = bind_ok (or_unfit part ps (word_after (core_name core) ps)) _ cores e in
    let front = word_found (core_name core) ps a.0 (or_unfit_ok part ps (word_after (core_name core) ps) a.0 a.1) in
    elim (there_is (symbol_at Bar a.0) (columns stop n (core + 1)) (or_unfit part a.0 (symbol_at Semicolon a.0) >>= λ _. Ok (core + 1)) (Ok cores) a.2) [
      | inl bar ↦
          let others = columns_taken stop n (core + 1) cores bar.0 bar.2 in
          let one = symbol_found Bar a.0 bar.0 bar.1 in
          record {
            few = omega (arith, others.few);
            front = front.0 ∷ one.0 ∷ others.front;
            end = others.end;
            back = others.back;
            parts = front.1 ∙ ap (λ (l : List Piece). front.0 ∷ l) (one.1 ∙ ap (λ (l : List Piece). one.0 ∷ l) others.parts);
            ends = others.ends;
            are = rw (front.2, one.2) (more core (terms others.front ++ symbol Semicolon ∷ []) cores others.are);
          }
      | inr no_bar ↦
          let b = bind_ok (or_unfit part a.0 (symbol_at Semicolon a.0)) (λ _. Ok (core + 1)) cores no_bar.1 in
          let one = symbol_found Semicolon a.0 b.0 (or_unfit_ok part a.0 (symbol_at Semicolon a.0) b.0 b.1) in
          let same = ok_is (core + 1) cores b.2 in
          record {
            few = omega (arith, same);
            front = front.0 ∷ [];
            end = one.0;
            back = b.0;
            parts = front.1 ∙ ap (λ (l : List Piece). front.0 ∷ l) one.1;
            ends = one.2;
            are = rw front.2 (subst (λ (n : ℕ). AreColumns core (name (core_name core) ∷ symbol Semicolon ∷ []) n) same (last core));
          }
    ]

pub header_row_takes : (stop : Stop) (ps : List Piece) (cores : ℕ)
    → columns (section_of row_ends stop ps).stop most_cores 0 (section_of row_ends stop ps).tokens ≡ Ok cores
    → Passes (λ ts. IsHeaderRow ts cores) ps (section_of row_ends stop ps).rest
header_row_takes stop ps cores e =
    let s = section_of row_ends stop ps in
    let t = columns_taken s.stop most_cores 0 cores s.tokens e in
    let whole = section_taken row_ends stop ps t.front t.back t.end (symbol Semicolon) t.parts t.ends refl in
    record {
      front = s.tokens;
      parts = section_parts row_ends stop ps;
      is = record {
        columns = subst (λ (ts : List Term). AreColumns 0 ts cores) (sym whole) t.are;
        few = omega (arith, t.few);
      };
    }

pub header_row_found : (stop : Stop) (ps : List Piece) (cores : ℕ) (s : Section)
    → section_of row_ends stop ps ≡ s
    → columns s.stop most_cores 0 s.tokens ≡ Ok cores
    → Passes (λ ts. IsHeaderRow ts cores) ps s.rest
header_row_found stop ps cores s at e = subst (λ (s : Section). Passes (λ ts. IsHeaderRow ts cores) ps s.rest) at (header_row_takes stop ps cores (rw at e))
