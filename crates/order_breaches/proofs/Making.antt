-- What the walks over the programs have made after one more core or one more entry, and at the end.
use Rattle.order_breaches.proofs.Vocabulary.{◌≡◌, ◌≤◌, ◌<◌, ℕ, ◌+◌, true, false, if◌then◌else◌, Option, List, [], ◌∷◌, ◌++◌, length, take}
use Rattle.order_breaches.proofs.Vocabulary.{drop, get_or, slice_index_or, append_assoc, append-nil, arith, ap, sym, ◌∙◌, at_drop_more}
use Rattle.order_breaches.proofs.Vocabulary.{at_drop_all, entries_of, reads_in, is_read, Instr, Entry, reads_of_all, made_reading, kept_in}
use Rattle.order_breaches.proofs.Vocabulary.{reads_that_came}
use Rattle.std.proofs.Common.{unwrap_or}

-- nothing is left
pub made-all : {X Y : Type 0} (rest : List X → List Y) (list : List X) (n : ℕ)
    → rest [] ≡ []
    → length list ≤ n
    → (whole done : List Y) → whole ≡ done ++ rest (drop n list)
    → done ≡ whole
made-all rest list n nothing all whole done so = sym (so ∙ ap (λ es. done ++ es) (at_drop_all rest list n all ∙ nothing) ∙ append-nil done)

-- one more core
module _ (core : ℕ) (programs : List (List Instr)) (registers : List (List ℕ)) (within : core < length programs) where
  pub made-more : (left front back : List ℕ)
      → front ≡ take (reads_in (slice_index_or programs core [])) left
      → back ≡ drop (reads_in (slice_index_or programs core [])) left
      → (whole done own after : List Entry) → own ≡ entries_of core 0 (slice_index_or programs core []) (slice_index_or registers core []) front
      → after ≡ done ++ own
      → whole ≡ done ++ made_reading core (drop core programs) registers left
      → whole ≡ after ++ made_reading (core + 1) (drop (core + 1) programs) registers back
  made-more left front back front_is back_is whole done own after own_is after_is so =
      let rest = made_reading (core + 1) (drop (core + 1) programs) registers (drop (reads_in (slice_index_or programs core [])) left) in
      so ∙ ap (λ es. done ++ es) (at_drop_more (λ ps. made_reading core ps registers left) programs core [] within) ∙ sym (append_assoc done _ rest)
      ∙ ap (λ es. (done ++ es) ++ rest)
      (sym (own_is ∙ ap (λ vs. entries_of core 0 (slice_index_or programs core []) (slice_index_or registers core []) vs) front_is))
      ∙ ap (λ es. es ++ rest) (sym after_is) ∙ ap (λ vs. after ++ made_reading (core + 1) (drop (core + 1) programs) registers vs) (sym back_is)

  -- there are values for its reads and for those of the cores behind it
  pub reads-here : (count left : ℕ) → count ≡ reads_in (slice_index_or programs core []) → reads_of_all (drop core programs) ≤ left → count ≤ left
  reads-here count left count_is enough =
      let split : reads_of_all (drop core programs)
      ≡ reads_in (slice_index_or programs core []) + reads_of_all (drop (core + 1) programs) =
      at_drop_more reads_of_all programs core [] within in
      omega (arith, split)

  pub reads-behind : (count left back : ℕ)
      → count ≡ reads_in (slice_index_or programs core [])
      → back + count ≡ left
      → reads_of_all (drop core programs) ≤ left
      → reads_of_all (drop (core + 1) programs) ≤ back
  reads-behind count left back count_is back_is enough =
      let split : reads_of_all (drop core programs)
      ≡ reads_in (slice_index_or programs core []) + reads_of_all (drop (core + 1) programs) =
      at_drop_more reads_of_all programs core [] within in
      omega (arith, split)

-- one more entry
module _ (i : ℕ) (came : List (Option ℕ)) (shape : List Entry) (d : Entry) (within : i < length shape)
    (whole done : List ℕ) (so : whole ≡ done ++ reads_that_came i came (drop i shape)) where
  here : whole ≡ done
      ++ (if is_read (get_or shape i d)
      then unwrap_or (kept_in came i) 0 ∷ reads_that_came (i + 1) came (drop (i + 1) shape)
      else reads_that_came (i + 1) came (drop (i + 1) shape))
  here = so ∙ ap (λ vs. done ++ vs) (at_drop_more (λ es. reads_that_came i came es) shape i d within)

  pub read-more : (value : ℕ) (after : List ℕ)
      → is_read (get_or shape i d) ≡ true
      → value ≡ unwrap_or (kept_in came i) 0
      → after ≡ done ++ value ∷ []
      → whole ≡ after ++ reads_that_came (i + 1) came (drop (i + 1) shape)
  read-more value after read value_is after_is =
      let rest = reads_that_came (i + 1) came (drop (i + 1) shape) in
      here
      ∙ ap (λ b. done ++ (if b then unwrap_or (kept_in came i) 0 ∷ rest else rest)) read
      ∙ ap (λ v. done ++ v ∷ rest) (sym value_is)
      ∙ sym (append_assoc done (value ∷ []) rest)
      ∙ ap (λ vs. vs ++ rest) (sym after_is)

  pub other-more : (after : List ℕ) → is_read (get_or shape i d) ≡ false → after ≡ done → whole ≡ after ++ reads_that_came (i + 1) came (drop (i + 1) shape)
  other-more after read after_is =
      let rest = reads_that_came (i + 1) came (drop (i + 1) shape) in
      here ∙ ap (λ b. done ++ (if b then unwrap_or (kept_in came i) 0 ∷ rest else rest)) read ∙ ap (λ vs. vs ++ rest) (sym after_is)
