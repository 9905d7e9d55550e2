-- Notes add nothing: with them and without, a tree has the same paths.
use Rattle.std.proofs.Common.{◌≡◌, ℕ, zero, suc, List, [], ◌∷◌, ◌++◌, Some, map, ◌<◌, ◌≤◌, length, slice_index, slice_index_or, drop, arith}
use Rattle.std.proofs.Common.{ap, sym, ◌∙◌, refl, subst, inl}
use Rattle.branch_laws.specs.Trees.{Tree, Done, Cut, Reads, Stores, Fences, Locks, outputs_along}
use Rattle.branch_laws.specs.Branching.{Branching}
use Rattle.branch_laws.specs.Rounds.{StandsAmong}
use Rattle.branch_laws.specs.SamePaths.{IsSamePath, both_end, both_read, both_store, both_fence, both_lock, stores_alone, other_stores, HasTheSamePaths}
use Rattle.branch_laws.specs.Shown.{Keeping, InRegister, InLocation, Nowhere, first_keeping, note, tree_with_notes, all_noted, with_notes}
use Rattle.branch_laws.specs.Shown.{note_at, notes_at, all_notes_at, UsesFirst, AreOwn}
use Rattle.branch_laws.proofs.Among.{among-left, among-right}

-- the notes of a core lie beyond the first n locations
abbrev pub Beyond : ℕ → List Keeping → Type 0
Beyond n keeps = (own : ℕ) → StandsAmong own (notes_at keeps) → n ≤ own

pub first-beyond : (n : ℕ) (keeps : List Keeping) → Beyond n keeps → (own : ℕ) → StandsAmong own (note_at (first_keeping keeps)) → n ≤ own
first-beyond n [] f own h = absurd h
first-beyond n (k ∷ keeps) f own h = f own (among-left own (note_at k) (notes_at keeps) h)

pub rest-beyond : (n : ℕ) (keeps : List Keeping) → Beyond n keeps → Beyond n (drop 1 keeps)
rest-beyond n [] f = f
rest-beyond n (k ∷ keeps) f = λ own h. f own (among-right own (note_at k) (notes_at keeps) h)

add-note : (n : ℕ) (k : Keeping) (v : ℕ) (tree : Tree) (values : List ℕ) (other : Tree) → ((own : ℕ) → StandsAmong own (note_at k) → n ≤ own)
    → IsSamePath n tree values other → IsSamePath n tree values (note k v other)
add-note n (InRegister reg) v tree values other f h = h
add-note n (InLocation reg own) v tree values other f h = other_stores own v tree values other (f own.0 (inl refl)) h
add-note n (Nowhere reg) v tree values other f h = h

drop-note : (n : ℕ) (k : Keeping) (v : ℕ) (tree : Tree) (values : List ℕ) (other : Tree) → ((own : ℕ) → StandsAmong own (note_at k) → n ≤ own)
    → IsSamePath n tree values other → IsSamePath n (note k v tree) values other
drop-note n (InRegister reg) v tree values other f h = h
drop-note n (InLocation reg own) v tree values other f h = stores_alone own v tree values other (f own.0 (inl refl)) h
drop-note n (Nowhere reg) v tree values other f h = h

pub gets-notes : (n : ℕ) (tree : Tree) (values outputs : List ℕ) (keeps : List Keeping)
    → UsesFirst n tree
    → Beyond n keeps
    → outputs_along tree values ≡ Some outputs
    → IsSamePath n tree values (tree_with_notes tree keeps)
gets-notes n (Done o) [] outputs keeps u f e = both_end o
gets-notes n (Done o) (v ∷ values) outputs keeps u f e = absurd (let z : ⊥ = cc in z)
gets-notes n Cut values outputs keeps u f e = absurd (let z : ⊥ = cc in z)
gets-notes n (Reads loc next) [] outputs keeps u f e = absurd (let z : ⊥ = cc in z)
gets-notes n (Reads loc next) (v ∷ values) outputs keeps u f e =
    both_read loc next (λ w. note (first_keeping keeps) w (tree_with_notes (next w) (drop 1 keeps))) v values u.0
    (add-note n (first_keeping keeps) v (next v) values (tree_with_notes (next v) (drop 1 keeps)) (first-beyond n keeps f)
    (gets-notes n (next v) values outputs (drop 1 keeps) (u.1 v) (rest-beyond n keeps f) e))
gets-notes n (Stores loc value next) values outputs keeps u f e =
    both_store loc value next (tree_with_notes next keeps) values u.0 (gets-notes n next values outputs keeps u.1 f e)
gets-notes n (Fences next) values outputs keeps u f e = both_fence next (tree_with_notes next keeps) values (gets-notes n next values outputs keeps u f e)
gets-notes n (Locks loc change next) [] outputs keeps u f e = absurd (let z : ⊥ = cc in z)
gets-notes n (Locks loc change next) (v ∷ values) outputs keeps u f e =
    both_lock loc change next (λ w. note (first_keeping keeps) w (tree_with_notes (next w) (drop 1 keeps))) v values u.0
    (add-note n (first_keeping keeps) v (next v) values (tree_with_notes (next v) (drop 1 keeps)) (first-beyond n keeps f)
    (gets-notes n (next v) values outputs (drop 1 keeps) (u.1 v) (rest-beyond n keeps f) e))

note-outputs : (k : Keeping) (v : ℕ) (tree : Tree) (values : List ℕ) → outputs_along (note k v tree) values ≡ outputs_along tree values
note-outputs (InRegister reg) v tree values = refl
note-outputs (InLocation reg own) v tree values = refl
note-outputs (Nowhere reg) v tree values = refl

pub noted-outputs : (tree : Tree) (values : List ℕ) (keeps : List Keeping) → outputs_along (tree_with_notes tree keeps) values ≡ outputs_along tree values
noted-outputs (Done o) [] keeps = refl
noted-outputs (Done o) (v ∷ values) keeps = refl
noted-outputs Cut values keeps = refl
noted-outputs (Reads loc next) [] keeps = refl
noted-outputs (Reads loc next) (v ∷ values) keeps =
    note-outputs (first_keeping keeps) v (tree_with_notes (next v) (drop 1 keeps)) values ∙ noted-outputs (next v) values (drop 1 keeps)
noted-outputs (Stores loc value next) values keeps = noted-outputs next values keeps
noted-outputs (Fences next) values keeps = noted-outputs next values keeps
noted-outputs (Locks loc change next) [] keeps = refl
noted-outputs (Locks loc change next) (v ∷ values) keeps =
    note-outputs (first_keeping keeps) v (tree_with_notes (next v) (drop 1 keeps)) values ∙ noted-outputs (next v) values (drop 1 keeps)

pub loses-notes : (n : ℕ) (tree : Tree) (values outputs : List ℕ) (keeps : List Keeping)
    → UsesFirst n tree
    → Beyond n keeps
    → outputs_along tree values ≡ Some outputs
    → IsSamePath n (tree_with_notes tree keeps) values tree
loses-notes n (Done o) [] outputs keeps u f e = both_end o
loses-notes n (Done o) (v ∷ values) outputs keeps u f e = absurd (let z : ⊥ = cc in z)
loses-notes n Cut values outputs keeps u f e = absurd (let z : ⊥ = cc in z)
loses-notes n (Reads loc next) [] outputs keeps u f e = absurd (let z : ⊥ = cc in z)
loses-notes n (Reads loc next) (v ∷ values) outputs keeps u f e =
    both_read loc (λ w. note (first_keeping keeps) w (tree_with_notes (next w) (drop 1 keeps))) next v values u.0
    (drop-note n (first_keeping keeps) v (tree_with_notes (next v) (drop 1 keeps)) values (next v) (first-beyond n keeps f)
    (loses-notes n (next v) values outputs (drop 1 keeps) (u.1 v) (rest-beyond n keeps f) e))
loses-notes n (Stores loc value next) values outputs keeps u f e =
    both_store loc value (tree_with_notes next keeps) next values u.0 (loses-notes n next values outputs keeps u.1 f e)
loses-notes n (Fences next) values outputs keeps u f e = both_fence (tree_with_notes next keeps) next values (loses-notes n next values outputs keeps u f e)
loses-notes n (Locks loc change next) [] outputs keeps u f e = absurd (let z : ⊥ = cc in z)
loses-notes n (Locks loc change next) (v ∷ values) outputs keeps u f e =
    both_lock loc change (λ w. note (first_keeping keeps) w (tree_with_notes (next w) (drop 1 keeps))) next v values u.0
    (drop-note n (first_keeping keeps) v (tree_with_notes (next v) (drop 1 keeps)) values (next v) (first-beyond n keeps f)
    (loses-notes n (next v) values outputs (drop 1 keeps) (u.1 v) (rest-beyond n keeps f) e))

-- all cores

pub drop-one : {A : Type 0} (xs : List A) (k : ℕ) (x : A) → slice_index_or (drop 1 xs) k x ≡ slice_index_or xs (suc k) x
drop-one [] k x = refl
drop-one (y ∷ xs) k x = refl

pub noted-at : (trees : List Tree) (keeps : List (List Keeping)) (k : ℕ)
    → slice_index_or (all_noted trees keeps) k Cut ≡ tree_with_notes (slice_index_or trees k Cut) (slice_index_or keeps k [])
noted-at [] keeps k = refl
noted-at (tree ∷ trees) keeps zero = refl
noted-at (tree ∷ trees) keeps (suc k) = noted-at trees (drop 1 keeps) k ∙ ap (λ z. tree_with_notes (slice_index_or trees k Cut) z) (drop-one keeps k [])

pub length-noted : (trees : List Tree) (keeps : List (List Keeping)) → length (all_noted trees keeps) ≡ length trees
length-noted [] keeps = refl
length-noted (tree ∷ trees) keeps = ap suc (length-noted trees (drop 1 keeps))

pub notes-among : (keeps : List (List Keeping)) (k own : ℕ) → StandsAmong own (notes_at (slice_index_or keeps k [])) → StandsAmong own (all_notes_at keeps)
notes-among [] k own h = absurd h
notes-among (ks ∷ keeps) zero own h = among-left own (notes_at ks) (all_notes_at keeps) h
notes-among (ks ∷ keeps) (suc k) own h = among-right own (notes_at ks) (all_notes_at keeps) (notes-among keeps k own h)

first-words : (words more : List ℕ) (loc : ℕ) → loc < length words → slice_index (words ++ more) loc ≡ slice_index words loc
first-words [] more loc l = absurd (omega arith)
first-words (w ∷ words) more zero l = refl
first-words (w ∷ words) more (suc loc) l = first-words words more loc (omega arith)

more-words : (words more : List ℕ) → length words ≤ length (words ++ more)
more-words [] more = omega arith
more-words (w ∷ words) more = let z = more-words words more in omega arith

pub notes-are-beyond : (b : Branching) (names : List (List ℕ)) (keeps : List (List Keeping))
    → AreOwn b names keeps
    → (k : ℕ) → Beyond (length b.words) (slice_index_or keeps k [])
notes-are-beyond b names keeps own k loc h = (own.further loc (notes-among keeps k loc h)).0

pub same-with : (b : Branching) (names : List (List ℕ)) (keeps : List (List Keeping))
    → AreOwn b names keeps
    → HasTheSamePaths (length b.words) b (with_notes b names keeps)
same-with b names keeps own = record {
  cores = length-noted b.trees keeps;
  locations = omega arith;
  other_locations = more-words b.words (map (λ name. 0) names);
  words = λ loc l. first-words b.words (map (λ name. 0) names) loc l;
  paths = λ k values outputs l e. subst (λ z. IsSamePath (length b.words) (slice_index_or b.trees k Cut) values z) (sym (noted-at b.trees keeps k))
      (gets-notes (length b.words) (slice_index_or b.trees k Cut) values outputs (slice_index_or keeps k [])
      (own.trees k l) (notes-are-beyond b names keeps own k) e);
}

pub same-without : (b : Branching) (names : List (List ℕ)) (keeps : List (List Keeping))
    → AreOwn b names keeps
    → HasTheSamePaths (length b.words) (with_notes b names keeps) b
same-without b names keeps own = record {
  cores = sym (length-noted b.trees keeps);
  locations = more-words b.words (map (λ name. 0) names);
  other_locations = omega arith;
  words = λ loc l. sym (first-words b.words (map (λ name. 0) names) loc l);
  paths = λ k values outputs l e. subst (λ z. IsSamePath (length b.words) z values (slice_index_or b.trees k Cut)) (sym (noted-at b.trees keeps k))
      (loses-notes (length b.words) (slice_index_or b.trees k Cut) values outputs (slice_index_or keeps k [])
      (own.trees k (let z = length-noted b.trees keeps in omega arith))
      (notes-are-beyond b names keeps own k)
      (sym (noted-outputs (slice_index_or b.trees k Cut) values (slice_index_or keeps k []))
      ∙ subst (λ z. outputs_along z values ≡ Some outputs) (noted-at b.trees keeps k) e));
}
