-- The contents of a set after each call: what holds of them, and what is found in them.
use Rattle.cache_set.proofs.Vocabulary.{arith, ◌≡◌, ◌≢◌, ◌-◌, ℕ, zero, suc, List, ◌∷◌, take, slice_get, Option, Some, None, IfSome}
use Rattle.cache_set.proofs.Vocabulary.{option_map, nat_eq, if◌then◌else◌, inl, inr, refl, sym, eqb_tells, length-map, option_map_or}
use Rattle.cache_set.proofs.Vocabulary.{lookup, remove_entry, I, Line, Victim, Contents, contents, copy_of, as_victim, victim_of}
use Rattle.cache_set.proofs.Vocabulary.{IsCacheSet, to_front, with_new, changed_at, with_changed, without, after_fill}
use Rattle.cache_set.proofs.Entries.{valid-found, lookup-remove, absent-remove, once-remove, valid-remove, length-remove}
use Rattle.cache_set.proofs.Entries.{length-remove-found, once-take, valid-take, length-cut, lookup-at, lookup-cut, take-short}
use Rattle.cache_set.proofs.Entries.{lookup-changed, once-changed, valid-changed}

-- A line goes to the front.

pub IsCacheSet-to_front : (line : ℕ) (s : Contents) → IsCacheSet s → IsCacheSet (to_front line s)
IsCacheSet-to_front line s h = found (copy_of s line) refl
  where
    found : (o : Option Line)
        → copy_of s line ≡ o
        → IsCacheSet (contents (option_map_or (λ copy. (line, copy) ∷ remove_entry (nat_eq line) s.copies) o s.copies) s.ways)
    found None e = h
    found (Some copy) e =
        let shorter = length-remove-found line copy s.copies e in
        let fits = h.within in
        record {
          room = h.room;
          within = omega arith;
          once = (absent-remove line s.copies h.once, once-remove line s.copies h.once);
          valid = (valid-found line copy s.copies h.valid e, valid-remove line s.copies h.valid);
        }

pub copy_of-to_front : (line k : ℕ) (s new : Contents) → IsCacheSet s → new ≡ to_front line s → copy_of new k ≡ copy_of s k
copy_of-to_front line k s new h is = rw is (found (copy_of s line) refl)
  where
    found : (o : Option Line)
        → copy_of s line ≡ o
        → lookup (nat_eq k) (option_map_or (λ copy. (line, copy) ∷ remove_entry (nat_eq line) s.copies) o s.copies)
        ≡ copy_of s k
    found None e = refl
    found (Some copy) e = elim (eqb_tells k line) [
      | inl p ↦ rw (p.0, p.1, e) refl
      | inr p ↦ rw (p.0, lookup-remove line k s.copies h.once, p.0) refl
    ]

-- A line comes in.

pub IsCacheSet-with_new : (line : ℕ) (copy : Line) (s : Contents) → copy_of s line ≡ None → copy.state ≢ I → IsCacheSet s → IsCacheSet (with_new line copy s)
IsCacheSet-with_new line copy s absent valid h = record {
  room = h.room;
  within = length-cut s.ways ((line, copy) ∷ s.copies);
  once = once-take s.ways ((line, copy) ∷ s.copies) (absent, h.once);
  valid = valid-take s.ways ((line, copy) ∷ s.copies) (valid, h.valid);
}

pub copy_of-with_new : (line : ℕ) (copy : Line) (v : Option Victim) (k : ℕ) (s new : Contents) → IsCacheSet s → new ≡ with_new line copy s → v ≡ victim_of s
    → copy_of new k ≡ after_fill line copy v k (copy_of s k)
copy_of-with_new line copy v k s new h is left = rw (is, left) (at s.ways s.copies h)
  where
    at : (ways : ℕ) (es : List (ℕ × Line)) → IsCacheSet (contents es ways)
        → lookup (nat_eq k) (take ways ((line, copy) ∷ es)) ≡ after_fill line copy (victim_of (contents es ways)) k (lookup (nat_eq k) es)
    at zero es h = let room = h.room in absurd (omega arith)
    at (suc n) es h = let one : suc n - 1 ≡ n = omega arith in rw one (last (slice_get es n) refl)
      where
        last : (o : Option (ℕ × Line)) → slice_get es n ≡ o → lookup (nat_eq k) ((line, copy) ∷ take n es)
            ≡ after_fill line copy (option_map as_victim o) k (lookup (nat_eq k) es)
        last None e = rw (take-short n es e) refl
        last (Some x) e = rw (lookup-cut n k x es h.once h.within e) refl

pub victim_of-was_here : (v : Option Victim) (s : Contents) → IsCacheSet s → v ≡ victim_of s → IfSome v (λ x. copy_of s x.line ≡ Some x.content)
victim_of-was_here v s h left = rw left (last (slice_get s.copies (s.ways - 1)) refl)
  where
    last : (o : Option (ℕ × Line)) → slice_get s.copies (s.ways - 1) ≡ o → IfSome (option_map as_victim o) (λ v. copy_of s v.line ≡ Some v.content)
    last None e = tt
    last (Some x) e = lookup-at (s.ways - 1) x s.copies h.once e

-- A copy is changed.

pub IsCacheSet-with_changed : (change : Line → Line) (line : ℕ) (s : Contents)
    → ((copy : Line) → copy.state ≢ I → (change copy).state ≢ I)
    → IsCacheSet s
    → IsCacheSet (with_changed change line s)
IsCacheSet-with_changed change line s keeps h = record {
  room = h.room;
  within = rw (length-map s.copies (changed_at change line)) h.within;
  once = once-changed change line s.copies h.once;
  valid = valid-changed change line keeps s.copies h.valid;
}

pub copy_of-with_changed : (change : Line → Line) (line k : ℕ) (s new : Contents) → new ≡ with_changed change line s
    → copy_of new k ≡ (if nat_eq k line then option_map change (copy_of s k) else copy_of s k)
copy_of-with_changed change line k s new is = rw is (lookup-changed change line k s.copies)

-- A line leaves.

pub IsCacheSet-without : (line : ℕ) (s : Contents) → IsCacheSet s → IsCacheSet (without line s)
IsCacheSet-without line s h =
    let shorter = length-remove line s.copies in
    let fits = h.within in
    record {
      room = h.room;
      within = omega arith;
      once = once-remove line s.copies h.once;
      valid = valid-remove line s.copies h.valid;
    }

pub copy_of-without : (line k : ℕ) (s new : Contents) → IsCacheSet s → new ≡ without line s → copy_of new k ≡ (if nat_eq k line then None else copy_of s k)
copy_of-without line k s new h is = rw is (lookup-remove line k s.copies h.once)

-- No copy that is found is in state I.

pub copy_of-valid : (k : ℕ) (s : Contents) → IsCacheSet s → IfSome (copy_of s k) (λ copy. copy.state ≢ I)
copy_of-valid k s h = found (copy_of s k) refl
  where
    found : (o : Option Line) → copy_of s k ≡ o → IfSome o (λ copy. copy.state ≢ I)
    found None e = tt
    found (Some copy) e = valid-found k copy s.copies h.valid e

-- what is found at a rank of the list is that line's copy
pub ranked_found : (s : Contents) (rank : ℕ) (r : Option (ℕ × Line)) → IsCacheSet s → r ≡ slice_get s.copies rank → IfSome r (λ x. copy_of s x.0 ≡ Some x.1)
ranked_found s rank None h e = tt
ranked_found s rank (Some x) h e = lookup-at rank x s.copies h.once (sym e)
