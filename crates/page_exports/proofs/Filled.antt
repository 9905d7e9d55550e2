-- Rooms that are long enough are filled.
use Rattle.std.proofs.Common.{arith, ◌≡◌, ◌≢◌, ◌⊎◌, ◌<◌, ◌≤◌, ℕ, Bool, true, false, inl, inr, refl}

pub is-whole : (b : Bool) (status size hint_size room hint_room : ℕ) → (b ≡ false → (status ≡ 2) ⊎ (status ≡ 5) ⊎ (room < size) ⊎ (hint_room < hint_size))
    → status ≢ 2 → status ≢ 5 → size ≤ room → hint_size ≤ hint_room → b ≡ true
is-whole true status size hint_size room hint_room cut two five fits hint_fits = refl
is-whole false status size hint_size room hint_room cut two five fits hint_fits = absurd (never (cut refl))
  where
    never : (status ≡ 2) ⊎ (status ≡ 5) ⊎ (room < size) ⊎ (hint_room < hint_size) → ⊥
    never (inl e) = two e
    never (inr (inl e)) = five e
    never (inr (inr (inl l))) = omega (arith, l, fits)
    never (inr (inr (inr l))) = omega (arith, l, hint_fits)
