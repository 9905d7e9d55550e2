-- How many looks the steps of the check take together.
use Rattle.order_breaches.proofs.Vocabulary.{◌≡◌, ◌≤◌, ◌<◌, ℕ, ◌+◌, arith}

-- none yet
pub no-looks : (before n : ℕ) → before ≤ before + n
no-looks before n = omega arith

-- one for each entry so far, and one more
pub looks-here : (before at n looks after : ℕ) → looks ≤ before + at → after ≡ looks + 1 → at < n → after ≤ before + n
looks-here before at n looks after so one l = omega arith

-- where a loop over the order stops
pub end-is : (at n len : ℕ) → len ≡ n → at ≤ len → len ≤ at → at ≡ n
end-is at n len same a b = omega arith
