-- Facts on kinds of entries.
use Rattle.relational_model.proofs.Vocabulary.{◌≡◌, ℕ, Bool, true, false, ◌==◌, ◌&&◌, ◌||◌, arith, refl, ◌⊎◌, inl, inr, nat_tests, is_read}
use Rattle.relational_model.proofs.Vocabulary.{is_write, may_be_passed, Entry, F, is_locked, writes_to}

-- no write is a read
pub write-is-no-read : (x : Entry) → is_write x ≡ true → is_read x ≡ true → ⊥
write-is-no-read x w r = grind arith

-- what comes before a write in its program isn't passed by it
pub before-write-kept : (x y : Entry) → is_write y ≡ true → may_be_passed x y ≡ false
before-write-kept x y w = grind arith

-- a read isn't passed
pub read-kept-before : (x y : Entry) → is_read x ≡ true → may_be_passed x y ≡ false
read-kept-before x y r = grind arith

pub kept-before-fence : (x f : Entry) → f.kind ≡ F → may_be_passed x f ≡ false
kept-before-fence x f e = grind arith

pub kept-after-fence : (f y : Entry) → f.kind ≡ F → may_be_passed f y ≡ false
kept-after-fence f y e = grind arith

pub kept-with-locked : (x y : Entry) → (is_locked x || is_locked y) ≡ true → may_be_passed x y ≡ false
kept-with-locked x y l = grind arith

pub and-both : (a b : Bool) → (a && b) ≡ true → (a ≡ true) × (b ≡ true)
and-both true b h = (refl, h)
and-both false b h = let z : ⊥ = cc in absurd z

pub or-either : (a b : Bool) → (a || b) ≡ true → (a ≡ true) ⊎ (b ≡ true)
or-either true b h = inl refl
or-either false b h = inr h

pub same-number : (a b : ℕ) → (a == b) ≡ true → a ≡ b
same-number a b h = grind (arith, nat_tests)

pub number-same : (a b : ℕ) → a ≡ b → (a == b) ≡ true
number-same a b h = grind (arith, nat_tests)

pub writes : (loc : ℕ) (w : Entry) → writes_to loc w ≡ true → is_write w ≡ true
writes loc w h = (and-both (is_write w) (w.loc.0 == loc) h).0
