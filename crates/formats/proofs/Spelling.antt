-- Texts of formats, put together as the formats are.
use Rattle.std.proofs.Common.{◌≡◌, ℕ, ◌<◌, ◌^◌, true, List, [], ◌++◌, refl, ap}
use Rattle.std.specs.Fmt.{decimal}
use Rattle.formats.specs.Formats.{Class, is_in, This, That, Format, Nothing, Number, Word, Lead, Both, Either, Spells}

pub spells-nothing : Spells Nothing []
spells-nothing = (tt, tt, refl)

pub spells-number : (n : ℕ) → n < 2 ^ 64 → Spells Number (decimal n)
spells-number n small = (n, small, refl)

pub spells-word : (class : Class) (word : List ℕ) → is_in class word ≡ true → Spells (Word class) word
spells-word class word is = (word, is, refl)

pub spells-lead : (front : List ℕ) (f : Format) (w : List ℕ) → Spells f w → Spells (Lead front f) (front ++ w)
spells-lead front f w s = (s.0, s.1, ap (λ (l : List ℕ). front ++ l) s.2)

pub spells-both : (f g : Format) (w v : List ℕ) → Spells f w → Spells g v → Spells (Both f g) (w ++ v)
spells-both f g w v s r = ((s.0, r.0), (s.1, r.1), λ i. s.2 i ++ r.2 i)

pub spells-this : (f g : Format) (w : List ℕ) → Spells f w → Spells (Either f g) w
spells-this f g w s = (This s.0, s.1, s.2)

pub spells-that : (f g : Format) (w : List ℕ) → Spells g w → Spells (Either f g) w
spells-that f g w s = (That s.0, s.1, s.2)
