-- What the reader answers for one item: the item with what comes after it, or its fault, and never both.
use Rattle.std.specs.Prelude.{◌≡◌, Result, Ok, Err, MatchResult}
use Rattle.scheduler.specs.declared.fault.ChoiceFault.{ChoiceFault}
use Rattle.scheduler.specs.declared.item.ChoiceItem.{ChoiceItem}
use Rattle.scheduler.specs.declared.item.ItemRead.{ItemRead}

-- it answers this item, with what comes after it, or this fault
abbrev pub IsItemRead : Result ChoiceItem ChoiceFault → Result ItemRead ChoiceFault → Type 0
IsItemRead wanted result = MatchResult result (λ r. wanted ≡ Ok r.item) (λ fault. wanted ≡ Err fault)
