-- What is printed of a run that didn't end tells how far it came.
use Rattle.printed_laws.proofs.Vocabulary.{true, false, [], ◌∷◌, ◌++◌, refl, ap, decimal, decimal_injective, codes, IsNumber-decimal, line}
use Rattle.printed_laws.proofs.Vocabulary.{unfinished_run_value, UnfinishedRunsAreTold}
use Rattle.printed_laws.proofs.texts.Cutting.{next-cut}
use Rattle.printed_laws.proofs.json.JsonReading.{line-told}
use Rattle.printed_laws.proofs.json.JsonTexts.{value_at, text_at}

pub line-tells : UnfinishedRunsAreTold false
line-tells u s v w hu hs hv hw e =
    let used = next-cut (codes "Unfinished used=") u v (codes " stalled=" ++ line (decimal s)) (codes " stalled=" ++ line (decimal w)) hu hv refl refl e in
    let stalled = next-cut (codes " stalled=") s w (10 ∷ []) (10 ∷ []) hs hw refl refl used.1 in
    (used.0, stalled.0)

pub json-tells : UnfinishedRunsAreTold true
json-tells u s v w hu hs hv hw e =
    let value =
    line-told (unfinished_run_value u s) (unfinished_run_value v w)
    ((IsNumber-decimal s hs, (IsNumber-decimal u hu, tt)), tt)
    ((IsNumber-decimal w hw, (IsNumber-decimal v hv, tt)), tt) e in
    (decimal_injective u v hu hv (ap (λ j. text_at 1 (value_at 0 j)) value), decimal_injective s w hs hw (ap (λ j. text_at 0 (value_at 0 j)) value))
