-- The least that a write can write: it goes by its core, place, kind and location alone.
use Rattle.reading_tables.proofs.Vocabulary.{◌≡◌, true, if◌then◌else◌, List, [], ◌∷◌, refl, sym, ap, ◌∙◌, Entry, Litmus}
use Rattle.refutation_laws.specs.Known.{bare, same_event}
use Rattle.refutation_laws.proofs.Standing.{same-bare}
use Rattle.possible_reads.specs.Expressions.{Expression, Constant, Returned, Combined, Negated, Exchanged, Written, written, expression_among}
use Rattle.possible_reads.specs.Possible.{Reading, never_wraps, least_by, least_written}

among-bare : (ws : List Written) (w : Entry) → expression_among ws (bare w) ≡ expression_among ws w
among-bare [] w = refl
among-bare (x ∷ xs) w = ap (λ e. if same_event x.write w then x.value else e) (among-bare xs w)

by-bare : (table : List Reading) (w : Entry) (e : Expression) → least_by table (bare w) e ≡ least_by table w e
by-bare table w (Constant number) = refl
by-bare table w (Returned read) = refl
by-bare table w (Combined operator left right) = refl
by-bare table w (Negated inner) = refl
by-bare table w (Exchanged word eax new) = refl

least-bare : (t : Litmus) (table : List Reading) (w : Entry) → least_written t table (bare w) ≡ least_written t table w
least-bare t table w =
    ap (λ e. if never_wraps t w.loc.0 then least_by table (bare w) e else 0) (among-bare (written t) w)
    ∙ ap (λ n. if never_wraps t w.loc.0 then n else 0) (by-bare table w (expression_among (written t) w))

pub same-least : (t : Litmus) (table : List Reading) (w v : Entry) → same_event w v ≡ true → least_written t table w ≡ least_written t table v
same-least t table w v h =
    sym (least-bare t table w) ∙ (ap (least_written t table) (same-bare w v h) ∙ least-bare t table v)
