-- What the abstract machine gives, put together, against what the flat machine commits.
use Rattle.abstract_machine.proofs.Vocabulary.{◌≡◌, ◌==◌, ◌&&◌, Bool, true, false, if◌then◌else◌, List, [], ◌∷◌, ◌++◌, ap, sym, ◌∙◌, refl}
use Rattle.abstract_machine.proofs.Vocabulary.{append_assoc, same_kind, IsStorePart, put_before, put_together, Entry, W, LR, LW, Each}
use Rattle.abstract_machine.proofs.Together.{before-part}

-- a load part that waits is put before its store part, in what comes after it
abbrev pub placed : List Entry → List Entry → List Entry
placed [] ys = ys
placed (e ∷ es) ys = put_before e ys

-- what is given, put together, is what is committed, and then the load part that waits, whatever comes after it
abbrev pub Joins : List Entry → List Entry → List Entry → Type 0
Joins given commits waits = (ys : List Entry) → put_together (given ++ ys) ≡ commits ++ placed waits (put_together ys)

pub joins-next : (given commits waits wait es fs : List Entry) → Joins given commits waits
    → ((ys : List Entry) → placed waits (put_together (es ++ ys)) ≡ fs ++ placed wait (put_together ys))
    → Joins (given ++ es) (commits ++ fs) wait
joins-next given commits waits wait es fs j f ys =
    ap put_together (append_assoc given es ys) ∙ j (es ++ ys) ∙ ap (λ z. commits ++ z) (f ys)
    ∙ sym (append_assoc commits fs (placed wait (put_together ys)))

-- an entry that is no part of a locked instruction
pub record IsPlain (x : Entry) : Type 0 where
  pub load : same_kind x.kind LR ≡ false
  pub store : same_kind x.kind LW ≡ false

pub store-plain : (x : Entry) → x.kind ≡ W → IsPlain x
store-plain x k = record { load = rw k refl; store = rw k refl }

plain-on : (waits : List Entry) (x : Entry) → IsPlain x → (ys : List Entry)
    → placed waits (put_together (x ∷ ys)) ≡ x ∷ placed waits (put_together ys)
plain-on [] x p ys = rw p.load refl
plain-on (e ∷ es) x p ys = rw (p.load, p.store) (go (x.core.0 == e.core.0) (x.place == e.place))
  where
    go : (a b : Bool) → (if a && b && false then e ∷ (x ∷ put_together ys) else x ∷ put_before e (put_together ys))
        ≡ x ∷ put_before e (put_together ys)
    go true true = refl
    go true false = refl
    go false b = refl

-- plain entries go past a load part that waits
pub plain-joins : (given commits waits es : List Entry) → Joins given commits waits → Each IsPlain es
    → Joins (given ++ es) (commits ++ es) waits
plain-joins given commits waits es j plain = joins-next given commits waits waits es es j (past es plain)
  where
    past : (es : List Entry) → Each IsPlain es → (ys : List Entry)
        → placed waits (put_together (es ++ ys)) ≡ es ++ placed waits (put_together ys)
    past [] p ys = refl
    past (x ∷ es) p ys = plain-on waits x p.0 (es ++ ys) ∙ ap (λ z. x ∷ z) (past es p.1 ys)

-- a load part waits from where it is given
pub waits-joins : (given commits : List Entry) (x : Entry) → Joins given commits [] → x.kind ≡ LR
    → Joins (given ++ (x ∷ [])) commits (x ∷ [])
waits-joins given commits x j k ys = ap put_together (append_assoc given (x ∷ []) ys) ∙ j (x ∷ ys) ∙ rw k refl

-- its store part ends the wait
pub pair-joins : (given commits : List Entry) (x y : Entry) → Joins given commits (x ∷ []) → IsStorePart x y
    → Joins (given ++ (y ∷ [])) (commits ++ (x ∷ (y ∷ []))) []
pair-joins given commits x y j s =
    joins-next given commits (x ∷ []) [] (y ∷ []) (x ∷ (y ∷ [])) j
    (λ ys. ap (put_before x) (alone ys) ∙ before-part x (y ∷ put_together ys) (y, refl, s))
  where
    alone : (ys : List Entry) → put_together (y ∷ ys) ≡ y ∷ put_together ys
    alone ys = rw s.kind refl
