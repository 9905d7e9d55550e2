-- Edges, of which cycles are made: the relations that a model wants acyclic, as far as the answers tell them, each as its line of
-- herd's x86tso.cat says it. And that model's third condition, on locked instructions.
-- (herd's x86tso.cat; for sequential consistency Herding Cats, section 4.)
use Rattle.std.specs.Prelude.{◌==◌, ◌&&◌, ◌||◌, Bool, false, not, List, [], ◌∷◌}
use Rattle.std.specs.List.{list_any, list_all}
use Rattle.tso_terms.specs.Litmus.{Litmus}
use Rattle.tso_terms.specs.ProgramOrder.{is_before, is_read, is_write, same_kind}
use Rattle.basic_laws.specs.Types.{Entry, F, LR, LW}
use Rattle.relational_model.specs.Relations.{is_access, share_location}
use Rattle.relational_model.specs.Model.{is_locked}
use Rattle.refutation_laws.specs.Known.{Known, events_of, is_event, reads_from, comes_before, from_reads}
use Rattle.refutation_laws.specs.declared.model.Model.{Model}
use Rattle.refutation_laws.specs.declared.model.Model.TheVariants.{Tso, Sequential}
use Rattle.refutation_laws.specs.declared.model.Relation.{Relation}
use Rattle.refutation_laws.specs.declared.model.Relation.TheVariants.{Po, PoLoc, PoGhb, Mfence, Implied, Rf, Rfe, Co, Fr}

-- ---- relations

abbrev pub relates : Litmus → Known → Relation → Entry → Entry → Bool
relates t k Po x y = is_before x y
-- po-loc
relates t k PoLoc x y = is_before x y && share_location x y
-- po_ghb = WW(po) | RM(po)
relates t k PoGhb x y = is_before x y && ((is_write x && is_write y) || (is_read x && is_access y))
-- mfence
relates t k Mfence x y = list_any (λ (f : Entry). same_kind f.kind F && is_before x f && is_before f y) (events_of t)
-- implied: the pairs WR(po) with an atomic access at either end
relates t k Implied x y = is_before x y && is_write x && is_read y && (is_locked x || is_locked y)
relates t k Rf w r = reads_from k w r
-- rfe
relates t k Rfe w r = reads_from k w r && not (w.core.0 == r.core.0)
relates t k Co w v = comes_before k w v
relates t k Fr r v = from_reads k r v

-- acyclic po-loc | rf | co | fr as uniproc
abbrev pub on_location : List Relation
on_location = PoLoc ∷ (Rf ∷ (Co ∷ (Fr ∷ [])))

-- x86-TSO: acyclic ghb = po_ghb | mfence | implied | rfe | co | fr; sequential consistency: acyclic po | rf | co | fr
abbrev pub global_in : Model → List Relation
global_in Tso = PoGhb ∷ (Mfence ∷ (Implied ∷ (Rfe ∷ (Co ∷ (Fr ∷ [])))))
global_in Sequential = Po ∷ (Rf ∷ (Co ∷ (Fr ∷ [])))

-- one of these relations leads from x to y
abbrev pub is_edge : Litmus → Known → List Relation → Entry → Entry → Bool
is_edge t k relations x y = list_any (λ (r : Relation). relates t k r x y) relations

-- ---- cycles

-- from x each event leads to the next one, and the last one to the first
abbrev pub leads_back : (Entry → Entry → Bool) → Entry → Entry → List Entry → Bool
leads_back edge first x [] = edge x first
leads_back edge first x (y ∷ ys) = edge x y && leads_back edge first y ys

abbrev pub is_cycle : Litmus → (Entry → Entry → Bool) → List Entry → Bool
is_cycle t edge [] = false
is_cycle t edge (x ∷ xs) = list_all (is_event t) (x ∷ xs) && leads_back edge x x xs

-- ---- locked instructions

-- rmw: r and w are the two parts of one locked instruction
abbrev pub are_parts : Entry → Entry → Bool
are_parts r w = same_kind r.kind LR && same_kind w.kind LW && (r.core.0 == w.core.0) && (r.place == w.place)

-- empty rmw & (fre;coe): another core's write v is after what the load part r reads from, and before the store part w
abbrev pub is_between : Litmus → Known → Entry → Entry → Entry → Bool
is_between t k r v w =
    list_all (is_event t) (r ∷ (v ∷ (w ∷ [])))
    && are_parts r w && not (r.core.0 == v.core.0) && from_reads k r v && comes_before k v w
