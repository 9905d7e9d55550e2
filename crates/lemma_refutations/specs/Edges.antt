-- Edges, of which cycles are made: the relations that a model wants acyclic, as far as facts tell them, each as its line of herd's
-- x86tso.cat says it. And that model's third condition, on locked instructions.
-- (herd's x86tso.cat; for sequential consistency Herding Cats, section 4.)
use Rattle.std.specs.Prelude.{◌==◌, ◌&&◌, ◌||◌, Bool, not, List, [], ◌∷◌, Option, Some, None}
use Rattle.std.specs.List.{list_any, list_all}
use Rattle.tso_terms.specs.Litmus.{Litmus}
use Rattle.tso_terms.specs.ProgramOrder.{is_before, is_read, is_write, writes_to, same_kind}
use Rattle.basic_laws.specs.Types.{Entry, F}
use Rattle.relational_model.specs.Relations.{is_access, share_location}
use Rattle.relational_model.specs.Model.{is_locked}
use Rattle.refutation_laws.specs.Known.{events_of, is_event}
use Rattle.refutation_laws.specs.Edges.{are_parts}
use Rattle.refutation_laws.specs.declared.model.Relation.{Relation}
use Rattle.refutation_laws.specs.declared.model.Relation.TheVariants.{Po, PoLoc, PoGhb, Mfence, Implied, Rf, Rfe, Co, Fr}
use Rattle.possible_reads.specs.Facts.{Fact}
use Rattle.possible_reads.specs.Possible.{Reading, sources_read, reads_it, comes_before}

-- what is known on a branch: its facts, and what they leave possible for each read
pub record Knowledge : Type 0 where
  pub facts : List Fact
  pub readings : List Reading

-- rf: w is all that r can read from
abbrev pub reads_from : Litmus → Knowledge → Entry → Entry → Bool
reads_from t k w r = is_read r && reads_it t k.readings (Some w) r

-- v is after this source: after the initial write each write to the location is
abbrev pub overwrites : Litmus → Knowledge → Entry → Entry → Option Entry → Bool
overwrites t k r v None = writes_to r.loc.0 v
overwrites t k r v (Some w) = comes_before t k.facts k.readings w v

-- fr = rf^-1; co: v is after all that r can read from
abbrev pub from_reads : Litmus → Knowledge → Entry → Entry → Bool
from_reads t k r v = is_read r && list_all (overwrites t k r v) (sources_read t k.readings r)

abbrev pub relates : Litmus → Knowledge → Relation → Entry → Entry → Bool
relates t k Po x y = is_before x y
-- po-loc
relates t k PoLoc x y = is_before x y && share_location x y
-- po_ghb = WW(po) | RM(po)
relates t k PoGhb x y = is_before x y && ((is_write x && is_write y) || (is_read x && is_access y))
-- mfence
relates t k Mfence x y = list_any (λ (f : Entry). same_kind f.kind F && is_before x f && is_before f y) (events_of t)
-- implied: the pairs WR(po) with an atomic access at either end
relates t k Implied x y = is_before x y && is_write x && is_read y && (is_locked x || is_locked y)
relates t k Rf w r = reads_from t k w r
-- rfe
relates t k Rfe w r = reads_from t k w r && not (w.core.0 == r.core.0)
relates t k Co w v = is_write w && comes_before t k.facts k.readings w v
relates t k Fr r v = from_reads t k r v

-- one of these relations leads from x to y
abbrev pub is_edge : Litmus → Knowledge → List Relation → Entry → Entry → Bool
is_edge t k relations x y = list_any (λ (r : Relation). relates t k r x y) relations

-- empty rmw & (fre;coe): another core's write v is after what the load part r reads from, and before the store part w
abbrev pub is_between : Litmus → Knowledge → Entry → Entry → Entry → Bool
is_between t k r v w =
    list_all (is_event t) (r ∷ (v ∷ (w ∷ [])))
    && are_parts r w && not (r.core.0 == v.core.0) && from_reads t k r v && comes_before t k.facts k.readings v w
