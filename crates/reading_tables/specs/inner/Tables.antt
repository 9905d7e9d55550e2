-- Tables as the code holds them: what each read can read from and return, and what each write can write.
use Rattle.std.specs.Prelude.{Bool, ℕ, ◌==◌, ◌≡◌, List, [], ◌∷◌, ◌++◌, map, Option, Some, None, Vec}
use Rattle.std.specs.Borrow.{Bor}
use Rattle.std.specs.Global.{Global}
use Rattle.tso_terms.specs.Litmus.{Litmus}
use Rattle.basic_laws.specs.Types.{Entry}
use Rattle.refutation_laws.specs.Known.{events_of}
use Rattle.reading_tables.specs.inner.Told.{held_of, all_made, written_of, known_of, AreExpressions}
use Rattle.reading_tables.specs.inner.Bounds.{AreBounds, each_least}
use Rattle.reading_tables.specs.inner.Numbers.{AreOthersFirst}
use Rattle.reading_tables.specs.declared.expressions.Written.{Written}
use Rattle.reading_tables.specs.declared.tables.Problem.{Problem}
use Rattle.reading_tables.specs.declared.tables.Reading.{Reading}
use Rattle.reading_tables.specs.declared.tables.Table.{Table}
use Rattle.reading_tables.specs.declared.tables.Told.{Told}
use Rattle.possible_reads.specs.Expressions as expressions
use Rattle.possible_reads.specs.Possible as spec

abbrev pub is_of_core : ℕ → Entry → Bool
is_of_core core e = e.core.0 == core

pub record IsProblem (t : Litmus) (p : Problem) : Type 0 where
  pub test : p.test.now ≡ t
  pub events : p.events.items ≡ events_of t
  pub expressions : AreExpressions t p.expressions
  pub others_first : AreOthersFirst p.expressions.written.items p.others_first.items
  pub bounds : AreBounds t p.expressions.written.items p.bounds.items

abbrev pub reading_of : Reading → spec.Reading
reading_of x = record { read = x.read; sources = x.sources.items; values = known_of x.values; least = x.least }

abbrev pub readings_of : List Reading → List spec.Reading
readings_of xs = map reading_of xs

-- what all that was made can be
abbrev pub AreMadeValues : List spec.Reading → List expressions.Expression → List (Option (Vec ℕ Global)) → Type 0
AreMadeValues table made values = map known_of values ≡ map (spec.values_of (spec.values_read table)) made

-- what each of these writes can write, where these were made, and what one writes that isn't there
abbrev pub AreValues : List spec.Reading → List expressions.Expression → List Written → List (Option (Vec ℕ Global)) → Type 0
AreValues table made written values =
    map known_of values
    ≡ map (λ x. spec.values_of (spec.values_read table) (held_of made x.value)) written ++ (Some (0 ∷ []) ∷ [])

pub record AreTableValues (p : Problem) (x : Table) : Type 0 where
  pub made : AreMadeValues (readings_of x.readings.items) (all_made p.expressions.makings.items) x.made.items
  pub written : AreValues (readings_of x.readings.items) (all_made p.expressions.makings.items) p.expressions.written.items x.values.items
  pub least : x.least.items ≡ each_least p.test.now (readings_of x.readings.items) p.expressions.written.items

pub record IsTold (told : Told) : Type 0 where
  pub events : told.events.now ≡ events_of told.test.now
  pub written : map (written_of (all_made told.makings.now)) told.written.now ≡ expressions.written told.test.now
  pub others_first : AreOthersFirst told.written.now told.others_first.now
  pub made : AreMadeValues (readings_of told.readings.now) (all_made told.makings.now) told.made.now
  pub values : AreValues (readings_of told.readings.now) (all_made told.makings.now) told.written.now told.values.now
  pub least : told.least.now ≡ each_least told.test.now (readings_of told.readings.now) told.written.now

abbrev pub sources_or : List (Option Entry) → Option (Bor Reading) → List (Option Entry)
sources_or others None = others
sources_or others (Some x) = x.now.sources.items

abbrev pub values_or_any : Option (Bor Reading) → spec.Values
values_or_any None = None
values_or_any (Some x) = known_of x.now.values

abbrev pub least_or_none : Option (Bor Reading) → ℕ
least_or_none None = 0
least_or_none (Some x) = x.now.least
