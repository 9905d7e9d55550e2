use Rattle.reading_tables.proofs.Vocabulary.{◌≡◌, ◌<◌, ◌∙◌, List, [], Option, length, get_or, arith, ap, sym, subst, map}
use Rattle.std.proofs.lemmas.List.{get_or_read}
use Rattle.std.specs.Prelude.{ℕ, Vec, IfOk}
use Rattle.std.specs.Global.{Global}
use Rattle.possible_reads.specs.Expressions.{Expression, held_in, register_left}
use Rattle.possible_reads.specs.Possible.{values_of, values_read}
use Rattle.reading_tables.specs.declared.tables.Reading.{Reading}
use Rattle.reading_tables.specs.inner.Told.{held_of, known_of, all_made}
use Rattle.reading_tables.specs.inner.Tables.{readings_of, AreMadeValues}
use Rattle.reading_tables.proofs.ends.register_values.Goals as goal

pub returns : goal.returns
returns c =
    let t = c.args.problem.now.test.now in
    let readings = c.args.table.now.readings.items in
    let es = all_made c.args.problem.now.expressions.makings.items in
    let given : AreMadeValues (readings_of c.deref.result.now) es c.deref-2.result.now =
    subst (λ (vs : List (Option (Vec ℕ Global))). AreMadeValues (readings_of c.deref.result.now) es vs) (sym c.deref-2.ensures.value)
    (subst (λ (rs : List Reading). AreMadeValues (readings_of rs) es c.args.table.now.made.items) (sym c.deref.ensures.value) c.requires.values.made) in
    let rows = c.args.problem.now.expressions.registers.items in
    let row = c.index-registers.result.now in
    let core = c.args.core.0 in
    let told = c.requires.problem.expressions in
    let inside : core < length rows = omega (arith, c.requires.core, told.count) in
    let same : row ≡ get_or rows core [] = get_or_read rows core row inside (c.index-registers.ensures ∙ ap (λ n. get_or rows n row) c.from.ensures) [] in
    let left : held_in (map (held_of es) row) c.args.reg ≡ register_left t core c.args.reg =
    ap (λ r. held_in (map (held_of es) r) c.args.reg) same ∙ ap (λ r. held_in r c.args.reg) (told.registers core c.requires.core) in
    subst (λ (e : Expression). IfOk c.held_values.result (λ v. known_of v ≡ values_of (values_read (readings_of readings)) e))
    (c.held_in.ensures.held es ∙ left)
    (subst (λ (rs : List Reading). IfOk c.held_values.result (λ v. known_of v ≡ values_of (values_read (readings_of rs)) (held_of es c.held_in.result)))
    c.deref.ensures.value (c.held_values.ensures es given))
