use Rattle.std.proofs.Common.{◌≡◌, [], ◌*◌, ◌++◌, string_bytes, arith, length, sym, ap, ◌∙◌, subst, ◌<◌, slice_index_or}
use Rattle.counts_report.specs.Printed.{count_names, spread_text}
use Rattle.counts_report.proofs.Lines.{next-number, last-number, twelve-names}
use Rattle.counts_report.proofs.text.write_spreads.Goals as goal

pub loop-number-preserved : goal.loop-number-preserved
loop-number-preserved c =
    let written = string_bytes c.loop-number.text in
    let name = slice_index_or count_names c.loop-number.number [] in
    next-number (12 * c.args.core) c.loop-number.number count_names c.args.spreads.now written (string_bytes c.write_spread.new.text) _
    (subst (λ n. c.loop-number.number < n) (sym twelve-names) c.loop-number-test.true)
    (c.in_ok-write_spread.ensures
    ∙ ap (λ n. written ++ spread_text n c.spread_at.result) c.name_at.ensures
    ∙ ap (λ s. written ++ spread_text name s) c.spread_at.ensures)
    c.loop-number.invariant

pub returns : goal.returns
returns c =
    last-number (12 * c.args.core) c.loop-number.number count_names c.args.spreads.now (string_bytes c.loop-number.text) _
    (let size =
    twelve-names in
    let here = c.loop-number-test.false in
    let most = c.loop-number.auto.number-end in
    let z : length count_names ≡ c.loop-number.number = omega arith in
    z)
    c.loop-number.invariant
