use Rattle.trace_report.proofs.Vocabulary.{◌+◌, ◌*◌, ◌<◌, ◌≤◌, length, take, string_bytes, arith, rules, length-take}
use Rattle.trace_report.proofs.LineNames.{one-named, all-named}
use Rattle.trace_report.proofs.text.write_line_name.Goals as goal

pub loop-loc-preserved : goal.loop-loc-preserved
loop-loc-preserved c =
    let names = c.args.test.now.locations in
    let first = c.args.number * c.args.words in
    let within : c.loop-loc.loc < first + c.args.words = omega arith in
    let there : c.loop-loc.loc < length names = omega arith in
    one-named names (first + c.args.words) c.loop-loc.loc (string_bytes c.loop-loc.text) (string_bytes c.write_pieces.new.text) _
    within there (search rules) c.loop-loc.invariant

pub returns : goal.returns
returns c =
    let names = c.args.test.now.locations in
    let first = c.args.number * c.args.words in
    let few : length names ≤ 16 = c.locations-locations.ensures.test.location_count in
    let past : length (take (first + c.args.words) names) ≤ c.loop-loc.loc = omega (arith, length-take (first + c.args.words) names) in
    all-named names c.args.words first c.loop-loc.loc (string_bytes c.args.text.now) (string_bytes c.push_str.new.self) (string_bytes c.loop-loc.text)
    c.requires.some c.requires.begins past (search rules) c.loop-loc.invariant
