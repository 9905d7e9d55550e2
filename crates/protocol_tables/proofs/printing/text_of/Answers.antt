use Rattle.std.proofs.Common.{rules, ◌≡◌, ◌++◌, ap, sym, refl, ◌∙◌, string_bytes, true, false}
use Rattle.std.proofs.lemmas.List.{append_assoc}
use Rattle.protocol_tables.specs.PrintedTable.{rows, name_line, fill_line, printed_table, strongest_first}
use Rattle.protocol_tables.proofs.printing.text_of.Goals as goal

pub returns : goal.returns
unfolding printed_table fill_line strongest_first
returns g c =
    let t = g.P.Protocol.table c.args.protocol.now in
    let name = name_line (g.P.Protocol.called c.args.protocol.now) in
    let fills = fill_line (t.filled false) (t.filled true) in
    let named : string_bytes c.write.new.self ≡ name = search rules in
    let filled : string_bytes c.write-2.new.self ≡ string_bytes c.write.new.self ++ fills =
    rw (c.in_ok-write-2.ensures.bytes, c.filled-alone.ensures, c.filled-shared.ensures) refl in
    c.in_ok-write_rows.ensures ∙ ap (λ z. z ++ rows t strongest_first) (filled ∙ ap (λ z. z ++ fills) named) ∙ append_assoc name fills (rows t strongest_first)
