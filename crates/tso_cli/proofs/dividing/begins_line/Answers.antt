use Rattle.std.proofs.Common.{sym, ap, ◌∙◌, true}
use Rattle.std.proofs.lemmas.List.{nil_from_length}
use Rattle.tso_cli.specs.inner.Dividing.{begins_line, after_bytes}
use Rattle.tso_cli.proofs.Lines.{after_byte}
use Rattle.tso_cli.proofs.dividing.begins_line.Goals as goal

pub returns-in-None : goal.returns-in-None
unfolding after_bytes
returns-in-None c = ap begins_line (sym (nil_from_length c.args.front.now c.in-None.ensures.cases))

pub returns-in-Some : goal.returns-in-Some
returns-in-Some c = sym (ap begins_line c.in-Some.ensures.cases.0 ∙ after_byte true c.in-Some.field-0-1.now c.in-Some.last.now)
