use Rattle.std.proofs.Common.{rules}
use Rattle.reading_tables.proofs.Vocabulary.{◌≡◌, ◌∙◌, ◌==◌, ◌&&◌, true, false, sym, ap, Some, list_any}
use Rattle.std.specs.Prelude.{not}
use Rattle.possible_reads.specs.Possible as spec
use Rattle.tso_terms.specs.ProgramOrder.{writes_to, is_before}
use Rattle.refutation_laws.specs.Known.{events_of}
use Rattle.reading_tables.proofs.Apart.{apart-in-order, hidden-by-own, overwritten-by-own}
use Rattle.reading_tables.proofs.sources.is_in_order.Goals as goal

pub returns-then-ne : goal.returns-then-ne
returns-then-ne c =
    let apart : (c.in-Some.w.core.0 == c.args.read.now.core.0) ≡ false = search rules in
    c.if-ne.true
    ∙ (sym (apart-in-order c.args.test.now c.args.read.now c.in-Some.w apart) ∙ ap (spec.is_in_order c.args.test.now c.args.read.now) (sym c.in-Some.is))

pub returns-in-None : goal.returns-in-None
returns-in-None c =
    let t = c.args.test.now in
    let read = c.args.read.now in
    ap not (c.is_hidden.ensures
    ∙ (ap (list_any (λ w. writes_to read.loc.0 w && is_before w read)) c.requires ∙ hidden-by-own read (events_of t)))
    ∙ ap (spec.is_in_order t read) (sym c.in-None.is)

pub returns-then-not-is_before : goal.returns-then-not-is_before
returns-then-not-is_before c =
    let t = c.args.test.now in
    let read = c.args.read.now in
    let w = c.in-Some.w in
    let hidden = list_any (λ v. writes_to read.loc.0 v && is_before w v && is_before v read) (events_of t) in
    let later : not (is_before read w) ≡ true = search rules in
    ap not (c.is_overwritten.ensures
    ∙ (ap (list_any (λ v. writes_to read.loc.0 v && is_before w v && is_before v read)) c.requires ∙ overwritten-by-own w read (events_of t)))
    ∙ (ap (λ b. b && not hidden) (sym later) ∙ ap (spec.is_in_order t read) (sym c.in-Some.is))
