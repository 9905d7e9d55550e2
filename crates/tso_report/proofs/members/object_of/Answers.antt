use Rattle.tso_report.specs.inner.Objects.{HasMembers}
use Rattle.tso_report.proofs.Vocabulary.{◌∙◌, ap, refl, subst, sym, drop_all, drop_more, no_members, with_data}
use Rattle.tso_report.proofs.members.object_of.Goals as goal

pub loop-key-init : goal.loop-key-init
loop-key-init c = (no_members, c.new-object.ensures, refl)

pub loop-key-preserved : goal.loop-key-preserved
loop-key-preserved c =
    let so_far = c.loop-key.invariant in (
      _,
      c.member-object.ensures _ _ so_far.1 c.datum_value.ensures,
      sym (ap (λ l. with_data l so_far.0) (drop_more c.args.fields.now c.loop-key.key-index _ c.loop-key-test.true))
          ∙ so_far.2,
    )

pub returns : goal.returns
returns c =
    let so_far = c.loop-key.invariant in
    let all = sym (ap (λ l. with_data l so_far.0) (drop_all c.loop-key.key-index c.args.fields.now c.loop-key-test.false)) ∙ so_far.2 in
    c.value.ensures _ (subst (HasMembers c.loop-key.object) all so_far.1)
