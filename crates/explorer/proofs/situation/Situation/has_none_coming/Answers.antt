use Rattle.explorer.proofs.Vocabulary.{◌≡◌, ◌<◌, ◌≤◌, ◌-◌, ◌∙◌, ap, sym, subst, arith, length, get_or}
use Rattle.explorer.proofs.StillToCome.{row-tells}
use Rattle.explorer.proofs.situation.Situation.has_none_coming.Goals as goal

pub returns-in-Some-get : goal.returns-in-Some-get
returns-in-Some-get c = λ out i x k stands.
    let self = c.args.self.now in
    let place = c.from-place.ensures ∙ ap (λ z. z.place) c.processor.ensures in
    let length-is = ap length c.program-length.ensures.value in
    let within = c.if-place-length.false in
    let left = length c.program-length.result.now - c.from-place.result in
    let rows = c.in-Some.ensures.lookup in
    let row = c.in-Some-get.ensures.lookup in
    row-tells self.test.now self.coming.now c.args.core.0 c.in-Some.rows.now c.in-Some-get.row.now left c.from-place.result self.to_come
    (subst (λ z. z < length self.coming.now) c.from.ensures rows.3.0)
    (subst (λ z. c.in-Some.rows.now ≡ get_or self.coming.now z c.in-Some.rows.now) c.from.ensures rows.1)
    (subst (λ z. left < length z) c.deref.ensures.value row.3.0)
    (subst (λ z. c.in-Some-get.row.now ≡ get_or z left c.in-Some-get.row.now) c.deref.ensures.value row.1)
    (let a = length-is in omega (arith, a, within)) c.args.meeting.loads c.args.meeting.loc.0 i x
    (c.leaves_out.ensures out) (subst (λ z. z ≤ i) (sym place) k) stands
