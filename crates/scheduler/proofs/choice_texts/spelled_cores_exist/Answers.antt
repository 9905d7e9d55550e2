use Rattle.scheduler.proofs.Cores.{CoresExist-spelled}
use Rattle.scheduler.proofs.choice_texts.spelled_cores_exist.Goals as goal

pub returns : goal.returns
returns c = λ cores text choices some spelled. CoresExist-spelled cores text choices some spelled
