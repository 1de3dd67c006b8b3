use Rattle.host.proofs.HostLaws.{host_ran}
use Rattle.host.proofs.roadparsnip_step.Goals as goal

pub returns : goal.returns
returns c = host_ran _ _ _ 1 c.taken.ensures c.step.ensures c.ran_of.ensures
