use Rattle.host.proofs.HostLaws.{host_ran}
use Rattle.host.proofs.roadparsnip_run.Goals as goal

pub returns : goal.returns
returns c = host_ran _ _ _ _ c.taken.ensures c.run.ensures c.ran_of.ensures
