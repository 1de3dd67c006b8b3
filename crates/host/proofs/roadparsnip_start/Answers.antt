use Rattle.host.proofs.HostLaws.{goes, refused}
use Rattle.host.proofs.roadparsnip_start.Goals.{in-Ok, in-Err}
use Rattle.host.proofs.roadparsnip_start.Goals as goal

pub returns : goal.returns
returns c = elim c.match-start.branch [
  | in-Ok w ↦ rw w.answer-is (goes _ _ c.taken.ensures w.in-Ok.ensures w.from.ensures)
  | in-Err w ↦ rw (w.answer-is, w.from-in-Err.ensures) (refused _ _ c.taken.ensures _ w.in-Err.ensures)
]
