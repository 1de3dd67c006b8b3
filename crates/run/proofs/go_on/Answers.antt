use native.Mathlib.Omega.{arith}
use Rattle.definition.specs.BuiltIn.{built_in}
use Rattle.definition.specs.Characters.{chosen}
use Rattle.run.proofs.RunLaws.{gone_on}
use Rattle.run.proofs.go_on.Goals as goal

-- given, so that budget_anew is refused for the counts
pub add-requires : goal.add-requires
add-requires c =
    let h = c.requires in
    let w = c.walk-rest.ensures.counts in
    (omega (arith, h.1, h.2, w), omega (arith, h.1, h.2, w), omega (arith, h.1, h.2, w))

-- the built-in set is there, and so no step is put off
pub returns : goal.returns
unfolding built_in chosen
returns c =
    let w = c.walk-rest.ensures in
    rw c.add.ensures (gone_on _ _ _ _ _ (w.done (λ q. absurd (omega (arith, (w.off q).0)))))
