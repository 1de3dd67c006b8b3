use Rattle.definition.specs.Calls.{lending}
use Rattle.display.proofs.CallLaws.{lent_is, turned_away_is, turned_away_then, granted, ran}
use Rattle.display.proofs.step.Goals as goal

pub returns-in-Err : goal.returns-in-Err
returns-in-Err c = turned_away_is (lending _ _) _ _ _ _ c.in-Err.ensures c.turned_away.ensures

pub returns-in-Err-asked_door : goal.returns-in-Err-asked_door
returns-in-Err-asked_door c =
    turned_away_then (lending _ _) _ _ _ c.in_default.ensures _ c.in-Err-asked_door.ensures c.turned_away-in-Err-asked_door.ensures

pub unwrap-image-requires : goal.unwrap-image-requires
unwrap-image-requires c = c.as_mut_array.ensures.variant.1 (granted (lending _ _) _ _ _ c.in_default.ensures c.in_default-asked_door.ensures).0

pub invariant_of-one : goal.invariant_of-one
invariant_of-one c = (granted (lending _ _) _ _ _ c.in_default.ensures c.in_default-asked_door.ensures).1

pub returns : goal.returns
returns c =
    let same = (rw c.unwrap-image.ensures at c.as_mut_array.ensures.cases).same in
    let set = lent_is _ _ (granted (lending _ c.args.set.now) _ _ _ c.in_default.ensures c.in_default-asked_door.ensures).3 c.as_array.ensures.cases in
    ran (lending _ _) _ _ _ c.in_default.ensures c.in_default-asked_door.ensures same set c.one.ensures
