use mathlib.Core.Path.{refl, subst}
use Rattle.definition.specs.Calls.{lending, plain, given}
use Rattle.definition.specs.declared.Item.TheVariants.{ShortVector, GraphX, GraphY, RelativePoint}
use Rattle.machine.specs.Rest.{Drawable}
use Rattle.machine.proofs.StepLaws.{one_done, two_done, characters_done, long_alone, absolute_alone}
use Rattle.machine.proofs.draws.Goals as goal

pub returns-in-ShortVector : goal.returns-in-ShortVector
returns-in-ShortVector c =
    one_done _ (given (lending _ _)) _ _ _ _ {it' = ShortVector _ _} c.in-ShortVector.is refl refl c.vector_by.ensures

pub returns-in-LongVector : goal.returns-in-LongVector
returns-in-LongVector c =
    two_done _ (given (lending _ _)) _ _ _ _ c.in-LongVector.is (given (plain _)) (long_alone _ _ _ _ _) refl c.long_vector.ensures

pub returns-in-AbsolutePoint : goal.returns-in-AbsolutePoint
returns-in-AbsolutePoint c =
    two_done _ (given (lending _ _)) _ _ _ _ c.in-AbsolutePoint.is (given (plain _)) (absolute_alone _ _ _ _ _) refl c.absolute_point.ensures

pub returns-in-GraphX : goal.returns-in-GraphX
returns-in-GraphX c = one_done _ (given (lending _ _)) _ _ _ _ {it' = GraphX _} c.in-GraphX.is refl refl c.graph_x.ensures

pub returns-in-GraphY : goal.returns-in-GraphY
returns-in-GraphY c = one_done _ (given (lending _ _)) _ _ _ _ {it' = GraphY _} c.in-GraphY.is refl refl c.graph_y.ensures

pub returns-in-RelativePoint : goal.returns-in-RelativePoint
returns-in-RelativePoint c =
    one_done _ (given (lending _ _)) _ _ _ _ {it' = RelativePoint _ _} c.in-RelativePoint.is refl refl c.relative_point.ensures

pub returns-in-Characters : goal.returns-in-Characters
returns-in-Characters c =
    characters_done _ (given (lending _ _)) _ _ _ _ c.in-Characters.is (subst (Drawable c.args.lit) c.in-Characters.is c.requires) c.characters.ensures
