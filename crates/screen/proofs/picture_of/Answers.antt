use mathlib.Core.List.{List, ◌++◌}
use mathlib.Core.Path.{ap}
use Prim.Native.Nat.{ℕ}
use lib.ListN.{drop}
use Rattle.screen.proofs.PictureLaws.{whole}
use Rattle.screen.proofs.picture_of.Goals as goal

pub returns : goal.returns
returns c = whole _ _ _ (ap (λ (l : List ℕ). l ++ drop 13 c.args.picture.now) c.copy_from_slice.ensures.after) c.put_rows.ensures
