-- An item whose words are not refused: 27, or where it goes and what it lights.
use Rattle.std.specs.Prelude.{ℕ, Bool, ◌&&◌, ◌||◌, List, [], length}
use Rattle.definition.specs.Choice.{pick}
use Rattle.definition.specs.Image.{Left, left, pixel_at, inside, stores}
use Rattle.definition.specs.Vector.{vector}
use Rattle.definition.specs.Machine.{shape_of, pen_of}
use Rattle.definition.specs.Step.{Way, changed, leaves, Step, refuses}
use Rattle.definition.specs.declared.Units.{Units}
use Rattle.definition.specs.declared.Pixel.{Pixel}
use Rattle.definition.specs.declared.Machine.{Machine}
use Rattle.outcome.specs.Outcome.{words_if, arrived}

-- the vector from the position to (x, y)
abbrev pub vector_to : Machine → Units → Units → List Pixel
vector_to m x y = vector (pixel_at (shape_of m) m.x m.y) (pixel_at (shape_of m) x y)

-- of the pixels that an item lights, those that are stored: how many, and the image that is left
unfoldable pub kept : Machine → Bool → List Pixel → List Pixel
kept m lit ps = pick (lit && m.write) (inside (shape_of m) ps) []

unfoldable pub lights : Machine → Bool → List ℕ → List Pixel → Left ℕ
lights m lit im ps = left (length (kept m lit ps)) (stores (shape_of m) (pen_of m) im (kept m lit ps))

-- an item that completes, at its new position
unfoldable pub placed : Machine → Bool → Units → Units → List Pixel → Step
placed m second x y ps = record { machine = arrived m second x y; steps = 1; words = words_if second; pixels = ps }

-- an item by its way, the pixels that it lights, and whether it has a second word
unfoldable pub goes : Machine → Bool → Way → List Pixel → Bool → Step
goes m lit w ps second =
    pick (leaves m.x w.x || leaves m.y w.y) (refuses m 27)
    (placed m second (changed m.x w.x) (changed m.y w.y) (kept m lit ps))
