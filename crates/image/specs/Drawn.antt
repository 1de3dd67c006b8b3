-- What drawing and clearing come to: of pixels drawn, how many were in the field and stored, and the image that is left; of an image cleared, its zeros.
use Rattle.std.specs.Prelude.{ℕ, List, length, replicate}
use Rattle.definition.specs.Image.{Shape, Pen, inside, stores, Left, left}
use Rattle.definition.specs.declared.Pixel.{Pixel}

unfoldable pub drawn : Shape → Pen → List ℕ → List Pixel → Left ℕ
drawn s pen im ps = left (length (inside s ps)) (stores s pen im (inside s ps))

unfoldable pub cleared : List ℕ → List ℕ
cleared im = replicate (length im) 0
