-- A vector and its course, and the pixel at which a walk stands.
use Rattle.std.specs.Prelude.{ℕ, ◌+◌, ◌*◌, ◌/◌, ◌%◌, ◌≤◌, ◌<◌, true, ◌≡◌, pos, nat_abs}
use Rattle.definition.specs.Units.{pixel}
use Rattle.definition.specs.Image.{square, in_field}
use Rattle.definition.specs.Vector.{longer, nth}
use Rattle.definition.specs.declared.Pixel.{Pixel}
use Rattle.course.specs.Course.{above, visible, number, Sound}
use Rattle.course.specs.declared.Course.{Course}

-- the course says of its pixel i whether p is in the field, and p's number there
pub record Tells (c : Course) (i : ℕ) (p : Pixel) : Type 0 where
  pub seen : visible c i ≡ in_field square p
  pub counted : visible c i ≡ true → number c i ≡ 512 * nat_abs p.y.0 + nat_abs p.x.0

-- the course has the pixels of the vector from a to b
pub record Follows (a b : Pixel) (c : Course) : Type 0 where
  pub sound : Sound c
  pub long : c.long.size ≡ longer a b
  pub tells : 0 < longer a b → (i : ℕ) → i ≤ longer a b → Tells c i (nth a b i)

-- the pixel of a mark
unfoldable pub standing : ℕ → Pixel
standing m = pixel (pos (m % above % 512)) (pos (m % above / 512))
