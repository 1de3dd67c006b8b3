-- The laws of stores for the calls: the store as the code makes it; over a sound shape, what was stored is read, every other pixel and byte reads as before, and stores at different pixels commute.
-- And cleared, an image of the right length is the blank one.
use Prim.Native.Nat.{ℕ, ◌+◌, ◌*◌, ◌/◌, ◌%◌, ◌<◌}
use mathlib.Core.List.{List}
use mathlib.Core.Path.{◌≡◌, ap}
use lib.ListN.{length, get_or, set, replicate}
use Rattle.definition.specs.Image.{Shape, Pen, image_bytes, blank, ink_shape, ink_pen, byte_of, put_digit, digit_at, store}
use Rattle.definition.specs.declared.Ink.{Ink}
use Rattle.definition.proofs.StoreLaws as laws
use Rattle.image.specs.Drawn.{cleared}

pub stored : (im : List ℕ) (x y : ℕ) (k : Ink) {byte : ℕ} → byte ≡ put_digit 4 (x % 4) (get_or im (128 * y + x / 4) 0) k.value → set im (128 * y + x / 4) byte ≡ store (ink_shape k) (ink_pen k) im x y
unfolding store byte_of
stored im x y k e = rw e

module _ (s : Shape) (sound : laws.Sound s) (pen : Pen) (fit : laws.Fitting s.base pen) (im : List ℕ) (x y : ℕ) (whole : length im ≡ image_bytes) (hx : x < s.width) (hy : y < s.height) where
  pub reads_back : digit_at s (store s pen im x y) x y ≡ pen (digit_at s im x y)
  reads_back = laws.store_reads_back s pen im x y (rw whole (sound.room x y hx hy)) (laws.left_low s pen fit im x y)

  pub other_pixels_stay : (x' y' : ℕ) → x' < s.width → (x' ≡ x → y' ≡ y → ⊥) → digit_at s (store s pen im x y) x' y' ≡ digit_at s im x' y'
  other_pixels_stay x' y' h other = laws.other_pixel s pen im x y x' y' (sound.row x hx) (sound.row x' h) (laws.left_low s pen fit im x y) other

  pub other_bytes_stay : (i : ℕ) → (i ≡ byte_of s x y → ⊥) → get_or (store s pen im x y) i 0 ≡ get_or im i 0
  other_bytes_stay = laws.other_byte s pen im x y

  pub commute : (ink : Pen) → laws.Fitting s.base ink → (x' y' : ℕ) → x' < s.width → (x' ≡ x → y' ≡ y → ⊥)
      → store s ink (store s pen im x y) x' y' ≡ store s pen (store s ink im x' y') x y
  commute ink fit' x' y' h other = laws.apart_stores s pen ink fit fit' im x y x' y' (sound.row x hx) (sound.row x' h) other

pub cleared_is_blank : (im : List ℕ) → length im ≡ image_bytes → cleared im ≡ blank
unfolding cleared
cleared_is_blank im e = ap (λ (n : ℕ). replicate n 0) e
