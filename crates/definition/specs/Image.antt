-- The image memory: its shape, where a pixel lies in it, the store, the read and the clear.
use Rattle.std.specs.Prelude.{ℕ, ◌+◌, ◌*◌, ◌/◌, ◌%◌, ◌^◌, Bool, ◌&&◌, List, [], ◌∷◌, get_or, set, replicate, ℤ, pos, nat_abs}
use Rattle.std.specs.Int.Signed.{le_z, lt_z}
use Rattle.definition.specs.Choice.{pick}
use Rattle.definition.specs.Units.{pixels_of}
use Rattle.definition.specs.declared.Units.{Units}
use Rattle.definition.specs.declared.Pixel.{Pixel}
use Rattle.definition.specs.declared.Ink.{Ink}

pub record Shape : Type 0 where
  pub width : ℕ
  pub height : ℕ
  pub row : ℕ  -- bytes a row
  pub digits : ℕ  -- digits a byte
  pub base : ℕ
  pub units_x : ℕ  -- units a pixel
  pub units_y : ℕ

-- 512 by 512 pixels of two bits, two units a pixel
abbrev pub square : Shape
square = record { width = 512; height = 512; row = 128; digits = 4; base = 4; units_x = 2; units_y = 2 }

abbrev pub image_bytes : ℕ
image_bytes = 65536

-- the image after a clear
abbrev pub blank : List ℕ
blank = replicate image_bytes 0

-- the pixel of a position
unfoldable pub pixel_at : Shape → Units → Units → Pixel
pixel_at s x y = record { x = pixels_of s.units_x x; y = pixels_of s.units_y y }

abbrev pub below : ℕ → ℤ → Bool
below n z = le_z (pos 0) z && lt_z z (pos n)

unfoldable pub in_field : Shape → Pixel → Bool
in_field s p = below s.width p.x.0 && below s.height p.y.0

-- those of a list that are in the field, in their order
unfoldable pub inside : Shape → List Pixel → List Pixel
inside s [] = []
inside s (p ∷ ps) = pick (in_field s p) (p ∷ inside s ps) (inside s ps)

-- placing: the byte, and which of its digits, the lowest being 0
unfoldable pub byte_of : Shape → ℕ → ℕ → ℕ
byte_of s x y = s.row * y + x / s.digits

abbrev pub digit_of : Shape → ℕ → ℕ
digit_of s x = x % s.digits

-- digit k of a byte in base b, and the byte with v in its place
unfoldable pub digit : ℕ → ℕ → ℕ → ℕ
digit b k byte = byte / b ^ k % b

unfoldable pub put_digit : ℕ → ℕ → ℕ → ℕ → ℕ
put_digit b k byte v = (byte / (b ^ k * b) * b + v) * b ^ k + byte % b ^ k

-- what stands at pixel (x, y)
unfoldable pub digit_at : Shape → List ℕ → ℕ → ℕ → ℕ
digit_at s im x y = digit s.base (digit_of s x) (get_or im (byte_of s x y) 0)

-- a pen gives the digit that a store leaves, from the one that it finds
abbrev pub Pen : Type 0
Pen = ℕ → ℕ

-- of an ink, the shape of the image that it is for, and its pen
abbrev pub ink_shape : Ink → Shape
ink_shape k = square

abbrev pub ink_pen : Ink → Pen
ink_pen k old = k.value

-- a store at pixel (x, y): that digit is replaced, the rest of its byte and every other byte stay
unfoldable pub store : Shape → Pen → List ℕ → ℕ → ℕ → List ℕ
store s pen im x y = set im (byte_of s x y) (put_digit s.base (digit_of s x) (get_or im (byte_of s x y) 0) (pen (digit_at s im x y)))

-- a store at each pixel of a list, all of them in the field
unfoldable pub stores : Shape → Pen → List ℕ → List Pixel → List ℕ
stores s pen im [] = im
stores s pen im (p ∷ ps) = stores s pen (store s pen im (nat_abs p.x.0) (nat_abs p.y.0)) ps

-- what a call answers, and the image that it leaves
pub record Left (A : Type 0) : Type 0 where
  pub result : A
  pub image : List ℕ

abbrev pub left : {A : Type 0} → A → List ℕ → Left A
left r im = record { result = r; image = im }
