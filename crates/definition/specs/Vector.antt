-- The pixels of a vector, from its two end pixels.
use Rattle.std.specs.Prelude.{ℕ, zero, suc, ◌*◌, max, List, [], ◌∷◌, ◌++◌, eqb, leb, ℤ, pos, negsuc, nat_abs, ◌+ℤ◌, ◌-ℤ◌, ◌*ℤ◌}
use Rattle.std.specs.Int.Signed.{shr_z}
use Rattle.definition.specs.Choice.{pick}
use Rattle.definition.specs.Units.{pixel}
use Rattle.definition.specs.declared.Pixel.{Pixel}

abbrev pub apart_x : Pixel → Pixel → ℤ
apart_x a b = b.x.0 -ℤ a.x.0

abbrev pub apart_y : Pixel → Pixel → ℤ
apart_y a b = b.y.0 -ℤ a.y.0

-- n: the larger of the two differences, without their signs
unfoldable pub longer : Pixel → Pixel → ℕ
longer a b = max (nat_abs (apart_x a b)) (nat_abs (apart_y a b))

-- the longer axis: one each time, up or down as the difference is
unfoldable pub by_one : ℤ → ℤ → ℕ → ℤ
by_one start (pos _) i = start +ℤ pos i
by_one start (negsuc _) i = start -ℤ pos i

-- the other axis: start + i difference / n + 1/2 rounded down, all over 2n
unfoldable pub rounded : ℤ → ℤ → ℕ → ℕ → ℤ
rounded start difference n i = shr_z (pos (2 * n) *ℤ start +ℤ pos (2 * i) *ℤ difference +ℤ pos n) (2 * n)

-- pixel i, with X as the longer axis where the two are equal
unfoldable pub nth : Pixel → Pixel → ℕ → Pixel
nth a b i =
    pick (leb (nat_abs (apart_y a b)) (nat_abs (apart_x a b)))
    (pixel (by_one a.x.0 (apart_x a b) i) (rounded a.y.0 (apart_y a b) (longer a b) i))
    (pixel (rounded a.x.0 (apart_x a b) (longer a b) i) (by_one a.y.0 (apart_y a b) i))

-- f 0 to f (k - 1)
unfoldable pub numbered {ℓ} : {A : Type ℓ} → (ℕ → A) → ℕ → List A
numbered f zero = []
numbered f (suc k) = numbered f k ++ (f k ∷ [])

-- one pixel where n is 0, else those numbered 0 to n
unfoldable pub vector : Pixel → Pixel → List Pixel
vector a b = pick (eqb (longer a b) 0) (a ∷ []) (numbered (nth a b) (suc (longer a b)))
