-- Laws of stores, over any shape and any pen: a store keeps the image's length, is read back, and leaves every other pixel and byte; stores may be made in any order.
use Prim.Native.Nat.{ℕ, ◌+◌, ◌*◌, ◌/◌, ◌^◌, ◌<◌}
use mathlib.Core.Bool.{Bool, true, false}
use mathlib.Core.Path.{◌≡◌, refl, sym, ap, ◌∙◌}
use mathlib.Core.List.{List, [], ◌∷◌, ◌++◌, reverse, reverse-cons, append-nil}
use native.Mathlib.Omega.{arith}
use native.Mathlib.Nat.{mod-lt, div-add-mod'}
use native.Mathlib.Decide.{ℕ_discrete, dec_lt}
use lib.ListN.{length, get_or, set, length-set}
use lib.Seq.{get_or-set_same, get_or-set_other, set_out, set-set, set_comm}
use lib.Arith.{digits_div}
use lib.IntN.{nat_abs}
use Rattle.definition.specs.Choice.{pick}
use Rattle.definition.specs.Image.{Shape, square, image_bytes, Pen, in_field, inside, byte_of, digit_of, digit, put_digit, digit_at, store, stores}
use Rattle.definition.specs.declared.Pixel.{Pixel}
use Rattle.definition.proofs.Digits.{digit_same, digit_other, put_either}

pub store_length : (s : Shape) (pen : Pen) (im : List ℕ) (x y : ℕ) → length (store s pen im x y) ≡ length im
unfolding store
store_length s pen im x y = simp length-set

pub stores_length : (s : Shape) (pen : Pen) (im : List ℕ) (ps : List Pixel) → length (stores s pen im ps) ≡ length im
unfolding stores
stores_length s pen im [] = refl
stores_length s pen im (p ∷ ps) = stores_length s pen (store s pen im (nat_abs p.x.0) (nat_abs p.y.0)) ps ∙ store_length s pen im (nat_abs p.x.0) (nat_abs p.y.0)

pub stores_append : (s : Shape) (pen : Pen) (im : List ℕ) (ps qs : List Pixel) → stores s pen im (ps ++ qs) ≡ stores s pen (stores s pen im ps) qs
unfolding stores
stores_append s pen im [] qs = refl
stores_append s pen im (p ∷ ps) qs = stores_append s pen (store s pen im (nat_abs p.x.0) (nat_abs p.y.0)) ps qs

-- a shape whose rows and whose image have room for their pixels
pub record Sound (s : Shape) : Type 0 where
  pub some : 0 < s.base
  pub row : (x : ℕ) → x < s.width → x / s.digits < s.row
  pub room : (x y : ℕ) → x < s.width → y < s.height → byte_of s x y < image_bytes

pub square_sound : Sound square
unfolding byte_of
square_sound = record { some = omega arith; row = λ x h. omega arith; room = λ x y h k. omega arith }

-- ---- what a store leaves
-- in reach of a row, two pixels that are the same digit of the same byte are one pixel
one_place : (s : Shape) (x y x' y' : ℕ) → x / s.digits < s.row → x' / s.digits < s.row → byte_of s x' y' ≡ byte_of s x y → digit_of s x' ≡ digit_of s x → (x' ≡ x) × (y' ≡ y)
unfolding byte_of
one_place s x y x' y' h h' e d =
    let row : (u v : ℕ) → u / s.digits < s.row → (v * s.row + u / s.digits) / s.row ≡ v = λ u v k. digits_div v k in
    let ey : y' ≡ y = sym (row x' y' h') ∙ ap (λ (n : ℕ). n / s.row) (omega (arith, e)) ∙ row x y h in
    let ex : x' / s.digits ≡ x / s.digits = omega (arith, e, ap (λ (n : ℕ). s.row * n) ey) in
    (sym (div-add-mod' x' s.digits) ∙ rw (ex, d) (div-add-mod' x s.digits), ey)

module _ (s : Shape) (pen : Pen) (im : List ℕ) (x y : ℕ) where
  pub store_reads_back : byte_of s x y < length im → pen (digit_at s im x y) < s.base → digit_at s (store s pen im x y) x y ≡ pen (digit_at s im x y)
  unfolding store digit_at
  store_reads_back h low =
      rw (get_or-set_same im (byte_of s x y) (put_digit s.base (digit_of s x) (get_or im (byte_of s x y) 0) (pen (digit s.base (digit_of s x) (get_or im (byte_of s x y) 0)))) 0 h)
      (digit_same s.base (digit_of s x) (get_or im (byte_of s x y) 0) (pen (digit s.base (digit_of s x) (get_or im (byte_of s x y) 0))) low)

  pub other_byte : (i : ℕ) → (i ≡ byte_of s x y → ⊥) → get_or (store s pen im x y) i 0 ≡ get_or im i 0
  unfolding store
  other_byte i ne = get_or-set_other im (byte_of s x y) i _ 0 ne

  pub other_pixel : (x' y' : ℕ) → x / s.digits < s.row → x' / s.digits < s.row → pen (digit_at s im x y) < s.base → (x' ≡ x → y' ≡ y → ⊥)
      → digit_at s (store s pen im x y) x' y' ≡ digit_at s im x' y'
  unfolding store digit_at
  other_pixel x' y' h h' low ne = go (ℕ_discrete (byte_of s x' y') (byte_of s x y)) (dec_lt (byte_of s x y) (length im))
    where
      old : ℕ
      old = get_or im (byte_of s x y) 0

      new : ℕ
      new = put_digit s.base (digit_of s x) old (pen (digit s.base (digit_of s x) old))

      go : Dec (byte_of s x' y' ≡ byte_of s x y) → Dec (byte_of s x y < length im)
          → digit s.base (digit_of s x') (get_or (set im (byte_of s x y) new) (byte_of s x' y') 0) ≡ digit s.base (digit_of s x') (get_or im (byte_of s x' y') 0)
      go (no p) d = rw (get_or-set_other im (byte_of s x y) (byte_of s x' y') new 0 p)
      go (yes p) (yes q) =
          rw (p, get_or-set_same im (byte_of s x y) new 0 q)
          (digit_other s.base (digit_of s x') (digit_of s x) old _ low (λ d. ne (one_place s x y x' y' h h' p d).0 (one_place s x y x' y' h h' p d).1))
      go (yes p) (no q) = rw (set_out im (byte_of s x y) new (omega arith))

-- ---- the order of stores
-- a pen of base b: from a digit it leaves a digit
pub record Fitting (b : ℕ) (pen : Pen) : Type 0 where
  pub some : 0 < b
  pub low : (v : ℕ) → v < b → pen v < b

leaves_low : (b : ℕ) (pen : Pen) → Fitting b pen → (k byte : ℕ) → pen (digit b k byte) < b
unfolding digit
leaves_low b pen fit k byte = fit.low _ (mod-lt (byte / b ^ k) fit.some)

pub left_low : (s : Shape) (pen : Pen) → Fitting s.base pen → (im : List ℕ) (x y : ℕ) → pen (digit_at s im x y) < s.base
unfolding digit_at
left_low s pen fit im x y = leaves_low s.base pen fit (digit_of s x) (get_or im (byte_of s x y) 0)

-- a byte after a store at its digit k
abbrev inked : ℕ → Pen → ℕ → ℕ → ℕ
inked b pen k byte = put_digit b k byte (pen (digit b k byte))

-- a byte after stores at its digits k and l, by any two pens
apart_digits : (b : ℕ) (pen ink : Pen) → Fitting b pen → Fitting b ink → (k l byte : ℕ) → (k ≡ l → ⊥)
    → inked b ink l (inked b pen k byte) ≡ inked b pen k (inked b ink l byte)
apart_digits b pen ink fit fit' k l byte n =
    let v = pen (digit b k byte) in
    let w = ink (digit b l byte) in
    let low = leaves_low b pen fit k byte in
    let low' = leaves_low b ink fit' l byte in
    ap (λ (t : ℕ). put_digit b l (inked b pen k byte) (ink t)) (digit_other b l k byte v low (λ e. n (sym e)))
    ∙ put_either b k l byte v w low low' n
    ∙ sym (ap (λ (t : ℕ). put_digit b k (inked b ink l byte) (pen t)) (digit_other b k l byte w low' n))

-- by one pen, at any digits
either_digit : (b : ℕ) (pen : Pen) → Fitting b pen → (k l byte : ℕ) → inked b pen l (inked b pen k byte) ≡ inked b pen k (inked b pen l byte)
either_digit b pen fit k l byte = go (ℕ_discrete k l)
  where
    go : Dec (k ≡ l) → inked b pen l (inked b pen k byte) ≡ inked b pen k (inked b pen l byte)
    go (yes e) = rw e
    go (no n) = apart_digits b pen pen fit fit k l byte n

-- an image after two bytes are changed, by f and h, which may be applied in either order where the bytes are one
either_byte : (f h : ℕ → ℕ) (im : List ℕ) (i j : ℕ) → (i ≡ j → (n : ℕ) → h (f n) ≡ f (h n))
    → set (set im i (f (get_or im i 0))) j (h (get_or (set im i (f (get_or im i 0))) j 0)) ≡ set (set im j (h (get_or im j 0))) i (f (get_or (set im j (h (get_or im j 0))) i 0))
either_byte f h im i j alike = go (ℕ_discrete i j) (dec_lt i (length im))
  where
    go : Dec (i ≡ j) → Dec (i < length im)
        → set (set im i (f (get_or im i 0))) j (h (get_or (set im i (f (get_or im i 0))) j 0)) ≡ set (set im j (h (get_or im j 0))) i (f (get_or (set im j (h (get_or im j 0))) i 0))
    go (no n) d =
        rw (get_or-set_other im i j (f (get_or im i 0)) 0 (λ e. n (sym e)), get_or-set_other im j i (h (get_or im j 0)) 0 n)
        (set_comm im i j (f (get_or im i 0)) (h (get_or im j 0)) n)
    go (yes e) (yes l) =
        rw (← e, get_or-set_same im i (f (get_or im i 0)) 0 l, get_or-set_same im i (h (get_or im i 0)) 0 l)
        (set-set im i (f (get_or im i 0)) (h (f (get_or im i 0))) ∙ ap (set im i) (alike e (get_or im i 0)) ∙ sym (set-set im i (h (get_or im i 0)) (f (h (get_or im i 0)))))
    go (yes e) (no l) = rw (← e) (out _ _ ∙ sym (out _ _))
      where
        out : (m n : ℕ) → set (set im i m) i n ≡ im
        out m n = ap (λ (t : List ℕ). set t i n) (set_out im i m (omega arith)) ∙ set_out im i n (omega arith)

-- at different pixels any two stores may be made in either order
pub apart_stores : (s : Shape) (pen ink : Pen) → Fitting s.base pen → Fitting s.base ink → (im : List ℕ) (x y x' y' : ℕ)
    → x / s.digits < s.row → x' / s.digits < s.row → (x' ≡ x → y' ≡ y → ⊥) → store s ink (store s pen im x y) x' y' ≡ store s pen (store s ink im x' y') x y
unfolding store digit_at
apart_stores s pen ink fit fit' im x y x' y' h h' ne =
    either_byte (inked s.base pen (digit_of s x)) (inked s.base ink (digit_of s x')) im (byte_of s x y) (byte_of s x' y')
    (λ e n. apart_digits s.base pen ink fit fit' (digit_of s x) (digit_of s x') n (λ d. ne (one_place s x y x' y' h h' (sym e) (sym d)).0 (one_place s x y x' y' h h' (sym e) (sym d)).1))

-- by one pen, at any pixels
module _ (s : Shape) (pen : Pen) (fit : Fitting s.base pen) where
  pub either_store : (im : List ℕ) (x y x' y' : ℕ) → store s pen (store s pen im x y) x' y' ≡ store s pen (store s pen im x' y') x y
  unfolding store digit_at
  either_store im x y x' y' =
      either_byte (inked s.base pen (digit_of s x)) (inked s.base pen (digit_of s x')) im (byte_of s x y) (byte_of s x' y') (λ e. either_digit s.base pen fit (digit_of s x) (digit_of s x'))

  -- a store before others or after them
  store_late : (im : List ℕ) (x y : ℕ) (ps : List Pixel) → store s pen (stores s pen im ps) x y ≡ stores s pen (store s pen im x y) ps
  unfolding stores
  store_late im x y [] = refl
  store_late im x y (p ∷ ps) =
      store_late (store s pen im (nat_abs p.x.0) (nat_abs p.y.0)) x y ps
      ∙ ap (λ (t : List ℕ). stores s pen t ps) (either_store im (nat_abs p.x.0) (nat_abs p.y.0) x y)

  pub stores_reverse : (im : List ℕ) (ps : List Pixel) → stores s pen im (reverse ps) ≡ stores s pen im ps
  unfolding stores
  stores_reverse im [] = refl
  stores_reverse im (p ∷ ps) =
      ap (stores s pen im) (reverse-cons p ps)
      ∙ stores_append s pen im (reverse ps) (p ∷ [])
      ∙ ap (λ (t : List ℕ). store s pen t (nat_abs p.x.0) (nat_abs p.y.0)) (stores_reverse im ps)
      ∙ store_late im (nat_abs p.x.0) (nat_abs p.y.0) ps

-- ---- the pixels in the field
pub inside_append : (s : Shape) (ps qs : List Pixel) → inside s (ps ++ qs) ≡ inside s ps ++ inside s qs
unfolding inside
inside_append s [] qs = refl
inside_append s (p ∷ ps) qs = rw (inside_append s ps qs) (go (in_field s p))
  where
    go : (t : Bool) → pick t (p ∷ (inside s ps ++ inside s qs)) (inside s ps ++ inside s qs) ≡ pick t (p ∷ inside s ps) (inside s ps) ++ inside s qs
    go true = refl
    go false = refl

pub inside_reverse : (s : Shape) (ps : List Pixel) → inside s (reverse ps) ≡ reverse (inside s ps)
unfolding inside
inside_reverse s [] = refl
inside_reverse s (p ∷ ps) = ap (inside s) (reverse-cons p ps) ∙ inside_append s (reverse ps) (p ∷ []) ∙ rw (inside_reverse s ps) (go (in_field s p))
  where
    go : (t : Bool) → reverse (inside s ps) ++ pick t (p ∷ []) [] ≡ reverse (pick t (p ∷ inside s ps) (inside s ps))
    go true = sym (reverse-cons p (inside s ps))
    go false = append-nil (reverse (inside s ps))
