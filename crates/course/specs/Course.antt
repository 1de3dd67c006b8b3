-- The course of a vector, in natural numbers: coordinates are counted from -2,048, so that the field is from 2,048 to 2,559 on each axis.
use Rattle.std.specs.Prelude.{◌≡◌, ℕ, zero, suc, ◌+◌, ◌-◌, ◌*◌, ◌/◌, ◌%◌, ◌^◌, ◌<◌, ◌≤◌, Bool, true, false, ◌&&◌, ◌==◌, nat_le, nat_lt}
use Rattle.definition.specs.Choice.{pick}
use Rattle.course.specs.declared.Axis.{Axis}
use Rattle.course.specs.declared.Course.{Course}
use Rattle.course.specs.declared.Paces.{Paces}

-- ---- the two axes
-- from s to e, with the weight w; one that goes down is seen from the other side, where coordinate r is 4,607 - r
unfoldable pub axis_of : ℕ → ℕ → ℕ → Axis
axis_of w s e =
    pick (nat_le s e)
    (record { from = s; size = e - s; down = 0; weight = w; stride = w })
    (record { from = 4607 - s; size = s - e; down = 1; weight = w; stride = 2 ^ 64 - w })

-- half of 2n is carried at the start, and one less where the shorter axis goes down, so that a half is rounded up there too
abbrev pub half_of : Axis → Axis → ℕ
half_of l s = l.size - s.down

abbrev pub along : ℕ → Axis → Axis → Course
along p l s = record { long = l; short = s; half = half_of l s; place = p }

-- the longer axis is X where the two are equal
unfoldable pub course_of : ℕ → ℕ → ℕ → ℕ → Course
course_of x y x' y' =
    pick (nat_le (axis_of 512 y y').size (axis_of 1 x x').size)
    (along (512 * y + x) (axis_of 1 x x') (axis_of 512 y y'))
    (along (512 * y + x) (axis_of 512 y y') (axis_of 1 x x'))

-- ---- pixel i
-- the steps of the shorter axis before it, and what is carried there: of n steps of the longer axis it makes m
unfoldable pub gone : ℕ → ℕ → ℕ → ℕ → ℕ
gone n m half i = (2 * (i * m) + half) / (2 * n)

unfoldable pub carried : ℕ → ℕ → ℕ → ℕ → ℕ
carried n m half i = (2 * (i * m) + half) % (2 * n)

abbrev pub gone_at : Course → ℕ → ℕ
gone_at c i = gone c.long.size c.short.size c.half i

abbrev pub carried_at : Course → ℕ → ℕ
carried_at c i = carried c.long.size c.short.size c.half i

-- it is in the field by each axis
unfoldable pub within : ℕ → Bool
within r = nat_le 2048 r && nat_lt r 2560

unfoldable pub visible : Course → ℕ → Bool
visible c i = within (c.long.from + i) && within (c.short.from + gone_at c i)

-- its number: 512 y + x, counted in the field
unfoldable pub part : Axis → ℕ → ℕ
part x k = pick (x.down == 0) (x.from + k - 2048) (2559 - (x.from + k)) * x.weight

abbrev pub number : Course → ℕ → ℕ
number c i = part c.long i + part c.short (gone_at c i)

-- its mark
abbrev pub above : ℕ
above = 4294967296

unfoldable pub mark : Course → ℕ → ℕ
mark c i = carried_at c i * above + number c i

-- ---- from a mark to the next
unfoldable pub paces_of : Course → Paces
paces_of c =
    record {
      limit = (2 * c.long.size - 2 * c.short.size) * above;
      one = (2 * c.short.size * above + c.long.stride) % 2 ^ 64;
      both = (c.long.stride + c.short.stride + (2 ^ 64 - (2 * c.long.size - 2 * c.short.size) * above)) % 2 ^ 64;
    }

unfoldable pub stepped : Paces → ℕ → ℕ
stepped p m = pick (nat_lt m p.limit) ((m + p.one) % 2 ^ 64) ((m + p.both) % 2 ^ 64)

-- after i steps
unfoldable pub marks : Paces → ℕ → ℕ → ℕ
marks p m zero = m
marks p m (suc i) = stepped p (marks p m i)

-- ---- what a course asks and what its functions find
-- what holds of a course between coordinates below 4,096
pub record Straight (x : Axis) : Type 0 where
  pub weight : x.weight ≤ 512
  pub stride : x.stride ≡ pick (x.down == 0) x.weight (2 ^ 64 - x.weight)

pub record Sound (c : Course) : Type 0 where
  pub long : Straight c.long
  pub short : Straight c.short
  pub weights : c.long.weight + c.short.weight ≡ 513
  pub few : c.long.size < 4096
  pub fewer : c.short.size ≤ c.long.size
  pub half : c.half ≤ c.long.size
  pub start : 0 < c.long.size → visible c 0 ≡ true → c.place ≡ 1050624 + number c 0

-- the first pixel at which the shorter axis has made k steps, or one after the last
pub record Arrives (n m half k r : ℕ) : Type 0 where
  pub most : r ≤ suc n
  pub before : (i : ℕ) → i < r → i ≤ n → gone n m half i < k
  pub from : (i : ℕ) → r ≤ i → i ≤ n → k ≤ gone n m half i

-- of the pixels 0 to n those from `first` on and before `end` are in the field
pub record Spans (c : Course) (first end : ℕ) : Type 0 where
  pub most : end ≤ suc c.long.size
  pub seen : (i : ℕ) → first ≤ i → i < end → visible c i ≡ true
  pub before : (i : ℕ) → i < first → i ≤ c.long.size → visible c i ≡ false
  pub after : (i : ℕ) → end ≤ i → i ≤ c.long.size → visible c i ≡ false
