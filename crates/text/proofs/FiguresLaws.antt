-- The decimal figures of a number: those that the library writes are the definition's.
use Rattle.std.proofs.Common.{◌≡◌, ℕ, suc, ◌^◌, ◌<◌, ◌∷◌, ℤ, pos, negsuc, refl, arith, ap, sym, to_z, of_z}
use Rattle.std.proofs.lemmas.Int.{ints}
use mir.Syntax.{w32}
use mir.Val.{SFits}
use mir.Facts.{to_z-of_z}
use Rattle.std.specs.Int.Signed.{mag}
use Rattle.std.proofs.lemmas.Fmt.{AppendsLastDigit, decimal_from_appends, length-decimal-le_succ}
use Rattle.std.specs.Fmt.{decimal, signed_decimal}
use borrow.Author.Tests.{lt-ltb, le-ltb}
use Rattle.definition.specs.Plot.{figures, printed}

last_at_the_end : AppendsLastDigit figures
unfolding figures
last_at_the_end = record {
  one = λ k n h. rw (lt-ltb n 10 h) refl;
  more = λ k n h. rw (le-ltb n 10 h) refl;
}

all_figures : (n : ℕ) → n < 2 ^ 64 → decimal n ≡ figures (suc n) n
all_figures n h = sym (decimal_from_appends figures last_at_the_end (suc n) n h (omega (arith, length-decimal-le_succ n h)))

pub unsigned : (n : ℕ) → n < 2 ^ 64 → decimal n ≡ printed (pos n)
unfolding printed
unsigned n h = all_figures n h

of_any : (z : ℤ) → mag z < 2 ^ 63 → signed_decimal z ≡ printed z
unfolding printed
of_any (pos n) h = all_figures n (omega arith)
of_any (negsuc n) h = ap (λ l. 45 ∷ l) (all_figures (suc n) (omega arith))

-- as a parameter of 32 bits has it
pub signed : (z : ℤ) → SFits w32 z → signed_decimal (to_z w32 (of_z w32 z)) ≡ printed z
signed z f = rw (to_z-of_z f) (of_any z (omega (arith, ints)))
