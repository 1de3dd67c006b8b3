-- A machine and its numbers: each gives the other back, and the machine that a call works on is in range where all the numbers are.
use Prim.Native.Nat.{ℕ, zero, suc, ◌<◌}
use mathlib.Core.Bool.{Bool, true, false, ◌&&◌, and-false}
use mathlib.Core.Path.{◌≡◌, refl}
use native.Mathlib.Omega.{arith}
use lib.Dec.{eqb, ltb}
use borrow.Author.Tests.{ltb-true}
use Rattle.definition.specs.Choice.{pick}
use Rattle.definition.specs.Machine.{with_mode, ranged}
use Rattle.definition.specs.declared.Machine.{Machine}
use Rattle.definition.proofs.Plain.{both_true}
use Rattle.numbers.specs.Numbers.{number, numbers_of, machine_of, flags, all_ranged, spoilt, taken, with_flags, given_back}
use Rattle.numbers.specs.declared.HostMachine.{HostMachine}

-- ---- there and back
flag_told : (t : Bool) → eqb (number t) 1 ≡ t
flag_told true = refl
flag_told false = refl

few : (t : Bool) → ltb (number t) 2 ≡ true
few true = refl
few false = refl

flag_back : (n : ℕ) → n < 2 → number (eqb n 1) ≡ n
flag_back zero h = refl
flag_back (suc zero) h = refl
flag_back (suc (suc n)) h = absurd (omega arith)

pub machine_back : (m : Machine) → machine_of (numbers_of m) ≡ m
machine_back m = simp flag_told

pub flags_of_numbers : (m : Machine) → flags (numbers_of m) ≡ true
unfolding flags
flags_of_numbers m = simp few

module _ (m : HostMachine) where
  numbers_back : flags m ≡ true → numbers_of (machine_of m) ≡ m
  unfolding flags
  numbers_back e =
      let f = both_true.0 e in
      rw (flag_back m.write (ltb-true _ _ f.0), flag_back m.latch (ltb-true _ _ f.1))

  -- ---- the machine that a call works on
  pub taken_whole : flags m ≡ true → taken m ≡ machine_of m
  unfolding taken
  taken_whole e = rw e

  pub ranged_taken : ranged (taken m) ≡ all_ranged m
  unfolding taken all_ranged ranged
  ranged_taken = go (flags m)
    where
      go : (t : Bool) → ranged (pick t (machine_of m) (with_mode (machine_of m) m.mode spoilt)) ≡ t && ranged (machine_of m)
      go true = refl
      go false = simp and-false

  pub status_taken : (taken m).status ≡ m.status
  unfolding taken
  status_taken = go (flags m)
    where
      go : (t : Bool) → (pick t (machine_of m) (with_mode (machine_of m) m.mode spoilt)).status ≡ m.status
      go true = refl
      go false = refl

  pub ranged_flags : all_ranged m ≡ true → flags m ≡ true
  unfolding all_ranged
  ranged_flags e = (both_true.0 e).0

  -- ---- what is given back
  pub in_numbers : (n : Machine) → flags m ≡ true → given_back m n ≡ numbers_of n
  unfolding given_back
  in_numbers n e = rw e

  pub untouched : given_back m (taken m) ≡ m
  unfolding given_back taken
  untouched = go (flags m) refl
    where
      go : (t : Bool) → flags m ≡ t → let n = pick t (machine_of m) (with_mode (machine_of m) m.mode spoilt) in pick t (numbers_of n) (with_flags (numbers_of n) m) ≡ m
      go true e = numbers_back e
      go false e = refl
