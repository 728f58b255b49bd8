-- Digits held, one by one. Assumes nothing.
use mathlib.Core.Path.{◌≡◌, refl}
use Prim.Native.Nat.{ℕ, ◌+◌, ◌≤◌, ◌<◌}
use native.Mathlib.Numerals.{add-one}
use native.Mathlib.Omega.{arith}
use mathlib.Core.List.{List}
use lib.ListN.{length, drop, get_or, drop_of_length-le}
use lib.Seq.{drop-cons}
use borrow.Author.Tests.{lt-ltb, le-ltb}
use Rattle.std.specs.Prelude.{Some, None}
use Rattle.std.proofs.lemmas.Bool.Decides.{nat_tests}
use Rattle.hexfloat.specs.declared.digits.Held.{Held}
use Rattle.hexfloat.specs.Reading.{hex_digit_of, hex_value}
use Rattle.hexfloat.specs.Steps.{with_digit, held_from}

-- a byte that is a digit is worth what it is worth; one that is none is worth 16
pub worth : (b d : ℕ) → Some d ≡ hex_value b → (d ≡ hex_digit_of b) × (d < 16)
unfolding hex_value
worth b d e = grind (arith, nat_tests)

worthless : (b : ℕ) → None ≡ hex_value b → 16 ≤ hex_digit_of b
unfolding hex_value
worthless b e = grind (arith, nat_tests)

module _ (h : Held) (s : List ℕ) (i : ℕ) (within : i < length s) where
  pub no_digit : None ≡ hex_value (get_or s i 0) → held_from h (drop i s) ≡ None
  unfolding held_from
  no_digit none = rw (drop-cons s i 0 within) (simp (le-ltb (hex_digit_of (get_or s i 0)) 16 (worthless _ none)))

  pub one_more_lem : (d : ℕ) → Some d ≡ hex_value (get_or s i 0) → held_from h (drop i s) ≡ held_from (with_digit h d) (drop (i + 1) s)
  unfolding held_from
  one_more_lem d is =
      let w = worth (get_or s i 0) d is in
      rw add-one (rw (drop-cons s i 0 within) (rw (← w.0) (simp (lt-ltb d 16 w.1))))

pub no_more : (h : Held) (s : List ℕ) (i : ℕ) → length s ≤ i → held_from h (drop i s) ≡ Some h
unfolding held_from
no_more h s i k = rw (drop_of_length-le s k) refl
