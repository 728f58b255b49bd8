-- Digits one by one: what reading one more does to the number so far. Assumes nothing.
use mathlib.Core.Path.{◌≡◌, refl}
use Prim.Native.Nat.{ℕ, suc, ◌+◌, ◌*◌, ◌^◌, ◌≤◌, ◌<◌}
use native.Mathlib.Numerals.{add-one}
use native.Mathlib.Nat.{pow-suc, pow-le-pow_right, mul-le-mul, le_trans}
use native.Mathlib.Omega.{arith}
use mathlib.Core.List.{List}
use lib.ListN.{length, drop, get_or, drop_of_length-le}
use lib.Seq.{drop-cons}
use Rattle.std.specs.Prelude.{Some, None}
use Rattle.std.proofs.lemmas.Bool.Decides.{nat_tests}
use lib.Dec.{lit≤}
use borrow.Author.Tests.{lt-ltb, le-ltb}
use Rattle.line.specs.Line.{digit_of, digit_value, spell_of}

-- a byte that is a digit is worth what it is worth; one that is none is worth 16
worth : (b d : ℕ) → Some d ≡ digit_value b → d ≡ digit_of b
unfolding digit_value
worth b d e = grind (arith, nat_tests)

worthless : (b : ℕ) → None ≡ digit_value b → 16 ≤ digit_of b
unfolding digit_value
worthless b e = grind (arith, nat_tests)

module _ (base n d : ℕ) (s : List ℕ) (i : ℕ) (within : i < length s) (is : Some d ≡ digit_value (get_or s i 0)) where
  pub no_digit : base ≤ d → spell_of base n (drop i s) ≡ None
  unfolding spell_of
  no_digit h = rw (drop-cons s i 0 within) (rw (← worth _ _ is) (simp (le-ltb d base h)))

  pub one_more_lem : d < base → spell_of base n (drop i s) ≡ spell_of base (n * base + d) (drop (i + 1) s)
  unfolding spell_of
  one_more_lem h = rw add-one (rw (drop-cons s i 0 within) (rw (← worth _ _ is) (simp (lt-ltb d base h))))

pub not_one : (base n : ℕ) (s : List ℕ) (i : ℕ) → i < length s → base ≤ 16 → None ≡ digit_value (get_or s i 0) → spell_of base n (drop i s) ≡ None
unfolding spell_of
not_one base n s i within small none = rw (drop-cons s i 0 within) (simp (le-ltb (digit_of (get_or s i 0)) base (le_trans small (worthless _ none))))

pub no_more : (base n : ℕ) (s : List ℕ) (i : ℕ) → length s ≤ i → spell_of base n (drop i s) ≡ Some n
unfolding spell_of
no_more base n s i h = rw (drop_of_length-le s h) refl

-- i digits are below 16 ^ i, and one more keeps it so
pub grows : (n base d i : ℕ) → base ≤ 16 → d < base → n < 16 ^ i → n * base + d < 16 ^ (i + 1)
grows n base d i small below h =
    let k : suc n * base ≤ 16 ^ i * 16 = mul-le-mul h small in
    rw add-one (rw pow-suc (omega arith))

-- 16 digits fit 64 bits
pub fits : (m i : ℕ) → i < 16 → m < 16 ^ (i + 1) → m < 2 ^ 64
fits m i h below =
    let j : i + 1 ≤ 16 = omega arith in
    let k : 16 ^ (i + 1) ≤ 16 ^ 16 = pow-le-pow_right (lit≤ tt) j in
    let e : 16 ^ 16 ≤ 2 ^ 64 = lit≤ tt in
    le_trans below (le_trans k e)
