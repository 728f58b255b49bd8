-- Magnitude by its cases, and what comparisons of it say: the one file of this crate that opens its definition. Assumes nothing.
use Rattle.std.specs.Prelude.{◌≡◌, refl, ℕ, ◌*◌, ◌<◌, ◌≤◌, Bool, true, false, not, ◌&&◌, ◌||◌, ℤ, T, ltb, eqb, Float}
use Rattle.std.proofs.Common.{arith, true≢false, nltb→le, ltb→lt, eqb→eq}
use Rattle.std.specs.Float.{nan, inf, fin}
use Rattle.std.specs.Float.Ieee.{up, down, neg, lt, le, eq, is_nan}
use Rattle.std.specs.Float.Ieee.Fits.{and_l}
use Rattle.std.specs.Float.Ieee.Scale.{finite}
use Rattle.laws.specs.Arithmetic.{◌<·◌, ◌≤·◌}
use Rattle.laws.specs.laws.Flags.{fails}
use Rattle.whole.specs.Whole.{magnitude_of}

pub magnitude_nan : magnitude_of nan ≡ nan
unfolding magnitude_of
magnitude_nan = refl

pub magnitude_inf : (s : Bool) → magnitude_of (inf s) ≡ inf false
unfolding magnitude_of
magnitude_inf s = refl

pub magnitude_fin : (s : Bool) (m : ℕ) (e : ℤ) → magnitude_of (fin s m e) ≡ fin false m e
unfolding magnitude_of
magnitude_fin s m e = refl

pub magnitude_neg : (x : Float) → magnitude_of (neg x) ≡ magnitude_of x
unfolding magnitude_of neg
magnitude_neg nan = refl
magnitude_neg (inf s) = refl
magnitude_neg (fin s m e) = refl

-- the size of what a test does not find above n * 2 ^ d
pub within : (x : Float) (n : ℕ) (d : ℤ) → T (not (is_nan x)) → (fin false n d <· magnitude_of x) ≡ false → T (finite x)
unfolding magnitude_of lt is_nan
within nan n d k h = k
within (inf s) n d k h = absurd (true≢false h)
within (fin s m e) n d k h = tt

pub within-size : (s : Bool) (m : ℕ) (e : ℤ) (n : ℕ) (d : ℤ) → (fin false n d <· magnitude_of (fin s m e)) ≡ false → m * up e * down d ≤ n * up d * down e
unfolding magnitude_of lt
within-size s m e n d h = nltb→le (n * up d * down e) (m * up e * down d) (fails h)

-- and of what a test finds at most n * 2 ^ d
at_most : (a b : ℕ) → T (ltb a b || (eqb a b && (true || eqb a 0))) → a ≤ b
at_most a b t = go (ltb a b) (ltb→lt a b) t
  where
    go : (c : Bool) → (T c → a < b) → T (c || (eqb a b && (true || eqb a 0))) → a ≤ b
    go true f t = let l = f tt in omega arith
    go false f t = let e = eqb→eq a b (and_l (eqb a b) (true || eqb a 0) t) in omega arith

pub at_most_size : (s : Bool) (m : ℕ) (e : ℤ) (n : ℕ) (d : ℤ) → T (magnitude_of (fin s m e) ≤· fin false n d) → m * up e * down d ≤ n * up d * down e
unfolding magnitude_of le lt eq
at_most_size s m e n d h = at_most (m * up e * down d) (n * up d * down e) h

pub at-most_finite : (x : Float) (n : ℕ) (d : ℤ) → T (magnitude_of x ≤· fin false n d) → T (finite x)
unfolding magnitude_of le lt eq
at-most_finite nan n d h = absurd h
at-most_finite (inf s) n d h = absurd h
at-most_finite (fin s m e) n d h = tt
