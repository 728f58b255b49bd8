-- What the steps of the root promise each other. Definitions only.
use Rattle.std.specs.Prelude.{◌≡◌, ℕ, ◌+◌, ◌*◌, ◌^◌, ◌<◌, ◌≤◌, Option, Some, None, Float}
use Rattle.root.specs.Root.{round_root, root_of}

-- The root of n / 8 is found down to the place s: between root and root + s. rest counts what is left of n in s, and next what the next digit, at s/2, would take from it. The root stays below 2 ^ 54, so that one word holds each of these.
pub record Tried (n s rest next : ℕ) : Type 0 where
  pub root : ℕ
  pub sum : 8 * (root * root) + rest * s ≡ n
  pub small : rest < 16 * root + 8 * s
  pub trial : next ≡ 8 * root + 2 * s
  pub room : root + s ≤ 2 ^ 54

-- A digit 1 adds 3s to the trial and a digit 0 takes s from it, which is to add 2 ^ 64 - s and to drop the carry.
pub record Moving (s up down : ℕ) : Type 0 where
  pub one : up ≡ 3 * s
  pub none : down + s ≡ 2 ^ 64

-- With 56 or 57 digits of the radicand the root of radicand * 2 ^ 51 has 54; times 2 ^ half it is no larger than an f64.
pub record Sized (radicand half : ℕ) : Type 0 where
  pub least : 2 ^ 55 ≤ radicand
  pub most : radicand < 2 ^ 57
  pub scale : half ≤ 1600

-- sig * 2 ^ exp smallest values are radicand * 2 ^ 51 * 4 ^ half squares of the smallest value.
pub record Aligned (sig exp radicand half : ℕ) : Type 0 where
  pub same : radicand * 2 ^ 51 * 4 ^ half ≡ sig * 2 ^ exp * 2 ^ 1074
  pub sized : Sized radicand half

-- The root of x is what is settled, and where nothing is, that of radicand * 2 ^ 51 * 4 ^ half such squares.
pub record Readied (x : Float) (settled : Option Float) (radicand half : ℕ) : Type 0 where
  pub sized : Sized radicand half
  pub worked : settled ≡ None → round_root (radicand * 2 ^ 51 * 4 ^ half) ≡ root_of x
  pub known : (value : Float) → settled ≡ Some value → value ≡ root_of x
