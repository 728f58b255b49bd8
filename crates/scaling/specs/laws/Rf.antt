-- RF of 4^i times its arguments is RF of them over 2^i, bit for bit, where no run loses digits to the ends of the range. Assumes nothing.
use Rattle.std.specs.Prelude.{◌≡◌, refl, ℕ, ◌+◌, T, Float}
use Rattle.std.proofs.Common.{sym, subst, arith}
use Rattle.std.specs.Float.{binary64}
use Rattle.std.specs.Float.Ieee.{of_bits, fits}
use Rattle.std.specs.Float.Ieee.Fits.{sub-fits, div-fits}
use Rattle.laws.specs.Arithmetic.{◌⊗◌, 2·0, 3·0, 4·0, 512·0}
use Rattle.scaling.specs.laws.Operations.{Times, times_as, times-own, times-add, times-div, times_over, times-lt, multiplied}
use Rattle.root.specs.Root.{root_of}
use Rattle.scaling.specs.laws.Root.{times_root}
use Rattle.scaling.specs.laws.Recipes.{times_distance, times_spread, times-quarter, offset_same, Over, Divided, over_divided, scaled_run}
use Rattle.rf.specs.declared.State.{State}
use Rattle.rf.specs.Rf.{start_of, stops_of, next_of, round_of, series_of, closed_of, rf_of}
use Rattle.scaling.specs.RfClear.{ClearTest, ClearStart, ClearRound, ClearClosing, ClearRf}

-- every number of t is 4^i times that of s
record Alike (i : ℕ) (s t : State) : Type 0 where
  x : Times (i + i) 0 s.x t.x
  y : Times (i + i) 0 s.y t.y
  z : Times (i + i) 0 s.z t.z
  mean : Times (i + i) 0 s.mean t.mean
  distance : Times (i + i) 0 s.distance t.distance

test-same : (i : ℕ) (s t : State) → Alike i s t → ClearTest s → ClearTest t → stops_of s ≡ stops_of t
unfolding stops_of of_bits fits
test-same i s t a c d = times-lt a.distance (times_over 512·0 tt tt a.mean c d)

rounded : (i : ℕ) (s t : State) → Alike i s t → ClearRound s → ClearRound t → Alike i (round_of s) (round_of t)
unfolding next_of round_of of_bits fits
rounded i s t a c d =
    let p = c.quarters in
    let q = d.quarters in
    let l = times_spread i 0 a.x a.y a.z p.spread q.spread in
    record {
      x = times-quarter a.x l p.x_next q.x_next;
      y = times-quarter a.y l p.y_next q.y_next;
      z = times-quarter a.z l p.z_next q.z_next;
      mean = times-quarter a.mean l p.mean_next q.mean_next;
      distance = times_over 4·0 tt tt a.distance p.distance_next q.distance_next;
    }

next : (i : ℕ) (s t : State) → Alike i s t → ClearRound s → ClearRound t → Alike i (round_of s) (round_of t) × (stops_of (round_of s) ≡ stops_of (round_of t))
next i s t a c d = let r = rounded i s t a c d in (r, test-same i (round_of s) (round_of t) r c.test d.test)

-- (mean - x) / mean and (mean - y) / mean are the same numbers, so the series is
series_same : (i : ℕ) (s t : State) → Alike i s t → ClearClosing s → ClearClosing t → series_of s ≡ series_of t
unfolding series_of
series_same i s t a c d =
    let p = c.offsets in
    let q = d.offsets in
    let x = offset_same a.mean a.x p.dx q.dx p.some q.some in
    let y = offset_same a.mean a.y p.dy q.dy p.some q.some in
    rw (x, y)

series_fits : (s : State) → T (fits binary64 (series_of s))
unfolding series_of
series_fits s = sub-fits binary64 _ _

ends : (i : ℕ) (s t : State) (k : ℕ) → Alike i s t → ClearClosing s → ClearClosing t → Over i (closed_of s k) (closed_of t k)
unfolding closed_of
ends i s t k a c d =
    let series = subst (λ (r : Float). Times 0 0 (series_of s) r) (series_same i s t a c d) (times-own 0 c.series (series_fits s)) in
    record {
      value = times_as 0 i (let z : 0 + 0 + i ≡ 0 + (0 + i) = omega arith in z) (times-div series (times_root {i = i} {j = 0} a.mean c.root d.root) c.value d.value);
      fit = div-fits binary64 (series_of t) (root_of t.mean);
      met = sym (test-same i s t a c.test d.test);
      rounds = refl;
      inside = refl;
    }

started : (i : ℕ) {x y z x' y' z' : Float} → Times (i + i) 0 x x' → Times (i + i) 0 y y' → Times (i + i) 0 z z' → ClearStart x y z → ClearStart x' y' z' → Alike i (start_of x y z) (start_of x' y' z')
unfolding start_of of_bits fits
started i x y z c d =
    let mean = times_over 3·0 tt tt (times-add (times-add x y c.two d.two) z c.three d.three) c.mean d.mean in
    record { x = x; y = y; z = z; mean = mean; distance = times_distance mean x y z c.distances d.distances }

pub rf_scaled : (i : ℕ) {x y z x' y' z' : Float} → Times (i + i) 0 x x' → Times (i + i) 0 y y' → Times (i + i) 0 z z' → ClearRf x y z → ClearRf x' y' z' → Over i (rf_of x y z) (rf_of x' y' z')
unfolding rf_of
rf_scaled i {x} {y} {z} {x'} {y'} {z'} tx ty tz c d =
    let a = started i tx ty tz c.start d.start in
    scaled_run stops_of round_of closed_of ClearRound ClearClosing (Alike i) (Over i) (next i) (ends i) (start_of x y z) (start_of x' y' z') a
    (test-same i (start_of x y z) (start_of x' y' z') a c.start.test d.start.test) c.run d.run

-- RF(4x, 4y, 4z) is half of RF(x, y, z)
pub rf_quadrupled : (x y z : Float) → T (fits binary64 x) → T (fits binary64 y) → T (fits binary64 z) → ClearRf x y z → ClearRf (4·0 ⊗ x) (4·0 ⊗ y) (4·0 ⊗ z) → Divided 2·0 (rf_of x y z) (rf_of (4·0 ⊗ x) (4·0 ⊗ y) (4·0 ⊗ z))
unfolding of_bits
rf_quadrupled x y z fx fy fz c d =
    let a = c.start in
    let b = d.start in
    over_divided 1 2·0 (rf_of x y z) (rf_of (4·0 ⊗ x) (4·0 ⊗ y) (4·0 ⊗ z)) (refl, refl)
    (rf_scaled 1 (multiplied 2 4·0 x (refl, refl) a.finite_x fx b.finite_x) (multiplied 2 4·0 y (refl, refl) a.finite_y fy b.finite_y) (multiplied 2 4·0 z (refl, refl) a.finite_z fz b.finite_z) c d)
