-- RD of 4^i times its arguments is RD of them over 8^i, bit for bit, where no run loses digits to the ends of the range. Assumes nothing.
use Rattle.std.specs.Prelude.{◌≡◌, refl, ℕ, ◌+◌, T, Float}
use Rattle.std.proofs.Common.{sym, subst, arith}
use Rattle.std.specs.Float.{binary64}
use Rattle.std.specs.Float.Ieee.{of_bits, fits}
use Rattle.std.specs.Float.Ieee.Fits.{add-fits}
use Rattle.laws.specs.Arithmetic.{◌⊗◌, 3·0, 4·0, 5·0, 8·0, 1024·0}
use Rattle.scaling.specs.laws.Operations.{Times, times_as, times-own, times_zero, times-add, times-mul, times-div, times_over, times_by, times-lt, multiplied}
use Rattle.scaling.specs.laws.Root.{times_root}
use Rattle.carlson.specs.Series.{fifth_of}
use Rattle.rf.specs.Rf.{roots_of}
use Rattle.scaling.specs.laws.Recipes.{times_distance, times_spread, times-quarter, offset_same, Over, Divided, over_divided, scaled_run}
use Rattle.rd.specs.declared.State.{State}
use Rattle.rd.specs.Rd.{start_of, stops_of, next_of, round_of, series_of, closed_of, rd_of}
use Rattle.scaling.specs.RdClear.{ClearTest, ClearStart, ClearRound, ClearClosing, ClearRd}

-- the arguments of t are 4^i times those of s, the scale is the same, and the sum is over 8^i
record Alike (i : ℕ) (s t : State) : Type 0 where
  x : Times (i + i) 0 s.x t.x
  y : Times (i + i) 0 s.y t.y
  z : Times (i + i) 0 s.z t.z
  mean : Times (i + i) 0 s.mean t.mean
  distance : Times (i + i) 0 s.distance t.distance
  scale : Times 0 0 s.scale t.scale
  sum : Times 0 (i + (i + i)) s.sum t.sum

test-same : (i : ℕ) (s t : State) → Alike i s t → ClearTest s → ClearTest t → stops_of s ≡ stops_of t
unfolding stops_of of_bits fits
test-same i s t a c d = times-lt a.distance (times_over 1024·0 tt tt a.mean c d)

rounded : (i : ℕ) (s t : State) → Alike i s t → ClearRound s → ClearRound t → Alike i (round_of s) (round_of t)
unfolding next_of round_of roots_of of_bits fits
rounded i s t a c d =
    let p = c.quarters in
    let q = d.quarters in
    let l = times_spread i 0 a.x a.y a.z p.spread q.spread in
    let weight = times-mul (times_root {i = i} {j = 0} a.z p.spread.root_z q.spread.root_z) (times-add a.z l p.z_next.sum q.z_next.sum) c.weight d.weight in
    record {
      x = times-quarter a.x l p.x_next q.x_next;
      y = times-quarter a.y l p.y_next q.y_next;
      z = times-quarter a.z l p.z_next q.z_next;
      mean = times-quarter a.mean l p.mean_next q.mean_next;
      distance = times_over 4·0 tt tt a.distance p.distance_next q.distance_next;
      scale = times_over 4·0 tt tt a.scale c.scale d.scale;
      sum = times-add a.sum (times_as 0 (i + (i + i)) (let z : 0 + 0 + (i + (i + i)) ≡ 0 + (0 + (i + (i + i))) = omega arith in z) (times-div a.scale weight c.term d.term)) c.sum d.sum;
    }

next : (i : ℕ) (s t : State) → Alike i s t → ClearRound s → ClearRound t → Alike i (round_of s) (round_of t) × (stops_of (round_of s) ≡ stops_of (round_of t))
next i s t a c d = let r = rounded i s t a c d in (r, test-same i (round_of s) (round_of t) r c.test d.test)

-- (mean - x) / mean and (mean - y) / mean are the same numbers, so the series is
series_same : (i : ℕ) (s t : State) → Alike i s t → ClearClosing s → ClearClosing t → series_of s ≡ series_of t
unfolding series_of
series_same i s t a c d =
    let p = c.offsets in
    let q = d.offsets in
    let x = offset_same a.mean a.x p.dx q.dx p.some q.some in
    let y = offset_same a.mean a.y p.dy q.dy p.some q.some in
    rw (x, y)

series_fits : (s : State) → T (fits binary64 (series_of s))
unfolding series_of fifth_of
series_fits s = add-fits binary64 _ _

ends : (i : ℕ) (s t : State) (k : ℕ) → Alike i s t → ClearClosing s → ClearClosing t → Over (i + (i + i)) (closed_of s k) (closed_of t k)
unfolding closed_of of_bits fits
ends i s t k a c d =
    let series = subst (λ (r : Float). Times 0 0 (series_of s) r) (series_same i s t a c d) (times-own 0 c.series (series_fits s)) in
    let weight = times-mul a.mean (times_root {i = i} {j = 0} a.mean c.root d.root) c.weight d.weight in
    let term = times-div (times-mul a.scale series c.share d.share) weight c.term d.term in
    record {
      value = times-add (times_as 0 (i + (i + i)) (let z : 0 + 0 + (i + (i + i)) ≡ 0 + (0 + (i + i + i)) = omega arith in z) term) (times_by 3·0 tt tt a.sum c.thrice d.thrice) c.value d.value;
      fit = add-fits binary64 _ _;
      met = sym (test-same i s t a c.test d.test);
      rounds = refl;
      inside = refl;
    }

started : (i : ℕ) {x y z x' y' z' : Float} → Times (i + i) 0 x x' → Times (i + i) 0 y y' → Times (i + i) 0 z z' → ClearStart x y z → ClearStart x' y' z' → Alike i (start_of x y z) (start_of x' y' z')
unfolding start_of of_bits fits
started i x y z c d =
    let mean = times_over 5·0 tt tt (times-add (times-add x y c.two d.two) (times_by 3·0 tt tt z c.thrice d.thrice) c.five d.five) c.mean d.mean in
    record { x = x; y = y; z = z; mean = mean; distance = times_distance mean x y z c.distances d.distances; scale = times-own 0 tt tt; sum = times_zero 0 (i + (i + i)) tt tt tt }

pub rd_scaled : (i : ℕ) {x y z x' y' z' : Float} → Times (i + i) 0 x x' → Times (i + i) 0 y y' → Times (i + i) 0 z z' → ClearRd x y z → ClearRd x' y' z' → Over (i + (i + i)) (rd_of x y z) (rd_of x' y' z')
unfolding rd_of
rd_scaled i {x} {y} {z} {x'} {y'} {z'} tx ty tz c d =
    let a = started i tx ty tz c.start d.start in
    scaled_run stops_of round_of closed_of ClearRound ClearClosing (Alike i) (Over (i + (i + i))) (next i) (ends i) (start_of x y z) (start_of x' y' z') a
    (test-same i (start_of x y z) (start_of x' y' z') a c.start.test d.start.test) c.run d.run

-- RD(4x, 4y, 4z) is an eighth of RD(x, y, z)
pub rd_quadrupled : (x y z : Float) → T (fits binary64 x) → T (fits binary64 y) → T (fits binary64 z) → ClearRd x y z → ClearRd (4·0 ⊗ x) (4·0 ⊗ y) (4·0 ⊗ z) → Divided 8·0 (rd_of x y z) (rd_of (4·0 ⊗ x) (4·0 ⊗ y) (4·0 ⊗ z))
unfolding of_bits
rd_quadrupled x y z fx fy fz c d =
    let a = c.start in
    let b = d.start in
    over_divided 3 8·0 (rd_of x y z) (rd_of (4·0 ⊗ x) (4·0 ⊗ y) (4·0 ⊗ z)) (refl, refl)
    (rd_scaled 1 (multiplied 2 4·0 x (refl, refl) a.finite_x fx b.finite_x) (multiplied 2 4·0 y (refl, refl) a.finite_y fy b.finite_y) (multiplied 2 4·0 z (refl, refl) a.finite_z fz b.finite_z) c d)
