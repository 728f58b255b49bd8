-- Limbs taken from limbs, from the lowest up; and the highest digit turned over. Assumes nothing.
use mathlib.Core.Path.{◌≡◌, refl, ap, ◌∙◌, sym, subst}
use mathlib.Core.Bool.{Bool, true, false}
use mathlib.Core.List.{List}
use Prim.Native.Nat.{ℕ, ◌+◌, ◌-◌, ◌*◌, ◌%◌, ◌≤◌, ◌<◌}
use native.Mathlib.Nat.{mul-le-mul_left, le_of_eq, le_trans, mul-add}
use native.Mathlib.Omega.{arith}
use lib.Dec.{lit≤, lit<}
use lib.ListN.{length, take, get_or, set, length-set, get_or-eq_default}
use lib.Seq.{take_all, length-take-le, get_or-take}
use mathlib.Core.Logic.{inl, inr}
use Rattle.std.specs.Int.{from_bool}
use Rattle.laws.specs.laws.Flags.{lt-or-le}
use Rattle.total.specs.Total.{val, N, Half}
use Rattle.total.specs.Carry.{W}
use Rattle.total.specs.laws.Limbs.{Fit, W-34, W-next, val_next, val-set_next, val-below}
use Rattle.difference.specs.Limbs.{raised_of}
use Rattle.difference.specs.laws.Growth.{raised-low, raised-high}

-- ---- one limb more
balance : (w w' a b o x y z c d : ℕ) → w' ≡ 0x1_0000_0000_0000_0000 * w → o + b ≡ a + w * c → z + y + c ≡ x + 0x1_0000_0000_0000_0000 * d → (o + w * z) + (b + w * y) ≡ (a + w * x) + w' * d
balance w w' a b o x y z c d e h k =
    let m = simp mul-add at (ap (λ (n : ℕ). w * n) k) in
    rw e (omega (arith, m, h))

under : (w w' o z : ℕ) → w' ≡ 0x1_0000_0000_0000_0000 * w → o < w → z < 0x1_0000_0000_0000_0000 → o + w * z < w'
under w w' o z e h k =
    let m : w * (z + 1) ≤ w * 0x1_0000_0000_0000_0000 = mul-le-mul_left w (let g : z + 1 ≤ 0x1_0000_0000_0000_0000 = omega arith in g) in
    rw e (omega (arith, m))

one_at_most : (b : Bool) → from_bool b ≤ 1
one_at_most true = lit≤ tt
one_at_most false = lit≤ tt

-- out holds the first i limbs of a less b, and c says whether 1 was borrowed from the next
pub record Minus (a b out : List ℕ) (c : Bool) (i : ℕ) : Type 0 where
  pub size : length out ≡ 34
  pub sum : val (take i out) + val (take i b) ≡ val (take i a) + W i * from_bool c
  pub fits : val (take i out) < W i

pub minus_none : (a b : List ℕ) → length a ≡ 34 → Minus a b a false 0
unfolding val W
minus_none a b h = record { size = h; sum = refl; fits = lit< tt }

pub minus_next : (a b out : List ℕ) (c : Bool) (i z : ℕ) (d : Bool) → length a ≡ 34 → length b ≡ 34 → i < 34 → Minus a b out c i
    → z + get_or b i 0 + from_bool c ≡ get_or a i 0 + from_bool d * 0x1_0000_0000_0000_0000 → z < 0x1_0000_0000_0000_0000 → Minus a b (set out i z) d (i + 1)
minus_next a b out c i z d ha hb h l e f =
    let ho = l.size in
    let A : i < length a = omega arith in
    let B : i < length b = omega arith in
    let O : i < length out = omega arith in
    record {
      size = length-set out i z ∙ ho;
      sum = rw (val-set_next out i z O, val_next b i B, val_next a i A) (balance (W i) (W (i + 1)) (val (take i a)) (val (take i b)) (val (take i out)) (get_or a i 0) (get_or b i 0) z (from_bool c) (from_bool d) (W-next i) l.sum (omega (arith, e)));
      fits = rw (val-set_next out i z O) (under (W i) (W (i + 1)) (val (take i out)) z (W-next i) l.fits f);
    }

-- ---- all limbs
module _ (a b out : List ℕ) (c : Bool) (ha : length a ≡ 34) (hb : length b ≡ 34) (l : Minus a b out c 34) where
  whole : val out + val b ≡ val a + N * from_bool c
  whole =
      let x : take 34 a ≡ a = take_all 34 a (omega arith) in
      let y : take 34 b ≡ b = take_all 34 b (omega arith) in
      let ho = l.size in
      let z : take 34 out ≡ out = take_all 34 out (omega arith) in
      (λ j. val (sym z j) + val (sym y j)) ∙ l.sum ∙ (λ j. val (x j) + W-34 j * from_bool c)

  fits_all : val out < N
  fits_all =
      let ho = l.size in
      let z : take 34 out ≡ out = take_all 34 out (omega arith) in
      subst (λ (n : ℕ). n < N) (ap val z) (subst (λ (n : ℕ). val (take 34 out) < n) W-34 l.fits)

  -- nothing is owed: it is the difference
  pub left : c ≡ false → val out + val b ≡ val a
  left h = unowed N (val out) (val b) (val a) (from_bool c) whole (ap from_bool h)
    where
      unowed : (n d x y k : ℕ) → d + x ≡ y + n * k → k ≡ 0 → d + x ≡ y
      unowed n d x y k e z = rw z at e ∙ (let r : y + n * 0 ≡ y = omega arith in r)

  -- 1 is owed: b is larger
  pub larger : c ≡ true → val a < val b
  larger h = owed N (val out) (val b) (val a) (from_bool c) whole (ap from_bool h) fits_all
    where
      owed : (n d x y k : ℕ) → d + x ≡ y + n * k → k ≡ 1 → d < n → y < x
      owed n d x y k e z l = let r : d + x ≡ y + n * 1 = rw z at e in omega arith

-- ---- the highest digit
half_is : W 33 * 0x8000_0000_0000_0000 ≡ Half
unfolding W Half
half_is = refl

top_of : (l : List ℕ) → length l ≡ 34 → val l ≡ val (take 33 l) + W 33 * get_or l 33 0
top_of l e = ap val (sym (take_all 34 l (le_of_eq e))) ∙ val_next l 33 (subst (λ (n : ℕ). 33 < n) (sym e) (lit< tt))

top_set : (l : List ℕ) (z : ℕ) → length l ≡ 34 → val (set l 33 z) ≡ val (take 33 l) + W 33 * z
top_set l z e =
    ap val (sym (take_all 34 (set l 33 z) (le_of_eq (length-set l 33 z ∙ e)))) ∙ val-set_next l 33 z (subst (λ (n : ℕ). 33 < n) (sym e) (lit< tt))

low_below : (l : List ℕ) → length l ≡ 34 → Fit l → val (take 33 l) < W 33
low_below l e f =
    let n : length (take 33 l) ≡ 33 = length-take-le 33 l (subst (λ (n : ℕ). 33 ≤ n) (sym e) (lit≤ tt)) in
    subst (λ (k : ℕ). val (take 33 l) < W k) n (val-below (take 33 l) (λ i. elim (lt-or-le i 33) [
      | inl h ↦ rw (get_or-take 33 l i 0 h) (f i)
      | inr h ↦ rw (get_or-eq_default (take 33 l) 0 (le_trans (le_of_eq n) h)) (lit< tt)
    ]))

below : (w h H x a : ℕ) → w * h ≡ H → a < w → x < h → a + w * x < H
below w h H x a e b l = let m : w * (x + 1) ≤ w * h = mul-le-mul_left w (let k : x + 1 ≤ h = omega arith in k) in omega arith

reached : (w h H x a : ℕ) → w * h ≡ H → h ≤ x → H ≤ a + w * x
reached w h H x a e l = let m : w * h ≤ w * x = mul-le-mul_left w l in omega arith

lift : (w h H x a : ℕ) → w * h ≡ H → a + w * (x + h) ≡ a + w * x + H
lift w h H x a e = rw (mul-add w x h, e) (omega arith)

lower : (w h H x a : ℕ) → w * h ≡ H → h ≤ x → a + w * (x - h) ≡ a + w * x - H
lower w h H x a e l =
    let m : w * (x - h) + w * h ≡ w * x = sym (mul-add w (x - h) h) ∙ ap (λ (n : ℕ). w * n) (let k : x - h + h ≡ x = omega arith in k) in
    omega arith

-- the highest digit turned over, by half of a limb's modulus
abbrev pub turned : ℕ → ℕ
turned x = (x + 0x8000_0000_0000_0000) % 0x1_0000_0000_0000_0000

turned-low : (x : ℕ) → x < 0x8000_0000_0000_0000 → turned x ≡ x + 0x8000_0000_0000_0000
turned-low x h = omega arith

turned-high : (x : ℕ) → x < 0x1_0000_0000_0000_0000 → 0x8000_0000_0000_0000 ≤ x → turned x ≡ x - 0x8000_0000_0000_0000
turned-high x f h = omega arith

pub raise : (l : List ℕ) → length l ≡ 34 → Fit l → val (set l 33 (turned (get_or l 33 0))) ≡ raised_of (val l)
raise l e f =
    let a = val (take 33 l) in
    let x = get_or l 33 0 in
    top_set l (turned x) e
    ∙ elim (lt-or-le x 0x8000_0000_0000_0000) [
      | inl h ↦
          ap (λ (n : ℕ). a + W 33 * n) (turned-low x h)
          ∙ lift (W 33) 0x8000_0000_0000_0000 Half x a half_is
          ∙ sym (raised-low (a + W 33 * x) (below (W 33) 0x8000_0000_0000_0000 Half x a half_is (low_below l e f) h))
      | inr h ↦
          ap (λ (n : ℕ). a + W 33 * n) (turned-high x (f 33) h)
          ∙ lower (W 33) 0x8000_0000_0000_0000 Half x a half_is h
          ∙ sym (raised-high (a + W 33 * x) (reached (W 33) 0x8000_0000_0000_0000 Half x a half_is h))
    ]
    ∙ ap raised_of (sym (top_of l e))
