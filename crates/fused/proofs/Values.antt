-- `fused_of` by the kinds of its arguments, and by the parts of finite ones. Assumes nothing.
use mathlib.Core.Path.{◌≡◌, refl, sym, ap, ◌∙◌}
use mathlib.Core.Bool.{Bool, true, false, ◌&&◌, true≢false, false≢true}
use Prim.Native.Nat.{ℕ, ◌+◌, ◌*◌, ◌^◌}
use native.Mathlib.Nat.{mul-pos, mul_assoc, mul_comm, mul_left_comm}
use lib.Pow.{pow-add, pow_pos}
use lib.Ieee.{Float, nan, inf, fin, binary64, sum, unlike, add, mul}
use lib.Ieee.Exact.{HasValue}
use lib.Ieee.Scale.{finite}
use Rattle.laws.specs.laws.Sum.{sum_same}
use Rattle.fused.specs.Fused.{fused_of}
use Rattle.fused.specs.laws.Meaning.{fused_fraction}

-- ---- of finite values, by their parts
pub fused_finite : (x y z : Float) (nx ny nz : Bool) (sx ex sy ey sz ez : ℕ) → HasValue x nx (sx * 2 ^ ex) (2 ^ 1074) → HasValue y ny (sy * 2 ^ ey) (2 ^ 1074) → HasValue z nz (sz * 2 ^ ez) (2 ^ 1074)
    → sum binary64 (unlike nx ny) (sx * sy * 2 ^ (ex + ey + 192)) nz (sz * 2 ^ (ez + 1266)) (2 ^ 2340) ≡ fused_of x y z
fused_finite x y z nx ny nz sx ex sy ey sz ez hx hy hz =
    let L = 2 ^ 1074 in
    sum_same binary64 (unlike nx ny) nz (sx * 2 ^ ex * (sy * 2 ^ ey) * L) (sz * 2 ^ ez * (L * L)) (L * L * L) (sx * sy * 2 ^ (ex + ey + 192)) (sz * 2 ^ (ez + 1266)) (2 ^ 2340)
    (mul-pos (mul-pos (pow_pos 1074) (pow_pos 1074)) (pow_pos 1074)) (pow_pos 2340) (product_term 1074 1266 192 2340 refl refl) (addend_term 1074 1266 2340 refl)
    ∙ sym (fused_fraction x y z nx ny nz (sx * 2 ^ ex) L (sy * 2 ^ ey) L (sz * 2 ^ ez) L (pow_pos 1074) (pow_pos 1074) (pow_pos 1074) hx hy hz)
  where
    product_term : (l b j t : ℕ) → b ≡ l + j → t ≡ l + b → sx * 2 ^ ex * (sy * 2 ^ ey) * 2 ^ l * 2 ^ t ≡ sx * sy * 2 ^ (ex + ey + j) * (2 ^ l * 2 ^ l * 2 ^ l)
    product_term l b j t p q =
        ap (λ (w : ℕ). sx * 2 ^ ex * (sy * 2 ^ ey) * 2 ^ l * w) (ap (λ (w : ℕ). 2 ^ w) (q ∙ ap (λ (w : ℕ). l + w) p) ∙ pow-add 2 l (l + j) ∙ ap (λ (w : ℕ). 2 ^ l * w) (pow-add 2 l j))
        ∙ turn sx (2 ^ ex) sy (2 ^ ey) (2 ^ l) (2 ^ j)
        ∙ ap (λ (w : ℕ). sx * sy * w * (2 ^ l * 2 ^ l * 2 ^ l)) (ap (λ (w : ℕ). w * 2 ^ j) (sym (pow-add 2 ex ey)) ∙ sym (pow-add 2 (ex + ey) j))
      where
        turn : (s X t Y L J : ℕ) → s * X * (t * Y) * L * (L * (L * J)) ≡ s * t * (X * Y * J) * (L * L * L)
        turn s X t Y L J = simp (mul_assoc, mul_comm, mul_left_comm)

    addend_term : (l b t : ℕ) → t ≡ l + b → sz * 2 ^ ez * (2 ^ l * 2 ^ l) * 2 ^ t ≡ sz * 2 ^ (ez + b) * (2 ^ l * 2 ^ l * 2 ^ l)
    addend_term l b t q =
        ap (λ (w : ℕ). sz * 2 ^ ez * (2 ^ l * 2 ^ l) * w) (ap (λ (w : ℕ). 2 ^ w) q ∙ pow-add 2 l b)
        ∙ turn sz (2 ^ ez) (2 ^ l) (2 ^ b)
        ∙ ap (λ (w : ℕ). sz * w * (2 ^ l * 2 ^ l * 2 ^ l)) (sym (pow-add 2 ez b))
      where
        turn : (s X L B : ℕ) → s * X * (L * L) * (L * B) ≡ s * (X * B) * (L * L * L)
        turn s X L B = simp (mul_assoc, mul_comm, mul_left_comm)

-- where one is not finite
pub fused_addend : (x y z : Float) → finite x ≡ true → finite y ≡ true → finite z ≡ false → z ≡ fused_of x y z
unfolding fused_of
fused_addend nan y z a b c = absurd (false≢true a)
fused_addend (inf s) y z a b c = absurd (false≢true a)
fused_addend (fin s m e) nan z a b c = absurd (false≢true b)
fused_addend (fin s m e) (inf t) z a b c = absurd (false≢true b)
fused_addend (fin s m e) (fin t n d) nan a b c = refl
fused_addend (fin s m e) (fin t n d) (inf u) a b c = refl
fused_addend (fin s m e) (fin t n d) (fin u k g) a b c = absurd (true≢false c)

pub fused_factor : (x y z : Float) → (finite x && finite y) ≡ false → add binary64 (mul binary64 x y) z ≡ fused_of x y z
unfolding fused_of
fused_factor nan y z a = unfold add mul in refl
fused_factor (inf s) y z a = refl
fused_factor (fin s m e) nan z a = unfold add mul in refl
fused_factor (fin s m e) (inf t) z a = refl
fused_factor (fin s m e) (fin t n d) z a = absurd (true≢false a)
