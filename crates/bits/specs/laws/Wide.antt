-- Two limbs: `plus` and `minus` are modulo 2^128, which drops out where there is room. Assumes nothing.
use Rattle.std.specs.Prelude.{◌≡◌, ℕ, ◌+◌, ◌-◌, ◌*◌, ◌/◌, ◌%◌, ◌^◌, ◌<◌, ◌≤◌}
use Rattle.std.proofs.Common.{sym, ap, ◌∙◌, subst, mod-eq_of_lt, mod-lt, div-add-mod', pow_pos, shr_lt, arith}
use Rattle.std.proofs.Math.Arith.{digits_lt, digits_mod}
use Rattle.bits.specs.Wide.{val, Halves}

-- two numbers of at most 127 places have room for their sum
pub room : (h l h' l' : ℕ) → h < 2 ^ 63 → l < 2 ^ 64 → h' < 2 ^ 63 → l' < 2 ^ 64 → val h l + val h' l' < 2 ^ 128
room h l h' l' a b a' b' = twice (2 ^ 63 * 2 ^ 64) (val h l) (val h' l') (digits_lt a b) (digits_lt a' b')
  where
    twice : (M x y : ℕ) → x < M → y < M → x + y < 2 * M
    twice M x y h k = omega arith

pub sum-whole : (n h l : ℕ) → n < 2 ^ 128 → Halves (n % 2 ^ 128) h l → Halves n h l
sum-whole n h l a = subst (λ (x : ℕ). Halves x h l) (mod-eq_of_lt a)

pub difference_whole : (a b h l : ℕ) → b ≤ a → a < 2 ^ 128 → Halves ((2 ^ 128 + a - b) % 2 ^ 128) h l → Halves (a - b) h l
difference_whole a b h l g k = subst (λ (x : ℕ). Halves x h l) (dropped (2 ^ 128) k)
  where
    less : (a b M : ℕ) → a < M → a - b < M
    less a b M h = omega arith

    moved : (M : ℕ) → M + a - b ≡ 1 * M + (a - b)
    moved M = omega arith

    dropped : (M : ℕ) → a < M → (M + a - b) % M ≡ a - b
    dropped M h = ap (λ (x : ℕ). x % M) (moved M) ∙ digits_mod 1 (less a b M h)

-- ---- of whole numbers, by their limbs
limbs : (n : ℕ) → n < 2 ^ 128 → Halves n (n / 2 ^ 64) (n % 2 ^ 64)
limbs n h = record { whole = div-add-mod' n (2 ^ 64); high_fits = shr_lt 64 64 h; low_fits = mod-lt n (pow_pos 64) }

pub room_for : (a b : ℕ) → a < 2 ^ 127 → b < 2 ^ 127 → a + b < 2 ^ 128
room_for a b h k =
    let l = 2 ^ 64 in
    subst (λ (x : ℕ). x + b < 2 ^ 128) (div-add-mod' a l)
    (subst (λ (x : ℕ). val (a / l) (a % l) + x < 2 ^ 128) (div-add-mod' b l) (room (a / l) (a % l) (b / l) (b % l) (shr_lt 63 64 h) (mod-lt a (pow_pos 64)) (shr_lt 63 64 k) (mod-lt b (pow_pos 64))))

pub plus_whole : (a b r : ℕ) → a + b < 2 ^ 128 → r ≡ (a + b) % 2 ^ 128 → r ≡ a + b
plus_whole a b r h e =
    let m = (a + b) % 2 ^ 128 in
    let p = limbs m (mod-lt (a + b) (pow_pos 128)) in
    e ∙ sym p.whole ∙ (sum-whole (a + b) (m / 2 ^ 64) (m % 2 ^ 64) h p).whole

pub minus_whole : (a b r : ℕ) → b ≤ a → a < 2 ^ 128 → r ≡ (2 ^ 128 + a - b) % 2 ^ 128 → r ≡ a - b
minus_whole a b r l h e =
    let m = (2 ^ 128 + a - b) % 2 ^ 128 in
    let p = limbs m (mod-lt (2 ^ 128 + a - b) (pow_pos 128)) in
    e ∙ sym p.whole ∙ (difference_whole a b (m / 2 ^ 64) (m % 2 ^ 64) l h p).whole
