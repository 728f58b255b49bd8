-- Digits behind the point, one by one. Assumes nothing.
use mathlib.Core.Path.{◌≡◌, refl}
use Prim.Native.Nat.{ℕ, zero, suc, ◌*◌, ◌-◌, ◌/◌, ◌%◌, ◌^◌, ◌≤◌, ◌<◌}
use native.Mathlib.Nat.{div-lt_iff_lt-mul, mod-lt}
use native.Mathlib.Omega.{arith}
use mathlib.Core.Bool.{false}
use mathlib.Core.List.{List, [], ◌∷◌}
use lib.Dec.{lit≤}
use lib.ListN.{length}
use borrow.Author.Tests.{eq-eqb, ne_eqb, lt-ltb}
use Rattle.text.specs.Text.{glyph_of, digits_of}
use Rattle.text.specs.Writing.{Put}
use Rattle.text.specs.laws.Writing.{put_none, put_both}
use Rattle.hexfloat.specs.Spelled.{digits_text}

pub no_place : (k n : ℕ) (s : List ℕ) (a : ℕ) → k ≡ 0 → Put s s a a (digits_text k n)
unfolding digits_text
no_place k n s a e = rw e (put_none s a)

pub no_rest : (k n : ℕ) (s : List ℕ) (a : ℕ) → n ≡ 0 → Put s s a a (digits_text k n)
unfolding digits_text
no_rest zero n s a e = put_none s a
no_rest (suc k) n s a e = rw (eq-eqb n 0 e) (put_none s a)

pub digit_lt : (n : ℕ) → n < 2 ^ 52 → n / 2 ^ 48 < 16
digit_lt n h = (div-lt_iff_lt-mul {k = 2 ^ 48} (lit≤ tt)).1 h

pub rest_lt : (n : ℕ) → n % 2 ^ 48 * 16 < 2 ^ 52
rest_lt n = let k = mod-lt n {m = 2 ^ 48} (lit≤ tt) in omega arith

pub one_digit : (d : ℕ) → d < 16 → digits_of false 16 16 d ≡ glyph_of d ∷ []
unfolding digits_of
one_digit d h = rw (lt-ltb d 16 h) refl

pub more_digits : (k n : ℕ) (s : List ℕ) (a : ℕ) {t u : List ℕ} {b c : ℕ} → (k ≡ 0 → ⊥) → (n ≡ 0 → ⊥) → n < 2 ^ 52 → c ≤ length s
    → Put s t a b (digits_of false 16 16 (n / 2 ^ 48)) → Put t u b c (digits_text (k - 1) (n % 2 ^ 48 * 16)) → Put s u a c (digits_text k n)
unfolding digits_text
more_digits zero n s a p q h l x y = absurd (p refl)
more_digits (suc k) n s a {t} {u} {b} {c} p q h l x y =
    let z : suc k - 1 ≡ k = omega arith in
    rw (ne_eqb n 0 q) (put_both s a (glyph_of (n / 2 ^ 48) ∷ []) (digits_text k (n % 2 ^ 48 * 16)) l (rw (one_digit (n / 2 ^ 48) (digit_lt n h)) at x) (rw z at y))
