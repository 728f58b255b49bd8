-- Stored totals raised by half of the modulus lie as far apart as those that they stand for. Assumes nothing.
use Rattle.std.specs.Prelude.{◌≡◌, refl, ℕ, ◌+◌, ◌-◌, ◌≤◌, ◌<◌, pos, ◌+ℤ◌, ◌-ℤ◌}
use Rattle.std.proofs.Common.{ap, ◌∙◌, sym, inl, inr, arith, lt-ltb, le-ltb}
use Rattle.std.proofs.Math.IntN.{sub_ℕ}
use Rattle.laws.specs.laws.Flags.{lt-or-le}
use Rattle.total.specs.Total.{N, Half}
use Rattle.difference.specs.Difference.{signed_of}
use Rattle.difference.specs.Limbs.{raised_of}
use Rattle.difference.specs.laws.Whole.{sub_up, minus_is, taken_from, moved-both}

pub halves : N ≡ Half + Half
unfolding N Half
halves = refl

pub raised-low : (v : ℕ) → v < Half → raised_of v ≡ v + Half
unfolding raised_of
raised-low v h = rw (lt-ltb v Half h) refl

pub raised-high : (v : ℕ) → Half ≤ v → raised_of v ≡ v - Half
unfolding raised_of
raised-high v h = rw (le-ltb v Half h) refl

-- a total and half of the modulus
signed-raised : (v : ℕ) → v < N → signed_of v +ℤ pos Half ≡ pos (raised_of v)
unfolding signed_of
signed-raised v b = elim (lt-or-le v Half) [
  | inl l ↦ rw (lt-ltb v Half l) (ap pos (sym (raised-low v l)))
  | inr g ↦
      rw (le-ltb v Half g)
      (taken_from (N - v) Half
      ∙ sub_up Half (N - v) (few N Half v halves g)
      ∙ ap pos (rest N Half v halves b g ∙ sym (raised-high v g)))
]
  where
    few : (n h v : ℕ) → n ≡ h + h → h ≤ v → n - v ≤ h
    few n h v e g = omega arith

    rest : (n h v : ℕ) → n ≡ h + h → v < n → h ≤ v → h - (n - v) ≡ v - h
    rest n h v e b g = omega arith

pub apart-raised : (a b : ℕ) → a < N → b < N → signed_of b -ℤ signed_of a ≡ sub_ℕ (raised_of b) (raised_of a)
apart-raised a b h g =
    sym (moved-both (signed_of b) (signed_of a) (pos Half))
    ∙ (λ i. signed-raised b g i -ℤ signed-raised a h i)
    ∙ minus_is (raised_of b) (raised_of a)
