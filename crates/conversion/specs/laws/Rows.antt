-- A row with other times says the same of all else, and there and back is the row: one argument for both ways. Assumes nothing.
use Rattle.std.specs.Prelude.{◌≡◌, Bool, not, List, [], ◌∷◌, ℕ, ◌+◌, ◌*◌, ◌/◌, ◌%◌, ◌^◌, ◌≤◌, ◌<◌, eqb, length, get_or}
use Rattle.std.proofs.Math.Path.{refl, ap, sym}
use Rattle.std.proofs.Common.{◌∙◌}
use Rattle.std.proofs.Math.Bool.{true, false, cond}
use native.Mathlib.Omega.{arith}
use Rattle.ledger.specs.Bytes.{bytes, number}
use Rattle.ledger.specs.Sheet.{Row, function_in, refusal_in, times_in, first_in, sound_of, sound, class_of, value_of}
use Rattle.laws.specs.laws.Splices.{length-splice}
use Rattle.ledger.specs.laws.Fields.{length-bytes, number-bytes}
use Rattle.conversion.specs.Conversion.{once, driven, turned}

-- what holds of every row of at least four bytes
four : (P : Row → Type 0) → ((a b c d : ℕ) (t : List ℕ) → P (a ∷ b ∷ c ∷ d ∷ t)) → (w : Row) → 4 ≤ length w → P w
four P f [] h = absurd (let z : ⊥ = omega arith in z)
four P f (a ∷ []) h = absurd (let z : ⊥ = omega arith in z)
four P f (a ∷ b ∷ []) h = absurd (let z : ⊥ = omega arith in z)
four P f (a ∷ b ∷ c ∷ []) h = absurd (let z : ⊥ = omega arith in z)
four P f (a ∷ b ∷ c ∷ d ∷ t) h = f a b c d t

module _ (k : ℕ) (w : Row) (h : length w ≡ 48) where
  long : 4 ≤ length w
  long = omega arith

  pub length-driven : length (driven k w) ≡ 48
  unfolding driven
  length-driven = length-splice w 2 (bytes 2 k) (omega (arith, length-bytes 2 k)) ∙ h

  pub function_driven : function_in (driven k w) ≡ function_in w
  unfolding function_in driven bytes
  function_driven = four (λ (w : Row). function_in (driven k w) ≡ function_in w) (λ a b c d t. refl) w long

  pub refusal_driven : refusal_in (driven k w) ≡ refusal_in w
  unfolding refusal_in driven bytes
  refusal_driven = four (λ (w : Row). refusal_in (driven k w) ≡ refusal_in w) (λ a b c d t. refl) w long

  pub first-driven : first_in (driven k w) ≡ first_in w
  unfolding first_in driven bytes
  first-driven = four (λ (w : Row). first_in (driven k w) ≡ first_in w) (λ a b c d t. refl) w long

  pub times-driven : k < 256 ^ 2 → times_in (driven k w) ≡ k
  unfolding times_in driven bytes
  times-driven g = four (λ (w : Row). times_in (driven k w) ≡ number (bytes 2 k)) (λ a b c d t. refl) w long ∙ number-bytes 2 k g

  pub driven_twice : (j : ℕ) → driven j (driven k w) ≡ driven j w
  unfolding driven bytes
  driven_twice j = four (λ (w : Row). driven j (driven k w) ≡ driven j w) (λ a b c d t. refl) w long

  -- so its class, its soundness and its first answer are what they were
  pub class-driven : class_of (driven k w) ≡ class_of w
  unfolding class_of
  class-driven = rw (function_driven, refusal_driven, first-driven)

  pub sound-driven : sound (driven k w) ≡ sound w
  unfolding sound_of
  sound-driven = rw (function_driven, refusal_driven, first-driven)

  pub value-driven : value_of (driven k w) ≡ value_of w
  unfolding value_of
  value-driven = rw (class-driven, first-driven)

  pub once-driven : once (driven k w) ≡ once w
  unfolding once
  once-driven = rw function_driven

-- its own times put in leave it as it is
own-bytes : (a b c d : ℕ) (t : List ℕ) → c < 256 → d < 256 → let w = a ∷ b ∷ c ∷ d ∷ t in driven (times_in w) w ≡ w
unfolding driven bytes times_in number
own-bytes a b c d t l m =
    let x : (c + 256 * (d + 256 * 0)) % 256 ≡ c = omega arith in
    let z : (c + 256 * (d + 256 * 0)) / 256 ≡ d = omega arith in
    let y : d % 256 ≡ d = omega arith in
    rw (x, z, y)

pub driven-same : (w : Row) → length w ≡ 48 → ((i : ℕ) → get_or w i 0 < 256) → driven (times_in w) w ≡ w
driven-same w h f = four (λ (w : Row). ((i : ℕ) → get_or w i 0 < 256) → driven (times_in w) w ≡ w) (λ a b c d t f. own-bytes a b c d t (f 2) (f 3)) w (omega arith) f

-- also of numbers that are no bytes, where the times are small
small_same : (w : Row) → length w ≡ 48 → times_in w < 256 → driven (times_in w) w ≡ w
unfolding times_in number
small_same w h g = four (λ (w : Row). times_in w < 256 → driven (times_in w) w ≡ w) (λ a b c d t g. own-bytes a b c d t (omega arith) (omega arith)) w (omega arith) g

pub once_small : (w : Row) → once w < 256
unfolding once
once_small w = go (eqb (function_in w) 0)
  where
    go : (t : Bool) → cond t 0 1 < 256
    go true = omega arith
    go false = omega arith

-- ---- a row turned

-- the times that a row holds where nothing is lost on the way: none in a sheet that says 1, `once` in one that says 3
abbrev pub held : Bool → Row → ℕ
held forth w = cond forth 0 (once w)

module _ (forth : Bool) (w : Row) (h : length w ≡ 48) where
  pub length-turned : length (turned forth w) ≡ 48
  unfolding turned
  length-turned = length-driven (cond forth (once w) 0) w h

  pub class-turned : class_of (turned forth w) ≡ class_of w
  unfolding turned
  class-turned = class-driven (cond forth (once w) 0) w h

  pub sound-turned : sound (turned forth w) ≡ sound w
  unfolding turned
  sound-turned = sound-driven (cond forth (once w) 0) w h

  pub value-turned : value_of (turned forth w) ≡ value_of w
  unfolding turned
  value-turned = value-driven (cond forth (once w) 0) w h

  -- afterwards it holds what a row of such a sheet does
  pub times-turned : times_in (turned forth w) ≡ held (not forth) (turned forth w)
  unfolding turned
  times-turned = times-driven (cond forth (once w) 0) w h (small forth) ∙ go forth
    where
      small : (f : Bool) → cond f (once w) 0 < 256 ^ 2
      small true = omega (arith, once_small w)
      small false = omega arith

      go : (f : Bool) → cond f (once w) 0 ≡ held (not f) (driven (cond f (once w) 0) w)
      go true = sym (once-driven (once w) w h)
      go false = refl

  -- there and back
  pub turned_back : times_in w ≡ held forth w → turned (not forth) (turned forth w) ≡ w
  unfolding turned
  turned_back e =
      ap (λ (n : ℕ). driven (cond (not forth) n 0) (driven (cond forth (once w) 0) w)) (once-driven (cond forth (once w) 0) w h)
      ∙ driven_twice (cond forth (once w) 0) w h (cond (not forth) (once w) 0)
      ∙ ap (λ (n : ℕ). driven n w) (go forth ∙ sym e)
      ∙ small_same w h (rw e (small forth))
    where
      go : (f : Bool) → cond (not f) (once w) 0 ≡ cond f 0 (once w)
      go true = refl
      go false = refl

      small : (f : Bool) → cond f 0 (once w) < 256
      small true = omega arith
      small false = once_small w
