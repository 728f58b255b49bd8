-- The limbs from a place on, lent while those below it stand: a carry goes up them. Assumes nothing.
use Rattle.std.proofs.Common.{◌≡◌, ℕ, ◌+◌, ◌-◌, ◌*◌, ◌<◌, ◌≤◌, Bool, List, ◌++◌, length, get_or, take, drop, set, sym, ap, ◌∙◌, subst, arith, length-set, length-take-le, length-drop, take-append-drop, append-nil, take_all}
use Rattle.std.proofs.lemmas.List.{set-append_right, get_or-append_right, drop_all}
use borrow.Rule.Slice.PartMut.{put_mid}
use Rattle.total.specs.Total.{val}
use Rattle.total.specs.Carry.{W, Balance}
use Rattle.total.specs.laws.Limbs.{Fit}
use Rattle.total.proofs.Carrying.{next, fit_set}

-- all limbs: those below the place, and the lent part
abbrev pub joined : ℕ → List ℕ → List ℕ → List ℕ
joined at l part = take at l ++ part

module _ (l : List ℕ) (at : ℕ) (h : at ≤ length l) where
  pub joined-start : joined at l (take (length l - at) (drop at l)) ≡ l
  joined-start = ap (λ (p : List ℕ). take at l ++ p) (take_all (length l - at) (drop at l) (omega (arith, length-drop at l))) ∙ take-append-drop at l

  pub part-length : length (take (length l - at) (drop at l)) ≡ length l - at
  part-length = ap length (take_all (length l - at) (drop at l) (omega (arith, length-drop at l))) ∙ length-drop at l

  pub joined-end : (part : List ℕ) → put_mid at (length l - at) l part ≡ joined at l part
  joined-end part = ap (λ (p : List ℕ). take at l ++ (part ++ p)) (drop_all (length l - at) (drop at l) (omega (arith, length-drop at l))) ∙ ap (λ (p : List ℕ). take at l ++ p) (append-nil part)

  joined-set : (part : List ℕ) (i z : ℕ) → joined at l (set part i z) ≡ set (joined at l part) (at + i) z
  joined-set part i z =
      let e : at + i - at ≡ i = omega arith in
      ap (λ (n : ℕ). take at l ++ set part n z) (sym e) ∙ sym (set-append_right (take at l) part at (at + i) z (length-take-le at l h) (omega arith))

  joined-get : (part : List ℕ) (i : ℕ) → get_or (joined at l part) (at + i) 0 ≡ get_or part i 0
  joined-get part i =
      let e : at + i - at ≡ i = omega arith in
      get_or-append_right (take at l) part at (at + i) 0 (length-take-le at l h) (omega arith) ∙ ap (λ (n : ℕ). get_or part n 0) e

  module _ (part : List ℕ) (i z : ℕ) where
    pub same-length : length (joined at l part) ≡ 34 → length (joined at l (set part i z)) ≡ 34
    same-length e = ap length (joined-set part i z) ∙ length-set (joined at l part) (at + i) z ∙ e

    pub still_fit : Fit (joined at l part) → z < 0x1_0000_0000_0000_0000 → Fit (joined at l (set part i z))
    still_fit f b = subst Fit (sym (joined-set part i z)) (fit_set (joined at l part) (at + i) z f b)

    -- a step at limb i of the part
    pub carried : (away : Bool) (t k y c : ℕ) → at + i < length (joined at l part) → Balance away z (get_or part i 0) y (0x1_0000_0000_0000_0000 * c)
        → Balance away (val (joined at l part)) t k (W (at + i) * y) → Balance away (val (joined at l (set part i z))) t k (W (at + (i + 1)) * c)
    carried away t k y c n e b =
        let j : at + i + 1 ≡ at + (i + 1) = omega arith in
        subst (λ (m : ℕ). Balance away (val (joined at l (set part i z))) t k (W m * c)) j
        (subst (λ (m : List ℕ). Balance away (val m) t k (W (at + i + 1) * c)) (sym (joined-set part i z))
        (next away (joined at l part) t k (at + i) y z c n (subst (λ (x : ℕ). Balance away z x y (0x1_0000_0000_0000_0000 * c)) (sym (joined-get part i)) e) b))
