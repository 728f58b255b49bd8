-- No part of the memory is longer than the memory. Assumes nothing.
use Rattle.std.specs.Prelude.{◌≡◌, refl, ℕ, ◌≤◌, min, Bool, true, false, List, length, take, drop, ltb}
use Rattle.std.proofs.Common.{sym, ◌∙◌, arith, drop_of_length-le, take_all, ltb-true, ltb-false}

module _ (m : List ℕ) (size n : ℕ) (least : n ≡ min size (length m)) where
  pub part_taken : take n m ≡ take size m
  part_taken = by (ltb size (length m)) refl where
    by : (t : Bool) → ltb size (length m) ≡ t → take n m ≡ take size m
    by true h = let e : n ≡ size = omega (arith, ltb-true size (length m) h) in rw e refl
    by false h =
        let long : length m ≤ size = ltb-false size (length m) h in
        take_all n m (omega arith) ∙ sym (take_all size m long)

  pub part_left : drop n m ≡ drop size m
  part_left = by (ltb size (length m)) refl where
    by : (t : Bool) → ltb size (length m) ≡ t → drop n m ≡ drop size m
    by true h = let e : n ≡ size = omega (arith, ltb-true size (length m) h) in rw e refl
    by false h =
        let long : length m ≤ size = ltb-false size (length m) h in
        let all : length m ≤ n = omega arith in
        drop_of_length-le m all ∙ sym (drop_of_length-le m long)
