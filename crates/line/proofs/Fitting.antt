-- What a conversion to a narrower number says of a number x, of which it converts y. Assumes nothing.
use Rattle.std.proofs.Common.{◌≡◌, ℕ, ◌<◌, ◌≤◌, true, false, leb, Some, None, Result, Ok, Err, ◌∙◌, arith}
use Rattle.std.specs.Result.{OkIff, result_ok}
use Rattle.std.proofs.lemmas.Option.{same_Some}
use borrow.Author.Tests.{le-leb, lt-leb}

pub fitted : {E : Type 0} (r : Result ℕ E) (x y n k : ℕ) → OkIff r (y < n) y → Some k ≡ result_ok r → (y < n → y ≡ x) → (k ≡ x) × (leb n x ≡ false)
fitted (Ok z) x y n k (below, e) is same =
    let s : y ≡ x = same below in
    (same_Some k z is ∙ e ∙ s, lt-leb n x (omega arith))
fitted (Err d) x y n k above is same = cc

pub unfitted : {E : Type 0} (r : Result ℕ E) (x y n : ℕ) → OkIff r (y < n) y → None ≡ result_ok r → (n ≤ y → n ≤ x) → leb n x ≡ true
unfitted (Ok z) x y n (below, e) is same = cc
unfitted (Err d) x y n above is same = le-leb n x (same (omega arith))
