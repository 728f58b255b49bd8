-- A row's class and its number: none is 5, and no class has a greater. Assumes nothing.
use Rattle.std.specs.Prelude.{◌≡◌, Bool, true, false, cond, List, ℕ, ◌≤◌, ltb, eqb, Float}
use Rattle.std.specs.Float.{nan, inf, fin}
use Rattle.std.proofs.Common.{arith}
use Rattle.ledger.specs.Sheet.{function_in, refusal_in, first_in, kind_of, class_of}
use Rattle.ledger.specs.Class.{class_at, class_number}
use Rattle.ledger.specs.Calls.{row_in, row_refusal}
use Rattle.ledger.specs.laws.Classes.{numbered}
use Rattle.inspection.specs.Rows.{class_in}

kind_le : (x : Float) → kind_of x ≤ 5
unfolding kind_of
kind_le nan = omega arith
kind_le (inf true) = omega arith
kind_le (inf false) = omega arith
kind_le (fin s m e) = omega arith

pub class_le : (s : List ℕ) (i : ℕ) → class_in s i ≤ 5
unfolding class_in class_of
class_le s i = go (eqb (row_refusal s i) 0) (eqb (function_in (row_in s i)) 0) (ltb 0 (refusal_in (row_in s i))) (kind_of (first_in (row_in s i))) (kind_le (first_in (row_in s i)))
  where
    go : (p q r : Bool) (k : ℕ) → k ≤ 5 → cond p (cond q 0 (cond r 4 k)) 5 ≤ 5
    go true true r k h = omega arith
    go true false true k h = omega arith
    go true false false k h = h
    go false q r k h = omega arith

pub class_known : (s : List ℕ) (i : ℕ) → class_number (class_at (class_in s i)) ≡ class_in s i
class_known s i = numbered (class_in s i) (class_le s i)
