-- The line ends are the bytes that are 10. Assumes nothing.
use mathlib.Core.Path.{◌≡◌, refl, sym, ap}
use Prim.Native.Nat.{ℕ}
use native.Mathlib.Omega.{arith}
use mathlib.Core.Bool.{cond}
use mathlib.Core.List.{List}
use lib.Dec.{eqb}
use Rattle.std.specs.Prelude.{count_by}
use Rattle.std.proofs.lemmas.List.Recursion.{is_count_by}
use Rattle.line.specs.Line.{line_ends}

pub ends_counted : (s : List ℕ) → count_by (λ b. eqb b 10) s ≡ line_ends s
unfolding line_ends
ends_counted s = sym (is_count_by line_ends (λ b. eqb b 10) refl (λ b bs. ap (λ (n : ℕ). cond (eqb b 10) n (line_ends bs)) (omega arith)) s)
