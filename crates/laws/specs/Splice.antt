-- A part of a list written over: what a store into a lent buffer leaves. Definitions only.
use Rattle.std.specs.Prelude.{ℕ, ◌+◌, List, ◌++◌, length, take, drop}

-- s with x from place a on
abbrev pub splice : List ℕ → ℕ → List ℕ → List ℕ
splice s a x = take a s ++ (x ++ drop (a + length x) s)
