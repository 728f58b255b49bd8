-- Parts of a text that have one byte e between them: the lines of a text, the fields of a line. Definitions only.
use Rattle.std.specs.Prelude.{ℕ, zero, suc, ◌+◌, min, List, length, take, drop}
use Rattle.hexfloat.specs.Reading.{before}

-- from a place up to the next e, or the end
unfoldable pub part_at : ℕ → List ℕ → ℕ → List ℕ
part_at e s at = take (before e e (drop at s)) (drop at s)

-- where the next part begins: behind that e; one past the end where there is none
unfoldable pub next_of : ℕ → List ℕ → ℕ → ℕ
next_of e s at = min at (length s) + before e e (drop at s) + 1

-- where part j begins
unfoldable pub place_of : ℕ → List ℕ → ℕ → ℕ
place_of e s zero = 0
place_of e s (suc j) = next_of e s (place_of e s j)
