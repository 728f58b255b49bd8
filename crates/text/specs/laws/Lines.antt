-- Lines one after the other, of at most so many bytes each: what holds after the first i of them, and how one more keeps it so. Assumes nothing.
use Rattle.std.specs.Prelude.{◌≡◌, refl, ℕ, suc, ◌+◌, ◌*◌, ◌≤◌, List, [], ◌++◌, length}
use Rattle.std.proofs.Common.{◌∙◌, mul-suc, add-one, arith}
use Rattle.text.specs.Writing.{Put}
use Rattle.text.specs.laws.Writing.{put_none, put_both, put_length}

-- the buffer old, with the text x from place a to place b: at most i lines of this size
pub record Stands (old new : List ℕ) (a b size i : ℕ) (x : List ℕ) : Type 0 where
  pub text : Put old new a b x
  pub short : b ≤ a + size * i
  pub same : length new ≡ length old

module _ (line lines : ℕ → List ℕ) (old : List ℕ) (a size : ℕ) where
  pub none_yet : lines 0 ≡ [] → Stands old old a a size 0 (lines 0)
  none_yet e = record { text = rw e (put_none old a); short = omega arith; same = refl }

  pub one_more_lem : (i : ℕ) {mid new : List ℕ} {b c : ℕ} → lines (suc i) ≡ lines i ++ line i → Stands old mid a b size i (lines i) → Put mid new b c (line i) → c ≤ b + size
      → a + size * suc i ≤ length old → Stands old new a c size (i + 1) (lines (i + 1))
  one_more_lem i {mid} {new} {b} {c} e s p h room =
      let k : size * suc i ≡ size * i + size = mul-suc size i in
      let t = s.short in
      let l = s.same in
      rw add-one (record {
        text = rw e (put_both old a (lines i) (line i) (omega arith) s.text p);
        short = omega arith;
        same = put_length mid b (line i) p (omega arith) ∙ l;
      })
