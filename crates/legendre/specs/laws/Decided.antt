-- Down the tests of `by_domain` and of `below_one_of`: what they are where one holds. Assumes nothing.
use Rattle.std.specs.Prelude.{◌≡◌, MatchOption, Option, Some, None, ℕ, ◌<◌, Float, Result, Err}
use Rattle.std.specs.Option.{option_map_or}
use Rattle.std.proofs.Math.Path.{refl, sym, ap, subst, ◌∙◌}
use Rattle.std.proofs.Math.Bool.{true, false}
use Rattle.laws.specs.Arithmetic.{◌⊖◌, ◌<·◌, ◌=·◌, ◌≠·◌, +0, -∞, 1·0}
use Rattle.laws.specs.Ladder.{held, passed}
use Rattle.root.specs.Root.{root_of}
use Rattle.answer.specs.declared.Answer.{Answer}
use Rattle.answer.specs.declared.Refusal.{Refusal}
use Rattle.answer.specs.declared.Refusal.TheVariants.{NotANumber, AboveOne}
use Rattle.legendre.specs.Domain.{by_domain, chosen_of, Decides, below_one_of}
use Rattle.legendre.specs.declared.domain.Domain.{Domain}
use Rattle.pieces.specs.Piece.{piece_of, centre_of}
use Rattle.pieces.specs.laws.Ten.{ten_pieces}

module _ (m : Float) (one minusInfinity negative belowOne : Result Answer Refusal) where
  pub at-nan : m ≠· m ≡ true → Err NotANumber ≡ by_domain m one minusInfinity negative belowOne
  unfolding by_domain
  at-nan h = held _ _ h refl

  pub over : m ≠· m ≡ false → 1·0 <· m ≡ true → Err AboveOne ≡ by_domain m one minusInfinity negative belowOne
  unfolding by_domain
  over a h = passed _ _ a (held _ _ h refl)

  pub at_one : m ≠· m ≡ false → 1·0 <· m ≡ false → m =· 1·0 ≡ true → one ≡ by_domain m one minusInfinity negative belowOne
  unfolding by_domain
  at_one a b h = passed _ _ a (passed _ _ b (held _ _ h refl))

  pub at_minus_infinity : m ≠· m ≡ false → 1·0 <· m ≡ false → m =· 1·0 ≡ false → m =· -∞ ≡ true → minusInfinity ≡ by_domain m one minusInfinity negative belowOne
  unfolding by_domain
  at_minus_infinity a b c h = passed _ _ a (passed _ _ b (passed _ _ c (held _ _ h refl)))

  pub where_negative : (r : Result Answer Refusal) → m ≠· m ≡ false → 1·0 <· m ≡ false → m =· 1·0 ≡ false → m =· -∞ ≡ false → m <· +0 ≡ true → r ≡ negative → r ≡ by_domain m one minusInfinity negative belowOne
  unfolding by_domain
  where_negative r a b c d h e = passed _ _ a (passed _ _ b (passed _ _ c (passed _ _ d (held _ _ h e))))

  pub below_one : (r : Result Answer Refusal) → m ≠· m ≡ false → 1·0 <· m ≡ false → m =· 1·0 ≡ false → m =· -∞ ≡ false → m <· +0 ≡ false → r ≡ belowOne → r ≡ by_domain m one minusInfinity negative belowOne
  unfolding by_domain
  below_one r a b c d h e = passed _ _ a (passed _ _ b (passed _ _ c (passed _ _ d (passed _ _ h e))))

-- where m lies is known
pub chosen : (m : Float) {d p : Domain} (a b c e : Result Answer Refusal) {r : Result Answer Refusal} → Decides m d → d ≡ p → r ≡ chosen_of p a b c e → r ≡ by_domain m a b c e
chosen m a b c e k q h = h ∙ sym (ap (λ (d : Domain). chosen_of d a b c e) q) ∙ k a b c e

module _ {A : Type 0} (byPiece : ℕ → Float → A) (byMean : Float → A) (m : Float) where
  pub on_piece : {i : ℕ} {c : Float} {r : A} → Some i ≡ piece_of m → c ≡ centre_of i → r ≡ byPiece i (m ⊖ c) → r ≡ below_one_of byPiece byMean m
  unfolding below_one_of
  on_piece p q e = rw (← p, ← q) e

  -- what `below_one` promises of two steps
  pub chosen_below : (P : ℕ → Type 0) (Q : Type 0) {r : A} → ((i : ℕ) → P i → r ≡ byPiece i (m ⊖ centre_of i)) → (Q → r ≡ byMean (root_of (1·0 ⊖ m))) → MatchOption (piece_of m) Q P → r ≡ below_one_of byPiece byMean m
  unfolding below_one_of
  chosen_below P Q {r = r} p q h = go (piece_of m) h
    where
      go : (o : Option ℕ) → MatchOption o Q P → r ≡ option_map_or (λ i. byPiece i (m ⊖ centre_of i)) o (byMean (root_of (1·0 ⊖ m)))
      go (Some i) h = p i h
      go None h = q h

  pub by_mean : {y : Float} {r : A} → None ≡ piece_of m → y ≡ root_of (1·0 ⊖ m) → r ≡ byMean y → r ≡ below_one_of byPiece byMean m
  unfolding below_one_of
  by_mean p q e = rw (← p, ← q) e

  -- what holds of both holds
  pub below : (P : A → Type 0) → ((i : ℕ) → Some i ≡ piece_of m → i < 10 → P (byPiece i (m ⊖ centre_of i))) → P (byMean (root_of (1·0 ⊖ m))) → P (below_one_of byPiece byMean m)
  below P p q = go (piece_of m) refl
    where
      go : (o : Option ℕ) → o ≡ piece_of m → P (below_one_of byPiece byMean m)
      go (Some i) e = subst P (on_piece e refl refl) (p i e (ten_pieces m i e))
      go None e = subst P (by_mean e refl refl) q
