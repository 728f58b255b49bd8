-- THE REPORT SAYS WHAT THE FILES COME TO (02, [2]). From the report of no sheet on, file after file, at most 400 of them taken: sheets, counts, refusal numbers, total and
-- extremes are those of the legs of all files taken, in order. Assumes nothing.
use Rattle.std.specs.Prelude.{◌≡◌, ℕ, ◌+◌, ◌^◌, ◌<◌, ◌≤◌, Bool, true, false, cond, ◌&&◌, List, [], ◌∷◌, length, replicate, ◌==◌, nat_le, refl, Option}
use Rattle.std.proofs.Math.Path.{ap}
use Rattle.std.proofs.Common.{◌∙◌, arith, leb-true}
use Rattle.answer.specs.Numbers.{last, stored}
use Rattle.total.specs.declared.Total.{Total}
use Rattle.total.specs.Total.{val}
use Rattle.ledger.specs.Sheet.{refused_class, class_of, refusal_in, function_in, sound, sound_of}
use Rattle.ledger.specs.laws.Refusals.{class-lt}
use Rattle.month.specs.declared.parts.Extreme.{Extreme}
use Rattle.month.specs.declared.parts.Report.{Report}
use Rattle.month.specs.Month.{Leg, leg_at, share_of, one_more, refusals_on, extreme_on, share_on, leg_on, fold, sheet_on, start_of, count_of, refused_of, extreme_of}
use Rattle.month.specs.Files.{File, most_files, month_on, all_legs, sheets_in, Meaning, Each}
use Rattle.month.specs.laws.Legs.{row-sound, each_leg, legs_few}
use Rattle.month.specs.laws.Tally.{Tallied, tallied, counted, counted_at, zero-at, plus-zeros}
use Rattle.month.specs.laws.Sums.{of_limbs, total_on, limbs_total, val_total}
use Rattle.month.specs.laws.Fields.{over_files, sheets_on}

-- ---- legs that passed the row tests have a class, and a number that a row may store
stored-lt : (w : List ℕ) → sound w ≡ true → refusal_in w < 32
unfolding sound_of stored
stored-lt w h = omega (arith, leb-true (refusal_in w) 6 (second (nat_le (function_in w) last) (nat_le (refusal_in w) 6) _ h))
  where
    second : (a b c : Bool) → (a && (b && c)) ≡ true → b ≡ true
    second true true c h = refl
    second true false c h = h
    second false b c h = let z : ◌≡◌ {A = ℕ} 0 1 = cc in absurd (omega arith)

-- ---- what counts, and where
abbrev always : Leg → Bool
always l = true

abbrev class : Leg → ℕ
class l = class_of l.bytes

abbrev is_refused : Leg → Bool
is_refused l = refused_class == class_of l.bytes

abbrev number : Leg → ℕ
number l = refusal_in l.bytes

count_is : (k : ℕ) (ls : List Leg) → counted_at always class k ls ≡ count_of k ls
unfolding count_of
count_is k [] = refl
count_is k (l ∷ ls) = ap (λ (n : ℕ). cond (k == class_of l.bytes) 1 0 + n) (count_is k ls)

all-count : (ls : List Leg) → counted always class ls ≡ length ls
all-count [] = refl
all-count (l ∷ ls) = omega (arith, all-count ls)

refused_is : (q : ℕ) (ls : List Leg) → counted_at is_refused number q ls ≡ refused_of q ls
unfolding refused_of
refused_is q [] = refl
refused_is q (l ∷ ls) = ap (λ (n : ℕ). cond (is_refused l && q == number l) 1 0 + n) (refused_is q ls)

refused_count : (ls : List Leg) → counted is_refused number ls ≡ count_of refused_class ls
unfolding count_of
refused_count [] = refl
refused_count (l ∷ ls) = ap (λ (n : ℕ). cond (is_refused l) 1 0 + n) (refused_count ls)

module _ (fs : List File) (few : sheets_in fs ≤ most_files) where
  small : length (all_legs fs) < 2 ^ 64
  small = omega (arith, legs_few fs)

  counts-fold : (month_on start_of fs).counts ≡ fold (λ (xs : List ℕ) (l : Leg). one_more xs (class l)) (replicate 5 0) (all_legs fs)
  unfolding leg_on share_on share_of sheet_on start_of
  counts-fold = over_files (λ (q : Report). q.counts) (λ (xs : List ℕ) (l : Leg). one_more xs (class l)) (λ q l. refl) (λ q. refl) start_of fs

  refusals-fold : (month_on start_of fs).refusals ≡ fold (λ (xs : List ℕ) (l : Leg). cond (is_refused l) (one_more xs (number l)) xs) (replicate 32 0) (all_legs fs)
  unfolding leg_on share_on share_of sheet_on start_of refusals_on
  refusals-fold = over_files (λ (q : Report). q.refusals) (λ (xs : List ℕ) (l : Leg). cond (is_refused l) (one_more xs (number l)) xs) (λ q l. refl) (λ q. refl) start_of fs

  total_fold : (month_on start_of fs).total ≡ fold total_on (of_limbs 0) (all_legs fs)
  unfolding leg_on share_on share_of sheet_on start_of total_on
  total_fold = over_files (λ (q : Report). q.total) total_on (λ q l. refl) (λ q. refl) start_of fs

  largest-fold : (month_on start_of fs).largest ≡ extreme_of true (all_legs fs)
  unfolding leg_on share_on sheet_on start_of extreme_of
  largest-fold = over_files (λ (q : Report). q.largest) (λ (e : Option Extreme) (l : Leg). extreme_on true e (share_of l)) (λ q l. refl) (λ q. refl) start_of fs

  smallest_fold : (month_on start_of fs).smallest ≡ extreme_of false (all_legs fs)
  unfolding leg_on share_on sheet_on start_of extreme_of
  smallest_fold = over_files (λ (q : Report). q.smallest) (λ (e : Option Extreme) (l : Leg). extreme_on false e (share_of l)) (λ q l. refl) (λ q. refl) start_of fs

  classes : Each (λ (l : Leg). always l ≡ true → class l < 5) (all_legs fs)
  unfolding leg_at
  classes = each_leg (λ (l : Leg). always l ≡ true → class l < 5) (λ n s h i g e. class-lt _ (row-sound s h i g)) fs

  numbers : Each (λ (l : Leg). is_refused l ≡ true → number l < 32) (all_legs fs)
  unfolding leg_at
  numbers = each_leg (λ (l : Leg). is_refused l ≡ true → number l < 32) (λ n s h i g e. stored-lt _ (row-sound s h i g)) fs

  pub counts_tally : Tallied always class 5 (replicate 5 0) (month_on start_of fs).counts (all_legs fs)
  counts_tally = rw counts-fold (tallied always class 5 (replicate 5 0) (all_legs fs) refl classes (omega (arith, small, plus-zeros 5)))

  pub refusals_tally : Tallied is_refused number 32 (replicate 32 0) (month_on start_of fs).refusals (all_legs fs)
  refusals_tally = rw refusals-fold (tallied is_refused number 32 (replicate 32 0) (all_legs fs) refl numbers (omega (arith, small, plus-zeros 32)))

  pub month : Meaning fs (month_on start_of fs)
  unfolding start_of
  month =
      let total = total_fold ∙ limbs_total (all_legs fs) in
      record {
        sheets = sheets_on start_of fs (omega arith) ∙ omega arith;
        counts = λ k h. omega (arith, counts_tally.at k, zero-at 5 k, count_is k (all_legs fs));
        refusals = λ q h. omega (arith, refusals_tally.at q, zero-at 32 q, refused_is q (all_legs fs));
        total = ap (λ (t : Total). val t.limbs) total ∙ val_total (all_legs fs);
        limbs = ap (λ (t : Total). t.limbs) total;
        largest = largest-fold;
        smallest = smallest_fold;
        rows = omega (arith, counts_tally.sum, plus-zeros 5, all-count (all_legs fs));
        refused = omega (arith, refusals_tally.sum, plus-zeros 32, refused_count (all_legs fs), counts_tally.at 4, zero-at 5 4, count_is 4 (all_legs fs));
      }
