-- The extreme of the legs is the earliest of those beyond which no other lies. Assumes nothing.
use Rattle.std.specs.Prelude.{◌≡◌, ℕ, Bool, true, false, cond, T, List, [], ◌∷◌, ◌++◌, ◌==◌, nat_eq, nat_lt, Float, Option, None, not}
use Rattle.std.proofs.Math.Path.{refl}
use Rattle.std.proofs.Common.{sym, ap, ◌∙◌, subst, inl, inr, append_assoc, append-nil, arith, eq-eqb, eqb-true}
use Rattle.std.proofs.lemmas.Bool.{false≢true}
use Rattle.std.specs.Float.{nan, inf, fin}
use Rattle.std.specs.Float.Ieee.Scale.{finite}
use Rattle.ledger.specs.Sheet.{Row, function_in, refusal_in, first_in, kind_of, class_of, finite_class}
use Rattle.month.specs.declared.parts.Extreme.{Extreme}
use Rattle.month.specs.Month.{Leg, pattern_in, share_of, beyond, stays, extreme_on, fold, extreme_of}
use Rattle.month.specs.Files.{Each, Finite, First, Shown, shows}
use Rattle.month.specs.laws.Lists.{each_append, each_map}
use Rattle.month.specs.laws.Order.{Number, beyond-beyond, not_then_beyond, beyond-not, not_itself}

-- ---- a finite first answer is a number
pub finite_number : (w : Row) → class_of w ≡ finite_class → Number (pattern_in w)
unfolding class_of first_in pattern_in kind_of
finite_number w = go (function_in w == 0) (nat_lt 0 (refusal_in w)) (first_in w)
  where
    go : (p q : Bool) (x : Float) → cond p 0 (cond q 4 (kind_of x)) ≡ 1 → T (finite x)
    go true q x h = absurd (omega arith)
    go false true x h = absurd (omega arith)
    go false false nan h = absurd (omega arith)
    go false false (inf true) h = absurd (omega arith)
    go false false (inf false) h = absurd (omega arith)
    go false false (fin s m e) h = tt

-- ---- one leg more
module _ (top : Bool) (e : Option Extreme) (l : Leg) where
  other : nat_eq (class_of l.bytes) finite_class ≡ false → extreme_on top e (share_of l) ≡ e
  unfolding extreme_on share_of
  other c = rw c refl

  module _ (c : nat_eq (class_of l.bytes) finite_class ≡ true) where
    opens : e ≡ None → extreme_on top e (share_of l) ≡ shows l
    unfolding extreme_on share_of
    opens h = rw (c, h) refl

    holds : (b : Bool) → stays top e (pattern_in l.bytes) ≡ b → extreme_on top e (share_of l) ≡ cond b e (shows l)
    unfolding extreme_on share_of
    holds b h = rw (c, h) refl

-- what stays, with a leg after the others that is not strictly beyond it
keep : (top : Bool) (ls : List Leg) (e : Option Extreme) (l : Leg) (f : First top ls e) → (Finite l → beyond top (pattern_in f.leg.bytes) (pattern_in l.bytes) ≡ false) → First top (ls ++ (l ∷ [])) e
keep top ls e l f h = record {
  before = f.before;
  leg = f.leg;
  after = f.after ++ (l ∷ []);
  split = ap (λ (z : List Leg). z ++ (l ∷ [])) f.split ∙ append_assoc f.before (f.leg ∷ f.after) (l ∷ []);
  finite = f.finite;
  is = f.is;
  past = f.past;
  kept = each_append (λ (m : Leg). Finite m → beyond top (pattern_in f.leg.bytes) (pattern_in m.bytes) ≡ false) f.after (l ∷ []) f.kept (h, tt);
}

-- what takes its place is strictly beyond all before it
replace : (top : Bool) (ls : List Leg) (e : Option Extreme) (l : Leg) (f : First top ls e) → Finite l → beyond top (pattern_in f.leg.bytes) (pattern_in l.bytes) ≡ true
    → Each (λ (m : Leg). Finite m → beyond top (pattern_in m.bytes) (pattern_in l.bytes) ≡ true) ls
replace top ls e l f c b =
    subst (Each Past) (sym f.split)
    (each_append Past f.before (f.leg ∷ f.after)
    (each_map (λ (m : Leg). Finite m → beyond top (pattern_in m.bytes) p ≡ true) Past (λ m h g. beyond-beyond top (pattern_in m.bytes) p q (finite_number m.bytes g) np nq (h g) b) f.before f.past)
    ((λ g. b), each_map (λ (m : Leg). Finite m → beyond top p (pattern_in m.bytes) ≡ false) Past (λ m h g. not_then_beyond top (pattern_in m.bytes) p q (finite_number m.bytes g) np nq (h g) b) f.after f.kept))
  where
    p : ℕ
    p = pattern_in f.leg.bytes

    q : ℕ
    q = pattern_in l.bytes

    np : Number p
    np = finite_number f.leg.bytes f.finite

    nq : Number q
    nq = finite_number l.bytes c

    Past : Leg → Type 0
    Past m = Finite m → beyond top (pattern_in m.bytes) q ≡ true

shown_next : (top : Bool) (ls : List Leg) (e : Option Extreme) (l : Leg) → Shown top ls e → Shown top (ls ++ (l ∷ [])) (extreme_on top e (share_of l))
shown_next top ls e l s = go (class_of l.bytes == finite_class) refl s
  where
    go : (b : Bool) → (class_of l.bytes == finite_class) ≡ b → Shown top ls e → Shown top (ls ++ (l ∷ [])) (extreme_on top e (share_of l))
    go false c (inl n) =
        rw (other top e l c)
        (inl (n.0, each_append (λ (m : Leg). Finite m → ⊥) ls (l ∷ []) n.1 ((λ f. false≢true (sym c ∙ eq-eqb _ finite_class f)), tt)))
    go false c (inr f) = rw (other top e l c) (inr (keep top ls e l f (λ g. absurd (false≢true (sym c ∙ eq-eqb _ finite_class g)))))
    go true c (inl n) =
        inr
        (record {
          before = ls;
          leg = l;
          after = [];
          split = refl;
          finite = eqb-true _ finite_class c;
          is = opens top e l c n.0;
          past = each_map (λ (m : Leg). Finite m → ⊥) (λ (m : Leg). Finite m → beyond top (pattern_in m.bytes) (pattern_in l.bytes) ≡ true) (λ m h g. absurd (h g)) ls n.1;
          kept = tt;
        })
    go true c (inr f) = by (beyond top (pattern_in f.leg.bytes) (pattern_in l.bytes)) refl
      where
        at : (b : Bool) → beyond top (pattern_in f.leg.bytes) (pattern_in l.bytes) ≡ b → stays top e (pattern_in l.bytes) ≡ not b
        at b h = ap (λ (x : Option Extreme). stays top x (pattern_in l.bytes)) f.is ∙ ap not h

        by : (b : Bool) → beyond top (pattern_in f.leg.bytes) (pattern_in l.bytes) ≡ b → Shown top (ls ++ (l ∷ [])) (extreme_on top e (share_of l))
        by false h = rw (holds top e l c true (at false h)) (inr (keep top ls e l f (λ g. h)))
        by true h =
            inr
            (record {
              before = ls;
              leg = l;
              after = [];
              split = refl;
              finite = eqb-true _ finite_class c;
              is = holds top e l c false (at true h);
              past = replace top ls e l f (eqb-true _ finite_class c) h;
              kept = tt;
            })

shown_on : (top : Bool) (ls : List Leg) (e : Option Extreme) (ms : List Leg) → Shown top ls e → Shown top (ls ++ ms) (fold (λ (x : Option Extreme) (l : Leg). extreme_on top x (share_of l)) e ms)
unfolding fold
shown_on top ls e [] s = rw (append-nil ls) s
shown_on top ls e (m ∷ ms) s =
    let x : Option Extreme = extreme_on top e (share_of m) in
    subst (λ (z : List Leg). Shown top z (fold (λ (x : Option Extreme) (l : Leg). extreme_on top x (share_of l)) x ms)) (append_assoc ls (m ∷ []) ms)
    (shown_on top (ls ++ (m ∷ [])) x ms (shown_next top ls e m s))

pub shown : (top : Bool) (ls : List Leg) → Shown top ls (extreme_of top ls)
unfolding extreme_of
shown top ls = shown_on top [] None ls (inl (refl, tt))

-- nothing lies beyond it
pub nothing_beyond : (top : Bool) (ls : List Leg) (e : Option Extreme) (f : First top ls e) → Each (λ (l : Leg). Finite l → beyond top (pattern_in f.leg.bytes) (pattern_in l.bytes) ≡ false) ls
nothing_beyond top ls e f =
    subst (Each Kept) (sym f.split)
    (each_append Kept f.before (f.leg ∷ f.after)
    (each_map (λ (m : Leg). Finite m → beyond top (pattern_in m.bytes) p ≡ true) Kept (λ m h g. beyond-not top (pattern_in m.bytes) p (finite_number m.bytes g) np (h g)) f.before f.past)
    ((λ g. not_itself top p np), f.kept))
  where
    p : ℕ
    p = pattern_in f.leg.bytes

    np : Number p
    np = finite_number f.leg.bytes f.finite

    Kept : Leg → Type 0
    Kept m = Finite m → beyond top p (pattern_in m.bytes) ≡ false
