-- The old row, then the counts.
use Rattle.std.proofs.Common.{sym, ap, ◌∙◌}
use Rattle.ledger.specs.Sheet.{sound}
use Rattle.ledger.specs.laws.Refusals.{row_room}
use Rattle.ledger.proofs.Tested.{damaged-row, damaged-counts}
use Rattle.ledger.proofs.checks.is_damaged.Goals as goal

pub row_in-requires : goal.row_in-requires
row_in-requires c = row_room c.args.s.now c.requires.0 c.args.row c.requires.1

pub returns-then-not-is_sound : goal.returns-then-not-is_sound
returns-then-not-is_sound c =
    let a = c.args in
    damaged-row a.s.now a.row (ap sound (sym c.row_in.ensures) ∙ sym c.is_sound.ensures ∙ c.if-not-is_sound.true)

pub is_miscounted-requires : goal.is_miscounted-requires
is_miscounted-requires c =
    (c.requires.0, c.requires.1, ap sound (sym c.row_in.ensures) ∙ sym c.is_sound.ensures ∙ c.if-not-is_sound.false)

pub returns : goal.returns
returns c =
    let a = c.args in
    c.is_miscounted.ensures ∙ damaged-counts a.s.now a.row (ap sound (sym c.row_in.ensures) ∙ sym c.is_sound.ensures ∙ c.if-not-is_sound.false)
