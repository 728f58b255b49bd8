-- One number more at each turn; `Written` says what lies where.
use Rattle.ledger.proofs.Words.{Written}
use Rattle.ledger.proofs.bytes.put_words.Given as goal

abbrev pub invariant-loop-i : goal.invariant-loop-i
invariant-loop-i l = Written 8 l.initial.s l.xs l.i l.s
