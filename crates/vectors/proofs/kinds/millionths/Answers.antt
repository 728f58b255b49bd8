-- Between -1 and 2^64 a float is in range to be cut to a u64.
use Rattle.std.proofs.Common.{T, sym, subst}
use lib.Ieee.{of_bits, neg}
use Rattle.vectors.proofs.kinds.millionths.Goals as goal

pub truncating_f64_to_u64-requires : goal.truncating_f64_to_u64-requires
unfolding of_bits neg
truncating_f64_to_u64-requires c = record { lower_bound = subst T (sym c.if-t.true) tt; upper_bound = subst T (sym c.if-t-2.true) tt }
