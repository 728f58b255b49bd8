-- From old sheets and back: what sheets that say 1 are, what is shown of the two ways, and laws of any sheet; the rest of why is in proofs/.
pub mod OldSheets
pub mod ForthAndBack
pub mod laws
