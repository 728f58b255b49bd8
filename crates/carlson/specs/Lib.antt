-- What the recipes share: the loop, and the series that closes RD and RJ; then what is proved of them.
pub mod Loop
pub mod Series
pub mod laws
