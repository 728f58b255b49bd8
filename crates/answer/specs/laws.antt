-- Of answers: sound ones, the tests that settle them, by std's methods too, which a function may give, those of an odd function.
pub mod Sound
pub mod Tests
pub mod Floats
pub mod Fair
