-- What the contracts cite (Answer, Settle, Numbers), what every answer is (Sound), and what is proved of them (laws).
pub mod Answer
pub mod Settle
pub mod Numbers
pub mod Sound
pub mod laws
