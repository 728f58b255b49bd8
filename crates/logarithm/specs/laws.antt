-- The denominators are above 0, x = 2^k f for one k alone, and where there is an answer.
pub mod Places
