-- What more than one function's proof cites.
mod Iteration
mod Negative
mod LastSums
