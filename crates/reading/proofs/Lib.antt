-- Line ends (EndByEnd), the memory that a count asks for (Lending), and refusals by number (Others).
mod EndByEnd
mod Lending
mod Others
