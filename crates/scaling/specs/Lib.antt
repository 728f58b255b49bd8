-- What a power of two does. Where a run loses no digits to the ends of the range (Clear and its like); that a power of four goes through operation, root, recipe and function, bit for bit (laws). RF as it was with another mean (Before), ellipeinc before it scaled (EllipeincBefore), RJ and ellippi as they were (Kept), and where that made no difference. Where RD loses no term (RdTerms).
pub mod Clear
pub mod ClearRuns
pub mod RfClear
pub mod RdClear
pub mod EllipeincClear
pub mod EllipfClear
pub mod Moderate
pub mod Before
pub mod EllipeincBefore
pub mod Kept
pub mod RdTerms
pub mod laws
