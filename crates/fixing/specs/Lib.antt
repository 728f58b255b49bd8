-- What the contracts cite.
pub mod Fixed
