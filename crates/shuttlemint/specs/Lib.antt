-- What the contracts cite.
pub mod Face
