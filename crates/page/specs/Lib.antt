-- What the contracts cite.
pub mod Page
