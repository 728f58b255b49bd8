-- Parts of a text (Parts), and what the fields of a row's line say (Fields); what is proved of that (laws).
pub mod Parts
pub mod Fields
pub mod laws
