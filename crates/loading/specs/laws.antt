-- A file that was read, or was not (Loads), and text that was put in a buffer and sent (Sent).
pub mod Loads
pub mod Sent
