-- The function and the times that a line says fit a row (Small).
pub mod Small
