-- What is proved of the loop, whatever the recipe.
pub mod Duplication
pub mod Counts
