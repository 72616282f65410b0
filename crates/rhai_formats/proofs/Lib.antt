pub mod WalkLengths
