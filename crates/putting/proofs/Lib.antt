pub mod Arms
pub mod Landing
pub mod Lent
pub mod Singles
pub mod Turns
pub mod Laid
