pub mod Sizes
pub mod Listing
pub mod Loading
