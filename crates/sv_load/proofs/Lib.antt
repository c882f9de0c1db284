pub mod SizesLemmas
mod Listings
mod Loads
