pub mod CrowdFolds
pub mod DraftsOnce
pub mod Folds
pub mod Keeping
pub mod Lookups
pub mod NamesOnce
pub mod OneName
pub mod Repeats
pub mod Tells
pub mod Unset
pub mod Accepted
pub mod Crowded
pub mod EachOnce
pub mod FewEnough
mod SortingLemmas
