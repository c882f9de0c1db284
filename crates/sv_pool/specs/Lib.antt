pub mod Account
pub mod PoolLists
pub mod Covering
pub mod EventPools
pub mod Offers
pub mod Listeners
pub mod StandsFor
