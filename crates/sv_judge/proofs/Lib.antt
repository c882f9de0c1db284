pub mod Headers
pub mod FoundLines
mod RisingNames
