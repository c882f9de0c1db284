pub mod IdleCut
