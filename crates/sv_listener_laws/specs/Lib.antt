pub mod BothEnds
pub mod InStep
