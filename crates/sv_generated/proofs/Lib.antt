mod Going
mod Asking
mod Resting
mod Counting
