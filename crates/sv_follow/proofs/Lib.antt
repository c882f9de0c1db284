mod CommandLemmas
mod LawLemmas
mod Resting
mod TailLemmas
mod Watching
