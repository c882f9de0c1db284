mod LinksLemmas
mod RunsLemmas
