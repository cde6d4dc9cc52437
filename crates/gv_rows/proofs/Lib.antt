pub mod CallerLemmas
pub mod Numbers
