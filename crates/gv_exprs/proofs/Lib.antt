pub mod Element
pub mod Lists
pub mod ResultsOperators
pub mod ResultsPaths
pub mod ResultsStrings
