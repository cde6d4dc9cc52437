mod Apart
mod Entries
mod Growing
mod Lists
mod Prices
mod Put
