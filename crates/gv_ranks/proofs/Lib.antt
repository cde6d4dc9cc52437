mod Extremes
mod Stable
mod Total
