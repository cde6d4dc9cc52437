mod Empty
mod Unasked
mod Wrapped
