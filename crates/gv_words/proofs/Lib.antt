mod Kept
mod Numbers
