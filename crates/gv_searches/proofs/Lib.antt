mod Heaps
mod Texts
mod Told
