mod Counts
mod Joined
mod Steps
