mod Gathered
mod Judged
