mod Rows
mod Runs
mod Numbers
