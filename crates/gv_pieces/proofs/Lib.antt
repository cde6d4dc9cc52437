mod Agree
mod Words
mod Forms
mod Table
