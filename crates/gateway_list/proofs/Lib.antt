mod Opened
mod Recorded
mod Written
