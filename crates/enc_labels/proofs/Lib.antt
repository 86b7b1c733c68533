mod Finding
mod Rows
