mod Entries
mod Indexing
mod Reading
mod Finding
mod Digested
