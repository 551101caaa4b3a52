mod Names
mod Counting
mod Joining
mod Taking
