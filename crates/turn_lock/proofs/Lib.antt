mod Totals
mod Prefixes
mod Numbers
mod Stages
mod Keeps
mod Opening
mod Told
